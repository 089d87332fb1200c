-- An item that is let through finds credit.
use Rattle.std.proofs.Common.{◌≡◌, ◌<◌, ◌-◌, ◌&&◌, ◌==◌, ℕ, Bool, true, false, not, cond, Some, None, IsSome, refl, subst, sym, arith}
use Rattle.std.proofs.lemmas.Bool.Decides.{nat_tests}
use Rattle.rs_wire.specs.declared.words.Kind.{Kind}
use Rattle.rs_wire.specs.declared.words.Kind.TheVariants.{Response, Fnf, Stream, Channel}
use Rattle.rs_wire.specs.declared.words.Way.{Way}
use Rattle.rs_wire.specs.declared.words.Way.TheVariants as way
use Rattle.rs_wire.specs.declared.words.Role.{Role}
use Rattle.rs_wire.specs.declared.words.Role.TheVariants.{Requester, Responder}
use Rattle.rs_wire.specs.declared.fault.Refusal.TheVariants as refusal
use Rattle.credit.specs.declared.Credit.{Credit}
use Rattle.stream_model.specs.declared.stream.Stream.{Stream as Kept}
use Rattle.stream_model.specs.Turns.{carries, needs_credit, inbound, other}
use Rattle.stream_model.specs.Known.{over_at, credit_at}
use Rattle.stream_model.specs.Refused.{outbound_credit, credit_refused}
use Rattle.stream_model.specs.Arriving.{over_credit}
use Rattle.rs_wire.specs.declared.message.Message.{Message}
use Rattle.stream_model.specs.Marks.{Payload}
use Rattle.stream_model.proofs.Steps.{Credited}
use Rattle.interactions.specs.Credited.{is_counted, HasCredit}

-- what is no item needs no credit
not_counted : (over needs : Bool) → (not over && (needs && false)) ≡ true → ⊥
not_counted true needs h = cc
not_counted false true h = cc
not_counted false false h = cc

pub no_item : (f : Kept) (by : Role) → HasCredit f by false
no_item f by w is = absurd (not_counted (over_at f w) (needs_credit f.kind) is)

left_over : (granted used : ℕ) → (granted - used == 0) ≡ false → used < granted
left_over granted used h = grind (arith, nat_tests)

carried_out : (kind : Kind) (whole : Bool) (w : Way) (by : Role) (f : Kept) → carries kind whole w by ≡ true → credit_at f w ≡ outbound_credit by f
carried_out kind whole way.Request Requester f h = refl
carried_out kind whole way.Reply Responder f h = refl
carried_out Channel whole way.Request Responder f h = absurd (cc)
carried_out Stream whole way.Request Responder f h = absurd (cc)
carried_out Response whole way.Request Responder f h = absurd (cc)
carried_out Fnf whole way.Request Responder f h = absurd (cc)
carried_out Channel whole way.Reply Requester f h = absurd (cc)
carried_out Stream whole way.Reply Requester f h = absurd (cc)
carried_out Response whole way.Reply Requester f h = absurd (cc)
carried_out Fnf whole way.Reply Requester f h = absurd (cc)

both : (over needs next carried : Bool) → (not over && (needs && (next && carried))) ≡ true → (over ≡ false) × (needs ≡ true) × (next ≡ true) × (carried ≡ true)
both over needs next carried h = grind arith

unrefused : (needs spent : Bool) (n : ℕ) → cond (needs && spent) (Some (refusal.NoCredit n)) None ≡ None → needs ≡ true → spent ≡ false
unrefused true true n h is = absurd (cc)
unrefused true false n h is = refl
unrefused false spent n h is = absurd (cc)

-- an item of this end that is not refused
pub own_credit : (f : Kept) → credit_refused (Some f) ≡ None → HasCredit f f.role true
own_credit f h w is =
    let b = both (over_at f w) (needs_credit f.kind) true (carries f.kind f.whole w f.role) is in
    let out : credit_at f w ≡ outbound_credit f.role f = carried_out f.kind f.whole w f.role f b.3 in
    let c = outbound_credit f.role f in
    subst (λ (c : Credit). c.used < c.granted) (sym out) (left_over c.granted c.used (unrefused (needs_credit f.kind) (c.granted - c.used == 0) c.granted h b.1))

unbroken : (next carried over needs spent : Bool) (n : ℕ) → cond ((next && carried) && (not over && (needs && spent))) (Some n) None ≡ None → (not over && (needs && (next && carried))) ≡ true → spent ≡ false
unbroken next carried over needs spent n h is = grind arith

carried_in : (kind : Kind) (whole : Bool) (w : Way) (role : Role) → carries kind whole w (other role) ≡ true → w ≡ inbound role
carried_in kind whole way.Request Responder h = refl
carried_in kind whole way.Reply Requester h = refl
carried_in Channel whole way.Request Requester h = absurd (cc)
carried_in Stream whole way.Request Requester h = absurd (cc)
carried_in Response whole way.Request Requester h = absurd (cc)
carried_in Fnf whole way.Request Requester h = absurd (cc)
carried_in Channel whole way.Reply Responder h = absurd (cc)
carried_in Stream whole way.Reply Responder h = absurd (cc)
carried_in Response whole way.Reply Responder h = absurd (cc)
carried_in Fnf whole way.Reply Responder h = absurd (cc)

-- an item of the peer's that breaks no rule
pub peer_credit : (f : Kept) (next : Bool) → over_credit f next ≡ None → HasCredit f (other f.role) next
peer_credit f next h w is =
    let b = both (over_at f w) (needs_credit f.kind) next (carries f.kind f.whole w (other f.role)) is in
    let in_way : w ≡ inbound f.role = carried_in f.kind f.whole w f.role b.3 in
    let at : is_counted f (other f.role) next (inbound f.role) ≡ true = subst (λ w. is_counted f (other f.role) next w ≡ true) in_way is in
    let c = credit_at f (inbound f.role) in
    subst (λ w. (credit_at f w).used < (credit_at f w).granted) (sym in_way)
    (left_over c.granted c.used (unbroken next (carries f.kind f.whole (inbound f.role) (other f.role)) (over_at f (inbound f.role)) (needs_credit f.kind) (c.granted - c.used == 0) c.granted h at))

some_item : (over carried : Bool) (m : Message) → IsSome (cond over None (cond carried (Some m) None)) → (over ≡ false) × (carried ≡ true)
some_item true carried m h = absurd (cc)
some_item false true m h = (refl, refl)
some_item false false m h = absurd (cc)

all_four : (over needs item : Bool) → over ≡ false → needs ≡ true → item ≡ true → (not over && (needs && item)) ≡ true
all_four over needs item o n i = rw (o, n, i) refl

-- and finds it by what the definitions say of one
pub credited : (f : Kept) (by : Role) (m : Message) (complete next : Bool) → HasCredit f by next → Credited f by (Payload m complete next)
credited f by m complete next h needs w some =
    let s = some_item (over_at f w) (next && carries f.kind f.whole w by) m some in
    h w (all_four (over_at f w) (needs_credit f.kind) (next && carries f.kind f.whole w by) s.0 needs s.1)
