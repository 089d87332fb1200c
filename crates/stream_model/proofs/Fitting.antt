-- What is not refused, and what breaks no rule, fits the marks before it.
use Rattle.std.proofs.Common.{◌≡◌, ◌≤◌, ◌<◌, ◌+◌, ◌-◌, ◌^◌, ◌%◌, ◌==◌, ◌&&◌, ◌⊎◌, inl, inr, not, ℕ, Bool, true, false, cond, max, List, [], ◌∷◌, ◌++◌, Option, Some, None, IsSome, is_some, ltb, refl, ap, subst, sym, ◌∙◌, arith}
use Rattle.std.proofs.lemmas.Bool.Decides.{nat_tests}
use Rattle.std.specs.Option.{option_or}
use Rattle.std.proofs.lemmas.Bool.{and_parts}
use Rattle.rs_wire.specs.declared.words.Kind.{Kind}
use Rattle.rs_wire.specs.declared.words.Kind.TheVariants.{Response, Fnf, Stream, Channel}
use Rattle.rs_wire.specs.declared.words.Role.{Role}
use Rattle.rs_wire.specs.declared.words.Role.TheVariants.{Requester, Responder}
use Rattle.rs_wire.specs.declared.words.Side.{Side}
use Rattle.rs_wire.specs.declared.words.Side.TheVariants.{Client, Server}
use Rattle.rs_wire.specs.declared.words.Way.{Way}
use Rattle.rs_wire.specs.declared.words.Way.TheVariants as way
use Rattle.rs_wire.specs.declared.message.Message.{Message}
use Rattle.rs_wire.specs.declared.fault.Refusal.{Refusal}
use Rattle.rs_wire.specs.declared.fault.Refusal.TheVariants as refusal
use Rattle.rs_wire.specs.declared.call.Call.{Call}
use Rattle.rs_wire.specs.declared.call.Call.TheVariants as call
use Rattle.credit.specs.declared.Credit.{Credit}
use Rattle.stream_model.specs.declared.arrival.Arrival.{Arrival}
use Rattle.stream_model.specs.declared.arrival.Arrival.TheVariants as arrival
use Rattle.stream_model.specs.declared.arrival.Effect.{Effect}
use Rattle.stream_model.specs.declared.arrival.Effect.TheVariants as effect
use Rattle.stream_model.specs.declared.stream.Limits.{Limits}
use Rattle.stream_model.specs.declared.stream.Stream.{Stream as Kept}
use Rattle.stream_model.specs.Marks.{Opening, Payload, RequestN, Cancel, Fail, Mark, Opens, Passed, Sent, Got, Pushed}
use Rattle.stream_model.specs.Turns.{Word, carries, needs_credit, is_fnf, inbound, other, over}
use Rattle.stream_model.specs.Streams.{turn, live, highest, higher}
use Rattle.stream_model.specs.Kept.{stream_of, kept}
use Rattle.stream_model.specs.Known.{Known, known, next_id, id_after, highest_at, is_peers_next, is_own_parity, other_side, over_at, credit_at}
use Rattle.stream_model.specs.Refused.{credit_refused, outbound_credit, by_state, by_credit, by_ids, by_live, refused_by}
use Rattle.stream_model.specs.Arriving.{ours, theirs, no_message, said, heard, or_zero, over_credit, over_credit_on, asked_effect, used_unless, message_effect, passed_effect, effect_by}
use Rattle.stream_model.specs.Fair.{Fair, Fits, FairWords}
use Rattle.stream_model.proofs.Words.{used_within}
use Rattle.stream_model.proofs.Streams.{fair_words}
use Rattle.stream_model.proofs.Keeping.{live_turn}
use Rattle.stream_model.proofs.Steps.{Credited, credit_is, nothing_taken, sent_fits, got_fits}
use Rattle.stream_model.proofs.Places.{live_within}

-- ---- ids

larger_by : (b : Bool) (p q h : ℕ) → (b ≡ true → max q h ≡ q) → (b ≡ false → max q h ≡ h) → q % 2 ≡ p → (h ≡ 0) ⊎ (h % 2 ≡ p) → (max q h ≡ 0) ⊎ (max q h % 2 ≡ p)
larger_by true p q h f k e o = inr (ap (λ n. n % 2) (f refl) ∙ e)
larger_by false p q h f k e (inl z) = inl (k refl ∙ z)
larger_by false p q h f k e (inr z) = inr (ap (λ n. n % 2) (k refl) ∙ z)

larger : (p q h : ℕ) → q % 2 ≡ p → (h ≡ 0) ⊎ (h % 2 ≡ p) → (max q h ≡ 0) ⊎ (max q h % 2 ≡ p)
larger p q h e o = larger_by (ltb h q) p q h (λ is. let lt : h < q = grind (arith, nat_tests) in omega arith) (λ is. let le : q ≤ h = grind (arith, nat_tests) in omega arith) e o

raised : (p q h : ℕ) → (h ≡ 0) ⊎ (h % 2 ≡ p) → (higher p q h ≡ 0) ⊎ (higher p q h % 2 ≡ p)
raised p q h o =
    elim (q % 2 == p) as (λ v. (q % 2 == p) ≡ v → (cond v (max q h) h ≡ 0) ⊎ (cond v (max q h) h % 2 ≡ p)) [
      | true ↦ λ is. let e : q % 2 ≡ p = grind (arith, nat_tests) in larger p q h e o
      | false ↦ λ is. o
    ] refl

-- the highest id of a parity has it
pub parity_or_zero : (p : ℕ) (seen : List Mark) → (highest p seen ≡ 0) ⊎ (highest p seen % 2 ≡ p)
unfolding highest
parity_or_zero p [] = inl refl
parity_or_zero p (Opens s o ∷ seen) = raised p s (highest p seen) (parity_or_zero p seen)
parity_or_zero p (Passed s ∷ seen) = raised p s (highest p seen) (parity_or_zero p seen)
parity_or_zero p (m ∷ seen) = parity_or_zero p seen

next_parity : (p h : ℕ) → (h == 0) ≡ false → (h ≡ 0) ⊎ (h % 2 ≡ p) → (h + 2) % 2 ≡ p
next_parity p h z (inl e) = absurd (let f : (h == 0) ≡ true = grind (arith, nat_tests) in cc)
next_parity p h z (inr e) = omega arith

-- the id after the highest of a parity is above all of its own
after_fresh : (first p : ℕ) (seen : List Mark) → 0 < first → first % 2 ≡ p → (highest p seen ≡ 0) ⊎ (highest p seen % 2 ≡ p) → highest (id_after first (highest p seen) % 2) seen < id_after first (highest p seen)
after_fresh first p seen above is o =
    elim (highest p seen == 0) as (λ v. (highest p seen == 0) ≡ v → highest (cond v first (highest p seen + 2) % 2) seen < cond v first (highest p seen + 2)) [
      | true ↦ λ z. let zero : highest p seen ≡ 0 = grind (arith, nat_tests) in subst (λ k. highest k seen < first) (sym is) (omega arith)
      | false ↦ λ z. let same : (highest p seen + 2) % 2 ≡ p = next_parity p (highest p seen) z o in subst (λ k. highest k seen < highest p seen + 2) (sym same) (omega arith)
    ] refl

pub own_fresh : (most : ℕ) (seen : List Mark) (side : Side) (s : ℕ) → s ≡ next_id side (known most seen) → highest (s % 2) seen < s
unfolding known
own_fresh most seen Client s is = subst (λ k. highest (k % 2) seen < k) (sym is) (after_fresh 1 1 seen (omega arith) refl (parity_or_zero 1 seen))
own_fresh most seen Server s is = subst (λ k. highest (k % 2) seen < k) (sym is) (after_fresh 2 0 seen (omega arith) refl (parity_or_zero 0 seen))

pub highest_is : (most : ℕ) (seen : List Mark) (s : ℕ) → highest_at (known most seen) s ≡ highest (s % 2) seen
unfolding known
highest_is most seen s =
    elim (s % 2 == 1) as (λ b. (s % 2 == 1) ≡ b → cond b (highest 1 seen) (highest 0 seen) ≡ highest (s % 2) seen) [
      | true ↦ λ is. let p : s % 2 ≡ 1 = grind (arith, nat_tests) in ap (λ n. highest n seen) (sym p)
      | false ↦ λ is. let p : s % 2 ≡ 0 = grind (arith, nat_tests) in ap (λ n. highest n seen) (sym p)
    ] refl

pub peer_fresh : (most : ℕ) (seen : List Mark) (s : ℕ) → highest_at (known most seen) s < s → highest (s % 2) seen < s
peer_fresh most seen s lt = subst (λ n. n < s) (highest_is most seen s) lt

-- ---- requests

place_left : (fnf : Bool) (n most : ℕ) (r : Refusal) → cond (not fnf && (n == most)) (Some r) None ≡ None → n ≤ most → fnf ≡ false → n < most
place_left true n most r none le is = absurd (cc)
place_left false n most r none le is =
    elim (n == most) as (λ v. (n == most) ≡ v → cond v (Some r) None ≡ None → n < most) [
      | true ↦ λ same none. absurd (cc)
      | false ↦ λ apart none. grind (arith, nat_tests)
    ] refl none

pub finds_place : (most : ℕ) (seen : List Mark) (l : Limits) (kind : Kind) (initial : Option ℕ) (m : Message) (complete : Bool) → Fair most seen → l.max_streams ≡ most
    → by_live l (known most seen) (call.Request kind initial m complete) ≡ None → is_fnf kind ≡ false → live most seen < most
unfolding known
finds_place most seen l kind initial m complete h same none is =
    subst (λ n. live most seen < n) same (place_left (is_fnf kind) (live most seen) l.max_streams (refusal.TooManyStreams l.max_streams) none (rw same (live_within most seen h)) is)

-- a request of this end's that is not refused
pub request_fits : (most : ℕ) (seen : List Mark) (l : Limits) (s : ℕ) (kind : Kind) (initial : Option ℕ) (m : Message) (complete : Bool) → Fair most seen → l.max_streams ≡ most → or_zero initial < 2 ^ 31
    → s ≡ next_id l.side (known most seen) → by_live l (known most seen) (call.Request kind initial m complete) ≡ None → Fits most seen (Opens s (ours kind initial m complete))
request_fits most seen l s kind initial m complete h same n is none = record { fresh = own_fresh most seen l.side s is; initial = n; place = (refl, finds_place most seen l kind initial m complete h same none) }

-- one of the peer's, on an id above the highest
pub asked_fits : (most : ℕ) (seen : List Mark) (s : ℕ) (kind : Kind) (initial : Option ℕ) (whole : Option (Message × Bool)) → or_zero initial < 2 ^ 31 → highest_at (known most seen) s < s
    → Fits most seen (Opens s (theirs kind initial whole))
asked_fits most seen s kind initial whole n lt = record { fresh = peer_fresh most seen s lt; initial = n; place = tt }

-- ---- credit

-- no more of a way was used than granted, where credit counts its items
abbrev pub Within : Kept → Way → Type 0
Within f w = needs_credit f.kind ≡ true → (credit_at f w).used ≤ (credit_at f w).granted

within_words : (o : Opening) (xs : List Word) (w : Way) → FairWords o xs → Within (stream_of o xs) w
unfolding stream_of
within_words o xs w h needs = let le = used_within o xs w needs h in subst (λ c. c.used ≤ c.granted) (sym (credit_is o xs w needs)) le

pub within_kept : (most : ℕ) (seen : List Mark) (s : ℕ) (f : Kept) (w : Way) → Fair most seen → kept (turn most seen s) ≡ Some f → Within f w
within_kept most seen s f w h is =
    let l = live_turn (turn most seen s) f is in
    subst (λ f. Within f w) l.3 (within_words l.0.opening l.0.words w (fair_words most seen s l.0 h l.1))

-- ---- items

some_carried : (over some : Bool) (m : Message) → IsSome (cond over None (cond some (Some m) None)) → (over ≡ false) × (some ≡ true)
some_carried true some m h = absurd (cc)
some_carried false true m h = (refl, refl)
some_carried false false m h = absurd (cc)

-- an end's items go out on one way
carried_by : (kind : Kind) (whole : Bool) (w : Way) (by : Role) (f : Kept) → carries kind whole w by ≡ true → credit_at f w ≡ outbound_credit by f
carried_by kind whole way.Request Requester f h = refl
carried_by kind whole way.Reply Responder f h = refl
carried_by Channel whole way.Request Responder f h = absurd (cc)
carried_by Stream whole way.Request Responder f h = absurd (cc)
carried_by Response whole way.Request Responder f h = absurd (cc)
carried_by Fnf whole way.Request Responder f h = absurd (cc)
carried_by Channel whole way.Reply Requester f h = absurd (cc)
carried_by Stream whole way.Reply Requester f h = absurd (cc)
carried_by Response whole way.Reply Requester f h = absurd (cc)
carried_by Fnf whole way.Reply Requester f h = absurd (cc)

-- and come in on the other
carried_in : (kind : Kind) (whole : Bool) (w : Way) (role : Role) → carries kind whole w (other role) ≡ true → w ≡ inbound role
carried_in kind whole way.Request Responder h = refl
carried_in kind whole way.Reply Requester h = refl
carried_in Channel whole way.Request Requester h = absurd (cc)
carried_in Stream whole way.Request Requester h = absurd (cc)
carried_in Response whole way.Request Requester h = absurd (cc)
carried_in Fnf whole way.Request Requester h = absurd (cc)
carried_in Channel whole way.Reply Responder h = absurd (cc)
carried_in Stream whole way.Reply Responder h = absurd (cc)
carried_in Response whole way.Reply Responder h = absurd (cc)
carried_in Fnf whole way.Reply Responder h = absurd (cc)

some_left : (needs none : Bool) (r : Refusal) → cond (needs && none) (Some r) None ≡ None → needs ≡ true → none ≡ false
some_left true true r h is = absurd (cc)
some_left true false r h is = refl
some_left false none r h is = absurd (cc)

-- an item of this end's that is not refused
pub next_credited : (f : Kept) (m : Message) (complete : Bool) → credit_refused (Some f) ≡ None → Credited f f.role (Payload m complete true)
next_credited f m complete h needs w some =
    let c = some_carried (over_at f w) (carries f.kind f.whole w f.role) m some in
    let credit = outbound_credit f.role f in
    let left : (credit.granted - credit.used == 0) ≡ false = some_left (needs_credit f.kind) (credit.granted - credit.used == 0) (refusal.NoCredit credit.granted) h needs in
    let lt : credit.used < credit.granted = grind (arith, nat_tests) in
    subst (λ (c : Credit). c.used < c.granted) (sym (carried_by f.kind f.whole w f.role f c.1)) lt

none_over : (item over needs none : Bool) (n : ℕ) → cond (item && (not over && (needs && none))) (Some n) None ≡ None → item ≡ true → over ≡ false → needs ≡ true → none ≡ false
none_over true false true true n h i o e = absurd (cc)
none_over true false true false n h i o e = refl
none_over true false false none n h i o e = absurd (cc)
none_over true true needs none n h i o e = absurd (cc)
none_over false over needs none n h i o e = absurd (cc)

-- one of the peer's that finds credit
pub whole_credited : (f : Kept) (m : Message) (complete next : Bool) → over_credit f next ≡ None → Credited f (other f.role) (Payload m complete next)
whole_credited f m complete next h needs w some =
    let c = some_carried (over_at f w) (next && carries f.kind f.whole w (other f.role)) m some in
    let e : w ≡ inbound f.role = carried_in f.kind f.whole w f.role (and_parts next (carries f.kind f.whole w (other f.role)) c.1).1 in
    let credit = credit_at f (inbound f.role) in
    let over : over_at f (inbound f.role) ≡ false = subst (λ w. over_at f w ≡ false) e c.0 in
    let item : (next && carries f.kind f.whole (inbound f.role) (other f.role)) ≡ true = subst (λ w. (next && carries f.kind f.whole w (other f.role)) ≡ true) e c.1 in
    let left : (credit.granted - credit.used == 0) ≡ false = none_over (next && carries f.kind f.whole (inbound f.role) (other f.role)) (over_at f (inbound f.role)) (needs_credit f.kind) (credit.granted - credit.used == 0) credit.granted h item over needs in
    let lt : credit.used < credit.granted = grind (arith, nat_tests) in
    subst (λ w. (credit_at f w).used < (credit_at f w).granted) (sym e) lt

-- a step without an item
pub done_credited : (f : Kept) (by : Role) (m : Message) (complete : Bool) → Credited f by (Payload m complete false)
done_credited f by m complete needs w some = absurd (nothing_taken (over_at f w) some)

pub grant_credited : (f : Kept) (by : Role) (n : ℕ) → Credited f by (RequestN n)
grant_credited f by n needs w some = absurd (nothing_taken (over_at f w) some)

pub cancel_credited : (f : Kept) (by : Role) → Credited f by Cancel
cancel_credited f by needs w some = absurd (nothing_taken (over_at f w) some)

pub fail_credited : (f : Kept) (by : Role) (code : ℕ) (content : List ℕ) → Credited f by (Fail code content)
fail_credited f by code content needs w some = absurd (nothing_taken (over_at f w) some)

pub next_fits : (most : ℕ) (seen : List Mark) (s : ℕ) (m : Message) (complete : Bool) → credit_refused (kept (turn most seen s)) ≡ None → Fits most seen (Sent s (Payload m complete true))
next_fits most seen s m complete h = sent_fits most seen s (Payload m complete true) tt (λ f is. next_credited f m complete (subst (λ k. credit_refused k ≡ None) is h))

pub whole_fits : (most : ℕ) (seen : List Mark) (s : ℕ) (m : Message) (complete next : Bool) → over_credit_on (kept (turn most seen s)) next ≡ None → Fits most seen (Got s (Payload m complete next))
whole_fits most seen s m complete next h = got_fits most seen s (Payload m complete next) tt (λ f is. whole_credited f m complete next (subst (λ k. over_credit_on k next ≡ None) is h))

-- ---- calls and arrivals

-- the amounts in a call have 31 bits
abbrev pub HasAmounts : Call → Type 0
HasAmounts (call.Request kind initial m complete) = or_zero initial < 2 ^ 31
HasAmounts (call.Grant s n) = n < 2 ^ 31
HasAmounts c = Unit {0}

first_none : {A : Type 0} (a b : Option A) → option_or a b ≡ None → (a ≡ None) × (b ≡ None)
first_none None b h = (refl, h)
first_none (Some x) b h = absurd (cc)

fair_and : (most : ℕ) (seen : List Mark) (m : Mark) → Fair most seen → Fits most seen m → Fair most (m ∷ seen)
unfolding Fair
fair_and most seen m h f = (h, f)

not_credit : (l : Limits) (t : Known) (c : Call) → refused_by l t c ≡ None → (by_credit t c ≡ None) × (by_live l t c ≡ None)
not_credit l t c h =
    let after_state = (first_none (by_state t c) (option_or (by_credit t c) (option_or (by_ids l t c) (by_live l t c))) h).1 in
    let after_credit = first_none (by_credit t c) (option_or (by_ids l t c) (by_live l t c)) after_state in
    (after_credit.0, (first_none (by_ids l t c) (by_live l t c) after_credit.1).1)

-- what a call says that is not refused
pub said_fair : (most : ℕ) (seen : List Mark) (l : Limits) (c : Call) → Fair most seen → l.max_streams ≡ most → HasAmounts c → refused_by l (known most seen) c ≡ None → Fair most (said (next_id l.side (known most seen)) c ++ seen)
unfolding known
said_fair most seen l (call.Request kind initial m complete) h same n none =
    let s = next_id l.side (known most seen) in
    fair_and most seen (Opens s (ours kind initial m complete)) h (request_fits most seen l s kind initial m complete h same n refl (not_credit l (known most seen) (call.Request kind initial m complete) none).1)
said_fair most seen l (call.Next s m complete) h same n none = fair_and most seen (Sent s (Payload m complete true)) h (next_fits most seen s m complete (not_credit l (known most seen) (call.Next s m complete) none).0)
said_fair most seen l (call.Done s) h same n none = fair_and most seen (Sent s (Payload no_message true false)) h (sent_fits most seen s (Payload no_message true false) tt (λ f is. done_credited f f.role no_message true))
said_fair most seen l (call.Grant s k) h same n none = fair_and most seen (Sent s (RequestN k)) h (sent_fits most seen s (RequestN k) n (λ f is. grant_credited f f.role k))
said_fair most seen l (call.Cancel s) h same n none = fair_and most seen (Sent s Cancel) h (sent_fits most seen s Cancel tt (λ f is. cancel_credited f f.role))
said_fair most seen l (call.Fail s code content) h same n none = fair_and most seen (Sent s (Fail code content)) h (sent_fits most seen s (Fail code content) tt (λ f is. fail_credited f f.role code content))
said_fair most seen l c h same n none = h

abbrev pub ArrivalHasAmounts : Arrival → Type 0
ArrivalHasAmounts (arrival.Asked s kind initial whole) = or_zero initial < 2 ^ 31
ArrivalHasAmounts (arrival.Granted s n) = n < 2 ^ 31
ArrivalHasAmounts a = Unit {0}

-- an effect that is counted
abbrev pub IsCounted : Effect → Type 0
IsCounted (effect.Broken rule) = ⊥
IsCounted e = Unit {0}

next_counted : (is_next room fnf whole : Bool) (s : ℕ) → IsCounted (asked_effect is_next room fnf whole s) → is_next ≡ true
next_counted true room fnf whole s h = refl
next_counted false room fnf whole s h = absurd (h)

passed_counted : (is_next : Bool) (s : ℕ) → IsCounted (passed_effect is_next s) → is_next ≡ true
passed_counted true s h = refl
passed_counted false s h = absurd (h)

used_counted : (o : Option ℕ) → IsCounted (used_unless o) → o ≡ None
used_counted None h = refl
used_counted (Some n) h = absurd (h)

message_counted : (k : Option Kept) (next : Bool) → IsCounted (message_effect k next) → over_credit_on k next ≡ None
message_counted None next h = refl
message_counted (Some f) next h = used_counted (over_credit f next) h

peers_above : (t : Known) (side : Side) (s : ℕ) → is_peers_next side t s ≡ true → highest_at t s < s
peers_above t side s is = let above : ltb (highest_at t s) s ≡ true = (and_parts (is_own_parity (other_side side) s) (ltb (highest_at t s) s) is).1 in grind (arith, nat_tests)

-- what the peer says and breaks no rule by
pub heard_fair : (most : ℕ) (seen : List Mark) (l : Limits) (a : Arrival) → Fair most seen → ArrivalHasAmounts a → IsCounted (effect_by l (known most seen) a) → Fair most (heard a ∷ seen)
unfolding known
heard_fair most seen l (arrival.Asked s kind initial whole) h n counted =
    fair_and most seen (Opens s (theirs kind initial whole)) h
    (asked_fits most seen s kind initial whole n (peers_above (known most seen) l.side s (next_counted (is_peers_next l.side (known most seen) s) (ltb (live most seen) l.max_streams) (is_fnf kind) (is_some whole) s counted)))
heard_fair most seen l (arrival.Whole s m complete next) h n counted = fair_and most seen (Got s (Payload m complete next)) h (whole_fits most seen s m complete next (message_counted (kept (turn most seen s)) next counted))
heard_fair most seen l (arrival.Granted s k) h n counted = fair_and most seen (Got s (RequestN k)) h (got_fits most seen s (RequestN k) n (λ f is. grant_credited f (other f.role) k))
heard_fair most seen l (arrival.Canceled s) h n counted = fair_and most seen (Got s Cancel) h (got_fits most seen s Cancel tt (λ f is. cancel_credited f (other f.role)))
heard_fair most seen l (arrival.Failed s code content) h n counted = fair_and most seen (Got s (Fail code content)) h (got_fits most seen s (Fail code content) tt (λ f is. fail_credited f (other f.role) code content))
heard_fair most seen l (arrival.PassedOver s) h n counted =
    fair_and most seen (Passed s) h (peer_fresh most seen s (peers_above (known most seen) l.side s (passed_counted (is_peers_next l.side (known most seen) s) s counted)))
heard_fair most seen l (arrival.Pushed metadata) h n counted = fair_and most seen (Pushed metadata) h tt
