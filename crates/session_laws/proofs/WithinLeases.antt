-- Requests stay within leases, and the moment never falls.
use Rattle.std.proofs.Common.{◌≡◌, ◌≤◌, ◌<◌, ◌+◌, ◌++◌, ◌&&◌, ℕ, Bool, true, false, cond, List, [], ◌∷◌, Option, Some, None, is_some, refl, subst, arith}
use Rattle.std.proofs.lemmas.Grind.{common_steps}
use Rattle.std.proofs.lemmas.Bool.Decides.{nat_tests}
use Rattle.std.specs.Prelude.{nat_lt}
use Rattle.std.specs.Option.{option_map, option_or}
use Rattle.rs_wire.specs.declared.call.Call.TheVariants as call
use Rattle.rs_wire.specs.declared.fault.Refusal.{Refusal}
use Rattle.rs_wire.specs.declared.message.Message.{Message}
use Rattle.rs_wire.specs.declared.settings.Settings.{Settings}
use Rattle.rs_wire.specs.declared.words.Kind.{Kind}
use Rattle.rs_frame.specs.declared.frame.Frame.TheVariants as frame
use Rattle.rs_frame.specs.declared.frame.Setup.{Setup}
use Rattle.stream_model.specs.Known.{next_id}
use Rattle.lease.specs.Lease.{IsUsable, IsWithin, lease_fault}
use Rattle.lease.specs.declared.requester.Terms.{Terms}
use Rattle.tape.specs.declared.answer.Answer.{Answer}
use Rattle.tape.specs.declared.answer.Answer.TheVariants as answer
use Rattle.tape.specs.declared.entry.Entry.{Entry}
use Rattle.tape.specs.declared.event.Event.{Event}
use Rattle.tape.specs.declared.event.Event.TheVariants as event
use Rattle.session_model.specs.declared.numbers.TheConstants.{LAST_MOMENT}
use Rattle.session_model.specs.Answers.{Facts, answer_to, facts, lease_refused}
use Rattle.session_model.specs.Frames.{in_fragments, request_frame}
use Rattle.session_model.specs.Leases.{Leased, changes_connection, covered, covered_in, last_lease, lease, let_in_sum, lets_in, leases_in, made_since_lease, starts_in, terms_of}
use Rattle.session_model.specs.Lists.{first_of}
use Rattle.session_model.specs.Legal.{Legal}
use Rattle.session_model.specs.Life.{agrees_leases, leases_agreed, setup, setup_in}
use Rattle.session_model.specs.Means.{Means, Starting}
use Rattle.session_model.specs.Moments.{moment, moment_in}
use Rattle.session_model.proofs.Meaning.{last_means, meaning}
use Rattle.session_model.proofs.Refusals.{can_send, unrefused}

-- ---- the moment

pub moment_grows : (more past : List Entry) → moment past ≤ moment (more ++ past)
unfolding moment
moment_grows [] past = omega arith
moment_grows (x ∷ more) past = omega (arith, moment_grows more past)

told_small : (e : Event) → moment_in e ≤ LAST_MOMENT
told_small (event.Tick now) = omega arith
told_small (event.Open first taken) = omega arith
told_small (event.Cut conn) = omega arith
told_small (event.Draw conn room) = omega arith
told_small (event.Came conn f) = omega arith
told_small (event.Bad conn rule) = omega arith
told_small (event.Asked asked) = omega arith

pub moment_within : (past : List Entry) → moment past ≤ LAST_MOMENT
unfolding moment
moment_within [] = omega arith
moment_within (x ∷ past) = omega (arith, moment_within past, told_small x.event)

-- ---- what this end lets the peer ask

one_more : (agreed : Bool) (n m : ℕ) → n ≤ m → cond (agreed && nat_lt n m) 1 0 + n ≤ m
one_more true n m le = elim (nat_lt n m) as (λ v. nat_lt n m ≡ v → cond v 1 0 + n ≤ m) [ true ↦ λ is. let lt : n < m = grind (arith, nat_tests) in omega arith | false ↦ λ is. omega arith ] refl
one_more false n m le = omega arith

step_within : (a : Answer) (e : Event) (agreed : Bool) (n m : ℕ) → n ≤ m → n + covered_in (agreed && nat_lt n m) a e ≤ m + lets_in a e
step_within a e agreed n m le = let one = one_more agreed n m le in grind (arith, common_steps)

pub covered_within : (g : Settings) (past : List Entry) → covered g past ≤ let_in_sum past
unfolding covered let_in_sum
covered_within g [] = omega arith
covered_within g (x ∷ past) = step_within x.answer x.event (leases_agreed g past) (covered g past) (let_in_sum past) (covered_within g past)

-- ---- what the peer lets this end ask

-- no more requests were made than the last LEASE of the live connection allows
abbrev Within : Settings → List Entry → Type 0
Within g past = (l : Leased) → last_lease past ≡ Some l → leases_agreed g past ≡ true → made_since_lease past ≤ l.count

abbrev WithinAfter : Settings → List Entry → Answer → Event → Type 0
WithinAfter g past a e = (l : Leased) → cond {A = Option Leased} (changes_connection a) None (option_or (leases_in (moment past) a e) (last_lease past)) ≡ Some l
    → agrees_leases g (first_of (setup past) (setup_in a e)) ≡ true → cond (is_some (leases_in (moment past) a e)) 0 (made_since_lease past + starts_in a) ≤ l.count

agreed_before : (g : Settings) (o : Option Setup) → agrees_leases g (first_of o None) ≡ true → agrees_leases g o ≡ true
agreed_before g None agreed = agreed
agreed_before g (Some s) agreed = agreed

-- a request that is made finds one left
left : (used : ℕ) (l : Leased) (now : ℕ) → lease_refused (lease_fault (Some (terms_of used l)) now) ≡ None → used ≤ l.count → used < l.count
left used l now none le = grind (arith, common_steps)

passed : (begins agreed : Bool) (why : Option Refusal) → begins ≡ true → agreed ≡ true → cond (begins && agreed) why None ≡ None → why ≡ None
passed true true why b a none = none
passed true false why b a none = absurd (cc)
passed false agreed why b a none = absurd (cc)

lease_passes : (g : Settings) (t : Facts) (kind : Kind) (initial : Option ℕ) (message : Message) (complete : Bool) (id : ℕ) → Starting g t (call.Request kind initial message complete) id → agrees_leases g t.setup ≡ true
    → lease_refused (lease_fault t.lease t.times.moment) ≡ None
lease_passes g t kind initial message complete id starts agreed =
    let u = unrefused g t (call.Request kind initial message complete) starts.accepted in
    let f = request_frame (next_id g.side t.streams) kind initial message complete in
    passed t.begun (agrees_leases g t.setup) _ (can_send g t (in_fragments g.mtu f) u.sending).begun agreed u.lease

lease_is : (g : Settings) (past : List Entry) (l : Leased) → leases_agreed g past ≡ true → last_lease past ≡ Some l → lease g past ≡ Some (terms_of (made_since_lease past) l)
lease_is g past l agreed is = rw (agreed, is) refl

one_left : (g : Settings) (past : List Entry) (kind : Kind) (initial : Option ℕ) (message : Message) (complete : Bool) (id : ℕ) (l : Leased) → Starting g (facts g past) (call.Request kind initial message complete) id → leases_agreed g past ≡ true
    → last_lease past ≡ Some l → made_since_lease past ≤ l.count → made_since_lease past < l.count
unfolding facts
one_left g past kind initial message complete id l starts agreed is le =
    left (made_since_lease past) l (moment past)
    (subst (λ o. lease_refused (lease_fault o (moment past)) ≡ None) (lease_is g past l agreed is) (lease_passes g (facts g past) kind initial message complete id starts agreed)) le

within_step : (g : Settings) (past : List Entry) (a : Answer) (e : Event) → Means g (facts g past) e a → Within g past → WithinAfter g past a e
within_step g past (answer.Opened n) e means h l is agreed = absurd (cc)
within_step g past answer.Parted e means h l is agreed = absurd (cc)
within_step g past (answer.Dead last) e means h l is agreed = absurd (cc)
within_step g past answer.Handled (event.Came conn (frame.Lease ttl count metadata)) means h l is agreed = omega arith
within_step g past (answer.Started id) (event.Asked (call.Request kind initial message complete)) means h l is agreed =
    let before = agreed_before g (setup past) agreed in
    let lt = one_left g past kind initial message complete id l means before is (h l is before) in
    omega (arith, lt)
within_step g past (answer.Started id) e means h l is agreed = absurd means
within_step g past a e means h l is agreed = let le = h l is (agreed_before g (setup past) agreed) in omega (arith, le)

within : (g : Settings) (past : List Entry) → Legal g past → Within g past
unfolding Legal last_lease made_since_lease setup
within g [] legal l is agreed = absurd (cc)
within g (x ∷ past) legal l is agreed = within_step g past x.answer x.event (last_means g x past legal) (within g past legal.0) l is agreed

terms_within : (used : ℕ) (o : Option Leased) → ((l : Leased) → o ≡ Some l → used ≤ l.count) → IsWithin (option_map (terms_of used) o)
terms_within used None h = tt
terms_within used (Some l) h = h l refl

if_agreed_within : (agreed : Bool) (o : Option Terms) → (agreed ≡ true → IsWithin o) → IsWithin (cond agreed o None)
if_agreed_within true o h = h refl
if_agreed_within false o h = tt

lease_within : (g : Settings) (past : List Entry) → Legal g past → IsWithin (lease g past)
lease_within g past legal =
    if_agreed_within (leases_agreed g past) (option_map (terms_of (made_since_lease past)) (last_lease past))
    (λ agreed. terms_within (made_since_lease past) (last_lease past) (λ l is. within g past legal l is agreed))

pub within_count : (g : Settings) (past : List Entry) (l : Terms) → Legal g past → lease g past ≡ Some l → l.used ≤ l.count
within_count g past l legal is = subst IsWithin is (lease_within g past legal)

usable : (o : Option Terms) (now : ℕ) → IsWithin o → lease_refused (lease_fault o now) ≡ None → IsUsable o now
usable None now within none = absurd (cc)
usable (Some l) now within none = grind (arith, common_steps)

pub made_while_usable : (g : Settings) (past : List Entry) (kind : Kind) (initial : Option ℕ) (message : Message) (complete : Bool) (id : ℕ) → Legal g past → leases_agreed g past ≡ true
    → answer_to g past (event.Asked (call.Request kind initial message complete)) ≡ answer.Started id → IsUsable (lease g past) (moment past)
unfolding facts
made_while_usable g past kind initial message complete id legal agreed is =
    let e = event.Asked (call.Request kind initial message complete) in
    usable (lease g past) (moment past) (lease_within g past legal)
    (lease_passes g (facts g past) kind initial message complete id (subst (Means g (facts g past) e) is (meaning g (facts g past) e)) agreed)
