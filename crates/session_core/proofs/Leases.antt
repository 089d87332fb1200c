-- The leases that a session keeps go on to fit its entries.
use Rattle.std.proofs.Common.{◌≡◌, ◌≤◌, ◌<◌, ◌+◌, ◌*◌, ◌^◌, ◌&&◌, ℕ, Bool, true, false, cond, List, [], ◌∷◌, length, Option, Some, None, refl, ap, sym, subst, ◌∙◌, arith}
use Rattle.std.proofs.lemmas.Grind.{common_steps}
use Rattle.std.proofs.lemmas.Bool.Decides.{nat_tests}
use Rattle.std.specs.Option.{option_map}
use Rattle.std.specs.Prelude.{IfSome, nat_lt}
use Rattle.rs_wire.specs.declared.call.Call.TheVariants as call
use Rattle.rs_wire.specs.declared.fault.Refusal.{Refusal}
use Rattle.rs_wire.specs.declared.settings.Settings.{Settings}
use Rattle.rs_frame.specs.declared.frame.Frame.TheVariants as frame
use Rattle.rs_frame.specs.declared.frame.Setup.{Setup}
use Rattle.lease.specs.Lease.{HasLeft, IsWithin, lease_fault}
use Rattle.lease.specs.Sum.{Sum}
use Rattle.lease.specs.declared.requester.Terms.{Terms}
use Rattle.tape.specs.declared.event.Event.{Event}
use Rattle.tape.specs.declared.event.Event.TheVariants as event
use Rattle.tape.specs.declared.answer.Answer.{Answer}
use Rattle.tape.specs.declared.answer.Answer.TheVariants as answer
use Rattle.tape.specs.declared.entry.Entry.{Entry}
use Rattle.stream_model.specs.Known.{next_id}
use Rattle.session_model.specs.Life.{agrees_leases, leases_agreed, setup}
use Rattle.session_model.specs.Moments.{moment}
use Rattle.session_model.specs.Leases.{covered_in, is_covered, last_lease, lease, let_in_sum, lets_in, made_since_lease, sum, terms_of}
use Rattle.session_model.specs.Frames.{in_fragments, request_frame}
use Rattle.session_model.specs.Answers.{Facts, covered_by, facts, lease_refused}
use Rattle.session_model.specs.Legal.{Fair, IsFair}
use Rattle.session_model.specs.Means.{Means}
use Rattle.session_model.proofs.Refusals.{can_send, unrefused}
use Rattle.session_model.proofs.Stepping.{lease_after as modelled, lease_step, sum_step}
use Rattle.session_core.specs.declared.state.State.{State}
use Rattle.session_core.specs.Fits.{facts_of}
use Rattle.session_core.specs.Leasing.{LetsStart, covers_next, lease_after, sum_after, used_once}

-- ---- what is known of the leases goes on

-- whether a request of the peer's is covered is known
pub covers_is : (g : Settings) (s : State) (past : List Entry) → facts_of s ≡ facts g past → covers_next g s ≡ is_covered g past
unfolding facts
covers_is g s past h = ap (λ (t : Facts). covered_by g t) h

same_lease : (agreed : Bool) (now : ℕ) (a : Answer) (e : Event) (before : Option Terms) → lease_after agreed now a e before ≡ modelled agreed now a e before
same_lease agreed now answer.Handled (event.Came conn (frame.Lease ttl count metadata)) before = refl
same_lease agreed now a e before = refl

pub lease_more : (g : Settings) (old new : State) (past : List Entry) (x : Entry) → facts_of old ≡ facts g past
    → new.lease ≡ lease_after (agrees_leases g old.setup) old.timer.moment x.answer x.event old.lease → new.lease ≡ lease g (x ∷ past)
unfolding facts
lease_more g old new past x h is =
    let s : old.setup ≡ setup past = ap (λ (t : Facts). t.setup) h in
    let m : old.timer.moment ≡ moment past = ap (λ (t : Facts). t.times.moment) h in
    let before : old.lease ≡ lease g past = ap (λ (t : Facts). t.lease) h in
    is
    ∙ (ap (λ (o : Option Setup). lease_after (agrees_leases g o) old.timer.moment x.answer x.event old.lease) s
    ∙ (ap (λ n. lease_after (leases_agreed g past) n x.answer x.event old.lease) m
    ∙ (ap (λ (l : Option Terms). lease_after (leases_agreed g past) (moment past) x.answer x.event l) before
    ∙ (same_lease (leases_agreed g past) (moment past) x.answer x.event (lease g past) ∙ sym (lease_step g x past)))))

-- nothing more is nothing more
no_more : (s : Sum) → s ≡ record { granted = s.granted + 0; admitted = s.admitted + 0 }
no_more s =
    let n : s.granted ≡ s.granted + 0 = omega arith in
    let k : s.admitted ≡ s.admitted + 0 = omega arith in
    let is : record { granted = s.granted; admitted = s.admitted } ≡ record { granted = s.granted + 0; admitted = s.admitted + 0 } = cc in
    is

one_covered : (s : Sum) (covered : Bool) → cond covered (record s { admitted = s.admitted + 1 }) s ≡ record { granted = s.granted + 0; admitted = s.admitted + cond covered 1 0 }
one_covered s true =
    let n : s.granted ≡ s.granted + 0 = omega arith in
    ap (λ k. record { granted = k; admitted = s.admitted + 1 }) n
one_covered s false = no_more s

sum_stands : (agreed : Bool) (a : Answer) (e : Event) (s : Sum)
    → sum_after agreed a e s ≡ record { granted = s.granted + lets_in a e; admitted = s.admitted + covered_in (agreed && nat_lt s.admitted s.granted) a e }
sum_stands agreed answer.Done (event.Asked (call.Lease ttl count metadata)) s =
    let k : s.admitted ≡ s.admitted + 0 = omega arith in
    ap (λ n. record { granted = s.granted + count; admitted = n }) k
sum_stands agreed answer.Handled (event.Came conn (frame.Request r)) s = one_covered s (agreed && nat_lt s.admitted s.granted)
sum_stands agreed a e s = no_more s

pub sum_more : (g : Settings) (old new : State) (past : List Entry) (x : Entry) → facts_of old ≡ facts g past
    → new.granted ≡ sum_after (agrees_leases g old.setup) x.answer x.event old.granted → new.granted ≡ sum g (x ∷ past)
unfolding facts
sum_more g old new past x h is =
    let s : old.setup ≡ setup past = ap (λ (t : Facts). t.setup) h in
    let before : old.granted ≡ sum g past = ap (λ (t : Facts). t.sum) h in
    is
    ∙ (ap (λ (o : Option Setup). sum_after (agrees_leases g o) x.answer x.event old.granted) s
    ∙ (ap (λ (n : Sum). sum_after (leases_agreed g past) x.answer x.event n) before
    ∙ (sum_stands (leases_agreed g past) x.answer x.event (sum g past) ∙ sym (sum_step g x past))))

-- ---- what the peer lets this end ask

-- a request that is started uses one
pub started : (old new : Option Terms) → HasLeft old → IfSome old (λ l. new ≡ Some (record { count = l.count; expires = l.expires; used = l.used + 1 })) → new ≡ option_map used_once old
started None new some is = absurd some
started (Some l) new some is = is

-- a request that is made finds one left
has_left : (o : Option Terms) (now : ℕ) → IsWithin o → lease_refused (lease_fault o now) ≡ None → HasLeft o
has_left None now within none = absurd (cc)
has_left (Some l) now within none = grind (arith, common_steps, nat_tests)

passed : (begins agreed : Bool) (why : Option Refusal) → begins ≡ true → agreed ≡ true → cond (begins && agreed) why None ≡ None → why ≡ None
passed true true why b a none = none
passed true false why b a none = absurd (cc)
passed false agreed why b a none = absurd (cc)

pub lets_start : (g : Settings) (s : State) (e : Event) (a : Answer) → IsWithin s.lease → (agrees_leases g s.setup ≡ false → s.lease ≡ None) → Means g (facts_of s) e a
    → LetsStart (agrees_leases g s.setup) a s.lease
lets_start g s (event.Asked (call.Request kind initial message complete)) (answer.Started id) within unleased m =
    let t = facts_of s in
    let u = unrefused g t (call.Request kind initial message complete) m.accepted in
    let f = request_frame (next_id g.side t.streams) kind initial message complete in
    let begun = (can_send g t (in_fragments g.mtu f) u.sending).begun in
    elim (agrees_leases g s.setup) as (λ v. agrees_leases g s.setup ≡ v → LetsStart v (answer.Started id) s.lease) [
      | true ↦ λ is. has_left s.lease s.timer.moment within (passed s.begun (agrees_leases g s.setup) _ begun is u.lease)
      | false ↦ λ is. unleased is
    ] refl
lets_start g s e (answer.Started id) within unleased m = absurd m
lets_start g s e a within unleased m = tt

-- there is no lease where none are agreed
pub no_lease : (g : Settings) (s : State) (past : List Entry) → facts_of s ≡ facts g past → agrees_leases g s.setup ≡ false → s.lease ≡ None
unfolding facts
no_lease g s past h off =
    let z : s.setup ≡ setup past = ap (λ (t : Facts). t.setup) h in
    let l : s.lease ≡ lease g past = ap (λ (t : Facts). t.lease) h in
    let none : leases_agreed g past ≡ false = subst (λ (o : Option Setup). agrees_leases g o ≡ false) z off in
    l ∙ ap (λ b. cond {A = Option Terms} b (option_map (terms_of (made_since_lease past)) (last_lease past)) None) none

-- no more requests are made than a lease allows
pub within_after : (agreed : Bool) (now : ℕ) (a : Answer) (e : Event) (before : Option Terms) → IsWithin before → LetsStart agreed a before → IsWithin (lease_after agreed now a e before)
within_after agreed now (answer.Opened n) e before h lets = tt
within_after agreed now answer.Parted e before h lets = tt
within_after agreed now (answer.Dead last) e before h lets = tt
within_after true now answer.Handled (event.Came conn (frame.Lease ttl count metadata)) before h lets = omega arith
within_after false now answer.Handled (event.Came conn (frame.Lease ttl count metadata)) before h lets = h
within_after agreed now (answer.Started id) e None h lets = tt
within_after true now (answer.Started id) e (Some l) h lets = omega (arith, lets)
within_after false now (answer.Started id) e (Some l) h lets = absurd (cc)
within_after agreed now a e before h lets = h

-- ---- what this end lets its peer ask

lets_small : (g : Settings) (a : Answer) (e : Event) → IsFair g e → lets_in a e ≤ 2147483648
lets_small g answer.Done (event.Asked (call.Lease ttl count metadata)) fair = let small = fair.1.1.1 in omega (arith, small)
lets_small g a e fair = omega arith

let_in_small : (g : Settings) (past : List Entry) → Fair g past → let_in_sum past ≤ 2147483648 * length past
unfolding Fair let_in_sum
let_in_small g [] fair = omega arith
let_in_small g (x ∷ past) fair = omega (arith, let_in_small g past fair.0, lets_small g x.answer x.event fair.1)

-- there is room to let it ask more
pub granted_small : (g : Settings) (s : State) (past : List Entry) → facts_of s ≡ facts g past → Fair g past → length past < 2 ^ 63 → s.granted.granted < 2 ^ 100
unfolding facts
granted_small g s past h fair short =
    let is : s.granted.granted ≡ let_in_sum past = ap (λ (t : Facts). t.sum.granted) h in
    omega (arith, is, let_in_small g past fair, short)
