-- Why a Take of a job's stream is refused.
use Rattle.std.proofs.Common.{◌≡◌, ◌<◌, ◌==◌, ◌||◌, ◌&&◌, ◌⊎◌, inl, inr, ◌∙◌, ℕ, zero, suc, ltb, Bool, true, false, not, cond, List, [], ◌∷◌, ◌++◌, length, get_or, Option, Some, None, refl, sym, subst, arith}
use Rattle.std.specs.Option.{option_or}
use Rattle.std.specs.List.{AllByRecursion, Contains}
use Rattle.std.proofs.lemmas.List.Elements.{Contains-append_left}
use Rattle.std.proofs.lemmas.Bool.{eqb-true}
use Rattle.std.proofs.lemmas.Bool.Decides.{nat_tests}
use Rattle.std.proofs.lemmas.Grind.{common_steps}
use Rattle.rs_wire.specs.declared.call.Call.TheVariants as call
use Rattle.rs_wire.specs.declared.delivery.Delivery.{Delivery}
use Rattle.rs_wire.specs.declared.delivery.Job.{Job}
use Rattle.rs_wire.specs.declared.delivery.Job.TheVariants as job
use Rattle.rs_wire.specs.declared.fault.Cause.{Cause}
use Rattle.rs_wire.specs.declared.fault.Refusal.{Refusal}
use Rattle.rs_wire.specs.declared.fault.Refusal.TheVariants as refusal
use Rattle.rs_wire.specs.declared.message.Message.{Message}
use Rattle.rs_wire.specs.declared.settings.Settings.{Settings}
use Rattle.rs_wire.specs.declared.words.Kind.{Kind}
use Rattle.rs_wire.specs.declared.words.Role.TheVariants.{Responder}
use Rattle.rs_wire.specs.declared.words.Way.TheVariants as way
use Rattle.tape.specs.declared.answer.Answer.TheVariants as answer
use Rattle.tape.specs.declared.event.Event.TheVariants as event
use Rattle.tape.specs.declared.entry.Entry.{Entry}
use Rattle.stream_model.specs.declared.stream.Stream.{Stream}
use Rattle.stream_model.specs.Fair.{Fair as FairMarks, Fits}
use Rattle.stream_model.specs.Kept.{kept, stream_of}
use Rattle.stream_model.specs.Known.{front_of, highest_at, is_above, known as known_after}
use Rattle.stream_model.specs.Marks.{Opening, Step, Payload, RequestN, Cancel, Fail, Mark, Opens, Passed, Sent, Got, Pushed, Took, TookJob}
use Rattle.stream_model.specs.Refused.{on_kept, take_refused, where_nothing_waits}
use Rattle.stream_model.specs.Streams.{brings_job, has_room, is_admitted, job_of, jobs, jobs_waiting, late_job, live, on, opening_job, turn, turn_after}
use Rattle.stream_model.specs.Turns.{Said, Taken, Turn, is_fnf, is_role, is_whole, over, other}
use Rattle.stream_model.proofs.Fitting.{peer_fresh}
use Rattle.stream_model.proofs.Ids.{fresh, no_zero, turn_got, turn_opened}
use Rattle.session_model.specs.Answers.{answer_to, by_size, closed_refusal, facts, got, if_none_waits, refused_call, refused_or}
use Rattle.session_model.specs.Life.{closed}
use Rattle.session_model.specs.Streams.{known, words}
use Rattle.session_model.proofs.Fairness.{legal_fair}
use Rattle.session_laws.specs.Jobs.{jobs_got}
use Rattle.session_laws.specs.Streams.{IsLawful, stream}
use Rattle.session_laws.proofs.HandedOut.{handed_out_first}

-- ---- the stream of a job

-- a stream of that kind is there
abbrev HasKind : Option Turn → Kind → Type 0
HasKind t kind = (u : Turn) × (t ≡ Some u) × (u.opening.kind ≡ kind)

-- a request that is asked has its stream
abbrev HasStream : ℕ → List Mark → Job → Type 0
HasStream most seen (job.Asked s kind initial message complete) = HasKind (turn most seen s) kind
HasStream most seen (job.Pushed metadata) = Unit {0}

-- a mark on a stream leaves it its request
kind_stays : (most : ℕ) (seen : List Mark) (m : Mark) (s : ℕ) (kind : Kind) (room : Bool) → Fits most seen m → on s m ≡ true → HasKind (turn most seen s) kind → HasKind (turn_after room m (turn most seen s)) kind
kind_stays most seen (Opens q o) s kind room fits is there =
    let same : q ≡ s = eqb-true q s is in
    let none : turn most seen s ≡ None = subst (λ (i : ℕ). turn most seen i ≡ None) same (fresh most seen q fits.fresh) in
    let some = there.1 in
    absurd (cc)
kind_stays most seen (Passed q) s kind room fits is there = absurd (cc)
kind_stays most seen (Sent q step) s kind room fits is there = (record { opening = there.0.opening; words = Said there.0.opening.role step ∷ there.0.words }, rw there.1 refl, there.2)
kind_stays most seen (Got q step) s kind room fits is there = (record { opening = there.0.opening; words = Said (other there.0.opening.role) step ∷ there.0.words }, rw there.1 refl, there.2)
kind_stays most seen (Pushed metadata) s kind room fits is there = absurd (cc)
kind_stays most seen (Took q d) s kind room fits is there = (record { opening = there.0.opening; words = Taken d ∷ there.0.words }, rw there.1 refl, there.2)
kind_stays most seen TookJob s kind room fits is there = absurd (cc)

stream_stays : (most : ℕ) (seen : List Mark) (m : Mark) (j : Job) → Fits most seen m → HasStream most seen j → HasStream most (m ∷ seen) j
unfolding turn
stream_stays most seen m (job.Pushed metadata) fits there = tt
stream_stays most seen m (job.Asked s kind initial message complete) fits there =
    let room = ltb (live most seen) most in
    elim (on s m) as (λ v. on s m ≡ v → HasKind (cond v (turn_after room m (turn most seen s)) (turn most seen s)) kind) [
      | true ↦ λ is. kind_stays most seen m s kind room fits is there
      | false ↦ λ is. there
    ] refl

-- what a mark brings has its stream
where_true : {X : Type 0} (P : X → Type 0) (b : Bool) (xs : List X) → (b ≡ true → AllByRecursion P xs) → AllByRecursion P (cond b xs [])
where_true P true xs all = all refl
where_true P false xs all = tt

both : (a b : Bool) → (a && b) ≡ true → b ≡ true
both true b is = is
both false b is = absurd (cc)

opening_has : (most : ℕ) (seen : List Mark) (s : ℕ) (o : Opening) (whole : Option (Message × Bool)) → Fits most seen (Opens s o) → is_admitted (has_room most seen) o ≡ true → AllByRecursion (HasStream most (Opens s o ∷ seen)) (opening_job s o whole)
opening_has most seen s o None fits admitted = tt
opening_has most seen s o (Some m) fits admitted = ((record { opening = o; words = [] }, rw (turn_opened most seen s o fits.fresh, admitted) refl, refl), tt)

late_has : (most : ℕ) (seen : List Mark) (s : ℕ) (step : Step) (t : Option Turn) → turn most seen s ≡ t → AllByRecursion (HasStream most (Got s step ∷ seen)) (late_job s step t)
late_has most seen s (Payload message complete next) None is = tt
late_has most seen s (Payload message complete next) (Some t) is =
    let step = Payload message complete next in
    let has : HasStream most (Got s step ∷ seen) (job_of s t.opening message complete) = (record { opening = t.opening; words = Said (other t.opening.role) step ∷ t.words }, rw (turn_got most seen s step, is) refl, refl) in
    where_true (HasStream most (Got s step ∷ seen)) (is_role t.opening.role Responder && not (is_whole t.opening t.words) && not (over t.opening t.words way.Request)) (job_of s t.opening message complete ∷ []) (λ late. (has, tt))
late_has most seen s (RequestN n) t is = tt
late_has most seen s Cancel t is = tt
late_has most seen s (Fail code content) t is = tt

brought_has : (most : ℕ) (seen : List Mark) (m : Mark) → Fits most seen m → AllByRecursion (HasStream most (m ∷ seen)) (brings_job most seen m)
brought_has most seen (Opens s o) fits =
    where_true (HasStream most (Opens s o ∷ seen)) (is_role o.role Responder && is_admitted (has_room most seen) o) (opening_job s o o.whole)
    (λ is. opening_has most seen s o o.whole fits (both (is_role o.role Responder) (is_admitted (has_room most seen) o) is))
brought_has most seen (Got s step) fits = late_has most seen s step (turn most seen s) refl
brought_has most seen (Pushed metadata) fits = (tt, tt)
brought_has most seen m fits = tt

all_both : {X : Type 0} (P Q : X → Type 0) (xs ys : List X) → ((x : X) → P x → Q x) → AllByRecursion P xs → AllByRecursion Q ys → AllByRecursion Q (xs ++ ys)
all_both P Q [] ys f h k = k
all_both P Q (x ∷ xs) ys f h k = (f x h.0, all_both P Q xs ys f h.1 k)

jobs_have : (most : ℕ) (seen : List Mark) → FairMarks most seen → AllByRecursion (HasStream most seen) (jobs most seen)
unfolding FairMarks jobs
jobs_have most [] fair = tt
jobs_have most (m ∷ seen) fair =
    all_both (HasStream most seen) (HasStream most (m ∷ seen)) (jobs most seen) (brings_job most seen m) (λ j has. stream_stays most seen m j fair.1 has) (jobs_have most seen fair.0) (brought_has most seen m fair.1)

of_all : {X : Type 0} (P : X → Type 0) (xs : List X) (k : ℕ) (x : X) → AllByRecursion P xs → k < length xs → get_or xs k x ≡ x → P x
of_all P [] k x all lt is = absurd (omega (arith, lt))
of_all P (y ∷ xs) zero x all lt is = subst P is all.0
of_all P (y ∷ xs) (suc k) x all lt is = of_all P xs k x all.1 (omega (arith, lt)) is

-- a job that was got has its stream
got_has : (g : Settings) (past : List Entry) (j : Job) → IsLawful g past → Contains (jobs_got past) j → HasStream g.max_streams (words g past) j
got_has g past j h got =
    let waits = jobs_waiting g.max_streams (words g past) in
    let among : Contains (jobs g.max_streams (words g past)) j = subst (λ xs. Contains xs j) (handed_out_first g past h) (Contains-append_left (jobs_got past) waits j got) in
    of_all (HasStream g.max_streams (words g past)) (jobs g.max_streams (words g past)) among.0 j (jobs_have g.max_streams (words g past) (legal_fair g past h.legal h.fair)) among.1 among.2

-- ---- what is known of it

above_so : (zero below : Bool) → (zero ≡ true → ⊥) → (below ≡ true → ⊥) → (zero || below) ≡ false
above_so true below not_zero not_below = absurd (not_zero refl)
above_so false true not_zero not_below = absurd (not_below refl)
above_so false false not_zero not_below = refl

not_none : (t : Option Turn) (u : Turn) → t ≡ Some u → t ≡ None → ⊥
not_none t u some none = absurd (cc)

not_above : (most : ℕ) (seen : List Mark) (s : ℕ) (u : Turn) → FairMarks most seen → turn most seen s ≡ Some u → is_above (known_after most seen) s ≡ false
not_above most seen s u fair some =
    above_so (s == 0) (ltb (highest_at (known_after most seen) s) s)
    (λ is. not_none (turn most seen s) u some (subst (λ (i : ℕ). turn most seen i ≡ None) (sym (eqb-true s 0 is)) (no_zero most seen fair)))
    (λ is. not_none (turn most seen s) u some (fresh most seen s (peer_fresh most seen s (grind (arith, nat_tests)))))

kept_kind : (t : Option Turn) (u : Turn) (f : Stream) → t ≡ Some u → kept t ≡ Some f → f.kind ≡ u.opening.kind
unfolding stream_of
kept_kind t u f some is = grind (arith, common_steps)

-- ---- the refusal

-- the tests of a Take, in their order
take_tests : Option Cause → List Delivery → Bool → Option Stream → Option Refusal → Option Refusal
take_tests why waits above k size =
    option_or (if_none_waits waits (closed_refusal why))
    (option_or (where_nothing_waits waits (cond above (Some refusal.UnknownStream) (on_kept k take_refused))) (option_or size None))

AtEnd : Refusal → Type 0
AtEnd why = (why ≡ refusal.Ended) ⊎ ((cause : Cause) × (why ≡ refusal.Closed cause))

kept_at_end : (f : Stream) (why : Refusal) → is_fnf f.kind ≡ false → take_refused f ≡ Some why → why ≡ refusal.Ended
kept_at_end f why takes is = grind (arith, common_steps)

tests_at_end : (closed : Option Cause) (waits : List Delivery) (k : Option Stream) (why : Refusal) → ((f : Stream) → k ≡ Some f → is_fnf f.kind ≡ false) → take_tests closed waits false k None ≡ Some why → AtEnd why
unfolding take_tests AtEnd
tests_at_end closed (d ∷ waits) k why takes is = absurd (cc)
tests_at_end (Some cause) [] k why takes is = inr (cause, cc)
tests_at_end None [] None why takes is = inl (cc)
tests_at_end None [] (Some f) why takes is = inl (kept_at_end f why (takes f refl) (ends (take_refused f) is))
  where
    ends : (o : Option Refusal) → option_or o None ≡ Some why → o ≡ Some why
    ends None same = same
    ends (Some w) same = same

refused_is : (o : Option Refusal) (first : Option Delivery) (why : Refusal) → refused_or o (got first) ≡ answer.Refused why → o ≡ Some why
refused_is (Some w) first why is = cc
refused_is None None why is = absurd (cc)
refused_is None (Some d) why is = absurd (cc)

size_none : (g : Settings) (s : ℕ) → by_size g (call.Take s) ≡ None
size_none g s = grind (arith, common_steps)

pub take_refused_at_end : (g : Settings) (past : List Entry) (s : ℕ) (kind : Kind) (initial : Option ℕ) (message : Message) (complete : Bool) (why : Refusal) → IsLawful g past → is_fnf kind ≡ false
    → Contains (jobs_got past) (job.Asked s kind initial message complete) → answer_to g past (event.Asked (call.Take s)) ≡ answer.Refused why → (why ≡ refusal.Ended) ⊎ ((cause : Cause) × (why ≡ refusal.Closed cause))
unfolding facts refused_call take_tests AtEnd known_after
take_refused_at_end g past s kind initial message complete why h takes got_it is =
    let has = got_has g past (job.Asked s kind initial message complete) h got_it in
    let above = not_above g.max_streams (words g past) s has.0 (legal_fair g past h.legal h.fair) has.1 in
    let waits = (known g past).waits s in
    let k = (known g past).kept s in
    let tests : take_tests (closed g past) waits (is_above (known g past) s) k (by_size g (call.Take s)) ≡ Some why = refused_is _ (front_of waits) why is in
    tests_at_end (closed g past) waits k why
    (λ f there. subst (λ (i : Kind). is_fnf i ≡ false) (sym (kept_kind (stream g past s) has.0 f has.1 there ∙ has.2)) takes)
    (subst (λ b. take_tests (closed g past) waits b k None ≡ Some why) above (subst (λ size. take_tests (closed g past) waits (is_above (known g past) s) k size ≡ Some why) (size_none g s) tests))
