-- Once the session is closed no job comes any more.
use Rattle.std.proofs.Common.{◌≡◌, ◌≤◌, ◌∙◌, ℕ, Bool, List, [], ◌∷◌, ◌++◌, length, drop, Option, Some, None, refl, ap, append-nil, arith}
use Rattle.std.proofs.lemmas.List.{drop_all, length-drop}
use Rattle.rs_wire.specs.declared.fault.Cause.{Cause}
use Rattle.rs_wire.specs.declared.delivery.Job.{Job}
use Rattle.rs_wire.specs.declared.settings.Settings.{Settings}
use Rattle.rs_wire.specs.declared.call.Call.{Call}
use Rattle.rs_wire.specs.declared.call.Call.TheVariants as call
use Rattle.fragment.specs.Joining.{Gathered}
use Rattle.tape.specs.declared.answer.Answer.{Answer}
use Rattle.tape.specs.declared.answer.Answer.TheVariants as answer
use Rattle.tape.specs.declared.event.Event.{Event}
use Rattle.tape.specs.declared.event.Event.TheVariants as event
use Rattle.tape.specs.declared.entry.Entry.{Entry}
use Rattle.stream_model.specs.Arriving.{said}
use Rattle.stream_model.specs.Marks.{Mark}
use Rattle.stream_model.specs.Streams.{jobs, jobs_taken, jobs_waiting}
use Rattle.session_model.specs.Answers.{Facts, by_closed, closed_refusal, facts}
use Rattle.session_model.specs.Leases.{is_covered}
use Rattle.session_model.specs.Legal.{Legal}
use Rattle.session_model.specs.Life.{closed}
use Rattle.session_model.specs.Means.{Means}
use Rattle.session_model.specs.Streams.{heard_in, marks_in, unfinished, words}
use Rattle.session_model.proofs.Meaning.{last_means}
use Rattle.session_model.proofs.Refusals.{unrefused}
use Rattle.session_model.proofs.Spelled.{done_passes}
use Rattle.session_laws.proofs.Growth.{stays_closed}

still_refused : (o : Option Cause) (why : Cause) → closed_refusal o ≡ None → o ≡ Some why → ⊥
still_refused None why none is = absurd (cc)
still_refused (Some w) why none is = absurd (cc)

-- a call that is let through once the session is closed says nothing
says_nothing : (t : Facts) (asked : Call) (id : ℕ) (why : Cause) → by_closed t asked ≡ None → t.closed ≡ Some why → said id asked ≡ []
says_nothing t (call.Request kind initial message complete) id why none is = absurd (still_refused t.closed why none is)
says_nothing t (call.Next s message complete) id why none is = absurd (still_refused t.closed why none is)
says_nothing t (call.Done s) id why none is = absurd (still_refused t.closed why none is)
says_nothing t (call.Grant s n) id why none is = absurd (still_refused t.closed why none is)
says_nothing t (call.Cancel s) id why none is = absurd (still_refused t.closed why none is)
says_nothing t (call.Fail s code content) id why none is = absurd (still_refused t.closed why none is)
says_nothing t asked id why none is = refl

-- an entry brings no job once the session is closed
brings_none : (g : Settings) (t : Facts) (covered : Bool) (held : ℕ → Gathered) (most : ℕ) (seen : List Mark) (a : Answer) (e : Event) (why : Cause) → Means g t e a → t.closed ≡ Some why
    → jobs most (marks_in covered held a e ++ seen) ≡ jobs most seen
unfolding jobs
brings_none g t covered held most seen answer.Handled (event.Came conn f) why means is = let free = means.free in absurd (cc)
brings_none g t covered held most seen answer.Handled e why means is = absurd means
brings_none g t covered held most seen (answer.Started id) (event.Asked (call.Request kind initial message complete)) why means is =
    absurd (still_refused t.closed why (unrefused g t (call.Request kind initial message complete) means.accepted).open_session is)
brings_none g t covered held most seen (answer.Started id) e why means is = absurd means
brings_none g t covered held most seen answer.Done (event.Asked asked) why means is =
    ap (λ marks. jobs most (marks ++ seen)) (says_nothing t asked 0 why (done_passes g t asked means).open_session is)
brings_none g t covered held most seen answer.Done e why means is = absurd means
brings_none g t covered held most seen (answer.Got d) (event.Asked (call.Take s)) why means is = append-nil (jobs most seen)
brings_none g t covered held most seen (answer.Got d) e why means is = absurd means
brings_none g t covered held most seen (answer.GotJob j) (event.Asked call.TakeJob) why means is = append-nil (jobs most seen)
brings_none g t covered held most seen (answer.GotJob j) e why means is = absurd means
brings_none g t covered held most seen a e why means is = refl

pub jobs_stay : (g : Settings) (more past : List Entry) (why : Cause) → closed g past ≡ Some why → Legal g (more ++ past) → jobs g.max_streams (words g (more ++ past)) ≡ jobs g.max_streams (words g past)
unfolding Legal heard_in facts
jobs_stay g [] past why is legal = refl
jobs_stay g (x ∷ more) past why is legal =
    let all = more ++ past in
    brings_none g (facts g all) (is_covered g all) (unfinished g all) g.max_streams (words g all) x.answer x.event why (last_means g x all legal) (stays_closed g more past why is)
    ∙ jobs_stay g more past why is legal.0

-- ---- none waits

taken_more : (marks seen : List Mark) → jobs_taken seen ≤ jobs_taken (marks ++ seen)
unfolding jobs_taken
taken_more [] seen = omega arith
taken_more (m ∷ marks) seen = let before = taken_more marks seen in omega (arith, before)

taken_grows : (g : Settings) (more past : List Entry) → jobs_taken (words g past) ≤ jobs_taken (words g (more ++ past))
unfolding heard_in
taken_grows g [] past = omega arith
taken_grows g (x ∷ more) past =
    let all = more ++ past in
    let before = taken_grows g more past in
    let now = taken_more (marks_in (is_covered g all) (unfinished g all) x.answer x.event) (words g all) in
    omega (arith, before, now)

none_left : (n m : ℕ) (waits : List Job) → n ≤ m → drop n waits ≡ [] → drop m waits ≡ []
none_left n m waits le none =
    let long = length-drop n waits in
    let zero : length (drop n waits) ≡ 0 = ap length none in
    drop_all m waits (omega (arith, le, long, zero))

pub none_wait : (g : Settings) (more past : List Entry) (why : Cause) → closed g past ≡ Some why → Legal g (more ++ past) → jobs_waiting g.max_streams (words g past) ≡ []
    → jobs_waiting g.max_streams (words g (more ++ past)) ≡ []
unfolding jobs_waiting
none_wait g more past why is legal none =
    ap (drop (jobs_taken (words g (more ++ past)))) (jobs_stay g more past why is legal)
    ∙ none_left (jobs_taken (words g past)) (jobs_taken (words g (more ++ past))) (jobs g.max_streams (words g past)) (taken_grows g more past) none
