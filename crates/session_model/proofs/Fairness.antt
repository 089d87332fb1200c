-- What a legal and fair list of entries says on the streams keeps the rules of the streams.
use Rattle.std.proofs.Common.{◌≡◌, ◌≤◌, ◌<◌, ◌^◌, ℕ, Bool, true, false, List, [], ◌∷◌, ◌++◌, length, option_to_list, Option, Some, None, length-append, refl, ap, subst, sym, arith}
use Rattle.std.proofs.lemmas.Grind.{common_steps}
use Rattle.std.specs.Option.{option_map}
use Rattle.rs_wire.specs.declared.call.Call.{Call}
use Rattle.rs_wire.specs.declared.call.Call.TheVariants as call
use Rattle.rs_wire.specs.declared.delivery.Delivery.{Delivery}
use Rattle.rs_wire.specs.declared.delivery.Job.{Job}
use Rattle.rs_wire.specs.declared.words.Kind.{Kind}
use Rattle.rs_wire.specs.declared.settings.Settings.{Settings}
use Rattle.rs_frame.specs.declared.frame.Frame.{Frame}
use Rattle.rs_frame.specs.declared.frame.Frame.TheVariants as frame
use Rattle.rs_frame.specs.declared.frame.Request.{Request}
use Rattle.rs_frame.specs.Spelling.{IsSpellable, InitialFits}
use Rattle.tape.specs.declared.event.Event.{Event}
use Rattle.tape.specs.declared.event.Event.TheVariants as event
use Rattle.tape.specs.declared.answer.Answer.{Answer}
use Rattle.tape.specs.declared.answer.Answer.TheVariants as answer
use Rattle.tape.specs.declared.entry.Entry.{Entry}
use Rattle.stream_model.specs.declared.arrival.Arrival.{Arrival}
use Rattle.stream_model.specs.Marks.{Took, TookJob}
use Rattle.stream_model.specs.Known.{known as known_after, front_of, is_peers_next, limits_of, next_id}
use Rattle.stream_model.specs.Arriving.{CanAct, CanArrive, MayGrant, effect_by, heard, or_zero, said}
use Rattle.stream_model.specs.Fair.{Fair as FairMarks}
use Rattle.stream_model.proofs.Credits.{may_grant_more}
use Rattle.stream_model.proofs.Fitting.{ArrivalHasAmounts, HasAmounts, IsCounted, heard_fair, said_fair}
use Rattle.stream_model.proofs.Steps.{took_fits}
use Rattle.fragment.specs.Joining.{Gathered}
use Rattle.session_model.specs.Leases.{is_covered}
use Rattle.session_model.specs.Streams.{arrival_in, heard_in, known, marks_in, request_in, unfinished, words}
use Rattle.session_model.specs.Frames.{spoken}
use Rattle.session_model.specs.Answers.{Facts, broken_rule, covered_by, facts}
use Rattle.session_model.specs.Legal.{AmountsFit, Fair, IsFair, Legal}
use Rattle.session_model.specs.Means.{Does, MayCome, Means}
use Rattle.session_model.proofs.Meaning.{last_means}
use Rattle.session_model.proofs.Refusals.{Unrefused, streams_allow, unrefused}
use Rattle.session_model.proofs.Breaking.{unbroken}
use Rattle.session_model.proofs.Spelled.{done_passes}

-- ---- calls

call_amounts : (asked : Call) → AmountsFit asked → HasAmounts asked
call_amounts asked fit = grind (arith, common_steps)

-- what a call says that is not refused
spoken_fair : (g : Settings) (past : List Entry) (asked : Call) → IsFair g (event.Asked asked) → Unrefused g (facts g past) asked → FairMarks g.max_streams (words g past)
    → FairMarks g.max_streams (said (next_id g.side (known g past)) asked ++ words g past)
unfolding facts
spoken_fair g past asked fair u before = said_fair g.max_streams (words g past) (limits_of g) asked before refl (call_amounts asked fair.1) (streams_allow g (facts g past) asked u)

done_says : (g : Settings) (t : Facts) (asked : Call) (id : ℕ) → Does g t (event.Asked asked) → said id asked ≡ said 0 asked
done_says g t (call.Request kind initial message complete) id does = absurd does
done_says g t asked id does = refl

-- ---- frames

-- a request that may come, whether it is covered or not
request_counted : (g : Settings) (t : Facts) (r : Request) (covered : Bool) → is_peers_next g.side t.streams r.stream ≡ true → IsCounted (effect_by (limits_of g) t.streams (request_in covered r))
request_counted g t r true next = grind (arith, common_steps)
request_counted g t r false next = grind (arith, common_steps)

-- a frame that breaks no rule does what the streams count
pub arrival_counted : (g : Settings) (t : Facts) (f : Frame) (a : Arrival) → broken_rule g t f ≡ None → arrival_in (covered_by g t) t.unfinished f ≡ Some a → IsCounted (effect_by (limits_of g) t.streams a)
arrival_counted g t (frame.Request r) a none is =
    let same : request_in (covered_by g t) r ≡ a = cc in
    subst (λ a. IsCounted (effect_by (limits_of g) t.streams a)) same (request_counted g t r (covered_by g t) (unbroken g t (frame.Request r) none).next)
arrival_counted g t f a none is = let u = unbroken g t f none in grind (arith, common_steps)

initial_below : (kind : Kind) (initial : Option ℕ) (complete : Bool) → InitialFits kind initial complete → or_zero initial < 2 ^ 31
initial_below kind initial complete fits = grind (arith, common_steps)

pub arrival_amounts : (covered : Bool) (held : ℕ → Gathered) (f : Frame) (a : Arrival) → IsSpellable f → arrival_in covered held f ≡ Some a → ArrivalHasAmounts a
arrival_amounts covered held f a spellable is = let fields = spellable.fields in grind (arith, common_steps, initial_below)

came_fair : (g : Settings) (past : List Entry) (f : Frame) (o : Option Arrival) → arrival_in (is_covered g past) (unfinished g past) f ≡ o → IsSpellable f → broken_rule g (facts g past) f ≡ None → FairMarks g.max_streams (words g past)
    → FairMarks g.max_streams (option_to_list (option_map heard o) ++ words g past)
unfolding facts
came_fair g past f None is spellable none before = before
came_fair g past f (Some a) is spellable none before =
    heard_fair g.max_streams (words g past) (limits_of g) a before (arrival_amounts (is_covered g past) (unfinished g past) f a spellable is) (arrival_counted g (facts g past) f a none is)

-- what comes and may come
may_fair : (g : Settings) (past : List Entry) (f : Frame) → IsSpellable f → MayCome g (facts g past) f → FairMarks g.max_streams (words g past)
    → FairMarks g.max_streams (option_to_list (option_map heard (arrival_in (is_covered g past) (unfinished g past) f)) ++ words g past)
may_fair g past (frame.ResumeOk position) spellable may before = before
may_fair g past f spellable may before = came_fair g past f (arrival_in (is_covered g past) (unfinished g past) f) refl spellable may.1 before

-- ---- what is taken

front_first : {A : Type 0} (xs : List A) (x : A) → front_of xs ≡ Some x → (rest : List A) × (xs ≡ x ∷ rest)
front_first [] x is = absurd (cc)
front_first (y ∷ xs) x is = (xs, let same : y ≡ x = cc in ap (λ z. z ∷ xs) same)

some_job : (jobs : List Job) (job : Job) → front_of jobs ≡ Some job → 0 < length jobs
some_job [] job is = absurd (cc)
some_job (j ∷ jobs) job is = omega arith

took_fair : (g : Settings) (past : List Entry) (s : ℕ) (d : Delivery) → front_of ((known g past).waits s) ≡ Some d → FairMarks g.max_streams (words g past)
    → FairMarks g.max_streams (Took s d ∷ words g past)
unfolding FairMarks known_after
took_fair g past s d is before = let first = front_first ((known g past).waits s) d is in (before, took_fits g.max_streams (words g past) s d first.0 first.1)

took_job_fair : (g : Settings) (past : List Entry) (job : Job) → front_of (known g past).jobs ≡ Some job → FairMarks g.max_streams (words g past) → FairMarks g.max_streams (TookJob ∷ words g past)
unfolding FairMarks known_after
took_job_fair g past job is before = (before, some_job (known g past).jobs job is)

-- ---- the entries

done_fair : (g : Settings) (past : List Entry) (asked : Call) → IsFair g (event.Asked asked) → Does g (facts g past) (event.Asked asked) → FairMarks g.max_streams (words g past)
    → FairMarks g.max_streams (said 0 asked ++ words g past)
done_fair g past asked fair does before =
    subst (λ marks. FairMarks g.max_streams (marks ++ words g past)) (done_says g (facts g past) asked (next_id g.side (known g past)) does)
    (spoken_fair g past asked fair (done_passes g (facts g past) asked does) before)

entry_fair : (g : Settings) (past : List Entry) (a : Answer) (e : Event) → IsFair g e → Means g (facts g past) e a → FairMarks g.max_streams (words g past)
    → FairMarks g.max_streams (marks_in (is_covered g past) (unfinished g past) a e ++ words g past)
unfolding facts
entry_fair g past (answer.Started id) (event.Asked (call.Request kind initial message complete)) fair means before =
    let asked = call.Request kind initial message complete in
    subst (λ n. FairMarks g.max_streams (said n asked ++ words g past)) (sym means.next) (spoken_fair g past asked fair (unrefused g (facts g past) asked means.accepted) before)
entry_fair g past (answer.Started id) e fair means before = absurd means
entry_fair g past answer.Done (event.Asked asked) fair means before = done_fair g past asked fair means before
entry_fair g past answer.Done e fair means before = absurd means
entry_fair g past (answer.Got d) (event.Asked (call.Take s)) fair means before = took_fair g past s d means before
entry_fair g past (answer.Got d) e fair means before = absurd means
entry_fair g past (answer.GotJob job) (event.Asked call.TakeJob) fair means before = took_job_fair g past job means before
entry_fair g past (answer.GotJob job) e fair means before = absurd means
entry_fair g past answer.Handled (event.Came conn f) fair means before = may_fair g past f fair means.may before
entry_fair g past answer.Handled e fair means before = absurd means
entry_fair g past a e fair means before = before

-- the marks of a legal and fair list are fair
pub legal_fair : (g : Settings) (past : List Entry) → Legal g past → Fair g past → FairMarks g.max_streams (words g past)
unfolding Legal Fair FairMarks heard_in
legal_fair g [] legal fair = tt
legal_fair g (x ∷ past) legal fair = entry_fair g past x.answer x.event fair.1 (last_means g x past legal) (legal_fair g past legal.0 fair.0)

-- ---- the conditions of acts and arrivals

one_mark : (covered : Bool) (held : ℕ → Gathered) (a : Answer) (e : Event) → length (marks_in covered held a e) ≤ 1
one_mark covered held a e = grind (arith, common_steps)

-- an entry says one thing at most
pub words_few : (g : Settings) (past : List Entry) → length (words g past) ≤ length past
unfolding heard_in
words_few g [] = omega arith
words_few g (x ∷ past) =
    let said = marks_in (is_covered g past) (unfinished g past) x.answer x.event in
    let one = one_mark (is_covered g past) (unfinished g past) x.answer x.event in
    omega (arith, length-append said (words g past), words_few g past)

-- a grant leaves room for more, on a tape that is not too long
pub may_grant : (g : Settings) (past : List Entry) (s : ℕ) → Legal g past → Fair g past → length past < 2 ^ 63 → MayGrant ((known g past).kept s)
unfolding known_after
may_grant g past s legal fair short = let few = words_few g past in may_grant_more g.max_streams (words g past) s (legal_fair g past legal fair) (omega arith)

-- an arrival that a frame is can come
pub can_arrive : (g : Settings) (past : List Entry) (f : Frame) (a : Arrival) → Legal g past → Fair g past → length past < 2 ^ 63 → IsSpellable f → arrival_in (is_covered g past) (unfinished g past) f ≡ Some a → CanArrive (known g past) a
can_arrive g past f a legal fair short spellable is = let fields = spellable.fields in grind (arith, common_steps, may_grant g past)

-- a call that has a frame can act
pub can_act : (g : Settings) (past : List Entry) (id : ℕ) (asked : Call) (f : Frame) → Legal g past → Fair g past → length past < 2 ^ 63 → spoken (known g past) id asked ≡ Some f → CanAct (known g past) asked
can_act g past id asked f legal fair short is = grind (arith, common_steps, may_grant g past)
