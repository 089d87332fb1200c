-- What is gathered after an event.
use Rattle.std.proofs.Common.{◌≡◌, ◌==◌, ◌++◌, ℕ, Bool, true, false, cond, List, ◌∷◌, Option, Some, None, option_to_list, option_map, refl, ap, sym, subst, ◌∙◌, arith}
use Rattle.std.proofs.lemmas.Grind.{common_steps}
use Rattle.std.specs.Prelude.{nat_eq}
use Rattle.rs_wire.specs.declared.call.Call.{Call}
use Rattle.rs_wire.specs.declared.call.Call.TheVariants as call
use Rattle.rs_frame.specs.declared.frame.Frame.{Frame}
use Rattle.rs_frame.specs.declared.frame.Frame.TheVariants as frame
use Rattle.rs_frame.specs.declared.frame.Request.{Request}
use Rattle.tape.specs.declared.event.Event.{Event}
use Rattle.tape.specs.declared.event.Event.TheVariants as event
use Rattle.tape.specs.declared.answer.Answer.{Answer}
use Rattle.tape.specs.declared.answer.Answer.TheVariants as answer
use Rattle.fragment.specs.Joining.{Gathered, GatheringView, nothing, with_part}
use Rattle.std.specs.Map.{lookup}
use Rattle.std.specs.Prelude.{is_some}
use Rattle.reassembly.specs.Gathering.{ReassemblyView, gathered_at, has_part_at, held_of}
use Rattle.stream_model.specs.declared.arrival.Arrival.{Arrival}
use Rattle.stream_model.specs.declared.arrival.Arrival.TheVariants as arrival
use Rattle.stream_model.specs.Marks.{Mark, Passed, Pushed, TookJob}
use Rattle.stream_model.specs.Streams.{on}
use Rattle.stream_model.specs.Kept.{kept}
use Rattle.stream_model.specs.Known.{known as known_after, hears_on}
use Rattle.stream_model.specs.Arriving.{heard, said}
use Rattle.stream_model.proofs.Ids.{others_stay, same_id, turn_job, turn_passed, turn_pushed}
use Rattle.session_model.specs.Streams.{arrival_in, arrives_whole, gathers, marks_in, request_in, while_heard}
use Rattle.session_core.specs.Speaking.{arrival_for, heard_on, says}
use Rattle.session_core.specs.Gathering.{IsOfHeard, called_on, is_that, touches}

-- ---- what is said

-- what is said is what the marks of the entry are
pub says_marks : (covered : Bool) (held : ℕ → Gathered) (a : Answer) (e : Event) → says (arrival_for covered held a e) a e ≡ marks_in covered held a e
says_marks covered held answer.Handled (event.Came conn f) = refl
says_marks covered held a e = grind (arith, common_steps)

pub marks_said : (covered : Bool) (held : ℕ → Gathered) (a : Answer) (e : Event) (what : Option Arrival) (seen words : List Mark) → what ≡ arrival_for covered held a e → words ≡ says what a e ++ seen
    → words ≡ marks_in covered held a e ++ seen
marks_said covered held a e what seen words is so =
    so ∙ (ap (λ (w : Option Arrival). says w a e ++ seen) is ∙ ap (λ (ms : List Mark). ms ++ seen) (says_marks covered held a e))

-- ---- a stream on which an event says nothing

apart : (most : ℕ) (seen : List Mark) (m : Mark) (n s : ℕ) → on n m ≡ true → (n == s) ≡ false → hears_on ((known_after most (m ∷ seen)).kept s) ≡ hears_on ((known_after most seen).kept s)
unfolding known_after
apart most seen m n s is other = ap (λ t. hears_on (kept t)) (others_stay most seen m n s is other)

said_apart : (most : ℕ) (seen : List Mark) (id : ℕ) (asked : Call) (s : ℕ) → is_that (called_on id asked) s ≡ false
    → hears_on ((known_after most (said id asked ++ seen)).kept s) ≡ hears_on ((known_after most seen).kept s)
said_apart most seen id (call.Request kind initial message complete) s other = apart most seen _ id s (same_id id) other
said_apart most seen id (call.Next n message complete) s other = apart most seen _ n s (same_id n) other
said_apart most seen id (call.Done n) s other = apart most seen _ n s (same_id n) other
said_apart most seen id (call.Grant n k) s other = apart most seen _ n s (same_id n) other
said_apart most seen id (call.Cancel n) s other = apart most seen _ n s (same_id n) other
said_apart most seen id (call.Fail n code content) s other = apart most seen _ n s (same_id n) other
said_apart most seen id (call.Push metadata) s other = refl
said_apart most seen id (call.Lease ttl count metadata) s other = refl
said_apart most seen id (call.Take n) s other = refl
said_apart most seen id call.TakeJob s other = refl
said_apart most seen id call.Close s other = refl

error_apart : (most : ℕ) (seen : List Mark) (n code : ℕ) (content : List ℕ) (s : ℕ) (zero : Bool) → is_that (cond {A = Option ℕ} zero None (Some n)) s ≡ false
    → hears_on ((known_after most (option_to_list (option_map heard (cond {A = Option Arrival} zero None (Some (arrival.Failed n code content)))) ++ seen)).kept s)
    ≡ hears_on ((known_after most seen).kept s)
error_apart most seen n code content s true other = refl
error_apart most seen n code content s false other = apart most seen _ n s (same_id n) other

payload_apart : (most : ℕ) (seen : List Mark) (n : ℕ) (sum : Gathered) (s : ℕ) (follows : Bool) → (n == s) ≡ false
    → hears_on ((known_after most (option_to_list (option_map heard (cond {A = Option Arrival} follows None (Some (arrives_whole n sum)))) ++ seen)).kept s)
    ≡ hears_on ((known_after most seen).kept s)
payload_apart most seen n sum s true other = refl
payload_apart most seen n sum s false other = apart most seen _ n s (same_id n) other

-- a request that is passed over, and metadata that is pushed, change no stream
passed_apart : (most : ℕ) (seen : List Mark) (n s : ℕ) → hears_on ((known_after most (Passed n ∷ seen)).kept s) ≡ hears_on ((known_after most seen).kept s)
unfolding known_after
passed_apart most seen n s = ap (λ t. hears_on (kept t)) (turn_passed most seen n s)

pushed_apart : (most : ℕ) (seen : List Mark) (metadata : List ℕ) (s : ℕ) → hears_on ((known_after most (Pushed metadata ∷ seen)).kept s) ≡ hears_on ((known_after most seen).kept s)
unfolding known_after
pushed_apart most seen metadata s = ap (λ t. hears_on (kept t)) (turn_pushed most seen metadata s)

request_apart : (most : ℕ) (seen : List Mark) (covered : Bool) (r : Request) (s : ℕ) → (r.stream == s) ≡ false
    → hears_on ((known_after most (heard (request_in covered r) ∷ seen)).kept s) ≡ hears_on ((known_after most seen).kept s)
request_apart most seen true r s other = apart most seen _ r.stream s (same_id r.stream) other
request_apart most seen false r s other = passed_apart most seen r.stream s

heard_apart : (most : ℕ) (seen : List Mark) (covered : Bool) (held : ℕ → Gathered) (f : Frame) (s : ℕ) → is_that (heard_on f) s ≡ false
    → hears_on ((known_after most (option_to_list (option_map heard (arrival_in covered held f)) ++ seen)).kept s) ≡ hears_on ((known_after most seen).kept s)
heard_apart most seen covered held (frame.Request r) s other = request_apart most seen covered r s other
heard_apart most seen covered held (frame.Payload n follows complete next message) s other = payload_apart most seen n (with_part (held n) message complete next) s follows other
heard_apart most seen covered held (frame.RequestN n k) s other = apart most seen _ n s (same_id n) other
heard_apart most seen covered held (frame.Cancel n) s other = apart most seen _ n s (same_id n) other
heard_apart most seen covered held (frame.Error n code content) s other = error_apart most seen n code content s (n == 0) other
heard_apart most seen covered held (frame.MetadataPush metadata) s other = pushed_apart most seen metadata s
heard_apart most seen covered held f s other = refl

job_apart : (most : ℕ) (seen : List Mark) (s : ℕ) → hears_on ((known_after most (TookJob ∷ seen)).kept s) ≡ hears_on ((known_after most seen).kept s)
unfolding known_after
job_apart most seen s = ap (λ t. hears_on (kept t)) (turn_job most seen s)

-- whether messages are taken in there does not change
untouched_hears : (most : ℕ) (seen : List Mark) (covered : Bool) (held : ℕ → Gathered) (a : Answer) (e : Event) (s : ℕ) → is_that (touches a e) s ≡ false
    → hears_on ((known_after most (marks_in covered held a e ++ seen)).kept s) ≡ hears_on ((known_after most seen).kept s)
untouched_hears most seen covered held answer.Handled (event.Came conn f) s other = heard_apart most seen covered held f s other
untouched_hears most seen covered held (answer.Started id) (event.Asked asked) s other = said_apart most seen id asked s other
untouched_hears most seen covered held answer.Done (event.Asked asked) s other = said_apart most seen 0 asked s other
untouched_hears most seen covered held (answer.Got d) (event.Asked (call.Take n)) s other = apart most seen _ n s (same_id n) other
untouched_hears most seen covered held (answer.GotJob job) (event.Asked call.TakeJob) s other = job_apart most seen s
untouched_hears most seen covered held a e s other = grind (arith, common_steps)

-- ---- after an event

no_part_by : (o : Option GatheringView) → is_some o ≡ false → held_of o ≡ nothing
no_part_by None none = refl
no_part_by (Some x) none = absurd (cc)

-- nothing is gathered where no part is kept
pub no_part : (parts : ReassemblyView) (s : ℕ) → has_part_at parts s ≡ false → gathered_at parts s ≡ nothing
no_part parts s none = no_part_by (lookup (nat_eq s) parts.gatherings) none

-- of a stream on which messages are not taken in any more nothing is kept, of any other all
pub record LetGo (most : ℕ) (words : List Mark) (a : Answer) (e : Event) (mid new : ReassemblyView) : Type 0 where
  pub heard : (s : ℕ) → hears_on ((known_after most words).kept s) ≡ true → gathered_at new s ≡ gathered_at mid s
  pub over : (s : ℕ) → is_that (touches a e) s ≡ true → hears_on ((known_after most words).kept s) ≡ false → has_part_at new s ≡ false
  pub others : (s : ℕ) → is_that (touches a e) s ≡ false → has_part_at new s ≡ has_part_at mid s

-- what an event so answered takes in and lets go
pub record Goes (most : ℕ) (seen words : List Mark) (covered : Bool) (a : Answer) (e : Event) (old mid new : ReassemblyView) : Type 0 where
  pub said : words ≡ marks_in covered (gathered_at old) a e ++ seen
  pub before : IsOfHeard (known_after most seen) old
  pub taken : (s : ℕ) → gathered_at mid s ≡ gathers a e s (gathered_at old s)
  pub others : (s : ℕ) → is_that (touches a e) s ≡ false → has_part_at mid s ≡ has_part_at old s
  pub let_go : LetGo most words a e mid new

unheard_by : (most : ℕ) (seen words : List Mark) (covered : Bool) (a : Answer) (e : Event) (old mid new : ReassemblyView) → Goes most seen words covered a e old mid new
    → (s : ℕ) (touched : Bool) → is_that (touches a e) s ≡ touched → hears_on ((known_after most words).kept s) ≡ false → has_part_at new s ≡ false
unheard_by most seen words covered a e old mid new goes s true on none = goes.let_go.over s on none
unheard_by most seen words covered a e old mid new goes s false on none =
    let said : hears_on ((known_after most (marks_in covered (gathered_at old) a e ++ seen)).kept s) ≡ false = subst (λ (w : List Mark). hears_on ((known_after most w).kept s) ≡ false) goes.said none in
    let before = sym (untouched_hears most seen covered (gathered_at old) a e s on) ∙ said in
    goes.let_go.others s on ∙ (goes.others s on ∙ goes.before s before)

-- no part is kept of a stream on which no message is taken in
pub still_heard : (most : ℕ) (seen words : List Mark) (covered : Bool) (a : Answer) (e : Event) (old mid new : ReassemblyView) → Goes most seen words covered a e old mid new → IsOfHeard (known_after most words) new
still_heard most seen words covered a e old mid new goes s none = unheard_by most seen words covered a e old mid new goes s _ refl none

kept_at : (most : ℕ) (seen words : List Mark) (covered : Bool) (a : Answer) (e : Event) (old mid new : ReassemblyView) → Goes most seen words covered a e old mid new
    → (s : ℕ) (hears : Bool) → hears_on ((known_after most words).kept s) ≡ hears → gathered_at new s ≡ cond hears (gathers a e s (gathered_at old s)) nothing
kept_at most seen words covered a e old mid new goes s true is = goes.let_go.heard s is ∙ goes.taken s
kept_at most seen words covered a e old mid new goes s false is = no_part new s (still_heard most seen words covered a e old mid new goes s is)

pub kept_parts : (most : ℕ) (seen words : List Mark) (covered : Bool) (a : Answer) (e : Event) (old mid new : ReassemblyView) → Goes most seen words covered a e old mid new
    → (s : ℕ) → gathered_at new s ≡ while_heard most words (λ i. gathers a e i (gathered_at old i)) s
kept_parts most seen words covered a e old mid new goes s = kept_at most seen words covered a e old mid new goes s _ refl
