-- What the entries of a session say on its streams, and what is known of these. Entries and marks are the newest first.
use Rattle.std.specs.Prelude.{ℕ, ◌==◌, Bool, true, false, not, nat_lt, if◌then◌else◌, List, [], ◌∷◌, ◌++◌, Option, Some, None, option_to_list, codes}
use Rattle.std.specs.Option.{option_map}
use Rattle.rs_wire.specs.declared.settings.Settings.{Settings}
use Rattle.rs_wire.specs.declared.message.Message.{Message}
use Rattle.rs_wire.specs.declared.call.Call.TheVariants as call
use Rattle.rs_frame.specs.declared.frame.Frame.{Frame}
use Rattle.rs_frame.specs.declared.frame.Frame.TheVariants as frame
use Rattle.rs_frame.specs.declared.frame.Request.{Request}
use Rattle.tape.specs.declared.event.Event.{Event}
use Rattle.tape.specs.declared.event.Event.TheVariants as event
use Rattle.tape.specs.declared.answer.Answer.{Answer}
use Rattle.tape.specs.declared.answer.Answer.TheVariants as answer
use Rattle.tape.specs.declared.entry.Entry.{Entry}
use Rattle.stream_model.specs.declared.arrival.Arrival.{Arrival}
use Rattle.stream_model.specs.declared.arrival.Arrival.TheVariants as arrival
use Rattle.stream_model.specs.Marks.{Mark, Took, TookJob}
use Rattle.stream_model.specs.Turns.{is_fnf}
use Rattle.stream_model.specs.Known.{Known, known as known_after, hears_on}
use Rattle.fragment.specs.Joining.{Gathered, nothing, left_held, with_part}
use Rattle.stream_model.specs.Arriving.{said, heard}
use Rattle.session_model.specs.Leases.{is_covered}

-- a message is whole where no fragment follows
abbrev pub whole_in : Bool → Message → Bool → Option (Message × Bool)
whole_in true message complete = None
whole_in false message complete = Some (message, complete)

abbrev pub arrives_whole : ℕ → Gathered → Arrival
arrives_whole s sum = arrival.Whole s sum.message sum.complete sum.next

-- a request is asked of this end where its lease covers it, and is passed over else (RSocket 1.0, "Lease Semantics")
abbrev pub request_in : Bool → Request → Arrival
request_in true r = arrival.Asked r.stream r.kind r.initial (whole_in r.follows r.message r.complete)
request_in false r = arrival.PassedOver r.stream

-- what a frame of the peer's says on a stream, by whether a request is covered, and by what was gathered of a message that is not whole
abbrev pub arrival_in : Bool → (ℕ → Gathered) → Frame → Option Arrival
arrival_in covered gathered (frame.Request r) = Some (request_in covered r)
arrival_in covered gathered (frame.Payload s follows complete next message) = if follows then None else Some (arrives_whole s (with_part (gathered s) message complete next))
arrival_in covered gathered (frame.RequestN s n) = Some (arrival.Granted s n)
arrival_in covered gathered (frame.Cancel s) = Some (arrival.Canceled s)
arrival_in covered gathered (frame.Error s code content) = if s == 0 then None else Some (arrival.Failed s code content)
arrival_in covered gathered (frame.MetadataPush metadata) = Some (arrival.Pushed metadata)
arrival_in covered gathered _ = None

-- what an event so answered says on the streams
abbrev pub marks_in : Bool → (ℕ → Gathered) → Answer → Event → List Mark
marks_in covered gathered answer.Handled (event.Came conn f) = option_to_list (option_map heard (arrival_in covered gathered f))
marks_in covered gathered (answer.Started id) (event.Asked asked) = said id asked
marks_in covered gathered answer.Done (event.Asked asked) = said 0 asked
marks_in covered gathered (answer.Got delivery) (event.Asked (call.Take s)) = Took s delivery ∷ []
marks_in covered gathered (answer.GotJob job) (event.Asked call.TakeJob) = TookJob ∷ []
marks_in covered gathered _ _ = []

-- what is gathered on a stream after a frame of the peer's
abbrev pub gathers_of : Frame → ℕ → Gathered → Gathered
gathers_of (frame.Request r) s held = if r.stream == s then left_held r.follows (with_part held r.message r.complete false) else held
gathers_of (frame.Payload stream follows complete next message) s held = if stream == s then left_held follows (with_part held message complete next) else held
gathers_of f s held = held

-- and after an event so answered
abbrev pub gathers : Answer → Event → ℕ → Gathered → Gathered
gathers answer.Handled (event.Came conn f) s held = gathers_of f s held
gathers a e s held = held

-- what was heard and said on the streams
pub record Heard : Type 0 where
  -- what the entries say, the newest first
  pub words : List Mark
  -- what came, on a stream, of a message that is not whole yet
  pub unfinished : ℕ → Gathered

-- parts are kept only of streams on which messages of the peer's are taken in
abbrev pub while_heard : ℕ → List Mark → (ℕ → Gathered) → ℕ → Gathered
while_heard most words gathered s = if hears_on ((known_after most words).kept s) then gathered s else nothing

abbrev pub more_heard : ℕ → List Mark → Heard → Answer → Event → Heard
more_heard most words h a e = record { words = words; unfinished = while_heard most words (λ s. gathers a e s (h.unfinished s)) }

unfoldable pub heard_in : Settings → List Entry → Heard
heard_in g [] = record { words = []; unfinished = λ s. nothing }
heard_in g (x ∷ past) = let h = heard_in g past in more_heard g.max_streams (marks_in (is_covered g past) h.unfinished x.answer x.event ++ h.words) h x.answer x.event

-- what the entries say on the streams
abbrev pub words : Settings → List Entry → List Mark
words g past = (heard_in g past).words

-- what came, on a stream, of a message that is not whole yet
abbrev pub unfinished : Settings → List Entry → ℕ → Gathered
unfinished g past = (heard_in g past).unfinished

-- what is known of the streams after these entries
abbrev pub known : Settings → List Entry → Known
known g past = known_after g.max_streams (words g past)

-- the word of why a request that comes opens no stream and is answered by an ERROR: its lease does not cover it, or as many streams are
-- open as may be; none of a fire-and-forget, which is never answered
abbrev pub turned_away_for : Settings → Bool → Known → Request → Option (List ℕ)
turned_away_for g covered t r =
    if is_fnf r.kind then None
    else if not covered then Some (codes "lease")
    else if not (nat_lt t.live g.max_streams) then Some (codes "streams")
    else None
