-- What a frame adds to the messages that are not whole yet.
use Rattle.std.specs.Prelude.{◌≡◌, ◌==◌, ℕ, Bool, true, false, Option, Some, None}
use Rattle.rs_wire.specs.declared.call.Call.{Call}
use Rattle.rs_wire.specs.declared.call.Call.TheVariants as call
use Rattle.rs_frame.specs.declared.frame.Frame.{Frame}
use Rattle.rs_frame.specs.declared.frame.Frame.TheVariants as frame
use Rattle.tape.specs.declared.event.Event.{Event}
use Rattle.tape.specs.declared.event.Event.TheVariants as event
use Rattle.tape.specs.declared.answer.Answer.{Answer}
use Rattle.tape.specs.declared.answer.Answer.TheVariants as answer
use Rattle.fragment.specs.Joining.{nothing}
use Rattle.reassembly.specs.Gathering.{HasRoom, ReassemblyView, gathered_at, has_part_at}
use Rattle.stream_model.specs.declared.arrival.Arrival.{Arrival}
use Rattle.stream_model.specs.Known.{Known, hears_on}
use Rattle.session_model.specs.Streams.{arrival_in}
use Rattle.session_core.specs.Speaking.{heard_on, named}

-- the same is gathered
abbrev pub IsSameGathered : ReassemblyView → ReassemblyView → Type 0
IsSameGathered old new = (s : ℕ) → gathered_at new s ≡ gathered_at old s

-- parts are kept of the same streams
abbrev pub IsSameKept : ReassemblyView → ReassemblyView → Type 0
IsSameKept old new = (s : ℕ) → has_part_at new s ≡ has_part_at old s

-- no part is kept of a stream on which no message of the peer's is taken in
abbrev pub IsOfHeard : Known → ReassemblyView → Type 0
IsOfHeard t parts = (s : ℕ) → hears_on (t.kept s) ≡ false → has_part_at parts s ≡ false

-- what a frame says on a stream where nothing is gathered, by whether a request is covered
abbrev pub alone_in : Bool → Frame → Option Arrival
alone_in covered f = arrival_in covered (λ s. nothing) f

-- a payload that is said to be no part of a message is the whole message
abbrev pub IsPartOrWhole : ReassemblyView → Bool → Frame → Type 0
IsPartOrWhole parts false (frame.Payload s follows complete next message) = (follows ≡ false) × (gathered_at parts s ≡ nothing)
IsPartOrWhole parts is_part f = Unit {0}

-- what a frame says before it is joined to what was gathered: a payload that is a part says nothing yet
abbrev pub ready_in : Bool → Bool → Frame → Option Arrival
ready_in covered true (frame.Payload s follows complete next message) = None
ready_in covered is_part f = alone_in covered f

abbrev pub ready_for : Bool → Bool → Answer → Event → Option Arrival
ready_for covered is_part answer.Handled (event.Came conn f) = ready_in covered is_part f
ready_for covered is_part _ _ = None

-- there is room for a frame that is a part of a message
abbrev pub FindsPlace : ReassemblyView → Bool → Frame → Type 0
FindsPlace parts is_part (frame.Request r) = r.follows ≡ true → HasRoom parts r.stream r.message
FindsPlace parts true (frame.Payload s follows complete next message) = HasRoom parts s message
FindsPlace parts false (frame.Payload s follows complete next message) = (follows ≡ false) × (gathered_at parts s ≡ nothing)
FindsPlace parts is_part f = Unit {0}

abbrev pub FindsPlaceFor : ReassemblyView → Bool → Answer → Event → Type 0
FindsPlaceFor parts is_part answer.Handled (event.Came conn f) = FindsPlace parts is_part f
FindsPlaceFor parts is_part _ _ = Unit {0}

-- ---- the stream that may not be heard any more

-- the stream of a call, which is of that id where it is a request
abbrev pub called_on : ℕ → Call → Option ℕ
called_on id (call.Request kind initial message complete) = Some id
called_on id asked = named asked

-- the stream on which an event so answered says something, or on which something is taken
abbrev pub touches : Answer → Event → Option ℕ
touches answer.Handled (event.Came conn f) = heard_on f
touches (answer.Started id) (event.Asked asked) = called_on id asked
touches answer.Done (event.Asked asked) = called_on 0 asked
touches (answer.Got delivery) (event.Asked (call.Take s)) = Some s
touches _ _ = None

abbrev pub is_that : Option ℕ → ℕ → Bool
is_that None s = false
is_that (Some n) s = n == s
