-- What an event so answered says on the streams, and the room that it finds there.
use Rattle.std.specs.Prelude.{◌≡◌, ◌==◌, ℕ, Bool, if◌then◌else◌, List, [], ◌∷◌, Option, Some, None, IsSome, IfSome, option_to_list}
use Rattle.std.specs.Option.{option_map}
use Rattle.rs_wire.specs.Calls.{CanBeAsked}
use Rattle.rs_wire.specs.declared.call.Call.{Call}
use Rattle.rs_wire.specs.declared.call.Call.TheVariants as call
use Rattle.rs_frame.specs.declared.frame.Frame.{Frame}
use Rattle.rs_frame.specs.declared.frame.Frame.TheVariants as frame
use Rattle.tape.specs.declared.event.Event.{Event}
use Rattle.tape.specs.declared.event.Event.TheVariants as event
use Rattle.tape.specs.declared.answer.Answer.{Answer}
use Rattle.tape.specs.declared.answer.Answer.TheVariants as answer
use Rattle.stream_model.specs.declared.arrival.Arrival.{Arrival}
use Rattle.stream_model.specs.declared.arrival.Effect.{Effect}
use Rattle.stream_model.specs.declared.arrival.Effect.TheVariants as effect
use Rattle.stream_model.specs.Known.{front_of}
use Rattle.stream_model.specs.Refused.{refused_by}
use Rattle.stream_model.specs.Marks.{Mark, Took, TookJob}
use Rattle.stream_model.specs.Arriving.{CanAct, CanArrive, effect_by, heard, said, stream_in}
use Rattle.fragment.specs.Joining.{Gathered}
use Rattle.reassembly.specs.Gathering.{ReassemblyView}
use Rattle.interactions.specs.Seen.{Seen, known_to, stream_of_call}
use Rattle.outbox.specs.Waiting.{Room}
use Rattle.session_model.specs.Streams.{arrival_in}
use Rattle.session_core.specs.declared.state.State.{State}

-- what a frame that is handled says, by whether a request is covered, and by what was gathered of messages that are not whole
abbrev pub arrival_for : Bool → (ℕ → Gathered) → Answer → Event → Option Arrival
arrival_for covered gathered answer.Handled (event.Came conn f) = arrival_in covered gathered f
arrival_for covered gathered _ _ = None

-- what an event so answered says, where a frame that is handled says that
abbrev pub says : Option Arrival → Answer → Event → List Mark
says what answer.Handled (event.Came conn f) = option_to_list (option_map heard what)
says what (answer.Started id) (event.Asked asked) = said id asked
says what answer.Done (event.Asked asked) = said 0 asked
says what (answer.Got delivery) (event.Asked (call.Take s)) = Took s delivery ∷ []
says what (answer.GotJob job) (event.Asked call.TakeJob) = TookJob ∷ []
says what _ _ = []

-- the stream of a frame that says something on a stream, or that is a part of a message there; 0 for pushed metadata
abbrev pub heard_on : Frame → Option ℕ
heard_on (frame.Request r) = Some r.stream
heard_on (frame.Payload s follows complete next message) = Some s
heard_on (frame.RequestN s n) = Some s
heard_on (frame.Cancel s) = Some s
heard_on (frame.Error s code content) = if s == 0 then None else Some s
heard_on (frame.MetadataPush metadata) = Some 0
heard_on _ = None

-- the stream on which a call goes on, where it names one
abbrev pub named : Call → Option ℕ
named (call.Next s message complete) = Some s
named (call.Done s) = Some s
named (call.Grant s n) = Some s
named (call.Cancel s) = Some s
named (call.Fail s code content) = Some s
named _ = None

-- the stream that a frame that is handled, or a call that acts, speaks on
abbrev pub speaks_on : Answer → Event → Option ℕ
speaks_on answer.Handled (event.Came conn f) = heard_on f
speaks_on (answer.Started id) (event.Asked asked) = Some id
speaks_on answer.Done (event.Asked asked) = named asked
speaks_on _ _ = None

-- room was made for what is said
abbrev pub FindsRoom : Option ℕ → Option ℕ → Type 0
FindsRoom None ready = Unit {0}
FindsRoom (Some s) ready = ready ≡ Some s

-- all is as before, but for the room that was made on the streams, for parts and for frames that are kept
abbrev pub with_room : State → Option ℕ → ReassemblyView → Room → State
with_room s ready parts room = record s { streams = record s.streams { ready = ready }; parts = parts; outbox = record s.outbox { room = room } }

abbrev pub IsNoRule : Effect → Type 0
IsNoRule (effect.Broken rule) = ⊥
IsNoRule _ = Unit {0}

-- what the peer says can come, breaks no rule, and finds room
pub record Comes (v : Seen) (what : Arrival) : Type 0 where
  pub room : v.ready ≡ Some (stream_in what)
  pub fits : CanArrive (known_to v) what
  pub counts : IsNoRule (effect_by v.limits (known_to v) what)

-- a call can act, is not refused, and finds room
pub record Acts (v : Seen) (asked : Call) : Type 0 where
  pub room : IsSome v.ready
  pub accepted : refused_by v.limits (known_to v) asked ≡ None
  pub askable : CanBeAsked asked
  pub fits : CanAct (known_to v) asked

-- a request acts on the stream of that id
pub record Begins (v : Seen) (id : ℕ) (asked : Call) : Type 0 where
  pub acts : Acts v asked
  pub next : id ≡ stream_of_call v asked

-- a call that begins no stream acts, but for those that say nothing on a stream
abbrev pub GoesOn : Seen → Call → Type 0
GoesOn v (call.Request kind initial message complete) = ⊥
GoesOn v (call.Push metadata) = Unit {0}
GoesOn v (call.Lease ttl count metadata) = Unit {0}
GoesOn v call.Close = Unit {0}
GoesOn v asked = Acts v asked

-- what an event so answered says can be said
abbrev pub CanSay : Seen → Answer → Event → Option Arrival → Type 0
CanSay v answer.Handled e what = IfSome what (Comes v)
CanSay v (answer.Started id) (event.Asked asked) what = Begins v id asked
CanSay v answer.Done (event.Asked asked) what = GoesOn v asked
CanSay v (answer.Got delivery) (event.Asked (call.Take s)) what = front_of ((known_to v).waits s) ≡ Some delivery
CanSay v (answer.GotJob job) (event.Asked call.TakeJob) what = front_of (known_to v).jobs ≡ Some job
CanSay v _ _ what = Unit {0}
