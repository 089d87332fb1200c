-- Which lists of entries are a session's.
use Rattle.std.specs.Prelude.{◌≡◌, ◌≤◌, ◌<◌, ◌^◌, IsTrue, List, [], ◌∷◌, Some, None, IfSome}
use Rattle.rs_wire.specs.declared.words.Side.TheVariants.{Client, Server}
use Rattle.rs_wire.specs.declared.settings.Settings.{Settings}
use Rattle.rs_wire.specs.declared.call.Call.{Call}
use Rattle.rs_wire.specs.declared.call.Call.TheVariants as call
use Rattle.rs_wire.specs.Calls.{CanBeAsked}
use Rattle.rs_frame.specs.Spelling.{IsSpellable, IsStream}
use Rattle.tape.specs.declared.event.Event.{Event}
use Rattle.tape.specs.declared.event.Event.TheVariants as event
use Rattle.tape.specs.declared.answer.Answer.{Answer}
use Rattle.tape.specs.Answers.{leaves}
use Rattle.tape.specs.declared.entry.Entry.{Entry}
use Rattle.session_model.specs.Answers.{answer_to}
use Rattle.session_model.specs.declared.numbers.TheConstants.{LONG_FRAME}

-- the numbers that a call grants are above 0, and have 31 bits
abbrev pub AmountsFit : Call → Type 0
AmountsFit (call.Request kind initial message complete) = IfSome initial IsStream
AmountsFit (call.Grant stream n) = IsStream n
AmountsFit (call.Lease ttl count metadata) = IsStream ttl × IsStream count
AmountsFit _ = Unit {0}

-- what whoever brings an event ensures: a first frame exactly on a server, frames that can be spelled, rules that there are
abbrev pub IsFair : Settings → Event → Type 0
IsFair g (event.Open None taken) = g.side ≡ Client
IsFair g (event.Open (Some f) taken) = (g.side ≡ Server) × IsSpellable f
IsFair g (event.Cut conn) = Unit {0}
IsFair g (event.Draw conn room) = (0 < room) × (room < 2 ^ 32)
IsFair g (event.Came conn f) = IsSpellable f
IsFair g (event.Bad conn number) = (0 < number) × (number ≤ LONG_FRAME)
IsFair g (event.Tick now) = Unit {0}
IsFair g (event.Asked asked) = CanBeAsked asked × AmountsFit asked

-- the same but for the amounts, which each have their range: what a caller ensures
abbrev pub CanBring : Settings → Event → Type 0
CanBring g (event.Asked asked) = CanBeAsked asked
CanBring g e = IsFair g e

-- an answer that leaves an entry
abbrev pub LeavesEntry : Answer → Type 0
LeavesEntry a = IsTrue (leaves a)

-- an entry after these has the right answer
pub record IsLegal (g : Settings) (past : List Entry) (x : Entry) : Type 0 where
  pub answered : x.answer ≡ answer_to g past x.event
  pub leaves : LeavesEntry x.answer

-- each answer is the one to the entries before it
unfoldable pub Legal : Settings → List Entry → Type 0
Legal g [] = Unit {0}
Legal g (x ∷ past) = Legal g past × IsLegal g past x

-- whoever brought the events kept their conditions
unfoldable pub Fair : Settings → List Entry → Type 0
Fair g [] = Unit {0}
Fair g (x ∷ past) = Fair g past × IsFair g x.event
