-- What stands before an event and its answer are applied.
use Rattle.std.specs.Prelude.{◌≡◌, ◌≤◌, ◌<◌, ◌+◌, ◌^◌, length, map}
use Rattle.std.specs.List.{AllByRecursion}
use Rattle.rs_wire.specs.declared.settings.Settings.{Settings}
use Rattle.rs_frame.specs.Spelling.{IsSpellable, canonical}
use Rattle.tape.specs.declared.event.Event.{Event}
use Rattle.tape.specs.declared.answer.Answer.{Answer}
use Rattle.position.specs.Boundaries.{pos, pos_by}
use Rattle.replay_buffer.specs.Held.{end_of}
use Rattle.reassembly.specs.Gathering.{gathered_at}
use Rattle.interactions.specs.Seen.{known_to}
use Rattle.session_model.specs.Legal.{IsFair}
use Rattle.session_model.specs.Life.{agrees_leases, setup_in}
use Rattle.session_model.specs.Frames.{makes}
use Rattle.session_core.specs.Fits.{HasRoom}
use Rattle.session_core.specs.Gathering.{FindsPlaceFor, IsOfHeard, ready_for}
use Rattle.session_core.specs.Kept.{FindsSpare, HasFrameLength, keeps}
use Rattle.session_core.specs.Leasing.{LetsStart, covers_next}
use Rattle.session_core.specs.Speaking.{CanSay, arrival_for}
use Rattle.session_core.specs.declared.state.State.{State}
use Rattle.session_core.specs.declared.state.Prepared.{Prepared}

-- all was prepared for an event and its answer, and what it adds to finds room
pub record IsReadyFor (g : Settings) (s : State) (e : Event) (a : Answer) (p : Prepared) : Type 0 where
  -- the event is as a caller has to bring it
  pub fair : IsFair g e
  -- what was prepared is what the definitions say
  pub setup : p.setup ≡ setup_in a e
  pub made : p.made.items ≡ makes g (covers_next g s) (known_to s.streams) a e
  pub spelled : p.spelled.items ≡ map canonical (keeps g s a e)
  pub covered : p.incoming.covered ≡ covers_next g s
  pub arrival : p.incoming.arrival ≡ ready_for p.incoming.covered p.incoming.is_part a e
  -- the frames that are made can be spelled, and have the length of frames
  pub spellable : AllByRecursion IsSpellable p.made.items
  pub long : AllByRecursion HasFrameLength p.spelled.items
  -- what waited before the event still waits
  pub before : p.before ≤ length s.outbox.queue
  -- counts and positions stay in their range
  pub room : HasRoom s
  pub frames : s.made.frames + length p.made.items < 2 ^ 63
  pub position : s.made.position + pos p.made.items < 2 ^ 63
  pub held_position : end_of s.outbox.held + pos_by length p.spelled.items < 2 ^ 63
  -- room was made for the frames that are kept, and for a part of a message
  pub spare : FindsSpare s.outbox.room.spare p.spelled.items
  pub place : FindsPlaceFor s.parts p.incoming.is_part a e
  -- the lease lets a request start that is started
  pub starts : LetsStart (agrees_leases g s.setup) a s.lease
  -- what the event says on the streams can be said, and messages are gathered only where they are taken in
  pub says : CanSay s.streams a e (arrival_for p.incoming.covered (gathered_at s.parts) a e)
  pub heard : IsOfHeard (known_to s.streams) s.parts
