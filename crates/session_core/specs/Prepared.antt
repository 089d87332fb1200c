-- What is made before anything changes.
use Rattle.std.specs.Prelude.{◌≡◌, ℕ, if◌then◌else◌, false, List, [], ◌++◌, length, drop, map, None}
use Rattle.std.specs.List.{AllByRecursion}
use Rattle.rs_wire.specs.declared.settings.Settings.{Settings}
use Rattle.rs_frame.specs.Spelling.{IsSpellable, canonical}
use Rattle.tape.specs.declared.event.Event.{Event}
use Rattle.tape.specs.declared.answer.Answer.{Answer}
use Rattle.tape.specs.declared.answer.Answer.TheVariants as answer
use Rattle.session_model.specs.Life.{live_after, setup_in}
use Rattle.session_model.specs.Frames.{makes}
use Rattle.stream_model.specs.Known.{limits_of}
use Rattle.interactions.specs.Seen.{known_to}
use Rattle.reassembly.specs.Gathering.{ReassemblyView}
use Rattle.outbox.specs.Waiting.{nothing_waits}
use Rattle.session_core.specs.Gathering.{ready_for}
use Rattle.session_core.specs.Kept.{HasFrameLength, keeps}
use Rattle.session_core.specs.Leasing.{covers_next}
use Rattle.session_core.specs.Line.{line_of}
use Rattle.session_core.specs.Queued.{is_connected}
use Rattle.session_core.specs.Timing.{begun_at}
use Rattle.session_core.specs.declared.state.State.{State}
use Rattle.session_core.specs.declared.state.Prepared.{Prepared}

-- what is put in line where a connection is live
abbrev pub lined_on : ℕ → List ℕ → List ℕ
lined_on live bytes = if is_connected live then bytes else []

-- these need memory, and the state does not change by them
pub record AreReady (g : Settings) (old : State) (e : Event) (a : Answer) (p : Prepared) : Type 0 where
  pub setup : p.setup ≡ setup_in a e
  pub made : p.made.items ≡ makes g (covers_next g old) (known_to old.streams) a e
  pub spelled : p.spelled.items ≡ map canonical (keeps g old a e)
  pub long : AllByRecursion HasFrameLength p.spelled.items
  pub arrival : p.incoming.arrival ≡ ready_for p.incoming.covered p.incoming.is_part a e
  pub covered : p.incoming.covered ≡ covers_next g old
  pub spellable : AllByRecursion IsSpellable p.made.items
  pub before : p.before ≡ length old.outbox.queue

-- what the event puts in line stands after what waits
abbrev pub with_line : Settings → State → Event → Answer → State
with_line g old e a = record old { outbox = record old.outbox { queue = old.outbox.queue ++ lined_on (live_after a old.live) (line_of g old a e) } }

-- what stays in line: on an opened connection what was put in line for it, on one that is parted or whose peer is dead nothing
abbrev pub left_in_line : Answer → ℕ → List ℕ → List ℕ
left_in_line (answer.Opened n) before queue = drop before queue
left_in_line answer.Parted before queue = []
left_in_line (answer.Dead last) before queue = []
left_in_line _ before queue = queue

-- a session of which nothing happened yet
abbrev pub nothing_yet : Settings → ReassemblyView → State
nothing_yet g parts = record {
  openings = 0;
  live = 0;
  carrying = false;
  begun = false;
  setup = None;
  closed = None;
  made = record { frames = 0; position = 0 };
  handled = record { frames = 0; position = 0 };
  outbox = nothing_waits g.hold;
  streams = record { limits = limits_of g; marks = []; ready = None };
  parts = parts;
  timer = begun_at g None 0;
  lease = None;
  granted = record { granted = 0; admitted = 0 };
}
