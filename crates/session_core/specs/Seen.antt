-- What callers see of a session.
use Rattle.std.specs.Prelude.{◌≡◌, ℕ, Bool, if◌then◌else◌, List, ◌∷◌, Option, Some, None, reverse}
use Rattle.rs_wire.specs.declared.settings.Settings.{Settings}
use Rattle.tape.specs.Answers.{leaves}
use Rattle.tape.specs.Told.{entry_of}
use Rattle.tape.specs.declared.event.Event.{Event}
use Rattle.tape.specs.declared.event.Event.TheVariants as event
use Rattle.tape.specs.declared.entry.Entry.{Entry}
use Rattle.tape.specs.declared.answer.Answer.{Answer}
use Rattle.tape.specs.declared.answer.Answer.TheVariants as answer
use Rattle.session_model.specs.Frames.{made, handled}
use Rattle.session_model.specs.Answers.{counted}
use Rattle.session_core.specs.declared.counts.Counts.{Counts}

pub record Seen : Type 0 where
  pub settings : Settings
  -- the newest first, whether the tape tells them or not
  pub entries : List Entry
  -- the tape tells its entries
  pub tells : Bool
  -- how many entries can be added without memory for the tape
  pub spare : ℕ

-- what a tape of these entries tells, the oldest first
abbrev pub told_by : Bool → List Entry → Option (List Entry)
told_by tells past = if tells then Some (reverse past) else None

-- the entries after an event and its answer
abbrev pub entries_after : ℕ → Event → Answer → List Entry → List Entry
entries_after who e a past = if leaves a then entry_of who e a ∷ past else past

-- the answer is this one, but for a full tape and out of memory
abbrev pub IsOrOutOfMemory : Answer → Answer → Type 0
IsOrOutOfMemory answer.TapeFull right = Unit {0}
IsOrOutOfMemory answer.OutOfMemory right = Unit {0}
IsOrOutOfMemory a right = a ≡ right

abbrev pub IsCutEvent : Event → Type 0
IsCutEvent (event.Cut conn) = Unit {0}
IsCutEvent _ = ⊥

abbrev pub IsNoDrawEvent : Event → Type 0
IsNoDrawEvent (event.Draw conn room) = ⊥
IsNoDrawEvent _ = Unit {0}

-- how many frames were made and handled, and the positions after them
abbrev pub counts_of : Settings → List Entry → Counts
counts_of g past = record {
  made_frames = (counted (made g past)).frames;
  made = (counted (made g past)).position;
  handled_frames = (counted (handled past)).frames;
  handled = (counted (handled past)).position;
}
