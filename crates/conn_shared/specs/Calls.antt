-- What a call adds to what its caller has seen. Entries stand newest first.
use Rattle.std.specs.Prelude.{◌≡◌, ◌↔◌, ◌≤◌, ◌^◌, ℕ, List, length, take, drop}
use Rattle.rs_wire.specs.declared.settings.Settings.{Settings}
use Rattle.rs_frame.specs.Framed.{framed_all}
use Rattle.tape.specs.declared.event.Event.{Event}
use Rattle.tape.specs.declared.event.Event.TheVariants as event
use Rattle.tape.specs.declared.answer.Answer.{Answer}
use Rattle.tape.specs.declared.answer.Answer.TheVariants as answer
use Rattle.tape.specs.declared.entry.Entry.{Entry}
use Rattle.session_model.specs.Answers.{answer_to}
use Rattle.session_model.specs.Frames.{due, drawn}
use Rattle.session_core.specs.Seen.{IsOrOutOfMemory, entries_after}
use Rattle.session_core.specs.Queued.{IfDrawn}
use Rattle.conn_shared.specs.Members.{Follows, Knowledge}

-- An event of the caller with this number, after these entries, and its answer.
pub record IsStep (g : Settings) (number : ℕ) (before : List Entry) (e : Event) (a : Answer) (new : List Entry) : Type 0 where
  -- its entry is the one that is added, where the answer leaves one
  pub after : new ≡ entries_after number e a before
  pub answered : IsOrOutOfMemory a (answer_to g before e)
  pub full : (a ≡ answer.TapeFull) ↔ (2 ^ 63 ≤ length before)

-- A call of this caller, whose front becomes `new`.
pub record IsCalled (g : Settings) (caller : Knowledge) (e : Event) (a : Answer) (new : List Entry) : Type 0 where
  -- the entries that stood before it: the front that the caller had, and then entries of others
  pub before : List Entry
  pub follows : Follows caller.names caller.front before
  pub step : IsStep g caller.number before e a new

-- the bytes drawn are the next ones due on the connection
abbrev pub AreNext : Settings → List Entry → ℕ → Answer → List ℕ → Type 0
AreNext g before conn a buffer =
    IfDrawn a (λ n. take n buffer ≡ take n (drop (drawn before conn) (framed_all (due g before conn))))

-- A draw of this caller, into a buffer with so much room.
pub record IsDrawCall (g : Settings) (caller : Knowledge) (conn room : ℕ) (a : Answer) (buffer : List ℕ) (new : List Entry) : Type 0 where
  pub before : List Entry
  pub follows : Follows caller.names caller.front before
  pub step : IsStep g caller.number before (event.Draw conn room) a new
  pub bytes : AreNext g before conn a buffer
