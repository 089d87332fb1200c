-- When a session can be resumed, over its entries (RSocket 1.0, "Resuming Operation").
use Rattle.std.specs.Prelude.{◌≡◌, ◌≤◌, ◌==◌, ℕ, Bool, true, false, List, [], ◌∷◌, Option, Some, None}
use Rattle.rs_wire.specs.declared.settings.Settings.{Settings}
use Rattle.rs_wire.specs.declared.fault.Gone.{Gone}
use Rattle.rs_frame.specs.declared.frame.Frame.{Frame}
use Rattle.rs_frame.specs.declared.frame.Resume.{Resume}
use Rattle.tape.specs.declared.answer.Answer.TheVariants as answer
use Rattle.tape.specs.declared.event.Event.TheVariants as event
use Rattle.tape.specs.declared.entry.Entry.{Entry}
use Rattle.position.specs.Boundaries.{IsBoundary, pos}
use Rattle.session_model.specs.Life.{asked_token, carrying, closed, is_live, live, setup}
use Rattle.session_model.specs.Frames.{first, handled, made, resume_frame}

-- all that was made from the position on is held: it is a boundary of what was made, so none past its end, and none before what is held
pub record IsHeldFrom (g : Settings) (past : List Entry) (position : ℕ) : Type 0 where
  pub held : first g past ≤ position
  pub boundary : IsBoundary (made g past) position

-- a server can resume by this RESUME: the session is not closed, and its SETUP asked for resumption by the same token; the server holds what the
-- client has not handled, and the client what the server has not handled
pub record CanResume (g : Settings) (past : List Entry) (r : Resume) : Type 0 where
  pub free : closed g past ≡ None
  pub version : r.major ≡ 1
  pub same_token : asked_token (setup past) ≡ Some r.token
  pub server_holds : IsHeldFrom g past r.server_position
  pub client_holds : r.client_position ≤ pos (handled past)

-- a client can go on by a RESUME_OK of that position on a connection: it is the live one, and waits for it; the session is not closed, and the client
-- holds what the server has not handled
pub record CanGoOn (g : Settings) (past : List Entry) (conn position : ℕ) : Type 0 where
  pub here : is_live (live past) conn ≡ true
  pub waits : carrying g past ≡ false
  pub free : closed g past ≡ None
  pub client_holds : IsHeldFrom g past position

-- a connection is live and waits for RESUME_OK, and the session is not closed
pub record IsWaiting (g : Settings) (past : List Entry) : Type 0 where
  pub here : (live past == 0) ≡ false
  pub waits : carrying g past ≡ false
  pub free : closed g past ≡ None

-- the frames are one RESUME of this end's
abbrev pub IsResumeAlone : Settings → List Frame → Type 0
IsResumeAlone g frames = (position from : ℕ) × (frames ≡ resume_frame g position from ∷ [])

-- an opening whose RESUME is refused
abbrev pub refused_resume : ℕ → Option Frame → Bool → Gone → Entry
refused_resume who f taken why = record { who = who; event = event.Open f taken; answer = answer.ResumeRefused why }
