-- What comes on the live connection of a session that is not closed is handled, or closes it.
use Rattle.std.proofs.Common.{◌≡◌, ◌≤◌, ◌==◌, ℕ, Bool, true, false, List, [], Option, Some, None, refl, arith}
use Rattle.std.proofs.lemmas.Grind.{common_steps}
use Rattle.rs_wire.specs.declared.settings.Settings.{Settings}
use Rattle.rs_frame.specs.declared.frame.Frame.{Frame}
use Rattle.tape.specs.declared.event.Event.{Event}
use Rattle.tape.specs.declared.event.Event.TheVariants as event
use Rattle.tape.specs.declared.answer.Answer.{Answer}
use Rattle.tape.specs.declared.answer.Answer.TheVariants as answer
use Rattle.tape.specs.declared.entry.Entry.{Entry}
use Rattle.session_model.specs.Lists.{first_of}
use Rattle.session_model.specs.Life.{closed, closes, is_live, live, openings}
use Rattle.session_model.specs.Frames.{bad_in, brings}
use Rattle.session_model.specs.Answers.{facts}
use Rattle.session_model.specs.Legal.{LeavesEntry, Legal}
use Rattle.session_model.specs.Means.{Means}
use Rattle.session_model.proofs.Openings.{live_le}

pub first_none : {A : Type 0} (before after : Option A) → first_of before after ≡ None → (before ≡ None) × (after ≡ None)
first_none None after none = (refl, none)
first_none (Some why) after none = absurd (cc)

abbrev pub is_handled : Answer → Bool
is_handled answer.Handled = true
is_handled _ = false

-- an event that brings nothing on connection c
pub record IsQuiet (past : List Entry) (c : ℕ) (e : Event) : Type 0 where
  pub frames : brings past c e ≡ []
  pub bytes : bad_in past c e ≡ None

elsewhere : (past : List Entry) (conn c : ℕ) → is_live (live past) conn ≡ false → is_live (live past) c ≡ true → (conn == c) ≡ false
elsewhere past conn c off here = grind (arith, common_steps)

stray_came : (past : List Entry) (conn c : ℕ) (f : Frame) → (conn == c) ≡ false → IsQuiet past c (event.Came conn f)
stray_came past conn c f apart = record { frames = rw apart refl; bytes = refl }

stray_bad : (past : List Entry) (conn c rule : ℕ) → (conn == c) ≡ false → IsQuiet past c (event.Bad conn rule)
stray_bad past conn c rule apart = record { frames = refl; bytes = rw apart refl }

came_quiet : (g : Settings) (past : List Entry) (c : ℕ) (a : Answer) (conn : ℕ) (f : Frame) → LeavesEntry a
    → Means g (facts g past) (event.Came conn f) a → is_handled a ≡ false → is_live (live past) c ≡ true
    → closed g past ≡ None → closes g past a (event.Came conn f) ≡ None → IsQuiet past c (event.Came conn f)
unfolding facts
came_quiet g past c answer.Handled conn f leaves means idle here free stays = absurd (cc)
came_quiet g past c (answer.PeerError code) conn f leaves means idle here free stays = absurd (cc)
came_quiet g past c (answer.Violation rule) conn f leaves means idle here free stays = absurd (cc)
came_quiet g past c (answer.ResumeRefused why) conn f leaves means idle here free stays = absurd (cc)
came_quiet g past c (answer.OutBusy n) conn f leaves means idle here free stays = absurd (cc)
came_quiet g past c (answer.Stale n) conn f leaves means idle here free stays = stray_came past conn c f (elsewhere past conn c means here)
came_quiet g past c (answer.Closed why) conn f leaves means idle here free stays = absurd (cc)
came_quiet g past c a conn f leaves means idle here free stays = absurd means

bad_quiet : (g : Settings) (past : List Entry) (c : ℕ) (a : Answer) (conn rule : ℕ) → LeavesEntry a → Means g (facts g past) (event.Bad conn rule) a
    → is_live (live past) c ≡ true
    → closed g past ≡ None → closes g past a (event.Bad conn rule) ≡ None → IsQuiet past c (event.Bad conn rule)
unfolding facts
bad_quiet g past c (answer.Violation broken) conn rule leaves means here free stays = absurd (cc)
bad_quiet g past c (answer.OutBusy n) conn rule leaves means here free stays = absurd (cc)
bad_quiet g past c (answer.Stale n) conn rule leaves means here free stays = stray_bad past conn c rule (elsewhere past conn c means here)
bad_quiet g past c (answer.Closed why) conn rule leaves means here free stays = absurd (cc)
bad_quiet g past c a conn rule leaves means here free stays = absurd means

next_opening : (past : List Entry) (c : ℕ) (f : Frame) (taken : Bool) → live past ≤ openings past → is_live (live past) c ≡ true
    → IsQuiet past c (event.Open (Some f) taken)
next_opening past c f taken le here = record { frames = grind (arith, common_steps); bytes = refl }

-- what is not handled, and leaves the session as it is, brings nothing there
pub quiet : (g : Settings) (past : List Entry) (c : ℕ) (a : Answer) (e : Event) → Legal g past → LeavesEntry a → Means g (facts g past) e a
    → is_handled a ≡ false → is_live (live past) c ≡ true
    → first_of (closed g past) (closes g past a e) ≡ None → IsQuiet past c e
quiet g past c a (event.Open None taken) legal leaves means idle here free = record { frames = refl; bytes = refl }
quiet g past c a (event.Open (Some f) taken) legal leaves means idle here free = next_opening past c f taken (live_le g past legal) here
quiet g past c a (event.Cut conn) legal leaves means idle here free = record { frames = refl; bytes = refl }
quiet g past c a (event.Draw conn room) legal leaves means idle here free = record { frames = refl; bytes = refl }
quiet g past c a (event.Came conn f) legal leaves means idle here free =
    let both = first_none (closed g past) (closes g past a (event.Came conn f)) free in
    came_quiet g past c a conn f leaves means idle here both.0 both.1
quiet g past c a (event.Bad conn rule) legal leaves means idle here free =
    let both = first_none (closed g past) (closes g past a (event.Bad conn rule)) free in
    bad_quiet g past c a conn rule leaves means here both.0 both.1
quiet g past c a (event.Tick now) legal leaves means idle here free = record { frames = refl; bytes = refl }
quiet g past c a (event.Asked asked) legal leaves means idle here free = record { frames = refl; bytes = refl }
