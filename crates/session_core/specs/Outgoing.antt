-- The frames of a call that is accepted.
use Rattle.std.specs.Prelude.{◌≡◌, ℕ, Bool, true, false, List, [], Option, None, if◌then◌else◌, ◌∷◌, Some, option_to_list}
use Rattle.rs_wire.specs.Words.{gone_word, rule_word}
use Rattle.rs_wire.specs.declared.call.Call.{Call}
use Rattle.rs_wire.specs.declared.call.Call.TheVariants as call
use Rattle.rs_wire.specs.declared.settings.Settings.{Settings}
use Rattle.rs_frame.specs.declared.frame.Frame.{Frame}
use Rattle.rs_frame.specs.declared.frame.Frame.TheVariants as frame
use Rattle.rs_frame.specs.Spelling.{IsSpellable}
use Rattle.tape.specs.declared.event.Event.{Event}
use Rattle.tape.specs.declared.event.Event.TheVariants as event
use Rattle.tape.specs.declared.answer.Answer.{Answer}
use Rattle.tape.specs.declared.answer.Answer.TheVariants as answer
use Rattle.stream_model.specs.Known.{Known}
use Rattle.fragment.specs.Splitting.{follows_of}
use Rattle.session_model.specs.Answers.{Facts}
use Rattle.session_model.specs.Frames.{closing_error, resume_frame, sent_as, setup_frame, spoken, tells}
use Rattle.session_model.specs.Life.{agrees_resumption}

-- the frame that an accepted opening begins with
abbrev pub greeting : Settings → Facts → Event → List Frame
greeting g t (event.Open None taken) = (if t.begun then resume_frame g t.handled.position t.first else setup_frame g) ∷ []
greeting g t (event.Open (Some (frame.Resume r)) taken) = frame.ResumeOk t.handled.position ∷ []
greeting g t _ = []

-- a KEEPALIVE of this end, which tells its position where resumption is agreed
abbrev pub keepalive : Settings → Facts → Bool → List ℕ → Frame
keepalive g t respond content = frame.Keepalive respond (tells (agrees_resumption g t.setup) t.handled.position) content

-- what answers a frame that is handled: a KEEPALIVE that asks for an answer gets its content back
abbrev pub answering : Settings → Facts → Frame → List Frame
answering g t (frame.Keepalive respond position content) = if respond then keepalive g t false content ∷ [] else []
answering g t f = []

-- the frame of the connection alone that a call makes
abbrev pub frame_beside : Call → Option Frame
frame_beside (call.Push metadata) = Some (frame.MetadataPush metadata)
frame_beside (call.Lease ttl count metadata) = Some (frame.Lease ttl count metadata)
frame_beside _ = None

-- what a call that is done puts in line for the connection alone
abbrev pub called_beside : Facts → Call → List Frame
called_beside t call.Close = if t.carrying then closing_error [] ∷ [] else []
called_beside t asked = option_to_list (frame_beside asked)

-- the frames of the connection that an event so answered puts in line, which no position counts
abbrev pub notices : Settings → Facts → Answer → Event → List Frame
notices g t (answer.Opened n) e = greeting g t e
notices g t (answer.Violation rule) e = closing_error (rule_word rule) ∷ []
notices g t (answer.ResumeRefused gone) (event.Came conn f) = closing_error (gone_word gone) ∷ []
notices g t answer.Handled (event.Came conn f) = answering g t f
notices g t answer.Sent e = keepalive g t true [] ∷ []
notices g t answer.Done (event.Asked asked) = called_beside t asked
notices g t _ e = []

-- the frames of a call
abbrev pub called : Settings → Known → ℕ → Event → List Frame
called g t id (event.Asked asked) = sent_as g (spoken t id asked)
called g t id _ = []

-- the frame of a call, before it is split
abbrev pub frame_called : Known → ℕ → Event → Option Frame
frame_called t id (event.Asked asked) = spoken t id asked
frame_called t id _ = None

-- the same by the answer to the call
abbrev pub frame_made : Known → Answer → Event → Option Frame
frame_made t (answer.Started id) e = frame_called t id e
frame_made t answer.Done e = frame_called t 0 e
frame_made t _ e = None

-- a frame that can be split
abbrev pub CanGo : Frame → Type 0
CanGo f = IsSpellable f × (follows_of f ≡ false)
