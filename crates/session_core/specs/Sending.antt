-- Calls that go out in one frame.
use Rattle.std.specs.Prelude.{◌≡◌, ◌<◌, ◌^◌, ◌||◌, ◌+◌, ◌==◌, ◌++◌, ◌∷◌, [], ℕ, Bool, true, false, length, option_to_list, Option, Some, None, IfSome}
use Rattle.rs_wire.specs.declared.settings.Settings.{Settings}
use Rattle.rs_wire.specs.declared.call.Call.{Call}
use Rattle.rs_wire.specs.declared.call.Call.TheVariants as call
use Rattle.rs_frame.specs.declared.frame.Frame.{Frame}
use Rattle.rs_frame.specs.declared.frame.Frame.TheVariants as frame
use Rattle.rs_frame.specs.Framed.{framed_all}
use Rattle.rs_frame.specs.Spelling.{IsSpellable, length_of}
use Rattle.position.specs.Boundaries.{pos}
use Rattle.tape.specs.declared.event.Event.TheVariants as event
use Rattle.tape.specs.declared.answer.Answer.{Answer}
use Rattle.tape.specs.declared.answer.Answer.TheVariants as answer
use Rattle.stream_model.specs.Known.{Known, hears_on, is_open_response, next_id}
use Rattle.stream_model.specs.Arriving.{no_message}
use Rattle.interactions.specs.Seen.{Seen, acted, known_to}
use Rattle.reassembly.specs.Gathering.{ReassemblyView, gathered_at, has_part_at}
use Rattle.replay_buffer.specs.Held.{Held, end_of}
use Rattle.outbox.specs.Waiting.{Waiting}
use Rattle.lease.specs.declared.requester.Terms.{Terms}
use Rattle.session_model.specs.Answers.{refused_call}
use Rattle.session_model.specs.Frames.{if_agreed, makes, request_frame, spoken}
use Rattle.session_core.specs.Fits.{facts_of}
use Rattle.session_core.specs.Kept.{HoldsMore}
use Rattle.session_core.specs.Leasing.{covers_next}
use Rattle.session_core.specs.declared.sending.Single.{Single}
use Rattle.session_core.specs.Queued.{is_connected}
use Rattle.session_core.specs.declared.state.State.{State}

-- frames go out at once
pub record GoesOut (s : State) : Type 0 where
  pub carries : s.carrying ≡ true
  pub connected : is_connected s.live ≡ true

-- a call is accepted where frames go out at once
pub record MaySend (g : Settings) (s : State) (asked : Call) : Type 0 where
  pub out : GoesOut s
  pub accepted : refused_call g (facts_of s) asked ≡ None

-- the id of the next request of this end
abbrev pub own_next : Seen → ℕ
own_next v = next_id v.limits.side (known_to v)

-- a call that says something on that stream: a request on the next one of this end
abbrev pub IsCallOn : (next : ℕ) → Call → ℕ → Type 0
IsCallOn next (call.Request kind initial message complete) on = on ≡ next
IsCallOn next (call.Next s message complete) on = on ≡ s
IsCallOn next (call.Done s) on = on ≡ s
IsCallOn next (call.Grant s n) on = on ≡ s
IsCallOn next (call.Cancel s) on = on ≡ s
IsCallOn next (call.Fail s code content) on = on ≡ s
IsCallOn next _ on = ⊥

-- the answer to such a call: a request starts its stream
abbrev pub answer_on : Call → ℕ → Answer
answer_on (call.Request kind initial message complete) on = answer.Started on
answer_on _ on = answer.Done

-- the frame of a request or a payload says that this end sends nothing more on its stream; that of a response always does
abbrev pub is_last : Known → Call → Bool
is_last t (call.Request kind initial message complete) = complete
is_last t (call.Next s message complete) = complete || is_open_response (t.kept s)
is_last t _ = false

-- the frame of a call on that stream, in which a request or a payload says whether it is the last of this end
abbrev pub frame_on : ℕ → Bool → Call → Option Frame
frame_on on last (call.Request kind initial message complete) = Some (request_frame on kind initial message last)
frame_on on last (call.Next s message complete) = Some (frame.Payload on false last true message)
frame_on on last (call.Done s) = Some (frame.Payload on false true false no_message)
frame_on on last (call.Grant s n) = Some (frame.RequestN on n)
frame_on on last (call.Cancel s) = Some (frame.Cancel on)
frame_on on last (call.Fail s code content) = Some (frame.Error on code content)
frame_on on last _ = None

-- a call on that stream makes one frame, of that length
pub record Sends (g : Settings) (s : State) (asked : Call) (on n : ℕ) : Type 0 where
  pub may : MaySend g s asked
  pub alone : makes g (covers_next g s) (known_to s.streams) (answer_on asked on) (event.Asked asked) ≡ option_to_list (spoken (known_to s.streams) on asked)
  pub one : length (makes g (covers_next g s) (known_to s.streams) (answer_on asked on) (event.Asked asked)) ≡ 1
  pub long : pos (makes g (covers_next g s) (known_to s.streams) (answer_on asked on) (event.Asked asked)) ≡ n

-- of that stream nothing is kept where messages are not taken in any more, of any other all
pub record LetsGo (t : Known) (on : ℕ) (old new : ReassemblyView) : Type 0 where
  pub heard : (s : ℕ) → hears_on (t.kept s) ≡ true → gathered_at new s ≡ gathered_at old s
  pub over : (s : ℕ) → (on == s) ≡ true → hears_on (t.kept s) ≡ false → has_part_at new s ≡ false
  pub others : (s : ℕ) → (on == s) ≡ false → has_part_at new s ≡ has_part_at old s

-- a call on that stream makes this one frame
pub record IsSingle (g : Settings) (s : State) (asked : Call) (on : ℕ) (single : Single) : Type 0 where
  pub sends : Sends g s asked on single.count
  pub frame : frame_on on single.last asked ≡ spoken (known_to s.streams) on asked
  pub spellable : IfSome (spoken (known_to s.streams) on asked) IsSpellable

-- the frame ends at a position that can be told, where it is kept next
abbrev pub FindsPosition : Held → Frame → Type 0
FindsPosition h f = end_of h + length_of f < 2 ^ 63

-- the frame was put in line last, and is kept where frames are kept
pub record IsLined (keeps : Bool) (f : Frame) (old new : Waiting) : Type 0 where
  pub queue : new.queue ≡ old.queue ++ framed_all (f ∷ [])
  pub held : HoldsMore old.held (if_agreed keeps (f ∷ [])) 0 new.held
  pub hold : new.held.hold ≡ old.held.hold

-- the state after a call that made one frame of that length, where these parts, these frames and this lease are kept
abbrev pub spoken_after : State → Call → ℕ → ReassemblyView → Waiting → Option Terms → State
spoken_after s asked n parts kept lease = record s {
  made = record { frames = s.made.frames + 1; position = s.made.position + n };
  streams = acted s.streams asked;
  parts = parts;
  outbox = record s.outbox { held = kept.held; room = kept.room };
  lease = lease;
}

-- a call whose copy takes memory
abbrev pub carries_bytes : Call → Bool
carries_bytes (call.Request kind initial message complete) = true
carries_bytes (call.Next s message complete) = true
carries_bytes (call.Fail s code content) = true
carries_bytes (call.Push metadata) = true
carries_bytes (call.Lease ttl count metadata) = true
carries_bytes _ = false
