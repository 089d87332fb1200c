-- What is known of a call that is refused, or not.
use Rattle.std.proofs.Common.{◌≡◌, ◌≢◌, ℕ, List, [], ◌∷◌, Option, Some, None, refl, subst, sym}
use Rattle.rs_wire.specs.declared.fault.Refusal.{Refusal}
use Rattle.rs_wire.specs.declared.settings.Settings.{Settings}
use Rattle.rs_wire.specs.declared.call.Call.{Call}
use Rattle.rs_wire.specs.declared.call.Call.TheVariants as call
use Rattle.rs_frame.specs.declared.frame.Frame.{Frame}
use Rattle.rs_frame.specs.declared.frame.Frame.TheVariants as frame
use Rattle.fragment.specs.declared.size.SplitSize.{SplitSize}
use Rattle.stream_model.specs.declared.stream.Limits.{Limits}
use Rattle.stream_model.specs.Known.{Known, next_id}
use Rattle.stream_model.specs.Refused.{by_ids}
use Rattle.interactions.specs.Seen.{known_to}
use Rattle.session_model.specs.Frames.{in_fragments, spoken}
use Rattle.session_model.specs.Answers.{Facts, by_sending, refused_beside, refused_call, refused_frames, refused_sending}
use Rattle.session_model.proofs.Refusals.{unrefused}
use Rattle.session_core.specs.declared.state.State.{State}
use Rattle.session_core.specs.Fits.{AreLimits, facts_of}
use Rattle.session_core.specs.Outgoing.{frame_beside}
use Rattle.session_core.specs.Sizes.{size_alone, size_of_frames, size_sent}

-- the frames of a call are refused by their size
pub by_size_sent : (g : Settings) (t : Facts) (o : Option Frame) (n : SplitSize) (r : Option Refusal) → Some n ≡ size_sent g.mtu o
    → ((fs : List Frame) → n ≡ size_of_frames fs → r ≡ refused_frames g t fs) → r ≡ refused_sending g t o
by_size_sent g t None n r is refuses = absurd (cc)
by_size_sent g t (Some f) n r is refuses = refuses (in_fragments g.mtu f) (cc)

-- a call with a frame of the connection alone is refused for it
pub by_alone : (g : Settings) (t : Facts) (asked : Call) (n : SplitSize) (r : Option Refusal) → Some n ≡ size_alone (frame_beside asked)
    → ((f : Frame) → n ≡ size_of_frames (f ∷ []) → r ≡ refused_beside g t f) → r ≡ by_sending g t asked
by_alone g t (call.Push metadata) n r is refuses = refuses (frame.MetadataPush metadata) (cc)
by_alone g t (call.Lease ttl count metadata) n r is refuses = refuses (frame.Lease ttl count metadata) (cc)
by_alone g t asked n r is refuses = absurd (cc)

-- any other call but Close is refused for its frame
pub by_frame : (g : Settings) (t : Facts) (asked : Call) (r : Option Refusal) → asked ≢ call.Close → None ≡ size_alone (frame_beside asked)
    → ((k : Known) (id : ℕ) → r ≡ refused_sending g t (spoken k id asked)) → r ≡ by_sending g t asked
by_frame g t call.Close r other alone refuses = absurd (other refl)
by_frame g t (call.Push metadata) r other alone refuses = absurd (cc)
by_frame g t (call.Lease ttl count metadata) r other alone refuses = absurd (cc)
by_frame g t asked r other alone refuses = refuses t.streams (next_id g.side t.streams)

-- a request that is not refused has an id
pub ids_left : (g : Settings) (s : State) (asked : Call) → AreLimits g s → refused_call g (facts_of s) asked ≡ None → by_ids s.streams.limits (known_to s.streams) asked ≡ None
ids_left g s asked limits none = subst (λ (l : Limits). by_ids l (known_to s.streams) asked ≡ None) (sym limits) (unrefused g (facts_of s) asked none).ids
