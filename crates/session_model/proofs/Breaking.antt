-- What holds where a frame breaks no rule: each row of the rules alone, for each kind of frame.
use Rattle.std.proofs.Common.{◌≡◌, ◌≤◌, ◌+◌, ℕ, Bool, true, false, List, Some, None, arith}
use Rattle.std.proofs.lemmas.Grind.{common_steps}
use Rattle.rs_wire.specs.Message.{size_of}
use Rattle.rs_wire.specs.declared.settings.Settings.{Settings}
use Rattle.rs_frame.specs.declared.frame.Frame.{Frame}
use Rattle.rs_frame.specs.declared.frame.Frame.TheVariants as frame
use Rattle.rs_frame.specs.declared.frame.Request.{Request}
use Rattle.rs_frame.specs.Spelling.{length_of, is_resumable}
use Rattle.rs_frame.specs.Table.{flag}
use Rattle.stream_model.specs.Known.{is_peers_next, hears_on}
use Rattle.stream_model.specs.Arriving.{over_credit_on}
use Rattle.session_model.specs.declared.numbers.TheConstants.{MAY_IGNORE}
use Rattle.fragment.specs.Joining.{Gathered, with_part}
use Rattle.session_model.specs.Streams.{turned_away_for}
use Rattle.session_model.specs.Frames.{turned_away}
use Rattle.session_model.specs.Answers.{Facts, broken_rule, covered_by, is_ahead, payload_rule}
use Rattle.session_model.specs.Means.{MayCome}

-- a frame finds its place in the position of the frames handled
abbrev pub HandledFits : Settings → Facts → Frame → Type 0
HandledFits g t f = t.handled.position + length_of f ≤ g.top_position

pub record RequestUnbroken (g : Settings) (t : Facts) (r : Request) : Type 0 where
  pub next : is_peers_next g.side t.streams r.stream ≡ true
  pub small : size_of r.message ≤ g.max_payload
  pub handled : HandledFits g t (frame.Request r)
  -- the ERROR that answers it, where it opens no stream, finds its place too
  pub answered : (word : List ℕ) → turned_away_for g (covered_by g t) t.streams r ≡ Some word → t.made.position + length_of (turned_away r.stream word) ≤ g.top_position

-- a payload that makes so much of its message
pub record PayloadUnbroken (g : Settings) (t : Facts) (s : ℕ) (follows : Bool) (sum : Gathered) (f : Frame) : Type 0 where
  -- where it makes the message whole
  pub credit : follows ≡ false → over_credit_on (t.streams.kept s) sum.next ≡ None
  pub small : hears_on (t.streams.kept s) ≡ true → size_of sum.message ≤ g.max_payload
  pub handled : HandledFits g t f

-- what holds of a frame that breaks no rule
abbrev pub Unbroken : Settings → Facts → Frame → Type 0
Unbroken g t (frame.Request r) = RequestUnbroken g t r
Unbroken g t (frame.Payload s follows complete next message) =
    PayloadUnbroken g t s follows (with_part (t.unfinished s) message complete next) (frame.Payload s follows complete next message)
Unbroken g t (frame.RequestN s n) = HandledFits g t (frame.RequestN s n)
Unbroken g t (frame.Cancel s) = HandledFits g t (frame.Cancel s)
Unbroken g t (frame.Error s code content) = HandledFits g t (frame.Error s code content)
Unbroken g t (frame.Keepalive respond position content) = is_ahead g t position ≡ false
Unbroken g t (frame.Lease ttl count metadata) = Unit {0}
Unbroken g t (frame.MetadataPush metadata) = Unit {0}
Unbroken g t (frame.Unknown stream number flags rest) = flag MAY_IGNORE flags ≡ true
Unbroken g t (frame.Ext stream flags extended rest) = flag MAY_IGNORE flags ≡ true
Unbroken g t _ = ⊥

request_unbroken : (g : Settings) (t : Facts) (r : Request) → broken_rule g t (frame.Request r) ≡ None → RequestUnbroken g t r
unfolding broken_rule
request_unbroken g t r none =
    record {
      next = grind (arith, common_steps);
      small = grind (arith, common_steps);
      handled = grind (arith, common_steps);
      answered = λ word is. grind (arith, common_steps);
    }

payload_unbroken : (g : Settings) (t : Facts) (s : ℕ) (follows : Bool) (sum : Gathered) (f : Frame) → payload_rule g t s follows sum f ≡ None → PayloadUnbroken g t s follows sum f
payload_unbroken g t s follows sum f none =
    record {
      credit = λ whole. grind (arith, common_steps);
      small = λ hears. grind (arith, common_steps);
      handled = grind (arith, common_steps);
    }

pub unbroken : (g : Settings) (t : Facts) (f : Frame) → broken_rule g t f ≡ None → Unbroken g t f
unfolding broken_rule
unbroken g t (frame.Request r) none = request_unbroken g t r none
unbroken g t (frame.Payload s follows complete next message) none = payload_unbroken g t s follows (with_part (t.unfinished s) message complete next) (frame.Payload s follows complete next message) none
unbroken g t (frame.RequestN s n) none = grind (arith, common_steps)
unbroken g t (frame.Cancel s) none = grind (arith, common_steps)
unbroken g t (frame.Error s code content) none = grind (arith, common_steps)
unbroken g t (frame.Keepalive respond position content) none = grind (arith, common_steps)
unbroken g t (frame.Lease ttl count metadata) none = tt
unbroken g t (frame.MetadataPush metadata) none = tt
unbroken g t (frame.Unknown stream number flags rest) none = grind (arith, common_steps)
unbroken g t (frame.Ext stream flags extended rest) none = grind (arith, common_steps)
unbroken g t f none = absurd (cc)

-- a frame that counts and breaks no rule finds its place
pub handled_fits : (g : Settings) (t : Facts) (f : Frame) → broken_rule g t f ≡ None → is_resumable f ≡ true → HandledFits g t f
handled_fits g t f none counts = let u = unbroken g t f none in grind (arith, common_steps)

-- and so does one that counts and may come
pub may_fit : (g : Settings) (t : Facts) (f : Frame) → MayCome g t f → is_resumable f ≡ true → HandledFits g t f
may_fit g t (frame.ResumeOk position) may counts = absurd (cc)
may_fit g t f may counts = handled_fits g t f may.1 counts
