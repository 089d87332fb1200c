-- The names of frame types (RSocket 1.0, "Frame Types").
use Rattle.std.specs.Prelude.{ℕ, List, codes}
use Rattle.rs_wire.specs.declared.words.Kind.{Kind}
use Rattle.rs_wire.specs.declared.words.Kind.TheVariants as kinds
use Rattle.rs_frame.specs.declared.frame.Frame.{Frame}
use Rattle.rs_frame.specs.declared.frame.Frame.TheVariants as frames

-- the name of a request
abbrev pub kind_name : Kind → List ℕ
kind_name kinds.Response = codes "REQUEST_RESPONSE"
kind_name kinds.Fnf = codes "REQUEST_FNF"
kind_name kinds.Stream = codes "REQUEST_STREAM"
kind_name kinds.Channel = codes "REQUEST_CHANNEL"

-- the name of a frame's type
abbrev pub frame_name : Frame → List ℕ
frame_name (frames.Setup s) = codes "SETUP"
frame_name (frames.Lease ttl count metadata) = codes "LEASE"
frame_name (frames.Keepalive respond position content) = codes "KEEPALIVE"
frame_name (frames.MetadataPush metadata) = codes "METADATA_PUSH"
frame_name (frames.Resume r) = codes "RESUME"
frame_name (frames.ResumeOk position) = codes "RESUME_OK"
frame_name (frames.Ext stream flags extended rest) = codes "EXT"
frame_name (frames.Request r) = kind_name r.kind
frame_name (frames.RequestN stream n) = codes "REQUEST_N"
frame_name (frames.Cancel stream) = codes "CANCEL"
frame_name (frames.Payload stream follows complete next message) = codes "PAYLOAD"
frame_name (frames.Error stream code content) = codes "ERROR"
frame_name (frames.Unknown stream number flags rest) = codes "UNKNOWN"
