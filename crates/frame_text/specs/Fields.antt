-- The fields of a frame as they lie in a line, and the frame whose fields they are.
use Rattle.std.specs.Prelude.{ℕ, ◌⊎◌, List, IsTrue}
use Rattle.rs_wire.specs.declared.message.Message.{Message}
use Rattle.rs_frame.specs.declared.frame.Frame.{Frame}
use Rattle.rs_frame.specs.declared.frame.Frame.TheVariants as frames
use Rattle.frame_text.specs.declared.fields.MessageWords.{MessageWords}
use Rattle.frame_text.specs.declared.fields.Fields.{Fields}
use Rattle.frame_text.specs.declared.fields.Fields.TheVariants as fields
use Rattle.frame_text.specs.Spelled.{bytes_of, is_blob, is_dash, option_of}

abbrev pub message_from : MessageWords → Message
message_from m = record { metadata = option_of m.metadata.now; content = bytes_of m.content.now }

-- the frame whose bytes the words spell
abbrev pub frame_of : Fields → Frame
frame_of (fields.Setup s) = frames.Setup (record {
  resume = option_of s.token.now;
  lease = s.lease;
  major = s.major;
  minor = s.minor;
  keepalive = s.keepalive;
  lifetime = s.lifetime;
  metadata_mime = bytes_of s.metadata_mime.now;
  content_mime = bytes_of s.content_mime.now;
  message = message_from s.message;
})
frame_of (fields.Lease ttl count metadata) = frames.Lease ttl count (option_of metadata.now)
frame_of (fields.Keepalive respond position content) = frames.Keepalive respond position (bytes_of content.now)
frame_of (fields.MetadataPush metadata) = frames.MetadataPush (bytes_of metadata.now)
frame_of (fields.Resume r) = frames.Resume (record {
  major = r.major;
  minor = r.minor;
  token = bytes_of r.token.now;
  server_position = r.server_position;
  client_position = r.client_position;
})
frame_of (fields.ResumeOk position) = frames.ResumeOk position
frame_of (fields.Ext stream flags extended rest) = frames.Ext stream flags extended (bytes_of rest.now)
frame_of (fields.Request r) = frames.Request (record {
  stream = r.stream;
  kind = r.kind;
  follows = r.follows;
  complete = r.complete;
  initial = r.initial;
  message = message_from r.message;
})
frame_of (fields.RequestN stream n) = frames.RequestN stream n
frame_of (fields.Cancel stream) = frames.Cancel stream
frame_of (fields.Payload stream follows complete next message) = frames.Payload stream follows complete next (message_from message)
frame_of (fields.Error stream code content) = frames.Error stream code (bytes_of content.now)
frame_of (fields.Unknown stream number flags rest) = frames.Unknown stream number flags (bytes_of rest.now)

-- a word is the text of bytes, or says that they are absent
abbrev pub IsOption : List ℕ → Type 0
IsOption word = IsTrue (is_dash word) ⊎ IsTrue (is_blob word)

abbrev pub IsMessage : MessageWords → Type 0
IsMessage m = IsOption m.metadata.now × IsTrue (is_blob m.content.now)

-- each word of bytes is one
abbrev pub AreBlobs : Fields → Type 0
AreBlobs (fields.Setup s) = IsOption s.token.now × IsTrue (is_blob s.metadata_mime.now) × IsTrue (is_blob s.content_mime.now) × IsMessage s.message
AreBlobs (fields.Lease ttl count metadata) = IsOption metadata.now
AreBlobs (fields.Keepalive respond position content) = IsTrue (is_blob content.now)
AreBlobs (fields.MetadataPush metadata) = IsTrue (is_blob metadata.now)
AreBlobs (fields.Resume r) = IsTrue (is_blob r.token.now)
AreBlobs (fields.ResumeOk position) = Unit {0}
AreBlobs (fields.Ext stream flags extended rest) = IsTrue (is_blob rest.now)
AreBlobs (fields.Request r) = IsMessage r.message
AreBlobs (fields.RequestN stream n) = Unit {0}
AreBlobs (fields.Cancel stream) = Unit {0}
AreBlobs (fields.Payload stream follows complete next message) = IsMessage message
AreBlobs (fields.Error stream code content) = IsTrue (is_blob content.now)
AreBlobs (fields.Unknown stream number flags rest) = IsTrue (is_blob rest.now)
