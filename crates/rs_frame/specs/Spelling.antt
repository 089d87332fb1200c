-- The grammar: which bytes spell a frame, by the row of its type, field by field (RSocket 1.0, "Framing
-- Format" and "Frame Types", with RESUME and RESUME_OK of "Resuming Operation").
use Rattle.std.specs.Prelude.{◌≡◌, ℕ, ◌+◌, ◌*◌, ◌^◌, ◌<◌, Bool, true, false, nat_lt, List, [], ◌++◌, length, Option, Some, None, is_some, IfSome, if◌then◌else◌}
use Rattle.byteorder.specs.Endian.{big_bytes}
use Rattle.rs_wire.specs.declared.message.Message.{Message}
use Rattle.rs_wire.specs.declared.words.Kind.{Kind}
use Rattle.rs_wire.specs.declared.words.Kind.TheVariants as kinds
use Rattle.rs_frame.specs.declared.frame.Frame.{Frame}
use Rattle.rs_frame.specs.declared.frame.Frame.TheVariants as frames
use Rattle.rs_frame.specs.declared.row.Row.TheVariants as rows
use Rattle.rs_frame.specs.Table.{flag, row_of}

-- the type number of a request
abbrev pub kind_number : Kind → ℕ
kind_number kinds.Response = 0x04
kind_number kinds.Fnf = 0x05
kind_number kinds.Stream = 0x06
kind_number kinds.Channel = 0x07

-- the type number of a frame
abbrev pub number_of : Frame → ℕ
number_of (frames.Setup s) = 0x01
number_of (frames.Lease ttl count metadata) = 0x02
number_of (frames.Keepalive respond position content) = 0x03
number_of (frames.MetadataPush metadata) = 0x0c
number_of (frames.Resume r) = 0x0d
number_of (frames.ResumeOk position) = 0x0e
number_of (frames.Ext stream flags extended rest) = 0x3f
number_of (frames.Request r) = kind_number r.kind
number_of (frames.RequestN stream n) = 0x08
number_of (frames.Cancel stream) = 0x09
number_of (frames.Payload stream follows complete next message) = 0x0a
number_of (frames.Error stream code content) = 0x0b
number_of (frames.Unknown stream number flags rest) = number

-- the stream id of a frame; 0 is the connection
abbrev pub stream_of : Frame → ℕ
stream_of (frames.Setup s) = 0
stream_of (frames.Lease ttl count metadata) = 0
stream_of (frames.Keepalive respond position content) = 0
stream_of (frames.MetadataPush metadata) = 0
stream_of (frames.Resume r) = 0
stream_of (frames.ResumeOk position) = 0
stream_of (frames.Ext stream flags extended rest) = stream
stream_of (frames.Request r) = r.stream
stream_of (frames.RequestN stream n) = stream
stream_of (frames.Cancel stream) = stream
stream_of (frames.Payload stream follows complete next message) = stream
stream_of (frames.Error stream code content) = stream
stream_of (frames.Unknown stream number flags rest) = stream

-- the flags that the row names, in this flags word
abbrev pub HasFlags : Frame → ℕ → Type 0
HasFlags (frames.Setup s) flags =
    (flag 0x100 flags ≡ is_some s.message.metadata) × (flag 0x80 flags ≡ is_some s.resume) × (flag 0x40 flags ≡ s.lease)
HasFlags (frames.Request r) flags =
    (flag 0x100 flags ≡ is_some r.message.metadata) × (flag 0x80 flags ≡ r.follows)
    × (r.kind ≡ kinds.Channel → flag 0x40 flags ≡ r.complete)
HasFlags (frames.RequestN stream n) flags = Unit {0}
HasFlags (frames.Cancel stream) flags = Unit {0}
HasFlags (frames.Payload stream follows complete next message) flags =
    (flag 0x100 flags ≡ is_some message.metadata) × (flag 0x80 flags ≡ follows)
    × (flag 0x40 flags ≡ complete) × (flag 0x20 flags ≡ next)
HasFlags (frames.Error stream code content) flags = Unit {0}
HasFlags (frames.Lease ttl count metadata) flags = flag 0x100 flags ≡ is_some metadata
HasFlags (frames.Keepalive respond position content) flags = flag 0x80 flags ≡ respond
HasFlags (frames.MetadataPush metadata) flags = Unit {0}
HasFlags (frames.Resume r) flags = Unit {0}
HasFlags (frames.ResumeOk position) flags = Unit {0}
HasFlags (frames.Ext stream kept extended rest) flags = flags ≡ kept
HasFlags (frames.Unknown stream number kept rest) flags = flags ≡ kept

-- a length of n bytes, and the bytes
abbrev pub counted_bytes : ℕ → List ℕ → List ℕ
counted_bytes n bytes = big_bytes n (length bytes) ++ bytes

-- the bytes of a field that may be missing
abbrev pub if_there : ℕ → Option (List ℕ) → List ℕ
if_there n None = []
if_there n (Some bytes) = counted_bytes n bytes

-- metadata after its length, where there is any, and content to the end ("Metadata Optional Header")
abbrev pub payload : Message → List ℕ
payload m = if_there 3 m.metadata ++ m.content

-- a number of four bytes, where there is one
abbrev pub number_there : Option ℕ → List ℕ
number_there None = []
number_there (Some n) = big_bytes 4 n

-- bytes to the end, where there are any
abbrev pub to_end : Option (List ℕ) → List ℕ
to_end None = []
to_end (Some bytes) = bytes

-- the fields after the header, in order
abbrev pub body_of : Frame → List ℕ
body_of (frames.Setup s) =
    big_bytes 2 s.major ++ (big_bytes 2 s.minor ++ (big_bytes 4 s.keepalive ++ (big_bytes 4 s.lifetime
    ++ (if_there 2 s.resume ++ (counted_bytes 1 s.metadata_mime ++ (counted_bytes 1 s.content_mime
    ++ payload s.message))))))
body_of (frames.Request r) = number_there r.initial ++ payload r.message
body_of (frames.RequestN stream n) = big_bytes 4 n
body_of (frames.Cancel stream) = []
body_of (frames.Payload stream follows complete next message) = payload message
body_of (frames.Error stream code content) = big_bytes 4 code ++ content
body_of (frames.Lease ttl count metadata) = big_bytes 4 ttl ++ (big_bytes 4 count ++ to_end metadata)
body_of (frames.Keepalive respond position content) = big_bytes 8 position ++ content
body_of (frames.MetadataPush metadata) = metadata
body_of (frames.Resume r) =
    big_bytes 2 r.major ++ (big_bytes 2 r.minor ++ (counted_bytes 2 r.token
    ++ (big_bytes 8 r.server_position ++ big_bytes 8 r.client_position)))
body_of (frames.ResumeOk position) = big_bytes 8 position
body_of (frames.Ext stream flags extended rest) = big_bytes 4 extended ++ rest
body_of (frames.Unknown stream number flags rest) = rest

-- above 0, and of 31 bits
abbrev pub IsStream : ℕ → Type 0
IsStream n = (0 < n) × (n < 2 ^ 31)

-- the length of the metadata fits in three bytes
abbrev pub MessageFits : Message → Type 0
MessageFits m = IfSome m.metadata (λ metadata. length metadata < 2 ^ 24)

-- a stream or a channel has an initial number, and no other request; a channel alone is complete at once
abbrev pub InitialFits : Kind → Option ℕ → Bool → Type 0
InitialFits kinds.Response initial complete = (initial ≡ None) × (complete ≡ false)
InitialFits kinds.Fnf initial complete = (initial ≡ None) × (complete ≡ false)
InitialFits kinds.Stream initial complete = (n : ℕ) × (initial ≡ Some n) × IsStream n × (complete ≡ false)
InitialFits kinds.Channel initial complete = (n : ℕ) × (initial ≡ Some n) × IsStream n

-- each field is in its range
abbrev pub FieldsFit : Frame → Type 0
FieldsFit (frames.Setup s) =
    (s.major < 2 ^ 16) × (s.minor < 2 ^ 16) × IsStream s.keepalive × IsStream s.lifetime
    × IfSome s.resume (λ token. length token < 2 ^ 16)
    × (length s.metadata_mime < 2 ^ 8) × (length s.content_mime < 2 ^ 8) × MessageFits s.message
FieldsFit (frames.Request r) = IsStream r.stream × InitialFits r.kind r.initial r.complete × MessageFits r.message
FieldsFit (frames.RequestN stream n) = IsStream stream × IsStream n
FieldsFit (frames.Cancel stream) = IsStream stream
FieldsFit (frames.Payload stream follows complete next message) = IsStream stream × MessageFits message
FieldsFit (frames.Error stream code content) = (stream < 2 ^ 31) × (code < 2 ^ 32)
FieldsFit (frames.Lease ttl count metadata) = (ttl < 2 ^ 31) × (count < 2 ^ 31)
FieldsFit (frames.Keepalive respond position content) = position < 2 ^ 63
FieldsFit (frames.MetadataPush metadata) = Unit {0}
FieldsFit (frames.Resume r) = (r.major < 2 ^ 16) × (r.minor < 2 ^ 16) × (length r.token < 2 ^ 16) × (r.server_position < 2 ^ 63) × (r.client_position < 2 ^ 63)
FieldsFit (frames.ResumeOk position) = position < 2 ^ 63
FieldsFit (frames.Ext stream flags extended rest) = (stream < 2 ^ 31) × (flags < 1024) × (extended < 2 ^ 31)
FieldsFit (frames.Unknown stream number flags rest) = (stream < 2 ^ 31) × (number < 64) × (row_of number ≡ rows.Unknown) × (flags < 1024)

-- the header, and what follows it
abbrev pub with_header : ℕ → ℕ → ℕ → List ℕ → List ℕ
with_header stream number flags rest = big_bytes 4 stream ++ (big_bytes 2 (number * 1024 + flags) ++ rest)

-- the bytes spell the frame; the flags that the row does not name have any value
pub record Spells (f : Frame) (bytes : List ℕ) : Type 0 where
  pub fits : FieldsFit f
  pub flags : ℕ
  pub flags_fit : flags < 1024
  pub named : HasFlags f flags
  pub bytes_are : bytes ≡ with_header (stream_of f) (number_of f) flags (body_of f)

-- a bit where it is set
abbrev pub bit_if : Bool → ℕ → ℕ
bit_if b n = if b then n else 0

-- the flags that the row names, and 0 in the others; METADATA_PUSH has M
abbrev pub flags_of : Frame → ℕ
flags_of (frames.Setup s) = bit_if (is_some s.message.metadata) 0x100 + bit_if (is_some s.resume) 0x80 + bit_if s.lease 0x40
flags_of (frames.Request r) = bit_if (is_some r.message.metadata) 0x100 + bit_if r.follows 0x80 + bit_if r.complete 0x40
flags_of (frames.Payload stream follows complete next message) =
    bit_if (is_some message.metadata) 0x100 + bit_if follows 0x80 + bit_if complete 0x40 + bit_if next 0x20
flags_of (frames.Lease ttl count metadata) = bit_if (is_some metadata) 0x100
flags_of (frames.Keepalive respond position content) = bit_if respond 0x80
flags_of (frames.MetadataPush metadata) = 0x100
flags_of (frames.Ext stream flags extended rest) = flags
flags_of (frames.Unknown stream number flags rest) = flags
flags_of _ = 0

-- the spelling that is written
abbrev pub canonical : Frame → List ℕ
canonical f = with_header (stream_of f) (number_of f) (flags_of f) (body_of f)

-- the length of a frame
abbrev pub length_of : Frame → ℕ
length_of f = 6 + length (body_of f)

-- the frame can be written
pub record IsSpellable (f : Frame) : Type 0 where
  pub fields : FieldsFit f
  pub short : length_of f < 2 ^ 24

-- whether the frame counts in the positions of a session: the frames of streams ("Resuming Operation")
abbrev pub is_resumable : Frame → Bool
is_resumable (frames.Request r) = true
is_resumable (frames.RequestN stream n) = true
is_resumable (frames.Cancel stream) = true
is_resumable (frames.Payload stream follows complete next message) = true
is_resumable (frames.Error stream code content) = nat_lt 0 stream
is_resumable _ = false
