-- A frame as a line: the name of its type, and its fields as words, with one space between two words.
use Rattle.std.specs.Prelude.{ℕ, List, [], ◌∷◌, ◌++◌, Option, Some, None, is_some, codes, decimal}
use Rattle.hex.specs.Hex.{IsBytes}
use Rattle.rs_wire.specs.declared.message.Message.{Message}
use Rattle.rs_frame.specs.declared.frame.Frame.{Frame}
use Rattle.rs_frame.specs.declared.frame.Frame.TheVariants as frames
use Rattle.rs_frame.specs.declared.frame.Setup.{Setup}
use Rattle.frame_text.specs.Names.{frame_name}
use Rattle.frame_text.specs.Words.{blob_word, option_word, letter_if, letters_word}

-- a number, where there is one
abbrev pub number_words : Option ℕ → List (List ℕ)
number_words None = []
number_words (Some n) = decimal n ∷ []

-- the flags R and L of a SETUP
abbrev pub setup_flags : Setup → List ℕ
setup_flags s = letters_word (letter_if (is_some s.resume) (codes "R") ++ letter_if s.lease (codes "L"))

-- the words after the name
abbrev pub fields_of : Frame → List (List ℕ)
fields_of (frames.Setup s) =
    codes "0" ∷ setup_flags s ∷ decimal s.major ∷ decimal s.minor ∷ decimal s.keepalive ∷ decimal s.lifetime
    ∷ option_word s.resume ∷ blob_word s.metadata_mime ∷ blob_word s.content_mime ∷ option_word s.message.metadata ∷ blob_word s.message.content ∷ []
fields_of (frames.Lease ttl count metadata) = codes "0" ∷ decimal ttl ∷ decimal count ∷ option_word metadata ∷ []
fields_of (frames.Keepalive respond position content) = codes "0" ∷ letters_word (letter_if respond (codes "R")) ∷ decimal position ∷ blob_word content ∷ []
fields_of (frames.MetadataPush metadata) = codes "0" ∷ blob_word metadata ∷ []
fields_of (frames.Resume r) = codes "0" ∷ decimal r.major ∷ decimal r.minor ∷ blob_word r.token ∷ decimal r.server_position ∷ decimal r.client_position ∷ []
fields_of (frames.ResumeOk position) = codes "0" ∷ decimal position ∷ []
fields_of (frames.Ext stream flags extended rest) = decimal stream ∷ decimal flags ∷ decimal extended ∷ blob_word rest ∷ []
fields_of (frames.Request r) =
    decimal r.stream ∷ letters_word (letter_if r.follows (codes "F") ++ letter_if r.complete (codes "C"))
    ∷ (number_words r.initial ++ (option_word r.message.metadata ∷ blob_word r.message.content ∷ []))
fields_of (frames.RequestN stream n) = decimal stream ∷ decimal n ∷ []
fields_of (frames.Cancel stream) = decimal stream ∷ []
fields_of (frames.Payload stream follows complete next message) =
    decimal stream ∷ letters_word (letter_if follows (codes "F") ++ (letter_if complete (codes "C") ++ letter_if next (codes "N")))
    ∷ option_word message.metadata ∷ blob_word message.content ∷ []
fields_of (frames.Error stream code content) = decimal stream ∷ decimal code ∷ blob_word content ∷ []
fields_of (frames.Unknown stream number flags rest) = decimal stream ∷ decimal number ∷ decimal flags ∷ blob_word rest ∷ []

-- each word after a space
abbrev pub spaced : List (List ℕ) → List ℕ
spaced [] = []
spaced (word ∷ words) = (32 ∷ word) ++ spaced words

-- the line of a frame, without a line feed
abbrev pub line_of : Frame → List ℕ
line_of f = frame_name f ++ spaced (fields_of f)

-- bytes, where there are any
abbrev pub HasOption : Option (List ℕ) → Type 0
HasOption None = Unit {0}
HasOption (Some bytes) = IsBytes bytes

abbrev pub HasMessage : Message → Type 0
HasMessage m = HasOption m.metadata × IsBytes m.content

-- the lists of a frame are bytes, as those of every frame that a program holds
abbrev pub HasBytes : Frame → Type 0
HasBytes (frames.Setup s) = HasOption s.resume × IsBytes s.metadata_mime × IsBytes s.content_mime × HasMessage s.message
HasBytes (frames.Lease ttl count metadata) = HasOption metadata
HasBytes (frames.Keepalive respond position content) = IsBytes content
HasBytes (frames.MetadataPush metadata) = IsBytes metadata
HasBytes (frames.Resume r) = IsBytes r.token
HasBytes (frames.ResumeOk position) = Unit {0}
HasBytes (frames.Ext stream flags extended rest) = IsBytes rest
HasBytes (frames.Request r) = HasMessage r.message
HasBytes (frames.RequestN stream n) = Unit {0}
HasBytes (frames.Cancel stream) = Unit {0}
HasBytes (frames.Payload stream follows complete next message) = HasMessage message
HasBytes (frames.Error stream code content) = IsBytes content
HasBytes (frames.Unknown stream number flags rest) = IsBytes rest
