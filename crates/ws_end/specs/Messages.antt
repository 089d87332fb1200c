-- A frame over WebSocket: one binary message, without a length (RSocket 1.0, "Framing Protocol Usage").
use Rattle.std.specs.Prelude.{◌≡◌, ℕ, ◌<◌, ◌^◌, ◌⊎◌, List, [], ◌∷◌, ◌++◌, length, Ok, Err, Option, true}
use Rattle.rs_frame.specs.Framed.{framed}
use Rattle.rs_chunk.specs.Stream.{IsCut}
use Rattle.tungstenite.specs.declared.error.Error.{Error}
use Rattle.tungstenite.specs.declared.message.Message.{Message}
use Rattle.tungstenite.specs.Socket.{Socket, Reads, Writes, content_of, has_kind}
use Rattle.tungstenite.specs.Connection.{write_step}
use Rattle.tungstenite.specs.Content.{binary, content_payload}
use Rattle.tungstenite.specs.Failure.{IsIo}

-- a binary message, whose bytes were appended as a frame after its length
abbrev pub IsFrameOf : Message → List ℕ → List ℕ → Type 0
IsFrameOf message old new =
    (has_kind 1 message ≡ true)
    × (length (content_payload (content_of message)) < 2 ^ 24)
    × (new ≡ old ++ framed (content_payload (content_of message)))

-- a ping or a pong
abbrev pub IsPingOrPong : Message → Type 0
IsPingOrPong message = (has_kind 2 message ≡ true) ⊎ (has_kind 3 message ≡ true)

module _ {S : Type 0} where
  -- the socket read one message, and the message is the frame that was appended
  abbrev pub CameAsFrame : (S → Option (List ℕ)) → Socket S → Socket S → List ℕ → List ℕ → Type 0
  CameAsFrame remaining old new frames more = (m : Message) × Reads remaining old new (Ok m) × IsFrameOf m frames more

  -- the socket read one message, a ping or a pong
  abbrev pub CameAsControl : (S → Option (List ℕ)) → Socket S → Socket S → Type 0
  CameAsControl remaining old new = (m : Message) × Reads remaining old new (Ok m) × IsPingOrPong m

  -- the socket read no message, since its stream gave an error, as that it would have to wait
  abbrev pub CameNothing : (S → Option (List ℕ)) → Socket S → Socket S → Type 0
  CameNothing remaining old new = (e : Error) × Reads remaining old new (Err e) × IsIo e

  -- the socket was handed these frames, one after another, each as one binary message
  unfoldable pub Sends : (S → Option (List ℕ)) → Socket S → List (List ℕ) → Socket S → Type 0
  Sends contents old [] new = new ≡ old
  Sends contents old (f ∷ fs) new =
      (mid : Socket S) × Writes contents old mid (write_step old.conn (binary f)) × Sends contents mid fs new

  -- the bytes before are frames, each after its length, and then the bytes after; and the socket was handed just these frames
  abbrev pub SendsAll : (S → Option (List ℕ)) → Socket S → Socket S → List ℕ → List ℕ → Type 0
  SendsAll contents old new before after = (frames : List (List ℕ)) × IsCut before frames after × Sends contents old frames new
