-- What happened on the streams of one end of a session.
use Rattle.std.specs.Prelude.{ℕ, Bool, List, Option}
use Rattle.rs_wire.specs.declared.words.Kind.{Kind}
use Rattle.rs_wire.specs.declared.words.Role.{Role}
use Rattle.rs_wire.specs.declared.message.Message.{Message}
use Rattle.rs_wire.specs.declared.delivery.Delivery.{Delivery}

-- a request: the part of this end in it, its kind, its initial n (0 for none), and, where no fragments follow, its message with
-- whether the requester sends nothing more (RSocket 1.0, "Request")
pub record Opening : Type 0 where
  pub role : Role
  pub kind : Kind
  pub initial : ℕ
  pub whole : Option (Message × Bool)

-- what either end says on a stream after the request: a whole message of PAYLOAD frames (the rest of the request's own message, or one
-- more), REQUEST_N, CANCEL or ERROR
pub data Step : Type 0 where
  Payload : (message : Message) (complete next : Bool) → Step
  RequestN : (n : ℕ) → Step
  Cancel : Step
  Fail : (code : ℕ) (content : List ℕ) → Step

-- a request, of either end; one of the peer's that its lease doesn't cover, which opens no stream (RSocket 1.0, "Lease Semantics"); a
-- step that this end made, or one of the peer's that it handled; metadata that the peer pushed (RSocket 1.0, "METADATA_PUSH Frame");
-- what callers of this end took
pub data Mark : Type 0 where
  Opens : (stream : ℕ) (opening : Opening) → Mark
  Passed : (stream : ℕ) → Mark
  Sent : (stream : ℕ) (step : Step) → Mark
  Got : (stream : ℕ) (step : Step) → Mark
  Pushed : (metadata : List ℕ) → Mark
  Took : (stream : ℕ) (delivery : Delivery) → Mark
  TookJob : Mark
