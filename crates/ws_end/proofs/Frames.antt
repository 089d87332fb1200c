-- Frames that were sent, and one more.
use Rattle.std.proofs.Common.{ℕ, List, [], ◌∷◌, ◌++◌, Option, refl}
use Rattle.tungstenite.specs.Socket.{Socket, Writes}
use Rattle.tungstenite.specs.Connection.{write_step}
use Rattle.tungstenite.specs.Content.{binary}
use Rattle.ws_end.specs.Messages.{Sends}

module _ {S : Type 0} where
  pub sends_one_more : (contents : S → Option (List ℕ)) (frames : List (List ℕ)) (old mid new : Socket S) (f : List ℕ) → Sends contents old frames mid → Writes contents mid new (write_step mid.conn (binary f)) → Sends contents old (frames ++ f ∷ []) new
  unfolding Sends
  sends_one_more contents [] old mid new f is_old sent = (new, rw is_old at sent, refl)
  sends_one_more contents (g ∷ frames) old mid new f sends sent = (sends.0, sends.1, sends_one_more contents frames sends.0 mid new f sends.2 sent)
