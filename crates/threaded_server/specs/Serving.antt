-- What the server's carrier keeps of its end, by what it knows of the connection that joins the ends. Entries are the newest first, items the oldest.
use Rattle.std.specs.Prelude.{◌≡◌, ◌≢◌, ◌<◌, ◌≤◌, ◌⊎◌, ℕ, true, false, List, [], take}
use Rattle.rs_wire.specs.declared.settings.Settings.{Settings}
use Rattle.rs_frame.specs.Framed.{framed_all}
use Rattle.tape.specs.declared.entry.Entry.{Entry}
use Rattle.session_model.specs.Lists.{IsPrefix}
use Rattle.session_model.specs.Life.{is_live, live}
use Rattle.session_model.specs.Frames.{came}
use Rattle.session_model.specs.Joined.{IsOpening, offered, refused}
use Rattle.link_model.specs.Carrying.{Between, Keeps}
use Rattle.ring.specs.declared.item.Item.{Item}
use Rattle.ring.specs.Parts.{cuts, part}
use Rattle.threaded_model.specs.Handed.{IsReadOn}
use Rattle.threaded_model.specs.Threaded.{has_cut, moments}
use Rattle.carriers.specs.Alone.{NeverAsks, linked}

-- opening d is the connection after k cuts: what was pushed and read there, and that its first frame came
pub record IsServed (h : Settings) (S : List Entry) (d k : ℕ) (sent received : List Item) : Type 0 where
  pub gave : IsPrefix (part k sent) (offered h S d)
  pub read : IsReadOn h S d (part k received)
  pub first : came S d ≢ []

-- What is kept of all connections but the one that joins the ends: that is the one after as many cuts as were pushed.
pub record HasServed (h : Settings) (S : List Entry) (number : ℕ) (place : ℕ → ℕ) (told : List ℕ) (sent received : List Item) : Type 0 where
  pub apart : (d e : ℕ) → IsOpening S d → IsOpening S e → place d ≡ place e → d ≡ e
  pub within : (d : ℕ) → IsOpening S d → place d ≤ cuts sent
  pub served : (d : ℕ) → IsOpening S d → place d < cuts sent → IsServed h S d (place d) sent received
  pub silent : (k : ℕ) → k < cuts sent → ((d : ℕ) × IsOpening S d × (place d ≡ k)) ⊎ (part k sent ≡ [])
  -- it cut only where it read a cut
  pub cut : (d : ℕ) → has_cut S d ≡ true → IsOpening S d × (place d < cuts received)
  -- it ticked with these moments
  pub ticks : moments S ≡ told
  -- it asked nothing
  pub unasked : NeverAsks number S

-- opening d is the connection after k cuts
pub record IsAt (S : List Entry) (place : ℕ → ℕ) (k d : ℕ) : Type 0 where
  pub opening : IsOpening S d
  pub place_is : place d ≡ k
  pub first : came S d ≢ []

-- no opening is the connection after k cuts: what was read there is no frame yet
pub record KnowsNothing (S : List Entry) (place : ℕ → ℕ) (k : ℕ) (sent received : List Item) (rest : List ℕ) : Type 0 where
  pub unopened : (d : ℕ) → IsOpening S d → place d ≢ k
  pub rest_is : rest ≡ part k received
  pub silent : part k sent ≡ []

-- the connection after k cuts was accepted
pub record HasAccepted (h : Settings) (S : List Entry) (place : ℕ → ℕ) (k : ℕ) (sent received : List Item) (b : Between) : Type 0 where
  pub at : IsAt S place k b.conn
  pub unrefused : refused S b.conn ≡ []
  -- all that was drawn was pushed
  pub none_left : b.left ≡ []
  pub kept : Keeps h S (linked (part k sent) (part k received)) b

-- the connection after k cuts was refused: the bytes of the refusal, and how many of them were pushed
pub record HasRefused (h : Settings) (S : List Entry) (place : ℕ → ℕ) (k : ℕ) (sent received : List Item) (bytes : List ℕ) (count : ℕ) : Type 0 where
  pub d : ℕ
  pub at : IsAt S place k d
  pub never_live : is_live (live S) d ≡ false
  pub bytes_are : bytes ≡ framed_all (refused S d)
  pub sent_are : part k sent ≡ take count bytes
  pub read : IsReadOn h S d (part k received)
