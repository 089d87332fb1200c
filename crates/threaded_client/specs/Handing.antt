-- What the carrier of the client hands back. Entries stand newest first.
use Rattle.std.specs.Prelude.{◌≡◌, ◌<◌, ℕ, true, List, [], Option, None, IfSome}
use Rattle.rs_wire.specs.declared.settings.Settings.{Settings}
use Rattle.tape.specs.declared.entry.Entry.{Entry}
use Rattle.link_model.specs.Carrying.{Between, Keeps}
use Rattle.cable_script.specs.declared.line.Line.{Line}
use Rattle.ring.specs.declared.item.Item.{Item}
use Rattle.ring.specs.Parts.{IsEnded, IsFinished, cuts, part}
use Rattle.threaded_model.specs.Handed.{ClientKeeps}
use Rattle.threaded_model.specs.Threaded.{Acts, acts, has_cut}
use Rattle.carriers.specs.Alone.{NeverAsks, linked}

-- the connection that joins the ends is the one after n cuts, and what was pushed and read there is kept by its pump
pub record IsPresent (g : Settings) (C : List Entry) (conn : ℕ → ℕ) (n : ℕ) (b : Between) (up down : List Item) : Type 0 where
  pub is : conn n ≡ b.conn
  pub some : 0 < b.conn
  pub left : b.left ≡ []
  pub keeps : Keeps g C (linked (part n up) (part n down)) b

-- The carrier of this number followed these lines, pushed the items `up` and read the items `down`.
pub record ClientHands (g : Settings) (C : List Entry) (number : ℕ) (lines : List Line) (p : Option Between) (up down : List Item) : Type 0 where
  pub conn : ℕ → ℕ
  pub keeps : ClientKeeps g C conn up down
  pub acts : Acts None lines (acts C)
  -- each cut is one of a connection
  pub cut : (k : ℕ) → k < cuts up → has_cut C (conn k) ≡ true
  pub both : cuts down ≡ cuts up
  pub never_asks : NeverAsks number C
  -- where a connection joins the ends
  pub present : IfSome p (λ b. IsPresent g C conn (cuts up) b up down)
  pub none : p ≡ None → conn (cuts up) ≡ 0
  pub ended : IsEnded up
  pub finished : IsFinished down
