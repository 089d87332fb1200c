-- What a large run writes.
use Rattle.std.specs.Prelude.{◌≡◌, ℕ, List, [], ◌∷◌, ◌++◌, Option, is_some, codes, decimal}
use Rattle.rs_wire.specs.declared.words.Side.TheVariants.{Client, Server}
use Rattle.tape.specs.declared.entry.Entry.{Entry}
use Rattle.session_core.specs.Seen.{told_by}
use Rattle.cable_script.specs.Setting.{settings_by}
use Rattle.load_script.specs.declared.TheConstants.{CUTS}
use Rattle.load_script.specs.Generated.{generated, load_settings}
use Rattle.cable.specs.Report.{counts_of}
use Rattle.cable.specs.Shelves.{EndsOf, sides_by}

-- the last line: the seed, and how often the connection was cut
abbrev pub summary : ℕ → List ℕ
summary seed = codes "load " ++ (decimal seed ++ (codes " cuts " ++ (decimal CUTS ++ 10 ∷ [])))

-- the script of this seed was played, the shelf has got back the tapes of just this client and this server, and the text
-- is the counts of the two, and the last line
pub record Loads (seed : ℕ) (fresh : Option (List Entry)) (shelf shelf' : List (Option (List Entry))) (text : List ℕ) : Type 0 where
  pub client : List Entry
  pub server : List Entry
  pub ends : EndsOf (sides_by load_settings) (generated seed).lines client server
  pub put_back : shelf' ≡ shelf ++ told_by (is_some fresh) client ∷ told_by (is_some fresh) server ∷ []
  pub text_is : text ≡
      counts_of Client (settings_by Client load_settings) client
      ++ (counts_of Server (settings_by Server load_settings) server ++ summary seed)
