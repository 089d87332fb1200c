-- Words that a script and its report share.
use Rattle.std.specs.Prelude.{ℕ, Bool, true, false, List, [], ◌∷◌, ◌++◌, decimal, codes}
use Rattle.rs_wire.specs.declared.words.Side.{Side}
use Rattle.rs_wire.specs.declared.words.Side.TheVariants as side
use Rattle.rs_wire.specs.declared.words.Kind.{Kind}
use Rattle.rs_wire.specs.declared.words.Kind.TheVariants as kind

-- a word and a number after it
abbrev pub numbered : List ℕ → ℕ → List ℕ
numbered word n = word ++ (32 ∷ decimal n)

abbrev pub side_word : Side → List ℕ
side_word side.Client = codes "client"
side_word side.Server = codes "server"

abbrev pub kind_word : Kind → List ℕ
kind_word kind.Response = codes "response"
kind_word kind.Fnf = codes "fnf"
kind_word kind.Stream = codes "stream"
kind_word kind.Channel = codes "channel"

-- a word where the requester sends nothing more
abbrev pub last_text : Bool → List ℕ
last_text true = codes " last"
last_text false = []

-- the word of a payload, with which this end sends nothing more or goes on
abbrev pub next_word : Bool → List ℕ
next_word true = codes "last"
next_word false = codes "next"
