-- The words that ask for a large run: the first word is `load`, and the other is its seed.
use Rattle.std.specs.Prelude.{◌≡◌, ℕ, List, Some, codes}
use Rattle.clap.specs.Words.{App, Row, first_of, matches_of, with_rule}
use Rattle.command_line.specs.Calls.{number_of, operand_rule}
use Rattle.command_line.specs.Words.{Takes, bare}

abbrev pub load_app : App
load_app = with_rule (bare (codes "load")) (operand_rule (codes "seed"))

-- the value that clap found is this seed
abbrev pub IsLoadOf : List Row → ℕ → Type 0
IsLoadOf rows seed = number_of 0 4294967295 (first_of (codes "seed") rows) ≡ Some seed

pub record AsksLoad (words : List (List ℕ)) (seed : ℕ) : Type 0 where
  pub taken : Takes load_app words
  pub read : IsLoadOf (matches_of load_app words) seed
