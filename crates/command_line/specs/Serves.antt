-- The words that ask for a server: the first word is `serve`, and the others are those that clap takes by this command and whose values are right.
use Rattle.std.specs.Prelude.{◌≡◌, ◌≤◌, ℕ, List, [], ◌∷◌, Option, Some, None, codes, option_map}
use Rattle.clap.specs.Words.{App, Row, Rule, first_of, matches_of}
use Rattle.plain_text.specs.Words.{number_in}
use Rattle.command_line.specs.declared.serve_task.ServeTask.{ServeTask}
use Rattle.command_line.specs.Calls.{number_of, number_or, operand_rule, option_rule, with_rules}
use Rattle.command_line.specs.Words.{Takes, bare, flag_rule, is_on}

abbrev pub serve_rules : List Rule
serve_rules =
    operand_rule (codes "address") ∷ option_rule (codes "connections") ∷ option_rule (codes "workers")
    ∷ option_rule (codes "lease") ∷ flag_rule (codes "resume") ∷ flag_rule (codes "ws") ∷ []

unfoldable pub serve_app : App
serve_app = with_rules (bare (codes "serve")) serve_rules

-- the number that a word is the decimal text of, where it is in the range; without a word there is none
abbrev pub number_if : ℕ → ℕ → Option (List ℕ) → Option (Option ℕ)
number_if low high None = Some None
number_if low high (Some word) = option_map Some (number_in low high word)

-- The values that clap found are those of this server.
pub record IsServeOf (rows : List Row) (t : ServeTask) : Type 0 where
  pub address : first_of (codes "address") rows ≡ Some t.address
  pub connections : number_of 1 64 (first_of (codes "connections") rows) ≡ Some t.connections
  pub workers : number_or 1 1 16 (first_of (codes "workers") rows) ≡ Some t.workers
  pub lease : number_if 1 2147483647 (first_of (codes "lease") rows) ≡ Some t.lease
  pub resume : t.resume ≡ is_on (codes "resume") rows
  pub ws : t.ws ≡ is_on (codes "ws") rows

pub record AsksServe (words : List (List ℕ)) (t : ServeTask) : Type 0 where
  pub taken : Takes serve_app words
  pub read : IsServeOf (matches_of serve_app words) t

-- its numbers are in their ranges
pub record IsInRange (t : ServeTask) : Type 0 where
  pub some_connections : 1 ≤ t.connections
  pub most_connections : t.connections ≤ 64
  pub some_workers : 1 ≤ t.workers
  pub most_workers : t.workers ≤ 16
