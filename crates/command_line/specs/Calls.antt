-- The words that ask for a call: the first word is `call`, and the others are those that clap takes by this command and whose values are right.
use Rattle.std.specs.Prelude.{◌≡◌, ◌≤◌, ◌+◌, ℕ, true, List, [], ◌∷◌, length, Option, Some, None, IfSome, codes}
use Rattle.clap.specs.Words.{App, Row, Rule, first_of, matches_of, new_rule, with_rule}
use Rattle.clap.specs.declared.builder.action.ArgAction.TheVariants.{Set}
use Rattle.rs_wire.specs.declared.words.Kind.{Kind}
use Rattle.rs_wire.specs.declared.words.Kind.TheVariants as kind
use Rattle.plain_text.specs.Words.{hex_bytes, is_hex_word, number_in}
use Rattle.command_line.specs.declared.call_task.CallTask.{CallTask}
use Rattle.command_line.specs.Words.{Takes, bare, flag_rule, is_on}

-- ---- the command

-- an operand, which has to be there
abbrev pub operand_rule : List ℕ → Rule
operand_rule name = record (new_rule name) { action = Some Set; required = true }

-- the option `--name`, with its value
abbrev pub option_rule : List ℕ → Rule
option_rule name = record (new_rule name) { long = Some name; action = Some Set }

abbrev pub with_rules : App → List Rule → App
with_rules app [] = app
with_rules app (rule ∷ rules) = with_rules (with_rule app rule) rules

abbrev pub call_rules : List Rule
call_rules =
    operand_rule (codes "address") ∷ operand_rule (codes "kind") ∷ operand_rule (codes "route") ∷ operand_rule (codes "content")
    ∷ option_rule (codes "count") ∷ option_rule (codes "resume") ∷ flag_rule (codes "lease")
    ∷ option_rule (codes "lulls") ∷ option_rule (codes "tries") ∷ flag_rule (codes "ws") ∷ []

unfoldable pub call_app : App
call_app = with_rules (bare (codes "call")) call_rules

-- ---- its values

abbrev pub kind_word : Kind → List ℕ
kind_word kind.Response = codes "response"
kind_word kind.Fnf = codes "fnf"
kind_word kind.Stream = codes "stream"
kind_word kind.Channel = codes "channel"

-- the number that a word is the decimal text of, where it is in the range; without a word the default
abbrev pub number_or : ℕ → ℕ → ℕ → Option (List ℕ) → Option ℕ
number_or default low high None = Some default
number_or default low high (Some word) = number_in low high word

-- the number that a word is the decimal text of, where it is in the range; none without a word
abbrev pub number_of : ℕ → ℕ → Option (List ℕ) → Option ℕ
number_of low high None = None
number_of low high (Some word) = number_in low high word

-- the word is lower-case hex digits, two a byte of the content, or a dot for no bytes
pub record IsContent (word : List ℕ) (content : List ℕ) : Type 0 where
  pub spelled : is_hex_word 46 word ≡ true
  pub is : content ≡ hex_bytes 46 word

-- a token of this length is one of a client that resumes
pub record IsToken (token : List ℕ) : Type 0 where
  pub some : 1 ≤ length token
  pub short : length token ≤ 65535

-- The values that clap found are those of this call.
pub record IsCallOf (rows : List Row) (t : CallTask) : Type 0 where
  pub address : first_of (codes "address") rows ≡ Some t.address
  pub kind : first_of (codes "kind") rows ≡ Some (kind_word t.kind)
  pub route : first_of (codes "route") rows ≡ Some t.route
  pub content : (word : List ℕ) × (first_of (codes "content") rows ≡ Some word) × IsContent word t.content
  pub fits : length t.route + length t.content ≤ 16000000
  pub count : number_or 2147483647 1 2147483647 (first_of (codes "count") rows) ≡ Some t.count
  pub token : first_of (codes "resume") rows ≡ t.token
  pub token_fits : IfSome t.token IsToken
  pub lease : t.lease ≡ is_on (codes "lease") rows
  pub lulls : number_or 1000 1 1000000000 (first_of (codes "lulls") rows) ≡ Some t.lulls
  pub tries : number_or 0 0 16 (first_of (codes "tries") rows) ≡ Some t.tries
  pub ws : t.ws ≡ is_on (codes "ws") rows

pub record AsksCall (words : List (List ℕ)) (t : CallTask) : Type 0 where
  pub taken : Takes call_app words
  pub read : IsCallOf (matches_of call_app words) t
