-- Commands as tables of their arguments.
use Rattle.std.proofs.Common.{◌≡◌, ◌∙◌, ◌++◌, ◌∷◌, ◌+◌, ◌<◌, [], ℕ, List, ap, length, map, refl, slice_index_or, take, Result, Ok, Err}
use Rattle.std.specs.Prelude.{OnOk}
use Rattle.std.proofs.lemmas.List.{map-append, take_more}
use Rattle.clap.specs.Words.{App, Rule, with_rule}
use Rattle.command_line.specs.declared.arguments.Argument.{Argument}
use Rattle.command_line.specs.declared.arguments.Form.TheVariants as form
use Rattle.command_line.specs.Calls.{with_rules}
use Rattle.command_line.specs.Commands.{command_app, rule}
use Rattle.command_line.specs.Words.{bare}

rules_more : (app : App) (rules : List Rule) (more : Rule) → with_rules app (rules ++ more ∷ []) ≡ with_rule (with_rules app rules) more
rules_more app [] more = refl
rules_more app (r ∷ rules) more = rules_more (with_rule app r) rules more

-- what stands past the end of a table
abbrev pub past : Argument
past = record { form = form.Operand; name = record { ref_ptr = (0, 0); now = [] } }

abbrev rule_at : List Argument → ℕ → Rule
rule_at arguments i = rule (slice_index_or arguments i past).form (slice_index_or arguments i past).name.now

-- one argument more
pub command_more : (name : List ℕ) (arguments : List Argument) (i : ℕ) → i < length arguments → command_app name (take (i + 1) arguments) ≡ with_rule (command_app name (take i arguments)) (rule_at arguments i)
command_more name arguments i within =
    ap (command_app name) (take_more arguments i past within)
    ∙ ap (with_rules (bare name)) (map-append (λ (a : Argument). rule a.form a.name.now) (take i arguments) (slice_index_or arguments i past ∷ []))
    ∙ rules_more (bare name) (map (λ (a : Argument). rule a.form a.name.now) (take i arguments)) (rule_at arguments i)

-- what is known is known where a call succeeded
pub on_ok : {A B P : Type 0} → (answer : Result A B) → P → OnOk answer P
on_ok (Ok x) known = known
on_ok (Err e) known = tt
