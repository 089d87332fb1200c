-- The commands as tables of their arguments.
use Rattle.std.specs.Prelude.{ℕ, List, map}
use Rattle.clap.specs.Words.{App, Rule}
use Rattle.command_line.specs.declared.arguments.Argument.{Argument}
use Rattle.command_line.specs.declared.arguments.Form.{Form}
use Rattle.command_line.specs.declared.arguments.Form.TheVariants as form
use Rattle.command_line.specs.Calls.{operand_rule, option_rule, with_rules}
use Rattle.command_line.specs.Words.{bare, flag_rule}

abbrev pub rule : Form → List ℕ → Rule
rule form.Operand name = operand_rule name
rule form.Option name = option_rule name
rule form.Flag name = flag_rule name

-- the command of this name that takes these arguments
abbrev pub command_app : List ℕ → List Argument → App
command_app name arguments = with_rules (bare name) (map (λ (a : Argument). rule a.form a.name.now) arguments)
