use Rattle.std.proofs.Common.{◌∙◌, ◌<◌, ap₂, arith, length, sym}
use Rattle.clap.specs.Words.{with_rule}
use Rattle.command_line.proofs.Tables.{command_more}
use Rattle.command_line.proofs.arguments.command.Goals as goal

pub loop-argument-preserved : goal.loop-argument-preserved
loop-argument-preserved c =
    let within : c.loop-argument.argument-index < length c.args.arguments.now = omega arith in
    c.in_ok-command.ensures ∙ ap₂ with_rule c.loop-argument.invariant c.arg.ensures.rule
    ∙ sym (command_more c.args.name.now c.args.arguments.now c.loop-argument.argument-index within)
