use Rattle.std.proofs.Common.{refl, rules, subst, sym}
use Rattle.std.specs.Prelude.{IfOk}
use Rattle.command_line.specs.Serves.{IsServeOf, serve_app}
use Rattle.command_line.proofs.Tables.{on_ok}
use Rattle.command_line.proofs.serve.serve.Goals as goal

pub parse-requires : goal.parse-requires
unfolding serve_app
parse-requires c = refl

pub returns-in_err-matches-clause-usage : goal.returns-in_err-matches-clause-usage
unfolding serve_app
returns-in_err-matches-clause-usage c = λ usage t taken is. c.in_err-matches.ensures.usage (search rules) taken

pub returns-clause-taken : goal.returns-clause-taken
unfolding serve_app
returns-clause-taken c = on_ok c.read-task.result c.in_ok-matches.ensures.taken

pub returns-clause-read : goal.returns-clause-read
unfolding serve_app
returns-clause-read c = subst (λ rows. IfOk c.read-task.result (IsServeOf rows)) c.in_ok-matches.ensures.matches c.read-task.ensures.is

pub returns-clause-usage : goal.returns-clause-usage
unfolding serve_app
returns-clause-usage c = λ usage t taken is.
    c.read-task.ensures.usage usage t (subst (λ rows. IsServeOf rows t) (sym c.in_ok-matches.ensures.matches) is)
