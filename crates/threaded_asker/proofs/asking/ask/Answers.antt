use Rattle.std.proofs.Common.{sym, ◌∙◌}
use Rattle.threaded_asker.proofs.Asked.{called_adds, called_only}
use Rattle.threaded_asker.proofs.asking.ask.Goals as goal

pub returns-then-starved-clause-only : goal.returns-then-starved-clause-only
returns-then-starved-clause-only g c = called_only _ c.args.caller.now c.args.call.now _ _ c.call-answer.ensures.called

pub returns-clause-only : goal.returns-clause-only
returns-clause-only g c = called_only _ c.args.caller.now c.args.call.now _ _ c.call-answer.ensures.called

pub returns-clause-asked : goal.returns-clause-asked
returns-clause-asked g c = called_adds _ c.args.caller.now c.args.call.now _ _ (sym c.is_out_of_memory-starved.ensures ∙ c.if-starved.false) c.call-answer.ensures.called
