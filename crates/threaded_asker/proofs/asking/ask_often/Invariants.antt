use Rattle.std.proofs.Common.{replicate}
use Rattle.threaded_asker.specs.Asking.{HasAsked, HasOnlyAsked}
use Rattle.threaded_asker.proofs.Asked.{IsOn}
use Rattle.threaded_asker.proofs.asking.ask_often.Given as goal

abbrev pub invariant-loop : goal.invariant-loop
invariant-loop g l = record {
  on : IsOn l.fn.caller l.caller;
  only : HasOnlyAsked l.fn.caller l.caller.front;
  asked : HasAsked l.fn.caller (replicate l.counter l.call) l.caller.front;
}
