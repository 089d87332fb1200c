use Rattle.threaded_asker.specs.Asking.{HasOnlyAsked}
use Rattle.threaded_asker.proofs.Asked.{IsLeft, IsOn}
use Rattle.threaded_asker.proofs.asking.ask_all.Given as goal

abbrev pub invariant-loop-line : goal.invariant-loop-line
invariant-loop-line g l = record {
  on : IsOn l.fn.caller l.caller;
  only : HasOnlyAsked l.fn.caller l.caller.front;
  asked : IsLeft l.end l.lines l.line-index l.fn.caller l.caller;
}
