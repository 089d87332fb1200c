use Rattle.std.proofs.Common.{◌≡◌, length}
use Rattle.rsocket_output.proofs.Moves.{Written}
use Rattle.rsocket_output.proofs.writing.write_all.Given as goal

abbrev pub invariant-loop-rest : goal.invariant-loop-rest
invariant-loop-rest g l = record {
  written : Written (g.O.Sink.shown l.fn.output).told (g.O.Sink.shown l.output).told l.bytes l.rest;
  faults : (g.O.Sink.shown l.output).faults ≡ (g.O.Sink.shown l.fn.output).faults;
}

abbrev pub decreases-loop-rest : goal.decreases-loop-rest
decreases-loop-rest g l = length l.rest
