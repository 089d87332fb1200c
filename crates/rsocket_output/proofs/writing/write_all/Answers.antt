use Rattle.std.proofs.Common.{refl, rules}
use Rattle.rsocket_output.proofs.Moves.{more_written, nothing_written}
use Rattle.rsocket_output.proofs.writing.write_all.Goals as goal

pub loop-rest-init : goal.loop-rest-init
loop-rest-init g c = record { written = nothing_written _ _; faults = refl }

pub loop-rest-preserved : goal.loop-rest-preserved
loop-rest-preserved g c = record {
  written = rw c.split_at.ensures.back (more_written _ _ _ _ _ _ c.loop-rest.invariant.written c.in-Took.ensures.write.1);
  faults = search rules;
}
