use Rattle.std.proofs.Common.{◌≤◌, length}
use Rattle.capture.specs.Captured.{WroteLines}
use Rattle.capture.proofs.lines.write_lines.Given as goal

abbrev pub invariant-loop-rest : goal.invariant-loop-rest
invariant-loop-rest l = record {
  so_far : WroteLines l.bytes l.rest l.fn.out.items l.out.items;
  within : length l.rest ≤ length l.bytes;
}

abbrev pub decreases-loop-rest : goal.decreases-loop-rest
decreases-loop-rest l = length l.rest
