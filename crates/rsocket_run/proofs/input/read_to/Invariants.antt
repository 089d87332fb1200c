use Rattle.std.proofs.Common.{◌≡◌, ◌≤◌, ◌-◌, vec_len}
use Rattle.std.specs.Io.KnownBytes.{prepend_known}
use Rattle.rsocket_run.proofs.input.read_to.Given as goal

abbrev pub invariant-loop-buffer : goal.invariant-loop-buffer
invariant-loop-buffer g l = record {
  read : (g.I.Source.shown l.fn.input).told ≡ prepend_known l.bytes.items (g.I.Source.shown l.input).told;
  within : vec_len l.bytes ≤ l.most;
  faults : (g.I.Source.shown l.input).faults ≡ (g.I.Source.shown l.fn.input).faults;
}

abbrev pub decreases-loop-buffer : goal.decreases-loop-buffer
decreases-loop-buffer g l = l.most - vec_len l.bytes
