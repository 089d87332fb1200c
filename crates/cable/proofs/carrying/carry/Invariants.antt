use Rattle.std.proofs.Common.{◌≡◌, ◌≤◌, ◌-◌, length}
use Rattle.session_model.specs.Frames.{queued}
use Rattle.cable.specs.Played.{at_most}
use Rattle.cable.proofs.Drawing.{Drew}
use Rattle.cable.proofs.carrying.carry.Given as goal

abbrev pub invariant-loop-left : goal.invariant-loop-left
invariant-loop-left g l = record {
  below : l.left ≤ at_most l.fn.most (queued l.fn.end.settings l.fn.end.entries);
  room : length l.buffer ≡ length l.fn.buffer;
  end : l.end ≡ record l.fn.end { entries = l.end.entries; spare = l.end.spare };
  drew : Drew l.fn.end.settings l.conn l.fn.end.entries l.end.entries l.fn.rest l.rest (at_most l.fn.most (queued l.fn.end.settings l.fn.end.entries) - l.left);
}

abbrev pub decreases-loop-left : goal.decreases-loop-left
decreases-loop-left g l = l.left
