use Rattle.std.proofs.Common.{◌+◌, ◌-◌, ◌/◌, refl, ap, arith}
use Rattle.circular_buffer.specs.Buffer.{Buffer}
use Rattle.replay_buffer.specs.declared.marks.TheConstants.{EVERY}
use Rattle.replay_buffer.specs.declared.rings.Mark.{Mark}
use Rattle.replay_buffer.proofs.Marked.{marked-drop}
use Rattle.replay_buffer.proofs.marks.Marks.drop_front.Goals as goal

pub returns-then-count-self-clause-marked : goal.returns-then-count-self-clause-marked
returns-then-count-self-clause-marked c = λ at base frames m.
    marked-drop at base frames c.args.self.now _ c.args.count 0 m (omega (arith, m.count, c.requires.within)) (omega arith) refl (omega arith) refl

pub returns-clause-marked : goal.returns-clause-marked
returns-clause-marked c = λ at base frames m.
    let n = (c.args.count - c.args.self.now.lead + (EVERY - 1)) / EVERY in
    marked-drop at base frames c.args.self.now _ c.args.count n m (omega (arith, m.count, c.requires.within)) (omega (arith, m.reach, c.requires.within)) refl (omega arith) (ap (λ (b : Buffer Mark). b.items) c.drop_front.ensures)
