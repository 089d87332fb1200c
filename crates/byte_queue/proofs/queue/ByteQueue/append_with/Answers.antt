use Rattle.std.proofs.Common.{rules, ◌≤◌, length, arith}
use Rattle.std.proofs.lemmas.Grind.{common_steps}
use Rattle.byte_queue.proofs.queue.ByteQueue.append_with.Goals as goal

pub invariant_of-self : goal.invariant_of-self
invariant_of-self g c = let a = c.requires.1.1 c.self.inside.buffer c.write.new.arg2 c.write.result (search (rules, c.write.ensures)) in
    let h : length c.self.inside.buffer.items ≤ length c.write.new.arg2.items = grind (arith, common_steps) in
    let i = c.self.invariant in
    (omega (arith, c.self.inside.buffer.ok.0, c.write.new.arg2.ok.0), omega (arith, c.write.new.arg2.ok.0, c.write.new.arg2.ok.1))

pub returns-clause-ok : goal.returns-clause-ok
returns-clause-ok g c = let a = c.requires.1.1 c.self.inside.buffer c.write.new.arg2 c.write.result (search (rules, c.write.ensures)) in grind (arith, common_steps)

pub returns-clause-err : goal.returns-clause-err
returns-clause-err g c = let a = c.requires.1.1 c.self.inside.buffer c.write.new.arg2 c.write.result (search (rules, c.write.ensures)) in grind (arith, common_steps)
