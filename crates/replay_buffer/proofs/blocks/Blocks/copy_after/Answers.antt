use Rattle.std.proofs.Common.{ap, arith, drop, length, sym, take, ◌∙◌}
use Rattle.std.proofs.lemmas.List.{drop-drop}
use Rattle.replay_buffer.proofs.InBlocks.{copied_more}
use Rattle.replay_buffer.proofs.blocks.Blocks.copy_after.Goals as goal

pub loop-written-preserved : goal.loop-written-preserved
loop-written-preserved c =
    let part = c.part_from-part.result.now in
    let rest = drop-drop c.loop-written.written c.args.skip c.args.self.now.items in
    copied_more (drop c.args.skip c.args.self.now.items) c.args.buffer.now c.loop-written.buffer part _ c.min-count.result c.loop-written.written c.min-more.result _ c.loop-written.invariant c.loop-written-test.true
    (record { some = c.part_from-part.ensures.some; is = c.part_from-part.ensures.bytes ∙ ap (take (length part)) (sym rest) }) c.min-more.ensures c.copy_from_slice.ensures.after (omega arith)
