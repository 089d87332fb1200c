use Rattle.std.proofs.Common.{◌-◌, ◌++◌, ◌∙◌, drop, length, ap, sym}
use Rattle.replay_buffer.proofs.InBlocks.{put_three}
use Rattle.replay_buffer.proofs.Prefixed.{drop-three}
use Rattle.replay_buffer.proofs.blocks.Blocks.put_pieces_from.Goals as goal

pub returns : goal.returns
returns c =
    let pieces = c.as_slices.result in
    let start = c.args.start in
    let later = c.saturating_sub-start.ensures in
    let last = c.saturating_sub-start-2.ensures ∙ ap (λ n. n - length pieces.1.now) later in
    let parts = (λ i. c.without_front.ensures i ++ ((c.without_front-2.ensures ∙ ap (λ n. drop n pieces.1.now) later) i ++ (c.without_front-3.ensures ∙ ap (λ n. drop n pieces.2.now) last) i)) ∙ drop-three start pieces.0.now pieces.1.now pieces.2.now in
    put_three c.args.self.now c.put.new.self c.put-2.new.self c.put-3.new.self c.without_front.result.now c.without_front-2.result.now c.without_front-3.result.now (drop start c.args.more.now)
    c.put.ensures c.put-2.ensures c.put-3.ensures (parts ∙ ap (drop start) (sym c.as_slices.ensures))
