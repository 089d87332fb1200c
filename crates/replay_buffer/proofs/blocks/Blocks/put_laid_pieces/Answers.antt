use Rattle.std.proofs.Common.{rules, ◌≡◌, ◌-◌, ◌++◌, ◌∷◌, ◌∙◌, [], ap, drop, length, sym, arith}
use Rattle.std.proofs.lemmas.List.{length-drop}
use Rattle.rs_frame.specs.Framed.{framed}
use Rattle.replay_buffer.specs.Laid.{laid, prefix_len}
use Rattle.replay_buffer.proofs.InBlocks.{put_two}
use Rattle.replay_buffer.proofs.Prefixed.{laid-else, length-laid}
use Rattle.replay_buffer.proofs.blocks.Blocks.put_laid_pieces.Goals as goal

pub returns-in_default : goal.returns-in_default
returns-in_default c =
    let f = drop 3 c.args.bytes.now in
    let count : c.len-count.result - 3 ≡ length f = omega (arith, c.len-count.ensures, length-drop 3 c.args.bytes.now) in
    let form : laid f ≡ 1 ∷ framed f = laid-else f c.prefix_len.result (c.prefix_len.ensures ∙ ap prefix_len count) (search rules) (search rules) in
    put_two c.args.self.now c.put.new.self c.put_pieces-in_default.new.self (1 ∷ []) c.args.bytes.now (laid f) c.put.ensures c.put_pieces-in_default.ensures (ap (λ l. 1 ∷ l) c.requires.framed ∙ sym form)
    ∙ (λ i. record { items = c.args.self.now.items ++ laid f; free = c.args.self.now.free - length-laid f i })
