use Rattle.std.proofs.Common.{◌-◌, ◌*◌, ◌%◌, ◌/◌, ◌++◌, ◌∙◌, length, drop, ap, arith}
use Rattle.std.specs.List.{flat_map}
use Rattle.std.proofs.lemmas.List.{length-append}
use Rattle.std.proofs.lemmas.Nat.{div-add-mod', mod_below}
use Rattle.replay_buffer.specs.declared.block.TheConstants.{BLOCK}
use Rattle.replay_buffer.proofs.InBlocks.{IsPart, beyond, in_full, in_last, length-joined}
use Rattle.replay_buffer.proofs.blocks.bytes_from.Goals as goal

pub overflow_mul-len : goal.overflow_mul-len
overflow_mul-len c =
    let at = c.args.at in
    omega (arith, c.ranges.at.fits, c.len.ensures.len, beyond c.args.full.now.items at (at / BLOCK) (at % BLOCK) c.in-None.ensures (div-add-mod' at BLOCK))

pub overflow_sub-at : goal.overflow_sub-at
overflow_sub-at c =
    let at = c.args.at in
    omega (arith, c.len.ensures.len, beyond c.args.full.now.items at (at / BLOCK) (at % BLOCK) c.in-None.ensures (div-add-mod' at BLOCK))

pub rest_of-requires-in-None : goal.rest_of-requires-in-None
rest_of-requires-in-None c =
    let bs = c.args.full.now.items in
    omega (arith, c.requires.within, length-append (flat_map (λ b. b) bs) c.args.last.now, length-joined bs c.requires.full, ap length c.as_slice-in-None.ensures, c.len.ensures.len)

in_some : (c : goal.After-rest_of) → IsPart (drop c.args.at (flat_map (λ b. b) c.args.full.now.items ++ c.args.last.now)) c.rest_of.result.now
in_some c =
    let at = c.args.at in
    in_full c.args.full.now.items c.args.last.now c.in-Some.block.now c.rest_of.result.now at (at / BLOCK) (at % BLOCK) c.requires.full c.in-Some.ensures
    (div-add-mod' at BLOCK) (mod_below at BLOCK (omega arith)) (c.rest_of.ensures ∙ ap (drop (at % BLOCK)) c.as_slice.ensures)

pub returns-in-Some-clause-some : goal.returns-in-Some-clause-some
returns-in-Some-clause-some c = (in_some c).some

pub returns-in-Some-clause-bytes : goal.returns-in-Some-clause-bytes
returns-in-Some-clause-bytes c = (in_some c).is

in_none : (c : goal.After-rest_of-in-None) → IsPart (drop c.args.at (flat_map (λ b. b) c.args.full.now.items ++ c.args.last.now)) c.rest_of-in-None.result.now
in_none c =
    let bs = c.args.full.now.items in
    let at = c.args.at in
    let far = beyond bs at (at / BLOCK) (at % BLOCK) c.in-None.ensures (div-add-mod' at BLOCK) in
    in_last bs c.args.last.now c.rest_of-in-None.result.now at c.requires.full far c.requires.within
    (c.rest_of-in-None.ensures ∙ (λ i. drop (at - BLOCK * c.len.ensures.len i) (c.as_slice-in-None.ensures i)))

pub returns-in-None-clause-some : goal.returns-in-None-clause-some
returns-in-None-clause-some c = (in_none c).some

pub returns-in-None-clause-bytes : goal.returns-in-None-clause-bytes
returns-in-None-clause-bytes c = (in_none c).is
