use Rattle.std.proofs.Common.{◌+◌, ◌≤◌, arith, length, take}
use Rattle.std.proofs.lemmas.Grind.{common_steps}
use Rattle.rsocket_run.proofs.Moves.{has_more}
use Rattle.rsocket_run.proofs.input.read_to.Goals as goal

pub returns-then-is_err-clause-read : goal.returns-then-is_err-clause-read
returns-then-is_err-clause-read g c =
    let within : length c.loop-buffer.bytes.items + length (take c.in-Took.count c.read.new.buffer) ≤ c.args.most = grind (arith, common_steps) in
    has_more _ _ _ _ _ _ c.loop-buffer.invariant.read c.in-Took.ensures.read.1 within
