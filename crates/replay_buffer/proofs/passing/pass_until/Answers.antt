use Rattle.std.proofs.Common.{sym, ap, ◌∙◌, arith}
use Rattle.std.proofs.lemmas.Grind.{common_steps}
use Rattle.position.specs.Boundaries.{pos_by}
use Rattle.replay_buffer.specs.Stored.{Stored, held_in}
use Rattle.replay_buffer.proofs.Forgotten.{least_done, least_step}
use Rattle.replay_buffer.proofs.Passed.{passes}
use Rattle.replay_buffer.proofs.passing.pass_until.Goals as goal

pub pass_oldest-requires : goal.pass_oldest-requires
unfolding pos_by
pass_oldest-requires c = grind (arith, common_steps, c.loop-store.invariant.all.end)

pub loop-store-preserved : goal.loop-store-preserved
loop-store-preserved c =
    let v = c.loop-store.store in
    let rises = ap (λ (s : Stored). s.first) c.pass_oldest.ensures.passed in
    passes _ _ _ _ c.loop-store.invariant c.pass_oldest.ensures.passed (λ hold. least_step v.first hold c.args.low v.held (omega arith) (omega (arith, rises, c.pass_oldest.ensures.rises)))

pub returns-clause-held : goal.returns-clause-held
returns-clause-held c = λ hold. sym (least_done (held_in hold c.loop-store.store) c.args.low (omega arith)) ∙ c.loop-store.invariant.same hold
