use Rattle.std.proofs.Common.{◌≡◌, arith, eq-eqb}
use Rattle.std.proofs.lemmas.Bool.Decides.{nat_tests}
use Rattle.replay_buffer.proofs.store.Store.is_start.Goals as goal

pub returns : goal.returns
returns c =
    let s = c.find.result in
    let at = c.find.ensures.at in (
      λ yes. let is : s.position ≡ c.args.position = grind (arith, nat_tests) in (omega (arith, at.start, is), (s.index, omega (arith, at.start, is))),
      λ start. eq-eqb s.position c.args.position (c.find.ensures.start start),
    )
