use Rattle.std.proofs.Common.{◌≡◌, ◌==◌, ◌∙◌, ◌++◌, ℕ, true, List, ap, arith}
use Rattle.std.proofs.lemmas.Bool.Decides.{nat_tests}
use Rattle.link_model.specs.Carrying.{Between}
use Rattle.rtrb.specs.Ring.{sent}
use Rattle.ring.specs.Parts.{bytes_of}
use Rattle.pump.specs.Turns.{Names}
use Rattle.carriers.proofs.Moving.{draw_goes}
use Rattle.carriers.proofs.giving.give.Goals as goal

same_number : (n : ℕ) → (n == n) ≡ true
same_number n = grind (arith, nat_tests)

pub returns-clause-gave : goal.returns-clause-gave
returns-clause-gave g c = record {
  piece = c.draw.new.self.left;
  sent = c.in_ok-push_all.ensures.ok ∙ ap (λ (l : List ℕ). sent c.args.out.now ++ bytes_of l) c.bytes.ensures;
  conn = ap (λ (b : Between). b.conn) c.gave.ensures.rest ∙ ap (λ (b : Between). b.conn) c.draw.ensures.rest;
  max_in = ap (λ (b : Between). b.max_in) c.gave.ensures.rest ∙ ap (λ (b : Between). b.max_in) c.draw.ensures.rest;
  goes = draw_goes (Names c.args.pump.now.conn) _ _ _ _ _ _ _ _ _ (same_number c.args.pump.now.conn) c.draw.ensures.draws.drew.draw;
  kept = λ s k. c.gave.ensures.kept c.draw.new.caller s (c.draw.ensures.draws.kept s k);
}
