use Rattle.std.proofs.Common.{◌≡◌, ◌∙◌, ◌++◌, ℕ, List, ap, subst}
use Rattle.link_model.specs.Carrying.{Between}
use Rattle.pump.specs.Halves.{and_taken}
use Rattle.pump.specs.Turns.{Arrives, GoesOn, IsKept}
use Rattle.carriers.proofs.taking.take.Goals as goal

pub returns-clause-took : goal.returns-clause-took
returns-clause-took g c =
    let line = c.in_ok-mark.ensures.line in
    let bytes = line.0 in
    let same : c.deref.result.now ≡ bytes = c.deref.ensures.value ∙ (line.1 ∙ ap (λ (l : List ℕ). l ++ bytes) c.new-bytes.ensures.items) in
    record {
      bytes = bytes;
      read = line.2;
      conn = c.hear-brought.ensures.conn ∙ ap (λ (b : Between). b.conn) c.feed.ensures.rest;
      max_in = c.hear-brought.ensures.max_in ∙ ap (λ (b : Between). b.max_in) c.feed.ensures.rest;
      left = c.hear-brought.ensures.left ∙ ap (λ (b : Between). b.left) c.feed.ensures.rest;
      goes = subst (λ (n : ℕ). GoesOn (Arrives n) c.args.caller.now c.hear-brought.new.caller.front) (ap (λ (b : Between). b.conn) c.feed.ensures.rest) c.hear-brought.ensures.hears.goes;
      kept = λ s k. c.hear-brought.ensures.hears.kept (and_taken s bytes) (subst (λ (l : List ℕ). IsKept c.args.caller.now (and_taken s l) c.feed.new.pump) same (c.in_ok-feed.ensures.kept c.args.caller.now s k));
    }
