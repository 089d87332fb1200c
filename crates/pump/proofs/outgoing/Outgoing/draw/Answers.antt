use Rattle.std.proofs.Common.{rules, ◌≡◌, ◌∙◌, ◌-◌, arith, ap, take}
use Rattle.std.specs.Vec.{with_items}
use Rattle.std.proofs.lemmas.List.{with_items_is}
use Rattle.link_model.specs.Giving.{count_drawn}
use Rattle.pump.proofs.Drawing.{drawn_into}
use Rattle.pump.proofs.outgoing.Outgoing.draw.Goals as goal

pub returns-clause-drew : goal.returns-clause-drew
returns-clause-drew g c =
    let d = c.draw_first-answer.ensures.drawn in
    let whole : (with_items c.self.inside.bytes c.draw_first-answer.new.buffer).items ≡ c.draw_first-answer.new.buffer = with_items_is c.self.inside.bytes c.draw_first-answer.new.buffer (search rules) in
    let n : c.count_drawn.result - 0 ≡ count_drawn c.draw_first-answer.result = omega (arith, c.count_drawn.ensures) in (
      c.draw_first-answer.result,
      search rules,
      drawn_into c.args.connection.now.settings c.args.caller.now c.args.conn c.args.room c.draw_first-answer.result _ c.draw_first-answer.new.buffer _ c.draw_first-answer.new.caller.front d
          (ap (λ xs. take (c.count_drawn.result - 0) xs) whole ∙ ap (λ k. take k c.draw_first-answer.new.buffer) n),
    )
