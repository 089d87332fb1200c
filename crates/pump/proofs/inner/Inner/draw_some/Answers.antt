use Rattle.std.proofs.lemmas.Bool.Decides.{nat_tests}
use Rattle.std.proofs.Common.{rules, ◌≡◌, ◌∙◌, arith, length, false, Some, None, refl, ap, sym, subst}
use Rattle.tape.specs.declared.event.Event.TheVariants as event
use Rattle.conn_shared.specs.Members.{SharedId}
use Rattle.pump.specs.Turns.{DrawsWhere, Names, has, is_empty}
use Rattle.pump.proofs.Events.{brought_for}
use Rattle.pump.proofs.Drawing.{brought_draw, is_empty_by, is_some_by, kept_draw, names_draw, none_left}
use Rattle.pump.proofs.inner.Inner.draw_some.Goals as goal

pub returns-clause-draws : goal.returns-clause-draws
returns-clause-draws g c =
    let me = c.args.caller.now in
    let p = c.args.self.now in
    let st = c.args.connection.now.settings in
    let zero : length p.outgoing ≡ 0 = grind (arith, nat_tests, c.len.ensures.count, c.if-len-ne0.false) in
    let d = c.draw.ensures.drew in
    record {
      kept = λ s k. kept_draw st me c.draw.new.caller c.draw.result s (has p) c.args.room c.draw.new.self (ap (λ (r : SharedId). r.settings) c.requires.of) (search rules) (none_left p.outgoing zero) d k;
      drew = record {
        drew = Some d.0;
        draw = subst (λ b. DrawsWhere b st me p.conn c.args.room (Some d.0) p.outgoing c.draw.new.self c.draw.new.caller.front) (sym (is_empty_by p.outgoing zero)) d.2;
        came_to = d.1;
      };
      cause = brought_for (Names p.conn) st me (event.Draw p.conn c.args.room) c.draw.result c.draw.new.caller.front (names_draw p.conn c.args.room)
          (brought_draw st me p.conn c.args.room c.draw.result c.draw.new.self c.draw.new.caller.front d);
    }

pub returns-then-len-ne0-clause-draws : goal.returns-then-len-ne0-clause-draws
returns-then-len-ne0-clause-draws g c =
    let me = c.args.caller.now in
    let old = c.args.self.now.outgoing in
    let some : is_empty old ≡ false = is_some_by old (λ zero. (let n : c.len.result ≡ 0 = c.len.ensures.count ∙ zero in grind (arith, nat_tests, n, c.if-len-ne0.true))) in
    record {
      kept = λ s k. k;
      drew = record {
        drew = None;
        draw = subst (λ b. DrawsWhere b c.args.connection.now.settings me c.args.self.now.conn c.args.room None old old me.front) (sym some) (refl, refl);
        came_to = refl;
      };
      cause = tt;
    }
