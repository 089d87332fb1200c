use Rattle.std.proofs.Common.{rules, ◌≡◌, ◌∙◌, ◌&&◌, inl, inr, true, false, not, None, ap, sym, subst, refl}
use Rattle.tape.specs.declared.event.Event.TheVariants as event
use Rattle.conn_shared.specs.Members.{Knowledge}
use Rattle.pump.specs.declared.numbers.TheConstants.{PIECE}
use Rattle.pump.specs.Turns.{DrawsWhere, IsPumped, Names, goes_on_after, has, is_empty, is_ended}
use Rattle.pump.proofs.Adding.{continues_same, goes_called, goes_continues}
use Rattle.pump.proofs.Drawing.{from_draw}
use Rattle.pump.proofs.Events.{brought_for, brought_wider}
use Rattle.pump.proofs.Keeping.{kept_other}
use Rattle.pump.proofs.inner.Inner.begin.Goals as goal

pub returns-then-is_ended-clause-kept : goal.returns-then-is_ended-clause-kept
returns-then-is_ended-clause-kept g c s k =
    let t = c.tick-ticked.ensures.ticked in
    kept_other c.args.connection.now.settings c.args.caller.now c.tick-ticked.new.caller (event.Tick t.now) c.tick-ticked.result s (has c.args.self.now) (search rules) refl t.brought k

pub returns-clause-kept : goal.returns-clause-kept
returns-clause-kept g c s k =
    let t = c.tick-ticked.ensures.ticked in
    c.draw_some.ensures.draws.kept s (kept_other c.args.connection.now.settings c.args.caller.now c.tick-ticked.new.caller (event.Tick t.now) c.tick-ticked.result s (has c.args.self.now) (search rules) refl t.brought k)

pub returns-then-is_ended-clause-begins : goal.returns-then-is_ended-clause-begins
returns-then-is_ended-clause-begins g c =
    let t = c.tick-ticked.ensures.ticked in
    let old = c.args.self.now.outgoing in
    let ended : is_ended c.tick-ticked.result ≡ true = search rules in
    let on : (goes_on_after t.brought.answer && is_empty old) ≡ false = ap (λ b. not (is_ended b) && is_empty old) (sym t.brought.is) ∙ ap (λ v. not v && is_empty old) ended in
    record {
      begins = record {
        now = t.now;
        moment = t.moment;
        answer = t.brought.answer;
        ticked = c.tick-ticked.new.caller.front;
        tick = t.brought.called;
        drew = None;
        draw = subst (λ b. DrawsWhere b c.args.connection.now.settings (record c.args.caller.now { front = c.tick-ticked.new.caller.front; note = None }) c.args.self.now.conn PIECE None old old c.tick-ticked.new.caller.front) (sym on) (refl, refl);
      };
      came_to = ap (λ b. not (is_ended b)) (sym t.brought.is);
    }

pub returns-clause-begins : goal.returns-clause-begins
returns-clause-begins g c =
    let t = c.tick-ticked.ensures.ticked in
    let me = c.args.caller.now in
    let mid = c.tick-ticked.new.caller in
    let old = c.args.self.now.outgoing in
    let ended : is_ended c.tick-ticked.result ≡ false = search rules in
    let on : (goes_on_after t.brought.answer && is_empty old) ≡ is_empty old = ap (λ b. not (is_ended b) && is_empty old) (sym t.brought.is) ∙ ap (λ v. not v && is_empty old) ended in
    let d = c.draw_some.ensures.draws.drew in
    let went : goes_on_after t.brought.answer ≡ true = ap (λ b. not (is_ended b)) (sym t.brought.is) ∙ ap not ended in
    record {
      begins = record {
        now = t.now;
        moment = t.moment;
        answer = t.brought.answer;
        ticked = mid.front;
        tick = t.brought.called;
        drew = d.drew;
        draw = subst (λ b. DrawsWhere b c.args.connection.now.settings (record me { front = mid.front; note = None }) c.args.self.now.conn PIECE d.drew old c.draw_some.new.self.outgoing c.draw_some.new.caller.front) (sym on)
            (subst (λ (m : Knowledge). DrawsWhere (is_empty old) c.args.connection.now.settings m c.args.self.now.conn PIECE d.drew old c.draw_some.new.self.outgoing c.draw_some.new.caller.front) c.tick-ticked.ensures.same d.draw);
      };
      came_to = from_draw t.brought.answer d.drew went ∙ ap (λ b. not (is_ended b)) (sym d.came_to);
    }

pub returns-then-is_ended-clause-cause : goal.returns-then-is_ended-clause-cause
returns-then-is_ended-clause-cause g c =
    let t = c.tick-ticked.ensures.ticked in
    brought_for _ c.args.connection.now.settings c.args.caller.now (event.Tick t.now) c.tick-ticked.result c.tick-ticked.new.caller.front (inl t.moment) t.brought

pub returns-clause-cause : goal.returns-clause-cause
returns-clause-cause g c =
    let t = c.tick-ticked.ensures.ticked in
    let P = IsPumped (g.K.Clock.moments c.args.clock.now) c.args.self.now.conn in
    let goes = goes_called P c.args.connection.now.settings c.args.caller.now (event.Tick t.now) t.brought.answer c.tick-ticked.new.caller.front (inl t.moment) t.brought.called in
    brought_wider (Names c.args.self.now.conn) P c.args.connection.now.settings c.args.caller.now c.tick-ticked.new.caller c.draw_some.new.caller.front c.draw_some.new.caller.front c.draw_some.result (λ v h. inr h)
    (ap (λ (x : Knowledge). x.number) c.tick-ticked.ensures.same) (goes_continues P c.args.caller.now c.tick-ticked.new.caller.front goes) (continues_same c.draw_some.new.caller.front) c.draw_some.ensures.draws.cause
