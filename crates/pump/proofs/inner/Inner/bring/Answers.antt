use Rattle.std.proofs.Common.{rules, ◌≡◌, ◌∙◌, true, false, true≢false, ap, sym}
use Rattle.conn_shared.specs.Members.{SharedId}
use Rattle.pump.specs.Turns.{Arrives, Names, has, leaves_by}
use Rattle.pump.proofs.Adding.{goes_called}
use Rattle.pump.proofs.Events.{arrived, arrives_names, arrives_some, brought_for, busy_by, busy_none, front_arrives}
use Rattle.pump.proofs.Keeping.{kept_no_entry, kept_steps}
use Rattle.pump.proofs.Settled.{front_all, front_whole}
use Rattle.pump.proofs.inner.Inner.bring.Goals as goal

pub returns-then-not-leaves-clause-hears : goal.returns-then-not-leaves-clause-hears
returns-then-not-leaves-clause-hears g c =
    let me = c.args.caller.now in
    let now = c.bring_event-brought.new.caller in
    let p = c.args.self.now in
    let st = c.args.connection.now.settings in
    let e = c.args.event in
    let result = c.bring_event-brought.result in
    let came = c.bring_event-brought.ensures.brought in
    let arrives = front_arrives _ _ _ e c.requires.is in
    let none : leaves_by result ≡ false = search rules in
    record {
      kept = λ s k. kept_no_entry st me now e result s (has p) (search rules) none came k;
      goes = goes_called (Arrives p.conn) st me e came.answer now.front arrives came.called;
      cause = brought_for (Names p.conn) st me e result now.front (arrives_names _ e arrives) came;
      busy = busy_by st me e result now.front (has p) (front_all p.conn p.incoming e c.requires.fed c.requires.is) came (search rules);
      arrived = λ is. absurd (true≢false (sym (ap leaves_by is) ∙ none));
    }

pub settle-requires-clause-whole : goal.settle-requires-clause-whole
settle-requires-clause-whole g c good = front_whole _ _ _ c.args.event c.requires.is (search rules)

pub returns-clause-hears : goal.returns-clause-hears
returns-clause-hears g c =
    let me = c.args.caller.now in
    let now = c.bring_event-brought.new.caller in
    let p = c.args.self.now in
    let q = c.settle.new.self in
    let st = c.args.connection.now.settings in
    let e = c.args.event in
    let result = c.bring_event-brought.result in
    let came = c.bring_event-brought.ensures.brought in
    let arrives = front_arrives _ _ _ e c.requires.is in
    let some : leaves_by result ≡ true = search rules in
    record {
      kept = λ s k. kept_steps st me now e result s p q (ap (λ (r : SharedId). r.settings) c.requires.of) c.requires.limit (search rules) some c.settle.ensures.conn (c.settle.ensures.steps e (search rules) c.requires.is) came k;
      goes = goes_called (Arrives p.conn) st me e came.answer now.front arrives came.called;
      cause = brought_for (Names p.conn) st me e result now.front (arrives_names _ e arrives) came;
      busy = busy_none st now.front (has q) result (search rules);
      arrived = λ is. arrived st me p.conn e result now.front arrives some came;
    }

pub returns-then-not-leaves-clause-some : goal.returns-then-not-leaves-clause-some
returns-then-not-leaves-clause-some g c is = arrives_some c.args.connection.now.settings c.args.caller.now c.args.self.now.conn c.args.event c.bring_event-brought.result c.bring_event-brought.new.caller.front (front_arrives _ _ _ c.args.event c.requires.is) c.bring_event-brought.ensures.brought is

pub returns-clause-some : goal.returns-clause-some
returns-clause-some g c is = arrives_some c.args.connection.now.settings c.args.caller.now c.args.self.now.conn c.args.event c.bring_event-brought.result c.bring_event-brought.new.caller.front (front_arrives _ _ _ c.args.event c.requires.is) c.bring_event-brought.ensures.brought is
