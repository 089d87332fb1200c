use Rattle.std.proofs.Common.{rules}
use Rattle.rtrb.specs.Ring.{sent}
use Rattle.pump.proofs.Adding.{on_both}
use Rattle.carriers.proofs.Moving.{gives_both, gives_none, on_noted}
use Rattle.carriers.proofs.giving.send.Goals as goal

pub loop-init : goal.loop-init
loop-init g c = record {
  same = on_noted c.args.caller.now c.look-queued.new.caller c.look-queued.ensures.same;
  ring = (search rules);
  gave = gives_none c.args.caller.now c.look-queued.new.caller c.args.pump.now (sent c.args.out.now) (on_noted c.args.caller.now c.look-queued.new.caller c.look-queued.ensures.same) c.look-queued.ensures.follows;
}

pub loop-preserved : goal.loop-preserved
loop-preserved g c =
    let i = c.loop.invariant in
    record {
      same = on_both c.args.caller.now c.loop.caller c.give.new.caller i.same c.give.ensures.same;
      ring = (search rules);
      gave = gives_both _ _ _ _ _ _ _ _ _ i.same i.gave c.in_ok-count.ensures.gave;
    }

pub returns-then-count-eq0-clause-gave : goal.returns-then-count-eq0-clause-gave
returns-then-count-eq0-clause-gave g c =
    let i = c.loop.invariant in
    gives_both _ _ _ _ _ _ _ _ _ i.same i.gave c.in_ok-count.ensures.gave
