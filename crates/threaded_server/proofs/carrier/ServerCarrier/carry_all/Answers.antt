use Rattle.std.proofs.Common.{◌++◌, rules, take}
use Rattle.pump.proofs.Adding.{on_both}
use Rattle.rtrb.specs.Ring.{received, sent}
use Rattle.threaded_server.proofs.Steps.{all_followed, one_more}
use Rattle.threaded_server.proofs.carrier.ServerCarrier.carry_all.Goals as goal

pub loop-line-preserved : goal.loop-line-preserved
loop-line-preserved g c =
    let i = c.loop-line.invariant in
    let now = c.line.new.self in
    record {
      same = on_both c.args.self.now.caller c.loop-line.self.caller now.caller i.same c.line.ensures.same;
      out = (search rules);
      from = (search rules);
      sound = c.in_ok-line.ensures.sound;
      kept = λ before k. one_more now.caller before c.args.lines.now c.loop-line.line-index c.line-item.result now.knows (sent now.out) (received now.from) c.loop-line-test.true c.line-item.is
          (c.in_ok-line.ensures.kept (before ++ take c.loop-line.line-index c.args.lines.now) (i.kept before k));
    }

pub returns-clause-kept : goal.returns-clause-kept
returns-clause-kept g c =
    let now = c.loop-line.self in
    λ before k. all_followed now.caller before c.args.lines.now c.loop-line.line-index now.knows (sent now.out) (received now.from) c.loop-line-test.false (c.loop-line.invariant.kept before k)
