use Rattle.threaded_asker.proofs.Asked.{left_none, left_on, on_both, only_both}
use Rattle.threaded_asker.proofs.asking.ask_all.Goals as goal

pub loop-line-preserved : goal.loop-line-preserved
loop-line-preserved g c =
    let was = c.args.caller.now in
    let mid = c.loop-line.caller in
    let now = c.ask_line.new.caller in
    let i = c.loop-line.invariant in
    record {
      on = on_both was mid now i.on c.in_ok-ask_line.ensures.same;
      only = only_both was mid now.front i.on i.only c.in_ok-ask_line.ensures.only;
      asked = left_on c.args.end c.args.lines.now c.loop-line.line-index c.line-item.result was mid now c.loop-line-test.true c.line-item.is c.in_ok-ask_line.ensures.same i.asked c.in_ok-ask_line.ensures.asked;
    }

pub returns-clause-asked : goal.returns-clause-asked
returns-clause-asked g c = left_none c.args.end c.args.lines.now c.loop-line.line-index c.args.caller.now c.loop-line.caller c.loop-line-test.false c.loop-line.invariant.asked
