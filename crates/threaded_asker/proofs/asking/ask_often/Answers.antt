use Rattle.threaded_asker.proofs.Asked.{asked_again, asked_none, on_both, on_none, only_both}
use Rattle.threaded_asker.proofs.asking.ask_often.Goals as goal

pub loop-init : goal.loop-init
loop-init g c = record { on = on_none c.args.caller.now; only = λ named o. o; asked = asked_none c.args.caller.now }

pub loop-preserved : goal.loop-preserved
loop-preserved g c =
    let was = c.args.caller.now in
    let mid = c.loop.caller in
    let now = c.ask.new.caller in
    let i = c.loop.invariant in
    record {
      on = on_both was mid now i.on c.in_ok-ask.ensures.same;
      only = only_both was mid now.front i.on i.only c.in_ok-ask.ensures.only;
      asked = asked_again was mid c.args.call.now c.loop.counter now.front i.on i.asked c.in_ok-ask.ensures.asked;
    }
