use Rattle.std.proofs.Common.{refl}
use Rattle.pump.proofs.Adding.{goes_both, goes_none, on_both}
use Rattle.serve_threads.specs.Ending.{IsEnding}
use Rattle.serve_threads.proofs.ending.close_one.Goals as goal

pub loop-init : goal.loop-init
loop-init g c = (refl, goes_none IsEnding c.args.caller.now)

pub loop-preserved : goal.loop-preserved
loop-preserved g c =
    let i = c.loop.invariant in
    let me = c.args.caller.now in
    let was = c.loop.caller in
    let now = c.ask_end.new.caller in (
      on_both me was now i.0 c.ask_end.ensures.same,
      goes_both IsEnding me was now.front i.0 i.1 c.ask_end.ensures.goes,
    )

pub returns-then-ask_end-clause-goes : goal.returns-then-ask_end-clause-goes
returns-then-ask_end-clause-goes g c =
    let i = c.loop.invariant in
    goes_both IsEnding c.args.caller.now c.loop.caller c.ask_end.new.caller.front i.0 i.1 c.ask_end.ensures.goes
