use Rattle.std.proofs.Common.{rules, refl}
use Rattle.rs_wire.specs.declared.call.Call.TheVariants as call
use Rattle.tape.specs.declared.event.Event.TheVariants as event
use Rattle.pump.proofs.Adding.{IsOn, goes_both, goes_called}
use Rattle.serve_threads.specs.Ending.{IsEnding}
use Rattle.serve_threads.proofs.ending.ask_end.Goals as goal

pub returns-then-is_full-clause-goes : goal.returns-then-is_full-clause-goes
returns-then-is_full-clause-goes g c =
    let me = c.args.caller.now in
    let mid = c.call-answer.new.caller in
    let on : IsOn me mid = search rules in
    goes_both IsEnding me mid c.cut_live.new.caller.front on
    (goes_called IsEnding c.args.connection.now.settings me (event.Asked call.Close) c.call-answer.result mid.front refl c.call-answer.ensures.called)
    c.cut_live.ensures.goes

pub returns-clause-goes : goal.returns-clause-goes
returns-clause-goes g c =
    goes_called IsEnding c.args.connection.now.settings c.args.caller.now (event.Asked call.Close) c.call-answer.result c.call-answer.new.caller.front refl c.call-answer.ensures.called
