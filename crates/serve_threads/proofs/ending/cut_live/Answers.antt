use Rattle.std.proofs.Common.{rules}
use Rattle.tape.specs.declared.event.Event.TheVariants as event
use Rattle.pump.proofs.Adding.{IsOn, goes_both, goes_called, goes_follows}
use Rattle.serve_threads.specs.Ending.{IsEnding}
use Rattle.serve_threads.proofs.ending.cut_live.Goals as goal

pub returns-clause-goes : goal.returns-clause-goes
returns-clause-goes g c =
    let me = c.args.caller.now in
    let mid = c.look-conn.new.caller in
    let on : IsOn me mid = search rules in
    goes_both IsEnding me mid c.bring.new.caller.front on (goes_follows IsEnding me mid.front c.look-conn.ensures.follows)
    (goes_called IsEnding c.args.connection.now.settings mid (event.Cut c.look-conn.result.live) c.bring.result c.bring.new.caller.front tt c.bring.ensures.called)
