use Rattle.std.proofs.Common.{rules, None, refl, ap}
use Rattle.tape.specs.declared.event.Event.TheVariants as event
use Rattle.conn_shared.specs.Members.{Knowledge}
use Rattle.conn_shared.proofs.Called.{called_since}
use Rattle.pump.proofs.bringing.tick.Goals as goal

-- the tick is brought by the caller as it has become since
pub returns-clause-ticked : goal.returns-clause-ticked
returns-clause-ticked g c =
    let first = c.args.caller.now in
    let me = c.tick_if_quiet.new.caller in
    let seen : Knowledge = record first { front = me.front; note = None } in
    let same = c.tick_if_quiet.ensures.same in
    let follows = c.if-tick_if_quiet.ensures.follows refl in
    let brought = c.bring_event.ensures.brought in
    record {
      now = c.now-now.result;
      moment = search rules;
      brought = record {
        answer = brought.answer;
        is = brought.is;
        called = called_since _ first me (event.Tick c.now-now.result) brought.answer _ (ap (λ k. k.names) {y = seen} same) (ap (λ k. k.number) {y = seen} same) follows brought.called;
      };
    }
