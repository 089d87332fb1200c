use Rattle.std.proofs.Common.{None, ap}
use Rattle.tape.specs.declared.event.Event.TheVariants as event
use Rattle.conn_shared.specs.Members.{Knowledge}
use Rattle.conn_shared.proofs.Called.{called_since}
use Rattle.conn_shared.proofs.shared.SharedSession.ask.Goals as goal

pub returns-in_default-None-clause-called : goal.returns-in_default-None-clause-called
returns-in_default-None-clause-called g c =
    let first = c.args.member in
    let me = c.ask_at_once.result.0 in
    let now : Knowledge = record first { front = me.front; note = None } in
    let same = c.ask_at_once.ensures.same in
    let follows = c.ask_at_once.ensures.follows c.in_default-None.is-1 in
    called_since _ first me (event.Asked c.args.call.now) c.ask_by_copy.result.1 _ (ap (λ k. k.names) {y = now} same) (ap (λ k. k.number) {y = now} same) follows c.ask_by_copy.ensures.called
