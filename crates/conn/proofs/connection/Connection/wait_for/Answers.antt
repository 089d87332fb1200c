use Rattle.std.proofs.Common.{rules, ◌≡◌, ap, subst}
use Rattle.tape.specs.declared.answer.Answer.TheVariants as answer
use Rattle.conn_shared.specs.Members.{Follows}
use Rattle.conn_shared.proofs.Called.{called_since, follows_on, waited}
use Rattle.conn.proofs.connection.Connection.wait_for.Goals as goal

pub loop-preserved : goal.loop-preserved
loop-preserved g c =
    let i = c.loop.invariant in
    let first = c.args.caller.now in
    let was = c.loop.caller in
    let now = c.event-answer.new.caller in
    let is : c.event-answer.result ≡ answer.NotYet = search rules in
    let more = waited _ was now.front c.args.event.now c.event-answer.result is c.event-answer.ensures.called in (
      search rules,
      follows_on first.names first.front was.front now.front i.1 (subst (λ names. Follows names was.front now.front) (ap (λ k. k.names) i.0) more),
    )

pub returns-then-ne-clause-called : goal.returns-then-ne-clause-called
returns-then-ne-clause-called g c =
    let i = c.loop.invariant in
    called_since _ c.args.caller.now c.loop.caller c.args.event.now c.event-answer.result _ (ap (λ k. k.names) i.0) (ap (λ k. k.number) i.0) i.1 c.event-answer.ensures.called
