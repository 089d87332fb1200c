use Rattle.std.proofs.Common.{rules, ◌≡◌, subst}
use Rattle.tape.specs.declared.event.Event.TheVariants as event
use Rattle.session_core.specs.Seen.{Seen}
use Rattle.conn_shared.specs.Members.{Gains}
use Rattle.conn_shared.proofs.Called.{gains_answered}
use Rattle.conn_shared.proofs.stored.Stored.ask.Goals as goal

pub returns-clause-own : goal.returns-clause-own
returns-clause-own g c =
    let was : c.deref_mut.result.now ≡ c.args.self.now = search rules in
    subst (λ (s : Seen). Gains c.args.who s.entries c.ask-answer.new.self.entries) was (gains_answered _ _ c.args.who (event.Asked c.args.call.now) c.ask-answer.result c.ask-answer.ensures.after c.ask-answer.ensures.none)
