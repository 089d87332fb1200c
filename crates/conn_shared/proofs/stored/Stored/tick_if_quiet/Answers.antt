use Rattle.std.proofs.Common.{rules, ◌≡◌, subst}
use Rattle.session_core.specs.Seen.{Seen}
use Rattle.conn_shared.specs.Members.{Gains}
use Rattle.conn_shared.proofs.Called.{gains_noted}
use Rattle.conn_shared.proofs.stored.Stored.tick_if_quiet.Goals as goal

pub returns-clause-own : goal.returns-clause-own
returns-clause-own g c =
    let was : c.deref_mut.result.now ≡ c.args.self.now = search rules in
    subst (λ (s : Seen). Gains c.args.who s.entries c.tick_if_quiet-is_quiet.new.self.entries) was (gains_noted c.deref_mut.result.now c.tick_if_quiet-is_quiet.new.self c.args.who c.args.now c.tick_if_quiet-is_quiet.result c.tick_if_quiet-is_quiet.ensures.after c.tick_if_quiet-is_quiet.ensures.same)
