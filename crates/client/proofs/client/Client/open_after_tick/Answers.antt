use Rattle.std.proofs.Common.{rules, ◌≡◌, ◌∙◌, subst, ap, Bool, false, Ok}
use Rattle.conn_shared.specs.Members.{Knowledge}
use Rattle.client.specs.Answered.{TicksAt}
use Rattle.client.specs.Clients.{OpensAgain, on}
use Rattle.client.proofs.Opening.{on_ok}
use Rattle.client.proofs.client.Client.open_after_tick.Goals as goal

pub returns-in-Ok-new_pump-clause-opens : goal.returns-in-Ok-new_pump-clause-opens
returns-in-Ok-new_pump-clause-opens g c =
    let was : Knowledge = c.args.self.now.caller in
    let mine : c.self.inside.caller ≡ was = search rules in
    let had : c.tick.result ≡ false = search rules in
    let same : c.tick.new.caller ≡ on was c.tick.new.caller.front = c.tick.ensures.same ∙ ap (λ (k : Knowledge). on k c.tick.new.caller.front) mine in
    let opened : c.open_on.result ≡ Ok tt = search rules in
    record {
      now = c.now.result;
      moment = search rules;
      ticked = c.tick.new.caller.front;
      tick = subst (λ (b : Bool). TicksAt was c.now.result b c.tick.new.caller.front) had (subst (λ (k : Knowledge). TicksAt k c.now.result c.tick.result c.tick.new.caller.front) mine c.tick.ensures.ticks);
      opens = subst (λ (k : Knowledge). OpensAgain k c.open_on.new.self.conn c.open_on.new.self.caller.front) same (on_ok c.open_on.result opened c.open_on.ensures.ok).1;
    }
