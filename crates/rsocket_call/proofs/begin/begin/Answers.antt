use Rattle.std.proofs.Common.{◌≡◌, ◌∙◌, false, ap, rules, subst}
use Rattle.std.specs.Result.{is_err}
use Rattle.client.specs.Clients.{OpensAgain, Refuses, on}
use Rattle.client.proofs.Dialing.{dialed_none, dialed_one}
use Rattle.rsocket_call.proofs.Steps.{on_ok}
use Rattle.rsocket_call.proofs.Unbegun.{dialed_by, still_to}
use Rattle.rsocket_call.proofs.begin.begin.Goals as goal

pub returns-then-is_err-clause-asked : goal.returns-then-is_err-clause-asked
returns-then-is_err-clause-asked g c = dialed_none c.args.task.now.address c.args.task.now.ws (g.N.Net.asked c.args.net.now)

pub returns-in-Ok-clause-asked : goal.returns-in-Ok-clause-asked
returns-in-Ok-clause-asked g c =
    let asks = g.N.Net.asked c.args.net.now in
    dialed_one c.args.task.now.address c.args.task.now.ws asks asks (g.N.Net.asked c.begin.new.net) (dialed_none c.args.task.now.address c.args.task.now.ws asks) c.in-Ok.ensures.asked

pub returns-in-Err-clause-asked : goal.returns-in-Err-clause-asked
returns-in-Err-clause-asked g c = dialed_by c.in-Err.fault (g.N.Net.asked c.args.net.now) (g.N.Net.asked c.begin.new.net) (g.N.Net.back c.args.net.now) (g.N.Net.back c.begin.new.net)
    (g.N.Net.faults c.args.net.now) (g.N.Net.faults c.begin.new.net) c.args.task.now.address c.args.task.now.ws c.in-Err.ensures.cause

pub returns-in-Ok-clause-opened : goal.returns-in-Ok-clause-opened
returns-in-Ok-clause-opened g c =
    let b = c.in-Ok.ensures.begun in
    let same : c.tick.new.caller ≡ on c.args.caller c.tick.new.caller.front = c.tick.ensures.same in
    let told : is_err c.tick.result ≡ false = search rules in
    record {
      ticked = c.tick.new.caller.front;
      ticks = on_ok c.tick.result told c.tick.ensures.ticks;
      of = b.of ∙ ap (λ k. k.of) same;
      caller = b.caller ∙ ap (λ k. on k c.in-Ok.client.caller.front) same;
      opens = subst (λ k. OpensAgain k c.in-Ok.client.conn c.in-Ok.client.caller.front) same b.opened;
      link = b.link;
      has = b.has;
      new = b.new;
    }

pub returns-in-Err-clause-cause : goal.returns-in-Err-clause-cause
returns-in-Err-clause-cause g c =
    let same : c.tick.new.caller ≡ on c.args.caller c.tick.new.caller.front = c.tick.ensures.same in
    let told : is_err c.tick.result ≡ false = search rules in
    let came = still_to c.in-Err.fault (g.K.Clock.moments c.args.clock.now) c.args.caller c.tick.new.caller.front c.in-Err.caller.front (g.N.Net.asked c.args.net.now) (g.N.Net.asked c.begin.new.net) (g.N.Net.back c.args.net.now) (g.N.Net.back c.begin.new.net)
    (g.N.Net.faults c.args.net.now) (g.N.Net.faults c.begin.new.net) c.args.task.now.address c.args.task.now.ws (on_ok c.tick.result told c.tick.ensures.ticks) c.in-Err.ensures.cause
    (subst (λ k. Refuses k c.in-Err.fault c.in-Err.caller.front) same c.in-Err.ensures.back.2) in
    rw c.came_of.ensures came
