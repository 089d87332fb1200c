use Rattle.std.proofs.Common.{◌≡◌, ◌∙◌, Some, None, true, false, ap, refl, rules, subst, sym}
use Rattle.std.specs.Result.{is_err}
use Rattle.rs_wire.specs.Calls.{CanBeAsked}
use Rattle.conn_shared.specs.Members.{SharedId}
use Rattle.client.specs.Clients.{asking_of}
use Rattle.client.specs.Counting.{tries_of}
use Rattle.client.specs.declared.called.Called.TheVariants as called
use Rattle.client.proofs.Dialing.{dialed_as, dialed_both, dialed_none}
use Rattle.client.proofs.OverTakes.{same_both}
use Rattle.rsocket_output.specs.Written.{CutOff, Writes}
use Rattle.rsocket_call.proofs.Steps.{cut, goes_written, on_err, on_none, on_ok, on_start, stops_written}
use Rattle.rsocket_call.proofs.make.make.Goals as goal

pub loop-init : goal.loop-init
loop-init g c = record {
  of = search rules;
  same = search rules;
  to = search rules;
  over = search rules;
  dialed = dialed_none c.args.client.now.address c.args.client.now.ws (g.N.Net.asked c.args.net.now);
  joined = record { link = search rules; limit = search rules; at = search rules; out_is = search rules };
  askable = c.in-Ok.ensures.askable;
  request = c.in-Ok.ensures.request;
  none = c.new-lines.ensures.items;
  on = on_start (asking_of c.args.plan.now) (g.K.Clock.moments c.args.clock.now) (g.N.Net.faults c.args.net.now) c.args.client.now c.start.new.self c.in-Ok.calling (g.N.Net.back c.args.net.now) (g.O.Sink.shown c.args.output.now) c.in-Ok.ensures.starts;
}

pub returns-then-is_err-clause-made : goal.returns-then-is_err-clause-made
returns-then-is_err-clause-made g c =
    let failed : is_err c.write_all.result ≡ true = search rules in
    let left : c.go_on-step.result ≡ Some called.OutOfMemory → ⊥ = c.ran_out.ensures (search rules) in
    cut (asking_of c.args.plan.now) (g.K.Clock.moments c.args.clock.now) c.args.plan.now.lulls (tries_of c.args.client.now.of.settings c.args.plan.now.tries) (g.N.Net.faults c.args.net.now) (g.N.Net.faults c.loop.net) (g.N.Net.faults c.go_on-step.new.net) c.args.client.now c.loop.client c.go_on-step.new.self c.loop.calling c.go_on-step.new.calling
    (g.N.Net.back c.args.net.now) (g.N.Net.back c.loop.net) (g.N.Net.back c.go_on-step.new.net) (g.O.Sink.shown c.args.output.now) (g.O.Sink.shown c.loop.output) c.loop.invariant.on c.loop.invariant.same
    c.go_on-step.result c.loop.lines.items c.go_on-step.new.out.items c.loop.invariant.none (g.O.Sink.shown c.write_all.new.output) left (c.go_on-step.ensures.steps (asking_of c.args.plan.now) (tries_of c.args.client.now.of.settings c.args.plan.now.tries) (ap (λ (s : SharedId). tries_of s.settings c.args.plan.now.tries) (sym c.loop.invariant.of)) c.loop.invariant.request refl refl)
    (subst (λ l. CutOff l (g.O.Sink.shown c.loop.output) (g.O.Sink.shown c.write_all.new.output)) c.deref.ensures.value (on_err c.write_all.result failed c.write_all.ensures.err))

pub returns-then-is_err-clause-asked : goal.returns-then-is_err-clause-asked
returns-then-is_err-clause-asked g c = dialed_both c.args.client.now.address c.args.client.now.ws (g.N.Net.asked c.args.net.now) (g.N.Net.asked c.loop.net) (g.N.Net.asked c.go_on-step.new.net) c.loop.invariant.dialed
    (dialed_as c.loop.client.address c.args.client.now.address c.loop.client.ws c.args.client.now.ws (g.N.Net.asked c.loop.net) (g.N.Net.asked c.go_on-step.new.net) c.loop.invariant.to c.loop.invariant.over c.go_on-step.ensures.asked)

pub returns-then-ran_out-clause-asked : goal.returns-then-ran_out-clause-asked
returns-then-ran_out-clause-asked g c = dialed_both c.args.client.now.address c.args.client.now.ws (g.N.Net.asked c.args.net.now) (g.N.Net.asked c.loop.net) (g.N.Net.asked c.go_on-step.new.net) c.loop.invariant.dialed
    (dialed_as c.loop.client.address c.args.client.now.address c.loop.client.ws c.args.client.now.ws (g.N.Net.asked c.loop.net) (g.N.Net.asked c.go_on-step.new.net) c.loop.invariant.to c.loop.invariant.over c.go_on-step.ensures.asked)

pub returns-in-Some-step-clause-asked : goal.returns-in-Some-step-clause-asked
returns-in-Some-step-clause-asked g c = dialed_both c.args.client.now.address c.args.client.now.ws (g.N.Net.asked c.args.net.now) (g.N.Net.asked c.loop.net) (g.N.Net.asked c.go_on-step.new.net) c.loop.invariant.dialed
    (dialed_as c.loop.client.address c.args.client.now.address c.loop.client.ws c.args.client.now.ws (g.N.Net.asked c.loop.net) (g.N.Net.asked c.go_on-step.new.net) c.loop.invariant.to c.loop.invariant.over c.go_on-step.ensures.asked)

pub returns-in-Some-step-clause-made : goal.returns-in-Some-step-clause-made
returns-in-Some-step-clause-made g c =
    let whole : is_err c.write_all.result ≡ false = search rules in
    let is : c.go_on-step.result ≡ Some c.in-Some-step.called = search rules in
    let left : c.go_on-step.result ≡ Some called.OutOfMemory → ⊥ = c.ran_out.ensures (search rules) in
    stops_written (asking_of c.args.plan.now) (g.K.Clock.moments c.args.clock.now) c.args.plan.now.lulls (tries_of c.args.client.now.of.settings c.args.plan.now.tries) (g.N.Net.faults c.args.net.now) (g.N.Net.faults c.loop.net) (g.N.Net.faults c.go_on-step.new.net) c.args.client.now c.loop.client c.go_on-step.new.self c.loop.calling c.go_on-step.new.calling
    (g.N.Net.back c.args.net.now) (g.N.Net.back c.loop.net) (g.N.Net.back c.go_on-step.new.net) (g.O.Sink.shown c.args.output.now) (g.O.Sink.shown c.loop.output) c.loop.invariant.on c.loop.invariant.same
    c.go_on-step.result c.loop.lines.items c.go_on-step.new.out.items c.loop.invariant.none (g.O.Sink.shown c.write_all.new.output) c.in-Some-step.called is (λ e. left (is ∙ ap Some e)) (c.go_on-step.ensures.steps (asking_of c.args.plan.now) (tries_of c.args.client.now.of.settings c.args.plan.now.tries) (ap (λ (s : SharedId). tries_of s.settings c.args.plan.now.tries) (sym c.loop.invariant.of)) c.loop.invariant.request refl refl)
    (subst (λ l. Writes l (g.O.Sink.shown c.loop.output) (g.O.Sink.shown c.write_all.new.output)) c.deref.ensures.value (on_ok c.write_all.result whole c.write_all.ensures.ok))

pub loop-preserved : goal.loop-preserved
loop-preserved g c =
    let whole : is_err c.write_all.result ≡ false = search rules in
    let is : c.go_on-step.result ≡ None = search rules in
    record {
      of = c.go_on-step.ensures.of ∙ c.loop.invariant.of;
      same = same_both c.args.client.now.caller c.loop.client.caller c.go_on-step.new.self.caller c.loop.invariant.same c.go_on-step.ensures.caller;
      to = c.go_on-step.ensures.address ∙ c.loop.invariant.to;
      over = c.go_on-step.ensures.ws ∙ c.loop.invariant.over;
      dialed = dialed_both c.args.client.now.address c.args.client.now.ws (g.N.Net.asked c.args.net.now) (g.N.Net.asked c.loop.net) (g.N.Net.asked c.go_on-step.new.net) c.loop.invariant.dialed
          (dialed_as c.loop.client.address c.args.client.now.address c.loop.client.ws c.args.client.now.ws (g.N.Net.asked c.loop.net) (g.N.Net.asked c.go_on-step.new.net) c.loop.invariant.to c.loop.invariant.over c.go_on-step.ensures.asked);
      joined = on_none c.go_on-step.result is c.go_on-step.ensures.joined;
      askable = subst CanBeAsked (sym c.go_on-step.ensures.request) c.loop.invariant.askable;
      request = c.go_on-step.ensures.request ∙ c.loop.invariant.request;
      none = c.clear.ensures.items;
      on = goes_written (asking_of c.args.plan.now) (g.K.Clock.moments c.args.clock.now) c.args.plan.now.lulls (tries_of c.args.client.now.of.settings c.args.plan.now.tries) (g.N.Net.faults c.args.net.now) (g.N.Net.faults c.loop.net) (g.N.Net.faults c.go_on-step.new.net) c.args.client.now c.loop.client c.go_on-step.new.self c.loop.calling c.go_on-step.new.calling
          (g.N.Net.back c.args.net.now) (g.N.Net.back c.loop.net) (g.N.Net.back c.go_on-step.new.net) (g.O.Sink.shown c.args.output.now) (g.O.Sink.shown c.loop.output) c.loop.invariant.on c.loop.invariant.same
          c.go_on-step.result c.loop.lines.items c.go_on-step.new.out.items c.loop.invariant.none (g.O.Sink.shown c.write_all.new.output) is (c.go_on-step.ensures.steps (asking_of c.args.plan.now) (tries_of c.args.client.now.of.settings c.args.plan.now.tries) (ap (λ (s : SharedId). tries_of s.settings c.args.plan.now.tries) (sym c.loop.invariant.of)) c.loop.invariant.request refl refl)
          (subst (λ l. Writes l (g.O.Sink.shown c.loop.output) (g.O.Sink.shown c.write_all.new.output)) c.deref.ensures.value (on_ok c.write_all.result whole c.write_all.ensures.ok));
    }
