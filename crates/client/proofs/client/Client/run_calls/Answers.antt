use Rattle.std.proofs.Common.{rules, ◌∙◌, refl, sym, ap, subst}
use Rattle.rs_wire.specs.Calls.{CanBeAsked}
use Rattle.conn_shared.specs.Members.{Knowledge, SharedId}
use Rattle.client.specs.Calling.{CanBegin}
use Rattle.client.specs.Clients.{asking_of}
use Rattle.client.specs.Counting.{tries_of}
use Rattle.client.proofs.Dialing.{dialed_as, dialed_both, dialed_none}
use Rattle.client.proofs.OverTakes.{same_both}
use Rattle.client.proofs.OverCalls.{run_on_by, run_start, run_stops_by}
use Rattle.client.proofs.client.Client.run_calls.Goals as goal

pub loop-init : goal.loop-init
loop-init g c =
    let moments = g.K.Clock.moments c.args.clock.now in
    let start : Knowledge = c.args.self.now.caller in (
      search rules,
      search rules,
      record { link = search rules; limit = search rules; at = search rules; out_is = search rules },
      c.in-Ok.ensures.askable,
      c.in-Ok.ensures.request,
      run_start (asking_of c.args.plan.now) moments (g.N.Net.faults c.args.net.now) c.args.self.now.conn start.of.settings start c.start.new.self.caller c.args.self.now.conn c.start.new.self.conn c.args.self.now.link c.start.new.self.link c.in-Ok.calling (g.N.Net.back c.args.net.now) c.args.out.now.items c.in-Ok.ensures.starts,
      search rules,
      search rules,
      dialed_none c.args.self.now.address c.args.self.now.ws (g.N.Net.asked c.args.net.now),
    )

pub loop-preserved : goal.loop-preserved
loop-preserved g c =
    let moments = g.K.Clock.moments c.args.clock.now in
    let start : Knowledge = c.args.self.now.caller in
    let i = c.loop.invariant in (
      c.go_on.ensures.of ∙ i.0,
      same_both start c.loop.self.caller c.go_on.new.self.caller i.1 c.go_on.ensures.caller,
      c.in_default-go_on.ensures.joined,
      subst CanBeAsked (sym c.go_on.ensures.request) i.3,
      c.go_on.ensures.request ∙ i.4,
      run_on_by (asking_of c.args.plan.now) moments c.args.plan.now.lulls (tries_of c.args.self.now.of.settings c.args.plan.now.tries) (g.N.Net.faults c.args.net.now) (g.N.Net.faults c.loop.net) (g.N.Net.faults c.go_on.new.net) c.args.self.now.conn start.of.settings start c.loop.self.caller c.go_on.new.self.caller c.loop.self.conn c.go_on.new.self.conn c.loop.self.link c.go_on.new.self.link c.loop.calling c.go_on.new.calling (g.N.Net.back c.args.net.now) (g.N.Net.back c.loop.net) (g.N.Net.back c.go_on.new.net) c.args.out.now.items c.loop.out.items c.go_on.new.out.items
          (CanBegin (asking_of c.args.plan.now) moments start.front c.args.self.now.conn c.args.self.now.link) c.loop.self.caller.of.settings c.go_on.result (search rules) (search rules) i.5 (c.go_on.ensures.steps (asking_of c.args.plan.now) (tries_of c.args.self.now.of.settings c.args.plan.now.tries) (ap (λ (s : SharedId). tries_of s.settings c.args.plan.now.tries) (sym i.0)) i.4 refl refl),
      c.go_on.ensures.address ∙ i.6,
      c.go_on.ensures.ws ∙ i.7,
      dialed_both c.args.self.now.address c.args.self.now.ws (g.N.Net.asked c.args.net.now) (g.N.Net.asked c.loop.net) (g.N.Net.asked c.go_on.new.net) i.8 (dialed_as c.loop.self.address c.args.self.now.address c.loop.self.ws c.args.self.now.ws (g.N.Net.asked c.loop.net) (g.N.Net.asked c.go_on.new.net) i.6 i.7 c.go_on.ensures.asked),
    )

pub returns-in-Some-go_on-clause-comes : goal.returns-in-Some-go_on-clause-comes
returns-in-Some-go_on-clause-comes g c =
    let moments = g.K.Clock.moments c.args.clock.now in
    let start : Knowledge = c.args.self.now.caller in
    let i = c.loop.invariant in
    run_stops_by (asking_of c.args.plan.now) moments c.args.plan.now.lulls (tries_of c.args.self.now.of.settings c.args.plan.now.tries) (g.N.Net.faults c.args.net.now) (g.N.Net.faults c.loop.net) (g.N.Net.faults c.go_on.new.net) c.args.self.now.conn start.of.settings start c.loop.self.caller c.go_on.new.self.caller c.loop.self.conn c.go_on.new.self.conn c.loop.self.link c.go_on.new.self.link c.loop.calling c.go_on.new.calling (g.N.Net.back c.args.net.now) (g.N.Net.back c.loop.net) (g.N.Net.back c.go_on.new.net) c.args.out.now.items c.loop.out.items c.go_on.new.out.items
    (CanBegin (asking_of c.args.plan.now) moments start.front c.args.self.now.conn c.args.self.now.link) c.loop.self.caller.of.settings c.go_on.result c.in-Some-go_on.called (search rules) (search rules) i.5 (c.go_on.ensures.steps (asking_of c.args.plan.now) (tries_of c.args.self.now.of.settings c.args.plan.now.tries) (ap (λ (s : SharedId). tries_of s.settings c.args.plan.now.tries) (sym i.0)) i.4 refl refl)

pub returns-in-Some-go_on-clause-asked : goal.returns-in-Some-go_on-clause-asked
returns-in-Some-go_on-clause-asked g c =
    let i = c.loop.invariant in
    dialed_both c.args.self.now.address c.args.self.now.ws (g.N.Net.asked c.args.net.now) (g.N.Net.asked c.loop.net) (g.N.Net.asked c.go_on.new.net) i.8 (dialed_as c.loop.self.address c.args.self.now.address c.loop.self.ws c.args.self.now.ws (g.N.Net.asked c.loop.net) (g.N.Net.asked c.go_on.new.net) i.6 i.7 c.go_on.ensures.asked)
