use Rattle.std.proofs.Common.{◌≡◌, ◌∙◌, is_some, ap, inr, refl, subst, sym}
use Rattle.conn_shared.specs.Members.{first_member}
use Rattle.client.specs.Clients.{asking_of}
use Rattle.client.specs.Counting.{HasDialed, tries_of}
use Rattle.client.proofs.Dialing.{dialed_as, dialed_both}
use Rattle.rsocket_call.specs.Called.{settings_for, tries_for}
use Rattle.rsocket_call.specs.Made.{HasMade}
use Rattle.rsocket_call.specs.Ended.{GotTape}
use Rattle.rsocket_call.proofs.Coming.{has_come_by}
use Rattle.rsocket_call.proofs.calling.call_as.Goals as goal

pub returns-clause-come : goal.returns-clause-come
returns-clause-come g c = λ asks dialed.
    let shelf = g.H.Shelf.back c.args.shelf.now in
    let shelf' = g.H.Shelf.back c.finish.new.shelf in
    let task = c.args.task.now in
    let settings : c.args.client.caller.of.settings ≡ settings_for task = ap (λ k. k.of.settings) c.requires.opened.caller ∙ c.requires.settings in
    let same : c.make-made.new.client.of.settings ≡ settings_for task = ap (λ o. o.settings) c.make-made.ensures.of ∙ c.requires.settings in
    let telling : c.make-made.new.client.of.tells ≡ is_some g.H.Shelf.fresh = ap (λ o. o.tells) c.make-made.ensures.of ∙ c.requires.tells in
    let tries : tries_of c.args.client.of.settings c.args.plan.now.tries ≡ tries_for task = ap (λ s. tries_of s c.args.plan.now.tries) c.requires.settings ∙ ap (tries_of (settings_for task)) c.requires.plan.2 in
    let calls = dialed_as c.args.client.address task.address c.args.client.ws task.ws (g.N.Net.asked c.args.net.now) (g.N.Net.asked c.make-made.new.net) c.requires.to.0 c.requires.to.1 c.make-made.ensures.asked in
    let all = dialed_both task.address task.ws asks (g.N.Net.asked c.args.net.now) (g.N.Net.asked c.make-made.new.net) dialed calls in
    has_come_by task (g.K.Clock.moments c.args.clock.now) g.H.Shelf.fresh shelf shelf' asks (g.N.Net.asked c.finish.new.net) (g.N.Net.back c.args.net.now) (g.N.Net.back c.make-made.new.net) (g.N.Net.back c.finish.new.net)
    (g.N.Net.faults c.args.net.now) (g.N.Net.faults c.finish.new.net) (first_member c.args.client.of) c.args.client c.make-made.new.client refl c.requires.opened settings c.finish.ensures.own
    (subst (λ b. GotTape (settings_for task) b c.make-made.new.client.caller.front shelf shelf') telling (subst (λ s. GotTape s c.make-made.new.client.of.tells c.make-made.new.client.caller.front shelf shelf') same c.finish.ensures.tape)) c.finish.ensures.back (subst (HasDialed task.address task.ws asks) (sym c.finish.ensures.asked) all)
    (asking_of c.args.plan.now) c.args.plan.now.lulls (tries_of c.args.client.of.settings c.args.plan.now.tries) c.requires.plan.0 c.requires.plan.1 tries c.make-made.result (g.O.Sink.shown c.args.output.now) (g.O.Sink.shown c.make-made.new.output)
    (subst (λ f. HasMade c.make-made.result (asking_of c.args.plan.now) (g.K.Clock.moments c.args.clock.now) c.args.plan.now.lulls (tries_of c.args.client.of.settings c.args.plan.now.tries) c.args.client c.make-made.new.client
    (g.N.Net.back c.args.net.now) (g.N.Net.back c.make-made.new.net) (g.N.Net.faults c.args.net.now) f (g.O.Sink.shown c.args.output.now) (g.O.Sink.shown c.make-made.new.output)) (sym c.finish.ensures.faults) c.make-made.ensures.made)

pub returns-clause-got : goal.returns-clause-got
returns-clause-got g c =
    let shelf = g.H.Shelf.back c.args.shelf.now in
    let shelf' = g.H.Shelf.back c.finish.new.shelf in
    let same : c.make-made.new.client.of.settings ≡ settings_for c.args.task.now = ap (λ o. o.settings) c.make-made.ensures.of ∙ c.requires.settings in
    let telling : c.make-made.new.client.of.tells ≡ is_some g.H.Shelf.fresh = ap (λ o. o.tells) c.make-made.ensures.of ∙ c.requires.tells in
    inr (
      c.make-made.new.client.caller.front,
      subst (λ b. GotTape (settings_for c.args.task.now) b c.make-made.new.client.caller.front shelf shelf') telling (subst (λ s. GotTape s c.make-made.new.client.of.tells c.make-made.new.client.caller.front shelf shelf') same c.finish.ensures.tape),
    )
