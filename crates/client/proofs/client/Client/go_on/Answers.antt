use Rattle.std.proofs.Common.{rules, ◌≡◌, sym, subst}
use Rattle.conn_shared.specs.Members.{SharedId}
use Rattle.client.specs.Counting.{tries_of}
use Rattle.client.proofs.OverFollows.{finish_by, go_by, some_of}
use Rattle.client.proofs.client.Client.go_on.Goals as goal

pub returns-then-stepped-clause-steps : goal.returns-then-stepped-clause-steps
returns-then-stepped-clause-steps g c w tries is request kind count own =
    let here = some_of c.args.self.now.link c.requires.joined.link in
    finish_by w (g.K.Clock.moments c.args.clock.now) c.args.plan.now.lulls tries (g.N.Net.faults c.args.net.now) c.args.self.now c.advance.new.self c.args.calling.now c.advance.new.calling c.in-Ok.stepped.turned c.in-Ok.stepped.ended (g.N.Net.back c.args.net.now) c.args.out.now.items c.advance.new.out.items here.0
    (search rules) here.1 c.if-stepped.true c.advance.ensures.max_in (c.in-Ok.ensures.stepped w here.0 request kind count here.1 c.requires.joined.at) own

pub returns-clause-steps : goal.returns-clause-steps
returns-clause-steps g c w tries is request kind count own =
    let here = some_of c.args.self.now.link c.requires.joined.link in
    let mine : c.args.self.now.of ≡ c.advance.new.self.of = search rules in
    go_by w (g.K.Clock.moments c.args.clock.now) c.args.plan.now.lulls c.args.plan.now.tries tries (g.N.Net.faults c.args.net.now) (g.N.Net.faults c.follow.new.net) c.args.self.now c.advance.new.self c.follow.new.self c.args.calling.now c.advance.new.calling c.follow.new.calling c.in-Ok.stepped.turned c.in-Ok.stepped.ended c.follow.result (g.N.Net.back c.args.net.now) (g.N.Net.back c.follow.new.net) c.args.out.now.items c.advance.new.out.items here.0
    c.if-stepped.false (search rules) (search rules) (search rules) (search rules) (search rules) c.advance.ensures.link here.1 (subst (λ (i : SharedId). tries_of i.settings c.args.plan.now.tries ≡ tries) mine (sym is)) (search rules) (search rules) c.advance.ensures.max_in c.follow.ensures.caller c.follow.ensures.follows (c.in-Ok.ensures.stepped w here.0 request kind count here.1 c.requires.joined.at) own
