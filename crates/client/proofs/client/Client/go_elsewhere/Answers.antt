use Rattle.std.proofs.Common.{rules, ◌≡◌, subst}
use Rattle.conn_shared.specs.Members.{Follows, Knowledge}
use Rattle.client.proofs.Opening.{goes_as, stops_as}
use Rattle.client.proofs.client.Client.go_elsewhere.Goals as goal

pub returns-clause-goes : goal.returns-clause-goes
returns-clause-goes g c =
    let mine : c.self.inside.caller ≡ c.args.self.now.caller = search rules in
    let follows : Follows c.args.self.now.caller.names c.args.self.now.caller.front c.look.new.caller.front = subst (λ (k : Knowledge). Follows k.names k.front c.look.new.caller.front) mine c.look.ensures.follows in
    goes_as (g.K.Clock.moments c.args.clock.now) c.change_link.result c.args.self.now _ c.change_link.new.self c.change_link.new.calling.pump _ _ c.look.new.caller.front c.change_link.ensures.changes (search rules) follows

pub returns-clause-stops : goal.returns-clause-stops
returns-clause-stops g c =
    let mine : c.self.inside.caller ≡ c.args.self.now.caller = search rules in
    let follows : Follows c.args.self.now.caller.names c.args.self.now.caller.front c.look.new.caller.front = subst (λ (k : Knowledge). Follows k.names k.front c.look.new.caller.front) mine c.look.ensures.follows in
    stops_as c.change_link.result c.args.self.now _ c.change_link.new.self _ _ c.look.new.caller.front c.change_link.ensures.stops (search rules) follows
