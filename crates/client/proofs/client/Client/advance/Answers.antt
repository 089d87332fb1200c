use Rattle.std.proofs.Common.{rules, ◌≡◌, ◌∙◌, subst, ℕ, Option, refl}
use Rattle.rs_wire.specs.declared.call.Call.{Call}
use Rattle.call_model.specs.Order.{request_of}
use Rattle.conn_shared.specs.Members.{Knowledge}
use Rattle.client.specs.Clients.{AsksSo}
use Rattle.client.proofs.OverSteps.{stepped_by}
use Rattle.client.proofs.client.Client.advance.Goals as goal

pub returns-clause-stepped : goal.returns-clause-stepped
returns-clause-stepped g c w s request kind count link at own =
    let was : Knowledge = c.args.self.now.caller in
    let k1 : Knowledge = c.turn-turned.new.self.caller in
    let k2 : Knowledge = c.ask_where_due.new.self.caller in
    let now : Knowledge = c.take_all.new.self.caller in
    let turns = c.turn-turned.ensures.turns s link in
    let stream1 : Option ℕ = c.turn-turned.new.calling.stream in
    let stream2 : Option ℕ = c.ask_where_due.new.calling.stream in
    let asked : c.turn-turned.new.calling.request ≡ c.args.calling.now.request = search rules in
    let has : c.take_all.new.self.link ≡ c.turn-turned.new.self.link = search rules in
    let asks : AsksSo c.turn-turned.result (request_of w) k1 stream1 stream2 k2.front = subst (λ (x : Call). AsksSo c.turn-turned.result x k1 stream1 stream2 k2.front) (asked ∙ request) c.in_ok-ask_where_due.ensures.asked in
    let h = stepped_by w (g.K.Clock.moments c.args.clock.now) c.args.plan.now.kind c.args.plan.now.initial was k1 k2 now s turns.0 c.args.self.now.conn c.ask_where_due.new.self.conn
    c.args.calling.now.pump c.turn-turned.new.calling.pump c.take_all.new.calling.pump c.ask_where_due.new.calling.pump.left c.args.calling.now.stream stream1 stream2 c.take_all.new.calling.stream
    c.args.calling.now.fresh c.ask_where_due.new.calling.fresh c.take_all.new.calling.fresh c.args.calling.now.full c.turn-turned.result c.in_ok-ended.ended c.args.out.now.items c.args.out.now.items c.take_all.new.out.items
    (search rules) (search rules) (search rules) (search rules) at (search rules) kind count (search rules) (search rules) (search rules) (search rules) refl (search rules) (search rules)
    turns.2 asks c.in_ok-ended.ensures.taken own in
    (h.0, λ ready. (let both = h.1 ready in (turns.0, has ∙ turns.1, both.0, both.1)))
