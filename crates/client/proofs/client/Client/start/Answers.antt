use Rattle.std.proofs.Common.{rules, ◌≡◌, ◌∙◌, sym, subst, ℕ, List, [], Option, None, Ok, Result}
use Rattle.rs_wire.specs.declared.call.Call.{Call}
use Rattle.rs_wire.specs.declared.memory.OutOfMemory.{OutOfMemory}
use Rattle.outside.specs.Links.{Shown}
use Rattle.conn_shared.specs.Members.{Knowledge}
use Rattle.call_model.specs.Order.{request_of}
use Rattle.client.specs.Calling.{IsUnderWay}
use Rattle.client.specs.Clients.{HasAsked, asking_of}
use Rattle.client.proofs.OverStarts.{starts}
use Rattle.client.proofs.client.Client.start.Goals as goal

pub returns-clause-starts : goal.returns-clause-starts
returns-clause-starts g c own =
    let was : Knowledge = c.args.self.now.caller in
    let now : Knowledge = c.ask_again.new.self.caller in
    let w = asking_of c.args.plan.now in
    let k = c.ask_again.new.calling in
    let req : c.in_ok-request_of.field-0 ≡ request_of w = c.in_ok-request_of.ensures.request in
    let same_request : k.request ≡ c.in_ok-request_of.field-0 = search rules in
    let conn_is : c.ask_again.new.self.conn ≡ c.args.self.now.conn = search rules in
    let link_is : c.ask_again.new.self.link ≡ c.args.self.now.link = search rules in
    let asked : HasAsked was (request_of w) (Ok tt) None k.stream now.front = subst (λ (r : Call). HasAsked was r (Ok tt) None k.stream now.front) req (subst (λ (x : Result (Unit {0}) OutOfMemory). HasAsked was c.in_ok-request_of.field-0 x None k.stream now.front) c.in_ok-ask_again.was c.ask_again.ensures.asked) in
    let go = λ (moments : Option (List ℕ)). starts w moments was now c.args.self.now.conn c.args.self.now.link k c.args.self.now.of.settings.max_in (search rules) asked (same_request ∙ req) (search rules) (search rules) (search rules) (search rules) (search rules) (search rules) c.request_of.ensures.some own in (
      (go None).0,
      λ moments base can. (let b = (go moments).1 base can in (
        subst (λ n. IsUnderWay w moments base base c.args.self.now.conn was.of.settings now.front n c.ask_again.new.self.link k []) (sym conn_is) (subst (λ (o : Option Shown). IsUnderWay w moments base base c.args.self.now.conn was.of.settings now.front c.args.self.now.conn o k []) (sym link_is) b.0),
        b.1,
      )),
    )
