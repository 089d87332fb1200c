use Rattle.std.proofs.Common.{rules, ◌≡◌, ap, sym, subst, Bool, false}
use Rattle.rs_wire.specs.declared.settings.Settings.{Settings}
use Rattle.conn_shared.specs.Members.{SharedId}
use Rattle.pump.specs.Turns.{IsReadOut, IsTurned, RulesOut, TurnedFor}
use Rattle.client.specs.Turning.{Pumps, TurnsSo}
use Rattle.client.proofs.turning.turn_over.Goals as goal

pub returns-else-calling-clause-turns : goal.returns-else-calling-clause-turns
returns-else-calling-clause-turns g c =
    let moments = g.K.Clock.moments c.args.clock.now in
    let was = c.args.caller.now in
    let s = g.L.Link.shown c.args.link.now in
    let t = g.L.Link.shown c.turn.new.link in
    let d = c.turn.new.self in
    let st = ap (λ (i : SharedId). i.settings) (sym c.requires.of) in
    let pumps : Pumps moments was c.turn.new.caller s t c.args.calling.now.pump d c.turn.result = record {
      kept = c.turn.ensures.kept;
      turned = subst (λ (z : Settings). IsTurned z moments was c.turn.new.caller.front s t c.args.calling.now.pump c.turn.result) st c.turn.ensures.turned;
      cause = subst (λ (z : Settings). TurnedFor z moments was c.turn.new.caller.front s t d c.turn.result) st c.turn.ensures.cause;
      order = subst (λ (z : Settings). RulesOut z c.turn.new.caller.front d c.turn.result) st c.turn.ensures.order;
      read = λ late. subst (λ (z : Settings). IsReadOut z was d c.turn.new.caller.front) st (c.turn.ensures.read late);
      counted = c.turn.ensures.counted;
      conn = c.turn.ensures.conn;
      limit = c.turn.ensures.max_in;
    } in
    let off : c.args.calling.now.full ≡ false = search rules in
    subst (λ (full : Bool). TurnsSo full moments was c.turn.new.caller s t c.args.calling.now.pump d c.turn.result) (sym off) pumps
