use Rattle.std.proofs.Common.{rules, ◌≡◌, length, subst}
use Rattle.session_table.specs.Table.{slot_of}
use Rattle.server.specs.Opening.{BeginsAt, place_in}
use Rattle.server.proofs.Places.{back_both, back_same, begins_after, of_back}
use Rattle.server.proofs.opening.begin_in.Goals as goal

pub returns-then-is_err-clause-back : goal.returns-then-is_err-clause-back
returns-then-is_err-clause-back g c = back_same c.args.callers.now

pub open_here-opening-requires-clause-of : goal.open_here-opening-requires-clause-of
open_here-opening-requires-clause-of g c = of_back c.args.host.now.settings.now c.args.host.now.connections.now c.args.callers.now c.is_taken-taken.new.callers c.requires.of c.is_taken-taken.ensures.back

pub returns-clause-back : goal.returns-clause-back
returns-clause-back g c = back_both c.args.callers.now c.is_taken-taken.new.callers c.open_here-opening.new.callers c.is_taken-taken.ensures.back c.open_here-opening.ensures.back

pub returns-clause-begins : goal.returns-clause-begins
returns-clause-begins g c =
    let moments = g.K.Clock.moments c.args.host.now.clock.now in
    let olds = c.args.callers.now in
    let news = c.open_here-opening.new.callers in
    let slots = length c.args.host.now.connections.now in
    let same : c.place_of-found.result ≡ place_in slots (slot_of c.args.token c.args.sessions.now) = search rules in
    subst (λ f. BeginsAt c.args.host.now.settings.now moments c.args.host.now.slot f c.args.token olds news c.args.first c.open_here-opening.result.answer) same
    (begins_after c.args.host.now.settings.now moments c.args.host.now.slot c.place_of-found.result c.args.token olds c.is_taken-taken.new.callers news c.args.first c.is_taken-taken.result c.open_here-opening.result.answer c.open_here-opening.result.dead
    c.requires.asks c.is_taken-taken.ensures.follow c.is_taken-taken.ensures.here c.is_taken-taken.ensures.taken c.open_here-opening.ensures.tries)
