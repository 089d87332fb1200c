use Rattle.std.proofs.Common.{ℕ, false, true≢false, refl, sym, subst}
use Rattle.server.specs.Opening.{OpensAt}
use Rattle.server.proofs.Places.{follow_same, opens_after}
use Rattle.server.proofs.opening.open.Goals as goal

pub returns-in-Begin-clause-opens : goal.returns-in-Begin-clause-opens
returns-in-Begin-clause-opens g c =
    let st = c.args.host.now.settings.now in
    let moments = g.K.Clock.moments c.args.host.now.clock.now in
    let olds = c.args.callers.now in
    let news = c.open_here.new.callers in
    let a = c.open_here.result.answer in
    subst (λ (at : ℕ). OpensAt st moments c.args.host.now.slot at olds news c.args.first a) (sym c.open_here.ensures.slot)
    (opens_after st moments c.args.host.now.slot c.args.host.now.slot olds olds news c.args.first false a c.open_here.result.dead (follow_same olds) refl (λ other. refl) (λ is. absurd (true≢false (sym is))) c.open_here.ensures.tries)
