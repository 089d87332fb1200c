use Rattle.std.proofs.Common.{◌∷◌, sym, subst, arith}
use Rattle.std.proofs.lemmas.Bool.Decides.{nat_tests}
use Rattle.crew.specs.Places.{AreServed}
use Rattle.crew.proofs.Served.{none_left, none_came, one_more}
use Rattle.crew.proofs.links.+serve.Goals as goal

-- the wait was in vain, and the places after this one stayed as they were
pub serve_each-returns-else-accept : goal.serve_each-returns-else-accept
serve_each-returns-else-accept g t c =
    let accepted = g.P.Place.accepted c.args.shared.now in
    let served = g.P.Place.served c.args.shared.now in
    let missed = g.P.Place.missed c.args.shared.now in
    let now = c.accept.new.self ∷ c.in-Some.rest.now in
    subst (λ xs. AreServed accepted served missed c.args.net.now c.accept.new.net xs now) (sym c.in-Some.ensures.cases.0)
    (none_came accepted served missed (g.P.Place.accepted_none c.args.shared.now) c.args.net.now c.accept.new.net c.in-Some.first.now c.accept.new.self c.in-Some.rest.now (c.accept.ensures.missed c.if-accept.false))

-- a link came, and the rest goes on
pub serve_each-returns-then-accept : goal.serve_each-returns-then-accept
serve_each-returns-then-accept g t c =
    let accepted = g.P.Place.accepted c.args.shared.now in
    let served = g.P.Place.served c.args.shared.now in
    let missed = g.P.Place.missed c.args.shared.now in
    let now = c.serve_apart.new.first ∷ c.serve_apart.new.rest in
    let first = c.serve_apart.ensures.first c.in-Some.first.now (c.accept.ensures.arrived c.if-accept.true) in
    subst (λ xs. AreServed accepted served missed c.args.net.now c.serve_apart.new.net xs now) (sym c.in-Some.ensures.cases.0)
    (one_more accepted served missed (g.P.Place.accepted_more c.args.shared.now) c.args.net.now c.accept.new.net c.serve_apart.new.net c.in-Some.first.now c.serve_apart.new.first c.in-Some.rest.now c.serve_apart.new.rest (c.accept.ensures.accepted c.if-accept.true) first c.serve_apart.ensures.rest)

-- no place is left, and the net was not asked again
pub serve_apart-returns-then-is_empty-clause-rest : goal.serve_apart-returns-then-is_empty-clause-rest
serve_apart-returns-then-is_empty-clause-rest g t c =
    let accepted = g.P.Place.accepted c.args.shared.now in
    let served = g.P.Place.served c.args.shared.now in
    let missed = g.P.Place.missed c.args.shared.now in
    none_left accepted served missed (g.P.Place.accepted_none c.args.shared.now) c.args.net.now c.args.rest.now (grind (arith, nat_tests))
