use Rattle.std.proofs.Common.{◌∙◌, ◌++◌, true≢false, ap, sym, subst}
use Rattle.link_model.specs.Carrying.{Keeps}
use Rattle.link_model.proofs.Kept.{keeps_take}
use Rattle.pump.specs.Moves.{all_of}
use Rattle.pump.specs.Turns.{has}
use Rattle.pump.proofs.Settled.{waits_gone}
use Rattle.pump.proofs.inner.Inner.take_some.Goals as goal

pub returns-then-self-clause-kept : goal.returns-then-self-clause-kept
returns-then-self-clause-kept g c st past k =
    let p = c.args.self.now in
    let j = c.skip.new.self in
    let new = g.L.Link.shown c.skip.new.link in
    let done : Keeps st past new (record (has p) { rest = all_of j }) =
    keeps_take st past (g.L.Link.shown c.args.link.now) new (has p) c.skip.ensures.taken.0 (all_of j) (λ good. absurd (true≢false (sym c.if-self.true ∙ good))) c.skip.ensures.taken.1 c.skip.ensures.given k in
    subst (λ m. Keeps st past new (record (has p) { rest = all_of j; max_in = m })) (sym c.skip.ensures.max_in) done

pub returns-in-Ok-clause-kept : goal.returns-in-Ok-clause-kept
returns-in-Ok-clause-kept g c st past k =
    let p = c.args.self.now in
    let j = c.take.new.self in
    let new = g.L.Link.shown c.take.new.link in
    let more = c.take.ensures.taken in
    let done : Keeps st past new (record (has p) { rest = all_of j }) =
    keeps_take st past (g.L.Link.shown c.args.link.now) new (has p) more.piece (all_of j) (λ good. more.behind ∙ ap (λ t. t ++ more.piece) c.feed.ensures.all) more.taken c.take.ensures.given k in
    subst (λ m. Keeps st past new (record (has p) { rest = all_of j; max_in = m })) (sym (c.take.ensures.max_in ∙ c.feed.ensures.max_in)) done

pub returns-in-Err-clause-kept : goal.returns-in-Err-clause-kept
returns-in-Err-clause-kept g c st past k =
    let p = c.args.self.now in
    let j = c.take.new.self in
    let new = g.L.Link.shown c.take.new.link in
    let more = c.take.ensures.taken in
    let done : Keeps st past new (record (has p) { rest = all_of j }) =
    keeps_take st past (g.L.Link.shown c.args.link.now) new (has p) more.piece (all_of j) (λ good. more.behind ∙ ap (λ t. t ++ more.piece) c.feed.ensures.all) more.taken c.take.ensures.given k in
    subst (λ m. Keeps st past new (record (has p) { rest = all_of j; max_in = m })) (sym (c.take.ensures.max_in ∙ c.feed.ensures.max_in)) done

pub returns-then-self-clause-dropped : goal.returns-then-self-clause-dropped
returns-then-self-clause-dropped g c bad = waits_gone c.args.self.now.incoming c.skip.new.self c.skip.ensures.rest
