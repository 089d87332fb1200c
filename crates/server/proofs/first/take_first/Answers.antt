use Rattle.std.proofs.Common.{rules, ◌≡◌, ◌∙◌, [], IfSome, sym, ap, subst}
use Rattle.outside.specs.Links.{Counts}
use Rattle.pump.proofs.Outcomes.{none_fell_both}
use Rattle.server.specs.First.{IsTakenOn}
use Rattle.server.proofs.Taking.{still_taken, took_more}
use Rattle.server.proofs.first.take_first.Goals as goal

pub loop-preserved-in-Ok-Took : goal.loop-preserved-in-Ok-Took
loop-preserved-in-Ok-Took g c =
    let i = c.loop.invariant in
    let m = g.L.Link.shown c.loop.link in
    let t = g.L.Link.shown c.take_some.new.link in
    let took : IsTakenOn m t c.loop.reader.bytes c.take_some.new.reader.bytes = search rules in
    let counts : t.counts ≡ m.counts = search rules in (
      took_more m t c.loop.reader.bytes c.take_some.new.reader.bytes took i.0,
      subst (λ o. IfSome o (λ bytes. bytes ≡ [])) (sym c.take_some.ensures.given) i.1,
      ap (λ (k : Counts). k.faults) counts ∙ i.2,
      none_fell_both _ _ _ i.3 c.take_some.ensures.counted,
      c.take_some.ensures.max_in ∙ i.4,
    )

pub loop-preserved : goal.loop-preserved
loop-preserved g c =
    let i = c.loop.invariant in
    let m = g.L.Link.shown c.loop.link in
    let t = g.L.Link.shown c.take_some.new.link in
    let taken : t.taken ≡ m.taken = search rules in
    let bytes : c.take_some.new.reader.bytes ≡ c.loop.reader.bytes = search rules in
    let faults : t.counts.faults ≡ m.counts.faults = search rules in (
      still_taken m t c.loop.reader.bytes c.take_some.new.reader.bytes taken bytes i.0,
      subst (λ o. IfSome o (λ bytes. bytes ≡ [])) (sym c.take_some.ensures.given) i.1,
      faults ∙ i.2,
      none_fell_both _ _ _ i.3 c.take_some.ensures.counted,
      c.take_some.ensures.max_in ∙ i.4,
    )
