use Rattle.std.proofs.Common.{rules, ◌≡◌, ◌∙◌, true, true≢false, ap, sym, subst, refl}
use Rattle.pump.specs.declared.inner.Inner.{Inner}
use Rattle.pump.specs.Turns.{Arrives, BroughtFor, GoesOn, HasArrived, IfBusy, IfDone, IsEmptied, Names, has}
use Rattle.pump.proofs.Adding.{continues_same, goes_both, goes_continues, on_both}
use Rattle.pump.proofs.Events.{arrived_wider, brought_wider, busy_after, done_after, for_after, noted_after, nothing_after}
use Rattle.conn_shared.specs.Members.{Knowledge}
use Rattle.pump.proofs.inner.Inner.hear_all.Goals as goal

pub loop-preserved : goal.loop-preserved
loop-preserved g c =
    let i = c.loop.invariant in
    let me = c.args.caller.now in
    let was = c.loop.caller in
    let now = c.hear-brought.new.caller in
    let conn = i.3 in
    let goes : GoesOn (Arrives c.args.self.now.conn) was now.front = subst (λ n. GoesOn (Arrives n) was now.front) conn c.hear-brought.ensures.hears.goes in
    let came : HasArrived c.args.self.now.conn was now.front = subst (λ n. HasArrived n was now.front) conn (c.hear-brought.ensures.hears.arrived (search rules)) in (
      on_both me was now i.0 c.hear-brought.ensures.same,
      λ s k. c.hear-brought.ensures.hears.kept s (i.1 s k),
      goes_both (Arrives c.args.self.now.conn) me was now.front i.0 i.2 goes,
      c.hear-brought.ensures.conn ∙ conn,
      c.hear-brought.ensures.max_in ∙ i.4,
      c.hear-brought.ensures.left ∙ i.5,
      λ noted. arrived_wider c.args.self.now.conn me was now.front now.front (ap (λ (x : Knowledge). x.number) i.0) (goes_continues _ me was.front i.2) (continues_same now.front) came,
      λ none. absurd (true≢false none),
      λ none. absurd (true≢false none),
      λ bad. c.hear-brought.ensures.dropped (ap (λ (p : Inner). p.bad) (i.9 bad) ∙ bad) ∙ i.9 bad,
    )

pub returns-then-ne-clause-hears : goal.returns-then-ne-clause-hears
returns-then-ne-clause-hears g c =
    let i = c.loop.invariant in
    let h = c.hear-brought.ensures.hears in
    let me = c.args.caller.now in
    let was = c.loop.caller in
    let now = c.hear-brought.new.caller in
    let st = c.args.connection.now.settings in
    let conn = c.args.self.now.conn in
    let b = has c.hear-brought.new.self in
    let goes : GoesOn (Arrives conn) was now.front = subst (λ n. GoesOn (Arrives n) was now.front) i.3 h.goes in
    let caused : BroughtFor (Names conn) st was now.front c.hear-brought.result = subst (λ n. BroughtFor (Names n) st was now.front c.hear-brought.result) i.3 h.cause in
    let wider = brought_wider (Names conn) (Names conn) st me was now.front now.front c.hear-brought.result (λ v k. k) (ap (λ (x : Knowledge). x.number) i.0) (goes_continues (Arrives conn) me was.front i.2) (continues_same now.front) caused in
    record {
      kept = λ s k. h.kept s (i.1 s k);
      goes = goes_both (Arrives conn) me was now.front i.0 i.2 goes;
      cause = subst (BroughtFor (Names conn) st me now.front) (sym c.after_some.ensures) (for_after (Names conn) st me now.front c.loop.noted c.hear-brought.result wider);
      busy = subst (IfBusy st now.front b) (sym c.after_some.ensures) (busy_after st now.front b c.loop.noted c.hear-brought.result h.busy);
      arrived = λ is. (let noted : c.loop.noted ≡ true = noted_after c.loop.noted c.hear-brought.result (search rules) (sym c.after_some.ensures ∙ is) in
          arrived_wider conn me me was.front now.front refl (continues_same me.front) (goes_continues (Arrives conn) was now.front goes) (i.6 noted));
    }

pub returns-then-ne-clause-emptied : goal.returns-then-ne-clause-emptied
returns-then-ne-clause-emptied g c =
    let P = IsEmptied (has c.hear-brought.new.self) in
    subst (λ h. IfDone h P) (sym c.after_some.ensures) (done_after P c.loop.noted c.hear-brought.result (search rules) c.hear-brought.ensures.emptied)

pub returns-then-ne-clause-some : goal.returns-then-ne-clause-some
returns-then-ne-clause-some g c waits is =
    let i = c.loop.invariant in
    let none = nothing_after c.loop.noted c.hear-brought.result (sym c.after_some.ensures ∙ is) in
    c.hear-brought.ensures.some (i.8 none.0 waits) none.1

pub returns-then-ne-clause-quiet : goal.returns-then-ne-clause-quiet
returns-then-ne-clause-quiet g c is =
    let none = nothing_after c.loop.noted c.hear-brought.result (sym c.after_some.ensures ∙ is) in
    c.hear-brought.ensures.quiet none.1 ∙ c.loop.invariant.7 none.0

pub returns-then-ne-clause-dropped : goal.returns-then-ne-clause-dropped
returns-then-ne-clause-dropped g c bad =
    let i = c.loop.invariant in
    c.hear-brought.ensures.dropped (ap (λ (p : Inner). p.bad) (i.9 bad) ∙ bad) ∙ i.9 bad
