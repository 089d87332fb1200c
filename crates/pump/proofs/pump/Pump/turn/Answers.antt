use Rattle.std.proofs.Common.{rules, ◌≡◌, ◌≤◌, ◌∙◌, ◌⊎◌, ℕ, length, arith, inl, inr, true, true≢false, not, List, [], None, refl, ap, sym, subst}
use Rattle.rs_wire.specs.declared.settings.Settings.{Settings}
use Rattle.outside.specs.Causes.{Rose}
use Rattle.outside.specs.Links.{Shown}
use Rattle.tape.specs.declared.answer.Answer.TheVariants as answer
use Rattle.tape.specs.declared.entry.Entry.{Entry}
use Rattle.tape.specs.declared.event.Event.TheVariants as event
use Rattle.conn_shared.specs.Calls.{IsCalled}
use Rattle.conn_shared.specs.Members.{Continues, Follows, Knowledge}
use Rattle.link_model.specs.Carrying.{Between}
use Rattle.link_model.specs.Reading.{IsWaiting}
use Rattle.pump.specs.declared.inner.Inner.{Inner}
use Rattle.pump.specs.declared.bringing.Brought.{Brought}
use Rattle.pump.specs.declared.bringing.Brought.TheVariants as brings
use Rattle.pump.specs.declared.outgoing.Gave.{Gave}
use Rattle.pump.specs.Moves.{Comes, HasGrown, all_of}
use Rattle.pump.specs.declared.numbers.TheConstants.{PIECE}
use Rattle.pump.specs.Parts.{SumsUp}
use Rattle.pump.specs.Turns.{Arrives, BroughtFor, GoesOn, HadOnlyFrames, HasArrived, HasMoved, HasWaiting, IsKept, IsPumped, IsTurned, Names, goes_on_after, goes_on_from, has, is_last}
use Rattle.pump.specs.declared.outgoing.Gave.TheVariants as gaves
use Rattle.pump.proofs.Adding.{IsOn, continues_both, goes_both, goes_continues, goes_follows, goes_none, on_both}
use Rattle.pump.proofs.Keeping.{kept_follows, kept_moved}
use Rattle.pump.proofs.Drawing.{found_none, idle_by, was_empty, went_ticked}
use Rattle.pump.proofs.Going.{begun_on}
use Rattle.pump.proofs.Outcomes.{began_for, ended_early, ended_last, gave_more, no_more, none_ended, none_fell, none_fell_both, read_out, ruled_out, rules_out, stall_of, took_more, turned_for}
use Rattle.pump.proofs.Progress.{progress}
use Rattle.pump.proofs.pump.Pump.turn.Goals as goal

-- ---- where it ends after the draw

pub returns-in-Some-clause-kept : goal.returns-in-Some-clause-kept
returns-in-Some-clause-kept g c k =
    c.begin-begun.ensures.kept (g.L.Link.shown c.args.link.now) (subst (IsKept c.args.caller.now (g.L.Link.shown c.args.link.now)) (sym c.self.view_is) k)

pub returns-in-Some-clause-turned : goal.returns-in-Some-clause-turned
returns-in-Some-clause-turned g c =
    let me = c.args.caller.now in
    let d = c.begin-begun.new.caller in
    let last = ended_last c.begin-begun.result _ (search rules) in
    let early = ended_early c.begin-begun.result _ (search rules) in
    let s = g.L.Link.shown c.args.link.now in
    subst (λ (b : Between). IsTurned c.args.connection.now.settings (g.K.Clock.moments c.args.clock.now) me d.front s s b c.in-Some.turned) c.self.view_is (record {
      left = c.begin-begun.new.self.outgoing;
      turn = record { begun = d.front; begins = c.begin-begun.ensures.begins.begins; arrivals = goes_none (Arrives c.self.inside.inner.conn) (record me { front = d.front; note = None }); ended = λ none. refl };
      grown = (no_more (g.L.Link.shown c.args.link.now).given, no_more (g.L.Link.shown c.args.link.now).taken);
      progress = λ goes_on. absurd (true≢false (sym last ∙ goes_on));
      waited = λ waits. refl;
      ticked = λ late. absurd (true≢false (sym early ∙ late));
      drawn = λ late. absurd (true≢false (sym early ∙ late));
      dry = λ late none. absurd (true≢false (sym early ∙ late));
      still = λ lull. absurd (true≢false (sym last ∙ ap is_last lull));
    })

pub returns-in-Some-clause-cause : goal.returns-in-Some-clause-cause
returns-in-Some-clause-cause g c =
    let me = c.args.caller.now in
    let s = g.L.Link.shown c.args.link.now in
    began_for c.args.connection.now.settings (g.K.Clock.moments c.args.clock.now) me c.begin-begun.new.caller.front s s (has c.begin-begun.new.self) c.begin-begun.result _ (search rules)
    (subst (λ n. BroughtFor (IsPumped (g.K.Clock.moments c.args.clock.now) n) c.args.connection.now.settings me c.begin-begun.new.caller.front c.begin-begun.result) (search rules) c.begin-begun.ensures.cause)

pub returns-in-Some-clause-read : goal.returns-in-Some-clause-read
returns-in-Some-clause-read g c late = absurd (true≢false (sym (ended_early c.begin-begun.result _ (search rules)) ∙ late))

pub returns-in-Some-clause-counted : goal.returns-in-Some-clause-counted
returns-in-Some-clause-counted g c = none_fell _

pub returns-in-Some-clause-order : goal.returns-in-Some-clause-order
returns-in-Some-clause-order g c = ruled_out c.args.connection.now.settings c.begin-begun.new.caller.front (has c.begin-begun.new.self) c.begin-begun.result _ (search rules)

-- ---- a whole turn

pub returns-clause-kept : goal.returns-clause-kept
returns-clause-kept g c k =
    let d = c.begin-begun.new.caller in
    let h = c.hear_all-heard.new.caller in
    let s = g.L.Link.shown c.args.link.now in
    let m = g.L.Link.shown c.give_some-gave.new.link in
    let t = g.L.Link.shown c.take_some-took.new.link in
    let begun = c.begin-begun.ensures.kept s (subst (IsKept c.args.caller.now s) (sym c.self.view_is) k) in
    let gave = kept_moved d s m (has c.begin-begun.new.self) (has c.give_some-gave.new.self) (search rules) c.give_some-gave.ensures.kept begun in
    let took = kept_moved d m t (has c.give_some-gave.new.self) (has c.take_some-took.new.self) (search rules) c.take_some-took.ensures.kept gave in
    kept_follows h c.look-looked.new.caller t (has c.hear_all-heard.new.self) (search rules) c.look-looked.ensures.follows (c.hear_all-heard.ensures.hears.kept t took)

pub returns-clause-counted : goal.returns-clause-counted
returns-clause-counted g c = none_fell_both _ _ _ c.give_some-gave.ensures.counted c.take_some-took.ensures.counted

pub returns-clause-turned : goal.returns-clause-turned
returns-clause-turned g c =
    let me = c.args.caller.now in
    let d = c.begin-begun.new.caller in
    let h = c.hear_all-heard.new.caller in
    let n = c.look-looked.new.caller in
    let p = c.self.inside.inner in
    let P = Arrives p.conn in
    let s = g.L.Link.shown c.args.link.now in
    let m = g.L.Link.shown c.give_some-gave.new.link in
    let t = g.L.Link.shown c.take_some-took.new.link in
    let start : Knowledge = record me { front = d.front; note = None } in
    let conn : c.take_some-took.new.self.conn ≡ p.conn = search rules in
    let incoming : c.give_some-gave.new.self.incoming ≡ p.incoming = search rules in
    let bad : c.give_some-gave.new.self.bad ≡ p.bad = search rules in
    let st = c.args.connection.now.settings in
    let heard : GoesOn P d h.front = subst (λ n. GoesOn (Arrives n) d h.front) conn c.hear_all-heard.ensures.hears.goes in
    let on_d : IsOn start d = c.begin-begun.ensures.same in
    let on_h : IsOn start h = on_both start d h on_d c.hear_all-heard.ensures.same in
    let start_b = c.begin-begun.ensures.begins in
    let went : goes_on_from start_b.begins.answer start_b.begins.drew ≡ true = start_b.came_to ∙ ap not (none_ended c.begin-begun.result (search rules)) in
    let names : h.names ≡ me.names = search rules in
    let ticked : Knowledge = record me { front = start_b.begins.ticked; note = None } in
    let left = c.begin-begun.new.self.outgoing in
    let none_due : left ≡ [] → IsCalled st ticked (event.Draw p.conn PIECE) answer.NotYet d.front = λ none. found_none st ticked p.conn start_b.begins.answer start_b.begins.drew p.outgoing left d.front start_b.begins.draw went none in
    subst (λ (b : Between). IsTurned st (g.K.Clock.moments c.args.clock.now) me n.front s t b c.sum_up.result) c.self.view_is (record {
      left = left;
      turn = record {
        begun = d.front;
        begins = start_b.begins;
        ended = λ ends. absurd (true≢false (sym went ∙ ends));
        arrivals = goes_both P start h n.front on_h (goes_both P start d h.front on_d (goes_none P start) heard) (goes_follows P h n.front c.look-looked.ensures.follows);
      };
      grown = (
        subst (HasGrown s.given) (sym c.take_some-took.ensures.given) (gave_more s m c.give_some-gave.result c.give_some-gave.ensures.gave),
        subst (λ k. HasGrown k t.taken) c.give_some-gave.ensures.taken (took_more m t c.take_some-took.result c.take_some-took.ensures.took),
      );
      waited = λ waits. c.take_some-took.ensures.waited (waits_on p c.give_some-gave.new.self incoming bad waits) ∙ c.give_some-gave.ensures.taken;
      ticked = λ late. went_ticked start_b.begins.answer start_b.begins.drew went;
      drawn = λ late. went;
      dry = λ late none. idle_by st ticked p.conn PIECE d.front (none_due none);
      still = λ lull. (let sums = subst (SumsUp c.give_some-gave.result c.take_some-took.result c.hear_all-heard.result c.look-looked.result c.len-left.result) lull c.sum_up.ensures.sum in (
        subst (λ es. Follows me.names es n.front) (c.hear_all-heard.ensures.quiet sums.2) (subst (λ ns. Follows ns h.front n.front) names c.look-looked.ensures.follows),
        subst (λ k. (left ≡ []) ⊎ Rose s.counts.stalls k) (sym c.take_some-took.ensures.stalls) (stall_of s m left c.give_some-gave.result c.take_some-took.result (c.sum_up.ensures.fine (ap is_last lull)) c.give_some-gave.ensures.gave c.give_some-gave.ensures.nothing sums.0),
      ));
      progress = λ goes_on. only s t st ticked d.front p left (was_empty st ticked p.conn PIECE (goes_on_after start_b.begins.answer) start_b.begins.drew p.outgoing left d.front start_b.begins.draw) none_due (progress s m t (has p) left c.give_some-gave.result c.take_some-took.result (c.sum_up.ensures.fine goes_on)
          c.give_some-gave.ensures.gave c.take_some-took.ensures.took c.take_some-took.ensures.given c.give_some-gave.ensures.taken c.give_some-gave.ensures.counted c.take_some-took.ensures.counted c.give_some-gave.ensures.nothing
          (λ nothing failed. waits p c.give_some-gave.new.self c.give_some-gave.result incoming bad failed (c.take_some-took.ensures.nothing nothing)));
    })
  where
    waits_on : (p q : Inner) → q.incoming ≡ p.incoming → q.bad ≡ p.bad → HasWaiting (has p) → HasWaiting (has q)
    waits_on p q same bad h = (bad ∙ h.0, subst (λ (i : Comes). IsWaiting (all_of i) i.max_in) (sym same) h.1)

    only : (s t : Shown) (st : Settings) (ticked : Knowledge) (begun : List Entry) (p : Inner) (left : List ℕ) → (left ≡ [] → p.outgoing ≡ []) → (left ≡ [] → IsCalled st ticked (event.Draw p.conn PIECE) answer.NotYet begun)
        → HasMoved s t ⊎ (HasWaiting (has p) × (left ≡ [])) → HasMoved s t ⊎ HadOnlyFrames st ticked (has p) begun
    only s t st ticked begun p left empty draw (inl moved) = inl moved
    only s t st ticked begun p left empty draw (inr (waits, none)) = inr (record { waiting = waits; empty = empty none; draw = draw none })

    waits : (p q : Inner) (gave : Gave) → q.incoming ≡ p.incoming → q.bad ≡ p.bad → (gave ≡ gaves.Failed → ⊥) → (gave ≡ gaves.Failed) ⊎ HasWaiting (has q) → HasWaiting (has p)
    waits p q gave same bad failed (inl is) = absurd (failed is)
    waits p q gave same bad failed (inr h) = (sym bad ∙ h.0, subst (λ (i : Comes). IsWaiting (all_of i) i.max_in) same h.1)

pub returns-clause-cause : goal.returns-clause-cause
returns-clause-cause g c =
    let me = c.args.caller.now in
    let d = c.begin-begun.new.caller in
    let h = c.hear_all-heard.new.caller in
    let n = c.look-looked.new.caller in
    let q = c.hear_all-heard.new.self in
    let st = c.args.connection.now.settings in
    let moments = g.K.Clock.moments c.args.clock.now in
    let s = g.L.Link.shown c.args.link.now in
    let m = g.L.Link.shown c.give_some-gave.new.link in
    let t = g.L.Link.shown c.take_some-took.new.link in
    let conn : c.take_some-took.new.self.conn ≡ q.conn = sym c.hear_all-heard.ensures.conn in
    let begun : Continues me.front d.front = begun_on st moments me c.self.inside.inner.conn _ _ d.front c.begin-begun.ensures.begins.begins in
    let names : h.names ≡ me.names = search rules in
    turned_for st moments me d h n.front s m t (has q) c.give_some-gave.result c.take_some-took.result c.hear_all-heard.result c.look-looked.result c.len-left.result c.sum_up.result
    (record {
      number = search rules;
      before = begun;
      between = goes_continues (Arrives c.take_some-took.new.self.conn) d h.front c.hear_all-heard.ensures.hears.goes;
      follows = subst (λ ns. Follows ns h.front n.front) names c.look-looked.ensures.follows;
      cause = subst (λ k. BroughtFor (Names k) st d h.front c.hear_all-heard.result) conn c.hear_all-heard.ensures.hears.cause;
      busy = c.hear_all-heard.ensures.hears.busy;
      arrived = λ noted. subst (λ k. HasArrived k d h.front) conn (c.hear_all-heard.ensures.hears.arrived noted);
      gave_is = c.give_some-gave.ensures.gave;
      given_still = c.take_some-took.ensures.given;
      taken_still = c.give_some-gave.ensures.taken;
      took_is = c.take_some-took.ensures.took;
      give_counted = c.give_some-gave.ensures.counted;
      take_counted = c.take_some-took.ensures.counted;
      failed = c.take_some-took.ensures.failed;
      some = λ nothing failed. some_heard c.give_some-gave.new.self c.take_some-took.new.self c.give_some-gave.result c.hear_all-heard.result (c.take_some-took.ensures.still nothing) failed c.hear_all-heard.ensures.some (c.take_some-took.ensures.nothing nothing);
      closed_is = c.look-looked.ensures.cause;
      waits = c.look-looked.ensures.queued;
      left_is = c.len-left.ensures.count;
    }) c.sum_up.ensures.sum c.sum_up.ensures.fine
  where
    some_heard : (p q : Inner) (gave : Gave) (heard : Brought) → has q ≡ has p → (gave ≡ gaves.Failed → ⊥) → (HasWaiting (has q) → heard ≡ brings.Nothing → ⊥) → (gave ≡ gaves.Failed) ⊎ HasWaiting (has p) → heard ≡ brings.Nothing → ⊥
    some_heard p q gave heard same failed some (inl is) nothing = failed is
    some_heard p q gave heard same failed some (inr h) nothing = some (subst HasWaiting (sym same) h) nothing

pub returns-clause-read : goal.returns-clause-read
returns-clause-read g c late =
    let me = c.args.caller.now in
    let d = c.begin-begun.new.caller in
    let h = c.hear_all-heard.new.caller in
    let n = c.look-looked.new.caller in
    let st = c.args.connection.now.settings in
    let moments = g.K.Clock.moments c.args.clock.now in
    let begun : Continues me.front d.front = begun_on st moments me c.self.inside.inner.conn _ _ d.front c.begin-begun.ensures.begins.begins in
    let heard : Continues d.front h.front = goes_continues (Arrives c.take_some-took.new.self.conn) d h.front c.hear_all-heard.ensures.hears.goes in
    let names : h.names ≡ me.names = search rules in
    read_out st me h.front n.front (has c.hear_all-heard.new.self) c.hear_all-heard.result (continues_both me.front d.front h.front begun heard) (subst (λ ns. Follows ns h.front n.front) names c.look-looked.ensures.follows) c.hear_all-heard.ensures.hears.busy c.hear_all-heard.ensures.emptied (c.sum_up.ensures.heard late)

pub returns-clause-order : goal.returns-clause-order
returns-clause-order g c =
    rules_out c.args.connection.now.settings c.look-looked.new.caller.front (has c.hear_all-heard.new.self) c.hear_all-heard.result c.look-looked.result c.len-left.result c.sum_up.result
    c.look-looked.ensures.cause c.look-looked.ensures.queued c.len-left.ensures.count c.hear_all-heard.ensures.emptied c.sum_up.ensures.order

-- ---- what is taken after bytes that are no frame

pub returns-in-Some-clause-dropped : goal.returns-in-Some-clause-dropped
returns-in-Some-clause-dropped g c bad =
    let p = c.self.inside.inner in
    let q = c.begin-begun.new.self in
    let incoming : q.incoming ≡ p.incoming = search rules in
    subst (λ (b : Between). length (all_of q.incoming) ≤ length b.rest) c.self.view_is
    (let same : length (all_of q.incoming) ≡ length (all_of p.incoming) = ap (λ (i : Comes). length (all_of i)) incoming in omega (arith, same))

pub returns-clause-dropped : goal.returns-clause-dropped
returns-clause-dropped g c bad =
    let p = c.self.inside.inner in
    let gave = c.give_some-gave.new.self in
    let took = c.take_some-took.new.self in
    let heard = c.hear_all-heard.new.self in
    let was : p.bad ≡ true = ap (λ (b : Between). b.bad) c.self.view_is ∙ bad in
    let incoming : gave.incoming ≡ p.incoming = search rules in
    let gave_bad : gave.bad ≡ p.bad = search rules in
    let took_bad : took.bad ≡ p.bad = search rules in
    let fewer = c.take_some-took.ensures.dropped (gave_bad ∙ was) in
    let before : length (all_of gave.incoming) ≡ length (all_of p.incoming) = ap (λ (i : Comes). length (all_of i)) incoming in
    let after : length (all_of heard.incoming) ≡ length (all_of took.incoming) = ap (λ (q : Inner). length (all_of q.incoming)) (c.hear_all-heard.ensures.dropped (took_bad ∙ was)) in
    subst (λ (b : Between). length (all_of heard.incoming) ≤ length b.rest) c.self.view_is (omega (arith, fewer, before, after))
