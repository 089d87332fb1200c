use Rattle.std.proofs.lemmas.Bool.Decides.{nat_tests}
use Rattle.std.proofs.Common.{rules, ◌≡◌, ◌∙◌, ◌≤◌, ◌+◌, inl, inr, ap, subst, arith}
use Rattle.conn_shared.specs.Members.{Knowledge}
use Rattle.pump.specs.declared.turned.Turned.TheVariants as turned
use Rattle.pump.specs.Turns.{GoesOn, IsPumped, is_early}
use Rattle.pump.specs.Runs.{IsRun, lulls_in, placed}
use Rattle.pump.proofs.Adding.{goes_both, goes_continues, on_both}
use Rattle.pump.proofs.Going.{turn_goes}
use Rattle.pump.proofs.Outcomes.{lulled_more, none_fell_both, ran_for, read_wider}
use Rattle.pump.proofs.Running.{and_another, few_more, has_ended, lulls_few}
use Rattle.pump.proofs.pump.Pump.run.Goals as goal
use Rattle.pump.proofs.pump.Pump.run.Goals.{else-met-lulls-via-then-met-lulls+else-eq, else-met-lulls-via-else-met-lulls}

pub loop-preserved : goal.loop-preserved
loop-preserved g c =
    let i = c.loop.invariant in
    let me = c.args.caller.now in
    let was = c.loop.caller in
    let now = c.turn-turned.new.caller in
    let moments = g.K.Clock.moments c.args.clock.now in
    let P = IsPumped moments c.args.self.now.conn in
    let s = g.L.Link.shown c.args.link.now in
    let m = g.L.Link.shown c.loop.link in
    let t = g.L.Link.shown c.turn-turned.new.link in
    let turn = c.turn-turned.ensures.turned in
    let goes : GoesOn P was now.front = subst (λ n. GoesOn (IsPumped moments n) was now.front) i.3 (turn_goes c.args.connection.now.settings moments was c.loop.self.conn _ turn.left now.front turn.turn) in
    let count : c.saturating_add-met.result ≡ c.loop.met + lulls_in c.turn-turned.result = omega (arith, c.saturating_add-met.ensures, c.lulls_in.ensures, i.7.few, c.ranges.lulls.fits, lulls_few c.turn-turned.result) in
    let on : c.args.lulls ≤ c.saturating_add-met.result → c.turn-turned.result ≡ turned.Lull → ⊥ = elim c.else-met-lulls.branch [
      | else-met-lulls-via-then-met-lulls+else-eq w ↦ λ enough is. (let no : c.turn-turned.result ≡ turned.Lull → ⊥ = search rules in no is)
      | else-met-lulls-via-else-met-lulls w ↦ λ enough is. grind (arith, nat_tests, w.if-met-lulls.false, enough)
    ] in
    let le : c.saturating_add-met.result ≤ c.loop.met + lulls_in c.turn-turned.result = omega (arith, c.saturating_add-met.ensures, c.lulls_in.ensures) in (
      on_both me was now i.0 c.turn-turned.ensures.same,
      λ k. c.turn-turned.ensures.kept (i.1 k),
      goes_both P me was now.front i.0 i.2 goes,
      c.turn-turned.ensures.conn ∙ i.3,
      c.turn-turned.ensures.max_in ∙ i.4,
      none_fell_both s.counts m.counts t.counts i.5 c.turn-turned.ensures.counted,
      lulled_more c.args.connection.now.settings moments was now.front s m t c.turn-turned.new.self c.turn-turned.result c.loop.met c.saturating_add-met.result c.turn-turned.ensures.counted i.6 c.turn-turned.ensures.cause le,
      and_another c.args.connection.now.settings moments c.args.lulls c.loop.met c.saturating_add-met.result _ _ (placed now t c.turn-turned.new.self) c.turn-turned.result i.7 (record { same = c.turn-turned.ensures.same; turned = turn; cause = c.turn-turned.ensures.cause; order = c.turn-turned.ensures.order }) (search rules) count (few_more c.loop.met c.args.lulls c.saturating_add-met.result c.turn-turned.result i.7.few count on),
    )

-- ---- where a turn was the last

pub returns-then-is_last-clause-kept : goal.returns-then-is_last-clause-kept
returns-then-is_last-clause-kept g c k = c.turn-turned.ensures.kept (c.loop.invariant.1 k)

pub returns-then-is_last-clause-goes : goal.returns-then-is_last-clause-goes
returns-then-is_last-clause-goes g c =
    let i = c.loop.invariant in
    let was = c.loop.caller in
    let now = c.turn-turned.new.caller in
    let moments = g.K.Clock.moments c.args.clock.now in
    let turn = c.turn-turned.ensures.turned in
    let goes : GoesOn (IsPumped moments c.args.self.now.conn) was now.front = subst (λ n. GoesOn (IsPumped moments n) was now.front) i.3 (turn_goes c.args.connection.now.settings moments was c.loop.self.conn _ turn.left now.front turn.turn) in
    goes_both (IsPumped moments c.args.self.now.conn) c.args.caller.now was now.front i.0 i.2 goes

pub returns-then-is_last-clause-cause : goal.returns-then-is_last-clause-cause
returns-then-is_last-clause-cause g c =
    let i = c.loop.invariant in
    let me = c.args.caller.now in
    let was = c.loop.caller in
    let moments = g.K.Clock.moments c.args.clock.now in
    ran_for c.args.connection.now.settings moments c.args.lulls me was c.turn-turned.new.caller.front (g.L.Link.shown c.args.link.now) (g.L.Link.shown c.loop.link) (g.L.Link.shown c.turn-turned.new.link) c.turn-turned.new.self c.turn-turned.result
    (ap (λ (x : Knowledge). x.number) i.0) (search rules) (goes_continues (IsPumped moments c.args.self.now.conn) me was.front i.2) i.5 c.turn-turned.ensures.cause

pub returns-then-is_last-clause-read : goal.returns-then-is_last-clause-read
returns-then-is_last-clause-read g c late =
    let i = c.loop.invariant in
    let me = c.args.caller.now in
    let was = c.loop.caller in
    let moments = g.K.Clock.moments c.args.clock.now in
    read_wider c.args.connection.now.settings me was c.turn-turned.new.self c.turn-turned.new.caller.front (ap (λ (x : Knowledge). x.names) i.0) (goes_continues (IsPumped moments c.args.self.now.conn) me was.front i.2) (c.turn-turned.ensures.read late)

-- ---- where it has lulled so often

pub returns-then-eq-clause-kept : goal.returns-then-eq-clause-kept
returns-then-eq-clause-kept g c k = c.turn-turned.ensures.kept (c.loop.invariant.1 k)

pub returns-then-eq-clause-goes : goal.returns-then-eq-clause-goes
returns-then-eq-clause-goes g c =
    let i = c.loop.invariant in
    let was = c.loop.caller in
    let now = c.turn-turned.new.caller in
    let moments = g.K.Clock.moments c.args.clock.now in
    let turn = c.turn-turned.ensures.turned in
    let goes : GoesOn (IsPumped moments c.args.self.now.conn) was now.front = subst (λ n. GoesOn (IsPumped moments n) was now.front) i.3 (turn_goes c.args.connection.now.settings moments was c.loop.self.conn _ turn.left now.front turn.turn) in
    goes_both (IsPumped moments c.args.self.now.conn) c.args.caller.now was now.front i.0 i.2 goes

pub returns-then-eq-clause-read : goal.returns-then-eq-clause-read
returns-then-eq-clause-read g c late =
    let i = c.loop.invariant in
    let me = c.args.caller.now in
    let was = c.loop.caller in
    let moments = g.K.Clock.moments c.args.clock.now in
    let is : c.turn-turned.result ≡ turned.Lull = search rules in
    read_wider c.args.connection.now.settings me was c.turn-turned.new.self c.turn-turned.new.caller.front (ap (λ (x : Knowledge). x.names) i.0) (goes_continues (IsPumped moments c.args.self.now.conn) me was.front i.2) (c.turn-turned.ensures.read (ap is_early is))

pub returns-then-is_last-clause-turns : goal.returns-then-is_last-clause-turns
returns-then-is_last-clause-turns g c =
    has_ended c.args.connection.now.settings (g.K.Clock.moments c.args.clock.now) c.args.lulls c.loop.met _ _ (placed c.turn-turned.new.caller (g.L.Link.shown c.turn-turned.new.link) c.turn-turned.new.self) c.turn-turned.result c.loop.invariant.7
    (record { same = c.turn-turned.ensures.same; turned = c.turn-turned.ensures.turned; cause = c.turn-turned.ensures.cause; order = c.turn-turned.ensures.order }) (inl (search rules))

pub returns-then-eq-clause-turns : goal.returns-then-eq-clause-turns
returns-then-eq-clause-turns g c =
    let is : c.turn-turned.result ≡ turned.Lull = search rules in
    subst (λ r. IsRun c.args.connection.now.settings (g.K.Clock.moments c.args.clock.now) c.args.lulls (placed c.args.caller.now (g.L.Link.shown c.args.link.now) c.args.self.now) (placed c.turn-turned.new.caller (g.L.Link.shown c.turn-turned.new.link) c.turn-turned.new.self) r) is
    (has_ended c.args.connection.now.settings (g.K.Clock.moments c.args.clock.now) c.args.lulls c.loop.met _ _ (placed c.turn-turned.new.caller (g.L.Link.shown c.turn-turned.new.link) c.turn-turned.new.self) c.turn-turned.result c.loop.invariant.7
    (record { same = c.turn-turned.ensures.same; turned = c.turn-turned.ensures.turned; cause = c.turn-turned.ensures.cause; order = c.turn-turned.ensures.order }) (inr (is, search rules)))
