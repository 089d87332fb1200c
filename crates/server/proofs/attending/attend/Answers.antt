use Rattle.std.proofs.Common.{rules, ◌≡◌, ◌<◌, ◌^◌, ◌∙◌, true, false, is_some, refl, sym, subst}
use Rattle.pump.specs.Turns.{GoesOn, IsPumped, MovesAlone, Spares, is_last}
use Rattle.pump.proofs.Adding.{goes_as, goes_both, goes_continues, goes_none, on_both}
use Rattle.pump.proofs.Going.{kept_goes, turn_goes}
use Rattle.pump.proofs.Outcomes.{no_more, none_fell, none_fell_both, ran_for, read_wider}
use Rattle.server.specs.Attending.{IsAttended, IsHelped}
use Rattle.server.proofs.Helped.{ended_for, helped_attended, helped_quiet, helped_spares, late_of, pumped_attended}
use Rattle.server.proofs.Kept.{on_names, on_number, pumped_idle, work_both, work_kept, work_kept_on, work_on}
use Rattle.server.proofs.Moving.{IsOnTime, grown_both, on_time_first, on_time_helped, on_time_last, on_time_turn, own_before}
use Rattle.server.proofs.Ticking.{IsNoTick}
use Rattle.server.proofs.attending.attend.Goals as goal

pub loop-init : goal.loop-init
loop-init g c =
    let me = c.args.caller.now in
    let s = g.L.Link.shown c.args.link.now in (
      refl,
      λ k. k,
      goes_none (IsAttended (g.K.Clock.moments c.args.host.now.clock.now) (is_some c.args.jobs.now) c.args.pump.now.conn) me,
      refl,
      refl,
      none_fell s.counts,
      refl,
      c.requires.routed,
      work_kept me me.front c.args.host.now.routes.now c.args.jobs.now (λ work h. h),
      λ own. on_time_first c.args.connection.now.settings me s c.args.pump.now,
      no_more s.taken,
    )

pub loop-preserved : goal.loop-preserved
loop-preserved g c =
    let i = c.loop.invariant in
    let me = c.args.caller.now in
    let was = c.loop.caller in
    let mid = c.turn-turned.new.caller in
    let now = c.help-idle.new.caller in
    let moments = g.K.Clock.moments c.args.host.now.clock.now in
    let helps = is_some c.args.jobs.now in
    let conn = c.args.pump.now.conn in
    let P = IsAttended moments helps conn in
    let s = g.L.Link.shown c.args.link.now in
    let m = g.L.Link.shown c.loop.link in
    let t = g.L.Link.shown c.turn-turned.new.link in
    let turn = c.turn-turned.ensures.turned in
    let pumped : GoesOn (IsPumped moments conn) was mid.front = subst (λ n. GoesOn (IsPumped moments n) was mid.front) i.3 (turn_goes c.args.connection.now.settings moments was c.loop.pump.conn _ turn.left mid.front turn.turn) in
    let turned : GoesOn P was mid.front = goes_as (IsPumped moments conn) P was mid.front (pumped_attended moments helps conn) pumped in
    let helped : GoesOn P mid now.front = goes_as (IsHelped (is_some c.loop.jobs)) P mid now.front (λ e h. helped_attended moments helps conn e (subst (λ b. IsHelped b e) i.6 h)) c.help-idle.ensures.goes in
    let on_mid = on_both me was mid i.0 c.turn-turned.ensures.same in
    let st = c.args.connection.now.settings in
    let short : c.loop.pump.max_in < 2 ^ 24 = subst (λ n. n < 2 ^ 24) (sym i.4) c.requires.short in
    let going : is_last c.turn-turned.result ≡ false = search rules in
    let named_was : was.names ≡ me.names = on_names me was i.0 in
    let named_mid : mid.names ≡ me.names = on_names me mid on_mid in
    let own_mid : MovesAlone now conn → MovesAlone mid conn = λ own. own_before mid now conn c.help-idle.ensures.same (goes_continues P mid now.front helped) own in
    let own_was : MovesAlone mid conn → MovesAlone was conn = λ own. own_before was mid conn c.turn-turned.ensures.same (goes_continues P was mid.front turned) own in
    let on_time : MovesAlone mid conn → IsOnTime st me.names me.front mid s t c.turn-turned.new.self = λ own.
    on_time_turn st moments me.names me.front was mid s m t c.loop.pump c.turn-turned.new.self c.turn-turned.result named_was c.turn-turned.ensures.same short c.turn-turned.ensures.counted going
    (subst (MovesAlone mid) (sym i.3) own) turn (c.turn-turned.ensures.read (late_of c.turn-turned.result going)) (i.9 (own_was own)) in
    let spares : GoesOn (Spares c.turn-turned.new.self.conn) mid now.front = goes_as (IsHelped (is_some c.loop.jobs)) (Spares c.turn-turned.new.self.conn) mid now.front (helped_spares (is_some c.loop.jobs) c.turn-turned.new.self.conn) c.help-idle.ensures.goes in
    let quiet : GoesOn IsNoTick mid now.front = goes_as (IsHelped (is_some c.loop.jobs)) IsNoTick mid now.front (helped_quiet (is_some c.loop.jobs)) c.help-idle.ensures.goes in (
      on_both me mid now on_mid c.help-idle.ensures.same,
      λ k. kept_goes mid now t c.turn-turned.new.self c.help-idle.ensures.same spares (c.turn-turned.ensures.kept (i.1 k)),
      goes_both P me mid now.front on_mid (goes_both P me was mid.front i.0 i.2 turned) helped,
      c.turn-turned.ensures.conn ∙ i.3,
      c.turn-turned.ensures.max_in ∙ i.4,
      none_fell_both s.counts m.counts t.counts i.5 c.turn-turned.ensures.counted,
      c.help-idle.ensures.shape ∙ i.6,
      c.help-idle.ensures.routed,
      work_both me.names c.args.host.now.routes.now me.front was.front now.front c.args.jobs.now c.loop.jobs c.help-idle.new.jobs i.8
          (work_both me.names c.args.host.now.routes.now was.front mid.front now.front c.loop.jobs c.loop.jobs c.help-idle.new.jobs
          (work_kept_on me was mid.front c.args.host.now.routes.now c.loop.jobs i.0 (IsPumped moments c.loop.pump.conn) (pumped_idle moments c.loop.pump.conn) (turn_goes c.args.connection.now.settings moments was c.loop.pump.conn _ turn.left mid.front turn.turn))
          (work_on me mid now.front c.args.host.now.routes.now c.loop.jobs c.help-idle.new.jobs on_mid c.help-idle.ensures.kept)),
      λ own. on_time_helped st me.names me.front mid now s t c.turn-turned.new.self named_mid c.help-idle.ensures.same spares quiet (on_time (own_mid own)),
      grown_both s.taken m.taken t.taken i.10 turn.grown.1,
    )

-- ---- where a turn was the last

pub returns-then-not-goes_on-clause-goes : goal.returns-then-not-goes_on-clause-goes
returns-then-not-goes_on-clause-goes g c =
    let i = c.loop.invariant in
    let was = c.loop.caller in
    let now = c.turn-turned.new.caller in
    let moments = g.K.Clock.moments c.args.host.now.clock.now in
    let helps = is_some c.args.jobs.now in
    let conn = c.args.pump.now.conn in
    let P = IsAttended moments helps conn in
    let turn = c.turn-turned.ensures.turned in
    let pumped : GoesOn (IsPumped moments conn) was now.front = subst (λ n. GoesOn (IsPumped moments n) was now.front) i.3 (turn_goes c.args.connection.now.settings moments was c.loop.pump.conn _ turn.left now.front turn.turn) in
    goes_both P c.args.caller.now was now.front i.0 i.2 (goes_as (IsPumped moments conn) P was now.front (pumped_attended moments helps conn) pumped)

pub returns-then-not-goes_on-clause-cause : goal.returns-then-not-goes_on-clause-cause
returns-then-not-goes_on-clause-cause g c =
    let i = c.loop.invariant in
    let me = c.args.caller.now in
    let was = c.loop.caller in
    let st = c.args.connection.now.settings in
    let moments = g.K.Clock.moments c.args.host.now.clock.now in
    let P = IsAttended moments (is_some c.args.jobs.now) c.args.pump.now.conn in
    let s = g.L.Link.shown c.args.link.now in
    let t = g.L.Link.shown c.turn-turned.new.link in
    let last : is_last c.turn-turned.result ≡ true = search rules in
    ended_for st moments me c.turn-turned.new.caller.front s t c.turn-turned.new.self c.turn-turned.result last
    (ran_for st moments 0 me was c.turn-turned.new.caller.front s (g.L.Link.shown c.loop.link) t c.turn-turned.new.self c.turn-turned.result (on_number me was i.0) last (goes_continues P me was.front i.2) i.5 c.turn-turned.ensures.cause)

pub returns-then-not-goes_on-clause-read : goal.returns-then-not-goes_on-clause-read
returns-then-not-goes_on-clause-read g c late =
    let i = c.loop.invariant in
    let me = c.args.caller.now in
    let was = c.loop.caller in
    let moments = g.K.Clock.moments c.args.host.now.clock.now in
    let P = IsAttended moments (is_some c.args.jobs.now) c.args.pump.now.conn in
    read_wider c.args.connection.now.settings me was c.turn-turned.new.self c.turn-turned.new.caller.front (on_names me was i.0) (goes_continues P me was.front i.2) (c.turn-turned.ensures.read late)

pub returns-then-not-goes_on-clause-work : goal.returns-then-not-goes_on-clause-work
returns-then-not-goes_on-clause-work g c =
    let i = c.loop.invariant in
    let me = c.args.caller.now in
    let was = c.loop.caller in
    let now = c.turn-turned.new.caller in
    let moments = g.K.Clock.moments c.args.host.now.clock.now in
    let turn = c.turn-turned.ensures.turned in
    work_both me.names c.args.host.now.routes.now me.front was.front now.front c.args.jobs.now c.loop.jobs c.loop.jobs i.8
    (work_kept_on me was now.front c.args.host.now.routes.now c.loop.jobs i.0 (IsPumped moments c.loop.pump.conn) (pumped_idle moments c.loop.pump.conn) (turn_goes c.args.connection.now.settings moments was c.loop.pump.conn _ turn.left now.front turn.turn))

pub returns-then-not-goes_on-clause-ticks : goal.returns-then-not-goes_on-clause-ticks
returns-then-not-goes_on-clause-ticks g c own =
    let i = c.loop.invariant in
    let me = c.args.caller.now in
    let was = c.loop.caller in
    let now = c.turn-turned.new.caller in
    let st = c.args.connection.now.settings in
    let moments = g.K.Clock.moments c.args.host.now.clock.now in
    let conn = c.args.pump.now.conn in
    let turn = c.turn-turned.ensures.turned in
    let on = goes_continues (IsPumped moments c.loop.pump.conn) was now.front (turn_goes st moments was c.loop.pump.conn _ turn.left now.front turn.turn) in
    on_time_last st moments me.names me.front was now.front (g.L.Link.shown c.args.link.now) (g.L.Link.shown c.loop.link) (g.L.Link.shown c.turn-turned.new.link) c.loop.pump c.turn-turned.result
    (on_names me was i.0) c.turn-turned.ensures.counted turn (i.9 (own_before was now conn c.turn-turned.ensures.same on own))

pub returns-then-not-goes_on-clause-taken : goal.returns-then-not-goes_on-clause-taken
returns-then-not-goes_on-clause-taken g c =
    grown_both (g.L.Link.shown c.args.link.now).taken (g.L.Link.shown c.loop.link).taken (g.L.Link.shown c.turn-turned.new.link).taken c.loop.invariant.10 c.turn-turned.ensures.turned.grown.1
