use Rattle.std.proofs.Common.{rules, ◌≡◌, is_some, ap, subst}
use Rattle.pump.proofs.Outcomes.{none_fell_both}
use Rattle.rs_wire.specs.declared.settings.Settings.{Settings}
use Rattle.server.specs.First.{FirstFor}
use Rattle.server.proofs.Joined.{idle_routed, unbegun_so}
use Rattle.server.proofs.serving.serve_connection.Goals as goal

pub serve_first-requires-clause-first : goal.serve_first-requires-clause-first
serve_first-requires-clause-first g c =
    let e = c.in-Frame.ensures in
    record {
      whole = e.cause.0;
      spelled = e.cause.1;
      spellable = e.cause.2;
      taken = e.taken (λ is. cc);
      ungiven = e.given;
    }

pub returns-in-Frame : goal.returns-in-Frame
returns-in-Frame g c =
    let s = c.serve_first.ensures.serves in
    record {
      same = s.same;
      added = s.added;
      carried = s.carried;
      left = s.left;
      unopened = s.unopened;
      cause = s.cause;
      work = s.work;
      routed = c.serve_first.ensures.routed;
      counted = none_fell_both (g.L.Link.shown c.args.link.now).counts (g.L.Link.shown c.take_first.new.link).counts (g.L.Link.shown c.serve_first.new.link).counts c.take_first.ensures.counted c.serve_first.ensures.counted;
    }

pub returns-in_default : goal.returns-in_default
returns-in_default g c =
    let st = c.args.settings.now in
    let moments = g.K.Clock.moments c.args.clock.now in
    let past = c.args.callers.now in
    let old = g.L.Link.shown c.take_first.new.link in
    let link = g.L.Link.shown c.unbegun-served.new.link in
    let bytes = c.take_first.new.reader.bytes in
    let first = c.take_first.result in
    let most : c.take_first.new.reader.max_in ≡ st.max_in = search rules in
    let life : c.settings-2.result.now.lifetime_ms ≡ st.lifetime_ms = ap (λ (x : Settings). x.lifetime_ms) c.settings-2.ensures.value in
    let cause : FirstFor moments st.lifetime_ms old bytes st.max_in first =
    subst (λ m. FirstFor moments st.lifetime_ms old bytes m first) most (subst (λ l. FirstFor moments l old bytes c.take_first.new.reader.max_in first) life c.take_first.ensures.cause) in
    let s = unbegun_so st moments (is_some c.args.jobs.now) c.args.grant c.args.slot c.args.routes.now past c.args.jobs.now old link bytes first c.unbegun-served.result c.take_first.ensures.taken c.take_first.ensures.given cause c.unbegun-served.ensures.gives c.unbegun-served.ensures.says in
    record {
      same = s.same;
      added = s.added;
      carried = s.carried;
      left = s.left;
      unopened = s.unopened;
      cause = s.cause;
      work = s.work;
      routed = idle_routed c.args.routes.now c.args.jobs.now c.requires.idle;
      counted = none_fell_both (g.L.Link.shown c.args.link.now).counts old.counts link.counts c.take_first.ensures.counted c.unbegun-served.ensures.counted;
    }
