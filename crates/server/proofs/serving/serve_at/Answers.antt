use Rattle.std.proofs.Common.{rules, ◌≡◌, ◌<◌, ◌∙◌, is_some, length, slice_index_or, sym, ap, subst}
use Rattle.rs_wire.specs.declared.settings.Settings.{Settings}
use Rattle.session_model.specs.Legal.{Legal}
use Rattle.conn_shared.specs.Members.{Knowledge, SharedId}
use Rattle.link_model.specs.Carrying.{IsFresh}
use Rattle.pump.proofs.Adding.{IsOn}
use Rattle.server.specs.Attended.{ServesOne}
use Rattle.server.proofs.Opened.{fresh_at}
use Rattle.server.proofs.Places.{back_at, got_at, of_at, same_length, set_at, stay_beside}
use Rattle.server.proofs.serving.serve_at.Goals as goal

pub bounds-connections-place : goal.bounds-connections-place
bounds-connections-place g c = c.requires.place

pub bounds-callers-place : goal.bounds-callers-place
bounds-callers-place g c = subst (λ n. c.args.at < n) (sym (same_length c.args.host.now.settings.now c.args.host.now.connections.now c.args.callers.now c.requires.of)) c.requires.place

pub serve_opened-requires-clause-of : goal.serve_opened-requires-clause-of
serve_opened-requires-clause-of g c =
    let id = c.index-connections-place.result in
    let same : slice_index_or c.args.host.now.connections.now c.args.at id ≡ id = search rules in
    (of_at c.args.host.now.settings.now c.args.host.now.connections.now c.args.callers.now c.args.at id c.index-callers-place.result c.requires.of c.requires.place).0 ∙ same

pub serve_opened-requires-clause-limit : goal.serve_opened-requires-clause-limit
serve_opened-requires-clause-limit g c =
    let id = c.index-connections-place.result in
    let same : slice_index_or c.args.host.now.connections.now c.args.at id ≡ id = search rules in
    let settings : id.settings ≡ c.args.host.now.settings.now = ap (λ (x : SharedId). x.settings) (sym same) ∙ (of_at c.args.host.now.settings.now c.args.host.now.connections.now c.args.callers.now c.args.at id c.index-callers-place.result c.requires.of c.requires.place).1 in
    c.requires.limit ∙ ap (λ (s : Settings). s.max_in) (sym settings)

pub serve_opened-requires-clause-fresh : goal.serve_opened-requires-clause-fresh
serve_opened-requires-clause-fresh g c =
    let id = c.index-connections-place.result in
    let d = c.index-callers-place.result in
    let was : Knowledge = slice_index_or c.args.callers.now c.args.at d in
    let same : slice_index_or c.args.host.now.connections.now c.args.at id ≡ id = search rules in
    let at = of_at c.args.host.now.settings.now c.args.host.now.connections.now c.args.callers.now c.args.at id d c.requires.of c.requires.place in
    let settings : id.settings ≡ c.args.host.now.settings.now = ap (λ (x : SharedId). x.settings) (sym same) ∙ at.1 in
    let lt : c.args.at < length c.args.callers.now = subst (λ n. c.args.at < n) (sym (same_length c.args.host.now.settings.now c.args.host.now.connections.now c.args.callers.now c.requires.of)) c.requires.place in
    let legal : Legal c.args.host.now.settings.now was.front = subst (λ (s : Settings). Legal s was.front) (ap (λ (x : SharedId). x.settings) at.0 ∙ at.1) c.legal.ensures.legal in
    subst (λ (s : Settings). IsFresh s was.front (g.L.Link.shown c.args.link.now) c.args.conn c.args.reader.bytes) (sym settings)
    (fresh_at c.args.host.now.settings.now was c.args.at c.args.conn c.args.callers.now (g.L.Link.shown c.args.link.now) c.args.reader.bytes legal (got_at c.args.callers.now c.args.at d lt) c.requires.opened)

pub returns-clause-back : goal.returns-clause-back
returns-clause-back g c =
    let d = c.index-callers-place.result in
    let was : Knowledge = slice_index_or c.args.callers.now c.args.at d in
    let x = c.serve_opened.new.caller in
    let on : IsOn was x = search rules in
    let lt : c.args.at < length c.args.callers.now = subst (λ n. c.args.at < n) (sym (same_length c.args.host.now.settings.now c.args.host.now.connections.now c.args.callers.now c.requires.of)) c.requires.place in
    back_at c.args.callers.now c.args.at d x on lt

pub returns-clause-serves : goal.returns-clause-serves
returns-clause-serves g c =
    let id = c.index-connections-place.result in
    let d = c.index-callers-place.result in
    let was : Knowledge = slice_index_or c.args.callers.now c.args.at d in
    let x = c.serve_opened.new.caller in
    let on : IsOn was x = search rules in
    let same : slice_index_or c.args.host.now.connections.now c.args.at id ≡ id = search rules in
    let settings : id.settings ≡ c.args.host.now.settings.now = ap (λ (x : SharedId). x.settings) (sym same) ∙ (of_at c.args.host.now.settings.now c.args.host.now.connections.now c.args.callers.now c.args.at id d c.requires.of c.requires.place).1 in
    let lt : c.args.at < length c.args.callers.now = subst (λ n. c.args.at < n) (sym (same_length c.args.host.now.settings.now c.args.host.now.connections.now c.args.callers.now c.requires.of)) c.requires.place in
    let e = c.serve_opened.ensures in
    record {
      old = was;
      new = x;
      there = got_at c.args.callers.now c.args.at d lt;
      is = set_at c.args.callers.now c.args.at x lt;
      others = stay_beside c.args.callers.now c.args.at x;
      same = on;
      serves = subst (λ (s : Settings). ServesOne s (g.K.Clock.moments c.args.host.now.clock.now) (is_some c.args.jobs.now) c.args.host.now.grant c.args.host.now.routes.now c.args.jobs.now c.serve_opened.new.jobs c.args.conn was x (g.L.Link.shown c.serve_opened.new.link) c.serve_opened.result) settings (record {
        legal = e.legal;
        attends = e.attends;
        carried = e.carried;
        left = e.left;
        cause = e.cause;
        work = e.work;
        ticks = e.ticks;
      });
    }
