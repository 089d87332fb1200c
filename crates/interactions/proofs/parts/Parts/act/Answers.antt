use Rattle.std.proofs.Common.{◌++◌, ap, rules, subst, sym}
use Rattle.rs_wire.specs.declared.call.Call.{Call}
use Rattle.stream_model.specs.Arriving.{said}
use Rattle.stream_table.specs.Tables.{TableOf}
use Rattle.interactions.specs.Stands.{Stands, known_of}
use Rattle.interactions.proofs.Requests.{finds_place}
use Rattle.interactions.proofs.Standing.{room_stands}
use Rattle.interactions.proofs.parts.Parts.act.Goals as goal

pub request-requires-clause-live : goal.request-requires-clause-live
request-requires-clause-live c = λ fnf.
    let p = c.args.self.now in
    let r = c.in-Request in
    let lt = finds_place p.table.limits (known_of p) c.args.call.now r.kind r.initial r.message r.complete r.is c.requires.accepted c.requires.live fnf in
    search rules

pub returns-in_ok-reserve-in-Request-clause-stands : goal.returns-in_ok-reserve-in-Request-clause-stands
returns-in_ok-reserve-in-Request-clause-stands c = λ seen h.
    let p = c.args.self.now in
    let same = c.reserve.ensures.same in
    let mid = room_stands p (record p { table = c.reserve.new.self }) seen (ap (λ (t : TableOf). t.limits) same) (ap (λ (t : TableOf). known_of (record p { table = t })) same) h in
    subst (λ (c' : Call). Stands c.request.new.self (said c.request.result c' ++ seen)) (sym c.in-Request.is) (c.request.ensures.stands c.in-Request.message seen mid)
