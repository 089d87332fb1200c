use Rattle.std.proofs.Common.{rules, IsSome, ◌+◌, ◌∙◌, refl, ap, sym}
use Rattle.conn_lock.specs.Rule.{slot_list}
use Rattle.conn_lock.proofs.TurnSteps.{notes, draws}
use Rattle.conn_lock.proofs.lock.Lock.try_enter.Goals as goal

pub load-serving-requires : goal.load-serving-requires
load-serving-requires g c =
    let seat = c.seat.inside in
    (search rules, search rules, notes (slot_list g.S.Stands.list) IsSome g.S.Stands.number c.self.inside.table.shared.table_id.slots seat.token.id seat.token.me c.seat.invariant.no_turn)

pub compare_exchange-found-requires : goal.compare_exchange-found-requires
compare_exchange-found-requires g c =
    let v = c.seat.invariant in
    let e = c.load-serving.ensures in
    let t = c.load-serving.new.seat in
    let n = c.load-serving.result in (
      search rules,
      search rules,
      draws (slot_list g.S.Stands.list) IsSome g.S.Stands.number (t.me.0.misses + 1) c.self.inside.table.shared.table_id.slots t.id t.me n (n + 1) refl
          (ap (λ m. m.0.note) e.2) (ap (λ m. m.0.tickets) e.2 ∙ v.no_ticket) (ap (λ m. m.0.turn) e.2 ∙ v.no_turn)
          (rw e.2 (rw (sym v.parts_are) v.some_part)),
    )
