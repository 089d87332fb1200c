use Rattle.std.proofs.Common.{rules, IsSome, Some, ◌∙◌, ap, sym}
use Rattle.conn_lock.specs.Rule.{slot_list}
use Rattle.conn_lock.proofs.TurnSteps.{passes}
use Rattle.conn_lock.proofs.lock.Lock.leave.Goals as goal

pub store-requires : goal.store-requires
store-requires g c =
    let t = c.turn.inside in
    let v = c.turn.invariant in
    let me = c.put_in.new.token.me in
    let same = c.put_in.ensures.value in
    let own = c.requires.own in (
      search rules,
      search rules,
      passes (slot_list g.S.Stands.list) IsSome g.S.Stands.number c.self.inside.table.shared.table_id.slots c.put_in.new.token.id me (Some t.value) (search rules) t.ticket t.number own.0
          (ap (λ m. m.1) same) (ap (λ m. m.0.tickets) same ∙ v.ticket_is) (ap (λ m. m.0.turn) same ∙ v.turn_is) (rw same (rw (sym v.parts_are) v.some_part)) (rw same v.named) (search rules) (search rules),
    )
