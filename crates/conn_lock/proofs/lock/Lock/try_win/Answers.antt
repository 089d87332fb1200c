use Rattle.std.proofs.Common.{rules, IsSome, ◌+◌, ◌∙◌, refl, ap}
use Rattle.conn_lock.specs.Rule.{slot_list}
use Rattle.conn_lock.proofs.TurnSteps.{notes, draws}
use Rattle.conn_lock.proofs.lock.Lock.try_win.Goals as goal

pub load-served-requires : goal.load-served-requires
load-served-requires g c =
    (search rules, search rules, notes (slot_list g.S.Stands.list) IsSome g.S.Stands.number c.self.inside.table.shared.table_id.slots c.args.token.now.id c.args.token.now.me c.requires.idle.2)

pub compare_exchange-found-requires : goal.compare_exchange-found-requires
compare_exchange-found-requires g c =
    let idle = c.requires.idle in
    let e = c.load-served.ensures in
    let t = c.load-served.new.seat in
    let n = c.load-served.result in (
      search rules,
      search rules,
      draws (slot_list g.S.Stands.list) IsSome g.S.Stands.number t.me.0.misses c.self.inside.table.shared.table_id.slots t.id t.me n (n + 1) refl
          (ap (λ m. m.0.note) e.2) (ap (λ m. m.0.tickets) e.2 ∙ idle.1) (ap (λ m. m.0.turn) e.2 ∙ idle.2)
          (rw e.2 idle.3),
    )
