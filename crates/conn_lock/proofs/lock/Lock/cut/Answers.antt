use Rattle.std.proofs.Common.{rules, IsSome, ◌∙◌, sym}
use Rattle.conn_lock.specs.Rule.{slot_list}
use Rattle.conn_lock.proofs.NumberSteps.{splits}
use Rattle.conn_lock.proofs.lock.Lock.cut.Goals as goal

pub split_seat-requires : goal.split_seat-requires
split_seat-requires g c =
    let t = c.args.token.now in
    let idle = c.requires.idle in
    (c.requires.of ∙ sym c.self.view_is, search rules, splits (slot_list g.S.Stands.list) IsSome g.S.Stands.number t.id t.me.0 c.args._number c.requires.named.0 c.requires.named.1 idle.1 idle.0 idle.2)
