use Rattle.std.proofs.Common.{rules, IsSome, Some, ◌≡◌, [], ◌∷◌}
use Rattle.conn_lock.specs.Rule.{slot_list}
use Rattle.conn_lock.proofs.TurnSteps.{opened}
use Rattle.conn_lock.proofs.lock.Lock.new.Goals as goal

pub new-requires : goal.new-requires
new-requires g c =
    let items : c.push.new.self.items ≡ Some c.args.value ∷ [] = search rules in
    rw (items, c.of-start.ensures) (opened (slot_list g.S.Stands.list) IsSome g.S.Stands.number (Some c.args.value) (search rules) c.requires)
