use Rattle.std.proofs.Common.{◌+◌}
use Rattle.conn_lock.specs.Callers.{share}
use Rattle.threaded.proofs.Ended.{shared_by}
use Rattle.threaded.proofs.sharing.split_off.Goals as goal

pub returns-in-Ok-clause-shared : goal.returns-in-Ok-clause-shared
returns-in-Ok-clause-shared g c =
    let asker = c.in-Ok.asker in
    shared_by c.args.connection c.args.first c.split.new.caller asker (share c.args.first.parts) (asker.number + 1) c.requires c.split.ensures.same c.in-Ok.ensures.new c.in-Ok.ensures.parts
