use Rattle.rsocket_call.specs.Called.{settings_for}
use Rattle.rsocket_call.proofs.Shelf.{got_empty}
use Rattle.rsocket_call.proofs.connect.connect.Goals as goal

pub returns-in-Err-clause-got : goal.returns-in-Err-clause-got
returns-in-Err-clause-got g c = got_empty (settings_for c.args.task.now) g.H.Shelf.fresh _ _ (g.H.Shelf.back c.args.shelf.now) _ (g.H.Shelf.back c.put_back.new.self) c.in_ok-tape.ensures.fresh c.in-Err.ensures.back c.in_ok-tape.ensures.back c.put_back.ensures.back
