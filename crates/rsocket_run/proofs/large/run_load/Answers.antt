use Rattle.rsocket_load.specs.Load.{Loads}
use Rattle.rsocket_run.proofs.Telling.{all_cut_off}
use Rattle.rsocket_run.proofs.large.run_load.Goals as goal

pub returns-in-Ok-clause-cut_off : goal.returns-in-Ok-clause-cut_off
returns-in-Ok-clause-cut_off g c = λ five.
    all_cut_off (Loads c.args.seed g.H.Shelf.fresh (g.H.Shelf.back c.args.shelf.now) (g.H.Shelf.back c.load.new.shelf)) _ c.in-Ok.text.items _ _ _ _
    c.in-Ok.ensures.loads c.deref.ensures.value c.tell_done.ensures five
