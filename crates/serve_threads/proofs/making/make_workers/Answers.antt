use Rattle.serve_threads.proofs.Made.{have_more}
use Rattle.serve_threads.proofs.making.make_workers.Goals as goal

pub loop-slot-preserved : goal.loop-slot-preserved
loop-slot-preserved g c =
    let i = c.loop-slot.invariant in
    let e = c.make_crew.ensures in
    let f = c.in_ok-make_crew.ensures in
    record {
      of = e.of;
      fronts = λ h. e.fronts (i.fronts h);
      made = λ others m. e.made others (i.made others m);
      ready = λ h settings new. f.ready h settings (i.fronts new) (i.ready h settings new);
      workers = λ some. have_more c.loop-slot.slot c.make_crew.new.workers.items (λ slot lt. e.kept slot (i.workers some slot lt)) (f.there some);
    }
