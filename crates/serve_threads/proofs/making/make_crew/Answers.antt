use Rattle.serve_threads.proofs.making.make_crew.Goals as goal

pub loop-preserved : goal.loop-preserved
loop-preserved g c =
    let i = c.loop.invariant in
    let e = c.make_worker.ensures in
    let f = c.in_ok-make_worker.ensures in
    record {
      of = e.of;
      fronts = λ h. e.fronts (i.fronts h);
      made = λ others m. e.made others (i.made others m);
      ready = λ h settings new was. f.ready h settings (i.fronts new) (i.ready h settings new was);
      kept = λ at h. e.kept at (i.kept at h);
      there = λ some. f.there;
    }
