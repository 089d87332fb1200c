use Rattle.std.proofs.Common.{◌≡◌, ◌++◌, List, ℕ, subst, sym}
use Rattle.cable.specs.Shelves.{Reports}
use Rattle.rsocket_load.specs.Load.{summary}
use Rattle.rsocket_load.proofs.Loading.{loads}
use Rattle.rsocket_load.proofs.run.load.Goals as goal

pub returns-clause-loads : goal.returns-clause-loads
returns-clause-loads g c =
    let written : c.put_summary.new.out.items ≡ c.two_lines.result.now ++ summary c.args.seed =
    cc (c.in_ok-put_summary.ensures, c.in_ok-text.ensures.items) in
    loads c.args.seed c.in_ok-script.script g.H.Shelf.fresh (g.H.Shelf.back c.args.shelf.now) (g.H.Shelf.back c.play.new.shelf) c.deref.result.now
    c.two_lines.result.now c.put_summary.new.out.items c.in_ok-script.ensures
    (subst (λ (t : List ℕ). Reports c.in_ok-script.script g.H.Shelf.fresh (g.H.Shelf.back c.args.shelf.now) (g.H.Shelf.back c.play.new.shelf) t)
    (sym c.deref.ensures.value) c.in_ok-report.ensures.reports)
    c.two_lines.ensures written
