use Rattle.std.proofs.Common.{List, sym, subst}
use Rattle.serve_slots.specs.Callers.{TookIn, all_placed, placed}
use Rattle.serve_slots.proofs.Lists.{took_more}
use Rattle.serve_threads.specs.Ending.{rows_of}
use Rattle.serve_threads.specs.declared.guest.Guest.{Guest}
use Rattle.serve_threads.proofs.ending.+take_in_guests.Goals as goal

pub returns-clause-took : goal.returns-clause-took
returns-clause-took g t c =
    let ms = c.args.mains.now in
    let ns = c.take_in_guests.new.mains in
    let p = c.in-Some.guest.now in
    let ps = c.in-Some.guests.now in
    subst (λ (l : List (Guest g.row.L.Denot g.row.T.Denot)). TookIn ms (all_placed (rows_of l)) ns) (sym c.in-Some.ensures.cases.0)
    (took_more ms c.take_in_row.new.mains ns (placed 0 p.row.items) (all_placed (rows_of ps)) c.take_in_row.ensures.took c.take_in_guests.ensures.took)
