use Rattle.serve_slots.specs.Callers.{IsAtSlot, all_placed}
use Rattle.serve_slots.proofs.Lists.{all_first, all_second}
use Rattle.serve_threads.specs.Ending.{rows_of}
use Rattle.serve_threads.specs.Making.{working}
use Rattle.serve.proofs.Over.{all_in, rows_at}
use Rattle.serve.proofs.whole.undo.Goals as goal

pub take_in_guests-requires-clause-rows : goal.take_in_guests-requires-clause-rows
take_in_guests-requires-clause-rows g c =
    let ids = c.args.connections.now in
    let ps = c.args.guests.now in
    rows_at ids ps (all_first (IsAtSlot ids) (all_placed (rows_of ps)) (working c.args.workers.now.items) c.requires.made.at)

pub take_in_workers-requires-clause-at : goal.take_in_workers-requires-clause-at
take_in_workers-requires-clause-at g c =
    all_second (IsAtSlot c.args.connections.now) (all_placed (rows_of c.args.guests.now)) (working c.args.workers.now.items) c.requires.made.at

pub returns-clause-parts : goal.returns-clause-parts
returns-clause-parts g c =
    all_in c.args.connections.now c.args.mains.now c.take_in_guests.new.mains c.take_in_workers.new.mains (all_placed (rows_of c.args.guests.now)) (working c.args.workers.now.items) c.requires.made c.take_in_guests.ensures.took c.take_in_workers.ensures.took
