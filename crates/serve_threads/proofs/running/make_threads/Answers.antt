use Rattle.serve_slots.specs.Callers.{all_placed}
use Rattle.serve_slots.proofs.Lists.{first_of}
use Rattle.serve_threads.specs.Ending.{rows_of}
use Rattle.serve_threads.specs.Making.{working}
use Rattle.serve_threads.proofs.Made.{made_at_first, made_first}
use Rattle.serve_threads.proofs.running.make_threads.Goals as goal

pub returns-in_err-list-clause-of : goal.returns-in_err-list-clause-of
returns-in_err-list-clause-of g c = first_of c.args.connections.now c.args.mains.now c.requires.first

pub returns-in_err-list-clause-made : goal.returns-in_err-list-clause-made
returns-in_err-list-clause-made g c = made_at_first c.args.connections.now c.args.mains.now c.args.guests.now.items c.args.workers.now.items c.requires.first c.requires.no_guests c.requires.no_workers

pub make_guests-requires-clause-of : goal.make_guests-requires-clause-of
make_guests-requires-clause-of g c = first_of c.args.connections.now c.args.mains.now c.requires.first

pub returns-in_err-make_guests-clause-made : goal.returns-in_err-make_guests-clause-made
returns-in_err-make_guests-clause-made g c =
    c.make_guests.ensures.made (working c.args.workers.now.items)
    (made_at_first c.args.connections.now c.args.mains.now c.args.guests.now.items c.args.workers.now.items c.requires.first c.requires.no_guests c.requires.no_workers)

pub returns-in_err-make_workers-clause-made : goal.returns-in_err-make_workers-clause-made
returns-in_err-make_workers-clause-made g c =
    c.make_workers.ensures.made (all_placed (rows_of c.make_guests.new.guests.items))
    (c.make_guests.ensures.made (working c.args.workers.now.items)
    (made_at_first c.args.connections.now c.args.mains.now c.args.guests.now.items c.args.workers.now.items c.requires.first c.requires.no_guests c.requires.no_workers))

pub returns-clause-made : goal.returns-clause-made
returns-clause-made g c =
    c.make_workers.ensures.made (all_placed (rows_of c.make_guests.new.guests.items))
    (c.make_guests.ensures.made (working c.args.workers.now.items)
    (made_at_first c.args.connections.now c.args.mains.now c.args.guests.now.items c.args.workers.now.items c.requires.first c.requires.no_guests c.requires.no_workers))

pub returns-clause-vacant : goal.returns-clause-vacant
returns-clause-vacant g c h side resume settings =
    c.in_ok-make_guests.ensures.vacant h side resume settings (made_first c.args.connections.now c.args.mains.now c.requires.first).fronts

pub returns-clause-ready : goal.returns-clause-ready
returns-clause-ready g c h settings =
    let made = c.make_guests.ensures.made (working c.args.workers.now.items)
    (made_at_first c.args.connections.now c.args.mains.now c.args.guests.now.items c.args.workers.now.items c.requires.first c.requires.no_guests c.requires.no_workers) in
    c.in_ok-make_workers.ensures.ready h settings made.fronts
