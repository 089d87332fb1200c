use Rattle.serve_threads.proofs.Closing.{can_each, can_rows, own_each, own_of, own_rows, own_works}
use Rattle.serve_threads.proofs.ending.end_all.Goals as goal

pub change_places-requires-clause-each : goal.change_places-requires-clause-each
change_places-requires-clause-each g c = can_each c.args.connections.now c.args.routes.now c.args.mains.now c.args.guests.now c.requires

pub change_places-requires-clause-rows : goal.change_places-requires-clause-rows
change_places-requires-clause-rows g c = can_rows c.args.connections.now c.args.routes.now c.args.mains.now c.args.guests.now c.requires

pub take_in_guests-requires-clause-of : goal.take_in_guests-requires-clause-of
take_in_guests-requires-clause-of g c = own_of c.args.connections.now c.args.routes.now c.args.mains.now c.args.guests.now c.requires c.change_places.new.mains c.change_places.new.guests c.change_places.ensures

pub take_in_guests-requires-clause-rows : goal.take_in_guests-requires-clause-rows
take_in_guests-requires-clause-rows g c = own_rows c.args.connections.now c.args.routes.now c.args.mains.now c.args.guests.now c.requires c.change_places.new.mains c.change_places.new.guests c.change_places.ensures

pub work_off_each-requires-clause-each : goal.work_off_each-requires-clause-each
work_off_each-requires-clause-each g c =
    own_each c.args.connections.now c.args.routes.now c.args.mains.now c.args.guests.now c.requires c.change_places.new.mains c.change_places.new.guests c.change_places.ensures c.take_in_guests.new.guests c.close_each.new.mains c.take_in_guests.ensures.emptied c.close_each.ensures.of

pub work_off_each-requires-clause-routed : goal.work_off_each-requires-clause-routed
work_off_each-requires-clause-routed g c =
    own_works c.args.connections.now c.args.routes.now c.args.mains.now c.args.guests.now c.requires c.change_places.new.mains c.change_places.new.guests c.change_places.ensures c.take_in_guests.new.guests c.take_in_guests.ensures.emptied

pub returns : goal.returns
returns g c = record {
  own = c.change_places.new.mains;
  given = c.change_places.new.guests;
  swapped = c.change_places.ensures;
  mid = c.take_in_guests.new.mains;
  empty = c.take_in_guests.new.guests;
  took = c.take_in_guests.ensures.took;
  emptied = c.take_in_guests.ensures.emptied;
  closed = c.close_each.new.mains;
  ends = c.close_each.ensures.ends;
  served = c.work_off_each.ensures;
}
