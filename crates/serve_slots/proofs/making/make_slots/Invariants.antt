use Rattle.std.proofs.Common.{◌≡◌, ◌+◌, ◌≤◌, length, vec_len, vec_capacity}
use Rattle.serve_slots.specs.Callers.{AreFirst, HaveSettings}
use Rattle.serve_slots.proofs.making.make_slots.Given as goal

abbrev pub invariant-loop : goal.invariant-loop
invariant-loop g l = record {
  settings : HaveSettings l.settings l.connections.items;
  first : AreFirst l.connections.items l.mains.items;
  each : length l.connections.items ≡ l.counter;
  connections : vec_len l.connections ≡ l.counter;
  mains : vec_len l.mains ≡ l.counter;
  room : l.many ≤ vec_capacity l.connections;
  main_room : l.many ≤ vec_capacity l.mains;
  lent : g.H.Shelf.lent l.shelf ≡ g.H.Shelf.lent l.fn.shelf + l.counter;
  back : g.H.Shelf.back l.shelf ≡ g.H.Shelf.back l.fn.shelf;
}
