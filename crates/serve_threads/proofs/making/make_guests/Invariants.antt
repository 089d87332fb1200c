use Rattle.std.specs.List.{AllByRecursion}
use Rattle.std.proofs.Common.{◌≡◌, ◌≤◌, ◌++◌, true, false, List, length, vec_len, vec_capacity}
use Rattle.rs_wire.specs.declared.settings.Settings.{Settings}
use Rattle.rs_wire.specs.declared.words.Side.TheVariants.{Server}
use Rattle.serve_slots.specs.Callers.{AreCallersOf, HaveSettings, Placed, all_placed}
use Rattle.serve_threads.specs.Ending.{rows_of}
use Rattle.serve_threads.specs.Making.{AreInOrder, AreMade}
use Rattle.serve_threads.specs.Threads.{IsNewCaller, IsVacant}
use Rattle.serve_threads.proofs.making.make_guests.Given as goal

abbrev pub invariant-loop-slot : goal.invariant-loop-slot
invariant-loop-slot g l = record {
  of : AreCallersOf l.connections l.mains;
  made : (others : List Placed) → AreMade l.connections l.fn.mains (all_placed (rows_of l.fn.guests.items) ++ others) → AreMade l.connections l.mains (all_placed (rows_of l.guests.items) ++ others);
  fronts : AllByRecursion IsNewCaller l.fn.mains → AllByRecursion IsNewCaller l.mains;
  vacant : (h : Settings) → h.side ≡ Server → (l.works ≡ true → h.resume ≡ false) → HaveSettings h l.connections → AllByRecursion IsNewCaller l.fn.mains → AllByRecursion (IsVacant h l.connections) l.guests.items;
  each : vec_len l.guests ≡ l.slot;
  order : AreInOrder 0 l.guests.items;
  room : length l.connections ≤ vec_capacity l.guests;
}
