-- How the places are left once links came to them: the last task may be done.
use Rattle.std.specs.List.{AllByRecursion}
use Rattle.std.proofs.Common.{◌≡◌, ◌∙◌, inl, inr, ℕ, Bool, List, ◌∷◌, length, Option, sym, ap, subst, arith, length-append}
use Rattle.rs_wire.specs.declared.settings.Settings.{Settings}
use Rattle.outside.specs.Links.{Shown}
use Rattle.outside.specs.declared.net.Ask.{Ask}
use Rattle.conn_shared.specs.Members.{Knowledge, SharedId}
use Rattle.crew.specs.Places.{AreServed, HoldsAfter}
use Rattle.crew.proofs.Left.{all_left}
use Rattle.handlers.specs.Listed.{Listed}
use Rattle.server.proofs.Places.{of_back}
use Rattle.serve_slots.specs.Callers.{AreCallersOf}
use Rattle.serve_slots.proofs.Lists.{pair_long}
use Rattle.serve_threads.specs.Asking.{AreAccepted}
use Rattle.serve_threads.specs.Ending.{CanEnd, IsLeft}
use Rattle.serve_threads.specs.Threads.{IsMissed, IsServed, IsVacant}
use Rattle.serve_threads.specs.declared.guest.Guest.{Guest}
use Rattle.serve_threads.proofs.Made.{idle_routed, of_without}

module _ {N L T : Type 0} (shown : L → Shown) (g : Settings) (ids : List SharedId) (moments : Option (List ℕ)) (grant : Option ℕ) (routes : List Listed) (asked : N → Option (List Ask)) (back : N → Option (List Shown)) (out faults : N → ℕ) (ws : Bool) where
  -- as many places are left
  come_long : (places left : List (Guest L T)) (n m : N) → AreServed (AreAccepted asked back out faults ws) (IsServed shown g moments grant routes) (IsMissed asked back out faults ws) n m places left → length left ≡ length places
  come_long places left n m (inl a) = sym (pair_long (IsServed shown g moments grant routes) places left a.each)
  come_long places left n m (inr u) =
      let a = ap length u.were in
      let b = ap length u.are in
      let c = length-append u.before (u.place ∷ u.rest) in
      let d = length-append u.before' (u.place' ∷ u.rest) in
      let e = pair_long (IsServed shown g moments grant routes) u.before u.before' u.each in
      omega arith

  served_left : (p q : Guest L T) → IsVacant g ids p → IsServed shown g moments grant routes p q → IsLeft ids routes q
  served_left p q v d = record { of = of_without g ids q.row.items (of_back g ids p.row.items q.row.items v.of d.back); routed = d.routed }

  vacant_left : (p : Guest L T) → IsVacant g ids p → IsLeft ids routes p
  vacant_left p v = record { of = of_without g ids p.row.items v.of; routed = idle_routed routes p.work v.idle }

  missed_left : (n m : N) (p q : Guest L T) → IsVacant g ids p → IsMissed asked back out faults ws n m p q → IsLeft ids routes q
  missed_left n m p q v x = subst (IsLeft ids routes) (sym x.missed) (record { of = of_without g ids p.row.items v.of; routed = idle_routed routes p.work v.idle })

  -- so the last task may be done
  pub can_end : (mains : List Knowledge) (places : List (Guest L T)) (n : N) → AreCallersOf ids mains → length places ≡ length ids → AllByRecursion (IsVacant g ids) places
      → HoldsAfter (AreAccepted asked back out faults ws) (IsServed shown g moments grant routes) (IsMissed asked back out faults ws) n places (CanEnd ids routes mains)
  can_end mains places n of each v = record {
    after = λ m left are. record {
      mains_of = of;
      each = come_long places left n m are ∙ each;
      all = all_left (AreAccepted asked back out faults ws) (IsServed shown g moments grant routes) (IsMissed asked back out faults ws) (IsVacant g ids) (IsLeft ids routes) served_left missed_left vacant_left n m places left v are;
    };
  }
