use Rattle.std.proofs.Common.{rules, ◌≡◌, ◌+◌, ◌∙◌, ◌++◌, ◌∷◌, [], ℕ, List, length, sym, ap, subst, arith, append_assoc}
use Rattle.std.specs.List.{AllByRecursion}
use Rattle.conn_shared.specs.Members.{Knowledge}
use Rattle.serve_slots.specs.Callers.{IsAtSlot, Placed, placed}
use Rattle.serve_slots.proofs.Lists.{placed_snoc, took_more}
use Rattle.serve_slots.proofs.taking.take_in_row.Goals as goal

-- the last caller of the row comes first
last : (old new : List Knowledge) (k : Knowledge) (slot : ℕ) → old ≡ new ++ k ∷ [] → slot ≡ length new → placed 0 old ≡ (slot, k) ∷ placed 0 new
last old new k slot is at = ap (placed 0) is ∙ (placed_snoc 0 new k ∙ ap (λ (n : ℕ). (n, k) ∷ placed 0 new) (let e : 0 + length new ≡ slot = omega (arith, at) in e))

pub take_in-requires-clause-at : goal.take_in-requires-clause-at
take_in-requires-clause-at g c =
    let new = c.pop.new.self.items in
    let is : c.loop-caller.row.items ≡ new ++ c.in-Some.caller ∷ [] = search rules in
    let at : c.len.result ≡ length new = let l = c.pop.new.self.ok.0 in let e = c.len.ensures in search rules in
    (subst (AllByRecursion (IsAtSlot c.args.connections.now)) (last c.loop-caller.row.items new c.in-Some.caller c.len.result is at) c.loop-caller.invariant.4).0

pub loop-caller-preserved : goal.loop-caller-preserved
loop-caller-preserved g c =
    let i = c.loop-caller.invariant in
    let new = c.pop.new.self.items in
    let k = c.in-Some.caller in
    let slot = c.len.result in
    let is : c.loop-caller.row.items ≡ new ++ k ∷ [] = search rules in
    let at : slot ≡ length new = let l = c.pop.new.self.ok.0 in let e = c.len.ensures in search rules in
    let row = last c.loop-caller.row.items new k slot is at in (
      i.0 ++ (slot, k) ∷ [],
      took_more c.args.mains.now c.loop-caller.mains c.take_in.new.mains i.0 ((slot, k) ∷ []) i.1 c.take_in.ensures.took,
      i.2 ∙ (ap (λ (l : List Placed). i.0 ++ l) row ∙ sym (append_assoc i.0 ((slot, k) ∷ []) (placed 0 new))),
      c.take_in.ensures.of,
      (subst (AllByRecursion (IsAtSlot c.args.connections.now)) row i.4).1,
    )
