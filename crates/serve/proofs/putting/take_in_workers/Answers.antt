use Rattle.std.proofs.Common.{rules, ◌≡◌, ◌∙◌, ◌++◌, ◌∷◌, [], List, sym, ap, subst, append_assoc}
use Rattle.std.specs.List.{AllByRecursion}
use Rattle.serve_slots.specs.Callers.{IsAtSlot, Placed}
use Rattle.serve_slots.proofs.Lists.{took_more}
use Rattle.serve_threads.specs.Making.{working}
use Rattle.serve_threads.proofs.Made.{working_snoc}
use Rattle.serve.proofs.putting.take_in_workers.Goals as goal

pub take_in-requires-clause-at : goal.take_in-requires-clause-at
take_in-requires-clause-at g c =
    let new = c.pop.new.self.items in
    let w = c.in-Some.worker in
    let is : c.loop-worker.workers.items ≡ new ++ w ∷ [] = search rules in
    (subst (AllByRecursion (IsAtSlot c.args.connections.now)) (ap working is ∙ working_snoc new w) c.loop-worker.invariant.4).0

pub loop-worker-preserved : goal.loop-worker-preserved
loop-worker-preserved g c =
    let i = c.loop-worker.invariant in
    let new = c.pop.new.self.items in
    let w = c.in-Some.worker in
    let is : c.loop-worker.workers.items ≡ new ++ w ∷ [] = search rules in
    let row = ap working is ∙ working_snoc new w in (
      i.0 ++ (w.slot, w.caller) ∷ [],
      took_more c.args.mains.now c.loop-worker.mains c.take_in.new.mains i.0 ((w.slot, w.caller) ∷ []) i.1 c.take_in.ensures.took,
      i.2 ∙ (ap (λ (l : List Placed). i.0 ++ l) row ∙ sym (append_assoc i.0 ((w.slot, w.caller) ∷ []) (working new))),
      c.take_in.ensures.of,
      (subst (AllByRecursion (IsAtSlot c.args.connections.now)) row i.4).1,
    )
