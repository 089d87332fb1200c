use Rattle.std.proofs.Common.{◌≡◌, arith, drop, refl}
use Rattle.replay_buffer.specs.Blocks.{IsBlocks, bytes_of}
use Rattle.replay_buffer.specs.declared.blocks.Blocks.TheInside.{Inside}
use Rattle.replay_buffer.proofs.InBlocks.{dropped_front, sized}
use Rattle.replay_buffer.proofs.blocks.Blocks.drop_front.Goals as goal

pub overflow_add-self : goal.overflow_add-self
overflow_add-self c = omega (arith, (sized _ _ c.self.invariant c.self.view_is).top, c.requires)

pub let_go-self-inside-requires-clause-within : goal.let_go-self-inside-requires-clause-within
let_go-self-inside-requires-clause-within c = omega (arith, (sized _ _ c.self.invariant c.self.view_is).size, c.requires, c.self.invariant.last)

abbrev after : goal.After-self-then-self-ge-BLOCK-1 → Inside
after c = record { full = c.let_go-self-inside.new.full; last = c.self.inside.last; spare = c.self.inside.spare; gone = c.let_go-self-inside.result }

front : (c : goal.After-self-then-self-ge-BLOCK-1) → IsBlocks (after c) × (bytes_of (after c) ≡ record c.args.self.now { items = drop c.args.count c.args.self.now.items })
front c =
    let e = c.let_go-self-inside.ensures in
    dropped_front c.self.inside (after c) c.args.self.now c.args.count c.self.invariant c.self.view_is c.requires e.full e.capacity e.fewer e.gone e.count e.same refl refl

pub invariant_of-self : goal.invariant_of-self
invariant_of-self c = (front c).0
