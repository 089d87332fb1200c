use Rattle.std.proofs.Common.{◌≡◌, ◌-◌, ◌++◌, ◌∙◌, ℕ, List, ap, arith, subst, sym, take}
use Rattle.std.proofs.lemmas.List.{length-take-le}
use Rattle.circular_buffer.specs.Buffer.{Buffer}
use Rattle.replay_buffer.specs.Blocks.{Bytes, IsBlocks, bytes_of}
use Rattle.replay_buffer.specs.declared.blocks.Blocks.TheInside.{Inside}
use Rattle.replay_buffer.proofs.InBlocks.{Puts, puts, went_on}
use Rattle.replay_buffer.proofs.blocks.Blocks.put_some.Goals as goal
use Rattle.replay_buffer.proofs.blocks.Blocks.put_some.Goals.{then-len-eq-BLOCK, else-len-eq-BLOCK}

pub go_on-requires-clause-some : goal.go_on-requires-clause-some
go_on-requires-clause-some c = omega (arith, ap (λ (v : Bytes). v.free) c.self.view_is, c.requires.room, c.requires.some, c.if-len-eq-BLOCK.true, c.len.ensures)

pub go_on-requires-clause-place : goal.go_on-requires-clause-place
go_on-requires-clause-place c = omega (arith, ap (λ (v : Bytes). v.free) c.self.view_is, c.requires.room, c.requires.some, c.if-len-eq-BLOCK.true, c.len.ensures, c.self.invariant.places)

went : (c : goal.After-put) → IsBlocks c.if-len-eq-BLOCK.self-inside × (bytes_of c.if-len-eq-BLOCK.self-inside ≡ bytes_of c.self.inside)
went c = elim c.if-len-eq-BLOCK.branch [
  | then-len-eq-BLOCK w ↦
      let is = w.self-inside-is in
      let on = w.go_on.ensures in
      let free = ap (λ (v : Bytes). v.free) c.self.view_is in
      went_on c.self.inside c.if-len-eq-BLOCK.self-inside c.self.invariant (omega (arith, c.len.ensures, w.if-len-eq-BLOCK.true)) (omega (arith, free, c.requires.room, c.requires.some, w.if-len-eq-BLOCK.true, c.len.ensures))
      (ap (λ (b : Inside). b.full.items) is ∙ ap (λ (b : Buffer (List ℕ)). b.items) on.full) (ap (λ (b : Inside). b.full.capacity) is ∙ ap (λ (b : Buffer (List ℕ)). b.capacity) on.full)
      (ap (λ (b : Inside). b.last) is ∙ on.last) (ap (λ (b : Inside). b.spare.items) is ∙ on.spare) (ap (λ (b : Inside). b.gone) is)
  | else-len-eq-BLOCK w ↦ (subst IsBlocks (sym w.self-inside-is) c.self.invariant, ap bytes_of w.self-inside-is)
]

put : (c : goal.After-put) → Puts c.if-len-eq-BLOCK.self-inside (record c.if-len-eq-BLOCK.self-inside { last = c.put.new.self }) (take c.min-count.result c.args.bytes.now)
put c =
    let more = take c.min-count.result c.args.bytes.now in
    puts c.if-len-eq-BLOCK.self-inside _ more (went c).0 (ap (λ l. record c.if-len-eq-BLOCK.self-inside { last = l }) c.put.ensures)
    (omega (arith, c.min-count.ensures, c.len-2.ensures, length-take-le c.min-count.result c.args.bytes.now (omega (arith, c.min-count.ensures)), (went c).0.last))

pub invariant_of-self : goal.invariant_of-self
invariant_of-self c = (put c).blocks

pub returns-clause-put : goal.returns-clause-put
returns-clause-put c =
    let count = c.min-count.result in
    let bytes = c.args.bytes.now in
    let size = length-take-le count bytes (omega (arith, c.min-count.ensures)) in
    let before : bytes_of c.if-len-eq-BLOCK.self-inside ≡ c.args.self.now = (went c).1 ∙ c.self.view_is in
    (put c).is ∙ (λ i. record { items = (before i).items ++ take count bytes; free = (before i).free - size i })
