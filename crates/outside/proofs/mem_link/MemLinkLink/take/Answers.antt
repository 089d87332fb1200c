use Rattle.std.proofs.Common.{◌≡◌, ◌<◌, ◌≤◌, ◌+◌, ◌++◌, length, take, drop, Some, ap, sym, ◌∙◌, arith}
use Rattle.std.proofs.lemmas.Bool.Decides.{nat_tests}
use Rattle.std.proofs.lemmas.List.{length-append, length-take-le, take-append-drop}
use Rattle.outside.specs.MemoryLink.{MemoryLink}
use Rattle.outside.proofs.Moved.{moved}
use Rattle.outside.proofs.mem_link.MemLinkLink.take.Goals as goal

pub returns-clause-taken : goal.returns-clause-taken
returns-clause-taken c =
    let left : c.split_at.result.1.now ≡ drop c.self.inside.start c.self.inside.bytes = c.split_at.ensures.back ∙ ap (drop c.self.inside.start) c.as_slice.ensures in
    let some : 0 < length c.split_at.result.1.now = grind (arith, nat_tests, c.is_empty.ensures, c.if-is_empty.false) in
    let fits : c.min-count.result ≤ length c.split_at.result.1.now = omega (arith, c.min-count.ensures, c.min.ensures) in
    let positive : 0 < c.min-count.result = omega (arith, c.min-count.ensures, c.min.ensures, c.requires, c.self.invariant.1) in
    let copied : length c.copy_from_slice.new.self ≡ c.min-count.result = ap length c.copy_from_slice.ensures.after ∙ length-take-le c.min-count.result c.split_at.result.1.now fits in
    let before : c.args.self.now.taken ≡ take c.self.inside.start c.self.inside.bytes = ap (λ (l : MemoryLink). l.taken) (sym c.self.view_is) in (
      (positive, omega (arith, copied, length-append c.copy_from_slice.new.self (drop c.min-count.result c.args.buffer.now))),
      ap Some (rw before (moved c.self.inside.start c.min-count.result c.self.inside.bytes c.split_at.result.1.now c.copy_from_slice.new.self (drop c.min-count.result c.args.buffer.now) left c.copy_from_slice.ensures.after fits)),
    )

pub returns-clause-same_bytes : goal.returns-clause-same_bytes
returns-clause-same_bytes c = take-append-drop (c.self.inside.start + c.min-count.result) c.self.inside.bytes ∙ sym (take-append-drop c.self.inside.start c.self.inside.bytes) ∙ ap (λ (l : MemoryLink). l.taken ++ l.left) c.self.view_is
