use Rattle.std.proofs.Common.{◌≡◌, ◌++◌}
use Rattle.load_script.specs.Generated.{first_items}
use Rattle.load_script.specs.Texts.{text_of_lines}
use Rattle.load_script.proofs.writing.put_items.Given as goal

abbrev pub invariant-loop-i : goal.invariant-loop-i
invariant-loop-i l = l.out.items ≡ l.initial.out.items ++ text_of_lines (first_items l.seed l.i)
