-- What finishes at an index gives no item at a later one.
use Rattle.std.proofs.Common.{◌≡◌, ℕ, ◌≤◌, List, refl, arith}
use Rattle.std.specs.Prelude.{None}
use Rattle.std.proofs.lemmas.Bool.Decides.{nat_tests}
use Rattle.handlers.specs.declared.law.Law.{Law}
use Rattle.handlers.specs.declared.law.Law.TheVariants as law
use Rattle.handlers.specs.Values.{value}

pub finish_stays : (l : Law) (content : List ℕ) (i j : ℕ) → i ≤ j → value l content i ≡ None → value l content j ≡ None
finish_stays law.Echo content i j after h = grind (arith, nat_tests)
finish_stays law.Upper content i j after h = grind (arith, nat_tests)
finish_stays law.Count content i j after h = grind (arith, nat_tests)
finish_stays law.Drop content i j after h = refl
