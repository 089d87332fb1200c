-- How many items a law gives.
use Rattle.std.proofs.Common.{◌≡◌, ◌<◌, ◌≤◌, ℕ, List, refl, arith}
use Rattle.std.specs.Prelude.{Some, None}
use Rattle.std.proofs.lemmas.Bool.Decides.{nat_tests}
use Rattle.handlers.specs.declared.law.Law.{Law}
use Rattle.handlers.specs.declared.law.Law.TheVariants as law
use Rattle.handlers.specs.Values.{value}
use Rattle.workers.specs.Replies.{item_count}

pub item_below : (l : Law) (content : List ℕ) (k : ℕ) (item : List ℕ) → value l content k ≡ Some item → k < item_count l content
item_below law.Echo content k item h = grind (arith, nat_tests)
item_below law.Upper content k item h = grind (arith, nat_tests)
item_below law.Count content k item h = grind (arith, nat_tests)
item_below law.Drop content k item h = absurd (cc)

pub finish_past : (l : Law) (content : List ℕ) (k : ℕ) → value l content k ≡ None → item_count l content ≤ k
finish_past law.Echo content k h = grind (arith, nat_tests)
finish_past law.Upper content k h = grind (arith, nat_tests)
finish_past law.Count content k h = grind (arith, nat_tests)
finish_past law.Drop content k h = omega arith

pub past_finish : (l : Law) (content : List ℕ) (k : ℕ) → item_count l content ≤ k → value l content k ≡ None
past_finish law.Echo content k h = grind (arith, nat_tests)
past_finish law.Upper content k h = grind (arith, nat_tests)
past_finish law.Count content k h = grind (arith, nat_tests)
past_finish law.Drop content k h = refl
