use Rattle.std.proofs.Common.{true, false, ◌≡◌, ℕ, Result, Ok, sym, ap, ◌∙◌, arith}
use Rattle.std.specs.Prelude.{decimal}
use Rattle.std.proofs.lemmas.Fmt.{parse-decimal, IsAscii-decimal}
use Rattle.std.proofs.lemmas.Str.{IsUtf8-from_ascii}
use Rattle.std.proofs.lemmas.Slice.Eq.{bytes_eq-Decides}
use Rattle.plain_text.proofs.decimal.number_up_to.Goals as goal

same_ok : {E : Type 0} (r : Result ℕ E) (m n : ℕ) → r ≡ Ok m → r ≡ Ok n → m ≡ n
same_ok r m n a b = cc

true_not_false : true ≡ false → ⊥
true_not_false e = cc

pub returns-in_default-clause-none : goal.returns-in_default-clause-none
returns-in_default-clause-none c = λ n le lt e. c.in_default.ensures.cases.0 (rw e (IsUtf8-from_ascii (decimal n) (IsAscii-decimal n lt)))

pub returns-in_default-parse-clause-none : goal.returns-in_default-parse-clause-none
returns-in_default-parse-clause-none c = λ n le lt e. c.in_default-parse.not-Ok n (parse-decimal 64 n c.in-Ok.text.now c.parse.result lt lt (c.in-Ok.ensures.cases.0 ∙ e) c.parse.ensures.value.0)

pub returns-then-n-most-clause-none : goal.returns-then-n-most-clause-none
returns-then-n-most-clause-none c = λ n le lt e.
    let is = same_ok c.parse.result n c.in-Ok-parse.n (parse-decimal 64 n c.in-Ok.text.now c.parse.result lt lt (c.in-Ok.ensures.cases.0 ∙ e) c.parse.ensures.value.0) c.in-Ok-parse.is in
    omega (arith, c.if-n-most.true)

pub returns-clause-none : goal.returns-clause-none
returns-clause-none c = λ n le lt e.
    let is = same_ok c.parse.result n c.in-Ok-parse.n (parse-decimal 64 n c.in-Ok.text.now c.parse.result lt lt (c.in-Ok.ensures.cases.0 ∙ e) c.parse.ensures.value.0) c.in-Ok-parse.is in
    let same : c.as_bytes.result.now ≡ c.args.word.now = c.as_bytes.ensures.value ∙ c.format.ensures.text ∙ ap decimal (sym is) ∙ sym e in
    absurd (true_not_false (sym ((bytes_eq-Decides c.as_bytes.result.now c.args.word.now).1 same) ∙ sym c.eq.ensures ∙ c.if-eq.false))
