use Rattle.std.proofs.Common.{sym, ◌∙◌, arith}
use Rattle.plain_text.proofs.Numbers.{some_is, none_is, decimal_same}
use Rattle.plain_text.proofs.decimal.read_number.Goals as goal

pub returns-in-Some-clause-value : goal.returns-in-Some-clause-value
returns-in-Some-clause-value c = some_is c.args.low c.args.high c.in-Some.n c.args.word.now (omega (arith, c.in-Some.ensures.found.1)) c.in-Some.ensures.found.0 c.if-low-n.true c.in-Some.ensures.found.1

pub returns-in_default-clause-value : goal.returns-in_default-clause-value
returns-in_default-clause-value c = none_is c.args.low c.args.high c.args.word.now (λ m l h e.
    let is = decimal_same m c.in-Some.n (omega arith) (omega (arith, c.in-Some.ensures.found.1)) (sym e ∙ c.in-Some.ensures.found.0) in omega (arith, c.if-low-n.false))

pub returns-in_default-2-clause-value : goal.returns-in_default-2-clause-value
returns-in_default-2-clause-value c = none_is c.args.low c.args.high c.args.word.now (λ m l h e. c.in_default.ensures.none m h (omega arith) e)

pub returns-in_default-clause-none : goal.returns-in_default-clause-none
returns-in_default-clause-none c m l h e =
    let is = decimal_same m c.in-Some.n (omega arith) (omega (arith, c.in-Some.ensures.found.1)) (sym e ∙ c.in-Some.ensures.found.0) in omega (arith, c.if-low-n.false)

pub returns-in_default-2-clause-none : goal.returns-in_default-2-clause-none
returns-in_default-2-clause-none c m l h e = c.in_default.ensures.none m h (omega arith) e
