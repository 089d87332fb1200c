use Rattle.std.proofs.Common.{◌≡◌, ◌<◌, ◌^◌, true, false, ap, sym, ◌∙◌, arith}
use Rattle.std.proofs.lemmas.Fmt.{decimal_injective}
use Rattle.rs_wire.specs.Calls.{is_stream_code}
use Rattle.cable_script.proofs.Spaced.{code_small}
use Rattle.cable_script.proofs.words.cuts.code.Goals as goal

pub returns-in_default-clause-none : goal.returns-in_default-clause-none
returns-in_default-clause-none c = λ n right e.
    let small : c.in-Some.n < 2 ^ 64 = omega (arith, c.in-Some.ensures.some.2) in
    let same : c.in-Some.n ≡ n = decimal_injective c.in-Some.n n small (code_small n right) (sym c.in-Some.ensures.some.0 ∙ e) in
    let off : is_stream_code c.in-Some.n ≡ false = sym c.is_stream_code.ensures ∙ c.if-is_stream_code.false in
    let both : true ≡ false = sym right ∙ (ap is_stream_code (sym same) ∙ off) in
    absurd cc
