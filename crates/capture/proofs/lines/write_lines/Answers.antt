use Rattle.std.proofs.Common.{◌≡◌, ℕ, ◌≢◌, List, length, Err, sym, ap, subst, ◌∙◌, arith}
use Rattle.std.proofs.lemmas.Grind.{common_steps}
use Rattle.std.proofs.lemmas.Bool.{eqb-false}
use Rattle.capture.specs.Captured.{WroteLines}
use Rattle.capture.specs.declared.lines.CaptureFault.TheVariants as faults
use Rattle.capture.proofs.Reading.{at_start, bad_at}
use Rattle.capture.proofs.lines.write_lines.Goals as goal

pub loop-rest-init : goal.loop-rest-init
loop-rest-init c = record { so_far = at_start c.args.bytes.now c.args.out.now.items; within = omega arith }

pub returns-in_err-rest-clause-frame : goal.returns-in_err-rest-clause-frame
returns-in_err-rest-clause-frame c place bad e =
    let fault : c.in_err-rest.field-0.0 ≡ faults.Frame place bad = grind (arith, common_steps, e, c.from_residual.ensures.1) in
    let at = c.in_err-rest.ensures.frame place bad (ap Err fault) in
    let same : c.write_first.new.out.items ≡ c.loop-rest.out.items = c.in_err-rest.ensures.err in
    let some : length c.loop-rest.rest.now ≢ 0 = eqb-false _ _ (sym c.is_empty.ensures ∙ c.loop-rest-test.true) in
    let w : WroteLines c.args.bytes.now c.loop-rest.rest.now c.args.out.now.items c.write_first.new.out.items =
    subst (λ (t : List ℕ). WroteLines c.args.bytes.now c.loop-rest.rest.now c.args.out.now.items t) (sym same) c.loop-rest.invariant.so_far in
    bad_at c.args.bytes.now c.loop-rest.rest.now c.args.out.now.items c.write_first.new.out.items place bad c.requires w (omega (arith, at.0, c.loop-rest.invariant.within)) (omega (arith, some)) at.1
