use Rattle.std.proofs.Common.{◌<◌, length, sym, ◌∙◌, arith, rules}
use Rattle.std.proofs.lemmas.Bool.{eqb-true}
use Rattle.std.proofs.lemmas.Bool.Decides.{nat_tests}
use Rattle.std.proofs.lemmas.Result.{IfErr-weaker, on_ok_weaker}
use Rattle.capture.specs.Text.{IsLineFault}
use Rattle.capture.proofs.Progress.{all_read, at_limit, at_start, last_read, one_more, one_more_counted, too_long, wrong_last, wrong_line}
use Rattle.capture.proofs.back.write_lines.Goals as goal

pub loop-line-init : goal.loop-line-init
loop-line-init c =
    let rest = at_limit c.args.text.now c.split_at.result.0.now c.min.result c.min.ensures c.split_at.ensures.front in
    record { far = at_start c.args.text.now c.split_at.result.0.now c.args.out.now.items rest.0; counted = omega (arith, rest.1) }

pub returns-in_err-write_frame-clause-line : goal.returns-in_err-write_frame-clause-line
returns-in_err-write_frame-clause-line c =
    let line = c.in-Some.ensures.line in
    let told : IsLineFault c.args.text.now c.in_err-write_frame.field-0.0 = wrong_line c.args.text.now c.loop-line.rest.now c.in-Some.line.now c.in-Some.after.now c.loop-line.number c.args.out.now.items c.loop-line.out.items c.in_err-write_frame.field-0.0 c.loop-line.invariant.far line.0 line.1 c.in_err-write_frame.ensures.fault in
    search rules

pub loop-line-preserved : goal.loop-line-preserved
loop-line-preserved c =
    let line = c.in-Some.ensures.line in
    record {
      far = one_more c.args.text.now c.loop-line.rest.now c.in-Some.line.now c.in-Some.after.now c.args.out.now.items c.loop-line.out.items c.write_frame.new.out.items c.loop-line.number c.loop-line.invariant.far line.0 c.in_ok-write_frame.ensures.ok;
      counted = omega (arith, c.loop-line.invariant.counted, one_more_counted c.loop-line.rest.now c.in-Some.line.now c.in-Some.after.now line.0);
    }

pub returns-then-text-gt-MOST_CAPTURE-clause-line : goal.returns-then-text-gt-MOST_CAPTURE-clause-line
returns-then-text-gt-MOST_CAPTURE-clause-line c = too_long c.args.text.now c.loop-line.rest.now c.loop-line.number c.args.out.now.items c.loop-line.out.items c.loop-line.invariant.far c.in_default.ensures.last c.if-text-gt-MOST_CAPTURE.true

pub returns-then-is_empty-clause-whole : goal.returns-then-is_empty-clause-whole
returns-then-is_empty-clause-whole c = all_read c.args.text.now c.loop-line.rest.now c.loop-line.number c.args.out.now.items c.loop-line.out.items c.loop-line.invariant.far c.if-text-gt-MOST_CAPTURE.false (eqb-true _ _ (sym c.is_empty.ensures ∙ c.if-is_empty.true))

pub returns-clause-whole : goal.returns-clause-whole
returns-clause-whole c = on_ok_weaker c.write_frame-2.result (last_read c.args.text.now c.loop-line.rest.now c.loop-line.number c.args.out.now.items c.loop-line.out.items c.write_frame-2.new.out.items c.loop-line.invariant.far (omega arith)) c.write_frame-2.ensures.ok

pub returns-clause-line : goal.returns-clause-line
returns-clause-line c =
    let some : 0 < length c.loop-line.rest.now = grind (arith, nat_tests, c.is_empty.ensures, c.if-is_empty.false) in
    IfErr-weaker c.write_frame-2.result _ _ (λ e. wrong_last c.args.text.now c.loop-line.rest.now c.loop-line.number c.args.out.now.items c.loop-line.out.items e c.loop-line.invariant.far some c.in_default.ensures.last) c.write_frame-2.ensures.fault
