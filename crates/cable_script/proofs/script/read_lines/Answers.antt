use Rattle.std.proofs.Common.{inr, sym, ◌∙◌, arith}
use Rattle.std.proofs.lemmas.Bool.{eqb-true}
use Rattle.cable_script.proofs.Reading.{all_right, first_wrong, none_read, one_more, script}
use Rattle.cable_script.proofs.script.read_lines.Goals as goal

pub loop-rest-init : goal.loop-rest-init
loop-rest-init c = record { far = none_read c.args.text.now _ c.new.ensures.items c.new-2.ensures.items; counted = omega arith }

pub loop-rest-preserved : goal.loop-rest-preserved
loop-rest-preserved c = record {
  far = one_more _ _ _ _ _ _ _ _ _ c.loop-rest.invariant.far c.first_line.ensures.lines c.in-Some.ensures.read;
  counted = omega (arith, c.loop-rest.invariant.counted, c.first_line.ensures.shorter);
}

pub returns-in_default-clause-err : goal.returns-in_default-clause-err
returns-in_default-clause-err c = inr (c.requires, first_wrong _ _ _ _ _ _ _ c.loop-rest.invariant.far c.first_line.ensures.lines c.in_default.ensures.wrong)

pub returns-in-Err-clause-err : goal.returns-in-Err-clause-err
returns-in-Err-clause-err c = (c.requires, all_right _ _ _ _ _ (eqb-true _ _ (sym c.is_empty.ensures ∙ c.loop-rest-test.false)) c.loop-rest.invariant.far)

pub returns-in-Ok-clause-ok : goal.returns-in-Ok-clause-ok
returns-in-Ok-clause-ok c = script _ _ _ _ _ _ c.in-Ok.is c.requires (eqb-true _ _ (sym c.is_empty.ensures ∙ c.loop-rest-test.false)) c.loop-rest.invariant.far
