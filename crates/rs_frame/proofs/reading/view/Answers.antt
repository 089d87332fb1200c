use Rattle.std.proofs.Common.{arith, rules, Err}
use Rattle.rs_frame.proofs.Found.{found_is_rule, found_only, found_rule, found_spellable, found_spelled, none_only}
use Rattle.rs_frame.proofs.reading.view.Goals as goal

pub returns-in-Ok-clause-found : goal.returns-in-Ok-clause-found
returns-in-Ok-clause-found c = found_spelled c.args.bytes.now c.in-Ok.frame (λ i. omega (arith, c.type_inv.bytes i)) c.in-Ok.ensures

pub returns-in-Ok-clause-spellable : goal.returns-in-Ok-clause-spellable
returns-in-Ok-clause-spellable c = found_spellable c.args.bytes.now c.in-Ok.frame (λ i. omega (arith, c.type_inv.bytes i)) c.requires c.in-Ok.ensures

pub returns-in-Ok-clause-only : goal.returns-in-Ok-clause-only
returns-in-Ok-clause-only c f s = found_only c.args.bytes.now c.in-Ok.frame f s c.in-Ok.ensures

pub unwrap-requires : goal.unwrap-requires
unwrap-requires c = rw c.rule_number.ensures (found_is_rule c.args.bytes.now (Err c.in-Err.fault) c.in-Err.ensures)

pub returns-in-Err-clause-only : goal.returns-in-Err-clause-only
returns-in-Err-clause-only c f s = none_only c.args.bytes.now c.in-Err.fault f s c.in-Err.ensures

pub returns-in-Err-clause-rule : goal.returns-in-Err-clause-rule
returns-in-Err-clause-rule c = found_rule c.args.bytes.now c.in-Err.fault c.unwrap.result c.in-Err.ensures (search rules)
