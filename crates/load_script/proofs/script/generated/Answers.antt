use Rattle.std.proofs.Common.{List, ℕ, subst, sym}
use Rattle.cable_script.specs.Script.{IsScript}
use Rattle.load_script.specs.Generated.{generated}
use Rattle.load_script.proofs.Whole.{never_wrong}
use Rattle.load_script.proofs.script.generated.Goals as goal

pub returns-in-Ok : goal.returns-in-Ok
returns-in-Ok c =
    c.script_laws.ensures.one c.deref.result.now c.in-Ok.script (generated c.args.seed) c.in-Ok.ensures.ok
    (subst (λ (t : List ℕ). IsScript t (generated c.args.seed)) (sym c.deref.ensures.value) c.in_ok-text.ensures)

pub unreachable-requires : goal.unreachable-requires
unreachable-requires c =
    never_wrong c.deref.result.now (generated c.args.seed) c.in-Err-Line.field-0 c.in-Err-Line.field-0-0 c.script_laws.ensures.right
    (subst (λ (t : List ℕ). IsScript t (generated c.args.seed)) (sym c.deref.ensures.value) c.in_ok-text.ensures) c.in-Err-Line.field-0-is
    c.in-Err-Line.ensures.err
