use Rattle.std.proofs.Common.{◌≡◌, List, ℕ, subst, sym}
use Rattle.cable_script.specs.Script.{IsScript}
use Rattle.load_script.specs.Generated.{generated}
use Rattle.load_script.specs.Texts.{text_of_script}
use Rattle.load_script.proofs.Whole.{is_script}
use Rattle.load_script.proofs.script.generated_text.Goals as goal

pub returns : goal.returns
returns c =
    let written : c.put_script.new.out.items ≡ text_of_script (generated c.args.seed) = cc (c.in_ok-put_script.ensures, c.new-text.ensures.items) in
    subst (λ (t : List ℕ). IsScript t (generated c.args.seed)) (sym written) (is_script c.args.seed)
