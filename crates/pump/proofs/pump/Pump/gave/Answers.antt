use Rattle.std.proofs.Common.{◌≡◌, ◌∙◌, ◌++◌, ap, refl, subst, sym, append-nil}
use Rattle.link_model.specs.Carrying.{Between}
use Rattle.link_model.proofs.Kept.{keeps_give}
use Rattle.pump.specs.Halves.{and_given}
use Rattle.pump.specs.Turns.{IsKept, has}
use Rattle.pump.proofs.Keeping.{kept_moved}
use Rattle.pump.proofs.pump.Pump.gave.Goals as goal

pub returns-clause-kept : goal.returns-clause-kept
returns-clause-kept c me s k =
    let p : Between = has c.self.inside.inner in
    let q : Between = record p { left = c.clear.new.self } in
    let before : IsKept me s p = subst (IsKept me s) (sym c.self.view_is) k in
    let all : p.left ≡ p.left ++ c.clear.new.self = sym (append-nil p.left) ∙ ap (λ l. p.left ++ l) (sym c.clear.ensures) in
    subst (λ (b : Between). IsKept me (and_given s b.left) q) c.self.view_is (kept_moved me s (and_given s p.left) p q refl (λ g past kept. keeps_give g past s (and_given s p.left) p p.left c.clear.new.self all refl refl kept) before)
