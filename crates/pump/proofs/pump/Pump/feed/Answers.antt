use Rattle.std.proofs.Common.{◌∙◌, refl, subst, sym, true≢false}
use Rattle.link_model.specs.Carrying.{Between}
use Rattle.link_model.proofs.Kept.{keeps_take}
use Rattle.pump.specs.Halves.{and_taken}
use Rattle.pump.specs.Moves.{all_of}
use Rattle.pump.specs.Turns.{IsKept, has}
use Rattle.pump.proofs.Keeping.{kept_moved}
use Rattle.pump.proofs.pump.Pump.feed.Goals as goal

pub returns-then-self-clause-kept : goal.returns-then-self-clause-kept
returns-then-self-clause-kept c me s k =
    let p : Between = has c.self.inside.inner in
    let before : IsKept me s p = subst (IsKept me s) (sym c.self.view_is) k in
    subst (IsKept me (and_taken s c.args.piece.now)) c.self.view_is (kept_moved me s (and_taken s c.args.piece.now) p p refl (λ g past kept. keeps_take g past s (and_taken s c.args.piece.now) p c.args.piece.now p.rest (λ good. absurd (true≢false (sym c.if-self.true ∙ good))) refl refl kept) before)

pub returns-clause-kept : goal.returns-clause-kept
returns-clause-kept c me s k =
    let p : Between = has c.self.inside.inner in
    let q : Between = record p { rest = all_of c.append.new.self } in
    let before : IsKept me s p = subst (IsKept me s) (sym c.self.view_is) k in
    let now : IsKept me (and_taken s c.args.piece.now) q = kept_moved me s (and_taken s c.args.piece.now) p q refl (λ g past kept. keeps_take g past s (and_taken s c.args.piece.now) p c.args.piece.now (all_of c.append.new.self) (λ good. c.in_ok-append.ensures.ok) refl refl kept) before in
    subst (λ m. IsKept me (and_taken s c.args.piece.now) (record q { max_in = m })) (sym c.append.ensures.max_in) now
