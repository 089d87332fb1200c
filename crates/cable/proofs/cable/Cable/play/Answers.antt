use Rattle.std.proofs.Common.{◌≡◌, ◌==◌, ◌∙◌, OnOk, length, true, subst, sym, arith}
use Rattle.std.proofs.lemmas.Bool.Decides.{nat_tests}
use Rattle.cable.specs.Played.{Ends, PlaysLines, Sides, begins, nothing}
use Rattle.cable.specs.Wires.{Reaches, sides_of}
use Rattle.cable.proofs.Rounds.{sides_kept}
use Rattle.cable.proofs.Playing.{begins_opened, played_none}
use Rattle.cable.proofs.cable.Cable.play.Goals as goal

pub returns-then-is_empty-clause-played : goal.returns-then-is_empty-clause-played
returns-then-is_empty-clause-played g c =
    let is : (length c.args.lines.now == 0) ≡ true = sym c.is_empty.ensures ∙ c.if-is_empty.true in
    let none : length c.args.lines.now ≡ 0 = grind (arith, nat_tests) in
    played_none c.args.self.now c.args.lines.now none c.requires.at

pub returns-clause-played : goal.returns-clause-played
returns-clause-played g c =
    let v = c.args.self.now in
    let u = c.open.new.self in
    let lines = c.args.lines.now in
    let b = c.in_ok-open.ensures.played nothing c.requires.at in
    let begun = b.holds ∙ sym (begins_opened (sides_of v) lines (sym c.is_empty.ensures ∙ c.if-is_empty.false)) in
    subst (λ (s : Sides). OnOk c.all.result (Reaches c.all.new.self (PlaysLines s lines (begins (sides_of v) lines)))) (sides_kept v u c.open.ensures.ends)
    (subst (λ (r : Ends). OnOk c.all.result (Reaches c.all.new.self (PlaysLines (sides_of u) lines r))) begun (c.all.ensures.played b.ends b.at))
