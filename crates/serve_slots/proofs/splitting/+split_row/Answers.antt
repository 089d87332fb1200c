use Rattle.std.proofs.Common.{◌∷◌, [], List, sym, subst, append-nil}
use Rattle.conn_shared.specs.Members.{Knowledge}
use Rattle.serve_slots.specs.Callers.{AreSplit}
use Rattle.serve_slots.proofs.Lists.{unsplit, unsplit_by}
use Rattle.serve_slots.proofs.splitting.+split_row.Goals as goal

pub returns-in_default-clause-split : goal.returns-in_default-clause-split
returns-in_default-clause-split g t c = ([], sym (append-nil c.args.row.now.items), unsplit c.args.mains.now)

pub returns-in_default-split-clause-split : goal.returns-in_default-split-clause-split
returns-in_default-split-clause-split g t c =
    let m = c.in-Some-split_first_mut.main.now in
    let ms = c.in-Some-split_first_mut.mains.now in
    let n = c.split.new.caller in
    ([], sym (append-nil c.args.row.now.items), subst (λ (xs : List Knowledge). AreSplit xs [] (n ∷ ms)) (sym c.in-Some-split_first_mut.ensures.cases.0) (unsplit_by m n c.split.ensures.same c.in_default-split.ensures.kept, unsplit ms))
