use Rattle.std.proofs.Common.{◌≡◌, List, ℕ, OnOk, subst}
use Rattle.load_script.proofs.Lines.{all_written}
use Rattle.load_script.proofs.writing.put_script.Goals as goal

pub returns : goal.returns
returns c =
    subst (λ (t : List ℕ). OnOk c.put_last.result (c.put_last.new.out.items ≡ t))
    (all_written c.args.seed c.args.out.now.items c.put_first.new.out.items c.put_items.new.out.items c.in_ok-put_first.ensures
    c.in_ok-put_items.ensures) c.put_last.ensures
