use Rattle.std.proofs.Common.{ap, ◌++◌, List, ℕ, sym, ◌∙◌, append-nil}
use Rattle.load_script.proofs.Lines.{items_on, no_items}
use Rattle.load_script.proofs.writing.put_items.Goals as goal

pub loop-i-init : goal.loop-i-init
loop-i-init c = sym (ap (λ (t : List ℕ). c.args.out.now.items ++ t) (no_items c.args.seed) ∙ append-nil c.args.out.now.items)

pub loop-i-preserved : goal.loop-i-preserved
loop-i-preserved c =
    items_on c.loop-i.out.items c.put_item.new.out.items c.args.out.now.items c.args.seed c.loop-i.i c.loop-i.invariant c.in_ok-put_item.ensures
