use Rattle.std.proofs.Common.{◌≡◌, ◌++◌, List, ℕ, OnOk, subst}
use Rattle.load_script.proofs.Lines.{of_client, of_server}
use Rattle.load_script.proofs.writing.put_item_line.Goals as goal

pub returns-then-i-eq0 : goal.returns-then-i-eq0
returns-then-i-eq0 c =
    subst (λ (t : List ℕ). OnOk c.put_line.result (c.put_line.new.out.items ≡ c.args.out.now.items ++ t))
    (of_server c.args.seed c.args.i c.item_size.result c.if-i-eq0.true c.item_size.ensures) c.put_line.ensures

pub returns-else-i-eq0 : goal.returns-else-i-eq0
returns-else-i-eq0 c =
    subst (λ (t : List ℕ). OnOk c.put_line-else-i-eq0.result (c.put_line-else-i-eq0.new.out.items ≡ c.args.out.now.items ++ t))
    (of_client c.args.seed c.args.i c.item_size-else-i-eq0.result c.if-i-eq0.false c.item_size-else-i-eq0.ensures) c.put_line-else-i-eq0.ensures
