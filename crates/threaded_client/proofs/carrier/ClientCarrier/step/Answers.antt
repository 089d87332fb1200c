use Rattle.std.proofs.Common.{subst, sym}
use Rattle.rtrb.specs.Ring.{received, sent}
use Rattle.ring.specs.declared.item.Mark.{Mark}
use Rattle.carriers.proofs.Items.{IsPlain}
use Rattle.threaded_client.proofs.Answering.{on_ok_one, plain_for}
use Rattle.threaded_client.proofs.Carrying.{carrying_marked}
use Rattle.threaded_client.proofs.carrier.ClientCarrier.step.Goals as goal

pub returns-clause-kept : goal.returns-clause-kept
returns-clause-kept g c =
    let me = c.args.self.now in
    on_ok_one c.push_mark.result (λ ok done k.
    carrying_marked me.caller done me.pump c.mark_of.result (sent me.out) (sent c.push_mark.new.out) (received me.from) ok (subst (λ (m : Mark). IsPlain m) (sym c.mark_of.ensures) (plain_for c.args.more)) k) c.push_mark.ensures.ok
