use Rattle.std.proofs.Common.{Option, subst, sym}
use Rattle.rtrb.specs.Ring.{received, sent}
use Rattle.ring.specs.declared.item.Mark.{Mark}
use Rattle.link_model.specs.Carrying.{Between}
use Rattle.carriers.proofs.Items.{IsPlain}
use Rattle.threaded_client.specs.Carrying.{IsAny, IsCarrying}
use Rattle.threaded_client.proofs.Answering.{if_ok, on_ok, plain_for}
use Rattle.threaded_client.proofs.Carrying.{carrying_skipped, carrying_taken}
use Rattle.pump.specs.Turns.{Arrives}
use Rattle.pump.proofs.Adding.{goes_as, goes_none}
use Rattle.threaded_client.proofs.carrier.ClientCarrier.down.Goals as goal

pub returns-in_ok-skip-in-None-clause-kept : goal.returns-in_ok-skip-in-None-clause-kept
returns-in_ok-skip-in-None-clause-kept g c =
    let me = c.args.self.now in
    if_ok c.is_more.result (λ more is done k.
    carrying_skipped me.caller done me.pump c.in_ok-skip-in-None.field-0 (sent me.out) (received me.from) (received c.skip.new.from) c.in_ok-skip-in-None.ensures.ok (subst (λ (m : Mark). IsPlain m) (sym is) (plain_for more)) k) c.is_more.ensures

pub returns-then-heard-clause-kept : goal.returns-then-heard-clause-kept
returns-then-heard-clause-kept g c done k =
    let me = c.args.self.now in
    carrying_taken me.caller c.take.new.caller done c.in-Some.pump c.take.new.pump c.in_ok-heard-in-Some.heard.mark (sent me.out) (received me.from) (received c.take.new.from) c.take.ensures.same c.in_ok-heard-in-Some.ensures.took
    (subst (λ (m : Mark). IsPlain m) (sym c.in_ok-more-in-Some.ensures) (plain_for c.in_ok-more-in-Some.more)) (subst (λ (p : Option Between). IsCarrying me.caller done p (sent me.out) (received me.from)) c.in-Some.is k)

pub returns-else-heard-clause-kept : goal.returns-else-heard-clause-kept
returns-else-heard-clause-kept g c done k =
    let me = c.args.self.now in
    carrying_taken me.caller c.take.new.caller done c.in-Some.pump c.take.new.pump c.in_ok-heard-in-Some.heard.mark (sent me.out) (received me.from) (received c.take.new.from) c.take.ensures.same c.in_ok-heard-in-Some.ensures.took
    (subst (λ (m : Mark). IsPlain m) (sym c.in_ok-more-in-Some.ensures) (plain_for c.in_ok-more-in-Some.more)) (subst (λ (p : Option Between). IsCarrying me.caller done p (sent me.out) (received me.from)) c.in-Some.is k)

pub returns-in_ok-skip-in-None-clause-goes : goal.returns-in_ok-skip-in-None-clause-goes
returns-in_ok-skip-in-None-clause-goes g c = on_ok c.is_more.result (goes_none IsAny c.args.self.now.caller)

pub returns-then-heard-clause-goes : goal.returns-then-heard-clause-goes
returns-then-heard-clause-goes g c = goes_as (Arrives c.in-Some.pump.conn) IsAny c.args.self.now.caller c.take.new.caller.front (λ e came. tt) c.in_ok-heard-in-Some.ensures.took.goes

pub returns-else-heard-clause-goes : goal.returns-else-heard-clause-goes
returns-else-heard-clause-goes g c = goes_as (Arrives c.in-Some.pump.conn) IsAny c.args.self.now.caller c.take.new.caller.front (λ e came. tt) c.in_ok-heard-in-Some.ensures.took.goes
