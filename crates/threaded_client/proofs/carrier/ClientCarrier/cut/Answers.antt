use Rattle.std.proofs.Common.{◌≡◌, ◌++◌, ◌∷◌, [], ℕ, false, Option, Some, None, refl, subst, sym}
use Rattle.rtrb.specs.Ring.{received, sent}
use Rattle.ring.specs.declared.item.Mark.{Mark}
use Rattle.ring.specs.declared.item.Mark.TheVariants as mark
use Rattle.cable_script.specs.declared.line.Line.TheVariants as line
use Rattle.tape.specs.declared.event.Event.TheVariants as event
use Rattle.link_model.specs.Carrying.{Between}
use Rattle.carriers.specs.Moves.{HasLost, HasTold}
use Rattle.threaded_client.specs.Carrying.{IsCarrying}
use Rattle.threaded_client.proofs.Answering.{on_ok_one, plain_for, sound_conn}
use Rattle.threaded_client.proofs.Carrying.{carrying_cut, carrying_idle, carrying_marked}
use Rattle.threaded_client.proofs.carrier.ClientCarrier.cut.Goals as goal

pub returns-in_default-clause-kept : goal.returns-in_default-clause-kept
returns-in_default-clause-kept g c =
    let me = c.args.self.now in
    let none : me.pump ≡ None = c.in_default.is in
    on_ok_one c.push_mark.result (λ ok done k.
    subst (λ (p : Option Between). IsCarrying me.caller (done ++ line.Cut ∷ []) p (sent c.push_mark.new.out) (received me.from)) (sym none)
    (carrying_idle me.caller done None line.Cut (sent c.push_mark.new.out) (received me.from) refl
    (carrying_marked me.caller done None mark.Line (sent me.out) (sent c.push_mark.new.out) (received me.from) ok (plain_for false) (subst (λ (p : Option Between). IsCarrying me.caller done p (sent me.out) (received me.from)) none k)))) c.push_mark.ensures.ok

pub returns-clause-kept : goal.returns-clause-kept
returns-clause-kept g c =
    let me = c.args.self.now in
    let b = c.in-Some.pump in
    let some : me.pump ≡ Some b = c.in-Some.is in
    let conn : b.conn ≡ me.conn = sound_conn c.args.connection.now.settings me.conn me.pump b some c.requires.sound in
    on_ok_one c.is_cut.result (λ is done k.
    carrying_cut c.args.connection.now.settings me.caller c.tell.new.caller c.in_ok-tell.field-0 done b c.lose.new.pump (sent me.out) (sent c.push_mark-2.new.out) (received me.from) (received c.lose.new.from) c.tell.ensures.same
    (subst (λ (n : ℕ). HasTold c.args.connection.now.settings me.caller c.tell.new.caller (event.Cut n) c.in_ok-tell.field-0) (sym conn) c.in_ok-tell.ensures.told)
    c.in_ok-push_mark.ensures.ok (subst (λ (m : Mark). HasLost b c.lose.new.pump m (received me.from) (received c.lose.new.from)) is c.in_ok-mark.ensures.lost)
    (subst (λ (p : Option Between). IsCarrying me.caller done p (sent me.out) (received me.from)) some k)) c.is_cut.ensures
