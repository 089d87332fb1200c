use Rattle.std.proofs.Common.{◌≡◌, ◌∙◌, ◌++◌, ◌∷◌, [], ℕ, false, Option, Some, None, ap, subst, sym}
use Rattle.rtrb.specs.Ring.{received, sent}
use Rattle.tape.specs.declared.answer.Answer.{Answer}
use Rattle.tape.specs.declared.event.Event.TheVariants as event
use Rattle.conn_shared.specs.Members.{SharedId}
use Rattle.cable_script.specs.declared.line.Line.TheVariants as line
use Rattle.link_model.specs.Carrying.{Between}
use Rattle.carriers.specs.Moves.{HasTold}
use Rattle.threaded_client.specs.Carrying.{IsCarrying}
use Rattle.threaded_client.proofs.Answering.{idle_open, made_opened, none_joins}
use Rattle.threaded_client.proofs.Acting.{new_pump}
use Rattle.threaded_client.proofs.Carrying.{carrying_idle, carrying_opened, carrying_refused}
use Rattle.threaded_client.proofs.carrier.ClientCarrier.open.Goals as goal

pub returns-then-is_some-clause-kept : goal.returns-then-is_some-clause-kept
returns-then-is_some-clause-kept g c done k =
    let me = c.args.self.now in
    carrying_idle me.caller done me.pump line.Open (sent me.out) (received me.from) (idle_open me.pump (sym c.is_some.ensures ∙ c.if-is_some.true)) k

pub returns-in_default-clause-kept : goal.returns-in_default-clause-kept
returns-in_default-clause-kept g c done k =
    let me = c.args.self.now in
    let now = c.bring_opening.new.caller in
    let t = c.in_ok-conn.ensures.told in
    let none : me.pump ≡ None = none_joins me.pump (sym c.is_some.ensures ∙ c.if-is_some.false) in
    subst (λ (p : Option Between). IsCarrying now (done ++ line.Open ∷ []) p (sent me.out) (received me.from)) (sym none)
    (carrying_refused c.args.connection.now.settings me.caller now t.0 done (sent me.out) (received me.from) c.bring_opening.ensures.same t.2 (t.1 ∙ c.in_default.is)
    (subst (λ (p : Option Between). IsCarrying me.caller done p (sent me.out) (received me.from)) none k))

pub returns-clause-kept : goal.returns-clause-kept
returns-clause-kept g c done k =
    let me = c.args.self.now in
    let now = c.bring_opening.new.caller in
    let conn = c.in-Some.conn in
    let t = c.in_ok-conn.ensures.told in
    let none : me.pump ≡ None = none_joins me.pump (sym c.is_some.ensures ∙ c.if-is_some.false) in
    let most : c.max_in.result ≡ me.caller.of.settings.max_in = c.max_in.ensures.value ∙ ap (λ (o : SharedId). o.settings.max_in) (sym c.requires.of) in
    let pump : c.in_ok-pump_for.field-0 ≡ new_pump me.caller.of.settings conn = c.in_ok-pump_for.ensures ∙ ap (λ (n : ℕ). record { conn = conn; left = []; rest = []; max_in = n; bad = false }) most in
    subst (λ (b : Between). IsCarrying now (done ++ line.Open ∷ []) (Some b) (sent me.out) (received me.from)) (sym pump)
    (carrying_opened c.args.connection.now.settings me.caller now conn done (sent me.out) (received me.from) c.bring_opening.ensures.same
    (subst (λ (a : Answer). HasTold c.args.connection.now.settings me.caller now (event.Open None false) a) (made_opened t.0 conn (t.1 ∙ c.in-Some.is)) t.2)
    c.bring_opening.ensures.legal (subst (λ (p : Option Between). IsCarrying me.caller done p (sent me.out) (received me.from)) none k))
