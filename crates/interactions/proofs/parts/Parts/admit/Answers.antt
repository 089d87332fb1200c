use Rattle.std.proofs.Common.{◌≡◌, ◌∷◌, ◌++◌, ◌&&◌, [], None, Some, ap, refl, rules, subst, sym, option_to_list, ◌∙◌, Bool, is_some}
use Rattle.rs_wire.specs.declared.words.Role.TheVariants.{Responder}
use Rattle.rs_wire.specs.declared.message.Message.{Message}
use Rattle.rs_wire.specs.declared.delivery.Job.TheVariants as job
use Rattle.stream_model.specs.Turns.{delivered_first}
use Rattle.stream_model.specs.Streams.{if_amount}
use Rattle.stream_model.specs.Kept.{requested, unless_done}
use Rattle.stream_model.specs.Arriving.{theirs}
use Rattle.interactions.specs.Waiting.{waits_at}
use Rattle.interactions.specs.Stands.{Begins, known_of}
use Rattle.interactions.specs.Next.{opened_jobs}
use Rattle.interactions.proofs.Standing.{begins_as, no_first, not_fnf}
use Rattle.interactions.proofs.parts.Parts.admit.Goals as goal

pub begin-requires-in-Some-clause-live : goal.begin-requires-in-Some-clause-live
begin-requires-in-Some-clause-live c = λ d.
    let m : Message × Bool = (c.in-Some.message, c.in-Some.complete) in
    let is = c.begun-begun-in-Some.ensures.first (record { role = Responder; kind = c.args.kind; initial = c.args.first; whole = Some m }) refl refl refl refl in
    let fnf = not_fnf Responder c.args.kind c.args.first m c.begun-begun-in-Some.result is d in
    c.requires.live (ap (λ b. b && is_some c.args.whole) fnf)

pub returns-in-None-clause-begins : goal.returns-in-None-clause-begins
returns-in-None-clause-begins c = λ initial n.
    let o = theirs c.args.kind initial None in
    let is = c.begun-begun.ensures.first o refl refl n refl in
    subst (λ whole. Begins (known_of c.args.self.now) (known_of c.begin.new.self) c.args.stream (unless_done (requested (theirs c.args.kind initial whole))) (waits_at c.args.self.now.waits c.args.stream ++ delivered_first (theirs c.args.kind initial whole)) (opened_jobs c.args.stream (theirs c.args.kind initial whole)))
    (sym c.in-None.is)
    (begins_as _ _ c.args.stream c.begun-begun.result (requested o) (waits_at c.args.self.now.waits c.args.stream) [] (delivered_first o) [] [] is (no_first c.args.kind initial) refl c.begin.ensures.begins)

pub returns-in-Some-clause-begins : goal.returns-in-Some-clause-begins
returns-in-Some-clause-begins c = λ initial n.
    let m : Message × Bool = (c.in-Some.message, c.in-Some.complete) in
    let o = theirs c.args.kind initial (Some m) in
    let amount : c.of.result ≡ if_amount c.args.first = search rules in
    let is = c.begun-begun-in-Some.ensures.first o refl refl n refl in
    subst (λ whole. Begins (known_of c.args.self.now) (known_of c.begin-in-Some.new.self) c.args.stream (unless_done (requested (theirs c.args.kind initial whole))) (waits_at c.args.self.now.waits c.args.stream ++ delivered_first (theirs c.args.kind initial whole)) (opened_jobs c.args.stream (theirs c.args.kind initial whole)))
    (sym c.in-Some.is)
    (begins_as _ _ c.args.stream c.begun-begun-in-Some.result (requested o) (waits_at c.args.self.now.waits c.args.stream) (option_to_list c.first_end.result) (delivered_first o) _ (opened_jobs c.args.stream o) is (c.first_end.ensures initial c.in-Some.message)
    (ap (λ a. job.Asked c.args.stream c.args.kind a c.in-Some.message c.in-Some.complete ∷ []) (amount ∙ ap if_amount (sym n))) c.begin-in-Some.ensures.begins)
