use Rattle.std.proofs.Common.{◌<◌, ◌^◌, refl, subst, sym}
use Rattle.stream_model.specs.Arriving.{no_message, or_zero, ours}
use Rattle.rs_wire.specs.declared.words.Role.TheVariants.{Requester}
use Rattle.interactions.proofs.Standing.{not_fnf, requested_stands}
use Rattle.interactions.proofs.parts.Parts.request.Goals as goal

pub begin_own-requires-clause-live : goal.begin_own-requires-clause-live
begin_own-requires-clause-live c = λ d.
    let is = c.begun-begun.ensures.first (ours c.args.kind c.args.initial no_message c.args.complete) refl refl (sym c.number_of.ensures.number) refl in
    c.requires.live (not_fnf Requester c.args.kind (or_zero c.args.initial) (no_message, c.args.complete) c.begun-begun.result is d)

pub returns-clause-stands : goal.returns-clause-stands
returns-clause-stands c = λ message seen h.
    let is = c.begun-begun.ensures.first (ours c.args.kind c.args.initial message c.args.complete) refl refl (sym c.number_of.ensures.number) refl in
    requested_stands c.args.self.now c.begin_own.new.self seen c.in-Some.stream c.args.kind c.args.initial message c.args.complete c.begun-begun.result c.begin_own.ensures.limits
    c.in-Some.ensures.new.1 (subst (λ n. n < 2 ^ 31) c.number_of.ensures.number c.number_of.ensures.within) c.requires.live is c.begin_own.ensures.begins h
