use Rattle.std.proofs.Common.{◌≡◌, ap, sym, ◌∙◌, length}
use Rattle.outbox.specs.Line.{Line, own_in}
use Rattle.outbox.proofs.Pins.{released_goes}
use Rattle.outbox.proofs.Spanned.{SameAll, all_go, shut}
use Rattle.outbox.proofs.spans.Spans.release.Goals as goal

pub invariant_of-self : goal.invariant_of-self
invariant_of-self c =
    let b = c.self.inside.replay in
    let goes = released_goes b c.release.new.self c.args.position c.floor-floor.ensures.within c.release.ensures.held c.release.ensures.readable c.release.ensures.pin in
    let s = all_go b c.release.new.self c.self.inside.stretches.items goes c.self.invariant.each in
    record { each = s.each; own = c.self.invariant.own ∙ ap own_in (sym s.bytes); all = c.self.invariant.all ∙ ap length (sym s.bytes); reaches = shut }

pub returns-clause-rest : goal.returns-clause-rest
returns-clause-rest c =
    let b = c.self.inside.replay in
    let goes = released_goes b c.release.new.self c.args.position c.floor-floor.ensures.within c.release.ensures.held c.release.ensures.readable c.release.ensures.pin in
    let s = all_go b c.release.new.self c.self.inside.stretches.items goes c.self.invariant.each in
    let view = c.self.view_is in
    λ i. record {
      bytes = (s.bytes ∙ ap (λ (l : Line). l.bytes) view) i;
      held = c.release.new.self.held;
      spare = (c.release.ensures.spare ∙ ap (λ (l : Line). l.spare) view) i;
      room = (view i).room;
    }
