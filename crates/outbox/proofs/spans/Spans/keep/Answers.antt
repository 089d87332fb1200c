use Rattle.std.proofs.Common.{◌≡◌, ◌+◌, ◌-◌, ap, sym, subst, ◌∙◌, length}
use Rattle.replay_buffer.specs.Held.{IsHeldOf, end_of, with_newest}
use Rattle.outbox.specs.Line.{Line, own_in}
use Rattle.outbox.proofs.Pins.{kept_goes, kept_is}
use Rattle.outbox.proofs.Spanned.{SameAll, all_go, shut}
use Rattle.outbox.proofs.spans.Spans.keep.Goals as goal

pub invariant_of-self : goal.invariant_of-self
invariant_of-self c =
    let b = c.self.inside.replay in
    let all = with_newest b.held c.args.frame.now in
    let goes = kept_is b c.keep.new.self c.args.frame.now (kept_goes b c.keep.new.self c.args.frame.now (end_of all - all.hold) c.floor-floor.ensures.within c.keep.ensures.held c.keep.ensures.readable c.keep.ensures.pin) in
    let s = all_go b c.keep.new.self c.self.inside.stretches.items goes c.self.invariant.each in
    record { each = s.each; own = c.self.invariant.own ∙ ap own_in (sym s.bytes); all = c.self.invariant.all ∙ ap length (sym s.bytes); reaches = shut }

pub returns-clause-of_made : goal.returns-clause-of_made
returns-clause-of_made c = λ made told newest is up_to spelled.
    c.keep.ensures.of_made made told newest (subst (λ (l : Line). IsHeldOf made told l.held) (sym c.self.view_is) is) up_to spelled

pub returns-clause-bytes : goal.returns-clause-bytes
returns-clause-bytes c =
    let b = c.self.inside.replay in
    let all = with_newest b.held c.args.frame.now in
    let goes = kept_is b c.keep.new.self c.args.frame.now (kept_goes b c.keep.new.self c.args.frame.now (end_of all - all.hold) c.floor-floor.ensures.within c.keep.ensures.held c.keep.ensures.readable c.keep.ensures.pin) in
    (all_go b c.keep.new.self c.self.inside.stretches.items goes c.self.invariant.each).bytes ∙ ap (λ (l : Line). l.bytes) c.self.view_is
