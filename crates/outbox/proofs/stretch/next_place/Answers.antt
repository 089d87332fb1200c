use Rattle.std.proofs.Common.{◌≡◌, ◌≤◌, sym, subst, inr, arith}
use Rattle.replay_buffer.specs.Held.{IsHeldBoundary, IsReadable}
use Rattle.outbox.specs.Spans.{IsPinned}
use Rattle.outbox.proofs.Pins.{can_read, end_is, pinned_end, pins}
use Rattle.outbox.proofs.stretch.next_place.Goals as goal

pub pin-requires : goal.pin-requires
pin-requires c = inr (subst (IsHeldBoundary c.args.replay.now.held) (sym c.end-position.ensures.value) (end_is c.args.replay.now.held))

pub framed_len-skip-requires : goal.framed_len-skip-requires
framed_len-skip-requires c =
    let at = subst (IsHeldBoundary c.args.replay.now.held) (sym c.end-position.ensures.value) (end_is c.args.replay.now.held) in
    inr (subst (λ h. IsHeldBoundary h c.end-position.result) (sym c.pin.ensures.held) at)

pub returns-then-alone-clause-boundary : goal.returns-then-alone-clause-boundary
returns-then-alone-clause-boundary c =
    let b = c.args.replay.now in
    let p = c.end-position.result in
    let at = can_read b p c.floor-floor.ensures.within (subst (IsHeldBoundary b.held) (sym c.end-position.ensures.value) (end_is b.held)) in
    (pins b c.pin.new.self p p c.floor-floor.ensures.within at c.pin.ensures.readable c.pin.ensures.pin (omega arith) at).boundary

pub returns-then-alone-clause-pinned : goal.returns-then-alone-clause-pinned
returns-then-alone-clause-pinned c =
    let b = c.args.replay.now in
    let p = c.end-position.result in
    let at = can_read b p c.floor-floor.ensures.within (subst (IsHeldBoundary b.held) (sym c.end-position.ensures.value) (end_is b.held)) in
    (pins b c.pin.new.self p p c.floor-floor.ensures.within at c.pin.ensures.readable c.pin.ensures.pin (omega arith) at).pinned

pub framed_len-skip-requires-2 : goal.framed_len-skip-requires-2
framed_len-skip-requires-2 c = inr (subst (IsHeldBoundary c.args.replay.now.held) (sym c.end-position.ensures.value) (end_is c.args.replay.now.held))

pub returns-clause-boundary : goal.returns-clause-boundary
returns-clause-boundary c =
    let b = c.args.replay.now in
    can_read b c.end-position.result c.floor-floor.ensures.within (subst (IsHeldBoundary b.held) (sym c.end-position.ensures.value) (end_is b.held))

pub returns-clause-pinned : goal.returns-clause-pinned
returns-clause-pinned c =
    let b = c.args.replay.now in
    let some = c.requires c.if-alone.false in
    subst (IsPinned b) (sym c.end-position.ensures.value) (pinned_end b some.0 c.floor-floor.ensures.within some.1)
