use Rattle.std.proofs.Common.{◌≡◌, ◌+◌, ◌-◌, ◌≤◌, ◌<◌, length, drop, ap, sym, ◌∙◌, arith}
use Rattle.std.proofs.lemmas.List.{drop-drop}
use Rattle.outbox.specs.Spans.{bytes_from}
use Rattle.outbox.proofs.Pins.{PinsAt, pins, within_all}
use Rattle.outbox.proofs.stretch.advance.Goals as goal

pub overflow_add-place : goal.overflow_add-place
overflow_add-place c =
    let b = c.args.replay.now in
    omega (arith, c.requires.within, within_all b c.args.place.position c.requires.boundary, c.framed_total-all.ensures.value, c.framed_total-all.ensures.bound)

pub returns-then-alone-clause-boundary : goal.returns-then-alone-clause-boundary
returns-then-alone-clause-boundary c =
    let p = c.place_after-next.result.position in
    let at = c.place_after-next.ensures.boundary in
    (pins c.args.replay.now c.pin.new.self p p c.floor-floor.ensures.within at c.pin.ensures.readable c.pin.ensures.pin (omega arith) at).boundary

pub returns-then-alone-clause-pinned : goal.returns-then-alone-clause-pinned
returns-then-alone-clause-pinned c =
    let p = c.place_after-next.result.position in
    let at = c.place_after-next.ensures.boundary in
    (pins c.args.replay.now c.pin.new.self p p c.floor-floor.ensures.within at c.pin.ensures.readable c.pin.ensures.pin (omega arith) at).pinned

pub returns-then-alone-clause-inside : goal.returns-then-alone-clause-inside
returns-then-alone-clause-inside c =
    let p = c.place_after-next.result.position in
    let at = c.place_after-next.ensures.boundary in
    let k = pins c.args.replay.now c.pin.new.self p p c.floor-floor.ensures.within at c.pin.ensures.readable c.pin.ensures.pin (omega arith) at in
    omega (arith, ap length k.bytes, c.place_after-next.ensures.inside)

pub returns-then-alone-clause-bytes : goal.returns-then-alone-clause-bytes
returns-then-alone-clause-bytes c =
    let b = c.args.replay.now in
    let next = c.place_after-next.result in
    let at = c.place_after-next.ensures.boundary in
    let k = pins b c.pin.new.self next.position next.position c.floor-floor.ensures.within at c.pin.ensures.readable c.pin.ensures.pin (omega arith) at in
    let drawn = c.args.place.skip + c.args.count in
    let sum : (drawn - next.skip) + next.skip ≡ drawn = omega (arith, c.place_after-next.ensures.skip) in
    ap (drop next.skip) (k.bytes ∙ sym c.place_after-next.ensures.rest) ∙ drop-drop next.skip (drawn - next.skip) (bytes_from b c.args.place.position)
    ∙ ap (λ n. drop n (bytes_from b c.args.place.position)) sum
