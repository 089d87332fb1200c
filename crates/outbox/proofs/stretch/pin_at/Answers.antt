use Rattle.std.proofs.Common.{◌≡◌, ◌≤◌, ◌∙◌, inl, arith}
use Rattle.outbox.proofs.Pins.{PinsAt, can_read, floor_goes, floor_start, pins}
use Rattle.outbox.proofs.stretch.pin_at.Goals as goal

pub returns-then-alone-clause-boundary : goal.returns-then-alone-clause-boundary
returns-then-alone-clause-boundary c =
    let b = c.args.replay.now in
    let at = can_read b c.args.position c.floor-floor.ensures.within c.requires in
    (pins b c.pin.new.self c.args.position c.args.position c.floor-floor.ensures.within at c.pin.ensures.readable c.pin.ensures.pin (omega arith) at).boundary

pub returns-then-alone-clause-pinned : goal.returns-then-alone-clause-pinned
returns-then-alone-clause-pinned c =
    let b = c.args.replay.now in
    let at = can_read b c.args.position c.floor-floor.ensures.within c.requires in
    (pins b c.pin.new.self c.args.position c.args.position c.floor-floor.ensures.within at c.pin.ensures.readable c.pin.ensures.pin (omega arith) at).pinned

pub returns-then-alone-clause-bytes : goal.returns-then-alone-clause-bytes
returns-then-alone-clause-bytes c =
    let b = c.args.replay.now in
    let at = can_read b c.args.position c.floor-floor.ensures.within c.requires in
    (pins b c.pin.new.self c.args.position c.args.position c.floor-floor.ensures.within at c.pin.ensures.readable c.pin.ensures.pin (omega arith) at).bytes
    ∙ c.framed_len-count.ensures.held c.requires

pub pin-requires-2 : goal.pin-requires-2
pin-requires-2 c = inl (floor_start c.args.replay.now c.floor-floor.result c.floor-floor.ensures.value)

pub returns-clause-boundary : goal.returns-clause-boundary
returns-clause-boundary c =
    let b = c.args.replay.now in
    let at = can_read b c.args.position c.floor-floor.ensures.within c.requires in
    let start = floor_start b c.floor-floor.result c.floor-floor.ensures.value in
    (pins b c.pin-2.new.self c.floor-floor.result c.args.position c.floor-floor.ensures.within start c.pin-2.ensures.readable c.pin-2.ensures.pin (omega (arith, c.floor-floor.ensures.value, at.0)) at).boundary

pub returns-clause-pinned : goal.returns-clause-pinned
returns-clause-pinned c =
    let b = c.args.replay.now in
    let at = can_read b c.args.position c.floor-floor.ensures.within c.requires in
    let start = floor_start b c.floor-floor.result c.floor-floor.ensures.value in
    (pins b c.pin-2.new.self c.floor-floor.result c.args.position c.floor-floor.ensures.within start c.pin-2.ensures.readable c.pin-2.ensures.pin (omega (arith, c.floor-floor.ensures.value, at.0)) at).pinned

pub returns-clause-bytes : goal.returns-clause-bytes
returns-clause-bytes c =
    let b = c.args.replay.now in
    let at = can_read b c.args.position c.floor-floor.ensures.within c.requires in
    let start = floor_start b c.floor-floor.result c.floor-floor.ensures.value in
    (pins b c.pin-2.new.self c.floor-floor.result c.args.position c.floor-floor.ensures.within start c.pin-2.ensures.readable c.pin-2.ensures.pin (omega (arith, c.floor-floor.ensures.value, at.0)) at).bytes
    ∙ c.framed_len-count.ensures.held c.requires

pub returns-clause-goes : goal.returns-clause-goes
returns-clause-goes c = λ alone.
    floor_goes c.args.replay.now c.pin-2.new.self c.floor-floor.result c.floor-floor.ensures.within c.floor-floor.ensures.value c.pin-2.ensures.readable c.pin-2.ensures.pin
