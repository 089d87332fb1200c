use Rattle.std.proofs.Common.{◌≡◌, refl, ap, subst, arith}
use Rattle.replay_buffer.specs.Held.{lesser}
use Rattle.replay_buffer.specs.Stored.{Stored, IsTrimmed}
use Rattle.replay_buffer.proofs.Boundaries.{not_none}
use Rattle.replay_buffer.proofs.Passed.{forgets, pinned_still, stays, trimmed}
use Rattle.replay_buffer.proofs.passing.forget_unpinned.Goals as goal

pub returns-then-floor-low-clause-all : goal.returns-then-floor-low-clause-all
returns-then-floor-low-clause-all c =
    let s = stays c.args.store.now c.args.pin c.first-first.result c.lesser-low.result c.first-first.ensures.value c.first-first.ensures.low c.lesser-low.ensures c.requires in
    rw (← s.is) (trimmed _ _ c.lesser-low.result (record { same = refl; start = s.start; frames = refl }) (omega (arith, c.floor.ensures.value, c.if-floor-low.true)) c.floor.ensures.within (λ all. c.floor.ensures.none (omega (arith, all, c.floor.ensures.value))))

pub returns-then-low-first-clause-all : goal.returns-then-low-first-clause-all
returns-then-low-first-clause-all c =
    let v = c.args.store.now in
    let s = stays v c.args.pin c.first-first.result c.lesser-low.result c.first-first.ensures.value c.first-first.ensures.low c.lesser-low.ensures c.requires in
    let here : v.first ≡ lesser c.args.pin v.first = omega (arith, s.is, c.if-low-first.true, c.first-first.ensures.value) in
    subst (IsTrimmed v c.forget_passed.new.self) here c.forget_passed.ensures

pub returns-then-low-first-clause-pinned : goal.returns-then-low-first-clause-pinned
returns-then-low-first-clause-pinned c =
    let v = c.args.store.now in
    let s = stays v c.args.pin c.first-first.result c.lesser-low.result c.first-first.ensures.value c.first-first.ensures.low c.lesser-low.ensures c.requires in
    let here : v.first ≡ c.lesser-low.result = omega (arith, c.if-low-first.true, c.first-first.ensures.value) in
    pinned_still v c.forget_passed.new.self c.args.pin c.lesser-low.result s.is s.start (subst (IsTrimmed v c.forget_passed.new.self) here c.forget_passed.ensures) c.requires

pub loop-store-init : goal.loop-store-init
loop-store-init c =
    let s = stays c.args.store.now c.args.pin c.first-first.result c.lesser-low.result c.first-first.ensures.value c.first-first.ensures.low c.lesser-low.ensures c.requires in
    record { same = refl; start = s.start; frames = refl }

pub forget_oldest-requires : goal.forget_oldest-requires
forget_oldest-requires c =
    let s = stays c.args.store.now c.args.pin c.first-first.result c.lesser-low.result c.first-first.ensures.value c.first-first.ensures.low c.lesser-low.ensures c.requires in
    let first = ap (λ (v : Stored). v.first) c.loop-store.invariant.same in
    not_none c.loop-store.store.below (omega (arith, first, s.le))

pub loop-store-preserved : goal.loop-store-preserved
loop-store-preserved c =
    let s = stays c.args.store.now c.args.pin c.first-first.result c.lesser-low.result c.first-first.ensures.value c.first-first.ensures.low c.lesser-low.ensures c.requires in
    let first = ap (λ (v : Stored). v.first) c.loop-store.invariant.same in
    forgets _ _ _ _ c.loop-store.invariant (omega arith) (omega (arith, first, s.le)) c.floor-in-loop-store.ensures.within c.forget_oldest.ensures.forgotten

pub returns : goal.returns
returns c =
    let s = stays c.args.store.now c.args.pin c.first-first.result c.lesser-low.result c.first-first.ensures.value c.first-first.ensures.low c.lesser-low.ensures c.requires in
    let done = trimmed _ _ c.lesser-low.result c.loop-store.invariant (omega arith) c.floor-in-loop-store.ensures.within (λ all. c.floor-in-loop-store.ensures.none (omega (arith, all))) in
    record {
      all = rw (← s.is) done;
      pinned = pinned_still _ _ c.args.pin c.lesser-low.result s.is s.start done c.requires;
    }
