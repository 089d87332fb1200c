use Rattle.std.proofs.Common.{◌≤◌, ℕ, List, length, subst, take, arith}
use Rattle.std.proofs.lemmas.List.{take_all}
use Rattle.session_core.specs.Kept.{KeepsAll}
use Rattle.session_core.proofs.Keeping.{keeping_none, keeping_step, next_below, next_fits, next_kept, next_long}
use Rattle.session_core.proofs.kept.keep_all.Goals as goal

pub loop-frame-init : goal.loop-frame-init
loop-frame-init c = keeping_none c.args.outbox.now

pub keep-requires-clause-spare : goal.keep-requires-clause-spare
keep-requires-clause-spare c =
    rw c.as_slice.ensures (next_fits c.args.outbox.now c.loop-frame.outbox c.args.frames.now c.loop-frame.frame-index c.frame-item.result c.loop-frame-test.true c.frame-item.is c.loop-frame.invariant c.requires.spare)

pub keep-requires-clause-shortest : goal.keep-requires-clause-shortest
keep-requires-clause-shortest c = rw c.as_slice.ensures (next_long c.args.frames.now c.loop-frame.frame-index c.frame-item.result c.requires.long c.loop-frame-test.true c.frame-item.is).0

pub keep-requires-clause-longest : goal.keep-requires-clause-longest
keep-requires-clause-longest c = rw c.as_slice.ensures (next_long c.args.frames.now c.loop-frame.frame-index c.frame-item.result c.requires.long c.loop-frame-test.true c.frame-item.is).1

pub keep-requires-clause-top : goal.keep-requires-clause-top
keep-requires-clause-top c =
    rw c.as_slice.ensures (next_below c.args.outbox.now c.loop-frame.outbox c.args.frames.now c.loop-frame.frame-index c.frame-item.result c.loop-frame-test.true c.frame-item.is c.loop-frame.invariant c.requires.top)

pub loop-frame-preserved : goal.loop-frame-preserved
loop-frame-preserved c =
    let old = c.args.outbox.now in
    let now = c.loop-frame.outbox in
    let new = c.keep.new.self in
    let frames = c.args.frames.now in
    let i = c.loop-frame.frame-index in
    let f = c.frame-item.result in
    next_kept old now new frames i f c.loop-frame-test.true c.frame-item.is
    (keeping_step old now new (take i frames) f _ c.as_slice.ensures c.loop-frame.invariant c.keep.ensures.of_made c.keep.ensures.held c.keep.ensures.end c.keep.ensures.spare c.keep.ensures.queue)

pub returns-clause-kept : goal.returns-clause-kept
returns-clause-kept c =
    let frames = c.args.frames.now in
    let past : length frames ≤ c.loop-frame.frame-index = omega arith in
    subst (λ (fs : List (List ℕ)). KeepsAll c.args.outbox.now.held fs c.loop-frame.outbox.held) (take_all c.loop-frame.frame-index frames past) c.loop-frame.invariant.kept
