use Rattle.std.proofs.Common.{refl, arith}
use Rattle.replay_buffer.proofs.Copied.{copies_frame, finishes, full, last, passes_by, same_copies, same_length, steps}
use Rattle.replay_buffer.proofs.Known.{known}
use Rattle.replay_buffer.proofs.store.Store.copy.Goals as goal
use Rattle.replay_buffer.proofs.store.Store.copy.Goals.{then-skip-framed+else-written-buffer, else-skip-framed}

pub overflow_add-framed : goal.overflow_add-framed
overflow_add-framed c =
    let e = c.next-next.ensures in
    let st = steps _ _ c.loop-spot.spot c.next-next.result (known _ _ c.self.invariant c.self.view_is) c.loop-spot.invariant.at c.loop-spot-test.true e.at e.index in
    omega (arith, st.top)

pub copy_framed-written-requires-clause-some : goal.copy_framed-written-requires-clause-some
copy_framed-written-requires-clause-some c =
    let e = c.next-next.ensures in
    let st = steps _ _ c.loop-spot.spot c.next-next.result (known _ _ c.self.invariant c.self.view_is) c.loop-spot.invariant.at c.loop-spot-test.true e.at e.index in
    (st.frame, st.begins, omega (arith, c.if-skip-framed.true, st.count))

pub copy_framed-written-requires-clause-top : goal.copy_framed-written-requires-clause-top
copy_framed-written-requires-clause-top c =
    let k = known _ _ c.self.invariant c.self.view_is in
    omega (arith, k.size, k.small, k.top)

pub overflow_add-written : goal.overflow_add-written
overflow_add-written c =
    let e = c.next-next.ensures in
    let f = c.copy_framed-written.ensures in
    let l = c.loop-spot in
    let st = steps _ _ l.spot c.next-next.result (known _ _ c.self.invariant c.self.view_is) l.invariant.at c.loop-spot-test.true e.at e.index in
    let step = copies_frame _ _ c.args.from c.args.skip c.args.buffer.now l.buffer c.copy_framed-written.new.buffer l.spot c.next-next.result l.skip l.written c.copy_framed-written.result _ l.invariant st e.at refl c.if-skip-framed.true
    (f.count st.frame st.begins) (f.written st.frame st.begins) in
    omega (arith, step.done.room)

pub returns-then-written-buffer-clause-count : goal.returns-then-written-buffer-clause-count
returns-then-written-buffer-clause-count c =
    let e = c.next-next.ensures in
    let f = c.copy_framed-written.ensures in
    let l = c.loop-spot in
    let st = steps _ _ l.spot c.next-next.result (known _ _ c.self.invariant c.self.view_is) l.invariant.at c.loop-spot-test.true e.at e.index in
    let step = copies_frame _ _ c.args.from c.args.skip c.args.buffer.now l.buffer c.copy_framed-written.new.buffer l.spot c.next-next.result l.skip l.written c.copy_framed-written.result _ l.invariant st e.at refl c.if-skip-framed.true
    (f.count st.frame st.begins) (f.written st.frame st.begins) in
    full _ _ _ c.args.skip _ step.done c.if-written-buffer.true

pub returns-then-written-buffer-clause-written : goal.returns-then-written-buffer-clause-written
returns-then-written-buffer-clause-written c =
    let e = c.next-next.ensures in
    let f = c.copy_framed-written.ensures in
    let l = c.loop-spot in
    let st = steps _ _ l.spot c.next-next.result (known _ _ c.self.invariant c.self.view_is) l.invariant.at c.loop-spot-test.true e.at e.index in
    let step = copies_frame _ _ c.args.from c.args.skip c.args.buffer.now l.buffer c.copy_framed-written.new.buffer l.spot c.next-next.result l.skip l.written c.copy_framed-written.result _ l.invariant st e.at refl c.if-skip-framed.true
    (f.count st.frame st.begins) (f.written st.frame st.begins) in
    step.done.buffer

pub loop-spot-preserved : goal.loop-spot-preserved
loop-spot-preserved c =
    let e = c.next-next.ensures in
    let l = c.loop-spot in
    let st = steps _ _ l.spot c.next-next.result (known _ _ c.self.invariant c.self.view_is) l.invariant.at c.loop-spot-test.true e.at e.index in
    elim c.if-skip-framed.branch [
      | then-skip-framed+else-written-buffer w ↦
          let f = w.copy_framed-written.ensures in
          let step = copies_frame _ _ c.args.from c.args.skip c.args.buffer.now l.buffer w.copy_framed-written.new.buffer l.spot c.next-next.result l.skip l.written w.copy_framed-written.result _ l.invariant st e.at refl w.if-skip-framed.true
          (f.count st.frame st.begins) (f.written st.frame st.begins) in
          let same = same_length _ _ _ _ step.done in
          same_copies _ _ _ _ _ _ _ _ _ _ _ (step.goes (omega (arith, step.done.room, w.if-written-buffer.false, same))) w.buffer-is (omega (arith, c.saturating_sub-skip.ensures, w.if-skip-framed.true)) w.written-is
      | else-skip-framed w ↦
          let past = passes_by _ _ c.args.from c.args.skip c.args.buffer.now l.buffer l.spot c.next-next.result l.skip l.written _ l.invariant st e.at refl w.if-skip-framed.false in
          same_copies _ _ _ _ _ _ _ _ _ _ _ past w.buffer-is c.saturating_sub-skip.ensures w.written-is
    ]

pub overflow_add-lies : goal.overflow_add-lies
overflow_add-lies c =
    let k = known _ _ c.self.invariant c.self.view_is in
    let l = last _ _ c.loop-spot.spot k c.loop-spot.invariant.at c.loop-spot-test.false in
    omega (arith, l.size, c.loop-spot.invariant.inside, k.size, k.small, k.top)

pub copy_after-requires : goal.copy_after-requires
copy_after-requires c =
    let l = last _ _ c.loop-spot.spot (known _ _ c.self.invariant c.self.view_is) c.loop-spot.invariant.at c.loop-spot-test.false in
    omega (arith, l.size, c.loop-spot.invariant.inside)

pub returns-clause-count : goal.returns-clause-count
returns-clause-count c =
    let l = c.loop-spot in
    let x = last _ _ l.spot (known _ _ c.self.invariant c.self.view_is) l.invariant.at c.loop-spot-test.false in
    (finishes _ _ c.args.from c.args.skip c.args.buffer.now l.buffer c.copy_after.new.buffer l.spot l.skip l.written c.copy_after.result l.invariant x c.copy_after.ensures.count c.copy_after.ensures.written).count

pub returns-clause-written : goal.returns-clause-written
returns-clause-written c =
    let l = c.loop-spot in
    let x = last _ _ l.spot (known _ _ c.self.invariant c.self.view_is) l.invariant.at c.loop-spot-test.false in
    (finishes _ _ c.args.from c.args.skip c.args.buffer.now l.buffer c.copy_after.new.buffer l.spot l.skip l.written c.copy_after.result l.invariant x c.copy_after.ensures.count c.copy_after.ensures.written).buffer
