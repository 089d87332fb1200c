use Rattle.std.proofs.Common.{◌≡◌, ◌+◌, ◌-◌, ◌<◌, ◌≤◌, ◌++◌, length, take, drop, refl, ap, sym, subst, ◌∙◌, arith}
use Rattle.std.specs.VecDeque.{deque_len}
use Rattle.outbox.specs.Line.{Line, own_in, run}
use Rattle.outbox.specs.Spans.{AreSpans, IsPart, Reaches, piece, pieces, span}
use Rattle.outbox.proofs.Counted.{Counted, DropsFirst, Leaves, Moved, drops_first_held, drops_first_own, first_part, fits_first, moved, none_held}
use Rattle.outbox.proofs.Spanned.{length-span, reach-moved, reach-rest, shut}
use Rattle.outbox.proofs.spans.Spans.drop_some.Goals as goal

pub overflow_sub-self : goal.overflow_sub-self
overflow_sub-self c =
    let r = c.self.inside in
    let i = c.self.invariant in
    omega (arith, fits_first r.replay r.stretches.items c.pop_front.new.self.items c.in-Some.stretch r.own r.held i.each c.in-Some.ensures.items i.own i.all, c.min-count.ensures)

pub invariant_of-self-then-stretch-gt0 : goal.invariant_of-self-then-stretch-gt0
invariant_of-self-then-stretch-gt0 c =
    let r = c.self.inside in
    let i = c.self.invariant in
    let n = c.min-count.result in
    let rest = c.pop_front.new.self.items in
    let d = drops_first_own r.replay r.stretches.items rest c.in-Some.stretch n r.own r.held i.each c.in-Some.ensures.items i.own i.all (omega (arith, c.min-count.ensures)) in
    let bytes : pieces c.unpin_where_none.new.replay c.put_first.new.stretches.items ≡ drop n (pieces r.replay r.stretches.items) =
    c.unpin_where_none.ensures.bytes ∙ c.put_first.ensures.all r.replay ∙ ap (λ t. piece r.replay t ++ pieces r.replay rest) c.without_own.ensures ∙ sym d.leaves.rest_is in
    let part = first_part r.replay r.stretches.items rest c.in-Some.stretch i.each c.in-Some.ensures.items in
    let fewer : IsPart r.replay (record c.in-Some.stretch { own = c.in-Some.stretch.own - n }) = record { boundary = part.boundary; within = part.within; pinned = part.pinned } in
    record {
      each = c.unpin_where_none.ensures.each (c.put_first.ensures.each r.replay d.others (subst (IsPart r.replay) (sym c.without_own.ensures) fewer));
      own = omega (arith, d.counted.own_is, ap own_in bytes);
      all = omega (arith, d.counted.all_is, ap length bytes);
      reaches = shut;
    }

pub returns-then-stretch-gt0-clause-bytes : goal.returns-then-stretch-gt0-clause-bytes
returns-then-stretch-gt0-clause-bytes c =
    let r = c.self.inside in
    let i = c.self.invariant in
    let n = c.min-count.result in
    let rest = c.pop_front.new.self.items in
    let d = drops_first_own r.replay r.stretches.items rest c.in-Some.stretch n r.own r.held i.each c.in-Some.ensures.items i.own i.all (omega (arith, c.min-count.ensures)) in
    let bytes : pieces c.unpin_where_none.new.replay c.put_first.new.stretches.items ≡ drop n (pieces r.replay r.stretches.items) =
    c.unpin_where_none.ensures.bytes ∙ c.put_first.ensures.all r.replay ∙ ap (λ t. piece r.replay t ++ pieces r.replay rest) c.without_own.ensures ∙ sym d.leaves.rest_is in
    bytes ∙ ap (λ (x : Line). drop n x.bytes) c.self.view_is

pub returns-then-stretch-gt0-clause-own : goal.returns-then-stretch-gt0-clause-own
returns-then-stretch-gt0-clause-own c =
    let r = c.self.inside in
    let i = c.self.invariant in
    let n = c.min-count.result in
    let rest = c.pop_front.new.self.items in
    let d = drops_first_own r.replay r.stretches.items rest c.in-Some.stretch n r.own r.held i.each c.in-Some.ensures.items i.own i.all (omega (arith, c.min-count.ensures)) in
    d.leaves.own_is ∙ ap (λ (x : Line). own_in (take n x.bytes)) c.self.view_is

pub overflow_sub-self-2 : goal.overflow_sub-self-2
overflow_sub-self-2 c =
    let r = c.self.inside in
    let i = c.self.invariant in
    omega (arith, fits_first r.replay r.stretches.items c.pop_front.new.self.items c.in-Some.stretch r.own r.held i.each c.in-Some.ensures.items i.own i.all, c.min-count-2.ensures)

pub pin_where_one-requires : goal.pin_where_one-requires
pin_where_one-requires c =
    let r = c.self.inside in
    let i = c.self.invariant in
    let n = c.min-count-2.result in
    let rest = c.pop_front.new.self.items in
    let d = drops_first_held r.replay r.stretches.items rest c.in-Some.stretch n r.own r.held i.each c.in-Some.ensures.items i.own i.all (omega (arith, c.if-stretch-gt0.false)) (omega (arith, c.min-count-2.ensures)) in
    c.unpin_where_none-then-count-stretch.ensures.each d.others

pub invariant_of-self-then-count-stretch : goal.invariant_of-self-then-count-stretch
invariant_of-self-then-count-stretch c =
    let r = c.self.inside in
    let i = c.self.invariant in
    let n = c.min-count-2.result in
    let rest = c.pop_front.new.self.items in
    let d = drops_first_held r.replay r.stretches.items rest c.in-Some.stretch n r.own r.held i.each c.in-Some.ensures.items i.own i.all (omega (arith, c.if-stretch-gt0.false)) (omega (arith, c.min-count-2.ensures)) in
    let long = length-span r.replay c.in-Some.stretch (first_part r.replay r.stretches.items rest c.in-Some.stretch i.each c.in-Some.ensures.items) in
    let bytes : pieces c.pin_where_one.new.replay rest ≡ drop n (pieces r.replay r.stretches.items) =
    c.pin_where_one.ensures.bytes ∙ c.unpin_where_none-then-count-stretch.ensures.bytes ∙ ap (λ l. l ++ pieces r.replay rest) (sym (none_held (span r.replay c.in-Some.stretch) n (omega (arith, long, c.if-count-stretch.true)))) ∙ sym d.leaves.rest_is in
    record {
      each = c.pin_where_one.ensures.each;
      own = omega (arith, d.counted.own_is, ap own_in bytes);
      all = omega (arith, d.counted.all_is, ap length bytes);
      reaches = λ yes. c.pin_where_one.ensures.reaches (c.unpin_where_none-then-count-stretch.ensures.reaches (reach-rest r.replay c.in-Some.stretch rest (subst (Reaches r.replay) c.in-Some.ensures.items (i.reaches yes))));
    }

pub returns-then-count-stretch-clause-own : goal.returns-then-count-stretch-clause-own
returns-then-count-stretch-clause-own c =
    let r = c.self.inside in
    let i = c.self.invariant in
    let n = c.min-count-2.result in
    let rest = c.pop_front.new.self.items in
    let d = drops_first_held r.replay r.stretches.items rest c.in-Some.stretch n r.own r.held i.each c.in-Some.ensures.items i.own i.all (omega (arith, c.if-stretch-gt0.false)) (omega (arith, c.min-count-2.ensures)) in
    d.leaves.own_is ∙ ap (λ (x : Line). own_in (take n x.bytes)) c.self.view_is

pub invariant_of-self-2 : goal.invariant_of-self-2
invariant_of-self-2 c =
    let r = c.self.inside in
    let i = c.self.invariant in
    let n = c.min-count-2.result in
    let rest = c.pop_front.new.self.items in
    let d = drops_first_held r.replay r.stretches.items rest c.in-Some.stretch n r.own r.held i.each c.in-Some.ensures.items i.own i.all (omega (arith, c.if-stretch-gt0.false)) (omega (arith, c.min-count-2.ensures)) in
    let part = first_part r.replay r.stretches.items rest c.in-Some.stretch i.each c.in-Some.ensures.items in
    let less : n < c.in-Some.stretch.count = omega (arith, c.min-count-2.ensures, c.if-count-stretch.false) in
    let m = moved r.replay c.advance-place.new.replay c.in-Some.stretch (record { own = 0; place = c.advance-place.result; count = c.in-Some.stretch.count - n }) rest c.push_front_reserved.new.self.items n
    c.is_empty-alone.result (deque_len c.pop_front.new.self) part d.others less refl refl c.advance-place.ensures.boundary c.advance-place.ensures.pinned c.advance-place.ensures.inside c.advance-place.ensures.bytes
    c.is_empty-alone.ensures c.pop_front.new.self.ok.0 c.advance-place.ensures.same c.push_front_reserved.ensures.items in
    let bytes : pieces c.advance-place.new.replay c.push_front_reserved.new.self.items ≡ drop n (pieces r.replay r.stretches.items) = m.bytes ∙ sym d.leaves.rest_is in
    record {
      each = m.each;
      own = omega (arith, d.counted.own_is, ap own_in bytes);
      all = omega (arith, d.counted.all_is, ap length bytes);
      reaches = λ yes. subst (Reaches c.advance-place.new.replay) (sym c.push_front_reserved.ensures.items)
          (reach-moved r.replay c.advance-place.new.replay c.in-Some.stretch (record { own = 0; place = c.advance-place.result; count = c.in-Some.stretch.count - n }) rest n c.is_empty-alone.result
          (deque_len c.pop_front.new.self) (omega (arith, less)) refl c.advance-place.ensures.inside c.advance-place.ensures.bytes c.is_empty-alone.ensures c.pop_front.new.self.ok.0 c.advance-place.ensures.same
          (subst (Reaches r.replay) c.in-Some.ensures.items (i.reaches yes)));
    }

pub returns-clause-bytes : goal.returns-clause-bytes
returns-clause-bytes c =
    let r = c.self.inside in
    let i = c.self.invariant in
    let n = c.min-count-2.result in
    let rest = c.pop_front.new.self.items in
    let d = drops_first_held r.replay r.stretches.items rest c.in-Some.stretch n r.own r.held i.each c.in-Some.ensures.items i.own i.all (omega (arith, c.if-stretch-gt0.false)) (omega (arith, c.min-count-2.ensures)) in
    let part = first_part r.replay r.stretches.items rest c.in-Some.stretch i.each c.in-Some.ensures.items in
    let less : n < c.in-Some.stretch.count = omega (arith, c.min-count-2.ensures, c.if-count-stretch.false) in
    let m = moved r.replay c.advance-place.new.replay c.in-Some.stretch (record { own = 0; place = c.advance-place.result; count = c.in-Some.stretch.count - n }) rest c.push_front_reserved.new.self.items n
    c.is_empty-alone.result (deque_len c.pop_front.new.self) part d.others less refl refl c.advance-place.ensures.boundary c.advance-place.ensures.pinned c.advance-place.ensures.inside c.advance-place.ensures.bytes
    c.is_empty-alone.ensures c.pop_front.new.self.ok.0 c.advance-place.ensures.same c.push_front_reserved.ensures.items in
    let bytes : pieces c.advance-place.new.replay c.push_front_reserved.new.self.items ≡ drop n (pieces r.replay r.stretches.items) = m.bytes ∙ sym d.leaves.rest_is in
    bytes ∙ ap (λ (x : Line). drop n x.bytes) c.self.view_is

pub returns-clause-own : goal.returns-clause-own
returns-clause-own c =
    let r = c.self.inside in
    let i = c.self.invariant in
    let n = c.min-count-2.result in
    let rest = c.pop_front.new.self.items in
    let d = drops_first_held r.replay r.stretches.items rest c.in-Some.stretch n r.own r.held i.each c.in-Some.ensures.items i.own i.all (omega (arith, c.if-stretch-gt0.false)) (omega (arith, c.min-count-2.ensures)) in
    d.leaves.own_is ∙ ap (λ (x : Line). own_in (take n x.bytes)) c.self.view_is
