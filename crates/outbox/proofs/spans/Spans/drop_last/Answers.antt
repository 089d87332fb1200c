use Rattle.std.proofs.Common.{◌≡◌, ◌+◌, ◌-◌, ◌<◌, ◌≤◌, ◌++◌, [], ◌∷◌, List, ℕ, Option, length, take, drop, ap, sym, subst, ◌∙◌, arith}
use Rattle.outbox.specs.Line.{Line, own_in, run}
use Rattle.outbox.specs.Spans.{AreSpans, IsPart, piece, pieces, span}
use Rattle.outbox.proofs.Counted.{Counted, DropsLast, Ends, drops_last_held, drops_last_own, fits_last}
use Rattle.outbox.proofs.Spanned.{shut}
use Rattle.outbox.proofs.spans.Spans.drop_last.Goals as goal

pub overflow_sub-self : goal.overflow_sub-self
overflow_sub-self c =
    let r = c.self.inside in
    let i = c.self.invariant in
    omega (arith, fits_last r.replay r.stretches.items c.pop_back.new.self.items c.in-Some.stretch r.own r.held i.each c.in-Some.ensures.items i.own i.all, c.min-count.ensures)

pub invariant_of-self-then-stretch-gt0 : goal.invariant_of-self-then-stretch-gt0
invariant_of-self-then-stretch-gt0 c =
    let r = c.self.inside in
    let i = c.self.invariant in
    let n = c.min-count.result in
    let front = c.pop_back.new.self.items in
    let d = drops_last_held r.replay r.stretches.items front c.in-Some.stretch n r.own r.held i.each c.in-Some.ensures.items i.own i.all (omega (arith, c.min-count.ensures)) in
    let bytes : pieces c.unpin_where_none.new.replay c.put_last.new.stretches.items ≡ take (length (pieces r.replay r.stretches.items) - n) (pieces r.replay r.stretches.items) =
    c.unpin_where_none.ensures.bytes ∙ c.put_last.ensures.all r.replay ∙ ap (λ t. pieces r.replay front ++ piece r.replay t) c.without_held.ensures ∙ sym d.ends.front_is in
    record {
      each = c.unpin_where_none.ensures.each (c.put_last.ensures.each r.replay d.others (subst (IsPart r.replay) (sym c.without_held.ensures) d.part));
      own = omega (arith, d.counted.own_is, ap own_in bytes);
      all = omega (arith, d.counted.all_is, ap length bytes);
      reaches = shut;
    }

pub returns-then-stretch-gt0-clause-bytes : goal.returns-then-stretch-gt0-clause-bytes
returns-then-stretch-gt0-clause-bytes c =
    let r = c.self.inside in
    let i = c.self.invariant in
    let n = c.min-count.result in
    let front = c.pop_back.new.self.items in
    let d = drops_last_held r.replay r.stretches.items front c.in-Some.stretch n r.own r.held i.each c.in-Some.ensures.items i.own i.all (omega (arith, c.min-count.ensures)) in
    let bytes : pieces c.unpin_where_none.new.replay c.put_last.new.stretches.items ≡ take (length (pieces r.replay r.stretches.items) - n) (pieces r.replay r.stretches.items) =
    c.unpin_where_none.ensures.bytes ∙ c.put_last.ensures.all r.replay ∙ ap (λ t. pieces r.replay front ++ piece r.replay t) c.without_held.ensures ∙ sym d.ends.front_is in
    bytes ∙ ap (λ (x : Line). take (length x.bytes - n) x.bytes) c.self.view_is

pub returns-then-stretch-gt0-clause-own : goal.returns-then-stretch-gt0-clause-own
returns-then-stretch-gt0-clause-own c =
    let r = c.self.inside in
    let i = c.self.invariant in
    let n = c.min-count.result in
    let front = c.pop_back.new.self.items in
    let d = drops_last_held r.replay r.stretches.items front c.in-Some.stretch n r.own r.held i.each c.in-Some.ensures.items i.own i.all (omega (arith, c.min-count.ensures)) in
    d.ends.own_is ∙ ap (λ (x : Line). own_in (drop (length x.bytes - n) x.bytes)) c.self.view_is

pub overflow_sub-self-2 : goal.overflow_sub-self-2
overflow_sub-self-2 c =
    let r = c.self.inside in
    let i = c.self.invariant in
    omega (arith, fits_last r.replay r.stretches.items c.pop_back.new.self.items c.in-Some.stretch r.own r.held i.each c.in-Some.ensures.items i.own i.all, c.min-count-2.ensures)

pub invariant_of-self-2 : goal.invariant_of-self-2
invariant_of-self-2 c =
    let r = c.self.inside in
    let i = c.self.invariant in
    let n = c.min-count-2.result in
    let front = c.pop_back.new.self.items in
    let d = drops_last_own r.replay r.stretches.items front c.in-Some.stretch n r.own r.held i.each c.in-Some.ensures.items i.own i.all (omega (arith, c.if-stretch-gt0.false)) (omega (arith, c.min-count-2.ensures)) in
    let bytes : pieces c.unpin_where_none-2.new.replay c.put_last-2.new.stretches.items ≡ take (length (pieces r.replay r.stretches.items) - n) (pieces r.replay r.stretches.items) =
    c.unpin_where_none-2.ensures.bytes ∙ c.put_last-2.ensures.all r.replay ∙ ap (λ t. pieces r.replay front ++ piece r.replay t) c.without_own.ensures ∙ sym d.ends.front_is in
    record {
      each = c.unpin_where_none-2.ensures.each (c.put_last-2.ensures.each r.replay d.others (subst (IsPart r.replay) (sym c.without_own.ensures) d.part));
      own = omega (arith, d.counted.own_is, ap own_in bytes);
      all = omega (arith, d.counted.all_is, ap length bytes);
      reaches = shut;
    }

pub returns-clause-bytes : goal.returns-clause-bytes
returns-clause-bytes c =
    let r = c.self.inside in
    let i = c.self.invariant in
    let n = c.min-count-2.result in
    let front = c.pop_back.new.self.items in
    let d = drops_last_own r.replay r.stretches.items front c.in-Some.stretch n r.own r.held i.each c.in-Some.ensures.items i.own i.all (omega (arith, c.if-stretch-gt0.false)) (omega (arith, c.min-count-2.ensures)) in
    let bytes : pieces c.unpin_where_none-2.new.replay c.put_last-2.new.stretches.items ≡ take (length (pieces r.replay r.stretches.items) - n) (pieces r.replay r.stretches.items) =
    c.unpin_where_none-2.ensures.bytes ∙ c.put_last-2.ensures.all r.replay ∙ ap (λ t. pieces r.replay front ++ piece r.replay t) c.without_own.ensures ∙ sym d.ends.front_is in
    bytes ∙ ap (λ (x : Line). take (length x.bytes - n) x.bytes) c.self.view_is

pub returns-clause-own : goal.returns-clause-own
returns-clause-own c =
    let r = c.self.inside in
    let i = c.self.invariant in
    let n = c.min-count-2.result in
    let front = c.pop_back.new.self.items in
    let d = drops_last_own r.replay r.stretches.items front c.in-Some.stretch n r.own r.held i.each c.in-Some.ensures.items i.own i.all (omega (arith, c.if-stretch-gt0.false)) (omega (arith, c.min-count-2.ensures)) in
    d.ends.own_is ∙ ap (λ (x : Line). own_in (drop (length x.bytes - n) x.bytes)) c.self.view_is
