use Rattle.std.proofs.Common.{◌≡◌, ◌+◌, ◌-◌, ◌<◌, ◌≤◌, ◌++◌, ◌∷◌, [], drop, length, ap, sym, subst, ◌∙◌, arith}
use Rattle.std.proofs.lemmas.List.{length-drop}
use Rattle.std.specs.VecDeque.{deque_len}
use Rattle.rs_frame.specs.Framed.{framed}
use Rattle.replay_buffer.specs.Held.{IsHeldOf, end_of, with_newest}
use Rattle.outbox.specs.Line.{Line, own_in, run}
use Rattle.outbox.specs.Spans.{AreSpans, Reaches, pieces}
use Rattle.outbox.proofs.Counted.{Counted, counted_run}
use Rattle.outbox.proofs.Pins.{kept_goes}
use Rattle.outbox.proofs.Spanned.{Lined, SameAll, frame_joined, frame_joined_reaches, frame_pushed, frame_pushed_reaches, go_where_some, goes_same, some_pinned}
use Rattle.outbox.proofs.spans.Spans.keep_last.Goals as goal

-- ---- at the end of the last stretch

joined : (c : goal.After-self-1) → Lined c.self.inside.replay c.keep_framed.new.self c.self.inside.stretches.items c.lengthen.new.stretches.items (run 0 (framed (drop 3 c.args.bytes.now)))
joined c =
    let b = c.self.inside.replay in
    let frame = drop 3 c.args.bytes.now in
    let all = with_newest b.held frame in
    let keeps = kept_goes b c.keep_framed.new.self frame (end_of all - all.hold) c.floor-floor.ensures.within c.keep_framed.ensures.held c.keep_framed.ensures.readable c.keep_framed.ensures.pin in
    frame_joined b c.keep_framed.new.self c.self.inside.stretches.items c.lengthen.new.stretches.items c.len-count.result frame keeps c.self.invariant.each (c.lengthen.ensures.longer c.if-lengthen.true) (c.len-count.ensures ∙ ap length c.requires.framed)

joined_counted : (c : goal.After-self-1) → Counted (pieces c.keep_framed.new.self c.lengthen.new.stretches.items) c.self.inside.own (c.self.inside.held + c.len-count.result)
joined_counted c =
    let r = c.self.inside in
    let none : 0 ≡ r.own - r.own = omega arith in
    counted_run (pieces r.replay r.stretches.items) _ r.own r.held r.own (framed (drop 3 c.args.bytes.now)) c.len-count.result
    (record { own_is = c.self.invariant.own; all_is = c.self.invariant.all }) (omega arith)
    ((joined c).lined ∙ ap (λ k. pieces r.replay r.stretches.items ++ run k (framed (drop 3 c.args.bytes.now))) none) (c.len-count.ensures ∙ ap length c.requires.framed)

pub invariant_of-self : goal.invariant_of-self
invariant_of-self c =
    let b = c.self.inside.replay in
    let frame = drop 3 c.args.bytes.now in
    let all = with_newest b.held frame in
    let keeps = kept_goes b c.keep_framed.new.self frame (end_of all - all.hold) c.floor-floor.ensures.within c.keep_framed.ensures.held c.keep_framed.ensures.readable c.keep_framed.ensures.pin in
    record {
      each = (joined c).each;
      own = (joined_counted c).own_is;
      all = (joined_counted c).all_is;
      reaches = λ yes. frame_joined_reaches b c.keep_framed.new.self c.self.inside.stretches.items c.lengthen.new.stretches.items c.len-count.result frame keeps c.self.invariant.each
          (c.lengthen.ensures.longer c.if-lengthen.true) (c.len-count.ensures ∙ ap length c.requires.framed);
    }

pub returns-then-lengthen-clause-of_made : goal.returns-then-lengthen-clause-of_made
returns-then-lengthen-clause-of_made c = λ made told newest is up_to spelled.
    c.keep_framed.ensures.of_made made told newest (subst (λ (l : Line). IsHeldOf made told l.held) (sym c.self.view_is) is) up_to spelled

pub returns-then-lengthen-clause-bytes : goal.returns-then-lengthen-clause-bytes
returns-then-lengthen-clause-bytes c =
    let r = c.self.inside in
    let before : 0 ≡ c.args.own - r.own = sym (c.lengthen.ensures.none c.if-lengthen.true) in
    (joined c).lined ∙ ap (λ k. pieces r.replay r.stretches.items ++ run k (framed (drop 3 c.args.bytes.now))) (before ∙ ap (λ k. c.args.own - k) c.self.invariant.own)
    ∙ ap (λ (l : Line). l.bytes ++ run (c.args.own - own_in l.bytes) (framed (drop 3 c.args.bytes.now))) c.self.view_is
    ∙ ap (λ f. c.args.self.now.bytes ++ run (c.args.own - own_in c.args.self.now.bytes) f) (sym c.requires.framed)

-- ---- in a stretch of its own

pub next_place-place-requires : goal.next_place-place-requires
next_place-place-requires c =
    let b = c.self.inside.replay in
    let each = subst (AreSpans b) (sym (c.lengthen.ensures.same c.if-lengthen.false)) c.self.invariant.each in
    some_pinned b c.lengthen.new.stretches.items c.is_empty.result (deque_len c.lengthen.new.stretches) c.is_empty.ensures c.lengthen.new.stretches.ok.0 each

pushed : (c : goal.After-self-4-1) → Lined c.self.inside.replay c.keep_framed-2.new.self c.lengthen.new.stretches.items c.push_back_reserved.new.self.items (run (c.args.own - c.self.inside.own) (framed (drop 3 c.args.bytes.now)))
pushed c =
    let b = c.self.inside.replay in
    let now = c.next_place-place.new.replay in
    let new = c.keep_framed-2.new.self in
    let old = c.lengthen.new.stretches.items in
    let frame = drop 3 c.args.bytes.now in
    let all = with_newest now.held frame in
    let each = subst (AreSpans b) (sym (c.lengthen.ensures.same c.if-lengthen.false)) c.self.invariant.each in
    let s = go_where_some b now old c.is_empty.result (deque_len c.lengthen.new.stretches) c.is_empty.ensures c.lengthen.new.stretches.ok.0 (λ others. goes_same b now (c.next_place-place.ensures.same others)) each in
    let keeps = kept_goes now new frame (end_of all - all.hold) c.floor-floor-2.ensures.within c.keep_framed-2.ensures.held c.keep_framed-2.ensures.readable c.keep_framed-2.ensures.pin in
    let l = frame_pushed now new old (record { own = c.args.own - c.self.inside.own; place = c.next_place-place.result; count = c.len-count.result }) frame keeps s.each
    c.next_place-place.ensures.boundary c.next_place-place.ensures.pinned c.next_place-place.ensures.end (c.len-count.ensures ∙ ap length c.requires.framed) (omega (arith, c.len-count.ensures, c.requires.shortest, length-drop 3 c.args.bytes.now)) in
    record {
      each = subst (AreSpans new) (sym c.push_back_reserved.ensures.items) l.each;
      lined = ap (pieces new) c.push_back_reserved.ensures.items ∙ l.lined ∙ ap (λ x. x ++ run (c.args.own - c.self.inside.own) (framed frame)) s.bytes;
    }

pushed_lined : (c : goal.After-self-4-1) → pieces c.keep_framed-2.new.self c.push_back_reserved.new.self.items ≡ pieces c.self.inside.replay c.self.inside.stretches.items ++ run (c.args.own - c.self.inside.own) (framed (drop 3 c.args.bytes.now))
pushed_lined c =
    let r = c.self.inside in
    (pushed c).lined ∙ ap (λ ss. pieces r.replay ss ++ run (c.args.own - r.own) (framed (drop 3 c.args.bytes.now))) (c.lengthen.ensures.same c.if-lengthen.false)

pushed_counted : (c : goal.After-self-4-1) → Counted (pieces c.keep_framed-2.new.self c.push_back_reserved.new.self.items) c.args.own (c.self.inside.held + c.len-count.result)
pushed_counted c =
    let r = c.self.inside in
    let le : r.own ≤ c.args.own = omega (arith, c.requires.own, ap (λ (l : Line). own_in l.bytes) c.self.view_is, c.self.invariant.own) in
    counted_run (pieces r.replay r.stretches.items) _ r.own r.held c.args.own (framed (drop 3 c.args.bytes.now)) c.len-count.result
    (record { own_is = c.self.invariant.own; all_is = c.self.invariant.all }) le (pushed_lined c) (c.len-count.ensures ∙ ap length c.requires.framed)

pub invariant_of-self-2 : goal.invariant_of-self-2
invariant_of-self-2 c =
    let now = c.next_place-place.new.replay in
    let new = c.keep_framed-2.new.self in
    let frame = drop 3 c.args.bytes.now in
    let all = with_newest now.held frame in
    let keeps = kept_goes now new frame (end_of all - all.hold) c.floor-floor-2.ensures.within c.keep_framed-2.ensures.held c.keep_framed-2.ensures.readable c.keep_framed-2.ensures.pin in
    record {
      each = (pushed c).each;
      own = (pushed_counted c).own_is;
      all = (pushed_counted c).all_is;
      reaches = λ yes. subst (Reaches new) (sym c.push_back_reserved.ensures.items)
          (frame_pushed_reaches now new c.lengthen.new.stretches.items _ frame keeps c.next_place-place.ensures.boundary c.next_place-place.ensures.pinned c.next_place-place.ensures.end (c.len-count.ensures ∙ ap length c.requires.framed));
    }

pub returns-clause-of_made : goal.returns-clause-of_made
returns-clause-of_made c = λ made told newest is up_to spelled.
    let same = c.next_place-place.ensures.held ∙ ap (λ (l : Line). l.held) c.self.view_is in
    c.keep_framed-2.ensures.of_made made told newest (subst (IsHeldOf made told) (sym same) is) up_to spelled

pub returns-clause-bytes : goal.returns-clause-bytes
returns-clause-bytes c =
    let r = c.self.inside in
    pushed_lined c ∙ ap (λ k. pieces r.replay r.stretches.items ++ run (c.args.own - k) (framed (drop 3 c.args.bytes.now))) c.self.invariant.own
    ∙ ap (λ (l : Line). l.bytes ++ run (c.args.own - own_in l.bytes) (framed (drop 3 c.args.bytes.now))) c.self.view_is
    ∙ ap (λ f. c.args.self.now.bytes ++ run (c.args.own - own_in c.args.self.now.bytes) f) (sym c.requires.framed)
