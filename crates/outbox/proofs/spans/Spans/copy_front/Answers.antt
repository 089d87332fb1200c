use Rattle.std.proofs.Common.{◌≡◌, ◌+◌, ◌<◌, ◌≤◌, ◌++◌, ◌∷◌, [], length, take, drop, ap, sym, ◌∙◌, arith}
use Rattle.std.proofs.lemmas.List.{length-take-le, take-take}
use Rattle.std.specs.VecDeque.{deque_len}
use Rattle.outbox.specs.Line.{Line, own_in, weave}
use Rattle.outbox.specs.Spans.{pieces, span}
use Rattle.outbox.proofs.Counted.{first_held, first_own, first_part, fits_first, none_there, one_there}
use Rattle.outbox.proofs.Weaving.{weave-nil}
use Rattle.outbox.proofs.spans.Spans.copy_front.Goals as goal

alone : (c : goal.After-slice_known-in_default-1) → weave c.args.self.now.bytes c.args.own.now ≡ c.args.own.now
alone c =
    let q = c.self.inside.stretches in
    let none : deque_len q ≡ 0 = grind (arith, c.in_default.ensures.variant) in
    let empty = none_there q.items (deque_len q) q.ok.0 none in
    ap (λ bs. weave bs c.args.own.now) (sym (ap (λ (l : Line). l.bytes) c.self.view_is) ∙ ap (pieces c.self.inside.replay) empty) ∙ weave-nil c.args.own.now

pub returns-in_default-clause-some : goal.returns-in_default-clause-some
returns-in_default-clause-some c =
    c.copy_some.ensures.some (omega (arith, c.requires.wait, c.requires.some, ap length (alone c))) c.requires.some

pub returns-in_default-clause-taken : goal.returns-in_default-clause-taken
returns-in_default-clause-taken c =
    c.copy_some.ensures.taken ∙ ap (λ l. take c.copy_some.result l ++ drop c.copy_some.result c.args.buffer.now) (sym (alone c))

pub slice_bounds-copy_some-end : goal.slice_bounds-copy_some-end
slice_bounds-copy_some-end c =
    let r = c.self.inside in
    let i = c.self.invariant in
    let s = c.in-Some.stretch.now in
    let some : 0 < deque_len r.stretches = grind (arith, c.in-Some.ensures.variant) in
    let is = one_there r.stretches.items s (deque_len r.stretches) r.stretches.ok.0 some c.in-Some.ensures.lookup in
    let fits = fits_first r.replay r.stretches.items (drop 1 r.stretches.items) s r.own r.held i.each is i.own i.all in
    let le : s.own ≤ length c.args.own.now = omega (arith, fits, i.own, ap (λ (l : Line). own_in l.bytes) c.self.view_is, c.requires.own) in
    sym (length-take-le s.own c.args.own.now le)

pub returns-then-stretch-gt0-clause-some : goal.returns-then-stretch-gt0-clause-some
returns-then-stretch-gt0-clause-some c =
    let r = c.self.inside in
    let i = c.self.invariant in
    let s = c.in-Some.stretch.now in
    let some : 0 < deque_len r.stretches = grind (arith, c.in-Some.ensures.variant) in
    let is = one_there r.stretches.items s (deque_len r.stretches) r.stretches.ok.0 some c.in-Some.ensures.lookup in
    let fits = fits_first r.replay r.stretches.items (drop 1 r.stretches.items) s r.own r.held i.each is i.own i.all in
    let le : s.own ≤ length c.args.own.now = omega (arith, fits, i.own, ap (λ (l : Line). own_in l.bytes) c.self.view_is, c.requires.own) in
    c.copy_some-then-stretch-gt0.ensures.some (omega (arith, length-take-le s.own c.args.own.now le, c.if-stretch-gt0.true)) c.requires.some

pub returns-then-stretch-gt0-clause-taken : goal.returns-then-stretch-gt0-clause-taken
returns-then-stretch-gt0-clause-taken c =
    let r = c.self.inside in
    let i = c.self.invariant in
    let s = c.in-Some.stretch.now in
    let n = c.copy_some-then-stretch-gt0.result in
    let own = c.args.own.now in
    let some : 0 < deque_len r.stretches = grind (arith, c.in-Some.ensures.variant) in
    let is = one_there r.stretches.items s (deque_len r.stretches) r.stretches.ok.0 some c.in-Some.ensures.lookup in
    let fits = fits_first r.replay r.stretches.items (drop 1 r.stretches.items) s r.own r.held i.each is i.own i.all in
    let view = ap (λ (l : Line). l.bytes) c.self.view_is in
    let all : own_in (pieces r.replay r.stretches.items) ≤ length own = omega (arith, ap own_in view, c.requires.own) in
    let few : s.own ≤ length own = omega (arith, fits, i.own, all) in
    let le : n ≤ s.own = omega (arith, c.copy_some-then-stretch-gt0.ensures.bound, length-take-le s.own own few) in
    let first = first_own r.replay s (pieces r.replay r.stretches.items) (pieces r.replay (drop 1 r.stretches.items)) n own (ap (pieces r.replay) is) le all in
    c.copy_some-then-stretch-gt0.ensures.taken
    ∙ ap (λ l. l ++ drop n c.args.buffer.now) (take-take n s.own own le ∙ sym first ∙ ap (λ bs. take n (weave bs own)) view)

pub returns-clause-taken : goal.returns-clause-taken
returns-clause-taken c =
    let r = c.self.inside in
    let i = c.self.invariant in
    let s = c.in-Some.stretch.now in
    let n = c.copy_span.result in
    let own = c.args.own.now in
    let some : 0 < deque_len r.stretches = grind (arith, c.in-Some.ensures.variant) in
    let is = one_there r.stretches.items s (deque_len r.stretches) r.stretches.ok.0 some c.in-Some.ensures.lookup in
    let view = ap (λ (l : Line). l.bytes) c.self.view_is in
    let all : own_in (pieces r.replay r.stretches.items) ≤ length own = omega (arith, ap own_in view, c.requires.own) in
    let part = first_part r.replay r.stretches.items (drop 1 r.stretches.items) s i.each is in
    let none : s.own ≡ 0 = omega (arith, c.if-stretch-gt0.false) in
    let first = first_held r.replay s (pieces r.replay r.stretches.items) (pieces r.replay (drop 1 r.stretches.items)) n own part (ap (pieces r.replay) is) none c.copy_span.ensures.bound all in
    c.copy_span.ensures.taken ∙ ap (λ l. l ++ drop n c.args.buffer.now) (sym first ∙ ap (λ bs. take n (weave bs own)) view)
