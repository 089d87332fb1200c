use Rattle.std.proofs.Common.{ap, arith}
use Rattle.replay_buffer.specs.declared.laid.Prefix.{Prefix}
use Rattle.replay_buffer.proofs.Known.{known, reached}
use Rattle.replay_buffer.proofs.store.Store.next.Goals as goal

pub prefix_at-size-requires-clause-some : goal.prefix_at-size-requires-clause-some
prefix_at-size-requires-clause-some c =
    let x = reached _ _ c.args.spot (known _ _ c.self.invariant c.self.view_is) c.requires.at c.requires.some in
    (x.frame, x.begins)

pub prefix_at-size-requires-clause-top : goal.prefix_at-size-requires-clause-top
prefix_at-size-requires-clause-top c =
    let x = reached _ _ c.args.spot (known _ _ c.self.invariant c.self.view_is) c.requires.at c.requires.some in
    omega (arith, x.high, x.prefix, x.begins.longer)

pub overflow_add-result-2 : goal.overflow_add-result-2
overflow_add-result-2 c =
    let x = reached _ _ c.args.spot (known _ _ c.self.invariant c.self.view_is) c.requires.at c.requires.some in
    omega (arith, x.top, ap (λ (p : Prefix). p.length) (c.prefix_at-size.ensures x.frame x.begins))

pub overflow_add-result-3 : goal.overflow_add-result-3
overflow_add-result-3 c =
    let x = reached _ _ c.args.spot (known _ _ c.self.invariant c.self.view_is) c.requires.at c.requires.some in
    omega (arith, x.high, ap (λ (p : Prefix). p.size) (c.prefix_at-size.ensures x.frame x.begins))

pub overflow_add-result-4 : goal.overflow_add-result-4
overflow_add-result-4 c =
    let x = reached _ _ c.args.spot (known _ _ c.self.invariant c.self.view_is) c.requires.at c.requires.some in
    let is = c.prefix_at-size.ensures x.frame x.begins in
    omega (arith, x.high, ap (λ (p : Prefix). p.size) is, ap (λ (p : Prefix). p.length) is)

pub returns-clause-at : goal.returns-clause-at
returns-clause-at c =
    let x = reached _ _ c.args.spot (known _ _ c.self.invariant c.self.view_is) c.requires.at c.requires.some in
    let is = c.prefix_at-size.ensures x.frame x.begins in
    let size = ap (λ (p : Prefix). p.size) is in
    let count = ap (λ (p : Prefix). p.length) is in
    record {
      within = omega (arith, c.requires.some);
      start = omega (arith, count, x.next);
      offset = omega (arith, size, count, x.lies);
    }

pub returns-clause-later : goal.returns-clause-later
returns-clause-later c =
    let x = reached _ _ c.args.spot (known _ _ c.self.invariant c.self.view_is) c.requires.at c.requires.some in
    omega (arith, x.begins.longer, ap (λ (p : Prefix). p.length) (c.prefix_at-size.ensures x.frame x.begins))
