use Rattle.std.proofs.Common.{◌≤◌, arith}
use Rattle.replay_buffer.proofs.Passed.{held_starts, starts_held}
use Rattle.replay_buffer.proofs.replay.Replay.is_boundary.Goals as goal

pub returns-then-position-first : goal.returns-then-position-first
returns-then-position-first c =
    let r = c.self.inside in
    let within = c.self.invariant.within in
    let from : r.store.first ≤ c.args.position = omega (arith, c.first.ensures.value, c.if-position-first.true) in
    rw (← c.self.view_is) (
      λ yes. held_starts r.store r.hold c.args.position within (from, c.is_start.ensures.0 yes),
      λ held. c.is_start.ensures.1 (starts_held r.store r.hold c.args.position within held).1,
    )
