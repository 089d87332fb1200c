use Rattle.std.proofs.Common.{None, [], ap, ◌∙◌}
use Rattle.replay_buffer.specs.Held.{Buffer}
use Rattle.replay_buffer.proofs.Trimmed.{trimmed-none, trimmed-pinned}
use Rattle.replay_buffer.proofs.replay.Replay.unpin.Goals as goal

pub invariant_of-self : goal.invariant_of-self
invariant_of-self c = trimmed-pinned _ _ None c.self.inside.hold c.forget_unpinned.ensures.all c.forget_unpinned.ensures.pinned

pub returns : goal.returns
returns c =
    trimmed-none _ _ c.self.inside.hold c.forget_unpinned.ensures.all ∙ ap (λ (b : Buffer). record b { below = []; pin = None }) c.self.view_is
