use Rattle.std.proofs.Common.{◌≡◌, ◌-◌, ap, ◌∙◌, arith}
use Rattle.replay_buffer.specs.Held.{from_least}
use Rattle.replay_buffer.specs.Stored.{end_of, held_in}
use Rattle.replay_buffer.proofs.passing.pass_beyond.Goals as goal

pub returns-clause-held : goal.returns-clause-held
returns-clause-held c = λ most.
    let low : c.saturating_sub-low.result ≡ end_of c.args.store.now - c.args.hold = omega (arith, c.saturating_sub-low.ensures, c.end.ensures.value) in
    c.pass_until.ensures.held most ∙ ap (from_least (held_in most c.args.store.now)) low
