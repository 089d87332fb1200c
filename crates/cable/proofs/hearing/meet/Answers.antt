use Rattle.std.proofs.Common.{sym, ap, refl, ◌∙◌}
use Rattle.rs_chunk.specs.Rest.{Rest}
use Rattle.cable.proofs.Fresh.{meets_none, meets_whole, next_frame}
use Rattle.cable.proofs.Heard.{spelled}
use Rattle.cable.proofs.hearing.meet.Goals as goal

pub next-requires-clause-spelled : goal.next-requires-clause-spelled
next-requires-clause-spelled g c =
    let r = c.requires.near in
    spelled c.args.end.now.settings r.n r.frames c.args.crossing.now.rest r.nears.ahead (sym r.nears.bytes)

pub returns-in_default-clause-met : goal.returns-in_default-clause-met
returns-in_default-clause-met g c = λ n frames x. meets_none n frames c.args.end.now c.args.crossing.now _ x c.in_ok-next.ensures (sym c.in_default.is ∙ c.whole.ensures)

pub returns-clause-met : goal.returns-clause-met
returns-clause-met g c = λ n frames x.
    meets_whole n frames c.args.end.now c.open_by.new.end c.args.crossing.now _ c.in-Some.frame c.in_ok-known.known x (next_frame c.args.crossing.now.rest _ c.in-Some.frame (sym c.in-Some.is ∙ c.whole.ensures) c.in_ok-next.ensures) c.in_ok-known.ensures.opened refl (ap (λ (r : Rest). r.max_in) c.pass.ensures.rest) c.pass.ensures.passed
