use Rattle.std.proofs.Common.{rules, ap, ◌∙◌, ◌++◌, [], option_to_list}
use Rattle.stream_model.specs.Marks.{Fail}
use Rattle.stream_model.specs.Turns.{Said, other}
use Rattle.stream_model.specs.Kept.{after}
use Rattle.stream_model.proofs.Fitting.{fail_credited}
use Rattle.interactions.proofs.Standing.{got_stands, peer_stands}
use Rattle.interactions.proofs.parts.Parts.failed.Goals as goal

pub returns-clause-stands : goal.returns-clause-stands
returns-clause-stands c = λ seen h.
    let f = c.in-Some.kept in
    let step = Fail c.args.code c.args.content in
    peer_stands c.args.self.now c.peer.new.self seen c.args.stream step f _ ([] ++ option_to_list c.end_if-end.result) (search rules) c.peer.ensures.limits
    (c.after_error-after.ensures.after c.args.code c.args.content ∙ ap (λ by. after f (Said by step)) c.other.ensures)
    (search rules) tt (fail_credited f (other f.role) c.args.code c.args.content) c.peer.ensures.says h

pub returns-in_default-clause-stands : goal.returns-in_default-clause-stands
returns-in_default-clause-stands c = λ seen h. got_stands c.args.self.now seen c.args.stream (Fail c.args.code c.args.content) tt (search rules) h
