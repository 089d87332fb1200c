use Rattle.std.proofs.Common.{rules, ap, ◌∙◌, ◌++◌, [], option_to_list}
use Rattle.stream_model.specs.Marks.{Cancel}
use Rattle.stream_model.specs.Turns.{Said, other}
use Rattle.stream_model.specs.Kept.{after}
use Rattle.stream_model.proofs.Fitting.{cancel_credited}
use Rattle.interactions.proofs.Standing.{got_stands, peer_stands}
use Rattle.interactions.proofs.parts.Parts.canceled.Goals as goal

pub returns-clause-stands : goal.returns-clause-stands
returns-clause-stands c = λ seen h.
    let f = c.in-Some.kept in
    peer_stands c.args.self.now c.peer.new.self seen c.args.stream Cancel f _ ([] ++ option_to_list c.end_if-end.result) (search rules) c.peer.ensures.limits
    (c.after_cancel.ensures.after ∙ ap (λ by. after f (Said by Cancel)) c.other-by.ensures)
    (search rules) tt (cancel_credited f (other f.role)) c.peer.ensures.says h

pub returns-in_default-clause-stands : goal.returns-in_default-clause-stands
returns-in_default-clause-stands c = λ seen h. got_stands c.args.self.now seen c.args.stream Cancel tt (search rules) h
