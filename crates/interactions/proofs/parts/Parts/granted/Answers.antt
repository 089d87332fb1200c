use Rattle.std.proofs.Common.{rules, ap, ◌∙◌, []}
use Rattle.stream_model.specs.Marks.{RequestN}
use Rattle.stream_model.specs.Turns.{Said, is_fnf, other}
use Rattle.stream_model.specs.Kept.{after}
use Rattle.stream_model.proofs.Fitting.{grant_credited}
use Rattle.interactions.proofs.Standing.{got_stands, nothing_brings, peer_stands}
use Rattle.interactions.proofs.parts.Parts.granted.Goals as goal

pub returns-clause-stands : goal.returns-clause-stands
returns-clause-stands c = λ seen h.
    let f = c.in-Some.kept in
    peer_stands c.args.self.now c.peer.new.self seen c.args.stream (RequestN c.args.n) f _ [] (search rules) c.peer.ensures.limits
    (c.after_grant-after.ensures.after ∙ ap (λ by. after f (Said by (RequestN c.args.n))) c.other.ensures)
    (nothing_brings (is_fnf f.kind)) (search rules) (grant_credited f (other f.role) c.args.n) c.peer.ensures.says h

pub returns-in_default-clause-stands : goal.returns-in_default-clause-stands
returns-in_default-clause-stands c = λ seen h. got_stands c.args.self.now seen c.args.stream (RequestN c.args.n) (search rules) (search rules) h
