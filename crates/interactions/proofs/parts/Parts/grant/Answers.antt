use Rattle.std.proofs.Common.{rules, refl}
use Rattle.stream_model.specs.Marks.{RequestN}
use Rattle.stream_model.proofs.Fitting.{grant_credited}
use Rattle.interactions.proofs.Standing.{own_stands, sent_stands}
use Rattle.interactions.proofs.parts.Parts.grant.Goals as goal

pub returns-in-Some-clause-stands : goal.returns-in-Some-clause-stands
returns-in-Some-clause-stands c = λ seen h. own_stands c.args.self.now c.own.new.self seen c.args.stream (RequestN c.args.n) c.in-Some.kept _ _ (search rules) c.own.ensures.limits c.after_grant.ensures.after refl (search rules) (grant_credited c.in-Some.kept c.in-Some.kept.role c.args.n) c.own.ensures.says h

pub returns-in_default-clause-stands : goal.returns-in_default-clause-stands
returns-in_default-clause-stands c = λ seen h. sent_stands c.args.self.now seen c.args.stream (RequestN c.args.n) (search rules) (search rules) h
