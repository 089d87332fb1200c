use Rattle.std.proofs.Common.{rules, refl}
use Rattle.stream_model.specs.Marks.{Fail}
use Rattle.stream_model.proofs.Fitting.{fail_credited}
use Rattle.interactions.proofs.Standing.{own_stands, sent_stands}
use Rattle.interactions.proofs.parts.Parts.fail.Goals as goal

pub returns-in-Some-clause-stands : goal.returns-in-Some-clause-stands
returns-in-Some-clause-stands c = λ code content seen h. own_stands c.args.self.now c.own.new.self seen c.args.stream (Fail code content) c.in-Some.kept _ _ (search rules) c.own.ensures.limits (c.after_error.ensures.after code content) refl tt (fail_credited c.in-Some.kept c.in-Some.kept.role code content) c.own.ensures.says h

pub returns-in_default-clause-stands : goal.returns-in_default-clause-stands
returns-in_default-clause-stands c = λ code content seen h. sent_stands c.args.self.now seen c.args.stream (Fail code content) tt (search rules) h
