use Rattle.std.proofs.Common.{rules, ◌<◌, ◌^◌, length, arith}
use Rattle.interactions.proofs.Granting.{may_grant}
use Rattle.stream_tests.proofs.end.End.count.Goals as goal

pub returns-clause-grants : goal.returns-clause-grants
returns-clause-grants c = λ s.
    let few : length c.args.self.now.streams.marks < 2 ^ 63 = search (rules, arith) in
    may_grant c.args.self.now.streams.limits.max_streams c.args.self.now.streams.marks s c.fair.ensures.fair few
