use Rattle.std.proofs.Common.{ap, ◌∙◌, option_to_list}
use Rattle.rtrb.specs.Ring.{received, sent}
use Rattle.threaded_server.proofs.Steps.{follows, on_ok}
use Rattle.threaded_server.proofs.carrier.ServerCarrier.line.Goals as goal

pub returns-in-Some-clause-kept : goal.returns-in-Some-clause-kept
returns-in-Some-clause-kept g c = on_ok c.tick.result _ _ (λ kept lines k. kept lines c.args.line.now (c.moment_of.ensures ∙ ap option_to_list c.in-Some.is) k) c.tick.ensures.kept

pub returns-in-None-clause-kept : goal.returns-in-None-clause-kept
returns-in-None-clause-kept g c =
    let self = c.args.self.now in
    let now = c.carry.new.self in
    on_ok c.carry.result _ _ (λ kept lines k. follows self.caller now.caller c.args.line.now lines self.knows now.knows (sent self.out) (sent now.out) (received self.from) (received now.from) (c.moment_of.ensures ∙ ap option_to_list c.in-None.is) kept k) c.carry.ensures.kept
