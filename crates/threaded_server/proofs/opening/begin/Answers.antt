use Rattle.threaded_server.proofs.Steps.{begun_by}
use Rattle.threaded_server.proofs.opening.begin.Goals as goal

pub returns-clause-some : goal.returns-clause-some
returns-clause-some g c = begun_by c.args.connection.now.settings c.args.caller.now c.open_by_frame.new.caller c.in-Some.frame c.in_ok-frame.field-0 c.args.reader.now c.rest_of-rest.result c.in_ok-knows.knows c.in-Some.is c.in_ok-frame.ensures
    c.rest_of-rest.ensures.max_in c.rest_of-rest.ensures.passes c.in_ok-knows.ensures.opened
