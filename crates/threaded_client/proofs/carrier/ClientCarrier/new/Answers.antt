use Rattle.rtrb.specs.Ring.{received, sent}
use Rattle.threaded_client.proofs.Carrying.{carrying_begun}
use Rattle.threaded_client.proofs.carrier.ClientCarrier.new.Goals as goal

pub returns-clause-carries : goal.returns-clause-carries
returns-clause-carries g c = carrying_begun c.args.caller (sent c.args.out) (received c.args.from)
