use Rattle.std.proofs.Common.{ap}
use Rattle.rs_chunk.specs.Rest.{Rest}
use Rattle.threaded_server.proofs.Kept.{begun}
use Rattle.threaded_server.proofs.carrier.ServerCarrier.new.Goals as goal

pub returns-clause-begun : goal.returns-clause-begun
returns-clause-begun g c = λ front none_sent none_received. begun c.args.caller c.new.result front (ap (λ (x : Rest). x.bytes) c.new.ensures)
