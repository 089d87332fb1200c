use Rattle.stream_model.proofs.Lawful.{each_stream}
use Rattle.stream_model.proofs.laws.each_stream_keeps_its_laws.Goals as goal

pub returns : goal.returns
returns c = each_stream
