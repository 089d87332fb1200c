use Rattle.rs_chunk.proofs.Cuts.{one_way}
use Rattle.rs_chunk.proofs.laws.stream_laws.Goals as goal

pub returns : goal.returns
returns c = record { one_way = one_way }
