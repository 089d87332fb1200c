use Rattle.stream_model.proofs.Places.{live_within}
use Rattle.stream_model.proofs.laws.streams_find_their_places.Goals as goal

pub returns : goal.returns
returns c = live_within
