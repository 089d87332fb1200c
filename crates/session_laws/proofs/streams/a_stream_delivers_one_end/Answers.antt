use Rattle.session_laws.proofs.Lawful.{laws_of}
use Rattle.session_laws.proofs.streams.a_stream_delivers_one_end.Goals as goal

pub returns : goal.returns
returns c = λ g past s t is. (laws_of g past s t is).one_end
