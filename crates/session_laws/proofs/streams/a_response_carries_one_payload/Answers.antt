use Rattle.session_laws.proofs.Lawful.{laws_of}
use Rattle.session_laws.proofs.streams.a_response_carries_one_payload.Goals as goal

pub returns : goal.returns
returns c = λ g past s t is. (laws_of g past s t is).response
