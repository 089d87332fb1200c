use Rattle.session_laws.proofs.Waiting.{ok_room, resume_alone}
use Rattle.session_laws.proofs.resumption.resume_ok_always_finds_room.Goals as goal

pub returns : goal.returns
returns c = record { due = resume_alone; room = ok_room }
