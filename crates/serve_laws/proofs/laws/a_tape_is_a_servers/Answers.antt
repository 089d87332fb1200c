use Rattle.serve_laws.proofs.Tape.{tape_is}
use Rattle.serve_laws.proofs.laws.a_tape_is_a_servers.Goals as goal

pub returns : goal.returns
returns c = tape_is
