use Rattle.serve_laws.proofs.Taking.{are_named, own_joined, own_new, own_of}
use Rattle.serve_laws.proofs.laws.callers_are_taken_in.Goals as goal

pub returns : goal.returns
returns c = record { new = own_new; of_link = own_of; joined = own_joined; named = are_named }
