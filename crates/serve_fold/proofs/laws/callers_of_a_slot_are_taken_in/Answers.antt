use Rattle.serve_fold.proofs.Joined.{joined_each, own_all_joined, took_slot}
use Rattle.serve_fold.proofs.laws.callers_of_a_slot_are_taken_in.Goals as goal

pub returns : goal.returns
returns c = record { slot = took_slot; each = joined_each; own = own_all_joined }
