use Rattle.session_laws.proofs.ReadDelivered.{ended_taken, same_delivered, same_own_end}
use Rattle.session_laws.proofs.streams.deliveries_are_what_frames_say.Goals as goal

pub returns : goal.returns
returns c = record {
  own_end = λ t. same_own_end t.opening t.words;
  delivered = λ t. same_delivered t.opening t.words;
  taken = ended_taken;
}
