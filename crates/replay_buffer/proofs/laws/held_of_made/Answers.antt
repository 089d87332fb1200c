use Rattle.replay_buffer.proofs.HeldOf.{boundaries_held, ends, follows, only_one, rest_held}
use Rattle.replay_buffer.proofs.laws.held_of_made.Goals as goal

pub returns : goal.returns
returns c = record { boundaries = boundaries_held; frames = rest_held; end = λ made told h s. ends made h (follows made told h s); only = only_one }
