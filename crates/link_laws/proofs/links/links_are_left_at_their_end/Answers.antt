use Rattle.link_laws.proofs.Ending.{left_broken, left_over}
use Rattle.link_laws.proofs.links.links_are_left_at_their_end.Goals as goal

pub returns : goal.returns
returns u = record { over = left_over; broken = left_broken }
