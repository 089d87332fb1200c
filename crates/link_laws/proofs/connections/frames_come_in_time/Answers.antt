use Rattle.link_laws.proofs.Ended.{in_time, not_local}
use Rattle.link_laws.proofs.connections.frames_come_in_time.Goals as goal

pub returns : goal.returns
returns u = λ g c more base legal stays joined free still early. in_time g c more base legal stays joined early still (not_local g c more base stays free)
