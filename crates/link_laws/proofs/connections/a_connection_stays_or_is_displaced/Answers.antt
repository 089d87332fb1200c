use Rattle.std.proofs.Common.{inl}
use Rattle.link_laws.proofs.Ending.{left_dead}
use Rattle.link_laws.proofs.Staying.{on_or_displaced, parted_displaced}
use Rattle.link_laws.proofs.connections.a_connection_stays_or_is_displaced.Goals as goal

pub returns : goal.returns
returns u = record {
  live = λ g c more base legal stays here. on_or_displaced g c more base legal stays (inl here);
  parted = parted_displaced;
  dead = λ g c last x more base is legal stays here. left_dead g c x more base last is legal stays here;
}
