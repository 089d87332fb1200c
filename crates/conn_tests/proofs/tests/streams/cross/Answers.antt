use Rattle.conn_tests.proofs.Crossing.{crossing}
use Rattle.conn_tests.proofs.tests.streams.cross.Goals as goal

pub join-asker-requires-send-F : goal.join-asker-requires-send-F
join-asker-requires-send-F g c κs within = search crossing depth 20

pub join-asker-requires-send-A : goal.join-asker-requires-send-A
join-asker-requires-send-A g c κs within = search crossing depth 20
