use Rattle.conn_tests.proofs.Crossing.{crossing}
use Rattle.conn_tests.proofs.tests.streams.grant_and_send.Goals as goal

pub join-granter-requires-send-F : goal.join-granter-requires-send-F
join-granter-requires-send-F g c κs within = search crossing depth 20

pub join-granter-requires-send-A : goal.join-granter-requires-send-A
join-granter-requires-send-A g c κs within = search crossing depth 20
