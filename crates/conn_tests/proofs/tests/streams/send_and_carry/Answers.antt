use Rattle.conn_tests.proofs.Crossing.{crossing}
use Rattle.conn_tests.proofs.tests.streams.send_and_carry.Goals as goal

pub join-answerer-requires-send-F : goal.join-answerer-requires-send-F
join-answerer-requires-send-F g c κs within = search crossing depth 20

pub join-answerer-requires-send-A : goal.join-answerer-requires-send-A
join-answerer-requires-send-A g c κs within = search crossing depth 20
