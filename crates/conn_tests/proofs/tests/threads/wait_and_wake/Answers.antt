use Rattle.conn_tests.proofs.Crossing.{crossing}
use Rattle.conn_tests.proofs.tests.threads.wait_and_wake.Goals as goal

pub join-closer-requires-send-F : goal.join-closer-requires-send-F
join-closer-requires-send-F g c κs within = search crossing depth 20

pub join-closer-requires-send-A : goal.join-closer-requires-send-A
join-closer-requires-send-A g c κs within = search crossing depth 20
