use Rattle.conn_tests.proofs.Crossing.{crossing}
use Rattle.conn_tests.proofs.tests.threads.ask_in_two.Goals as goal

pub join-caller-requires-send-F : goal.join-caller-requires-send-F
join-caller-requires-send-F g c κs within = search crossing depth 20

pub join-caller-requires-send-A : goal.join-caller-requires-send-A
join-caller-requires-send-A g c κs within = search crossing depth 20
