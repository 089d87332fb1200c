use Rattle.threaded.proofs.Crossing.{captured, crossing}
use Rattle.threaded.proofs.asking.start_asking.Goals as goal

pub spawn_with-requires-send-F : goal.spawn_with-requires-send-F
spawn_with-requires-send-F g c κs within = search captured depth 20

pub spawn_with-requires-send-T : goal.spawn_with-requires-send-T
spawn_with-requires-send-T g c κs within = search crossing depth 20
