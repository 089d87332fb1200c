use Rattle.interactions.proofs.Standing.{live_stands}
use Rattle.interactions.proofs.streams.Streams.act.Goals as goal

pub act-requires-clause-live : goal.act-requires-clause-live
act-requires-clause-live c = live_stands c.self.inside.parts c.self.inside.history c.self.invariant.stands
