use Rattle.std.proofs.Common.{rules}
use Rattle.conn_shared.proofs.shared.SharedSession.draw.Goals as goal

pub returns-clause-drawn : goal.returns-clause-drawn
returns-clause-drawn g c = record {
  before = c.enter-turn.result.value.entries;
  follows = search rules;
  step = search rules;
  bytes = search rules;
}
