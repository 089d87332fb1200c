use Rattle.std.proofs.Common.{inl, inr}
use Rattle.cable.specs.Played.{pair_of}
use Rattle.threaded.proofs.run.run_laws.Goals as goal

pub returns-clause-joined : goal.returns-clause-joined
returns-clause-joined c = λ g h lines C S p e. elim p [
  | inl played ↦ (pair_of played.ends.pairs, c.played_laws.ensures.joined (record { client = g; server = h }) lines C S played e)
  | inr t ↦ (t.pair, t.joined)
]

pub returns-clause-up : goal.returns-clause-up
returns-clause-up c = λ g h lines C S p e. elim p [
  | inl played ↦ c.played_laws.ensures.up (record { client = g; server = h }) lines C S played e
  | inr t ↦ c.handled_begins_made.ensures.up g h C S t.pair (record { ends = e; joined = t.joined })
]

pub returns-clause-down : goal.returns-clause-down
returns-clause-down c = λ g h lines C S p e. elim p [
  | inl played ↦ c.played_laws.ensures.down (record { client = g; server = h }) lines C S played e
  | inr t ↦ c.handled_begins_made.ensures.down g h C S t.pair (record { ends = e; joined = t.joined })
]

pub returns-clause-client_accuses_nobody : goal.returns-clause-client_accuses_nobody
returns-clause-client_accuses_nobody c = λ g h lines C S p e. elim p [
  | inl played ↦ c.played_laws.ensures.client_accuses_nobody (record { client = g; server = h }) lines C S played e
  | inr t ↦ c.honest_ends_accuse_nobody.ensures.client g h C S t.pair (record { ends = e; joined = t.joined })
]

pub returns-clause-server_accuses_nobody : goal.returns-clause-server_accuses_nobody
returns-clause-server_accuses_nobody c = λ g h lines C S p e. elim p [
  | inl played ↦ c.played_laws.ensures.server_accuses_nobody (record { client = g; server = h }) lines C S played e
  | inr t ↦ c.honest_ends_accuse_nobody.ensures.server g h C S t.pair (record { ends = e; joined = t.joined })
]
