-- A caller that is alone. Entries stand newest first.
use Rattle.std.specs.Prelude.{◌<◌, ℕ, List}
use Rattle.std.specs.List.{AllByRecursion}
use Rattle.tape.specs.declared.entry.Entry.{Entry}
use Rattle.conn_lock.specs.Callers.{times}
use Rattle.conn_shared.specs.Members.{Knowledge}
use Rattle.session_laws.specs.Streams.{IsLawful}
use Rattle.link_model.specs.Carrying.{IsAlone}

-- every entry carries one of these names
abbrev pub AreNamed : List ℕ → List Entry → Type 0
AreNamed names past = AllByRecursion (λ x. 0 < times x.who names) past

-- Nobody else calls: the caller has seen all entries, each carries one of its names, and its own number where it moves bytes. Closing a
-- connection says so of a caller with all parts.
pub record IsSole (me : Knowledge) : Type 0 where
  pub named : 0 < times me.number me.names
  pub all : AreNamed me.names me.front
  pub alone : (c : ℕ) → IsAlone c me.number me.front

-- and its entries are a session's, as those of every caller are
pub record IsOwn (me : Knowledge) : Type 0 where
  pub sole : IsSole me
  pub lawful : IsLawful me.of.settings me.front
