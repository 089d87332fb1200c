-- What is said of the entries under some names, and how a list of entries goes on. Entries stand newest first.
use Rattle.std.specs.Prelude.{◌≡◌, ◌<◌, ℕ, List, ◌++◌}
use Rattle.std.specs.List.{AllByRecursion}
use Rattle.tape.specs.declared.entry.Entry.{Entry}
use Rattle.conn_lock.specs.Callers.{times}

-- each entry under one of these names is so
abbrev pub Under : List ℕ → (Entry → Type 0) → List Entry → Type 0
Under names P past = AllByRecursion (λ (x : Entry). 0 < times x.who names → P x) past

-- every entry carries one of these names
abbrev pub AreNamed : List ℕ → List Entry → Type 0
AreNamed names past = AllByRecursion (λ (x : Entry). 0 < times x.who names) past

-- The list went on. Of the entries that were added those under these names are so.
pub record GoesOnBy (names : List ℕ) (P : Entry → Type 0) (old new : List Entry) : Type 0 where
  pub more : List Entry
  pub on : new ≡ more ++ old
  pub own : Under names P more
