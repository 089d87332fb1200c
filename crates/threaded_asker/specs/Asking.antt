-- What one who asks adds to the entries that it has seen. Entries stand newest first, calls oldest first.
use Rattle.std.specs.Prelude.{◌≡◌, ◌<◌, ◌==◌, ℕ, true, if◌then◌else◌, List, [], ◌∷◌, ◌++◌}
use Rattle.std.specs.List.{AllByRecursion}
use Rattle.rs_wire.specs.declared.call.Call.{Call}
use Rattle.tape.specs.declared.entry.Entry.{Entry}
use Rattle.conn_lock.specs.Callers.{times}
use Rattle.conn_shared.specs.Members.{Knowledge}
use Rattle.threaded_model.specs.Threaded.{ButTakes, asked_in, is_asked}

abbrev pub asked_at : ℕ → Entry → List Call
asked_at number x = if x.who == number then asked_in x.event else []

-- what was asked under this number
unfoldable pub asked_by : ℕ → List Entry → List Call
asked_by number [] = []
asked_by number (x ∷ past) = asked_by number past ++ asked_at number x

-- what stands under this number are calls
abbrev pub OnlyAsks : ℕ → List Entry → Type 0
OnlyAsks number past = AllByRecursion (λ (x : Entry). x.who ≡ number → is_asked x.event ≡ true) past

-- under this number these calls were added, in their order, each once, but for some that take
pub record Adds (number : ℕ) (calls : List Call) (old new : List Entry) : Type 0 where
  pub own : List Call
  pub noted : asked_by number new ≡ asked_by number old ++ own
  pub each : ButTakes calls own
  pub only : OnlyAsks number old → OnlyAsks number new

-- the caller added these calls, and what it saw others add
abbrev pub HasAsked : Knowledge → List Call → List Entry → Type 0
HasAsked me calls new = 0 < times me.number me.names → Adds me.number calls me.front new

-- it added some calls at most
abbrev pub HasOnlyAsked : Knowledge → List Entry → Type 0
HasOnlyAsked me new = 0 < times me.number me.names → OnlyAsks me.number me.front → OnlyAsks me.number new
