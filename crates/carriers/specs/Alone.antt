-- One caller of an end carries, and others ask. Entries stand newest first.
use Rattle.std.specs.Prelude.{◌≡◌, ◌≢◌, ◌<◌, ◌⊎◌, ℕ, true, false, List, Some}
use Rattle.std.specs.List.{AllByRecursion}
use Rattle.outside.specs.Links.{Shown, no_counts}
use Rattle.tape.specs.declared.entry.Entry.{Entry}
use Rattle.tape.specs.declared.event.Event.{Event}
use Rattle.conn_lock.specs.Callers.{times}
use Rattle.conn_shared.specs.Members.{Knowledge}
use Rattle.threaded_model.specs.Threaded.{is_asked}

-- a link that shows these bytes: those pushed, and those read
abbrev pub linked : List ℕ → List ℕ → Shown
linked given taken = record { taken = Some taken; given = Some given; counts = no_counts }

-- the other callers of this end only ask
pub record OthersAsk (me : Knowledge) : Type 0 where
  pub named : 0 < times me.number me.names
  pub ask : AllByRecursion (λ (x : Entry). is_asked x.event ≡ false → x.who ≡ me.number) me.front

-- an entry of the caller of this number with such an event, or of another, who asks
abbrev pub IsOurs : (Event → Type 0) → ℕ → Entry → Type 0
IsOurs P n x = ((x.who ≡ n) × P x.event) ⊎ ((x.who ≢ n) × (is_asked x.event ≡ true))

-- the one who has this number never asks
abbrev pub NeverAsks : ℕ → List Entry → Type 0
NeverAsks n past = AllByRecursion (λ (x : Entry). x.who ≡ n → is_asked x.event ≡ false) past
