-- Callers that are split off from the main callers of several connections, and taken in again.
use Rattle.std.specs.Prelude.{zero, suc, ◌≡◌, ◌+◌, ◌<◌, ◌==◌, ℕ, if◌then◌else◌, List, [], ◌∷◌, ◌++◌, length, set, slice_get, Some}
use Rattle.rs_wire.specs.declared.settings.Settings.{Settings}
use Rattle.conn_lock.specs.Callers.{all_parts, calls, times}
use Rattle.conn_shared.specs.Lines.{who_of}
use Rattle.conn_shared.specs.Members.{Follows, Knowledge, SharedId, first_member}
use Rattle.crew.specs.Places.{Pairwise}

-- ---- callers of the connections

-- each caller is of the connection at its place
abbrev pub AreCallersOf : List SharedId → List Knowledge → Type 0
AreCallersOf ids callers = Pairwise (λ (id : SharedId) (k : Knowledge). k.of ≡ id) ids callers

-- these are the settings of all
abbrev pub HaveSettings : Settings → List SharedId → Type 0
HaveSettings g [] = Unit {0}
HaveSettings g (id ∷ ids) = (id.settings ≡ g) × HaveSettings g ids

-- each connection is new, and this is its first caller
abbrev pub AreFirst : List SharedId → List Knowledge → Type 0
AreFirst ids callers = Pairwise (λ (id : SharedId) (k : Knowledge). k ≡ first_member id) ids callers

-- a caller, with the slot of its connection
abbrev pub Placed : Type 0
Placed = ℕ × Knowledge

abbrev pub IsAtSlot : List SharedId → Placed → Type 0
IsAtSlot ids (slot, k) = slice_get ids slot ≡ Some k.of

-- a row has a caller of each connection. These are they, the last one first
abbrev pub placed : ℕ → List Knowledge → List Placed
placed slot [] = []
placed slot (k ∷ row) = placed (slot + 1) row ++ (slot, k) ∷ []

-- those of several rows
abbrev pub all_placed : List (List Knowledge) → List Placed
all_placed [] = []
all_placed (row ∷ rows) = placed 0 row ++ all_placed rows

-- ---- splitting

-- A caller was split off, whose number no entry carries.
pub record IsSplit (old other new : Knowledge) : Type 0 where
  pub same : new ≡ record old { parts = new.parts; found = new.found }
  pub other_is : other ≡ record (first_member old.of) { number = other.number; names = other.number ∷ []; parts = other.parts; front = old.front; found = other.found }
  pub parts : new.parts + other.parts ≡ old.parts
  pub fresh : times other.number old.names ≡ 0
  pub unused : calls who_of other.number old.front ≡ 0

-- a caller from which none could be split off
abbrev pub IsUnsplit : Knowledge → Knowledge → Type 0
IsUnsplit old new = new ≡ record old { found = new.found }

-- from each of the first callers one was split off, and from the others none
abbrev pub AreSplit : List Knowledge → List Knowledge → List Knowledge → Type 0
AreSplit [] [] [] = Unit {0}
AreSplit (old ∷ olds) (k ∷ row) (new ∷ news) = IsSplit old k new × AreSplit olds row news
AreSplit (old ∷ olds) [] (new ∷ news) = IsUnsplit old new × AreSplit olds [] news
AreSplit _ _ _ = ⊥

-- the callers split off go to the end of this row
abbrev pub SplitsInto : List Knowledge → List Knowledge → List Knowledge → List Knowledge → Type 0
SplitsInto olds news before after = (row : List Knowledge) × (after ≡ before ++ row) × AreSplit olds row news

-- ---- taking in

-- The first caller took the second one in.
pub record IsJoined (old other new : Knowledge) : Type 0 where
  pub of : new.of ≡ old.of
  pub number : new.number ≡ old.number
  pub names : new.names ≡ old.names ++ other.names
  pub parts : new.parts ≡ old.parts + other.parts
  pub first : Follows old.names old.front new.front
  pub second : Follows other.names other.front new.front
  pub apart : (x : ℕ) → 0 < times x old.names → times x other.names ≡ 0

-- at that place it did
pub record JoinsAt (olds : List Knowledge) (slot : ℕ) (other : Knowledge) (news : List Knowledge) : Type 0 where
  pub old : Knowledge
  pub new : Knowledge
  pub was : slice_get olds slot ≡ Some old
  pub is : news ≡ set olds slot new
  pub joined : IsJoined old other new

-- the callers at their places took these in, one after another
abbrev pub TookIn : List Knowledge → List Placed → List Knowledge → Type 0
TookIn olds [] news = news ≡ olds
TookIn olds ((slot, k) ∷ others) news = (mid : List Knowledge) × JoinsAt olds slot k mid × TookIn mid others news

-- one caller took these in, one after another
abbrev pub JoinedAll : Knowledge → List Knowledge → Knowledge → Type 0
JoinedAll old [] new = new ≡ old
JoinedAll old (k ∷ others) new = (mid : Knowledge) × IsJoined old k mid × JoinedAll mid others new

-- those of one slot
abbrev pub at_slot : ℕ → List Placed → List Knowledge
at_slot slot [] = []
at_slot slot ((at, k) ∷ others) = if at == slot then k ∷ at_slot slot others else at_slot slot others

-- ---- parts

abbrev pub parts_at : ℕ → List Knowledge → ℕ
parts_at slot [] = 0
parts_at zero (k ∷ row) = k.parts
parts_at (suc slot) (k ∷ row) = parts_at slot row

-- so many where the two slots are one
abbrev pub parts_if : ℕ → ℕ → ℕ → ℕ
parts_if zero zero parts = parts
parts_if zero (suc slot) parts = 0
parts_if (suc at) zero parts = 0
parts_if (suc at) (suc slot) parts = parts_if at slot parts

-- the parts of the callers of a slot
abbrev pub held : ℕ → List Placed → ℕ
held slot [] = 0
held slot ((at, k) ∷ others) = held slot others + parts_if at slot k.parts

-- the main caller of each connection and the others have all parts
unfoldable pub HaveAll : List Knowledge → List Placed → Type 0
HaveAll mains others = (slot : ℕ) → slot < length mains → parts_at slot mains + held slot others ≡ all_parts
