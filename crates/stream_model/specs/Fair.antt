-- The marks that the rules of an end let through.
use Rattle.std.specs.Prelude.{◌≡◌, ◌<◌, ◌^◌, ℕ, ◌%◌, true, false, List, [], ◌∷◌, Option, Some, None, IsSome, length}
use Rattle.rs_wire.specs.declared.words.Way.{Way}
use Rattle.rs_wire.specs.declared.words.Role.{Role}
use Rattle.rs_wire.specs.declared.words.Role.TheVariants.{Requester, Responder}
use Rattle.rs_wire.specs.declared.delivery.Delivery.{Delivery}
use Rattle.stream_model.specs.Marks.{Opening, RequestN, Mark, Opens, Passed, Sent, Got, Pushed, Took, TookJob}
use Rattle.stream_model.specs.Turns.{Word, Said, Taken, Turn, item_next, used, granted, waiting, needs_credit, other, is_fnf}
use Rattle.stream_model.specs.Streams.{turn, live, highest, jobs_waiting}

-- an item finds credit left on its way
abbrev pub FindsCredit : Opening → List Word → Word → Way → Type 0
FindsCredit o xs x w = IsSome (item_next o xs w x) → used o xs w < granted o xs w

-- what is taken waits, before all else
abbrev pub TakesFirst : List Delivery → Word → Type 0
TakesFirst waits (Taken d) = (rest : List Delivery) × (waits ≡ d ∷ rest)
TakesFirst waits (Said by step) = Unit {0}

-- a grant is an amount
abbrev pub GrantsAmount : Word → Type 0
GrantsAmount (Said by (RequestN n)) = n < 2 ^ 31
GrantsAmount _ = Unit {0}

pub record FitsWord (o : Opening) (xs : List Word) (x : Word) : Type 0 where
  pub credit : needs_credit o.kind ≡ true → (w : Way) → FindsCredit o xs x w
  pub take : TakesFirst (waiting o xs) x
  pub grant : GrantsAmount x

-- the words of a stream fit, each after those before it
unfoldable pub FairWords : Opening → List Word → Type 0
FairWords o [] = Unit {0}
FairWords o (x ∷ xs) = FairWords o xs × FitsWord o xs x

abbrev pub FitsTurn : Option Turn → (Role → Word) → Type 0
FitsTurn None word = Unit {0}
FitsTurn (Some t) word = FitsWord t.opening t.words (word t.opening.role)

-- a request of this end's has its message, and finds a place, which a fire-and-forget needs not
abbrev pub FindsPlace : ℕ → List Mark → Opening → Role → Type 0
FindsPlace most seen o Requester = IsSome o.whole × (is_fnf o.kind ≡ false → live most seen < most)
FindsPlace most seen o Responder = Unit {0}

-- a request's id is above all of its parity
pub record FitsOpening (most : ℕ) (seen : List Mark) (s : ℕ) (o : Opening) : Type 0 where
  pub fresh : highest (s % 2) seen < s
  pub initial : o.initial < 2 ^ 31
  pub place : FindsPlace most seen o o.role

-- a mark may follow those before it
abbrev pub Fits : ℕ → List Mark → Mark → Type 0
Fits most seen (Opens s opening) = FitsOpening most seen s opening
Fits most seen (Passed s) = highest (s % 2) seen < s
Fits most seen (Sent s step) = FitsTurn (turn most seen s) (λ role. Said role step)
Fits most seen (Got s step) = FitsTurn (turn most seen s) (λ role. Said (other role) step)
Fits most seen (Pushed metadata) = Unit {0}
Fits most seen (Took s d) = FitsTurn (turn most seen s) (λ role. Taken d)
Fits most seen TookJob = 0 < length (jobs_waiting most seen)

unfoldable pub Fair : ℕ → List Mark → Type 0
Fair most [] = Unit {0}
Fair most (m ∷ seen) = Fair most seen × Fits most seen m
