-- The bytes taken from a link, as the frames that came. Entries stand newest first.
use Rattle.std.specs.Prelude.{◌≡◌, ◌<◌, ◌≤◌, ◌⊎◌, ℕ, List, [], ◌∷◌, Option, Some, None}
use Rattle.rs_frame.specs.declared.frame.Frame.{Frame}
use Rattle.rs_frame.specs.declared.fault.FrameFault.{FrameFault}
use Rattle.rs_frame.specs.Rules.{broken, number_of_rule}
use Rattle.rs_frame.specs.Spelling.{IsSpellable, Spells}
use Rattle.rs_chunk.specs.Stream.{IsCut, IsTooLong, IsWhole, first_frame}
use Rattle.tape.specs.declared.event.Event.{Event}
use Rattle.tape.specs.declared.event.Event.TheVariants as event
use Rattle.session_model.specs.declared.numbers.TheConstants.{LONG_FRAME}

-- each frame in any of its spellings
abbrev pub AreSpelled : List Frame → List (List ℕ) → Type 0
AreSpelled [] [] = Unit {0}
AreSpelled (f ∷ frames) (s ∷ spellings) = Spells f s × AreSpelled frames spellings
AreSpelled _ _ = ⊥

-- the bytes break the rule of this number, from 1 to 9, and no lesser one
abbrev pub Breaks : ℕ → List ℕ → Type 0
Breaks rule bytes = (fault : FrameFault) × (broken bytes ≡ Some fault) × (number_of_rule fault ≡ Some rule)

-- the bytes begin with a whole frame that breaks this rule, or with a length above the limit, which is a rule of its own
abbrev pub BeginsBad : ℕ → ℕ → List ℕ → Type 0
BeginsBad rule most bytes = (IsWhole bytes most × Breaks rule (first_frame bytes)) ⊎ (IsTooLong bytes most × (rule ≡ LONG_FRAME))

-- what follows the frames that came: the rest, or bytes that begin with what broke this rule
abbrev pub IsAfter : Option ℕ → ℕ → List ℕ → List ℕ → Type 0
IsAfter None most rest more = more ≡ rest
IsAfter (Some rule) most rest more = BeginsBad rule most more

-- The bytes taken are these frames, in the spellings taken, each after its length, and then the rest; where bytes came that are no frame, up to those.
pub record HasRead (frames : List Frame) (bad : Option ℕ) (most : ℕ) (rest taken : List ℕ) : Type 0 where
  pub spellings : List (List ℕ)
  pub more : List ℕ
  pub spelled : AreSpelled frames spellings
  pub cut : IsCut taken spellings more
  pub after : IsAfter bad most rest more

-- the bytes begin with a whole frame within the limit, or with a length above it
abbrev pub IsWaiting : List ℕ → ℕ → Type 0
IsWaiting bytes most = IsWhole bytes most ⊎ IsTooLong bytes most

-- they begin with neither
abbrev pub IsPart : List ℕ → ℕ → Type 0
IsPart bytes most = (¬ (IsWhole bytes most)) × (¬ (IsTooLong bytes most))

-- what the bytes begin with comes to connection c as this event
abbrev pub IsInFront : ℕ → List ℕ → ℕ → Event → Type 0
IsInFront c bytes most (event.Came conn f) = (conn ≡ c) × IsWhole bytes most × Spells f (first_frame bytes) × IsSpellable f
IsInFront c bytes most (event.Bad conn rule) = (conn ≡ c) × BeginsBad rule most bytes × (0 < rule) × (rule ≤ LONG_FRAME)
IsInFront c bytes most _ = ⊥
