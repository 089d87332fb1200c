-- Links on which no connection was opened. Entries stand newest first.
use Rattle.std.specs.Prelude.{◌≡◌, ◌<◌, ◌≤◌, ◌^◌, ◌+◌, ◌⊎◌, ℕ, Bool, List, [], ◌∷◌, length, Option, Some, IfSome}
use Rattle.rs_wire.specs.Words.{rule_word}
use Rattle.rs_wire.specs.declared.fault.Gone.TheVariants as gone
use Rattle.rs_wire.specs.declared.fault.Rule.TheVariants as rule
use Rattle.rs_wire.specs.declared.fault.SetupFault.TheVariants as fault
use Rattle.rs_wire.specs.declared.settings.Settings.{Settings}
use Rattle.rs_frame.specs.declared.frame.Frame.{Frame}
use Rattle.rs_frame.specs.declared.frame.Frame.TheVariants as frame
use Rattle.rs_frame.specs.Framed.{framed_frame}
use Rattle.rs_frame.specs.Spelling.{Spells}
use Rattle.rs_chunk.specs.Stream.{IsWhole, first_frame}
use Rattle.setup_core.specs.Setup.{code_of}
use Rattle.outside.specs.Causes.{IsMoment}
use Rattle.outside.specs.Links.{Shown}
use Rattle.tape.specs.declared.event.Event.TheVariants as event
use Rattle.tape.specs.declared.answer.Answer.{Answer}
use Rattle.tape.specs.declared.answer.Answer.TheVariants as answer
use Rattle.tape.specs.declared.entry.Entry.{Entry}
use Rattle.session_model.specs.Frames.{refusal}
use Rattle.session_model.specs.Lists.{IsPrefix}
use Rattle.session_laws.specs.Headline.{IsEarlier}
use Rattle.link_model.specs.Reading.{BeginsBad, IsPart}
use Rattle.link_model.specs.Leaving.{IsBroken}

-- ---- the ERROR that a link is turned away with

-- where the first bytes are no frame, by this rule: no session begins (RSocket 1.0, "Setup")
abbrev pub bad_first : ℕ → Frame
bad_first number = frame.Error 0 (code_of fault.NotFirst) (rule_word (rule.BadFrame number))

-- where the opening by this frame was so answered: one that meets a closed session is told that another has the token, or that none has it
abbrev pub turned_away_by : Frame → Answer → Option Frame
turned_away_by (frame.Resume r) (answer.Closed why) = refusal (answer.ResumeRefused gone.Token)
turned_away_by first (answer.Closed why) = refusal (answer.SetupRefused fault.TokenTaken)
turned_away_by first a = refusal a

-- the entry is an opening by this frame, so answered that the link is turned away with that ERROR
abbrev pub TurnsAway : Frame → Frame → Entry → Type 0
TurnsAway first error x = (taken : Bool) × (x.event ≡ event.Open (Some first) taken) × (turned_away_by first x.answer ≡ Some error)

-- one of the entries is
unfoldable pub IsTurnedAwayIn : Frame → Frame → List Entry → Type 0
IsTurnedAwayIn first error [] = ⊥
IsTurnedAwayIn first error (x ∷ past) = TurnsAway first error x ⊎ IsTurnedAwayIn first error past

-- so it is in one of these fronts
abbrev pub IsTurnedAwayInOne : Frame → Frame → List (List Entry) → Type 0
IsTurnedAwayInOne first error [] = ⊥
IsTurnedAwayInOne first error (past ∷ fronts) = IsTurnedAwayIn first error past ⊎ IsTurnedAwayInOne first error fronts

-- the bytes begin with what earns the ERROR: something that is no frame, or a first frame by which an opening was refused
abbrev pub Earns : ℕ → List (List Entry) → List ℕ → Frame → Type 0
Earns most fronts bytes error =
    ((number : ℕ) × BeginsBad number most bytes × (error ≡ bad_first number))
    ⊎ (IsWhole bytes most × ((first : Frame) × Spells first (first_frame bytes) × IsTurnedAwayInOne first error fronts))

-- The link was given the ERROR that its first bytes earn, or a prefix of it where a call failed, and nothing else.
pub record IsTurnedAway (most : ℕ) (fronts : List (List Entry)) (link : Shown) : Type 0 where
  pub error : Frame
  pub earned : IfSome link.taken (λ bytes. Earns most fronts bytes error)
  pub begins : IfSome link.given (λ bytes. IsPrefix bytes (framed_frame error))
  pub whole : link.counts.faults ≡ 0 → IfSome link.given (λ bytes. bytes ≡ framed_frame error)

-- ---- links without a first frame

-- so many milliseconds lie between two moments that the clock may give, where it shows them
pub record HasPassed (moments : Option (List ℕ)) (span : ℕ) : Type 0 where
  pub start : ℕ
  pub now : ℕ
  pub first : IsMoment moments start
  pub last : IsMoment moments now
  pub apart : start + span ≤ now

-- No whole frame was taken, and nothing given: the link failed or ended, or it lulled and its time is over.
pub record IsUnbegun (g : Settings) (moments : Option (List ℕ)) (link : Shown) : Type 0 where
  pub part : IfSome link.taken (λ bytes. IsPart bytes g.max_in)
  pub nothing : IfSome link.given (λ bytes. bytes ≡ [])
  pub why : IsBroken link ⊎ ((0 < link.counts.lulls) × HasPassed moments g.lifetime_ms)

-- ---- why no connection was opened on a link

-- one of the fronts takes no more entries
abbrev pub IsOneFull : List (List Entry) → Type 0
IsOneFull [] = ⊥
IsOneFull (past ∷ fronts) = (2 ^ 63 ≤ length past) ⊎ IsOneFull fronts

-- It was turned away, or no first frame came on it, or a tape is full.
abbrev pub Unopened : Settings → Option (List ℕ) → List (List Entry) → Shown → Type 0
Unopened g moments fronts link = IsTurnedAway g.max_in fronts link ⊎ IsUnbegun g moments link ⊎ IsOneFull fronts

-- each of these fronts was once a whole tape, in the same order
abbrev pub AreEarlier : List (List Entry) → List (List Entry) → Type 0
AreEarlier [] [] = Unit {0}
AreEarlier (front ∷ fronts) (tape ∷ tapes) = IsEarlier front tape × AreEarlier fronts tapes
AreEarlier _ _ = ⊥
