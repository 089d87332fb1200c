-- The bytes that one part of a turn moves.
use Rattle.std.specs.Prelude.{◌≡◌, ◌<◌, ◌≤◌, ℕ, List, ◌++◌, length, Option, Some, None}
use Rattle.std.specs.Io.KnownBytes.{append_known}
use Rattle.outside.specs.Causes.{Rose}
use Rattle.outside.specs.Links.{Shown}
use Rattle.outside.specs.declared.link.Taken.{Taken}
use Rattle.outside.specs.declared.link.Taken.TheVariants as takes
use Rattle.rs_chunk.specs.Stream.{IsWhole, first_frame}
use Rattle.rs_frame.specs.declared.frame.Frame.{Frame}
use Rattle.rs_frame.specs.Spelling.{Spells}
use Rattle.rs_frame.specs.Views.{IsBare}
use Rattle.tape.specs.declared.event.Event.{Event}
use Rattle.link_model.specs.Reading.{IsInFront, IsPart}
use Rattle.pump.specs.declared.numbers.TheConstants.{PIECE}
use Rattle.pump.specs.declared.outgoing.Gave.{Gave}
use Rattle.pump.specs.declared.outgoing.Gave.TheVariants as gaves
use Rattle.pump.specs.declared.incoming.Took.{Took}
use Rattle.pump.specs.declared.incoming.Took.TheVariants as tooks

-- so many bytes more, where they are shown
abbrev pub IsGrown : ℕ → Option (List ℕ) → Option (List ℕ) → Type 0
IsGrown n old new = (piece : List ℕ) × (length piece ≡ n) × (new ≡ append_known old piece)

-- some bytes more, or none, where they are shown
abbrev pub HasGrown : Option (List ℕ) → Option (List ℕ) → Type 0
HasGrown old new = (piece : List ℕ) × (new ≡ append_known old piece)

-- ---- giving

-- the link was given the first of the bytes that were left
pub record GivesFirst (old new : Option (List ℕ)) (before after : List ℕ) : Type 0 where
  pub piece : List ℕ
  pub parts : before ≡ piece ++ after
  pub given : new ≡ append_known old piece

-- what giving did to the link, and why it gave no more
abbrev pub HasGave : Shown → Shown → Gave → Type 0
HasGave old new gaves.Nothing = new ≡ old
HasGave old new (gaves.Count n) = (0 < n) × (n ≤ PIECE) × IsGrown n old.given new.given
HasGave old new gaves.Stalled = (new.given ≡ old.given) × Rose old.counts.stalls new.counts.stalls
HasGave old new gaves.Failed = (new.given ≡ old.given) × Rose old.counts.faults new.counts.faults

abbrev pub given_in : Gave → ℕ
given_in (gaves.Count n) = n
given_in _ = 0

-- ---- taking

-- the bytes taken that were not passed: those that the reader has, and those that it had no memory for
pub record Comes : Type 0 where
  pub bytes : List ℕ
  pub waits : List ℕ
  pub max_in : ℕ

abbrev pub all_of : Comes → List ℕ
all_of i = i.bytes ++ i.waits

-- bytes were taken from the link, and follow the others
pub record TakesMore (old new : Option (List ℕ)) (before after : List ℕ) : Type 0 where
  pub piece : List ℕ
  pub taken : new ≡ append_known old piece
  pub behind : after ≡ before ++ piece

-- a take so answered took so many bytes, of the room that there is
abbrev pub IsCounted : Option (List ℕ) → Option (List ℕ) → Taken → Type 0
IsCounted old new (takes.Took n) = (0 < n) × (n ≤ PIECE) × IsGrown n old new
IsCounted old new _ = new ≡ old

-- the count that a take so answered is known by rose
abbrev pub IsCaused : Shown → Shown → Taken → Type 0
IsCaused old new (takes.Took n) = Unit {0}
IsCaused old new takes.Lull = Rose old.counts.lulls new.counts.lulls
IsCaused old new takes.End = Rose old.counts.ends new.counts.ends
IsCaused old new takes.Failed = Rose old.counts.faults new.counts.faults

-- what taking did to the link, and why it took no more
abbrev pub HasTook : Shown → Shown → Took → Type 0
HasTook old new tooks.Nothing = new ≡ old
HasTook old new (tooks.Count n) = (0 < n) × (n ≤ PIECE) × IsGrown n old.taken new.taken
HasTook old new tooks.Lull = (new.taken ≡ old.taken) × Rose old.counts.lulls new.counts.lulls
HasTook old new tooks.End = (new.taken ≡ old.taken) × Rose old.counts.ends new.counts.ends
HasTook old new tooks.Failed = (new.taken ≡ old.taken) × Rose old.counts.faults new.counts.faults
HasTook old new tooks.OutOfMemory = HasGrown old.taken new.taken

-- a take took no more than there is room for
abbrev pub IsFew : Taken → Type 0
IsFew (takes.Took n) = n ≤ PIECE
IsFew _ = Unit {0}

abbrev pub took_by : Taken → Took
took_by (takes.Took n) = tooks.Count n
took_by takes.Lull = tooks.Lull
took_by takes.End = tooks.End
took_by takes.Failed = tooks.Failed

abbrev pub taken_in : Took → ℕ
taken_in (tooks.Count n) = n
taken_in _ = 0

-- ---- what stands in front

abbrev pub IsNext : ℕ → List ℕ → ℕ → Option Event → Type 0
IsNext c bytes most None = IsPart bytes most
IsNext c bytes most (Some e) = IsInFront c bytes most e

-- a whole frame within the limit stands in front, and carries bytes beside its numbers
abbrev pub CarriesBytes : List ℕ → ℕ → Type 0
CarriesBytes bytes most = (f : Frame) × IsWhole bytes most × Spells f (first_frame bytes) × (¬ (IsBare f))
