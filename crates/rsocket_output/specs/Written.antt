-- What is written to the output.
use Rattle.std.specs.Prelude.{◌≡◌, ◌≢◌, ℕ, ◌⊎◌, List, ◌++◌, ◌∷◌, [], codes}
use Rattle.std.specs.Io.KnownBytes.{append_known}
use Rattle.outside.specs.Causes.{one_more}
use Rattle.outside.specs.Streams.{ByteStream}

-- all of the text was written, and no write failed
pub record Writes (text : List ℕ) (old new : ByteStream) : Type 0 where
  pub told : new.told ≡ append_known old.told text
  pub faults : new.faults ≡ old.faults

-- a prefix of the text was written, and then a write failed, the last one
pub record CutOff (text : List ℕ) (old new : ByteStream) : Type 0 where
  pub written : List ℕ
  pub rest : List ℕ
  pub text_is : text ≡ written ++ rest
  pub told : new.told ≡ append_known old.told written
  pub faults : new.faults ≡ one_more old.faults

-- the line was written, or where a write failed a prefix of it
abbrev pub WritesLine : List ℕ → ByteStream → ByteStream → Type 0
WritesLine line old new = Writes line old new ⊎ CutOff line old new

-- such a text was written
abbrev pub WritesSome : (List ℕ → Type 0) → ByteStream → ByteStream → Type 0
WritesSome IsOutput old new = (text : List ℕ) × IsOutput text × Writes text old new

-- a prefix of such a text was written, and then a write failed
abbrev pub CutsOffSome : (List ℕ → Type 0) → ByteStream → ByteStream → Type 0
CutsOffSome IsOutput old new = (text : List ℕ) × IsOutput text × CutOff text old new

-- the failed writes of a run with this status: none, or on 2, 5 and 6 one
abbrev pub FailedWrites : ℕ → ℕ → ℕ → Type 0
FailedWrites old new status = ((new ≡ old) × (status ≢ 5)) ⊎ ((new ≡ one_more old) × ((status ≡ 2) ⊎ ((status ≡ 5) ⊎ (status ≡ 6))))

-- the last line of a run whose memory ran out
abbrev pub memory_line : List ℕ
memory_line = codes "rsocket: out of memory" ++ 10 ∷ []
