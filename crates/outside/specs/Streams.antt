-- What one read and one write do to the content that is shown.
use Rattle.std.specs.Prelude.{◌≡◌, ℕ, ◌<◌, ◌≤◌, List, [], length, take, Option, IfSome}
use Rattle.std.specs.Io.KnownBytes.{prepend_known, append_known}
use Rattle.outside.specs.Causes.{one_more}
use Rattle.outside.specs.declared.source.Read.{Read}
use Rattle.outside.specs.declared.source.Read.TheVariants as reads
use Rattle.outside.specs.declared.sink.Wrote.{Wrote}
use Rattle.outside.specs.declared.sink.Wrote.TheVariants as writes

-- what a source or a sink shows: the bytes left or written, where it shows them, and how many of its calls failed
pub record ByteStream : Type 0 where
  pub told : Option (List ℕ)
  pub faults : ℕ

-- how many bytes one call moves, of at most this many
abbrev pub IsPartOf : ℕ → ℕ → Type 0
IsPartOf n most = (0 < n) × (n ≤ most)

-- the bytes left before and after a read: it took the first of them, or there were none, or it took none
abbrev pub IsRead : Option (List ℕ) → Option (List ℕ) → List ℕ → Read → Type 0
IsRead left rest buffer (reads.Took n) = IsPartOf n (length buffer) × (left ≡ prepend_known (take n buffer) rest)
IsRead left rest buffer reads.End = IfSome left (λ bytes. bytes ≡ []) × (rest ≡ left)
IsRead left rest buffer reads.Failed = rest ≡ left

-- the bytes written before and after a write: the first of the piece are added, or none
abbrev pub IsWrite : Option (List ℕ) → Option (List ℕ) → List ℕ → Wrote → Type 0
IsWrite old new piece (writes.Took n) = IsPartOf n (length piece) × (new ≡ append_known old (take n piece))
IsWrite old new piece writes.Failed = new ≡ old

-- the faults once a read gave this answer
abbrev pub faults_after_read : Read → ℕ → ℕ
faults_after_read (reads.Took n) faults = faults
faults_after_read reads.End faults = faults
faults_after_read reads.Failed faults = one_more faults

-- the faults once a write gave this answer
abbrev pub faults_after_write : Wrote → ℕ → ℕ
faults_after_write (writes.Took n) faults = faults
faults_after_write writes.Failed faults = one_more faults
