-- What a link shows, and what one take and one give do to it.
use Rattle.std.specs.Prelude.{◌≡◌, ℕ, ◌≤◌, List, [], ◌∷◌, ◌++◌, length, take, Option, IfSome}
use Rattle.std.specs.Io.KnownBytes.{append_known}
use Rattle.std.specs.Option.{option_map}
use Rattle.outside.specs.Causes.{one_more}
use Rattle.outside.specs.Streams.{IsPartOf}
use Rattle.outside.specs.declared.link.Taken.{Taken}
use Rattle.outside.specs.declared.link.Taken.TheVariants as takes
use Rattle.outside.specs.declared.link.Given.{Given}
use Rattle.outside.specs.declared.link.Given.TheVariants as gives

-- how many calls failed, how many takes lulled, how many gives lulled, and how many takes met the end
pub record Counts : Type 0 where
  pub faults : ℕ
  pub lulls : ℕ
  pub stalls : ℕ
  pub ends : ℕ

-- the bytes taken and the bytes given, where the link shows them, and its counts
pub record Shown : Type 0 where
  pub taken : Option (List ℕ)
  pub given : Option (List ℕ)
  pub counts : Counts

-- no count fell
pub record NoneFell (old new : Counts) : Type 0 where
  pub faults : old.faults ≤ new.faults
  pub lulls : old.lulls ≤ new.lulls
  pub stalls : old.stalls ≤ new.stalls
  pub ends : old.ends ≤ new.ends

-- the bytes taken before and after a take: those at the front of the buffer are added, or none
abbrev pub IsTake : Option (List ℕ) → Option (List ℕ) → List ℕ → Taken → Type 0
IsTake old new buffer (takes.Took n) = IsPartOf n (length buffer) × (new ≡ append_known old (take n buffer))
IsTake old new buffer takes.Lull = new ≡ old
IsTake old new buffer takes.End = new ≡ old
IsTake old new buffer takes.Failed = new ≡ old

-- the bytes given before and after a give: the first of the piece are added, or none
abbrev pub IsGive : Option (List ℕ) → Option (List ℕ) → List ℕ → Given → Type 0
IsGive old new piece (gives.Took n) = IsPartOf n (length piece) × (new ≡ append_known old (take n piece))
IsGive old new piece gives.Lull = new ≡ old
IsGive old new piece gives.Failed = new ≡ old

-- the counts once a take gave this answer
abbrev pub counts_after_take : Taken → Counts → Counts
counts_after_take (takes.Took n) c = c
counts_after_take takes.Lull c = record c { lulls = one_more c.lulls }
counts_after_take takes.End c = record c { ends = one_more c.ends }
counts_after_take takes.Failed c = record c { faults = one_more c.faults }

-- the counts once a give gave this answer
abbrev pub counts_after_give : Given → Counts → Counts
counts_after_give (gives.Took n) c = c
counts_after_give gives.Lull c = record c { stalls = one_more c.stalls }
counts_after_give gives.Failed c = record c { faults = one_more c.faults }

abbrev pub no_counts : Counts
no_counts = record { faults = 0; lulls = 0; stalls = 0; ends = 0 }

-- nothing was taken or given, and nothing counted
pub record IsNew (s : Shown) : Type 0 where
  pub taken : IfSome s.taken (λ bytes. bytes ≡ [])
  pub given : IfSome s.given (λ bytes. bytes ≡ [])
  pub counts : s.counts ≡ no_counts

-- one more at the end of a list, where it is shown
abbrev pub and_then_one : {X : Type 0} → Option (List X) → X → Option (List X)
and_then_one told x = option_map (λ xs. xs ++ x ∷ []) told
