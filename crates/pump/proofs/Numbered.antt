-- A rule that bytes break has a number from 1 to 9.
use Rattle.std.proofs.Common.{◌≡◌, ◌<◌, ◌≤◌, ℕ, Some, subst, arith}
use Rattle.rs_frame.specs.declared.fault.FrameFault.{FrameFault}
use Rattle.rs_frame.specs.declared.fault.FrameFault.TheVariants as faults
use Rattle.rs_frame.specs.Rules.{number_of_rule}

abbrev IsNumber : ℕ → Type 0
IsNumber n = (0 < n) × (n ≤ 9)

same : (n m : ℕ) → Some n ≡ Some m → IsNumber n → IsNumber m
same n m e is =
    let equal : n ≡ m = cc in
    subst IsNumber equal is

pub is_number : (fault : FrameFault) (n : ℕ) → number_of_rule fault ≡ Some n → (0 < n) × (n ≤ 9)
is_number faults.ShortHeader n e = same 1 n e (omega arith, omega arith)
is_number faults.LeadingBit n e = same 2 n e (omega arith, omega arith)
is_number faults.WrongStream n e = same 3 n e (omega arith, omega arith)
is_number faults.ShortBody n e = same 4 n e (omega arith, omega arith)
is_number faults.LongBody n e = same 5 n e (omega arith, omega arith)
is_number faults.ZeroNumber n e = same 6 n e (omega arith, omega arith)
is_number faults.NameLength n e = same 7 n e (omega arith, omega arith)
is_number faults.MetadataLength n e = same 8 n e (omega arith, omega arith)
is_number faults.HighBit n e = same 9 n e (omega arith, omega arith)
is_number faults.OutOfMemory n e = absurd cc
