-- What was found in the bytes, in the words of the contracts of `view` and `decode`.
use Rattle.std.proofs.Common.{◌≡◌, ◌^◌, ◌<◌, ℕ, Bool, true, false, cond, List, [], ◌∷◌, length, Option, Some, Result, Ok, Err, refl, sym, ap, subst, ◌∙◌}
use Rattle.std.specs.Prelude.{IfErr}
use Rattle.std.specs.List.{AllByRecursion}
use Rattle.rs_wire.specs.Ranges.{first_true}
use Rattle.rs_frame.specs.declared.fault.FrameFault.{FrameFault}
use Rattle.rs_frame.specs.declared.fault.FrameFault.TheVariants as faults
use Rattle.rs_frame.specs.declared.frame.Frame.{Frame}
use Rattle.rs_frame.specs.declared.frame_ref.FrameRef.{FrameRef}
use Rattle.rs_frame.specs.Reading.{frame_at, rule_of}
use Rattle.rs_frame.specs.Rules.{Gives, IsRule, broken, number_of_rule, rules_of}
use Rattle.rs_frame.specs.Spelling.{Spells, IsSpellable}
use Rattle.rs_frame.specs.Views.{BreaksRule, Shows, frame_view}
use Rattle.rs_frame.proofs.Bytes.{IsBytes}
use Rattle.rs_frame.proofs.Decoded.{is_spellable}
use Rattle.rs_frame.proofs.Least.{frame_rule}
use Rattle.rs_frame.proofs.Whole.{frame_takes, spells_read}

by_test : (test : Bool) (rule : FrameFault) (others : Option FrameFault) (fault : FrameFault) → IsRule rule → (others ≡ Some fault → IsRule fault) → cond test (Some rule) others ≡ Some fault → IsRule fault
by_test true rule others fault is next e =
    let same : rule ≡ fault = cc in
    subst IsRule same is
by_test false rule others fault is next e = next e

-- the first rule that is broken is one of the list
first_is_rule : (rules : List (Bool × FrameFault)) → AllByRecursion (λ r. IsRule r.1) rules → (fault : FrameFault) → first_true rules ≡ Some fault → IsRule fault
first_is_rule [] all fault e = absurd cc
first_is_rule (c ∷ cs) all fault e = by_test c.0 c.1 (first_true cs) fault all.0 (λ f. first_is_rule cs all.1 fault f) e

broken_is_rule : (bytes : List ℕ) (fault : FrameFault) → broken bytes ≡ Some fault → IsRule fault
broken_is_rule bytes fault e = first_is_rule (rules_of bytes) (refl, (refl, (refl, (refl, (refl, (refl, (refl, (refl, (refl, tt))))))))) fault e

least_of : (bytes : List ℕ) (fault : FrameFault) → Err fault ≡ frame_at bytes → broken bytes ≡ Some fault
least_of bytes fault e = sym (frame_rule bytes) ∙ ap rule_of (sym e)

-- what was found where no frame lies is a rule, and not out of memory
pub found_is_rule : (bytes : List ℕ) (r : Result FrameRef FrameFault) → Shows r (frame_at bytes) → IfErr r IsRule
found_is_rule bytes (Ok f) e = tt
found_is_rule bytes (Err fault) e = broken_is_rule bytes fault (least_of bytes fault e)

-- ---- the clauses of `view`

pub found_spelled : (bytes : List ℕ) (f : FrameRef) → IsBytes bytes → Shows (Ok f) (frame_at bytes) → Spells (frame_view f) bytes
found_spelled bytes f h e = frame_takes bytes (frame_view f) h (sym e)

pub found_spellable : (bytes : List ℕ) (f : FrameRef) → IsBytes bytes → length bytes < 2 ^ 24 → Shows (Ok f) (frame_at bytes) → IsSpellable (frame_view f)
found_spellable bytes f h short e = is_spellable bytes (Ok (frame_view f)) h short (sym e)

pub found_only : (bytes : List ℕ) (f : FrameRef) (g : Frame) → Spells g bytes → Shows (Ok f) (frame_at bytes) → frame_view f ≡ g
found_only bytes f g s e =
    let both : Ok (frame_view f) ≡ Ok g = e ∙ spells_read g bytes s in
    cc

pub none_only : {X : Type 0} (bytes : List ℕ) (fault : FrameFault) (g : Frame) → Spells g bytes → Shows (Err fault) (frame_at bytes) → X
none_only bytes fault g s e =
    let both : Err fault ≡ Ok g = e ∙ spells_read g bytes s in
    absurd cc

pub found_rule : (bytes : List ℕ) (fault : FrameFault) (n : ℕ) → Shows (Err fault) (frame_at bytes) → number_of_rule fault ≡ Some n → BreaksRule n bytes
found_rule bytes fault n e is = (fault, least_of bytes fault e, is)

-- ---- the clause of `read`

pub found_rule_given : (bytes : List ℕ) (fault : FrameFault) → Shows (Err fault) (frame_at bytes) → Gives (Err fault) (frame_at bytes)
found_rule_given bytes faults.ShortHeader e = sym e
found_rule_given bytes faults.LeadingBit e = sym e
found_rule_given bytes faults.WrongStream e = sym e
found_rule_given bytes faults.ShortBody e = sym e
found_rule_given bytes faults.LongBody e = sym e
found_rule_given bytes faults.ZeroNumber e = sym e
found_rule_given bytes faults.NameLength e = sym e
found_rule_given bytes faults.MetadataLength e = sym e
found_rule_given bytes faults.HighBit e = sym e
found_rule_given bytes faults.OutOfMemory e =
    let none : false ≡ true = found_is_rule bytes (Err faults.OutOfMemory) e in
    absurd cc
