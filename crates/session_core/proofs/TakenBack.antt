-- The newest entry is noted, and taken back.
use Rattle.std.proofs.Common.{◌≡◌, ◌+◌, ◌-◌, ◌++◌, ◌∷◌, [], ℕ, List, length, take, Option, Some, None, refl, ap, arith, length-append, ◌∙◌}
use Rattle.std.proofs.lemmas.List.{take-append-le, take_all}
use Rattle.tape.specs.Told.{told_before, told_with}
use Rattle.tape.specs.declared.entry.Entry.{Entry}

pub told_again : (told : Option (List Entry)) (e : Entry) → told_before (told_with told e) ≡ told
told_again None e = refl
told_again (Some es) e =
    let count : length (es ++ e ∷ []) - 1 ≡ length es = omega (arith, length-append es (e ∷ [])) in
    ap Some (ap (λ (n : ℕ). take n (es ++ e ∷ [])) count ∙ take-append-le (length es) es (e ∷ []) (omega (arith)) ∙ take_all (length es) es (omega (arith)))

pub taken_back : (old noted new : ℕ) → noted ≡ old + 1 → new + 1 ≡ noted → new ≡ old
taken_back old noted new more fewer = omega (arith, more, fewer)
