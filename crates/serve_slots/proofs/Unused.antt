-- Tapes that are put back without an entry.
use Rattle.std.proofs.Common.{◌≡◌, ◌∙◌, ℕ, List, [], ◌∷◌, ◌++◌, length, reverse, Option, Some, None, Result, Ok, Err, IfSome, OnErr, refl, sym, ap, arith, append-nil}
use Rattle.tape.specs.declared.entry.Entry.{Entry}
use Rattle.serve_slots.specs.Tapes.{AreUnused}

pub on_err : {A E : Type 0} {P : Type 0} (r : Result A E) → P → OnErr r P
on_err (Ok x) p = tt
on_err (Err e) p = p

pub unused_none : (old new : List (Option (List Entry))) → new ≡ old → AreUnused old new
unused_none old new same = ([], tt, record { shown = []; back = same ∙ sym (append-nil old); told = tt })

pub unused_one : (old mid new : List (Option (List Entry))) (told : Option (List Entry)) (count : ℕ) → IfSome told (λ (es : List Entry). length es ≡ count) → count ≡ 0 → mid ≡ old → new ≡ mid ++ told ∷ [] → AreUnused old new
unused_one old mid new told count counted none same put =
    ([] ∷ [], (refl, tt), record { shown = told ∷ []; back = put ∙ ap (λ (l : List (Option (List Entry))). l ++ told ∷ []) same; told = (by told counted, tt) })
  where
    by : (o : Option (List Entry)) → IfSome o (λ (es : List Entry). length es ≡ count) → IfSome o (λ (list : List Entry). list ≡ reverse [])
    by None c = tt
    by (Some []) c = refl
    by (Some (e ∷ es)) c = absurd (omega (arith, c, none))
