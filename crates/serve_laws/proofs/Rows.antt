-- A number, a front and a tape for each slot.
use Rattle.std.proofs.Common.{◌≡◌, ◌∙◌, ℕ, zero, suc, List, [], ◌∷◌, ◌++◌, length, slice_get, Some, refl, ap, arith}
use Rattle.tape.specs.declared.entry.Entry.{Entry}
use Rattle.session_laws.specs.Headline.{IsEarlier}
use Rattle.link_laws.specs.Unopened.{AreEarlier}
use Rattle.serve_model.specs.Counts.{accepted_by, opens_by}
use Rattle.serve_laws.specs.Links.{accepted_in, opens_in}

-- one list has something where one of the same length has
pub there_too : {A B : Type 0} (xs : List A) (ys : List B) (i : ℕ) (x : A) → length xs ≡ length ys → slice_get xs i ≡ Some x → (y : B) × (slice_get ys i ≡ Some y)
there_too [] ys i x same is = absurd (cc)
there_too (x ∷ xs) [] i y same is = absurd (omega (arith, same))
there_too (x ∷ xs) (y ∷ ys) zero z same is = (y, refl)
there_too (x ∷ xs) (y ∷ ys) (suc i) z same is = there_too xs ys i z (omega (arith, same)) is

-- what is said of each slot, where there are a number, a front and a tape
abbrev pub AtEach : (ℕ → List Entry → List Entry → Type 0) → List ℕ → List (List Entry) → List (List Entry) → Type 0
AtEach R row fronts tapes = (i n : ℕ) (front past : List Entry) → slice_get row i ≡ Some n → slice_get fronts i ≡ Some front → slice_get tapes i ≡ Some past → R n front past

pub earlier_of : (row : List ℕ) (fronts tapes : List (List Entry)) → length row ≡ length fronts → length fronts ≡ length tapes → AtEach (λ n front past. IsEarlier front past) row fronts tapes → AreEarlier fronts tapes
earlier_of row [] [] same also each = tt
earlier_of row [] (tape ∷ tapes) same also each = absurd (omega (arith, also))
earlier_of row (front ∷ fronts) [] same also each = absurd (omega (arith, also))
earlier_of [] (front ∷ fronts) (tape ∷ tapes) same also each = absurd (omega (arith, same))
earlier_of (n ∷ row) (front ∷ fronts) (tape ∷ tapes) same also each = (
  each 0 n front tape refl refl refl,
  earlier_of row fronts tapes (omega (arith, same)) (omega (arith, also)) (λ i m f t a b c. each (suc i) m f t a b c),
)

pub earlier_at : (fronts tapes : List (List Entry)) (j : ℕ) (front : List Entry) → AreEarlier fronts tapes → slice_get fronts j ≡ Some front → (past : List Entry) × (slice_get tapes j ≡ Some past) × IsEarlier front past
earlier_at [] tapes j front earlier is = absurd (cc)
earlier_at (f ∷ fronts) [] j front earlier is = absurd earlier
earlier_at (f ∷ fronts) (t ∷ tapes) zero front earlier is = (t, refl, first earlier.0 is)
  where
    first : IsEarlier f t → Some f ≡ Some front → IsEarlier front t
    first e same = let eq : f ≡ front = cc in (e.0, e.1 ∙ ap (λ (l : List Entry). e.0 ++ l) eq)
earlier_at (f ∷ fronts) (t ∷ tapes) (suc j) front earlier is = earlier_at fronts tapes j front earlier.1 is

pub opens_stay : (row : List ℕ) (fronts tapes : List (List Entry)) → length row ≡ length fronts → length fronts ≡ length tapes → AtEach (λ n front past. opens_by n past ≡ opens_by n front) row fronts tapes → opens_in row tapes ≡ opens_in row fronts
opens_stay [] fronts tapes same also each = refl
opens_stay (n ∷ row) [] tapes same also each = absurd (omega (arith, same))
opens_stay (n ∷ row) (front ∷ fronts) [] same also each = absurd (omega (arith, also))
opens_stay (n ∷ row) (front ∷ fronts) (tape ∷ tapes) same also each =
    let here = each 0 n front tape refl refl refl in
    let rest = opens_stay row fronts tapes (omega (arith, same)) (omega (arith, also)) (λ i m f t a b c. each (suc i) m f t a b c) in
    omega (arith, here, rest)

pub accepted_stay : (row : List ℕ) (fronts tapes : List (List Entry)) → length row ≡ length fronts → length fronts ≡ length tapes → AtEach (λ n front past. accepted_by n past ≡ accepted_by n front) row fronts tapes → accepted_in row tapes ≡ accepted_in row fronts
accepted_stay [] fronts tapes same also each = refl
accepted_stay (n ∷ row) [] tapes same also each = absurd (omega (arith, same))
accepted_stay (n ∷ row) (front ∷ fronts) [] same also each = absurd (omega (arith, also))
accepted_stay (n ∷ row) (front ∷ fronts) (tape ∷ tapes) same also each =
    let here = each 0 n front tape refl refl refl in
    let rest = accepted_stay row fronts tapes (omega (arith, same)) (omega (arith, also)) (λ i m f t a b c. each (suc i) m f t a b c) in
    omega (arith, here, rest)
