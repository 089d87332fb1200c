-- Bytes that come after others.
use Rattle.std.proofs.Common.{◌≡◌, ◌≤◌, ◌∙◌, inl, inr, ℕ, List, [], ◌∷◌, ◌++◌, length, take, drop, Option, Some, None, IfSome, refl, sym, ap, subst, arith, append_assoc}
use Rattle.std.proofs.lemmas.List.{length-append, length-drop, take-append-le, drop-append-le, take_at}
use Rattle.std.specs.Io.KnownBytes.{append_known}
use Rattle.byteorder.specs.Endian.{big_from}
use Rattle.byteorder.specs.Numbers.{big_from-take}
use Rattle.rs_frame.specs.declared.frame.Frame.{Frame}
use Rattle.rs_frame.specs.Spelling.{Spells}
use Rattle.rs_chunk.specs.Stream.{IsCut, IsTooLong, IsWhole, first_frame, first_length}
use Rattle.link_model.specs.Reading.{AreSpelled, BeginsBad, Breaks, IsWaiting}

pub if_some : {A : Type 0} {P Q : A → Type 0} → (o : Option A) → ((x : A) → P x → Q x) → IfSome o P → IfSome o Q
if_some None f h = h
if_some (Some x) f h = f x h

pub if_more : (P Q : List ℕ → Type 0) (o : Option (List ℕ)) (piece : List ℕ) → ((x : List ℕ) → P x → Q (x ++ piece)) → IfSome o P → IfSome (append_known o piece) Q
if_more P Q None piece f h = h
if_more P Q (Some x) piece f h = f x h

-- the length in front stays where bytes come after it
length_same : (bytes piece : List ℕ) → 3 ≤ length bytes → first_length (bytes ++ piece) ≡ first_length bytes
length_same bytes piece le =
    sym (big_from-take 0 3 (length bytes) (bytes ++ piece) (omega arith)) ∙ ap (big_from 0 3) (take_at bytes piece (length bytes) refl)

frame_same : (bytes piece : List ℕ) (most : ℕ) → IsWhole bytes most → first_frame (bytes ++ piece) ≡ first_frame bytes
frame_same bytes piece most h =
    ap (λ n. take n (drop 3 (bytes ++ piece))) (length_same bytes piece h.0.0)
    ∙ (ap (take (first_length bytes)) (drop-append-le 3 bytes piece h.0.0)
    ∙ take-append-le (first_length bytes) (drop 3 bytes) piece (omega (arith, h.0.1, length-drop 3 bytes)))

whole_still : (bytes piece : List ℕ) (most : ℕ) → IsWhole bytes most → IsWhole (bytes ++ piece) most
whole_still bytes piece most h =
    let n = length_same bytes piece h.0.0 in
    ((omega (arith, length-append bytes piece, h.0.0), omega (arith, length-append bytes piece, n, h.0.1)), omega (arith, n, h.1))

long_still : (bytes piece : List ℕ) (most : ℕ) → IsTooLong bytes most → IsTooLong (bytes ++ piece) most
long_still bytes piece most h =
    let n = length_same bytes piece h.0 in
    (omega (arith, length-append bytes piece, h.0), omega (arith, n, h.1))

pub waits_still : (bytes piece : List ℕ) (most : ℕ) → IsWaiting bytes most → IsWaiting (bytes ++ piece) most
waits_still bytes piece most (inl h) = inl (whole_still bytes piece most h)
waits_still bytes piece most (inr h) = inr (long_still bytes piece most h)

pub bad_still : (rule most : ℕ) (bytes piece : List ℕ) → BeginsBad rule most bytes → BeginsBad rule most (bytes ++ piece)
bad_still rule most bytes piece (inl h) = inl (whole_still bytes piece most h.0, subst (Breaks rule) (sym (frame_same bytes piece most h.0)) h.1)
bad_still rule most bytes piece (inr h) = inr (long_still bytes piece most h.0, h.1)

pub cut_still : (bytes piece : List ℕ) (frames : List (List ℕ)) (rest : List ℕ) → IsCut bytes frames rest → IsCut (bytes ++ piece) frames (rest ++ piece)
cut_still bytes piece frames rest h = record { whole = ap (λ t. t ++ piece) h.whole ∙ append_assoc _ rest piece; fit = h.fit }

pub spelled_more : (fs : List Frame) (ss : List (List ℕ)) (f : Frame) (s : List ℕ) → AreSpelled fs ss → Spells f s → AreSpelled (fs ++ f ∷ []) (ss ++ s ∷ [])
spelled_more [] [] f s h k = (k, tt)
spelled_more [] (x ∷ ss) f s h k = absurd h
spelled_more (y ∷ fs) [] f s h k = absurd h
spelled_more (y ∷ fs) (x ∷ ss) f s h k = (h.0, spelled_more fs ss f s h.1 k)
