-- The frames that lie as they go onto a stream.
use Rattle.std.proofs.Common.{◌≡◌, ℕ, ◌+◌, ◌<◌, ◌≤◌, true, false, List, [], ◌∷◌, ◌++◌, length, take, drop, refl, sym, ap, subst, ◌∙◌, arith, inl, inr, if◌then◌else◌}
use Rattle.std.specs.Prelude.{nat_lt}
use Rattle.std.specs.List.{AllByRecursion, flat_map}
use Rattle.std.proofs.lemmas.Bool.{cases_lt}
use Rattle.std.proofs.lemmas.Bool.Decides.{nat_tests}
use Rattle.std.proofs.lemmas.List.{drop-append-le, drop-drop, drop_all, length-append, length-drop, take-append-le, take_all}
use Rattle.std.proofs.lemmas.List.Concat.{flat_map-cons}
use Rattle.rs_frame.specs.Framed.{framed}
use Rattle.position.specs.Boundaries.{pos_by}
use Rattle.position.proofs.Boundaries.{pos-push}
use Rattle.replay_buffer.specs.Laid.{IsPlain, laid, plain_after}
use Rattle.replay_buffer.specs.Storage.{IsPlainFrom}
use Rattle.replay_buffer.specs.declared.laid.TheConstants.{SHORT, LONG}
use Rattle.replay_buffer.proofs.Boundaries.{pos_parts, rising}
use Rattle.replay_buffer.proofs.Prefixed.{laid-plain}
use Rattle.replay_buffer.proofs.Stored.{all_push}

-- they do so once the first ones are gone
pub plain-drop : (plain at floor k : ℕ) (fs : List (List ℕ)) → IsPlainFrom plain at fs → k ≤ length fs → floor ≡ at + pos_by length (take k fs) → IsPlainFrom plain floor (drop k fs)
plain-drop plain at floor k fs p le is = λ j few up.
    subst (AllByRecursion IsPlain) (sym (drop-drop j k fs)) (p (k + j) (omega (arith, few, length-drop k fs, le)) (omega (arith, up, is, pos_parts fs k j)))

-- and from a position on, where a frame comes to the others: from the same, where this one does
push-same : (plain at : ℕ) (fs : List (List ℕ)) (f : List ℕ) → IsPlainFrom plain at fs → IsPlain f → IsPlainFrom plain at (fs ++ f ∷ [])
push-same plain at fs f p one = λ k le up. elim (cases_lt (length fs) k) [
  | inl more ↦ subst (AllByRecursion IsPlain) (sym (drop_all k (fs ++ f ∷ []) (omega (arith, more, length-append fs (f ∷ []))))) tt
  | inr few ↦
      let same = ap (pos_by length) (take-append-le k fs (f ∷ []) few) in
      subst (AllByRecursion IsPlain) (sym (drop-append-le k fs (f ∷ []) few)) (all_push IsPlain (drop k fs) f (p k few (omega (arith, up, same))) one)
]

-- and else from its end
push-end : (at end : ℕ) (fs : List (List ℕ)) (f : List ℕ) → 0 < length f → end ≡ at + pos_by length (fs ++ f ∷ []) → IsPlainFrom end at (fs ++ f ∷ [])
push-end at end fs f some is = λ k le up. elim (cases_lt (length fs) k) [
  | inl more ↦ subst (AllByRecursion IsPlain) (sym (drop_all k (fs ++ f ∷ []) (omega (arith, more, length-append fs (f ∷ []))))) tt
  | inr few ↦
      let same = ap (pos_by length) (take-append-le k fs (f ∷ []) few) in
      let all = ap (pos_by length) (take_all (length fs) fs (omega arith)) in
      absurd (omega (arith, up, is, same, all, rising fs k (length fs) few, pos-push length fs f, some))
]

pub plain-push : (plain at end n : ℕ) (fs : List (List ℕ)) (f : List ℕ) → IsPlainFrom plain at fs → 0 < length f → n ≡ length f → end ≡ at + pos_by length (fs ++ f ∷ [])
    → IsPlainFrom (plain_after plain end n) at (fs ++ f ∷ [])
plain-push plain at end n fs f p some size is =
    elim (nat_lt SHORT n) as (λ v. nat_lt SHORT n ≡ v → IsPlainFrom (if v then (if nat_lt n LONG then plain else end) else end) at (fs ++ f ∷ [])) [
      | true ↦ λ long. elim (nat_lt n LONG) as (λ v. nat_lt n LONG ≡ v → IsPlainFrom (if v then plain else end) at (fs ++ f ∷ [])) [
        | true ↦ λ short.
            let longer : SHORT < length f = grind (arith, nat_tests) in
            let shorter : length f < LONG = grind (arith, nat_tests) in
            push-same plain at fs f p (record { longer = longer; shorter = shorter })
        | false ↦ λ short. push-end at end fs f some is
      ] refl
      | false ↦ λ long. push-end at end fs f some is
    ] refl

pub plain-within : (plain end n : ℕ) → plain ≤ end → plain_after plain end n ≤ end
plain-within plain end n le =
    elim (nat_lt SHORT n) as (λ v. (if v then (if nat_lt n LONG then plain else end) else end) ≤ end) [
      | true ↦ elim (nat_lt n LONG) as (λ v. (if v then plain else end) ≤ end) [ true ↦ le | false ↦ omega arith ]
      | false ↦ omega arith
    ]

-- such frames lie as they go onto a stream
pub laid_all-plain : (fs : List (List ℕ)) → AllByRecursion IsPlain fs → flat_map laid fs ≡ flat_map framed fs
laid_all-plain [] all = refl
laid_all-plain (f ∷ fs) all =
    flat_map-cons laid f fs ∙ (λ i. laid-plain f all.0 i ++ laid_all-plain fs all.1 i) ∙ sym (flat_map-cons framed f fs)
