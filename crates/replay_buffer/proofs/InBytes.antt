-- A frame that is copied out of the bytes in which it lies, after its 24-bit length.
use Rattle.std.proofs.Common.{◌≡◌, ℕ, ◌+◌, ◌-◌, ◌<◌, ◌≤◌, List, ◌++◌, length, take, drop, min, sym, ap, ◌∙◌, append_assoc, inl, inr, arith}
use Rattle.std.proofs.lemmas.Bool.{cases_lt}
use Rattle.std.proofs.lemmas.List.{append-nil, drop-append-le, drop-drop, drop_at, length-append, length-drop, length-take-le, take-append-drop, take-append-le, take_all, take_at}
use Rattle.std.proofs.Math.ListN.{drop_of_length-le}
use Rattle.std.proofs.Math.Seq.{take-append-add}
use Rattle.replay_buffer.specs.Laid.{Begins, laid, prefix_len}
use Rattle.replay_buffer.proofs.Prefixed.{drop-two, first, length-laid}

-- the first bytes of two lists, where none is taken of the later one before all are of the earlier one
take-two : (xs ys : List ℕ) (a b : ℕ) → a ≤ length xs → (a < length xs → b ≡ 0) → take a xs ++ take b ys ≡ take (a + b) (xs ++ ys)
take-two xs ys a b le none = elim (cases_lt a (length xs)) [
  | inl lt ↦
      let nothing = none lt in
      let same : a + b ≡ a = omega (arith, nothing) in
      ap (λ n. take a xs ++ take n ys) nothing ∙ append-nil (take a xs) ∙ sym (ap (λ n. take n (xs ++ ys)) same ∙ take-append-le a xs ys le)
  | inr ge ↦
      let sum : a + b ≡ length xs + b = omega (arith, le, ge) in
      ap (λ l. l ++ take b ys) (take_all a xs ge) ∙ sym (ap (λ n. take n (xs ++ ys)) sum ∙ take-append-add xs ys b)
]

-- some bytes lie at an index after others
pub record Lies (bytes f : List ℕ) (index : ℕ) : Type 0 where
  pub rest : List ℕ
  pub is : drop index bytes ≡ f ++ rest
  pub within : index + length f ≤ length bytes

pub lies : (bytes f : List ℕ) (index p : ℕ) → Begins (drop index bytes) f → p ≡ prefix_len (length f) → Lies bytes f (index + p)
lies bytes f index p b is =
    let left = drop p (drop index bytes) in
    let frame : take (length f) left ≡ f = ap (λ n. take (length f) (drop n (drop index bytes))) is ∙ (first (drop index bytes) f b).frame in
    record {
      rest = drop (length f) left;
      is = sym (drop-drop p index bytes) ∙ sym (take-append-drop (length f) left) ∙ ap (λ l. l ++ drop (length f) left) frame;
      within = omega (arith, is, ap length b.is, length-append (laid f) b.rest, length-laid f, length-drop index bytes, b.longer);
    }

-- the frame from one byte on
later : (bytes f : List ℕ) (at gone n : ℕ) → Lies bytes f at → gone ≤ length f → n ≤ length f - gone → take n (drop (at + gone) bytes) ≡ take n (drop gone f)
later bytes f at gone n l le most =
    ap (take n) (sym (drop-drop gone at bytes) ∙ ap (drop gone) l.is ∙ drop-append-le gone f l.rest le)
    ∙ take-append-le n (drop gone f) l.rest (omega (arith, most, length-drop gone f))

-- two copies to a buffer, the later one after the earlier one
pub record Twice (field f bytes old now part piece new : List ℕ) (at skip gone a b r : ℕ) : Type 0 where
  pub three : length field ≡ 3
  pub within : skip ≤ 3 + length f
  pub gone_is : gone ≡ skip - 3
  pub lies_at : Lies bytes f at
  pub a_is : a ≡ min (length old) (length field - skip)
  pub now_is : now ≡ take a (drop skip field) ++ drop a old
  pub b_is : b ≡ min (length f - gone) (length now - a)
  pub part_is : part ≡ take (a + b - a) (drop a now)
  pub r_is : r ≡ min (length part) (length bytes - (at + gone))
  pub piece_is : piece ≡ take r (drop (at + gone) bytes) ++ drop r part
  pub new_is : new ≡ take a now ++ (piece ++ drop (a + b - a) (drop a now))

pub record Both (field f old new : List ℕ) (skip a r : ℕ) : Type 0 where
  pub count : a + r ≡ min (length old) (3 + length f - skip)
  pub written : new ≡ take (a + r) (drop skip (field ++ f)) ++ drop (a + r) old

pub both : (field f bytes old now part piece new : List ℕ) (at skip gone a b r : ℕ) → Twice field f bytes old now part piece new at skip gone a b r → Both field f old new skip a r
both field f bytes old now part piece new at skip gone a b r t =
    let l = t.lies_at in
    let head = take a (drop skip field) in
    let size : length head ≡ a = length-take-le a (drop skip field) (omega (arith, t.a_is, length-drop skip field)) in
    let before : take a now ≡ head = ap (take a) t.now_is ∙ take_at head (drop a old) a size in
    let after : drop a now ≡ drop a old = ap (drop a) t.now_is ∙ drop_at head (drop a old) a size in
    let room : length now - a ≡ length old - a = omega (arith, ap length after, length-drop a now, length-drop a old) in
    let few : b ≤ length old - a = omega (arith, t.b_is, room) in
    let same : a + b - a ≡ b = omega arith in
    let part_size : length part ≡ b = ap length (t.part_is ∙ (λ i. take (same i) (after i))) ∙ length-take-le b (drop a old) (omega (arith, few, length-drop a old)) in
    let most : b ≤ length f - gone = omega (arith, t.b_is) in
    let all : r ≡ b = omega (arith, t.r_is, part_size, most, l.within, t.gone_is, t.within) in
    let last : piece ≡ take r (drop gone f) =
    t.piece_is ∙ ap (λ x. take r (drop (at + gone) bytes) ++ x) (drop_of_length-le part (omega (arith, part_size, all))) ∙ append-nil (take r (drop (at + gone) bytes))
    ∙ later bytes f at gone r l (omega (arith, t.gone_is, t.within)) (omega (arith, all, most)) in
    let behind : drop (a + b - a) (drop a now) ≡ drop (a + r) old = (λ i. drop ((same ∙ sym all) i) (after i)) ∙ drop-drop r a old in
    let whole : drop skip field ++ drop gone f ≡ drop skip (field ++ f) = sym (drop-two skip field f ∙ ap (λ n. drop skip field ++ drop n f) (omega (arith, t.gone_is, t.three))) in
    let taken : head ++ take r (drop gone f) ≡ take (a + r) (drop skip (field ++ f)) =
    take-two (drop skip field) (drop gone f) a r (omega (arith, t.a_is, length-drop skip field)) (λ lt. omega (arith, lt, all, few, t.a_is, length-drop skip field)) ∙ ap (take (a + r)) whole in
    record {
      count = omega (arith, all, t.b_is, room, t.a_is, t.three, t.gone_is, t.within);
      written = t.new_is ∙ (λ i. before i ++ (last i ++ behind i)) ∙ sym (append_assoc head (take r (drop gone f)) (drop (a + r) old)) ∙ ap (λ x. x ++ drop (a + r) old) taken;
    }
