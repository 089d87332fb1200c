-- Numbers and words, with a space after them.
use Rattle.std.proofs.Common.{◌≡◌, ℕ, ◌<◌, ◌^◌, true, List, ◌∷◌, ◌++◌, Option, Some, None, ap, sym, ◌∙◌, arith}
use Rattle.std.specs.Prelude.{codes, decimal, IfNone, IfSome, MatchOption}
use Rattle.std.proofs.lemmas.Bool.Decides.{nat_tests}
use Rattle.std.proofs.lemmas.Fmt.{decimal_injective}
use Rattle.std.proofs.lemmas.List.{append_assoc, append_cancel_left}
use Rattle.rs_wire.specs.Calls.{is_stream_code}
use Rattle.rs_wire.specs.declared.words.Kind.TheVariants as kind
use Rattle.rs_wire.specs.declared.call.Call.TheVariants as call
use Rattle.rs_wire.specs.declared.message.Message.{Message}
use Rattle.cable_script.specs.Spoken.{numbered}
use Rattle.cable_script.specs.Line.{IsAmount, call_words, many_words, part_text, payload_text}
use Rattle.cable_script.specs.Words.{HasNo}
use Rattle.cable_script.proofs.Cuts.{decimal_spaceless, one_cut}

-- ---- numbers

pub same_numbers : (a b : ℕ) (x y : List ℕ) → a < 2 ^ 64 → b < 2 ^ 64 → decimal a ++ 32 ∷ x ≡ decimal b ++ 32 ∷ y → (a ≡ b) × (x ≡ y)
same_numbers a b x y h k e =
    let same = one_cut 32 (decimal a) (decimal b) x y (decimal_spaceless a h) (decimal_spaceless b k) e in
    (decimal_injective a b h k same.0, same.1)

pub amount_small : (n : ℕ) → IsAmount n → n < 2 ^ 64
amount_small n h = omega (arith, h.1)

pub code_small : (n : ℕ) → is_stream_code n ≡ true → n < 2 ^ 64
code_small n h = grind (arith, nat_tests)

pub same_amounts : (a b : ℕ) (x y : List ℕ) → IsAmount a → IsAmount b → decimal a ++ 32 ∷ x ≡ decimal b ++ 32 ∷ y → (a ≡ b) × (x ≡ y)
same_amounts a b x y h k e = same_numbers a b x y (amount_small a h) (amount_small b k) e

pub one_amount : (a b : ℕ) → IsAmount a → IsAmount b → decimal a ≡ decimal b → a ≡ b
one_amount a b h k e = decimal_injective a b (amount_small a h) (amount_small b k) e

-- the number that a space cuts off
pub number_cut : (n : ℕ) (word front after rest : List ℕ) → n < 2 ^ 64 → word ≡ front ++ 32 ∷ after → HasNo 32 front → word ≡ decimal n ++ 32 ∷ rest → (front ≡ decimal n) × (after ≡ rest)
number_cut n word front after rest small cut none e = one_cut 32 front (decimal n) after rest none (decimal_spaceless n small) (sym cut ∙ e)

-- ---- words

-- what stands after a word and a space is one text
pub after_is : (word first rest x : List ℕ) → word ≡ first ++ 32 ∷ rest → word ≡ first ++ 32 ∷ x → rest ≡ x
after_is word first rest x cut e =
    let same : 32 ∷ rest ≡ 32 ∷ x = append_cancel_left first (32 ∷ rest) (32 ∷ x) (sym cut ∙ e) in
    cc

-- ---- what a search answers

pub found : {A : Type 0} (Missing : Type 0) (Is : A → Type 0) (r : Option A) → MatchOption r Missing Is → IfSome r Is
found Missing Is None h = tt
found Missing Is (Some x) h = h

pub missed : {A : Type 0} (Missing : Type 0) (Is : A → Type 0) (r : Option A) → MatchOption r Missing Is → IfNone r Missing
missed Missing Is None h = h
missed Missing Is (Some x) h = tt

pub if_none : {A : Type 0} (P : Type 0) (r : Option A) → P → IfNone r P
if_none P None h = h
if_none P (Some x) h = tt

pub still_none : {A : Type 0} (P Q : Type 0) (r : Option A) → (P → Q) → IfNone r P → IfNone r Q
still_none P Q None f h = f h
still_none P Q (Some x) f h = tt

-- ---- texts of calls

-- a call and the word at its end
pub last_apart : (n : ℕ) (m : Message) → call_words (call.Request kind.Channel (Some n) m true) ≡ (codes "channel" ++ 32 ∷ (decimal n ++ 32 ∷ payload_text m)) ++ codes " last"
last_apart n m = ap (λ (t : List ℕ). codes "channel" ++ 32 ∷ t) (sym (append_assoc (decimal n) (32 ∷ payload_text m) (codes " last")))

pub fail_apart : (s code : ℕ) (content : List ℕ) → call_words (call.Fail s code content) ≡ codes "fail" ++ 32 ∷ (decimal s ++ 32 ∷ (decimal code ++ 32 ∷ part_text content))
fail_apart s code content = ap (λ (t : List ℕ). codes "fail" ++ 32 ∷ t) (append_assoc (decimal s) (32 ∷ decimal code) (32 ∷ part_text content))

pub many_apart : (stream count size : ℕ) → many_words stream count size ≡ codes "many" ++ 32 ∷ (decimal stream ++ 32 ∷ numbered (decimal count) size)
many_apart stream count size = ap (λ (t : List ℕ). codes "many" ++ 32 ∷ t) (append_assoc (decimal stream) (32 ∷ decimal count) (32 ∷ decimal size))
