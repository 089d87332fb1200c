-- The words that are a long flag with no value.
use Rattle.std.proofs.Common.{◌≡◌, ◌∙◌, ◌==◌, ℕ, false, [], ◌∷◌, Option, Some, None, ap, refl, arith}
use Rattle.std.specs.Prelude.{option_and_then}
use Rattle.std.specs.List.{before_first}
use Rattle.std.proofs.lemmas.Bool.Decides.{nat_tests}
use Rattle.std.proofs.lemmas.List.Folds.{list_any_at}
use Rattle.clap.specs.Lexer.{has_byte, long_of, long_of_rest, name_and_value, strip_byte}
use Rattle.clap.specs.Walk.{Text}
use Rattle.clap.proofs.CutLemmas.{before_first-Lacks}

byte_stripped : (c : ℕ) (text rest : Text) → strip_byte c text ≡ Some rest → text ≡ c ∷ rest
byte_stripped c [] rest e = cc
byte_stripped c (x ∷ xs) rest e = grind (arith, nat_tests)

all_before : (text : Text) → has_byte 61 text ≡ false → before_first (λ x. x == 61) text ≡ text
all_before text e = before_first-Lacks 61 text (λ i lt is. absurd (grind (arith, nat_tests, list_any_at (λ x. x == 61) text i 0 lt)))

no_value : (text name : Text) → name_and_value text ≡ (name, None) → text ≡ name
no_value text name e = grind (arith, all_before text, ap (λ p. p.0) e, ap (λ p. p.1) e)

-- a word that reads as a flag with no value is two hyphens and its name
pub flag_word : (word name : Text) → long_of word ≡ Some (name, None) → word ≡ 45 ∷ 45 ∷ name
flag_word word name e = go (strip_byte 45 word) refl e
  where
    go : (one : Option Text) → strip_byte 45 word ≡ one → option_and_then long_of_rest (option_and_then (strip_byte 45) one) ≡ Some (name, None) → word ≡ 45 ∷ 45 ∷ name
    go None is f = cc
    go (Some rest) is f = two (strip_byte 45 rest) refl f
      where
        named : (text : Text) → long_of_rest text ≡ Some (name, None) → text ≡ name
        named [] g = cc
        named (x ∷ xs) g = no_value (x ∷ xs) name cc

        two : (two : Option Text) → strip_byte 45 rest ≡ two → option_and_then long_of_rest two ≡ Some (name, None) → word ≡ 45 ∷ 45 ∷ name
        two None at g = cc
        two (Some text) at g = byte_stripped 45 word rest is ∙ ap (λ t. 45 ∷ t) (byte_stripped 45 rest text at) ∙ ap (λ t. 45 ∷ 45 ∷ t) (named text g)
