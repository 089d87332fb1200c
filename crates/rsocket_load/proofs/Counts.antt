-- The two lines of counts in front of a report.
use Rattle.std.proofs.Common.{◌≡◌, ℕ, zero, suc, ◌+◌, ◌-◌, ◌/◌, ◌%◌, ◌<◌, ◌==◌, Bool, true, false, cond, List, [], ◌∷◌, ◌++◌, length, length-append, take, refl, ap, sym, ◌∙◌, subst, arith}
use Rattle.std.specs.Prelude.{codes, decimal, nat_lt}
use Rattle.std.specs.List.{list_all}
use Rattle.std.specs.Fmt.{digits, digits_onto, digit_glyph}
use Rattle.std.proofs.lemmas.Bool.Decides.{nat_tests}
use Rattle.std.proofs.lemmas.List.{append_assoc}
use Rattle.rs_wire.specs.declared.words.Side.{Side}
use Rattle.rs_wire.specs.declared.words.Side.TheVariants.{Client, Server}
use Rattle.plain_text.specs.Lines.{HasNoFeed, ended}
use Rattle.plain_text.proofs.Feeds.{has_feed, one_cut}
use Rattle.cable_script.specs.Spoken.{numbered, side_word}
use Rattle.cable.specs.Report.{counts_line}

-- ---- no line feed

clean_append : (a b : List ℕ) → HasNoFeed a → HasNoFeed b → HasNoFeed (a ++ b)
clean_append [] b h k = k
clean_append (x ∷ a) b h k = (h.0, clean_append a b h.1 k)

glyph : (d : ℕ) → d < 10 → ¬ (digit_glyph false d ≡ 10)
glyph d small is = grind (arith, nat_tests)

either : (b : Bool) (xs ys : List ℕ) → HasNoFeed xs → HasNoFeed ys → HasNoFeed (cond b xs ys)
either true xs ys h k = h
either false xs ys h k = k

clean_onto : (k n : ℕ) (acc : List ℕ) → HasNoFeed acc → HasNoFeed (digits_onto k 10 false n acc)
clean_onto zero n acc h = h
clean_onto (suc k) n acc h =
    let more : HasNoFeed (digit_glyph false (n % 10) ∷ acc) = (glyph (n % 10) (omega arith), h) in
    either (n / 10 == 0) (digit_glyph false (n % 10) ∷ acc) (digits_onto k 10 false (n / 10) (digit_glyph false (n % 10) ∷ acc)) more
    (clean_onto k (n / 10) (digit_glyph false (n % 10) ∷ acc) more)

clean_decimal : (n : ℕ) → HasNoFeed (decimal n)
unfolding digits
clean_decimal n = clean_onto 64 n [] tt

no_feed : (a : ℕ) → nat_lt 10 a ≡ true → ¬ (a ≡ 10)
no_feed a above is = grind (arith, nat_tests)

clean_text : (text : List ℕ) → list_all (λ b. nat_lt 10 b) text ≡ true → HasNoFeed text
clean_text [] h = tt
clean_text (b ∷ text) h = elim (nat_lt 10 b) as (λ v. nat_lt 10 b ≡ v → HasNoFeed (b ∷ text))
    [ true ↦ λ is. (no_feed b is, clean_text text (rw is at h)) | false ↦ λ is. absurd (let none = rw is at h in cc) ] refl

clean_numbered : (word : List ℕ) (n : ℕ) → HasNoFeed word → HasNoFeed (numbered word n)
clean_numbered word n h = clean_append word (32 ∷ decimal n) h (λ is. omega (arith, is), clean_decimal n)

-- ---- a line of counts

pub counts_text : Side → ℕ → ℕ → ℕ → ℕ → List ℕ
counts_text side made_frames made handled_frames handled =
    numbered (numbered (side_word side ++ codes " made") made_frames) made ++ numbered (numbered (codes " handled") handled_frames) handled

made_word : (side : Side) → HasNoFeed (side_word side ++ codes " made")
made_word Client = clean_text (codes "client made") refl
made_word Server = clean_text (codes "server made") refl

pub counts_clean : (side : Side) (a b c d : ℕ) → HasNoFeed (counts_text side a b c d)
unfolding counts_text
counts_clean side a b c d =
    clean_append (numbered (numbered (side_word side ++ codes " made") a) b) (numbered (numbered (codes " handled") c) d)
    (clean_numbered (numbered (side_word side ++ codes " made") a) b (clean_numbered (side_word side ++ codes " made") a (made_word side)))
    (clean_numbered (numbered (codes " handled") c) d (clean_numbered (codes " handled") c (clean_text (codes " handled") refl)))

pub counts_ended : (side : Side) (a b c d : ℕ) → counts_line side a b c d ≡ ended (counts_text side a b c d)
unfolding counts_text
counts_ended side a b c d = sym (append_assoc (numbered (numbered (side_word side ++ codes " made") a) b)
    (numbered (numbered (codes " handled") c) d) (10 ∷ []))

-- ---- the first two lines

take_whole : (a b : List ℕ) → take (length a) (a ++ b) ≡ a
take_whole [] b = refl
take_whole (x ∷ a) b = ap (λ (t : List ℕ). x ∷ t) (take_whole a b)

pub two_cut : (text line rest more last one two after : List ℕ) (n : ℕ) → text ≡ ended line ++ rest → HasNoFeed line →
    rest ≡ ended more ++ last → HasNoFeed more →
    HasNoFeed one → HasNoFeed two → text ≡ ended one ++ (ended two ++ after) → n ≡ length text - length last → take n text ≡ ended one ++ ended two
two_cut text line rest more last one two after n is clean rest_is more_clean one_clean two_clean text_is size =
    let first = one_cut line one rest (ended two ++ after) clean one_clean (sym is ∙ text_is) in
    let second = one_cut more two last after more_clean two_clean (sym rest_is ∙ first.1) in
    let whole : text ≡ (ended one ++ ended two) ++ after = text_is ∙ sym (append_assoc (ended one) (ended two) after) in
    let long : length text ≡ length (ended one ++ ended two) + length after = ap length whole ∙ length-append (ended one ++ ended two) after in
    let same : length last ≡ length after = ap length second.1 in
    let n_is : n ≡ length (ended one ++ ended two) = omega (arith, size, long, same) in
    rw (n_is, whole) (take_whole (ended one ++ ended two) after)

-- a text with a second line has a second line feed
pub no_second : (text line rest one two after : List ℕ) → text ≡ ended line ++ rest → HasNoFeed line → HasNoFeed rest → HasNoFeed one →
    text ≡ ended one ++ (ended two ++ after) → ⊥
no_second text line rest one two after is clean rest_clean one_clean text_is =
    let first = one_cut line one rest (ended two ++ after) clean one_clean (sym is ∙ text_is) in
    has_feed two after (subst (λ (t : List ℕ). HasNoFeed t) first.1 rest_clean)
