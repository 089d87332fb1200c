-- Each line of the script is one line of text, and short.
use Rattle.std.proofs.Common.{◌≡◌, ℕ, zero, suc, ◌+◌, ◌*◌, ◌/◌, ◌%◌, ◌<◌, ◌≤◌, ◌^◌, ◌==◌, Bool, true, false, not, cond, List, [], ◌∷◌, ◌++◌, length, length-append, refl, subst, sym, arith}
use Rattle.std.specs.Prelude.{codes, decimal}
use Rattle.std.specs.List.{AllByRecursion, list_all}
use Rattle.std.proofs.lemmas.Bool.Decides.{nat_tests}
use Rattle.std.proofs.lemmas.Fmt.{decimal_by_steps, length-decimal-le}
use Rattle.rs_wire.specs.declared.call.Call.TheVariants as call
use Rattle.rs_wire.specs.declared.words.Kind.TheVariants as kind
use Rattle.rs_wire.specs.declared.words.Side.{Side}
use Rattle.rs_wire.specs.declared.words.Side.TheVariants.{Client, Server}
use Rattle.plain_text.specs.Lines.{HasNoFeed}
use Rattle.cable_script.specs.declared.line.Line.{Line}
use Rattle.cable_script.specs.declared.line.Line.TheVariants as lines
use Rattle.cable_script.specs.Line.{IsAmount, IsLine, text_of}
use Rattle.cable_script.specs.Script.{is_passed}
use Rattle.load_script.specs.Generated.{carried, cut_lines, ends_block, first_items, first_lines, item_line, item_lines, item_size, last_lines, request}
use Rattle.load_script.specs.declared.TheConstants.{BLOCK}
use Rattle.load_script.proofs.Lists.{all_append}
use Rattle.load_script.proofs.Lines.{client_text, million, one, server_text, three}

-- one line of text, that is not passed over, of at most 24 bytes
pub record IsPlain (text : List ℕ) : Type 0 where
  pub clean : HasNoFeed text
  pub spoken : is_passed text ≡ false
  pub short : length text ≤ 24

-- ---- no line feed

not_feed : (b : ℕ) → not (b == 10) ≡ true → ¬ (b ≡ 10)
not_feed b other is = grind (arith, nat_tests)

clean_text : (text : List ℕ) → list_all (λ b. not (b == 10)) text ≡ true → HasNoFeed text
clean_text [] h = tt
clean_text (b ∷ text) h =
    elim (not (b == 10)) as (λ v. not (b == 10) ≡ v → HasNoFeed (b ∷ text))
    [ true ↦ λ is. (not_feed b is, clean_text text (rw is at h)) | false ↦ λ is. absurd (let none = rw is at h in cc) ] refl

clean_append : (a b : List ℕ) → HasNoFeed a → HasNoFeed b → HasNoFeed (a ++ b)
clean_append [] b h k = k
clean_append (x ∷ a) b h k = (h.0, clean_append a b h.1 k)

digit : (n : ℕ) → ¬ (48 + n ≡ 10)
digit n is = omega (arith, is)

clean_decimal : (n : ℕ) → n < 2 ^ 64 → HasNoFeed (decimal n)
clean_decimal n small =
    decimal_by_steps (λ k ds. HasNoFeed ds) (λ k lt. (digit k, tt)) (λ k ds le h. clean_append ds ((48 + k % 10) ∷ []) h (digit (k % 10), tt)) n small

-- ---- texts

pub plain_words : (text : List ℕ) → list_all (λ b. not (b == 10)) text ≡ true → is_passed text ≡ false → length text ≤ 24 → IsPlain text
plain_words text clean spoken short = record { clean = clean_text text clean; spoken = spoken; short = short }

plain_number : (words : List ℕ) (n : ℕ) → list_all (λ b. not (b == 10)) words ≡ true → is_passed (words ++ decimal n) ≡ false →
    length words ≤ 16 → n < 100000 → IsPlain (words ++ decimal n)
plain_number words n clean spoken short small =
    let digits_are : length (decimal n) ≤ 5 = length-decimal-le 5 n (omega arith) (omega arith) (omega arith) in
    record {
      clean = clean_append words (decimal n) (clean_text words clean) (clean_decimal n (omega arith));
      spoken = spoken;
      short = omega (arith, length-append words (decimal n));
    }

-- ---- the lines

pub record IsFine (l : Line) : Type 0 where
  pub line : IsLine l
  pub plain : IsPlain (text_of l)

fine_text : (l : Line) (text : List ℕ) → text ≡ text_of l → IsLine l → IsPlain text → IsFine l
fine_text l text is line plain = record { line = line; plain = subst (λ (t : List ℕ). IsPlain t) is plain }

below : (n k : ℕ) → 0 < k → k < 100000 → n % k < 100000
below n k some small = omega (arith, small)

amount : (n : ℕ) → 0 < n → n < 100000 → IsAmount n
amount n some small = (some, omega arith)

fine_server : (m : ℕ) → m < 100000 → IsFine (lines.Many Server 1 1 m)
fine_server m small =
    fine_text (lines.Many Server 1 1 m) (codes "server many 1 1 " ++ decimal m) (sym (server_text m))
    (amount 1 (omega arith) (omega arith), amount 1 (omega arith) (omega arith), omega arith)
    (plain_number (codes "server many 1 1 ") m refl refl (omega arith) small)

fine_client : (m : ℕ) → m < 100000 → IsFine (lines.Many Client 3 1 m)
fine_client m small =
    fine_text (lines.Many Client 3 1 m) (codes "client many 3 1 " ++ decimal m) (sym (client_text m))
    (amount 3 (omega arith) (omega arith), amount 1 (omega arith) (omega arith), omega arith)
    (plain_number (codes "client many 3 1 ") m refl refl (omega arith) small)

fine_up : (n : ℕ) → 0 < n → n < 100000 → IsFine (lines.Up n)
fine_up n some small = record { line = amount n some small; plain = plain_number (codes "up ") n refl refl (omega arith) small }

fine_down : (n : ℕ) → 0 < n → n < 100000 → IsFine (lines.Down n)
fine_down n some small = record { line = amount n some small; plain = plain_number (codes "down ") n refl refl (omega arith) small }

fine_cut : IsFine lines.Cut
fine_cut = record { line = tt; plain = plain_words (codes "cut") refl refl (omega arith) }

fine_open : IsFine lines.Open
fine_open = record { line = tt; plain = plain_words (codes "open") refl refl (omega arith) }

fine_drain : IsFine lines.Drain
fine_drain = record { line = tt; plain = plain_words (codes "drain") refl refl (omega arith) }

-- ---- the script's lines

either : (b : Bool) (x y : Line) → IsFine x → IsFine y → IsFine (cond b x y)
either true x y h k = h
either false x y h k = k

fine_item : (seed i : ℕ) → IsFine (item_line seed i)
fine_item seed i =
    let small : item_size seed i < 100000 = omega arith in
    either (i % 2 == 0) (lines.Many Server 1 1 (item_size seed i)) (lines.Many Client 3 1 (item_size seed i))
    (fine_server (item_size seed i) small) (fine_client (item_size seed i) small)

fine_cuts : (seed k : ℕ) → AllByRecursion IsFine (cut_lines seed k)
fine_cuts seed k =
    let some : 0 < carried seed k = omega arith in
    let small : carried seed k < 100000 = omega arith in
    (fine_up (carried seed k) some small, (fine_down (carried seed k) some small, (fine_cut, (fine_open, (fine_drain, tt)))))

some_or_none : (b : Bool) (xs : List Line) → AllByRecursion IsFine xs → AllByRecursion IsFine (cond b xs [])
some_or_none true xs h = h
some_or_none false xs h = tt

pub fine_items : (seed n : ℕ) → AllByRecursion IsFine (first_items seed n)
unfolding first_items
fine_items seed zero = tt
fine_items seed (suc i) =
    all_append IsFine (first_items seed i) (item_lines seed i) (fine_items seed i)
    (fine_item seed i, some_or_none (ends_block i) (cut_lines seed ((i + 1) / BLOCK)) (fine_cuts seed ((i + 1) / BLOCK)))

fine_stream : IsFine (request kind.Stream)
fine_stream =
    fine_text (request kind.Stream) (codes "client stream 1000000 -") (simp million)
    (refl, (omega arith, omega arith), (λ h. h), record { metadata = tt; content = λ i. omega arith })
    (plain_words (codes "client stream 1000000 -") refl refl (omega arith))

fine_channel : IsFine (request kind.Channel)
fine_channel =
    fine_text (request kind.Channel) (codes "client channel 1000000 -") (simp million)
    (refl, (omega arith, omega arith), (λ h. refl), record { metadata = tt; content = λ i. omega arith })
    (plain_words (codes "client channel 1000000 -") refl refl (omega arith))

fine_granted : IsFine (lines.Ask Server (call.Grant 3 1000000))
fine_granted =
    fine_text (lines.Ask Server (call.Grant 3 1000000)) (codes "server grant 3 1000000") (simp (three, million)) (omega arith, omega arith)
    (plain_words (codes "server grant 3 1000000") refl refl (omega arith))

pub fine_first : AllByRecursion IsFine first_lines
fine_first = (fine_stream, (fine_channel, (fine_drain, (fine_granted, (fine_drain, tt)))))

fine_done : (side : Side) (s : ℕ) (text : List ℕ) → text ≡ text_of (lines.Ask side (call.Done s)) → 0 < s → s < 100000 → IsPlain text →
    IsFine (lines.Ask side (call.Done s))
fine_done side s text is some small plain = fine_text (lines.Ask side (call.Done s)) text is (amount s some small) plain

pub fine_last : AllByRecursion IsFine last_lines
fine_last =
    let one_done : IsFine (lines.Ask Server (call.Done 1)) =
    fine_done Server 1 (codes "server done 1") (simp one) (omega arith) (omega arith) (plain_words (codes "server done 1") refl refl (omega arith)) in
    let client_done : IsFine (lines.Ask Client (call.Done 3)) =
    fine_done Client 3 (codes "client done 3") (simp three) (omega arith) (omega arith)
    (plain_words (codes "client done 3") refl refl (omega arith)) in
    let server_done : IsFine (lines.Ask Server (call.Done 3)) =
    fine_done Server 3 (codes "server done 3") (simp three) (omega arith) (omega arith)
    (plain_words (codes "server done 3") refl refl (omega arith)) in
    (fine_drain, (one_done, (client_done, (server_done, (fine_drain, tt)))))

-- ---- how many lines there are

choice_short : (b : Bool) (xs : List Line) → length xs ≤ 5 → length (cond b xs []) ≤ 5
choice_short true xs h = h
choice_short false xs h = omega arith

pub count_items : (seed n : ℕ) → length (first_items seed n) ≤ 6 * n
unfolding first_items
count_items seed zero = omega arith
count_items seed (suc i) =
    let before = count_items seed i in
    let more = choice_short (ends_block i) (cut_lines seed ((i + 1) / BLOCK)) (omega arith) in
    omega (arith, before, more, length-append (first_items seed i) (item_lines seed i))
