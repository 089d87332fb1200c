-- The text of the script is that of this script.
use Rattle.std.proofs.Common.{◌≡◌, ℕ, ◌+◌, ◌*◌, ◌≤◌, List, [], ◌∷◌, ◌++◌, length, length-append, map, refl, ap, sym, ◌∙◌, subst, ⊎_elim, arith}
use Rattle.std.specs.Prelude.{codes}
use Rattle.std.specs.List.{AllByRecursion}
use Rattle.std.proofs.lemmas.Bool.Decides.{nat_tests}
use Rattle.std.proofs.lemmas.Grind.{flat_map-append}
use Rattle.std.proofs.lemmas.List.{length-map}
use Rattle.std.proofs.lemmas.List.Concat.{flat_map-cons}
use Rattle.plain_text.specs.Lines.{ended, lines_of}
use Rattle.plain_text.proofs.Feeds.{cut_lines, lines_of-nil}
use Rattle.cable_script.specs.declared.TheConstants.{MOST_SCRIPT}
use Rattle.cable_script.specs.Line.{IsLine, text_of}
use Rattle.cable_script.specs.declared.script.ScriptFault.{ScriptFault}
use Rattle.cable_script.specs.declared.script.ScriptFault.TheVariants as faults
use Rattle.cable_script.specs.Script.{AreScript, IsFault, IsFirstWrong, IsScript, kept}
use Rattle.cable_script.specs.Scripted.{Scripted}
use Rattle.cable_script.specs.Setting.{IsSettingLine, setting_text}
use Rattle.load_script.specs.declared.TheConstants.{ITEMS}
use Rattle.load_script.specs.Generated.{first_items, first_lines, generated, last_lines, load_settings}
use Rattle.load_script.specs.Texts.{ended_all, text_of_script}
use Rattle.load_script.proofs.Lists.{all_append, all_map, all_weaker}
use Rattle.load_script.proofs.Plain.{IsFine, IsPlain, count_items, fine_first, fine_items, fine_last, plain_words}

-- ---- plain texts are read back

lines_back : (texts : List (List ℕ)) → AllByRecursion IsPlain texts → lines_of (ended_all texts) ≡ texts
lines_back [] h = lines_of-nil
lines_back (t ∷ texts) h =
    cut_lines (ended_all (t ∷ texts)) t (ended_all texts) (flat_map-cons ended t texts, h.0.clean) ∙
    ap (λ (more : List (List ℕ)). t ∷ more) (lines_back texts h.1)

all_kept : (texts : List (List ℕ)) → AllByRecursion IsPlain texts → kept texts ≡ texts
all_kept [] h = refl
all_kept (t ∷ texts) h = let spoken = h.0.spoken in rw spoken (ap (λ (more : List (List ℕ)). t ∷ more) (all_kept texts h.1))

all_short : (texts : List (List ℕ)) → AllByRecursion IsPlain texts → length (ended_all texts) ≤ 25 * length texts
all_short [] h = omega arith
all_short (t ∷ texts) h =
    let rest = all_short texts h.1 in
    let parts : length (ended_all (t ∷ texts)) ≡ length (ended t) + length (ended_all texts) =
    ap length (flat_map-cons ended t texts) ∙ length-append (ended t) (ended_all texts) in
    let own : length (ended t) ≡ length t + 1 = length-append t (10 ∷ []) in
    let short = h.0.short in
    omega (arith, rest, parts, own, short)

-- ---- the script

texts_of : ℕ → List (List ℕ)
texts_of seed = map setting_text load_settings ++ map text_of (generated seed).lines

fine_lines : (seed : ℕ) → AllByRecursion IsFine (generated seed).lines
fine_lines seed =
    all_append IsFine (first_lines ++ first_items seed ITEMS) last_lines
    (all_append IsFine first_lines (first_items seed ITEMS) fine_first (fine_items seed ITEMS)) fine_last

plain_texts : (seed : ℕ) → AllByRecursion IsPlain (texts_of seed)
unfolding texts_of
plain_texts seed =
    let actions : AllByRecursion (λ l. IsPlain (text_of l)) (generated seed).lines =
    all_weaker IsFine (λ l. IsPlain (text_of l)) (generated seed).lines (λ l h. h.plain) (fine_lines seed) in
    (plain_words (codes "resume load") refl refl (omega arith), all_map IsPlain text_of (generated seed).lines actions)

one_text : (seed : ℕ) → text_of_script (generated seed) ≡ ended_all (texts_of seed)
unfolding texts_of
one_text seed = sym (flat_map-append ended (map setting_text load_settings) (map text_of (generated seed).lines))

count_texts : (seed : ℕ) → length (texts_of seed) ≤ 600011
unfolding texts_of
count_texts seed =
    let below = count_items seed ITEMS in
    let lines : length (generated seed).lines ≡ (length first_lines + length (first_items seed ITEMS)) + length last_lines =
    length-append (first_lines ++ first_items seed ITEMS) last_lines ∙
    ap (λ (n : ℕ). n + length last_lines) (length-append first_lines (first_items seed ITEMS)) in
    let mapped = length-map (generated seed).lines text_of in
    let whole = length-append (map setting_text load_settings) (map text_of (generated seed).lines) in
    omega (arith, below, lines, mapped, whole)

script_short : (seed : ℕ) → length (text_of_script (generated seed)) ≤ MOST_SCRIPT
script_short seed =
    let same = ap length (one_text seed) in
    let short = all_short (texts_of seed) (plain_texts seed) in
    let count = count_texts seed in
    omega (arith, same, short, count)

settings_right : AllByRecursion IsSettingLine load_settings
settings_right = (record { size = record { above = omega arith; below = omega arith }; graphic = grind (arith, nat_tests) }, tt)

are_script : (seed : ℕ) → AreScript (generated seed) (lines_of (text_of_script (generated seed)))
unfolding texts_of
are_script seed =
    let texts = ap lines_of (one_text seed) ∙ lines_back (texts_of seed) (plain_texts seed) in
    record {
      texts_are = ap kept texts ∙ all_kept (texts_of seed) (plain_texts seed);
      are_settings = settings_right;
      are_lines = all_weaker IsFine IsLine (generated seed).lines (λ l h. h.line) (fine_lines seed);
    }

-- what is written is the text of the script
pub is_script : (seed : ℕ) → IsScript (text_of_script (generated seed)) (generated seed)
is_script seed = record { short = script_short seed; lines_are = are_script seed }

-- ---- the text of a script has no wrong line

pub never_wrong : (text : List ℕ) (s : Scripted) (fault : ScriptFault) (number : ℕ) →
    ((t : List ℕ) (a : Scripted) (n : ℕ) → IsScript t a → ¬ (IsFirstWrong (lines_of t) n)) → IsScript text s → fault ≡ faults.Line number →
    IsFault text fault → ⊥
never_wrong text s fault number right is fault_is wrong =
    let line = subst (λ (f : ScriptFault). IsFault text f) fault_is wrong in
    ⊎_elim (λ long. omega (arith, long.1, is.short)) (λ first. right text s number is first.1) line
