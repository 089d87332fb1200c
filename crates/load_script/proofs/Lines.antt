-- What is written is the text of the lines.
use Rattle.std.proofs.Common.{◌≡◌, ℕ, suc, ◌+◌, ◌%◌, ◌==◌, true, false, List, [], ◌∷◌, ◌++◌, map, refl, ap, sym, ◌∙◌, arith, append-nil}
use Rattle.std.specs.Prelude.{codes, decimal}
use Rattle.std.specs.Fmt.{digits}
use Rattle.std.proofs.lemmas.Bool.Decides.{nat_tests}
use Rattle.std.proofs.lemmas.Fmt.{decimal_digit}
use Rattle.std.proofs.lemmas.Grind.{flat_map-append}
use Rattle.std.proofs.lemmas.List.{append_assoc, map-append}
use Rattle.rs_wire.specs.declared.words.Side.TheVariants.{Client, Server}
use Rattle.plain_text.specs.Lines.{ended}
use Rattle.cable_script.specs.declared.line.Line.{Line}
use Rattle.cable_script.specs.declared.line.Line.TheVariants as lines
use Rattle.cable_script.specs.Line.{text_of}
use Rattle.cable_script.specs.Setting.{setting_text}
use Rattle.load_script.specs.declared.TheConstants.{ITEMS}
use Rattle.load_script.specs.Generated.{first_items, first_lines, generated, item_line, item_lines, item_size, last_lines, load_settings}
use Rattle.load_script.specs.Texts.{ended_all, text_of_lines, text_of_script}

-- ---- numbers

pub one : decimal 1 ≡ codes "1"
one = decimal_digit 1 (omega arith)

pub three : decimal 3 ≡ codes "3"
three = decimal_digit 3 (omega arith)

pub million : decimal 1000000 ≡ codes "1000000"
unfolding digits
million = refl

-- ---- an item

pub server_text : (m : ℕ) → text_of (lines.Many Server 1 1 m) ≡ codes "server many 1 1 " ++ decimal m
server_text m = simp one

pub client_text : (m : ℕ) → text_of (lines.Many Client 3 1 m) ≡ codes "client many 3 1 " ++ decimal m
client_text m = simp (one, three)

pub of_server : (seed i m : ℕ) → i % 2 ≡ 0 → m ≡ item_size seed i → ended (codes "server many 1 1 " ++ decimal m) ≡ text_of_lines (item_line seed i ∷ [])
of_server seed i m even m_is =
    let is : (i % 2 == 0) ≡ true = grind (arith, nat_tests) in
    let line : item_line seed i ≡ lines.Many Server 1 1 (item_size seed i) = rw is refl in
    ap (λ (t : List ℕ). ended t) (ap (λ (k : ℕ). codes "server many 1 1 " ++ decimal k) m_is ∙ sym (server_text (item_size seed i)) ∙
    ap text_of (sym line)) ∙ sym (append-nil _)

pub of_client : (seed i m : ℕ) → ¬ (i % 2 ≡ 0) → m ≡ item_size seed i →
    ended (codes "client many 3 1 " ++ decimal m) ≡ text_of_lines (item_line seed i ∷ [])
of_client seed i m odd m_is =
    let is : (i % 2 == 0) ≡ false = grind (arith, nat_tests) in
    let line : item_line seed i ≡ lines.Many Client 3 1 (item_size seed i) = rw is refl in
    ap (λ (t : List ℕ). ended t) (ap (λ (k : ℕ). codes "client many 3 1 " ++ decimal k) m_is ∙ sym (client_text (item_size seed i)) ∙
    ap text_of (sym line)) ∙ sym (append-nil _)

-- ---- the items

pub text-append : (a b : List Line) → text_of_lines (a ++ b) ≡ text_of_lines a ++ text_of_lines b
text-append a b = ap (λ (t : List (List ℕ)). ended_all t) (map-append text_of a b) ∙ flat_map-append ended (map text_of a) (map text_of b)

pub no_items : (seed : ℕ) → text_of_lines (first_items seed 0) ≡ []
unfolding first_items
no_items seed = refl

pub one_more : (seed i : ℕ) → first_items seed (suc i) ≡ first_items seed i ++ item_lines seed i
unfolding first_items
one_more seed i = refl

pub items_on : (old new front : List ℕ) (seed i : ℕ) → old ≡ front ++ text_of_lines (first_items seed i) →
    new ≡ old ++ text_of_lines (item_lines seed i) → new ≡ front ++ text_of_lines (first_items seed (i + 1))
items_on old new front seed i was is =
    let next : i + 1 ≡ suc i = omega arith in
    rw next (rw one_more (rw text-append (is ∙ ap (λ (t : List ℕ). t ++ text_of_lines (item_lines seed i)) was ∙
    append_assoc front (text_of_lines (first_items seed i)) (text_of_lines (item_lines seed i)))))

-- ---- the script

regroup : (old first before below after : List ℕ) → ((old ++ (first ++ before)) ++ below) ++ after ≡ old ++ (first ++ ((before ++ below) ++ after))
regroup old first before below after = simp append_assoc

pub all_written : (seed : ℕ) (old begun sent : List ℕ) →
    begun ≡ old ++ (ended_all (map setting_text load_settings) ++ text_of_lines first_lines) →
    sent ≡ begun ++ text_of_lines (first_items seed ITEMS) → sent ++ text_of_lines last_lines ≡ old ++ text_of_script (generated seed)
all_written seed old begun sent first below =
    let parts : text_of_lines (first_lines ++ first_items seed ITEMS ++ last_lines) ≡
    (text_of_lines first_lines ++ text_of_lines (first_items seed ITEMS)) ++ text_of_lines last_lines =
    text-append (first_lines ++ first_items seed ITEMS) last_lines ∙
    ap (λ (t : List ℕ). t ++ text_of_lines last_lines) (text-append first_lines (first_items seed ITEMS)) in
    ap (λ (t : List ℕ). t ++ text_of_lines last_lines) (below ∙ ap (λ (t : List ℕ). t ++ text_of_lines (first_items seed ITEMS)) first)
    ∙ regroup old (ended_all (map setting_text load_settings)) (text_of_lines first_lines) (text_of_lines (first_items seed ITEMS))
    (text_of_lines last_lines)
    ∙ ap (λ (t : List ℕ). old ++ (ended_all (map setting_text load_settings) ++ t)) (sym parts)
