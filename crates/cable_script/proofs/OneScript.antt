-- A text is that of one script, and no line of a script is wrong.
use Rattle.std.proofs.lemmas.Grind.{common_steps}
use Rattle.std.proofs.Common.{◌<◌, length, ⊎_elim, ◌≡◌, ℕ, Bool, List, [], ◌∷◌, ◌++◌, map, not, Option, Some, None, refl, ap, sym, ◌∙◌, append_assoc, arith}
use Rattle.std.proofs.lemmas.Bool.{cases_lt}
use Rattle.std.specs.List.{AllByRecursion}
use Rattle.std.proofs.lemmas.List.{append_cancel_left}
use Rattle.std.proofs.lemmas.List.Elements.{filter-append}
use Rattle.std.specs.Prelude.{codes}
use Rattle.plain_text.proofs.Numbers.{decimal_same}
use Rattle.rs_wire.specs.declared.words.Side.{Side}
use Rattle.cable_script.specs.declared.line.Line.{Line}
use Rattle.cable_script.specs.declared.setting.Setting.{Setting}
use Rattle.cable_script.specs.declared.setting.SettingLine.{SettingLine}
use Rattle.cable_script.specs.declared.setting.SettingLine.TheVariants as settings
use Rattle.cable_script.specs.Spoken.{side_word}
use Rattle.cable_script.specs.Line.{IsLine, text_of}
use Rattle.cable_script.specs.Setting.{IsSetting, IsSettingLine, end_words, setting_text, setting_words}
use Rattle.cable_script.specs.Scripted.{Scripted}
use Rattle.cable_script.specs.Script.{AreRight, AreScript, IsFirstWrong, IsScript, is_passed, kept}
use Rattle.cable_script.proofs.OneLine.{one}
use Rattle.cable_script.proofs.Reading.{apart}

-- ---- one setting line

one_setting : (x y : Setting) → IsSetting x → IsSetting y → setting_words x ≡ setting_words y → x ≡ y
one_setting x y h1 h2 h3 = grind (arith, common_steps, decimal_same)

no_end : (side : Side) (x : Setting) (words : List ℕ) → setting_words x ≡ side_word side ++ 32 ∷ words → ⊥
no_end side x words h1 = grind (arith, common_steps)

same_end : (s t : Side) (words words' : List ℕ) → side_word s ++ 32 ∷ words ≡ side_word t ++ 32 ∷ words' → (s ≡ t) × (words ≡ words')
same_end s t words words' h1 = grind (arith, common_steps)

one_end : (a b : Option Side) (x y : Setting) → end_words a ++ setting_words x ≡ end_words b ++ setting_words y → (a ≡ b) × (setting_words x ≡ setting_words y)
one_end None None x y e = (refl, e)
one_end None (Some t) x y e = absurd (no_end t x (setting_words y) (e ∙ append_assoc (side_word t) (32 ∷ []) (setting_words y)))
one_end (Some s) None x y e = absurd (no_end s y (setting_words x) (sym e ∙ append_assoc (side_word s) (32 ∷ []) (setting_words x)))
one_end (Some s) (Some t) x y e =
    let same = same_end s t (setting_words x) (setting_words y) (sym (append_assoc (side_word s) (32 ∷ []) (setting_words x)) ∙ (e ∙ append_assoc (side_word t) (32 ∷ []) (setting_words y))) in
    (ap Some same.0, same.1)

one_lease : (b c : Bool) → setting_text (settings.Lease b) ≡ setting_text (settings.Lease c) → b ≡ c
one_lease b c e = grind (arith, common_steps)

one_setting_line : (a b : SettingLine) → IsSettingLine a → IsSettingLine b → setting_text a ≡ setting_text b → a ≡ b
one_setting_line (settings.Set s x) (settings.Set t y) h k e =
    let rest : end_words s ++ setting_words x ≡ end_words t ++ setting_words y = cc in
    let same = one_end s t x y rest in
    let ends : s ≡ t = same.0 in
    let set : x ≡ y = one_setting x y h k same.1 in
    cc
one_setting_line (settings.Resume v) (settings.Resume w) h k e = ap settings.Resume (append_cancel_left (codes "resume ") v w e)
one_setting_line (settings.Lease b) (settings.Lease c) h k e = ap settings.Lease (one_lease b c e)
one_setting_line a b h k e = absurd (grind (arith, common_steps))

-- ---- one script

same_lines : (lines lines' : List Line) → map text_of lines ≡ map text_of lines' → AllByRecursion IsLine lines → AllByRecursion IsLine lines' → lines ≡ lines'
same_lines [] [] e ok ok' = refl
same_lines [] (l ∷ lines') e ok ok' = absurd (cc)
same_lines (l ∷ lines) [] e ok ok' = absurd (cc)
same_lines (l ∷ lines) (m ∷ lines') e ok ok' =
    let first : text_of l ≡ text_of m = cc in
    let rest : map text_of lines ≡ map text_of lines' = cc in
    let is : l ≡ m = one l m ok.0 ok'.0 first in
    let are : lines ≡ lines' = same_lines lines lines' rest ok.1 ok'.1 in
    cc

cons_same : (x y : SettingLine) (xs ys : List SettingLine) → x ≡ y → xs ≡ ys → x ∷ xs ≡ y ∷ ys
cons_same x y xs ys same rest = cc

same_parts : (settings settings' : List SettingLine) (lines lines' : List Line) → map setting_text settings ++ map text_of lines ≡ map setting_text settings' ++ map text_of lines' → AllByRecursion IsSettingLine settings → AllByRecursion IsSettingLine settings' → AllByRecursion IsLine lines → AllByRecursion IsLine lines' → (settings ≡ settings') × (lines ≡ lines')
same_parts [] [] lines lines' e k k' ok ok' = (refl, same_lines lines lines' e ok ok')
same_parts [] (x ∷ settings') [] lines' e k k' ok ok' = absurd (cc)
same_parts [] (x ∷ settings') (l ∷ lines) lines' e k k' ok ok' = let same : setting_text x ≡ text_of l = cc in absurd (apart x l ok.0 same)
same_parts (x ∷ settings) [] lines [] e k k' ok ok' = absurd (cc)
same_parts (x ∷ settings) [] lines (l ∷ lines') e k k' ok ok' = let same : setting_text x ≡ text_of l = cc in absurd (apart x l ok'.0 same)
same_parts (x ∷ settings) (y ∷ settings') lines lines' e k k' ok ok' =
    let first : setting_text x ≡ setting_text y = cc in
    let rest : map setting_text settings ++ map text_of lines ≡ map setting_text settings' ++ map text_of lines' = cc in
    let is : x ≡ y = one_setting_line x y k.0 k'.0 first in
    let are = same_parts settings settings' lines lines' rest k.1 k'.1 ok ok' in
    (cons_same x y settings settings' is are.0, are.1)

pub one_script : (text : List ℕ) (a b : Scripted) → IsScript text a → IsScript text b → a ≡ b
one_script text a b h k =
    let same = same_parts a.settings b.settings a.lines b.lines (sym h.lines_are.texts_are ∙ k.lines_are.texts_are) h.lines_are.are_settings k.lines_are.are_settings h.lines_are.are_lines k.lines_are.are_lines in
    ap (λ (s : List SettingLine). record { settings = s; lines = a.lines }) same.0 ∙ ap (λ (l : List Line). record { settings = b.settings; lines = l }) same.1

-- ---- no wrong line

cons_is : (t : List ℕ) (ts : List (List ℕ)) (u : List ℕ) (us : List (List ℕ)) → t ≡ u → ts ≡ us → t ∷ ts ≡ u ∷ us
cons_is t ts u us same rest = cc

-- the first texts of action lines are those of action lines
first_lines : (texts more : List (List ℕ)) (lines : List Line) → texts ++ more ≡ map text_of lines → AllByRecursion IsLine lines → (first : List Line) × (texts ≡ map text_of first) × AllByRecursion IsLine first
first_lines [] more lines is ok = ([], refl, tt)
first_lines (t ∷ texts) more [] is ok = absurd (cc)
first_lines (t ∷ texts) more (l ∷ lines) is ok =
    let same : t ≡ text_of l = cc in
    let rest : texts ++ more ≡ map text_of lines = cc in
    let first = first_lines texts more lines rest ok.1 in
    (l ∷ first.0, cons_is t texts (text_of l) (map text_of first.0) same first.1, (ok.0, first.2))

-- the first texts of a script are those of a script
first_texts : (texts more : List (List ℕ)) (settings : List SettingLine) (lines : List Line) → texts ++ more ≡ map setting_text settings ++ map text_of lines → AllByRecursion IsSettingLine settings → AllByRecursion IsLine lines
    → (first : Scripted) × (texts ≡ map setting_text first.settings ++ map text_of first.lines) × AllByRecursion IsSettingLine first.settings × AllByRecursion IsLine first.lines
first_texts [] more settings lines is ok oks = (record { settings = []; lines = [] }, refl, tt, tt)
first_texts (t ∷ texts) more [] lines is ok oks = let first = first_lines (t ∷ texts) more lines is oks in (record { settings = []; lines = first.0 }, first.1, tt, first.2)
first_texts (t ∷ texts) more (x ∷ settings) lines is ok oks =
    let same : t ≡ setting_text x = cc in
    let rest : texts ++ more ≡ map setting_text settings ++ map text_of lines = cc in
    let first = first_texts texts more settings lines rest ok.1 oks in
    (record { settings = x ∷ first.0.settings; lines = first.0.lines }, cons_is t texts (setting_text x) (map setting_text first.0.settings ++ map text_of first.0.lines) same first.1, (ok.0, first.2), first.3)

-- with each line of a script, those before it are the lines of one
right_up_to : (script : Scripted) (lines before after : List (List ℕ)) (line : List ℕ) → lines ≡ before ++ line ∷ after → AreScript script lines → AreRight (before ++ line ∷ [])
right_up_to script lines before after line parts a =
    let cut : kept (before ++ line ∷ []) ++ kept after ≡ map setting_text script.settings ++ map text_of script.lines =
    sym (filter-append (λ text. not (is_passed text)) (before ++ line ∷ []) after) ∙ (ap kept (append_assoc before (line ∷ []) after ∙ sym parts) ∙ a.texts_are) in
    let first = first_texts (kept (before ++ line ∷ [])) (kept after) script.settings script.lines cut a.are_settings a.are_lines in
    (first.0, record { texts_are = first.1; are_settings = first.2; are_lines = first.3 })

pub none_wrong : (script : Scripted) (lines : List (List ℕ)) (number : ℕ) → AreScript script lines → ¬ (IsFirstWrong lines number)
none_wrong script lines number a wrong = wrong.wrong (right_up_to script lines wrong.before wrong.after wrong.line wrong.parts a)

longer : (before before' after after' : List (List ℕ)) (line line' : List ℕ) → before ++ line ∷ after ≡ before' ++ line' ∷ after' → length before < length before' → (more : List (List ℕ)) × (before' ≡ before ++ line ∷ more)
longer [] [] after after' line line' same less = absurd (omega (arith, less))
longer [] (b ∷ before') after after' line line' same less = let first : line ≡ b = cc in (before', ap (λ (t : List ℕ). t ∷ before') (sym first))
longer (b ∷ before) [] after after' line line' same less = absurd (omega (arith, less))
longer (b ∷ before) (c ∷ before') after after' line line' same less =
    let first : b ≡ c = cc in
    let rest : before ++ line ∷ after ≡ before' ++ line' ∷ after' = cc in
    let more = longer before before' after after' line line' rest (omega (arith, less)) in
    (more.0, cons_is c before' b (before ++ line ∷ more.0) (sym first) more.1)

earlier : (lines : List (List ℕ)) (m n : ℕ) → IsFirstWrong lines m → IsFirstWrong lines n → m < n → ⊥
earlier lines m n v w less =
    let more = longer v.before w.before v.after w.after v.line w.line (sym v.parts ∙ w.parts) (omega (arith, less, v.number_is, w.number_is)) in
    v.wrong (right_up_to w.right.0 w.before v.before more.0 v.line more.1 w.right.1)

-- the first wrong line has one number
pub one_number : (lines : List (List ℕ)) (m n : ℕ) → IsFirstWrong lines m → IsFirstWrong lines n → m ≡ n
one_number lines m n v w =
    ⊎_elim (λ less. absurd (earlier lines m n v w less)) (λ most. ⊎_elim (λ less. absurd (earlier lines n m w v less)) (λ least. omega (arith, most, least)) (cases_lt n m)) (cases_lt m n)
