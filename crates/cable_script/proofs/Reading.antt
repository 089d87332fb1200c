-- How far the lines of a text were read.
use Rattle.std.proofs.lemmas.Grind.{common_steps}
use Rattle.std.proofs.Common.{◌≡◌, ℕ, ◌+◌, ◌≤◌, ◌⊎◌, inl, inr, ⊎_elim, Bool, true, false, List, [], ◌∷◌, ◌++◌, length, map, Result, Ok, Err, not, refl, ap, sym, subst, ◌∙◌, append_assoc, arith}
use Rattle.std.specs.Prelude.{IfOk, IsOkAnd}
use Rattle.std.specs.List.{AllByRecursion}
use Rattle.std.proofs.lemmas.List.{length-append, append-nil, map-append}
use Rattle.std.proofs.lemmas.List.Elements.{filter-append}
use Rattle.rs_wire.specs.declared.memory.OutOfMemory.{OutOfMemory}
use Rattle.plain_text.specs.Lines.{lines_of}
use Rattle.plain_text.proofs.Feeds.{lines_of-nil}
use Rattle.cable_script.specs.declared.TheConstants.{MOST_SCRIPT}
use Rattle.cable_script.specs.declared.line.Line.{Line}
use Rattle.cable_script.specs.declared.setting.SettingLine.{SettingLine}
use Rattle.cable_script.specs.Line.{IsLine, text_of}
use Rattle.cable_script.specs.Setting.{IsSettingLine, setting_text}
use Rattle.cable_script.specs.Scripted.{Scripted, and_line, and_setting}
use Rattle.cable_script.specs.Script.{AreRight, AreScript, IsFirstWrong, IsOf, IsScript, WereRead, acts, is_passed, kept}

-- ---- the texts of a script

-- the text is that of an action line, or of a setting line
abbrev pub IsAction : List ℕ → Type 0
IsAction text = (l : Line) × IsLine l × (text ≡ text_of l)

abbrev pub IsSettingText : List ℕ → Type 0
IsSettingText text = (x : SettingLine) × IsSettingLine x × (text ≡ setting_text x)

-- no setting line is an action line
pub apart : (x : SettingLine) (l : Line) → IsLine l → setting_text x ≡ text_of l → ⊥
apart x l h1 h2 = grind (arith, common_steps)

one_action : (lines : List Line) (before after : List (List ℕ)) (text : List ℕ) → map text_of lines ≡ before ++ text ∷ after → AllByRecursion IsLine lines → IsAction text
one_action [] [] after text is ok = cc
one_action [] (b ∷ before) after text is ok = cc
one_action (l ∷ lines) [] after text is ok = let same : text ≡ text_of l = cc in (l, ok.0, same)
one_action (l ∷ lines) (b ∷ before) after text is ok = let rest : map text_of lines ≡ before ++ text ∷ after = cc in one_action lines before after text rest ok.1

-- each text of a script is one or the other
pub either : (settings : List SettingLine) (lines : List Line) (before after : List (List ℕ)) (text : List ℕ) → map setting_text settings ++ map text_of lines ≡ before ++ text ∷ after → AllByRecursion IsSettingLine settings → AllByRecursion IsLine lines → IsSettingText text ⊎ IsAction text
either [] lines before after text is ok oks = inr (one_action lines before after text is oks)
either (x ∷ settings) lines [] after text is ok oks = let same : text ≡ setting_text x = cc in inl (x, ok.0, same)
either (x ∷ settings) lines (b ∷ before) after text is ok oks = let rest : map setting_text settings ++ map text_of lines ≡ before ++ text ∷ after = cc in either settings lines before after text rest ok.1 oks

-- a text after an action line is that of one
after_action : (settings : List SettingLine) (lines : List Line) (settings' : List SettingLine) (lines' : List Line) (text : List ℕ) → acts lines ≡ true → (map setting_text settings ++ map text_of lines) ++ text ∷ [] ≡ map setting_text settings' ++ map text_of lines' → AllByRecursion IsLine lines → AllByRecursion IsLine lines' → IsAction text
after_action [] [] settings' lines' text none is ok ok' = absurd (cc)
after_action [] (l ∷ lines) [] lines' text some is ok ok' = one_action lines' (map text_of (l ∷ lines)) [] text (sym is) ok'
after_action [] (l ∷ lines) (y ∷ settings') lines' text some is ok ok' = let same : setting_text y ≡ text_of l = cc in absurd (apart y l ok.0 same)
after_action (x ∷ settings) lines [] [] text some is ok ok' = absurd (cc)
after_action (x ∷ settings) lines [] (l ∷ lines') text some is ok ok' = let same : setting_text x ≡ text_of l = cc in absurd (apart x l ok'.0 same)
after_action (x ∷ settings) lines (y ∷ settings') lines' text some is ok ok' =
    let rest : (map setting_text settings ++ map text_of lines) ++ text ∷ [] ≡ map setting_text settings' ++ map text_of lines' = cc in
    after_action settings lines settings' lines' text some rest ok ok'

-- ---- one text more

kept_more : (texts : List (List ℕ)) (text : List ℕ) → kept (texts ++ text ∷ []) ≡ kept texts ++ kept (text ∷ [])
kept_more texts text = filter-append (λ text. not (is_passed text)) texts (text ∷ [])

pub kept_one : (texts : List (List ℕ)) (text : List ℕ) → is_passed text ≡ false → kept (texts ++ text ∷ []) ≡ kept texts ++ text ∷ []
kept_one texts text h1 = grind (arith, common_steps, kept_more)

kept_none : (texts : List (List ℕ)) (text : List ℕ) → is_passed text ≡ true → kept (texts ++ text ∷ []) ≡ kept texts
kept_none texts text h1 = grind (arith, common_steps, kept_more)

are_none : (texts : List (List ℕ)) (text : List ℕ) (s : Scripted) → is_passed text ≡ true → AreScript s texts → AreScript s (texts ++ text ∷ [])
are_none texts text s passed a = record { texts_are = kept_none texts text passed ∙ a.texts_are; are_settings = a.are_settings; are_lines = a.are_lines }

all_more : {X : Type 0} (P : X → Type 0) (xs : List X) (x : X) → AllByRecursion P xs → P x → AllByRecursion P (xs ++ x ∷ [])
all_more P [] x all one = (one, tt)
all_more P (y ∷ xs) x all one = (all.0, all_more P xs x all.1 one)

line_text : (settings : List (List ℕ)) (lines : List Line) (l : Line) → (settings ++ map text_of lines) ++ text_of l ∷ [] ≡ settings ++ map text_of (lines ++ l ∷ [])
line_text settings lines l = append_assoc settings (map text_of lines) (text_of l ∷ []) ∙ sym (ap (λ (t : List (List ℕ)). settings ++ t) (map-append text_of lines (l ∷ [])))

are_line : (texts : List (List ℕ)) (text : List ℕ) (s : Scripted) (l : Line) → is_passed text ≡ false → text ≡ text_of l → IsLine l → AreScript s texts → AreScript (and_line l s) (texts ++ text ∷ [])
are_line texts text s l spoken is ok a = record {
  texts_are = kept_one texts text spoken ∙ (ap (λ (t : List (List ℕ)). t ++ text ∷ []) a.texts_are ∙ (ap (λ (t : List ℕ). (map setting_text s.settings ++ map text_of s.lines) ++ t ∷ []) is ∙ line_text (map setting_text s.settings) s.lines l));
  are_settings = a.are_settings;
  are_lines = all_more IsLine s.lines l a.are_lines ok;
}

no_lines : (lines : List Line) → false ≡ acts lines → lines ≡ []
no_lines [] none = refl
no_lines (l ∷ lines) none = cc

setting_more : (settings : List SettingLine) (lines : List Line) (x : SettingLine) → lines ≡ [] → (map setting_text settings ++ map text_of lines) ++ setting_text x ∷ [] ≡ map setting_text (settings ++ x ∷ []) ++ map text_of lines
setting_more settings lines x h1 = grind (arith, common_steps, map-append, append-nil)

are_setting : (texts : List (List ℕ)) (text : List ℕ) (s : Scripted) (x : SettingLine) → is_passed text ≡ false → text ≡ setting_text x → IsSettingLine x → false ≡ acts s.lines → AreScript s texts → AreScript (and_setting x s) (texts ++ text ∷ [])
are_setting texts text s x spoken is ok none a = record {
  texts_are = kept_one texts text spoken ∙ (ap (λ (t : List (List ℕ)). t ++ text ∷ []) a.texts_are ∙ (ap (λ (t : List ℕ). (map setting_text s.settings ++ map text_of s.lines) ++ t ∷ []) is ∙ setting_more s.settings s.lines x (no_lines s.lines none)));
  are_settings = all_more IsSettingLine s.settings x a.are_settings ok;
  are_lines = a.are_lines;
}

-- ---- what was read

-- a text that is passed over changes nothing
pub passed : (texts : List (List ℕ)) (text : List ℕ) (acted : Bool) (made : Result Scripted OutOfMemory) → is_passed text ≡ true → WereRead texts acted made → WereRead (texts ++ text ∷ []) acted made
passed texts text acted (Ok v) is r = record {
  script = r.script;
  is_of = record { are = are_none texts text r.script is r.is_of.are; acts_is = r.is_of.acts_is };
  made_of = record { are = are_none texts text v is r.made_of.are; acts_is = r.made_of.acts_is };
}
passed texts text acted (Err e) is r = record {
  script = r.script;
  is_of = record { are = are_none texts text r.script is r.is_of.are; acts_is = r.is_of.acts_is };
  made_of = tt;
}

acts_more : (lines : List Line) (l : Line) → true ≡ acts (lines ++ l ∷ [])
acts_more [] l = refl
acts_more (m ∷ lines) l = refl

line_of : (texts : List (List ℕ)) (text : List ℕ) (acted : Bool) (s : Scripted) (l : Line) → is_passed text ≡ false → text ≡ text_of l → IsLine l → IsOf texts acted s → IsOf (texts ++ text ∷ []) true (and_line l s)
line_of texts text acted s l spoken is ok o = record { are = are_line texts text s l spoken is ok o.are; acts_is = acts_more s.lines l }

-- an action line is one more
pub line_read : (texts : List (List ℕ)) (text word : List ℕ) (acted : Bool) (was made : Result Scripted OutOfMemory) → is_passed text ≡ false → text ≡ word → IsAction word
    → IfOk made (λ new. IsOkAnd was (λ old. (l : Line) × IsLine l × (word ≡ text_of l) × (new ≡ and_line l old)))
    → WereRead texts acted was → WereRead (texts ++ text ∷ []) true made
line_read texts text word acted (Ok old) (Ok new) spoken same a (l, ok, is, new_is) r = record {
  script = and_line a.0 r.script;
  is_of = line_of texts text acted r.script a.0 spoken (same ∙ a.2) a.1 r.is_of;
  made_of = subst (λ (v : Scripted). IsOf (texts ++ text ∷ []) true v) (sym new_is) (line_of texts text acted old l spoken (same ∙ is) ok r.made_of);
}
line_read texts text word acted (Err e) (Ok new) spoken same a made r = absurd made
line_read texts text word acted was (Err e) spoken same a made r = record {
  script = and_line a.0 r.script;
  is_of = line_of texts text acted r.script a.0 spoken (same ∙ a.2) a.1 r.is_of;
  made_of = tt;
}

setting_of : (texts : List (List ℕ)) (text : List ℕ) (s : Scripted) (x : SettingLine) → is_passed text ≡ false → text ≡ setting_text x → IsSettingLine x → IsOf texts false s → IsOf (texts ++ text ∷ []) false (and_setting x s)
setting_of texts text s x spoken is ok o = record { are = are_setting texts text s x spoken is ok o.acts_is o.are; acts_is = o.acts_is }

-- a setting line is one more
pub setting_read : (texts : List (List ℕ)) (text : List ℕ) (x : SettingLine) (acted : Bool) (was made : Result Scripted OutOfMemory) → is_passed text ≡ false → acted ≡ false → text ≡ setting_text x → IsSettingLine x
    → IfOk made (λ new. IsOkAnd was (λ old. new ≡ and_setting x old))
    → WereRead texts acted was → WereRead (texts ++ text ∷ []) false made
setting_read texts text x true was made spoken none is ok m r = absurd (cc)
setting_read texts text x false (Ok old) (Ok new) spoken none is ok m r = record {
  script = and_setting x r.script;
  is_of = setting_of texts text r.script x spoken is ok r.is_of;
  made_of = subst (λ (v : Scripted). IsOf (texts ++ text ∷ []) false v) (sym m) (setting_of texts text old x spoken is ok r.made_of);
}
setting_read texts text x false (Err e) (Ok new) spoken none is ok m r = absurd m
setting_read texts text x false was (Err e) spoken none is ok m r = record {
  script = and_setting x r.script;
  is_of = setting_of texts text r.script x spoken is ok r.is_of;
  made_of = tt;
}

-- ---- a wrong text

-- after an action line it is that of none
pub wrong_after : (texts : List (List ℕ)) (text : List ℕ) (acted : Bool) (made : Result Scripted OutOfMemory) → is_passed text ≡ false → acted ≡ true → ((l : Line) → IsLine l → ¬ (text ≡ text_of l)) → WereRead texts acted made → ¬ (AreRight (texts ++ text ∷ []))
wrong_after texts text acted made spoken some none r (t, a) =
    let s = r.script in
    let is : (map setting_text s.settings ++ map text_of s.lines) ++ text ∷ [] ≡ map setting_text t.settings ++ map text_of t.lines =
    ap (λ (ts : List (List ℕ)). ts ++ text ∷ []) (sym r.is_of.are.texts_are) ∙ (sym (kept_one texts text spoken) ∙ a.texts_are) in
    let found = after_action s.settings s.lines t.settings t.lines text (sym r.is_of.acts_is ∙ some) is r.is_of.are.are_lines a.are_lines in
    none found.0 found.1 found.2

-- it is neither that of an action line nor that of a setting line
pub wrong_both : (texts : List (List ℕ)) (text : List ℕ) → is_passed text ≡ false → ((l : Line) → IsLine l → ¬ (text ≡ text_of l)) → ((x : SettingLine) → IsSettingLine x → ¬ (text ≡ setting_text x)) → ¬ (AreRight (texts ++ text ∷ []))
wrong_both texts text spoken no_line no_setting (t, a) =
    ⊎_elim (λ x. no_setting x.0 x.1 x.2) (λ l. no_line l.0 l.1 l.2)
    (either t.settings t.lines (kept texts) [] text (sym a.texts_are ∙ kept_one texts text spoken) a.are_settings a.are_lines)

-- ---- the lines of a text

-- so many lines of the text were read
pub record SoFar (text rest : List ℕ) (number : ℕ) (acted : Bool) (made : Result Scripted OutOfMemory) : Type 0 where
  pub before : List (List ℕ)
  pub parts : lines_of text ≡ before ++ lines_of rest
  pub number_is : length before ≡ number
  pub were_read : WereRead before acted made

pub none_read : (text : List ℕ) (v : Scripted) → v.settings ≡ [] → v.lines ≡ [] → SoFar text text 0 false (Ok v)
none_read text v h1 h2 =
    let a : AreScript v [] = grind (arith, common_steps) in
    let o : IsOf [] false v = record { are = a; acts_is = ap acts (sym h2) } in
    record { before = []; parts = refl; number_is = refl; were_read = record { script = v; is_of = o; made_of = o } }

pub one_more : (text rest line after : List ℕ) (number : ℕ) (acted acted' : Bool) (made made' : Result Scripted OutOfMemory) → SoFar text rest number acted made → lines_of rest ≡ line ∷ lines_of after → ((texts : List (List ℕ)) → WereRead texts acted made → WereRead (texts ++ line ∷ []) acted' made') → SoFar text after (number + 1) acted' made'
one_more text rest line after number acted acted' made made' s cut next = record {
  before = s.before ++ line ∷ [];
  parts = s.parts ∙ (ap (λ (t : List (List ℕ)). s.before ++ t) cut ∙ sym (append_assoc s.before (line ∷ []) (lines_of after)));
  number_is = length-append s.before (line ∷ []) ∙ ap (λ (n : ℕ). n + 1) s.number_is;
  were_read = next s.before s.were_read;
}

-- the line is the first wrong one
pub first_wrong : (text rest line after : List ℕ) (number : ℕ) (acted : Bool) (made : Result Scripted OutOfMemory) → SoFar text rest number acted made → lines_of rest ≡ line ∷ lines_of after → ((texts : List (List ℕ)) → WereRead texts acted made → ¬ (AreRight (texts ++ line ∷ []))) → IsFirstWrong (lines_of text) (number + 1)
first_wrong text rest line after number acted made s cut wrong = record {
  before = s.before;
  line = line;
  after = lines_of after;
  parts = s.parts ∙ ap (λ (t : List (List ℕ)). s.before ++ t) cut;
  number_is = ap (λ (n : ℕ). n + 1) s.number_is;
  right = (s.were_read.script, s.were_read.is_of.are);
  wrong = wrong s.before s.were_read;
}

-- nothing is left
all_read : (text rest : List ℕ) (number : ℕ) (acted : Bool) (made : Result Scripted OutOfMemory) → length rest ≡ 0 → (s : SoFar text rest number acted made) → lines_of text ≡ s.before
all_read text rest number acted made h1 s = grind (arith, common_steps, lines_of-nil, append-nil)

pub all_right : (text rest : List ℕ) (number : ℕ) (acted : Bool) (made : Result Scripted OutOfMemory) → length rest ≡ 0 → SoFar text rest number acted made → AreRight (lines_of text)
all_right text rest number acted made none s = subst (λ (t : List (List ℕ)). AreRight t) (sym (all_read text rest number acted made none s)) (s.were_read.script, s.were_read.is_of.are)

pub script : (text rest : List ℕ) (number : ℕ) (acted : Bool) (made : Result Scripted OutOfMemory) (v : Scripted) → made ≡ Ok v → length text ≤ MOST_SCRIPT → length rest ≡ 0 → SoFar text rest number acted made → IsScript text v
script text rest number acted made v is short none s =
    let read : IsOf s.before acted v = subst (λ r. IfOk r (λ v. IsOf s.before acted v)) is s.were_read.made_of in
    record { short = short; lines_are = subst (λ (t : List (List ℕ)). AreScript v t) (sym (all_read text rest number acted made none s)) read.are }
