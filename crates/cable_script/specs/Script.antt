-- A script: the lines of a text, and the first that is wrong.
use Rattle.std.specs.Prelude.{◌≡◌, ℕ, ◌+◌, ◌<◌, ◌≤◌, ◌⊎◌, ◌==◌, Bool, true, false, not, List, [], ◌∷◌, ◌++◌, length, map, filter, Result, IfOk}
use Rattle.std.specs.List.{AllByRecursion}
use Rattle.rs_wire.specs.declared.memory.OutOfMemory.{OutOfMemory}
use Rattle.plain_text.specs.Lines.{lines_of}
use Rattle.cable_script.specs.declared.TheConstants.{MOST_SCRIPT}
use Rattle.cable_script.specs.declared.line.Line.{Line}
use Rattle.cable_script.specs.declared.script.ScriptFault.{ScriptFault}
use Rattle.cable_script.specs.declared.script.ScriptFault.TheVariants as faults
use Rattle.cable_script.specs.Line.{IsLine, text_of}
use Rattle.cable_script.specs.Setting.{IsSettingLine, setting_text}
use Rattle.cable_script.specs.Scripted.{Scripted}

-- an empty line, or a comment: it begins with #
abbrev pub is_passed : List ℕ → Bool
is_passed [] = true
is_passed (b ∷ text) = b == 35

-- the texts that are not passed over
abbrev pub kept : List (List ℕ) → List (List ℕ)
kept texts = filter (λ text. not (is_passed text)) texts

-- the texts, but for those that are passed over, are those of the settings, and then those of the action lines
pub record AreScript (script : Scripted) (texts : List (List ℕ)) : Type 0 where
  pub texts_are : kept texts ≡ map setting_text script.settings ++ map text_of script.lines
  pub are_settings : AllByRecursion IsSettingLine script.settings
  pub are_lines : AllByRecursion IsLine script.lines

-- a text that is short enough, and its script
pub record IsScript (text : List ℕ) (script : Scripted) : Type 0 where
  pub short : length text ≤ MOST_SCRIPT
  pub lines_are : AreScript script (lines_of text)

-- the texts are those of some script
abbrev pub AreRight : List (List ℕ) → Type 0
AreRight texts = (script : Scripted) × AreScript script texts

-- the line of this number, from 1, is the first that is wrong: those before it are the lines of a script, and with it
-- they are those of none
pub record IsFirstWrong (lines : List (List ℕ)) (number : ℕ) : Type 0 where
  pub before : List (List ℕ)
  pub line : List ℕ
  pub after : List (List ℕ)
  pub parts : lines ≡ before ++ line ∷ after
  pub number_is : length before + 1 ≡ number
  pub right : AreRight before
  pub wrong : ¬ (AreRight (before ++ line ∷ []))

-- where each fault comes; out of memory only where nothing else is wrong
abbrev pub IsFault : List ℕ → ScriptFault → Type 0
IsFault text (faults.Line number) = ((number ≡ 0) × (MOST_SCRIPT < length text)) ⊎ ((length text ≤ MOST_SCRIPT) × IsFirstWrong (lines_of text) number)
IsFault text faults.OutOfMemory = (length text ≤ MOST_SCRIPT) × AreRight (lines_of text)

-- ---- reading

-- there is an action line
abbrev pub acts : List Line → Bool
acts [] = false
acts (l ∷ lines) = true

-- the texts are those of this script, which has an action line or not
pub record IsOf (texts : List (List ℕ)) (acted : Bool) (script : Scripted) : Type 0 where
  pub are : AreScript script texts
  pub acts_is : acted ≡ acts script.lines

-- these texts were read: they are those of a script, and it was made where there was memory
pub record WereRead (texts : List (List ℕ)) (acted : Bool) (made : Result Scripted OutOfMemory) : Type 0 where
  pub script : Scripted
  pub is_of : IsOf texts acted script
  pub made_of : IfOk made (IsOf texts acted)
