-- The text of a script.
use Rattle.std.specs.Prelude.{ℕ, List, ◌++◌, map}
use Rattle.std.specs.List.{flat_map}
use Rattle.plain_text.specs.Lines.{ended}
use Rattle.cable_script.specs.declared.line.Line.{Line}
use Rattle.cable_script.specs.Line.{text_of}
use Rattle.cable_script.specs.Scripted.{Scripted}
use Rattle.cable_script.specs.Setting.{setting_text}

-- texts, each ended by a line feed
abbrev pub ended_all : List (List ℕ) → List ℕ
ended_all texts = flat_map ended texts

-- the text of action lines
abbrev pub text_of_lines : List Line → List ℕ
text_of_lines lines = ended_all (map text_of lines)

-- the text of a script without comments or empty lines
abbrev pub text_of_script : Scripted → List ℕ
text_of_script s = ended_all (map setting_text s.settings) ++ text_of_lines s.lines
