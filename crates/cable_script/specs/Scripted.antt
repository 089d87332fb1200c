-- What contracts see of a script.
use Rattle.std.specs.Prelude.{List, [], ◌∷◌, ◌++◌}
use Rattle.cable_script.specs.declared.line.Line.{Line}
use Rattle.cable_script.specs.declared.setting.SettingLine.{SettingLine}

-- its settings, and its action lines, each in their order
pub record Scripted : Type 0 where
  pub settings : List SettingLine
  pub lines : List Line

-- one more setting line, or action line, at the end
abbrev pub and_setting : SettingLine → Scripted → Scripted
and_setting setting s = record s { settings = s.settings ++ setting ∷ [] }

abbrev pub and_line : Line → Scripted → Scripted
and_line line s = record s { lines = s.lines ++ line ∷ [] }
