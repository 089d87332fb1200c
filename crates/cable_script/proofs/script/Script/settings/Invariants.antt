use Rattle.std.proofs.Common.{◌≡◌, drop}
use Rattle.cable_script.specs.Setting.{set_by_all, settings_by}
use Rattle.cable_script.proofs.script.Script.settings.Given as goal

abbrev pub invariant-loop-line : goal.invariant-loop-line
invariant-loop-line l = record {
  left : set_by_all l.side (drop l.line-index l.line-items) l.settings ≡ settings_by l.side l.line-items;
}
