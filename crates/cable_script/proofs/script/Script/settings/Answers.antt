use Rattle.std.proofs.Common.{◌≡◌, ap, refl, ◌∙◌}
use Rattle.cable_script.specs.Setting.{set_by, settings_by}
use Rattle.cable_script.specs.declared.setting.SettingLine.{SettingLine}
use Rattle.cable_script.proofs.Settings.{all_set, not_wrong, one_set, checked_as}
use Rattle.cable_script.proofs.script.Script.settings.Goals as goal

pub loop-line-init : goal.loop-line-init
loop-line-init c = record { left = rw c.in_ok-settings.ensures refl }

pub loop-line-preserved : goal.loop-line-preserved
loop-line-preserved c =
    let set = c.in_ok-apply.ensures.ok ∙ ap (λ (l : SettingLine). set_by c.args.side l c.loop-line.settings) c.line-item.is in
    record { left = one_set c.args.side c.setting_lines-line-items.result.now c.loop-line.line-index c.line-item.result c.loop-line.settings c.apply.new.settings c.loop-line-test.true set ∙ c.loop-line.invariant.left }

pub unreachable-requires : goal.unreachable-requires
unreachable-requires c =
    let is : c.loop-line.settings ≡ settings_by c.args.side c.setting_lines-line-items.result.now = all_set _ _ _ _ _ c.loop-line-test.false refl c.loop-line.invariant.left in
    not_wrong _ _ (checked_as _ _ _ (rw c.setting_lines-line-items.ensures.value c.setting_lines-line-items.ensures.right) is) c.in-Err.ensures.1

pub returns-clause-settings : goal.returns-clause-settings
returns-clause-settings c = c.in-Ok.ensures.0 ∙ all_set _ _ _ _ _ c.loop-line-test.false c.setting_lines-line-items.ensures.value c.loop-line.invariant.left

pub returns-clause-checked : goal.returns-clause-checked
returns-clause-checked c = checked_as _ _ _ c.setting_lines-line-items.ensures.right (returns-clause-settings c)
