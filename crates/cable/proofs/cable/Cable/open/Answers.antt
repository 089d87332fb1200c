use Rattle.std.proofs.Common.{◌∙◌, ap, is_some, subst, sym}
use Rattle.rs_wire.specs.Settings.{IsChecked}
use Rattle.rs_wire.specs.declared.settings.Settings.{Settings}
use Rattle.cable.specs.Wires.{Wires}
use Rattle.cable.proofs.Reopening.{opened_again, stays_open}
use Rattle.cable.proofs.cable.Cable.open.Goals as goal

pub returns-then-is_some-clause-played : goal.returns-then-is_some-clause-played
returns-then-is_some-clause-played g c = λ r at. stays_open c.args.self.now r (ap (λ (v : Wires). is_some v.wire) (sym c.self.view_is) ∙ (sym c.is_some.ensures ∙ c.if-is_some.true)) at

pub returns-clause-played : goal.returns-clause-played
returns-clause-played g c = λ r at.
    opened_again (record { client = c.self.inside.client; server = c.self.inside.server; wire = c.self.inside.wire; dropped = c.self.inside.dropped }) c.args.self.now r c.connect.new.end c.in_ok-answer.answer c.wire_of.result c.settings-2.result.now.max_in c.settings-4.result.now.max_in c.self.view_is (sym c.is_some.ensures ∙ c.if-is_some.false) at
    (record { legal = c.legal.ensures.legal; fair = c.legal.ensures.fair; same = c.connect.ensures.end; now = c.in_ok-answer.ensures.noted; right = c.in_ok-answer.ensures.answer })
    (record { most_is = ap (λ (s : Settings). s.max_in) (c.settings-2.ensures.value ∙ c.settings.ensures); here_is = ap (λ (s : Settings). s.max_in) (c.settings-4.ensures.value ∙ c.settings-3.ensures); server = subst IsChecked c.settings.ensures c.settings-2.ensures.checked; client = subst IsChecked c.settings-3.ensures c.settings-4.ensures.checked })
    c.wire_of.ensures
