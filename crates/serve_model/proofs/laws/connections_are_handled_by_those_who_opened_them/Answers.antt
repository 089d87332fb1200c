use Rattle.std.proofs.Common.{◌++◌, refl}
use Rattle.session_laws.proofs.OpenedOnce.{opened_once}
use Rattle.serve_model.proofs.Owners.{opener_alone, own_grows}
use Rattle.serve_model.proofs.laws.connections_are_handled_by_those_who_opened_them.Goals as goal

pub returns : goal.returns
returns c = record {
  grows = λ names old more past h. own_grows names old more (more ++ old) past refl h;
  alone = λ g n c past legal mine own. opener_alone n c past past (opened_once g past c legal) mine own;
}
