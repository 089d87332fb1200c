use Rattle.link_model.proofs.Fresh.{is_carried}
use Rattle.pump.proofs.ReadOut.{is_heard}
use Rattle.pump.proofs.Going.{kept_goes, turn_goes}
use Rattle.pump.proofs.laws.pump_laws.Goals as goal

pub returns : goal.returns
returns c = record {
  carried = λ me link b alone kept. is_carried me.of.settings me.front link b (kept alone);
  other_calls = kept_goes;
  heard = is_heard;
  turns = turn_goes;
}
