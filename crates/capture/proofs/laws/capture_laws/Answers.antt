use Rattle.capture.proofs.OneWay.{either, framed_capture, one, one_place}
use Rattle.capture.proofs.laws.capture_laws.Goals as goal

pub returns : goal.returns
returns c = record { one = one; either = either; one_place = one_place; framed = framed_capture }
