use Rattle.capture.proofs.Texts.{either_text, lines, one_line, one_text}
use Rattle.capture.proofs.back_laws.text_laws.Goals as goal

pub returns : goal.returns
returns c = record { one_text = one_text; either_text = either_text; one_line = one_line; lines = lines }
