use Rattle.load_script.proofs.Lines.{million, three}
use Rattle.load_script.proofs.writing.put_first.Goals as goal

pub returns : goal.returns
returns c = simp (million, three) c.write_text.ensures
