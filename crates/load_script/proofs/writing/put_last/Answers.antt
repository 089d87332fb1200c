use Rattle.load_script.proofs.Lines.{one, three}
use Rattle.load_script.proofs.writing.put_last.Goals as goal

pub returns : goal.returns
returns c = simp (one, three) c.write_text.ensures
