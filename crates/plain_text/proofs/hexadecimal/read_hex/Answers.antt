use Rattle.std.proofs.Common.{rules}
use Rattle.plain_text.specs.Words.{hex_bytes}
use Rattle.plain_text.proofs.Hex.{spelled}
use Rattle.plain_text.proofs.hexadecimal.read_hex.Goals as goal

pub returns-in-Ok-clause-spelled : goal.returns-in-Ok-clause-spelled
unfolding hex_bytes
returns-in-Ok-clause-spelled c = spelled c.args.mark c.args.word.now c.from_vec-in-Ok.result c.requires (search rules)
