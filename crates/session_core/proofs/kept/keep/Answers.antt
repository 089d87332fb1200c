use Rattle.std.proofs.Common.{◌++◌}
use Rattle.session_core.proofs.kept.keep.Goals as goal

pub returns-clause-held : goal.returns-clause-held
returns-clause-held c = λ more same made told is low. c.release.ensures.of_made (made ++ more) told (c.keep_all.ensures.kept made told more is low same)
