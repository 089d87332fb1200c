use Rattle.std.proofs.Common.{◌∷◌, []}
use Rattle.format_tests.proofs.queues.append_pair.Given as goal

abbrev pub ghost-append_with : goal.ghost-append_with
ghost-append_with a = a.write.0.now ∷ a.write.0.now ∷ []
