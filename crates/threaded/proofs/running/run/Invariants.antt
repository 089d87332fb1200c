use Rattle.std.proofs.Common.{Some}
use Rattle.threaded.proofs.running.run.Given as goal

abbrev pub ghosts-run_named-A-Named : goal.ghosts-run_named-A-Named
ghosts-run_named-A-Named g a = record { work = Some a.work.client_asks }

abbrev pub ghosts-run_named-B-Named : goal.ghosts-run_named-B-Named
ghosts-run_named-B-Named g a = record { work = Some a.work.server_asks }

abbrev pub ghosts-run_named-C-Named : goal.ghosts-run_named-C-Named
ghosts-run_named-C-Named g a = record { work = Some a.work.far }
