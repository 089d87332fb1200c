use Rattle.std.proofs.Common.{sym, subst, ◌∙◌}
use Rattle.session_model.specs.Legal.{Fair}
use Rattle.cable.proofs.Reporting.{tellable, told_list}
use Rattle.cable.proofs.reports.put_end_entries.Goals as goal

pub put_entries-requires : goal.put_entries-requires
put_entries-requires g c = λ entries is. tellable c.args.end.now.settings entries (subst (Fair c.args.end.now.settings) (sym (told_list c.args.end.now.tells c.args.end.now.entries entries (sym c.tape.ensures.told ∙ is))) c.legal.ensures.fair)
