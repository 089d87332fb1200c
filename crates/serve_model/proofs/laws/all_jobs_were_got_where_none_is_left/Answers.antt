use Rattle.serve_model.proofs.Jobs.{all_were_got}
use Rattle.serve_model.proofs.laws.all_jobs_were_got_where_none_is_left.Goals as goal

pub returns : goal.returns
returns c = all_were_got
