use Rattle.serve_model.proofs.Counts.{accepted_on, opened_on, opens_on, since_on}
use Rattle.serve_model.proofs.laws.counts_stay_where_nothing_is_opened.Goals as goal

pub returns : goal.returns
returns c = record { opens = opens_on; accepted = accepted_on; opened = opened_on; since = since_on }
