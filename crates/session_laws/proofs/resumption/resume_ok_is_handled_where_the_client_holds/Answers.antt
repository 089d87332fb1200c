use Rattle.session_laws.proofs.Verdict.{goes_on_agreed, ok_handled}
use Rattle.session_laws.proofs.resumption.resume_ok_is_handled_where_the_client_holds.Goals as goal

pub returns : goal.returns
returns c = record { handled = ok_handled; agreed = goes_on_agreed }
