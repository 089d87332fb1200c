use Rattle.session_laws.proofs.HeadlineHolds.{headline}
use Rattle.session_laws.proofs.headline.a_session_has_the_headline.Goals as goal

pub returns : goal.returns
returns c = headline
