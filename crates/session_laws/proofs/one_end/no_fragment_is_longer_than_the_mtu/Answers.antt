use Rattle.session_laws.proofs.Fragments.{made_fits}
use Rattle.session_laws.proofs.one_end.no_fragment_is_longer_than_the_mtu.Goals as goal

pub returns : goal.returns
returns c = made_fits
