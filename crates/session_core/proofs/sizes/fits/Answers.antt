use Rattle.session_core.proofs.SentOnce.{alone_below}
use Rattle.session_core.proofs.sizes.fits.Goals as goal

pub returns-else-mtu-eq0 : goal.returns-else-mtu-eq0
returns-else-mtu-eq0 c f is short = alone_below f c.args.mtu c.args.length is short
