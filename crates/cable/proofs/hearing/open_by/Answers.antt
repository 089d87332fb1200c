use Rattle.cable.proofs.Fresh.{opened_so}
use Rattle.cable.proofs.hearing.open_by.Goals as goal

pub returns-clause-opened : goal.returns-clause-opened
returns-clause-opened g c = opened_so c.args.frame c.args.end.now c.opens.new.end c.opened_by.result c.opens.result c.opened_by.ensures c.opens.ensures.noted c.opens.ensures.known
