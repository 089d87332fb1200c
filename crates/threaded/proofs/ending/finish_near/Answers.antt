use Rattle.rtrb.specs.Ring.{received, sent}
use Rattle.threaded.specs.Threads.{FarHands}
use Rattle.threaded.proofs.Ended.{if_ok_at}
use Rattle.threaded.proofs.ending.finish_near.Goals as goal

pub returns-in-Ok-clause-played : goal.returns-in-Ok-clause-played
returns-in-Ok-clause-played g c = λ lines side checked others near far went.
    c.gather.ensures.played lines side checked others near (if_ok_at c.args.far c.in-Ok.far (λ f. FarHands lines c.args.server c.args.server_asked.caller c.args.server_asked.want f.caller f.knows (sent f.out) (received f.from)) c.in-Ok.is far) went
