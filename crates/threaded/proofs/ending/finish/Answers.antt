use Rattle.rtrb.specs.Ring.{received, sent}
use Rattle.threaded.specs.Threads.{NearHands}
use Rattle.threaded.proofs.Ended.{if_ok_at}
use Rattle.threaded.proofs.ending.finish.Goals as goal

pub returns-in-Ok-clause-played : goal.returns-in-Ok-clause-played
returns-in-Ok-clause-played g c = λ lines side checked others near far went.
    let b = c.args.returned in
    c.finish_near.ensures.played lines side checked others (if_ok_at b.near c.in-Ok.near (λ n. NearHands lines c.args.client b.client_asked.caller b.client_asked.want n.caller n.pump (sent n.out) (received n.from)) c.in-Ok.is near) far went
