use Rattle.serve_threads.proofs.Arriving.{one_accepted}
use Rattle.serve_threads.proofs.guest.GuestLinkPlaceShared.accept.Goals as goal

pub returns-in-Ok-clause-accepted : goal.returns-in-Ok-clause-accepted
returns-in-Ok-clause-accepted g c _ =
    let e = c.in-Ok.ensures in
    one_accepted g.N.Net.asked g.N.Net.back g.N.Net.out g.N.Net.faults c.args.shared.now.ws c.args.net.now c.accept.new.self e.asked e.back e.out e.faults
