use Rattle.std.proofs.Common.{ap}
use Rattle.rtrb.specs.Ring.{received, sent}
use Rattle.threaded_client.proofs.Answering.{idle_line, is_idle, on_ok_one}
use Rattle.threaded_client.proofs.Carrying.{carrying_idle}
use Rattle.threaded_client.proofs.carrier.ClientCarrier.line.Goals as goal

pub returns-in_ok-up-in-Up-clause-kept : goal.returns-in_ok-up-in-Up-clause-kept
returns-in_ok-up-in-Up-clause-kept g c =
    let now = c.step.new.self in
    on_ok_one c.step.result (λ kept done k.
    carrying_idle now.caller done now.pump c.args.line.now (sent now.out) (received now.from) (idle_line now.pump c.args.line.now (ap is_idle c.in-Up.is)) (kept done (c.in_ok-up-in-Up.ensures.kept done k))) c.step.ensures.kept

pub returns-in_ok-down-in-Down-clause-kept : goal.returns-in_ok-down-in-Down-clause-kept
returns-in_ok-down-in-Down-clause-kept g c done k =
    let now = c.down.new.self in
    carrying_idle now.caller done now.pump c.args.line.now (sent now.out) (received now.from) (idle_line now.pump c.args.line.now (ap is_idle c.in-Down.is)) (c.in_ok-down-in-Down.ensures.kept done k)

pub returns-in-Drain-clause-kept : goal.returns-in-Drain-clause-kept
returns-in-Drain-clause-kept g c =
    let now = c.drain.new.self in
    on_ok_one c.drain.result (λ kept done k.
    carrying_idle now.caller done now.pump c.args.line.now (sent now.out) (received now.from) (idle_line now.pump c.args.line.now (ap is_idle c.in-Drain.is)) (kept done k)) c.drain.ensures.kept

pub returns-in-Ask-clause-kept : goal.returns-in-Ask-clause-kept
returns-in-Ask-clause-kept g c done k =
    let now = c.args.self.now in
    carrying_idle now.caller done now.pump c.args.line.now (sent now.out) (received now.from) (idle_line now.pump c.args.line.now (ap is_idle c.in-Ask.is)) k

pub returns-in-Many-clause-kept : goal.returns-in-Many-clause-kept
returns-in-Many-clause-kept g c done k =
    let now = c.args.self.now in
    carrying_idle now.caller done now.pump c.args.line.now (sent now.out) (received now.from) (idle_line now.pump c.args.line.now (ap is_idle c.in-Many.is)) k

pub returns-in-Drop-clause-kept : goal.returns-in-Drop-clause-kept
returns-in-Drop-clause-kept g c done k =
    let now = c.args.self.now in
    carrying_idle now.caller done now.pump c.args.line.now (sent now.out) (received now.from) (idle_line now.pump c.args.line.now (ap is_idle c.in-Drop.is)) k

pub returns-in-Late-clause-kept : goal.returns-in-Late-clause-kept
returns-in-Late-clause-kept g c done k =
    let now = c.args.self.now in
    carrying_idle now.caller done now.pump c.args.line.now (sent now.out) (received now.from) (idle_line now.pump c.args.line.now (ap is_idle c.in-Late.is)) k
