use Rattle.std.proofs.Common.{subst}
use Rattle.link_model.specs.Carrying.{Between}
use Rattle.pump.specs.Turns.{Hears, has}
use Rattle.pump.proofs.pump.Pump.hear.Goals as goal

pub returns-clause-hears : goal.returns-clause-hears
returns-clause-hears g c =
    subst (λ (b : Between). Hears c.args.connection.now.settings c.args.caller.now c.hear_all.new.caller b (has c.hear_all.new.self) c.hear_all.result) c.self.view_is c.hear_all.ensures.hears
