use Rattle.std.proofs.Common.{rules, ◌≡◌, ◌+◌, refl}
use Rattle.outside.specs.Causes.{Rose}
use Rattle.outside.specs.Links.{and_then_one}
use Rattle.outside.specs.declared.net.Ask.TheVariants as ask
use Rattle.client.proofs.Dialing.{dialed_one, failed_more}
use Rattle.client.proofs.client.Client.dial.Goals as goal

pub returns-in-Ok-clause-asked : goal.returns-in-Ok-clause-asked
returns-in-Ok-clause-asked g c =
    let one : g.N.Net.asked c.dial.new.self ≡ and_then_one (g.N.Net.asked c.loop-calling.net) (ask.Dial c.args.self.now.address c.args.self.now.ws) = search rules in
    dialed_one c.args.self.now.address c.args.self.now.ws (g.N.Net.asked c.args.net.now) (g.N.Net.asked c.loop-calling.net) (g.N.Net.asked c.dial.new.self) c.loop-calling.invariant.2 one

pub loop-calling-preserved : goal.loop-calling-preserved
loop-calling-preserved g c =
    let i = c.loop-calling.invariant in
    let one : g.N.Net.asked c.dial.new.self ≡ and_then_one (g.N.Net.asked c.loop-calling.net) (ask.Dial c.args.self.now.address c.args.self.now.ws) = search rules in
    let rose : Rose (g.N.Net.faults c.loop-calling.net) (g.N.Net.faults c.dial.new.self) = search rules in (
      search rules,
      search rules,
      dialed_one c.args.self.now.address c.args.self.now.ws (g.N.Net.asked c.args.net.now) (g.N.Net.asked c.loop-calling.net) (g.N.Net.asked c.dial.new.self) i.2 one,
      failed_more c.args.calling.now.tried c.loop-calling.calling.tried (c.loop-calling.calling.tried + 1) (g.N.Net.faults c.args.net.now) (g.N.Net.faults c.loop-calling.net) (g.N.Net.faults c.dial.new.self) refl c.dial.ensures.counted rose i.3,
    )
