use Rattle.cable.proofs.Ticking.{ticked}
use Rattle.cable.proofs.cable.Cable.tick.Goals as goal

pub returns-clause-played : goal.returns-clause-played
returns-clause-played g c = λ r at.
    ticked (record { client = c.self.inside.client; server = c.self.inside.server; wire = c.self.inside.wire; dropped = c.self.inside.dropped }) c.args.self.now r c.args.now c.pass.new.end c.pass-2.new.end c.self.view_is at c.legal.ensures.legal c.legal.ensures.fair c.legal-2.ensures.legal c.legal-2.ensures.fair c.in_ok-pass.ensures.end c.in_ok-pass-2.ensures.end c.in_ok-pass.ensures.noted c.in_ok-pass-2.ensures.noted
