use Rattle.cable.proofs.Followed.{client_called, server_called}
use Rattle.cable.proofs.cable.Cable.call.Goals as goal

pub returns-in_ok-ask-in-Client-clause-played : goal.returns-in_ok-ask-in-Client-clause-played
returns-in_ok-ask-in-Client-clause-played g c = λ r at.
    client_called (record { client = c.self.inside.client; server = c.self.inside.server; wire = c.self.inside.wire; dropped = c.self.inside.dropped }) c.args.self.now r c.ask.new.end c.args.side c.args.call.now c.self.view_is c.in-Client.is at c.legal.ensures.legal c.legal.ensures.fair c.ask.ensures.end c.in_ok-ask-in-Client.ensures.noted

pub returns-in_ok-ask-in-Server-clause-played : goal.returns-in_ok-ask-in-Server-clause-played
returns-in_ok-ask-in-Server-clause-played g c = λ r at.
    server_called (record { client = c.self.inside.client; server = c.self.inside.server; wire = c.self.inside.wire; dropped = c.self.inside.dropped }) c.args.self.now r c.ask-in-Server.new.end c.args.side c.args.call.now c.self.view_is c.in-Server.is at c.legal-in-Server.ensures.legal c.legal-in-Server.ensures.fair c.ask-in-Server.ensures.end c.in_ok-ask-in-Server.ensures.noted
