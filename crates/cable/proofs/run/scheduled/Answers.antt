use Rattle.std.proofs.Common.{sym, ◌∙◌}
use Rattle.session_laws.specs.Ends.{AreEnds}
use Rattle.cable.proofs.Playing.{fair_as, legal_as, ok_holds, checked_ends, run_client, run_played, run_server}
use Rattle.cable.proofs.run.scheduled.Given.{Over}
use Rattle.cable.proofs.run.scheduled.Goals as goal

played : goal.returns-clause-played
played g c = λ fine.
    let ends = c.into_ends-client.ensures in
    run_played c.args.client c.args.server c.new-cable.result c.play.new.self c.into_ends-client.result.0 c.into_ends-client.result.1 c.args.script.now.lines c.lines.result.now c.new-cable.ensures ends.client ends.server c.lines.ensures.value
    (ok_holds _ c.play.result (sym c.is_err-want.ensures.value ∙ fine) c.play.ensures.played)

ends_of : (g : Over) (c : goal.After-played_laws g) → AreEnds c.args.client.settings c.args.server.settings c.into_ends-client.result.0.entries c.into_ends-client.result.1.entries
ends_of g c =
    let first = c.new-cable.result in
    let last = c.play.new.self in
    let C = c.into_ends-client.result.0 in
    let S = c.into_ends-client.result.1 in
    let client = run_client c.args.client c.args.server first last C c.new-cable.ensures c.play.ensures.ends c.into_ends-client.ensures.client in
    let server = run_server c.args.client c.args.server first last S c.new-cable.ensures c.play.ensures.ends c.into_ends-client.ensures.server in
    checked_ends c.args.client.settings c.args.server.settings C.entries S.entries c.requires.client_side c.requires.server_side c.requires.client_checked c.requires.server_checked (legal_as c.args.client C client c.legal.ensures.legal) (fair_as c.args.client C client c.legal.ensures.fair) (legal_as c.args.server S server c.legal-2.ensures.legal) (fair_as c.args.server S server c.legal-2.ensures.fair)

pub returns-clause-played : goal.returns-clause-played
returns-clause-played g c = played g c

pub returns-clause-joined : goal.returns-clause-joined
returns-clause-joined g c = λ fine. let p = played g c fine in (p.ends.pairs, c.played_laws.ensures.joined (record { client = c.args.client.settings; server = c.args.server.settings }) _ _ _ p (ends_of g c))

pub returns-clause-up : goal.returns-clause-up
returns-clause-up g c = λ fine. c.played_laws.ensures.up (record { client = c.args.client.settings; server = c.args.server.settings }) _ _ _ (played g c fine) (ends_of g c)

pub returns-clause-down : goal.returns-clause-down
returns-clause-down g c = λ fine. c.played_laws.ensures.down (record { client = c.args.client.settings; server = c.args.server.settings }) _ _ _ (played g c fine) (ends_of g c)

pub returns-clause-client_accuses_nobody : goal.returns-clause-client_accuses_nobody
returns-clause-client_accuses_nobody g c = λ fine. c.played_laws.ensures.client_accuses_nobody (record { client = c.args.client.settings; server = c.args.server.settings }) _ _ _ (played g c fine) (ends_of g c)

pub returns-clause-server_accuses_nobody : goal.returns-clause-server_accuses_nobody
returns-clause-server_accuses_nobody g c = λ fine. c.played_laws.ensures.server_accuses_nobody (record { client = c.args.client.settings; server = c.args.server.settings }) _ _ _ (played g c fine) (ends_of g c)

pub returns-clause-client_legal : goal.returns-clause-client_legal
returns-clause-client_legal g c = (ends_of g c).client_legal

pub returns-clause-server_legal : goal.returns-clause-server_legal
returns-clause-server_legal g c = (ends_of g c).server_legal

pub returns-clause-client_fair : goal.returns-clause-client_fair
returns-clause-client_fair g c = (ends_of g c).client_fair

pub returns-clause-server_fair : goal.returns-clause-server_fair
returns-clause-server_fair g c = (ends_of g c).server_fair

pub returns-clause-client_headline : goal.returns-clause-client_headline
returns-clause-client_headline g c = let ends = ends_of g c in c.a_session_has_the_headline.ensures _ _ (record { legal = ends.client_legal; fair = ends.client_fair })

pub returns-clause-server_headline : goal.returns-clause-server_headline
returns-clause-server_headline g c = let ends = ends_of g c in c.a_session_has_the_headline.ensures _ _ (record { legal = ends.server_legal; fair = ends.server_fair })
