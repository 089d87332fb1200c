use Rattle.std.proofs.Common.{subst}
use Rattle.cable.specs.Played.{Sides}
use Rattle.cable.specs.Shelves.{EndsOf}
use Rattle.cable.proofs.OverShelf.{at_ok, got_both, if_ok, ok_is, report_is, session_tape, side_is, sides_are, told_of, two_tapes, went_on}
use Rattle.cable.proofs.shelved.play.Goals as goal

pub returns-clause-reports : goal.returns-clause-reports
returns-clause-reports g c = at_ok c.report_of-text.result _ (λ text is.
    let went = ok_is _ _ _ is c.report_of-text.ensures.went in
    let client = went_on _ _ _ _ c.in_ok-client.ensures.client c.scheduled-ran.ensures.client in
    let server = went_on _ _ _ _ c.in_ok-client.ensures.server c.scheduled-ran.ensures.server in
    record {
      client = c.scheduled-ran.result.client.entries;
      server = c.scheduled-ran.result.server.entries;
      ends = subst (λ (s : Sides). EndsOf s c.args.script.now.lines c.scheduled-ran.result.client.entries c.scheduled-ran.result.server.entries) (sides_are _ _ _ _ _ c.in_ok-client.ensures.client c.in_ok-client.ensures.server) (record {
        played = c.scheduled-ran.ensures.played went;
        client_side = side_is _ _ _ _ c.in_ok-client.ensures.client;
        server_side = side_is _ _ _ _ c.in_ok-client.ensures.server;
        client_checked = c.in_ok-client.ensures.checked.0;
        server_checked = c.in_ok-client.ensures.checked.1;
        client_legal = c.scheduled-ran.ensures.client_legal;
        server_legal = c.scheduled-ran.ensures.server_legal;
        client_fair = c.scheduled-ran.ensures.client_fair;
        server_fair = c.scheduled-ran.ensures.server_fair;
        client_headline = c.scheduled-ran.ensures.client_headline;
        server_headline = c.scheduled-ran.ensures.server_headline;
        pairs = (c.scheduled-ran.ensures.joined went).0;
        joined = (c.scheduled-ran.ensures.joined went).1;
        server_handled = c.scheduled-ran.ensures.up went;
        client_handled = c.scheduled-ran.ensures.down went;
        client_accuses_nobody = c.scheduled-ran.ensures.client_accuses_nobody went;
        server_accuses_nobody = c.scheduled-ran.ensures.server_accuses_nobody went;
      });
      put_back = got_both _ _ _ _ _ _ _ _ c.in_ok-client.ensures.back c.put_back.ensures.back c.put_back-2.ensures.back
          (told_of _ _ _ _ _ c.in_ok-client.ensures.client c.scheduled-ran.ensures.client c.into_tape.ensures.told)
          (told_of _ _ _ _ _ c.in_ok-client.ensures.server c.scheduled-ran.ensures.server c.into_tape-2.ensures.told);
      reported = report_is _ _ _ _ _ _ client server (if_ok _ _ _ is c.report_of-text.ensures.reported);
    })

pub scheduled-ran-requires-clause-client_side : goal.scheduled-ran-requires-clause-client_side
scheduled-ran-requires-clause-client_side g c = side_is _ _ _ _ c.in_ok-client.ensures.client

pub scheduled-ran-requires-clause-server_side : goal.scheduled-ran-requires-clause-server_side
scheduled-ran-requires-clause-server_side g c = side_is _ _ _ _ c.in_ok-client.ensures.server

pub returns-clause-got : goal.returns-clause-got
returns-clause-got g c = two_tapes _ _ _ _ _ _ _ _ c.in_ok-client.ensures.back c.put_back.ensures.back c.put_back-2.ensures.back
    (session_tape _ _ _ _ _ c.in_ok-client.ensures.client c.scheduled-ran.ensures.client c.into_tape.ensures.told c.scheduled-ran.ensures.client_legal c.scheduled-ran.ensures.client_fair)
    (session_tape _ _ _ _ _ c.in_ok-client.ensures.server c.scheduled-ran.ensures.server c.into_tape-2.ensures.told c.scheduled-ran.ensures.server_legal c.scheduled-ran.ensures.server_fair)
