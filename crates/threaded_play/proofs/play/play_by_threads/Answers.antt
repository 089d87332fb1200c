use Rattle.std.proofs.Common.{subst}
use Rattle.cable.specs.Played.{Sides}
use Rattle.cable.proofs.OverShelf.{at_ok, got_both, if_ok, ok_is, report_is, session_tape, side_is, sides_are, told_of, two_tapes, went_on}
use Rattle.threaded_play.specs.Reports.{EndsByThreads}
use Rattle.threaded_play.proofs.play.play_by_threads.Goals as goal

pub threaded-ran-requires-clause-client_side : goal.threaded-ran-requires-clause-client_side
threaded-ran-requires-clause-client_side g c = λ lifetimes outlive. side_is _ _ _ _ c.in_ok-client.ensures.client

pub threaded-ran-requires-clause-server_side : goal.threaded-ran-requires-clause-server_side
threaded-ran-requires-clause-server_side g c = λ lifetimes outlive. side_is _ _ _ _ c.in_ok-client.ensures.server

pub returns-clause-reports : goal.returns-clause-reports
returns-clause-reports g c = at_ok c.report_of-text.result _ (λ text is.
    let ran = c.threaded-ran in
    let went = ok_is _ _ _ is c.report_of-text.ensures.went in
    let client = went_on _ _ _ _ c.in_ok-client.ensures.client ran.ensures.client in
    let server = went_on _ _ _ _ c.in_ok-client.ensures.server ran.ensures.server in
    record {
      client = ran.result.client.entries;
      server = ran.result.server.entries;
      ends = subst (λ (s : Sides). EndsByThreads s c.args.script.now.lines ran.result.client.entries ran.result.server.entries) (sides_are _ _ _ _ _ c.in_ok-client.ensures.client c.in_ok-client.ensures.server) (record {
        played = ran.ensures.played went;
        ends = record {
          client = side_is _ _ _ _ c.in_ok-client.ensures.client;
          server = side_is _ _ _ _ c.in_ok-client.ensures.server;
          client_checked = c.in_ok-client.ensures.checked.0;
          server_checked = c.in_ok-client.ensures.checked.1;
          client_legal = ran.ensures.client_legal;
          server_legal = ran.ensures.server_legal;
          client_fair = ran.ensures.client_fair;
          server_fair = ran.ensures.server_fair;
        };
        client_headline = ran.ensures.client_headline;
        server_headline = ran.ensures.server_headline;
        joined = ran.ensures.joined went;
        server_handled = ran.ensures.up went;
        client_handled = ran.ensures.down went;
        client_accuses_nobody = ran.ensures.client_accuses_nobody went;
        server_accuses_nobody = ran.ensures.server_accuses_nobody went;
      });
      put_back = got_both _ _ _ _ _ _ _ _ c.in_ok-client.ensures.back c.put_back.ensures.back c.put_back-2.ensures.back
          (told_of _ _ _ _ _ c.in_ok-client.ensures.client ran.ensures.client c.into_tape.ensures.told)
          (told_of _ _ _ _ _ c.in_ok-client.ensures.server ran.ensures.server c.into_tape-2.ensures.told);
      reported = report_is _ _ _ _ _ _ client server (if_ok _ _ _ is c.report_of-text.ensures.reported);
    })

pub returns-clause-got : goal.returns-clause-got
returns-clause-got g c = two_tapes _ _ _ _ _ _ _ _ c.in_ok-client.ensures.back c.put_back.ensures.back c.put_back-2.ensures.back
    (session_tape _ _ _ _ _ c.in_ok-client.ensures.client c.threaded-ran.ensures.client c.into_tape.ensures.told c.threaded-ran.ensures.client_legal c.threaded-ran.ensures.client_fair)
    (session_tape _ _ _ _ _ c.in_ok-client.ensures.server c.threaded-ran.ensures.server c.into_tape-2.ensures.told c.threaded-ran.ensures.server_legal c.threaded-ran.ensures.server_fair)
