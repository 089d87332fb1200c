use Rattle.std.proofs.Common.{subst}
use Rattle.rs_wire.specs.declared.settings.Settings.{Settings}
use Rattle.session_model.specs.Legal.{Fair, Legal}
use Rattle.session_laws.specs.Ends.{AreEnds}
use Rattle.threaded.proofs.run.threaded.Given.{Over}
use Rattle.threaded.proofs.run.threaded.Goals as goal

ends_of : (g : Over) (c : goal.After-run_laws g) → AreEnds c.args.client.settings c.args.server.settings c.play_by_threads-ran.result.client.entries c.play_by_threads-ran.result.server.entries
ends_of g c =
    let ran = c.play_by_threads-ran in
    record {
      client = c.requires.client_side;
      server = c.requires.server_side;
      client_checked = c.requires.client_checked;
      server_checked = c.requires.server_checked;
      client_legal = subst (λ (h : Settings). Legal h ran.result.client.entries) ran.ensures.client_settings c.legal.ensures.legal;
      server_legal = subst (λ (h : Settings). Legal h ran.result.server.entries) ran.ensures.server_settings c.legal-2.ensures.legal;
      client_fair = subst (λ (h : Settings). Fair h ran.result.client.entries) ran.ensures.client_settings c.legal.ensures.fair;
      server_fair = subst (λ (h : Settings). Fair h ran.result.server.entries) ran.ensures.server_settings c.legal-2.ensures.fair;
    }

pub returns-clause-joined : goal.returns-clause-joined
returns-clause-joined g c = λ went. c.run_laws.ensures.joined c.args.client.settings c.args.server.settings c.args.script.now.lines c.play_by_threads-ran.result.client.entries c.play_by_threads-ran.result.server.entries (c.play_by_threads-ran.ensures.played went) (ends_of g c)

pub returns-clause-up : goal.returns-clause-up
returns-clause-up g c = λ went. c.run_laws.ensures.up c.args.client.settings c.args.server.settings c.args.script.now.lines c.play_by_threads-ran.result.client.entries c.play_by_threads-ran.result.server.entries (c.play_by_threads-ran.ensures.played went) (ends_of g c)

pub returns-clause-down : goal.returns-clause-down
returns-clause-down g c = λ went. c.run_laws.ensures.down c.args.client.settings c.args.server.settings c.args.script.now.lines c.play_by_threads-ran.result.client.entries c.play_by_threads-ran.result.server.entries (c.play_by_threads-ran.ensures.played went) (ends_of g c)

pub returns-clause-client_accuses_nobody : goal.returns-clause-client_accuses_nobody
returns-clause-client_accuses_nobody g c = λ went. c.run_laws.ensures.client_accuses_nobody c.args.client.settings c.args.server.settings c.args.script.now.lines c.play_by_threads-ran.result.client.entries c.play_by_threads-ran.result.server.entries (c.play_by_threads-ran.ensures.played went) (ends_of g c)

pub returns-clause-server_accuses_nobody : goal.returns-clause-server_accuses_nobody
returns-clause-server_accuses_nobody g c = λ went. c.run_laws.ensures.server_accuses_nobody c.args.client.settings c.args.server.settings c.args.script.now.lines c.play_by_threads-ran.result.client.entries c.play_by_threads-ran.result.server.entries (c.play_by_threads-ran.ensures.played went) (ends_of g c)

pub returns-clause-client_headline : goal.returns-clause-client_headline
returns-clause-client_headline g c = let ends = ends_of g c in c.a_session_has_the_headline.ensures _ _ (record { legal = ends.client_legal; fair = ends.client_fair })

pub returns-clause-server_headline : goal.returns-clause-server_headline
returns-clause-server_headline g c = let ends = ends_of g c in c.a_session_has_the_headline.ensures _ _ (record { legal = ends.server_legal; fair = ends.server_fair })
