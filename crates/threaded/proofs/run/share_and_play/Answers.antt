use Rattle.std.proofs.Common.{subst}
use Rattle.rs_wire.specs.declared.settings.Settings.{Settings}
use Rattle.threaded.specs.Ran.{IsPlayed}
use Rattle.threaded.proofs.run.share_and_play.Goals as goal

pub returns-in-Ok-clause-played : goal.returns-in-Ok-clause-played
returns-in-Ok-clause-played g c =
    let ran = c.play.result in
    λ went. subst (λ (h : Settings). IsPlayed c.args.client.connection.settings h c.args.script.now.lines ran.client.entries ran.server.entries) c.in-Ok.ensures.settings (c.play.ensures.played went)
