use Rattle.std.proofs.Common.{inl, subst}
use Rattle.rs_wire.specs.declared.settings.Settings.{Settings}
use Rattle.cable.specs.Played.{Played}
use Rattle.threaded.proofs.run.play_alone.Goals as goal

pub returns-clause-played : goal.returns-clause-played
returns-clause-played g c =
    let client = c.args.client.settings in
    let lines = c.args.script.now.lines in
    let ran = c.scheduled.result in
    let far = c.unshare-server.result.settings in
    λ went. inl (subst (λ (h : Settings). Played (record { client = client; server = h }) lines ran.client.entries ran.server.entries) c.unshare-server.ensures.settings
    (subst (λ (k : Settings). Played (record { client = k; server = far }) lines ran.client.entries ran.server.entries) c.unshare-client.ensures.settings (c.scheduled.ensures.played went)))
