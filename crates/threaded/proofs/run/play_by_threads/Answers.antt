use Rattle.std.proofs.Common.{inl, subst}
use Rattle.rs_wire.specs.declared.settings.Settings.{Settings}
use Rattle.threaded.specs.Ran.{IsPlayed}
use Rattle.threaded.proofs.run.play_by_threads.Goals as goal

pub returns-then-is_empty-clause-played : goal.returns-then-is_empty-clause-played
returns-then-is_empty-clause-played g c = λ went. inl (c.scheduled.ensures.played went)

pub returns-in-Ok-clause-played : goal.returns-in-Ok-clause-played
returns-in-Ok-clause-played g c =
    let ran = c.share_and_play.result in
    λ went. subst (λ (h : Settings). IsPlayed h c.args.server.settings c.args.script.now.lines ran.client.entries ran.server.entries) c.in-Ok.ensures.settings (c.share_and_play.ensures.played went)
