use Rattle.std.proofs.Common.{rules, ◌≡◌, ap, refl, sym}
use Rattle.keepalive.specs.Times.{Times}
use Rattle.tape.specs.declared.event.Event.TheVariants as event
use Rattle.tape.specs.declared.answer.Answer.TheVariants as answer
use Rattle.session_model.specs.Answers.{to_tick}
use Rattle.session_core.specs.declared.state.State.{State}
use Rattle.session_core.specs.Fits.{facts_of}
use Rattle.session_core.proofs.AfterTick.{after_quiet}
use Rattle.session_core.proofs.Soundness.{answer_of, sound_more}
use Rattle.session_core.proofs.session.Session.take_moment.Goals as goal

pub invariant_of-self-2 : goal.invariant_of-self-2
invariant_of-self-2 g c =
    let settings = c.self.inside.settings in
    let s = c.self.inside.state in
    let past = c.self.inside.history in
    let e = event.Tick c.args.now in
    let new : State = record s { timer = c.tick.new.timer } in
    let quiet : answer.Quiet ≡ to_tick settings (facts_of s) c.args.now = sym (c.if-not-is_quiet.ensures refl settings) in
    let is = answer_of settings s past e answer.Quiet c.self.invariant.fits quiet in
    let after = after_quiet settings s new c.args.now c.self.invariant.fits.heard (ap (λ (t : Times). record s { timer = t }) c.tick.ensures) in
    rw (c.note-2.ensures, c.in_default.ensures.told, c.in_default.ensures.count, c.requires.tick)
    (sound_more settings s new past (record { who = c.args.who; event = e; answer = answer.Quiet }) _ _ c.self.invariant after is (search rules) tt)
