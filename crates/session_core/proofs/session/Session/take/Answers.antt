use Rattle.std.proofs.Common.{rules, ◌≡◌, ◌∙◌, Some, subst, sym}
use Rattle.tape.specs.declared.event.Event.TheVariants as event
use Rattle.tape.specs.declared.answer.Answer.TheVariants as answer
use Rattle.rs_wire.specs.declared.call.Call.TheVariants as call
use Rattle.session_model.specs.Answers.{answer_to}
use Rattle.session_core.specs.Fits.{facts_of}
use Rattle.session_core.specs.Seen.{Seen}
use Rattle.session_core.proofs.AfterTake.{got_first}
use Rattle.session_core.proofs.Soundness.{answer_of, sound_more}
use Rattle.session_core.proofs.session.Session.take.Goals as goal

pub invariant_of-self-2 : goal.invariant_of-self-2
invariant_of-self-2 g c =
    let settings = c.self.inside.settings in
    let s = c.self.inside.state in
    let past = c.self.inside.history in
    let d = c.in-Some.delivery in
    let e = event.Asked (call.Take c.args.stream) in
    let a = answer.Got d in
    let is = answer_of settings s past e a c.self.invariant.fits (got_first settings (facts_of s) c.args.stream d c.in-Some.ensures.first) in
    -- the delivery that is noted is the one that is taken
    let both : Some c.in_ok-delivery.delivery.now ≡ Some d = c.in_ok-delivery.ensures ∙ sym c.in-Some.ensures.first in
    let same : c.in_ok-delivery.delivery.now ≡ d = cc in
    rw (c.note_taken-2.ensures, c.in_default.ensures.told, c.in_default.ensures.count, same)
    (sound_more settings s c.take.new.self past (record { who = c.args.who; event = e; answer = a }) _ _ c.self.invariant (c.in-Some.ensures.after settings) is (search rules) (tt, tt))

pub returns-clause-answer : goal.returns-clause-answer
returns-clause-answer g c =
    let settings = c.self.inside.settings in
    let s = c.self.inside.state in
    let past = c.self.inside.history in
    let d = c.in-Some.delivery in
    let e = event.Asked (call.Take c.args.stream) in
    let a = answer.Got d in
    let is = answer_of settings s past e a c.self.invariant.fits (got_first settings (facts_of s) c.args.stream d c.in-Some.ensures.first) in
    subst (λ (v : Seen). a ≡ answer_to v.settings v.entries e) c.self.view_is is
