use Rattle.std.proofs.Common.{◌≡◌, ◌≢◌, ◌<◌, ◌≤◌, ◌==◌, ◌||◌, ◌∙◌, ℕ, IfSome, ap, max, not, subst}
use Rattle.std.specs.Prelude.{is_some}
use Rattle.keepalive.specs.Times.{due_at}
use Rattle.keepalive.specs.declared.timer.Due.TheVariants as due
use Rattle.tape.specs.declared.answer.Answer.TheVariants as answer
use Rattle.session_model.specs.Answers.{Facts, facts, to_tick}
use Rattle.session_core.proofs.session.Session.next_due.Goals as goal

pub returns-clause-some : goal.returns-clause-some
unfolding facts
returns-clause-some g c = rw (← c.self.view_is) (c.next_due.ensures.some ∙ ap (λ (t : Facts). not ((t.live == 0) || is_some t.closed)) c.self.invariant.fits.facts_are)

pub returns-clause-none : goal.returns-clause-none
returns-clause-none g c =
    let settings = c.self.inside.settings in
    rw (← c.self.view_is) (λ is now. subst (λ (t : Facts). to_tick settings t now ≡ answer.Quiet) c.self.invariant.fits.facts_are (c.next_due.ensures.none is settings now))

pub returns-clause-before : goal.returns-clause-before
unfolding facts
returns-clause-before g c =
    let settings = c.self.inside.settings in
    rw (← c.self.view_is)
    (subst (λ (k : Facts). IfSome c.next_due.result (λ t. (now : ℕ) → max k.times.moment now < t → to_tick settings k now ≡ answer.Quiet)) c.self.invariant.fits.facts_are (c.next_due.ensures.before settings))

pub returns-clause-from : goal.returns-clause-from
unfolding facts
returns-clause-from g c =
    rw (← c.self.view_is)
    (subst (λ (k : Facts). IfSome c.next_due.result (λ t. (now : ℕ) → t ≤ now → due_at k.times now ≢ due.Nothing)) c.self.invariant.fits.facts_are c.next_due.ensures.from)
