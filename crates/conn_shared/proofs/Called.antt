-- What a call adds to the front of its caller.
use Rattle.std.proofs.lemmas.Bool.Decides.{nat_tests}
use Rattle.std.proofs.Common.{◌≡◌, ℕ, Bool, true, false, if◌then◌else◌, List, [], ◌∷◌, ◌++◌, Option, Some, None, refl, sym, ap, subst, ◌∙◌, arith, append_assoc}
use Rattle.std.specs.Prelude.{IfSome}
use Rattle.rs_wire.specs.declared.settings.Settings.{Settings}
use Rattle.tape.specs.Answers.{leaves}
use Rattle.tape.specs.Told.{entry_of}
use Rattle.tape.specs.declared.entry.Entry.{Entry}
use Rattle.tape.specs.declared.event.Event.{Event}
use Rattle.tape.specs.declared.event.Event.TheVariants as event
use Rattle.tape.specs.declared.answer.Answer.{Answer}
use Rattle.tape.specs.declared.answer.Answer.TheVariants as answer
use Rattle.session_core.specs.Seen.{Seen, entries_after}
use Rattle.conn_lock.specs.Callers.{once}
use Rattle.conn_lock.proofs.Totals.{calls_append}
use Rattle.conn_shared.specs.Members.{Follows, Gains, Knowledge}
use Rattle.conn_shared.specs.Calls.{IsCalled, IsStep}
use Rattle.conn_shared.specs.Lines.{who_of}

once_same : (n : ℕ) → once n n ≡ 1
once_same n = grind (arith, nat_tests)

-- an event adds entries of its number alone
pub gains_own : (past : List Entry) (n : ℕ) (e : Event) (a : Answer) → Gains n past (entries_after n e a past)
gains_own past n e a = one (leaves a)
  where
    one : (b : Bool) → Gains n past (if b then entry_of n e a ∷ past else past)
    one true = (entry_of n e a ∷ [], refl, (let o = once_same n in omega arith))
    one false = ([], refl, refl)

-- and so does an answer of a session, which adds nothing where there is none
pub gains_answered : (old new : Seen) (n : ℕ) (e : Event) (o : Option Answer) → IfSome o (λ a. new ≡ record old { entries = entries_after n e a old.entries; spare = new.spare }) → (o ≡ None → new ≡ old) → Gains n old.entries new.entries
gains_answered old new n e None some none = subst (λ (s : Seen). Gains n old.entries s.entries) (sym (none refl)) ([], refl, refl)
gains_answered old new n e (Some a) some none = subst (Gains n old.entries) (sym (ap (λ (s : Seen). s.entries) some)) (gains_own old.entries n e a)

-- and so does a tick that is noted if it is quiet, and adds nothing if it is not
pub gains_noted : (old new : Seen) (n now : ℕ) (noted : Bool) → (noted ≡ true → new ≡ record old { entries = entry_of n (event.Tick now) answer.Quiet ∷ old.entries; spare = new.spare }) → (noted ≡ false → new ≡ record old { spare = new.spare }) → Gains n old.entries new.entries
gains_noted old new n now true after same = subst (Gains n old.entries) (sym (ap (λ (s : Seen). s.entries) (after refl))) (gains_own old.entries n (event.Tick now) answer.Quiet)
gains_noted old new n now false after same = subst (Gains n old.entries) (sym (ap (λ (s : Seen). s.entries) (same refl))) ([], refl, refl)

pub follows_on : (names : List ℕ) (a b c : List Entry) → Follows names a b → Follows names b c → Follows names a c
follows_on names a b c p q = (
  q.0 ++ p.0,
  q.1 ∙ (ap (λ es. q.0 ++ es) p.1 ∙ sym (append_assoc q.0 p.0 a)),
  λ x named. let sum = calls_append who_of x q.0 p.0 in let none = p.2 x named in let nor = q.2 x named in omega arith,
)

-- a call that found nothing yet has only seen what others did
pub waited : (g : Settings) (me : Knowledge) (new : List Entry) (e : Event) (a : Answer) → a ≡ answer.NotYet → IsCalled g me e a new → Follows me.names me.front new
waited g me new e a is c = subst (Follows me.names me.front) (sym (c.step.after ∙ ap (λ b. entries_after me.number e b c.before) is)) c.follows

-- a call of a caller whose front went on by entries of others since
pub called_since : (g : Settings) (first me : Knowledge) (e : Event) (a : Answer) (new : List Entry) → me.names ≡ first.names → me.number ≡ first.number → Follows first.names first.front me.front → IsCalled g me e a new → IsCalled g first e a new
called_since g first me e a new names number f c = record {
  before = c.before;
  follows = follows_on first.names first.front me.front c.before f (subst (λ ns. Follows ns me.front c.before) names c.follows);
  step = subst (λ n. IsStep g n c.before e a new) number c.step;
}
