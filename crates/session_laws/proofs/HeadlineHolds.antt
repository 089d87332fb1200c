-- The headline of one end, from its laws.
use Rattle.std.proofs.Common.{◌≡◌, ◌+◌, ◌++◌, ◌↔◌, ◌∙◌, ℕ, Bool, true, false, cond, List, ◌∷◌, Some, sym, ap, subst}
use Rattle.rs_wire.specs.declared.settings.Settings.{Settings}
use Rattle.rs_frame.specs.declared.frame.Frame.TheVariants as frame
use Rattle.rs_frame.specs.declared.frame.Resume.{Resume}
use Rattle.tape.specs.declared.answer.Answer.{Answer}
use Rattle.tape.specs.declared.answer.Answer.TheVariants as answer
use Rattle.tape.specs.declared.event.Event.{Event}
use Rattle.tape.specs.declared.event.Event.TheVariants as event
use Rattle.tape.specs.declared.entry.Entry.{Entry}
use Rattle.stream_model.specs.Laws.{Laws}
use Rattle.stream_model.specs.Turns.{Turn, taken}
use Rattle.session_model.specs.Answers.{answer_to}
use Rattle.session_model.specs.Frames.{queued}
use Rattle.session_model.specs.Legal.{Fair, IsFair, IsLegal, Legal, LeavesEntry}
use Rattle.session_model.specs.Life.{openings}
use Rattle.session_laws.specs.Headline.{HasHeadline, IsEarlier}
use Rattle.session_laws.specs.Resumption.{CanGoOn, CanResume}
use Rattle.session_laws.specs.Streams.{EndsReceiving, IsLawful, stream}
use Rattle.session_laws.proofs.Lawful.{before_lawful, laws_of, taken_prefix}
use Rattle.session_laws.proofs.OwnEnds.{takes_no_more}
use Rattle.session_laws.proofs.Verdict.{is_busy, ok_only, ok_unless_busy, resume_accepted}
use Rattle.session_laws.proofs.WithinLeases.{covered_within, within_count}

earlier_lawful : (g : Settings) (before past : List Entry) → IsLawful g past → IsEarlier before past → IsLawful g before
earlier_lawful g before past h is = before_lawful g is.0 before (subst (IsLawful g) is.1 h)

laws_then : (g : Settings) (before past : List Entry) (s : ℕ) (t : Turn) → IsLawful g past → IsEarlier before past → stream g before s ≡ Some t → Laws t
laws_then g before past s t h is there = laws_of g before s t (record { lawful = earlier_lawful g before past h is; there = there })

takes_none : (g : Settings) (past before later : List Entry) (x : Entry) (s : ℕ) (t u : Turn) → IsLawful g past → IsEarlier (x ∷ before) later → IsEarlier later past → EndsReceiving g before x s t → stream g later s ≡ Some u
    → taken u.words ≡ taken t.words
takes_none g past before later x s t u h since until ends there =
    let lawful : IsLawful g (since.0 ++ x ∷ before) = subst (IsLawful g) since.1 (earlier_lawful g later past h until) in
    takes_no_more g since.0 before x s t u lawful ends (subst (λ es. stream g es s ≡ Some u) since.1 there)

-- ---- the entry of an opening, and of a frame that came

entry_legal : (g : Settings) (x : Entry) (before : List Entry) → IsLawful g (x ∷ before) → IsLegal g before x
unfolding Legal
entry_legal g x before h = h.legal.1

entry_fair : (g : Settings) (x : Entry) (before : List Entry) → IsLawful g (x ∷ before) → IsFair g x.event
unfolding Fair
entry_fair g x before h = h.fair.1

legal_before : (g : Settings) (x : Entry) (before : List Entry) → IsLawful g (x ∷ before) → Legal g before
unfolding Legal
legal_before g x before h = h.legal.0

resumes_so : (g : Settings) (before : List Entry) (x : Entry) (r : Resume) (in_use : Bool) → IsLawful g (x ∷ before) → x.event ≡ event.Open (Some (frame.Resume r)) in_use
    → (x.answer ≡ answer.Opened (openings before + 1)) ↔ CanResume g before r
resumes_so g before x r in_use h is =
    let e : Event = event.Open (Some (frame.Resume r)) in_use in
    let fair : IsFair g e = subst (IsFair g) is (entry_fair g x before h) in
    let legal = entry_legal g x before h in
    let right : x.answer ≡ answer_to g before e = legal.answered ∙ ap (answer_to g before) is in
    let exact = resume_accepted g before r in_use fair.0 in
    (λ opened. exact.0 (sym right ∙ opened), λ can. right ∙ exact.1 can)

handled_or_busy : (a : Answer) (busy : Bool) (n : ℕ) → a ≡ cond busy (answer.OutBusy n) answer.Handled → LeavesEntry a → a ≡ answer.Handled
handled_or_busy a true n is leaves = let none : LeavesEntry (answer.OutBusy n) = subst LeavesEntry is leaves in absurd (cc)
handled_or_busy a false n is leaves = is

goes_on_so : (g : Settings) (before : List Entry) (x : Entry) (conn position : ℕ) → IsLawful g (x ∷ before) → x.event ≡ event.Came conn (frame.ResumeOk position)
    → (x.answer ≡ answer.Handled) ↔ CanGoOn g before conn position
goes_on_so g before x conn position h is =
    let e : Event = event.Came conn (frame.ResumeOk position) in
    let legal = entry_legal g x before h in
    let right : x.answer ≡ answer_to g before e = legal.answered ∙ ap (answer_to g before) is in (
      λ handled. ok_only g before conn position (legal_before g x before h) (sym right ∙ handled),
      λ can. handled_or_busy x.answer (is_busy g before position) (queued g before) (right ∙ ok_unless_busy g before conn position (legal_before g x before h) can) legal.leaves,
    )

pub headline : (g : Settings) (past : List Entry) → IsLawful g past → HasHeadline g past
headline g past h = record {
  within_granted = λ before s t is there. (laws_then g before past s t h is there).credit;
  one_response = λ before s t is there. (laws_then g before past s t h is there).response;
  taken_first = λ before s t is there. taken_prefix g before s t (record { lawful = earlier_lawful g before past h is; there = there });
  one_end = λ before s t is there. (laws_then g before past s t h is there).one_end;
  no_more_taken = λ before later x s t u since until ends there. takes_none g past before later x s t u h since until ends there;
  within_lease = λ before l is there. within_count g before l (earlier_lawful g before past h is).legal there;
  within_sum = λ before is. covered_within g before;
  resumes = λ before x r in_use is there. resumes_so g before x r in_use (earlier_lawful g (x ∷ before) past h is) there;
  goes_on = λ before x conn position is there. goes_on_so g before x conn position (earlier_lawful g (x ∷ before) past h is) there;
}
