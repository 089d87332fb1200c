-- Each answer has its meaning.
use Rattle.std.proofs.Common.{◌≡◌, ◌+◌, ◌&&◌, ◌||◌, ◌==◌, ℕ, Bool, true, false, not, cond, List, [], ◌∷◌, Option, Some, None, is_some, refl, subst, sym, arith}
use Rattle.std.specs.Prelude.{nat_lt}
use Rattle.std.proofs.lemmas.Grind.{common_steps}
use Rattle.rs_wire.specs.Settings.{out_limit_of}
use Rattle.rs_wire.specs.declared.settings.Settings.{Settings}
use Rattle.rs_wire.specs.declared.call.Call.{Call}
use Rattle.rs_wire.specs.declared.call.Call.TheVariants as call
use Rattle.rs_wire.specs.declared.delivery.Delivery.{Delivery}
use Rattle.rs_wire.specs.declared.delivery.Job.{Job}
use Rattle.rs_wire.specs.declared.fault.Cause.{Cause}
use Rattle.rs_wire.specs.declared.fault.Gone.{Gone}
use Rattle.rs_wire.specs.declared.fault.Refusal.{Refusal}
use Rattle.rs_wire.specs.declared.fault.Rule.{Rule}
use Rattle.rs_wire.specs.declared.fault.Rule.TheVariants as rule
use Rattle.rs_wire.specs.declared.fault.SetupFault.TheVariants as fault
use Rattle.rs_frame.specs.declared.frame.Frame.{Frame}
use Rattle.rs_frame.specs.declared.frame.Frame.TheVariants as frame
use Rattle.rs_frame.specs.declared.frame.Resume.{Resume}
use Rattle.rs_frame.specs.Spelling.{length_of}
use Rattle.setup_core.specs.Setup.{setup_fault}
use Rattle.tape.specs.declared.event.Event.{Event}
use Rattle.tape.specs.declared.event.Event.TheVariants as event
use Rattle.tape.specs.declared.answer.Answer.TheVariants as answer
use Rattle.tape.specs.declared.entry.Entry.{Entry}
use Rattle.stream_model.specs.Known.{front_of}
use Rattle.session_model.specs.declared.numbers.TheConstants.{ANSWER_ROOM}
use Rattle.session_model.specs.Life.{is_live}
use Rattle.session_model.specs.Answers.{Facts, facts, answer_by, asks_alive, due_now, find_full, refused_call, refused_or, accepted, got, got_job, to_due}
use Rattle.session_model.specs.Answers.{broken_rule, handled_unless, handled_unless_gone, ok_gone, opened_unless, opened_unless_gone, peer_error, resume_gone, to_first, to_known, unless_busy, unless_closed, unless_error, waiting_rule}
use Rattle.session_model.specs.Legal.{Legal}
use Rattle.session_model.specs.Means.{Handling, Lives, Means}
use Rattle.keepalive.specs.declared.timer.Due.{Due}
use Rattle.keepalive.specs.declared.timer.Due.TheVariants.{Dead, Send, Nothing}

-- what is taken waits first
taken : (g : Settings) (t : Facts) (s : ℕ) (first : Option Delivery) → front_of (t.streams.waits s) ≡ first → Means g t (event.Asked (call.Take s)) (got first)
taken g t s None is = is
taken g t s (Some delivery) is = is

job_taken : (g : Settings) (t : Facts) (first : Option Job) → front_of t.streams.jobs ≡ first → Means g t (event.Asked call.TakeJob) (got_job first)
job_taken g t None is = is
job_taken g t (Some job) is = is

called : (g : Settings) (t : Facts) (asked : Call) (why : Option Refusal) → refused_call g t asked ≡ why → Means g t (event.Asked asked) (refused_or why (accepted g t asked))
called g t asked (Some why) is = tt
called g t (call.Request kind initial message complete) None is = record { next = refl; accepted = is }
called g t (call.Next s message complete) None is = is
called g t (call.Done s) None is = is
called g t (call.Grant s n) None is = is
called g t (call.Cancel s) None is = is
called g t (call.Fail s code content) None is = is
called g t (call.Push metadata) None is = is
called g t (call.Lease ttl count metadata) None is = is
called g t (call.Take s) None is = taken g t s (front_of (t.streams.waits s)) refl
called g t call.TakeJob None is = job_taken g t (front_of t.streams.jobs) refl
called g t call.Close None is = is

-- ---- a first frame

client_first : (g : Settings) (t : Facts) (taken begun resumes : Bool) → t.begun ≡ begun → g.resume ≡ resumes → t.closed ≡ None
    → Means g t (event.Open None taken) (cond (begun && not resumes) (answer.Stale t.live) (answer.Opened (t.openings + 1)))
client_first g t taken true true b r free = record { next = refl; free = free; suits = λ is. r }
client_first g t taken true false b r free = tt
client_first g t taken false resumes b r free = record { next = refl; free = free; suits = λ is. absurd (cc) }

resumed : (g : Settings) (t : Facts) (r : Resume) (taken : Bool) (why : Option Gone) → resume_gone t r ≡ why → t.closed ≡ None
    → Means g t (event.Open (Some (frame.Resume r)) taken) (opened_unless_gone why (t.openings + 1))
resumed g t r taken None is free = record { next = refl; free = free; suits = is }
resumed g t r taken (Some why) is free = (free, is)

first_means : (g : Settings) (t : Facts) (first : Option Frame) (taken : Bool) → t.closed ≡ None → Means g t (event.Open first taken) (to_first g t first taken)
first_means g t None taken free = client_first g t taken t.begun g.resume refl refl free
first_means g t (Some (frame.Resume r)) taken free = resumed g t r taken (resume_gone t r) refl free
first_means g t (Some f) taken free =
    elim t.begun as (λ v. t.begun ≡ v → Means g t (event.Open (Some f) taken) (cond v (answer.SetupRefused fault.TokenTaken) (opened_unless (setup_fault f g taken) (t.openings + 1)))) [
      | true ↦ λ begun. free
      | false ↦ λ fresh. elim (setup_fault f g taken) as (λ o. setup_fault f g taken ≡ o → Means g t (event.Open (Some f) taken) (opened_unless o (t.openings + 1))) [
        | None ↦ λ suits. record { next = refl; free = free; suits = (fresh, suits) }
        | Some why ↦ λ is. free
      ] refl
    ] refl

opening_means : (g : Settings) (t : Facts) (first : Option Frame) (taken : Bool) (why : Option Cause) → t.closed ≡ why → Means g t (event.Open first taken) (unless_closed why (to_first g t first taken))
opening_means g t first taken (Some why) is = is
opening_means g t first taken None is = first_means g t first taken is

-- ---- a frame that comes

-- nothing may come where RESUME_OK is waited for
never_waited : (f : Frame) → waiting_rule f ≡ None → ⊥
never_waited f none = grind (arith, common_steps)

ok_means : (g : Settings) (t : Facts) (conn position : ℕ) (carrying : Bool) → t.carrying ≡ carrying → is_live t.live conn ≡ true → t.closed ≡ None
    → Means g t (event.Came conn (frame.ResumeOk position)) (cond carrying (answer.Violation rule.NotNow) (handled_unless_gone (ok_gone t position)))
ok_means g t conn position true on here free = (here, free)
ok_means g t conn position false off here free =
    elim (ok_gone t position) as (λ o. ok_gone t position ≡ o → Means g t (event.Came conn (frame.ResumeOk position)) (handled_unless_gone o)) [
      | None ↦ λ none. record { here = here; free = free; error = refl; may = (off, none) }
      | Some why ↦ λ is. (here, free, off, is)
    ] refl

-- a frame that breaks a rule, or may come
judged : (g : Settings) (t : Facts) (conn : ℕ) (f : Frame) (o : Option Rule) → is_live t.live conn ≡ true → t.closed ≡ None → (o ≡ None → Handling g t conn f) → Means g t (event.Came conn f) (handled_unless o)
judged g t conn f None here free may = may refl
judged g t conn f (Some r) here free may = (here, free)

known_means : (g : Settings) (t : Facts) (conn : ℕ) (f : Frame) → is_live t.live conn ≡ true → t.closed ≡ None → peer_error f ≡ None → Means g t (event.Came conn f) (to_known g t f)
known_means g t conn (frame.ResumeOk position) here free error = ok_means g t conn position t.carrying refl here free
known_means g t conn f here free error =
    elim t.carrying as (λ v. t.carrying ≡ v → Means g t (event.Came conn f) (handled_unless (cond v (broken_rule g t f) (waiting_rule f)))) [
      | true ↦ λ on. judged g t conn f (broken_rule g t f) here free (λ none. record { here = here; free = free; error = error; may = (on, none) })
      | false ↦ λ off. judged g t conn f (waiting_rule f) here free (λ none. absurd (never_waited f none))
    ] refl

error_means : (g : Settings) (t : Facts) (conn : ℕ) (f : Frame) (o : Option ℕ) → peer_error f ≡ o → is_live t.live conn ≡ true → t.closed ≡ None → Means g t (event.Came conn f) (unless_error o (to_known g t f))
error_means g t conn f None none here free = known_means g t conn f here free none
error_means g t conn f (Some code) is here free = record { here = here; free = free; error = is }

busy_means : (g : Settings) (t : Facts) (conn : ℕ) (f : Frame) (busy : Bool) → is_live t.live conn ≡ true → t.closed ≡ None → Means g t (event.Came conn f) (cond busy (answer.OutBusy t.queued) (unless_error (peer_error f) (to_known g t f)))
busy_means g t conn f true here free = (here, free)
busy_means g t conn f false here free = error_means g t conn f (peer_error f) refl here free

open_means : (g : Settings) (t : Facts) (conn : ℕ) (f : Frame) (why : Option Cause) → t.closed ≡ why → is_live t.live conn ≡ true
    → Means g t (event.Came conn f) (unless_closed why (unless_busy g t (length_of f) (unless_error (peer_error f) (to_known g t f))))
open_means g t conn f (Some why) is here = is
open_means g t conn f None is here = busy_means g t conn f (nat_lt (out_limit_of g) (t.queued + length_of f + ANSWER_ROOM)) here is

came_means : (g : Settings) (t : Facts) (conn : ℕ) (f : Frame) (live : Bool) → is_live t.live conn ≡ live
    → Means g t (event.Came conn f) (cond live (unless_closed t.closed (unless_busy g t (length_of f) (unless_error (peer_error f) (to_known g t f)))) (answer.Stale t.live))
came_means g t conn f true here = open_means g t conn f t.closed refl here
came_means g t conn f false stray = stray

-- ---- a tick

sent_means : (g : Settings) (t : Facts) (now : ℕ) (carries full : Bool) → t.carrying ≡ carries → find_full g t (asks_alive g t ∷ []) ≡ full → Lives t → due_now t (event.Tick now) ≡ Send
    → Means g t (event.Tick now) (cond (carries && not full) answer.Sent answer.Quiet)
sent_means g t now true false on place lives due = record { lives = lives; carries = on; place = place; due = due }
sent_means g t now true true on place lives due = tt
sent_means g t now false full on place lives due = tt

due_means : (g : Settings) (t : Facts) (now : ℕ) (due : Due) → due_now t (event.Tick now) ≡ due → Lives t → Means g t (event.Tick now) (to_due g t due)
due_means g t now (Dead last) is lives = record { lives = lives; due = is }
due_means g t now Send is lives = sent_means g t now t.carrying (find_full g t (asks_alive g t ∷ [])) refl refl lives is
due_means g t now Nothing is lives = tt

tick_means : (g : Settings) (t : Facts) (now : ℕ) (none : Bool) (why : Option Cause) → (t.live == 0) ≡ none → t.closed ≡ why
    → Means g t (event.Tick now) (cond (none || is_some why) answer.Quiet (to_due g t (due_now t (event.Tick now))))
tick_means g t now true why none is = tt
tick_means g t now false (Some cause) none is = tt
tick_means g t now false None none is = due_means g t now (due_now t (event.Tick now)) refl (record { here = none; free = is })

pub meaning : (g : Settings) (t : Facts) (e : Event) → Means g t e (answer_by g t e)
meaning g t (event.Asked asked) = called g t asked (refused_call g t asked) refl
meaning g t (event.Open first taken) = opening_means g t first taken t.closed refl
meaning g t (event.Cut conn) = grind (arith, common_steps)
meaning g t (event.Draw conn room) = grind (arith, common_steps)
meaning g t (event.Came conn f) = came_means g t conn f (is_live t.live conn) refl
meaning g t (event.Bad conn number) = grind (arith, common_steps)
meaning g t (event.Tick now) = tick_means g t now (t.live == 0) t.closed refl refl

-- the newest answer has its meaning
pub last_means : (g : Settings) (x : Entry) (past : List Entry) → Legal g (x ∷ past) → Means g (facts g past) x.event x.answer
unfolding Legal
last_means g x past h = subst (Means g (facts g past) x.event) (sym h.1.answered) (meaning g (facts g past) x.event)
