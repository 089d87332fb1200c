-- The timer that a session keeps goes on to fit its entries.
use Rattle.std.proofs.Common.{◌≡◌, ℕ, Bool, true, false, cond, max, List, ◌∷◌, Option, None, refl, ap, sym, ◌∙◌, arith}
use Rattle.rs_wire.specs.Settings.{is_client}
use Rattle.rs_wire.specs.declared.settings.Settings.{Settings}
use Rattle.rs_frame.specs.declared.frame.Setup.{Setup}
use Rattle.keepalive.specs.Times.{Times}
use Rattle.tape.specs.declared.event.Event.{Event}
use Rattle.tape.specs.declared.event.Event.TheVariants as event
use Rattle.tape.specs.declared.answer.Answer.{Answer}
use Rattle.tape.specs.declared.answer.Answer.TheVariants as answer
use Rattle.tape.specs.declared.entry.Entry.{Entry}
use Rattle.session_model.specs.Lists.{first_of}
use Rattle.session_model.specs.Life.{is_live, live, setup, setup_in}
use Rattle.session_model.specs.Moments.{arrival_after, interval_by, last_arrival, last_sending, lifetime_by, moment, moment_with, sending_after, times}
use Rattle.session_model.specs.Answers.{Facts, facts}
use Rattle.session_model.specs.Means.{Means}
use Rattle.session_model.proofs.Stepping.{times_step}
use Rattle.session_core.specs.declared.state.State.{State}
use Rattle.session_core.specs.Fits.{facts_of}
use Rattle.session_core.specs.Timing.{times_after}
use Rattle.session_core.proofs.Agreeing.{or_nothing}

-- the times by the SETUP that was accepted
abbrev times_by : Settings → Option Setup → ℕ → ℕ → ℕ → Times
times_by g accepted arrival sending moment = record {
  interval = interval_by g accepted;
  lifetime = lifetime_by g accepted;
  sends = is_client g.side;
  arrival = arrival;
  sending = sending;
  moment = moment;
}

-- the times as the definitions have them after an event so answered
abbrev TimesAfter : Settings → List Entry → Answer → Event → Times
TimesAfter g past a e =
    times_by g (first_of (setup past) (setup_in a e))
    (arrival_after (moment past) (live past) a e (last_arrival past))
    (sending_after (moment_with (moment past) e) a (last_sending past))
    (moment_with (moment past) e)

-- the same SETUP stands
same_setup : (g : Settings) (past : List Entry) (arrival sending moment : ℕ) → times_by g (setup past) arrival sending moment ≡ times_by g (first_of (setup past) None) arrival sending moment
same_setup g past arrival sending moment = ap (λ (o : Option Setup). times_by g o arrival sending moment) (sym (or_nothing (setup past)))

-- an event that tells no moment leaves it
no_later : (n : ℕ) → n ≡ max n 0
no_later n = omega arith

came_by : (g : Settings) (past : List Entry) (here : Bool)
    → cond here (record (times g past) { arrival = moment past }) (times g past) ≡ times_by g (setup past) (cond here (moment past) (last_arrival past)) (last_sending past) (moment past)
came_by g past true = refl
came_by g past false = refl

times_stand : (g : Settings) (past : List Entry) (a : Answer) (e : Event) → Means g (facts g past) e a → times_after g (first_of (setup past) (setup_in a e)) (live past) a e (times g past) ≡ TimesAfter g past a e
times_stand g past (answer.Opened n) (event.Open first taken) m =
    ap (λ k. times_by g (first_of (setup past) (setup_in (answer.Opened n) (event.Open first taken))) (moment past) k k) (no_later (moment past))
times_stand g past (answer.Opened n) e m = absurd m
times_stand g past answer.Sent (event.Tick now) m = same_setup g past (last_arrival past) (moment_with (moment past) (event.Tick now)) (moment_with (moment past) (event.Tick now))
times_stand g past answer.Sent e m = absurd m
times_stand g past a (event.Tick now) m = same_setup g past (last_arrival past) (last_sending past) (moment_with (moment past) (event.Tick now))
times_stand g past a (event.Came conn f) m =
    let arrival = cond (is_live (live past) conn) (moment past) (last_arrival past) in
    came_by g past (is_live (live past) conn)
    ∙ (same_setup g past arrival (last_sending past) (moment past)
    ∙ ap (times_by g (first_of (setup past) None) arrival (last_sending past)) (no_later (moment past)))
times_stand g past a e m =
    same_setup g past (last_arrival past) (last_sending past) (moment past)
    ∙ ap (times_by g (first_of (setup past) None) (last_arrival past) (last_sending past)) (no_later (moment past))

pub times_more : (g : Settings) (old new : State) (past : List Entry) (x : Entry) → facts_of old ≡ facts g past → Means g (facts g past) x.event x.answer → new.setup ≡ setup (x ∷ past)
    → new.timer ≡ times_after g new.setup old.live x.answer x.event old.timer → new.timer ≡ times g (x ∷ past)
unfolding facts setup
times_more g old new past x h m s t =
    let l : old.live ≡ live past = ap (λ (k : Facts). k.live) h in
    let before : old.timer ≡ times g past = ap (λ (k : Facts). k.times) h in
    t
    ∙ (ap (λ (o : Option Setup). times_after g o old.live x.answer x.event old.timer) s
    ∙ (ap (λ n. times_after g (setup (x ∷ past)) n x.answer x.event old.timer) l
    ∙ (ap (λ (k : Times). times_after g (setup (x ∷ past)) (live past) x.answer x.event k) before
    ∙ (times_stand g past x.answer x.event m ∙ sym (times_step g x past)))))
