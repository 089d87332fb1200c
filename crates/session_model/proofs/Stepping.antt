-- What is known of moments and leases goes on from entry to entry.
use Rattle.std.proofs.Common.{◌≡◌, ◌+◌, ◌&&◌, ℕ, Bool, true, false, cond, List, ◌∷◌, Option, Some, None, is_some, refl, arith}
use Rattle.std.specs.Prelude.{nat_lt}
use Rattle.std.specs.Option.{option_map, option_or}
use Rattle.rs_wire.specs.Settings.{is_client}
use Rattle.rs_wire.specs.declared.settings.Settings.{Settings}
use Rattle.rs_frame.specs.declared.frame.Frame.TheVariants as frame
use Rattle.rs_frame.specs.declared.frame.Setup.{Setup}
use Rattle.lease.specs.declared.requester.Terms.{Terms}
use Rattle.tape.specs.declared.event.Event.{Event}
use Rattle.tape.specs.declared.event.Event.TheVariants as event
use Rattle.tape.specs.declared.answer.Answer.{Answer}
use Rattle.tape.specs.declared.answer.Answer.TheVariants as answer
use Rattle.tape.specs.declared.entry.Entry.{Entry}
use Rattle.session_model.specs.Lists.{first_of}
use Rattle.session_model.specs.Life.{agrees_leases, leases_agreed, live, setup, setup_in}
use Rattle.session_model.specs.Moments.{arrival_after, interval_by, last_arrival, last_sending, lifetime_by, moment, moment_with, sending_after, times}
use Rattle.session_model.specs.Leases.{Leased, changes_connection, covered, covered_in, last_lease, lease, leases_in, let_in_sum, lets_in, made_since_lease, starts_in, sum, terms_of}

-- ---- the lease

-- the lease after an event so answered, where it was that before
abbrev pub lease_after : Bool → ℕ → Answer → Event → Option Terms → Option Terms
lease_after agreed now (answer.Opened n) e before = None
lease_after agreed now answer.Parted e before = None
lease_after agreed now (answer.Dead last) e before = None
lease_after agreed now answer.Handled (event.Came conn (frame.Lease ttl count metadata)) before = cond agreed (Some (record { count = count; expires = now + ttl; used = 0 })) before
lease_after agreed now (answer.Started id) e before = option_map (λ (l : Terms). record { count = l.count; expires = l.expires; used = l.used + 1 }) before
lease_after agreed now a e before = before

none_either : (b : Bool) → cond {A = Option Terms} b None None ≡ None
none_either true = refl
none_either false = refl

same_agreed : (g : Settings) (o : Option Setup) → agrees_leases g (first_of o None) ≡ agrees_leases g o
same_agreed g None = refl
same_agreed g (Some s) = refl

handled_lease : (agreed : Bool) (new : Terms) (old : Option Terms) → cond agreed (Some new) None ≡ cond agreed (Some new) (cond agreed old None)
handled_lease true new old = refl
handled_lease false new old = refl

one_more_made : (agreed : Bool) (made : ℕ) (last : Option Leased) → cond agreed (option_map (terms_of (made + 1)) last) None
    ≡ option_map (λ (l : Terms). record { count = l.count; expires = l.expires; used = l.used + 1 }) (cond agreed (option_map (terms_of made) last) None)
one_more_made true made None = refl
one_more_made true made (Some l) = refl
one_more_made false made last = refl

-- the lease as the definitions have it after an event so answered
abbrev LeaseAfter : Settings → List Entry → Answer → Event → Option Terms
LeaseAfter g past a e =
    cond (agrees_leases g (first_of (setup past) (setup_in a e)))
    (option_map (terms_of (cond (is_some (leases_in (moment past) a e)) 0 (made_since_lease past + starts_in a)))
    (cond {A = Option Leased} (changes_connection a) None (option_or (leases_in (moment past) a e) (last_lease past)))) None

lease_by : (g : Settings) (past : List Entry) (a : Answer) (e : Event) → LeaseAfter g past a e ≡ lease_after (leases_agreed g past) (moment past) a e (lease g past)
lease_by g past (answer.Opened n) e = none_either (agrees_leases g (first_of (setup past) (setup_in (answer.Opened n) e)))
lease_by g past answer.Parted e = none_either (agrees_leases g (first_of (setup past) None))
lease_by g past (answer.Dead last) e = none_either (agrees_leases g (first_of (setup past) None))
lease_by g past answer.Handled (event.Came conn (frame.Lease ttl count metadata)) =
    rw (same_agreed g (setup past)) (handled_lease (leases_agreed g past) (record { count = count; expires = moment past + ttl; used = 0 }) (option_map (terms_of (made_since_lease past)) (last_lease past)))
lease_by g past (answer.Started id) e = rw (same_agreed g (setup past)) (one_more_made (leases_agreed g past) (made_since_lease past) (last_lease past))
lease_by g past a e =
    let same : made_since_lease past + 0 ≡ made_since_lease past = omega arith in
    rw (same_agreed g (setup past), same) refl

pub lease_step : (g : Settings) (x : Entry) (past : List Entry) → lease g (x ∷ past) ≡ lease_after (leases_agreed g past) (moment past) x.answer x.event (lease g past)
unfolding setup last_lease made_since_lease
lease_step g x past = lease_by g past x.answer x.event

-- ---- the sum, and the times

pub sum_step : (g : Settings) (x : Entry) (past : List Entry) → sum g (x ∷ past)
    ≡ record { granted = (sum g past).granted + lets_in x.answer x.event; admitted = (sum g past).admitted + covered_in (leases_agreed g past && nat_lt (sum g past).admitted (sum g past).granted) x.answer x.event }
unfolding covered let_in_sum
sum_step g x past = refl

pub times_step : (g : Settings) (x : Entry) (past : List Entry) → times g (x ∷ past) ≡ record {
  interval = interval_by g (first_of (setup past) (setup_in x.answer x.event));
  lifetime = lifetime_by g (first_of (setup past) (setup_in x.answer x.event));
  sends = is_client g.side;
  arrival = arrival_after (times g past).moment (live past) x.answer x.event (times g past).arrival;
  sending = sending_after (moment_with (times g past).moment x.event) x.answer (times g past).sending;
  moment = moment_with (times g past).moment x.event;
}
unfolding setup moment last_arrival last_sending
times_step g x past = refl
