-- Kinds of events of a server's callers.
use Rattle.std.proofs.lemmas.Bool.Decides.{nat_tests}
use Rattle.std.proofs.Common.{◌≡◌, ◌<◌, ◌||◌, inr, ℕ, Bool, true, false, List, [], ◌∷◌, Option, refl, arith}
use Rattle.rs_wire.specs.declared.call.Call.{Call}
use Rattle.rs_wire.specs.declared.call.Call.TheVariants as call
use Rattle.tape.specs.declared.event.Event.{Event}
use Rattle.tape.specs.declared.event.Event.TheVariants as event
use Rattle.rs_frame.specs.declared.frame.Frame.{Frame}
use Rattle.link_model.specs.Carrying.{is_of}
use Rattle.link_laws.specs.Staying.{asks_close}
use Rattle.conn_lock.specs.Callers.{times}
use Rattle.workers.specs.Courses.{IsWorkersCall}
use Rattle.server.specs.Attending.{is_tick}
use Rattle.serve_model.specs.Order.{IsQuiet, is_cut_of, is_opening}
use Rattle.serve_laws.specs.Knowing.{IsEndingEvent, IsWorkersEvent}
use Rattle.serve_laws.specs.Links.{OpensBy}
use Rattle.serve_laws.specs.Tapes.{IsServersCall, IsServersEvent}

-- ---- calls of workers

pub workers_call : (lease : Option Call) (asked : Call) → IsWorkersCall asked → IsServersCall lease asked
workers_call lease call.Close works = tt
workers_call lease asked works = inr works

pub workers_event : (moments : Option (List ℕ)) (lease : Option Call) (e : Event) → IsWorkersEvent e → IsServersEvent moments lease e
workers_event moments lease (event.Asked asked) works = workers_call lease asked works
workers_event moments lease e works = absurd works

pub workers_quiet : (e : Event) → IsWorkersEvent e → IsQuiet e
workers_quiet (event.Asked asked) works = tt
workers_quiet e works = absurd works

no_close_call : (asked : Call) → IsWorkersCall asked → asks_close (event.Asked asked) ≡ false
no_close_call call.Close works = absurd works
no_close_call asked works = refl

pub workers_open : (e : Event) → IsWorkersEvent e → asks_close e ≡ false
workers_open (event.Asked asked) works = no_close_call asked works
workers_open e works = absurd works

pub workers_end : (e : Event) → IsWorkersEvent e → IsEndingEvent e
workers_end (event.Asked call.Close) works = tt
workers_end (event.Asked asked) works = works
workers_end e works = absurd works

workers_cut : (c : ℕ) (e : Event) → IsWorkersEvent e → (is_of c e || is_cut_of c e) ≡ false
workers_cut c (event.Asked asked) works = refl
workers_cut c e works = absurd works

pub workers_handle : (c : ℕ) (e : Event) → IsWorkersEvent e → (is_of c e || is_cut_of c e) ≡ true → ⊥
workers_handle c e works is = let none = workers_cut c e works in absurd (cc)

-- ---- what ends a slot

pub ending_event : (moments : Option (List ℕ)) (lease : Option Call) (e : Event) → IsEndingEvent e → IsServersEvent moments lease e
ending_event moments lease (event.Asked call.Close) ends = tt
ending_event moments lease (event.Asked asked) ends = workers_call lease asked ends
ending_event moments lease (event.Cut conn) ends = tt
ending_event moments lease e ends = absurd ends

pub ending_quiet : (e : Event) → IsEndingEvent e → IsQuiet e
ending_quiet (event.Asked asked) ends = tt
ending_quiet (event.Cut conn) ends = tt
ending_quiet e ends = absurd ends

-- ---- calls and cuts

pub quiet_moves : (c : ℕ) (e : Event) → IsQuiet e → is_of c e ≡ true → ⊥
quiet_moves c (event.Asked asked) quiet is = absurd (cc)
quiet_moves c (event.Cut conn) quiet is = absurd (cc)
quiet_moves c e quiet is = absurd quiet

pub quiet_opens : (e : Event) → IsQuiet e → is_opening e ≡ false
quiet_opens (event.Asked asked) quiet = refl
quiet_opens (event.Cut conn) quiet = refl
quiet_opens e quiet = absurd quiet

pub quiet_ticks : (e : Event) → IsQuiet e → is_tick e ≡ false
quiet_ticks (event.Asked asked) quiet = refl
quiet_ticks (event.Cut conn) quiet = refl
quiet_ticks e quiet = absurd quiet

pub quiet_opens_by : (P : Frame → Bool → Type 0) (e : Event) → IsQuiet e → OpensBy P e
quiet_opens_by P (event.Asked asked) quiet = tt
quiet_opens_by P (event.Cut conn) quiet = tt
quiet_opens_by P e quiet = absurd quiet

-- ---- one name

pub one_name : (n m : ℕ) → 0 < times m (n ∷ []) → m ≡ n
one_name n m some = grind (arith, nat_tests)

pub name_here : (n : ℕ) → 0 < times n (n ∷ [])
name_here n = grind (arith, nat_tests)
