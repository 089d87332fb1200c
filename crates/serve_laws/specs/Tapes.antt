-- What a server leaves on each of its tapes. Entries stand newest first.
use Rattle.std.specs.Prelude.{◌≡◌, ◌≤◌, ◌^◌, ◌⊎◌, ℕ, true, List, [], ◌∷◌, length, slice_get, Option, Some, None}
use Rattle.std.specs.List.{AllByRecursion}
use Rattle.rs_wire.specs.declared.call.Call.{Call}
use Rattle.rs_wire.specs.declared.call.Call.TheVariants as call
use Rattle.rs_wire.specs.declared.settings.Settings.{Settings}
use Rattle.outside.specs.Causes.{IsMoment}
use Rattle.tape.specs.declared.event.Event.{Event}
use Rattle.tape.specs.declared.event.Event.TheVariants as event
use Rattle.tape.specs.declared.entry.Entry.{Entry}
use Rattle.stream_model.specs.Streams.{jobs}
use Rattle.session_model.specs.Legal.{Fair, Legal}
use Rattle.session_model.specs.Streams.{words}
use Rattle.session_laws.specs.Jobs.{jobs_got}
use Rattle.handlers.specs.Listed.{Listed}
use Rattle.workers.specs.Courses.{IsWorkersCall, course}
use Rattle.workers.specs.Serving.{IsGone}
use Rattle.serve_model.specs.Order.{IsOwn, OpensFirst, is_opening}

-- ---- the callers of the links

abbrev pub number_in : Option (List ℕ) → ℕ → Option ℕ
number_in None i = None
number_in (Some row) i = slice_get row i

-- the number of link k's caller at slot i, where there is one: a row for each link, in the order of acceptance
abbrev pub number_at : List (List ℕ) → ℕ → ℕ → Option ℕ
number_at rows k i = number_in (slice_get rows k) i

-- some link's caller has this number at slot i
abbrev pub IsOfLink : List (List ℕ) → ℕ → ℕ → Type 0
IsOfLink rows i n = (k : ℕ) × (number_at rows k i ≡ Some n)

-- ---- what is asked

-- a server asks for the end, for the lease that is granted, and for what a worker asks
abbrev pub IsServersCall : Option Call → Call → Type 0
IsServersCall lease call.Close = Unit {0}
IsServersCall lease asked = (lease ≡ Some asked) ⊎ IsWorkersCall asked

abbrev pub IsServersEvent : Option (List ℕ) → Option Call → Event → Type 0
IsServersEvent moments lease (event.Asked asked) = IsServersCall lease asked
IsServersEvent moments lease (event.Tick now) = IsMoment moments now
IsServersEvent moments lease _ = Unit {0}

-- ---- one tape

-- The tape of slot i.
pub record IsServersTape (g : Settings) (moments : Option (List ℕ)) (lease : Option Call) (rows : List (List ℕ)) (i : ℕ) (past : List Entry) : Type 0 where
  pub legal : Legal g past
  pub fair : Fair g past
  -- ticks have moments of the clock, and nothing else is asked
  pub kinds : AllByRecursion (λ (x : Entry). IsServersEvent moments lease x.event) past
  -- bytes of a connection are moved under the number that opened it
  pub own : AllByRecursion (IsOwn past) past
  -- nothing is opened once a Close was asked
  pub order : OpensFirst past
  -- each opening carries the number of a link, and no two links have one number
  pub opened : AllByRecursion (λ (x : Entry). is_opening x.event ≡ true → IsOfLink rows i x.who) past
  pub apart : (k l n : ℕ) → number_at rows k i ≡ Some n → number_at rows l i ≡ Some n → k ≡ l

-- All jobs were got, and under each number those that were got under it are answered as far as they can be. Where none was got of a stream, nothing was
-- replied on it.
pub record AreServed (g : Settings) (routes : List Listed) (past : List Entry) : Type 0 where
  pub got : (2 ^ 63 ≤ length past) ⊎ (jobs_got past ≡ jobs g.max_streams (words g past))
  pub answered : (n s : ℕ) → IsGone routes (length past) s (course (n ∷ []) s past) (course (n ∷ []) s past).job

-- ---- all tapes

abbrev pub AreServersTapes : Settings → Option (List ℕ) → Option Call → List Listed → List (List ℕ) → List (List Entry) → Type 0
AreServersTapes g moments lease routes rows tapes =
    (i : ℕ) (past : List Entry) → slice_get tapes i ≡ Some past → IsServersTape g moments lease rows i past × AreServed g routes past
