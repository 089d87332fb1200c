-- Where a call stands between two of its entries. Entries stand newest first.
use Rattle.std.specs.Prelude.{◌≡◌, ◌%◌, ℕ, true, false, List, Option, None, IfSome}
use Rattle.rs_wire.specs.Calls.{is_streamed}
use Rattle.tape.specs.declared.entry.Entry.{Entry}
use Rattle.session_model.specs.Life.{begun}
use Rattle.call_model.specs.Saying.{got_on, has_end, started}
use Rattle.call_model.specs.Order.{Asking, InOrder, items_in, next_call, owes_request}
use Rattle.call_model.specs.Timing.{AreMoments}
use Rattle.call_model.specs.Ran.{HasPlace}

-- The order of the call was kept, and nothing has to be asked now. It knows its stream, once that is started, and how many items were taken
-- of it since the last grant.
pub record Stands (w : Asking) (moments : Option (List ℕ)) (past : List Entry) (stream : Option ℕ) (fresh : ℕ) : Type 0 where
  pub order : InOrder w past
  pub timed : AreMoments moments past
  pub begins : begun past ≡ true
  pub free : HasPlace past → next_call w past ≡ None
  pub knows : stream ≡ started past
  pub unused : started past ≡ None → fresh ≡ 0
  pub counts : is_streamed w.kind ≡ true → IfSome (started past) (λ s. fresh ≡ items_in (got_on past s) % w.count)

-- a request that a lease let through was asked again
abbrev pub IsPaid : List Entry → Option ℕ → Type 0
IsPaid past stream = HasPlace past → stream ≡ None → owes_request past ≡ false

-- no end was taken of the stream
abbrev pub IsUnended : List Entry → Type 0
IsUnended past = IfSome (started past) (λ s. has_end (got_on past s) ≡ false)
