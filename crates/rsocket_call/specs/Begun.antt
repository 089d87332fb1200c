-- How a call begins: a tick, and the first opening. Entries stand newest first.
use Rattle.std.specs.Prelude.{◌≡◌, ◌≢◌, ℕ, List, Option, Some}
use Rattle.outside.specs.Causes.{IsMoment, Rose}
use Rattle.client.specs.declared.called.Called.{Called}
use Rattle.client.specs.declared.called.Called.TheVariants as called
use Rattle.client.specs.declared.fault.BeginFault.{BeginFault}
use Rattle.client.specs.declared.fault.BeginFault.TheVariants as begins
use Rattle.outside.specs.Links.{IsNew, Shown}
use Rattle.tape.specs.declared.event.Event.TheVariants as event
use Rattle.tape.specs.declared.answer.Answer.{Answer}
use Rattle.tape.specs.declared.answer.Answer.TheVariants as answer
use Rattle.tape.specs.declared.entry.Entry.{Entry}
use Rattle.conn_shared.specs.Calls.{IsCalled}
use Rattle.conn_shared.specs.Members.{Knowledge}
use Rattle.client.specs.Clients.{ClientSeen, OpensAgain, on}

-- a moment of the clock was told, and there was memory for it
pub record HasTicked (moments : Option (List ℕ)) (me : Knowledge) (new : List Entry) : Type 0 where
  pub now : ℕ
  pub moment : IsMoment moments now
  pub answered : Answer
  pub had : answered ≢ answer.OutOfMemory
  pub called : IsCalled me.of.settings me (event.Tick now) answered new

-- a moment was told, and then the session was opened on a new link
pub record HasOpened (moments : Option (List ℕ)) (me : Knowledge) (c : ClientSeen) : Type 0 where
  pub ticked : List Entry
  pub ticks : HasTicked moments me ticked
  pub of : c.of ≡ me.of
  pub caller : c.caller ≡ on me c.caller.front
  pub opens : OpensAgain (on me ticked) c.conn c.caller.front
  pub link : Shown
  pub has : c.link ≡ Some link
  pub new : IsNew link

-- what a call comes to that could not begin
abbrev pub came_of : BeginFault → Called
came_of begins.Net = called.Net
came_of _ = called.OutOfMemory

-- the net failed, and only the tick stands: no link was had; or memory ran out
abbrev pub IsStillTo : Called → Option (List ℕ) → Knowledge → List Entry → Option (List Shown) → Option (List Shown) → ℕ → ℕ → Type 0
IsStillTo called.Net moments me new back back' faults faults' = HasTicked moments me new × (back' ≡ back) × Rose faults faults'
IsStillTo called.OutOfMemory moments me new back back' faults faults' = Unit {0}
IsStillTo _ moments me new back back' faults faults' = ⊥
