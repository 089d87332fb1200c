-- What a call came to that was begun, and what it wrote. Entries stand newest first.
use Rattle.std.specs.Prelude.{◌≢◌, ◌⊎◌, ℕ, List, [], Option}
use Rattle.outside.specs.Links.{Shown}
use Rattle.outside.specs.Streams.{ByteStream}
use Rattle.call_model.specs.Order.{Asking}
use Rattle.client.specs.Alone.{IsOwn}
use Rattle.client.specs.Calling.{CanBegin, GoesFrom, StopsFrom}
use Rattle.client.specs.Clients.{ClientSeen}
use Rattle.client.specs.declared.called.Called.{Called}
use Rattle.client.specs.declared.called.Called.TheVariants as called
use Rattle.client.specs.declared.calling.Calling.{Calling}
use Rattle.rsocket_output.specs.Written.{CutOff, Writes}
use Rattle.rsocket_call.specs.declared.make.Made.{Made}
use Rattle.rsocket_call.specs.declared.make.Made.TheVariants as made

-- over the entries that a call began with, those that it has, its present link, and what came back to the net: it has come to this
abbrev pub StopsWith : Asking → Option (List ℕ) → ℕ → ℕ → ClientSeen → ClientSeen → Option (List Shown) → Option (List Shown) → ℕ → ℕ → Called → List ℕ → Type 0
StopsWith w moments lulls tries was now back back' base faults r text = StopsFrom r w moments lulls tries base faults was.conn was.caller.of.settings was.caller.front now.caller.front now.link [] back back' [] text

-- it goes on
abbrev pub GoesWith : Asking → Option (List ℕ) → ClientSeen → ClientSeen → Option (List Shown) → Option (List Shown) → ℕ → ℕ → Calling → List ℕ → Type 0
GoesWith w moments was now back back' base faults k text = GoesFrom w moments base faults was.conn was.caller.of.settings was.caller.front now.caller.front now.conn now.link k [] back back' [] text

-- what holds where nobody else calls and the call could begin
abbrev pub Alone : Asking → Option (List ℕ) → ClientSeen → ClientSeen → Type 0 → Type 0
Alone w moments was now P = IsOwn now.caller → IsOwn was.caller × (CanBegin w moments was.caller.front was.conn was.link → P)

-- a write failed: a prefix was written of what the call had printed by then, and it went on or had come to something
pub record IsCutOff (w : Asking) (moments : Option (List ℕ)) (lulls tries : ℕ) (was now : ClientSeen) (back back' : Option (List Shown)) (base faults : ℕ) (old new : ByteStream) : Type 0 where
  pub text : List ℕ
  pub cut : CutOff text old new
  pub came : Alone w moments was now (((k : Calling) × GoesWith w moments was now back back' base faults k text) ⊎ ((r : Called) × (r ≢ called.OutOfMemory) × StopsWith w moments lulls tries was now back back' base faults r text))

-- it has come to this, and all that it printed is written
pub record IsWritten (r : Called) (w : Asking) (moments : Option (List ℕ)) (lulls tries : ℕ) (was now : ClientSeen) (back back' : Option (List Shown)) (base faults : ℕ) (old new : ByteStream) : Type 0 where
  pub text : List ℕ
  pub written : Writes text old new
  pub came : Alone w moments was now (StopsWith w moments lulls tries was now back back' base faults r text)

-- memory ran out: a part of what it printed is written
abbrev pub WroteSome : ByteStream → ByteStream → Type 0
WroteSome old new = (text : List ℕ) × Writes text old new

abbrev pub HasMade : Made → Asking → Option (List ℕ) → ℕ → ℕ → ClientSeen → ClientSeen → Option (List Shown) → Option (List Shown) → ℕ → ℕ → ByteStream → ByteStream → Type 0
HasMade made.WriteFault w moments lulls tries was now back back' base faults old new = IsCutOff w moments lulls tries was now back back' base faults old new
HasMade (made.Called called.OutOfMemory) w moments lulls tries was now back back' base faults old new = WroteSome old new
HasMade (made.Called r) w moments lulls tries was now back back' base faults old new = IsWritten r w moments lulls tries was now back back' base faults old new
