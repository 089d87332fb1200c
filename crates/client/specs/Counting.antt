-- What is counted over a call: its tries, its lulls, and the ticks on each connection. Entries stand newest first.
use Rattle.std.specs.Prelude.{◌≡◌, ◌<◌, ◌≤◌, ◌+◌, ◌-◌, ◌^◌, ◌⊎◌, ℕ, Bool, true, false, if◌then◌else◌, List, [], ◌∷◌, ◌++◌, length, Option}
use Rattle.std.specs.Option.{option_map}
use Rattle.rs_wire.specs.declared.settings.Settings.{Settings}
use Rattle.rs_frame.specs.Framed.{framed_all}
use Rattle.outside.specs.Causes.{Rose}
use Rattle.outside.specs.Links.{NoneFell, Shown}
use Rattle.outside.specs.declared.net.Ask.{Ask}
use Rattle.tape.specs.declared.entry.Entry.{Entry}
use Rattle.session_model.specs.Frames.{drawn, due}
use Rattle.link_model.specs.Carrying.{Between}
use Rattle.pump.specs.declared.turned.Turned.{Turned}
use Rattle.pump.specs.declared.turned.Turned.TheVariants as turned
use Rattle.pump.specs.Turns.{IsEmptied, is_early, is_last}
use Rattle.call_model.specs.Leaving.{AreTimely, HaveLulled, HaveTried, NoTryLeft, one_if}
use Rattle.call_model.specs.Ran.{AreDials}
use Rattle.call_model.specs.Timing.{HasFewTicks}
use Rattle.client.specs.declared.called.Called.{Called}
use Rattle.client.specs.declared.called.Called.TheVariants as called
use Rattle.client.specs.declared.calling.Calling.{Calling}

-- ---- the net

-- a session that does not resume has no tries
abbrev pub tries_of : Settings → ℕ → ℕ
tries_of g tries = if g.resume then tries else 0

-- the net was asked for links to this address, and for nothing else
pub record HasDialed (address : List ℕ) (ws : Bool) (asks asks' : Option (List Ask)) : Type 0 where
  pub more : List Ask
  pub are : AreDials address ws more
  pub asked : asks' ≡ option_map (λ was. was ++ more) asks

-- the tries rose by no more than the net's faults, and this many
pub record HasTried (more tried tried' faults faults' : ℕ) : Type 0 where
  pub rose : faults ≤ faults'
  pub used : (faults + tried' ≤ faults' + tried + more) ⊎ (2 ^ 64 - 1 ≤ faults')

-- ---- between two steps

-- bytes wait in the queue of connection c
abbrev pub HasQueued : Settings → List Entry → ℕ → Type 0
HasQueued g past c = drawn past c < length (framed_all (due g past c))

-- nothing that was taken waits to come, or bytes wait to be given: a turn is sure to move some, or to lull
abbrev pub IsSureToMove : Settings → List Entry → Between → Type 0
IsSureToMove g past b = IsEmptied b ⊎ HasQueued g past b.conn

-- Before the call the net had so many faults, and has so many now: each try came after one more, or after a link that broke; no more lulls were
-- met than the links have; and the ticks on each connection are few.
pub record IsCounted (base faults first : ℕ) (g : Settings) (past : List Entry) (c : ℕ) (link : Shown) (k : Calling) (links : List Shown) : Type 0 where
  pub tried : HaveTried k.tried base faults links
  pub met : HaveLulled k.met (links ++ link ∷ [])
  pub timely : AreTimely past first links
  pub ticks : HasFewTicks (one_if k.full) past link c
  pub sure : k.full ≡ false → IsSureToMove g past k.pump
  pub short : k.pump.max_in < 2 ^ 24

-- ---- a step

-- A step on connection c, whose link showed `s` and shows `t`: it ticked once at most, and where its turn was not the last one, something moved.
pub record HasCounted (g : Settings) (past new : List Entry) (s t : Shown) (c : ℕ) (b d : Between) (full : Bool) (r : Turned) : Type 0 where
  pub fell : NoneFell s.counts t.counts
  pub lulled : r ≡ turned.Lull → Rose s.counts.lulls t.counts.lulls
  pub dropped : full ≡ true → (few : ℕ) → HasFewTicks few past s c → HasFewTicks few new t c
  pub ticked : (few : ℕ) → HasFewTicks few past s c → HasFewTicks (few + 1) new t c
  pub moved : full ≡ false → is_last r ≡ false → IsSureToMove g past b → (few : ℕ) → HasFewTicks few past s c → HasFewTicks few new t c
  pub sure : full ≡ false → is_early r ≡ false → IsSureToMove g new d

-- ---- the end

-- what was used up where a call came to this, over all its links: its tries, or its lulls
abbrev pub HasUsedUp : Called → ℕ → ℕ → ℕ → List Shown → Type 0
HasUsedUp called.Net tries base faults links = NoTryLeft tries base faults links
HasUsedUp (called.Idle n) tries base faults links = HaveLulled n links
HasUsedUp _ tries base faults links = Unit {0}
