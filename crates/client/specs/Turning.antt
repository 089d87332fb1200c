-- What a turn of a call comes to. Entries stand newest first.
use Rattle.std.specs.Prelude.{◌≡◌, ◌<◌, ◌≤◌, ◌^◌, ◌⊎◌, ℕ, Bool, true, false, List, length, ◌++◌, Option, Some}
use Rattle.std.specs.List.{AllByRecursion}
use Rattle.rs_wire.specs.declared.words.Kind.{Kind}
use Rattle.rs_wire.specs.declared.settings.Settings.{Settings}
use Rattle.outside.specs.Causes.{Rose}
use Rattle.outside.specs.Links.{NoneFell, Shown}
use Rattle.tape.specs.declared.entry.Entry.{Entry}
use Rattle.session_model.specs.Life.{closed}
use Rattle.conn_shared.specs.Members.{Knowledge}
use Rattle.link_model.specs.Carrying.{Between}
use Rattle.link_model.specs.Leaving.{Heard, IsAllGiven, IsBroken, Left, displaced}
use Rattle.pump.specs.declared.turned.Turned.{Turned}
use Rattle.pump.specs.declared.turned.Turned.TheVariants as turned
use Rattle.pump.specs.Moves.{HasGrown}
use Rattle.pump.specs.Turns.{IsKept, IsReadOut, IsTurned, RulesOut, TurnedFor, is_early}
use Rattle.call_model.specs.Order.{Asking, moves_only}
use Rattle.call_model.specs.Present.{IsServed}
use Rattle.call_model.specs.Ran.{HasDied, HasPlace}
use Rattle.call_model.specs.Saying.{said}
use Rattle.call_model.specs.Standing.{IsPaid, IsUnended, Stands}
use Rattle.client.specs.Takes.{EndsNow, HasPrinted, IsTakenIn}

-- the pump turned
pub record Pumps (moments : Option (List ℕ)) (was now : Knowledge) (s t : Shown) (b d : Between) (r : Turned) : Type 0 where
  pub kept : IsKept was s b → IsKept now t d
  pub turned : IsTurned was.of.settings moments was now.front s t b r
  pub cause : TurnedFor was.of.settings moments was now.front s t d r
  pub order : RulesOut was.of.settings now.front d r
  pub read : is_early r ≡ false → IsReadOut was.of.settings was d now.front
  pub counted : NoneFell s.counts t.counts
  pub conn : d.conn ≡ b.conn
  pub limit : d.max_in ≡ b.max_in

-- the count rose that a dropped take is known by
abbrev pub DropsFor : Shown → Shown → Turned → Type 0
DropsFor s t (turned.Moved given taken) = Unit {0}
DropsFor s t turned.Lull = Rose s.counts.lulls t.counts.lulls
DropsFor s t turned.End = Rose s.counts.ends t.counts.ends
DropsFor s t turned.LinkFault = Rose s.counts.faults t.counts.faults
DropsFor s t _ = ⊥

-- bytes were taken and dropped, or none came
pub record Drops (s t : Shown) (r : Turned) : Type 0 where
  pub given : t.given ≡ s.given
  pub grown : HasGrown s.taken t.taken
  pub counted : NoneFell s.counts t.counts
  pub cause : DropsFor s t r

-- the pump turned, or, once the session takes no more entries, bytes were dropped
abbrev pub TurnsSo : Bool → Option (List ℕ) → Knowledge → Knowledge → Shown → Shown → Between → Between → Turned → Type 0
TurnsSo false moments was now s t b d r = Pumps moments was now s t b d r
TurnsSo true moments was now s t b d r = (now ≡ was) × (d ≡ b) × Drops s t r

-- what a result says of connection c and its link
abbrev pub SaysOf : Settings → List Entry → Shown → ℕ → Turned → Type 0
SaysOf g past link c turned.Lull = HasPlace past → Heard g past link c × (IsAllGiven g past link c ⊎ (0 < link.counts.stalls))
SaysOf g past link c turned.End = IsBroken link × (HasPlace past → Left g past link c)
SaysOf g past link c turned.LinkFault = IsBroken link × (HasPlace past → Left g past link c)
SaysOf g past link c (turned.Over cause) = closed g past ≡ Some cause
SaysOf g past link c (turned.Dead last) = HasDied g past last
SaysOf g past link c turned.TapeFull = 2 ^ 63 ≤ length past
SaysOf g past link c _ = Unit {0}

-- Where a call stands after a turn on connection c, with these entries more.
pub record HasTurned (w : Asking) (moments : Option (List ℕ)) (g : Settings) (past new : List Entry) (link : Shown) (c : ℕ) (b : Between) (stream : Option ℕ) (fresh : ℕ) (full : Bool) (r : Turned) : Type 0 where
  pub more : List Entry
  pub on : new ≡ more ++ past
  pub only : AllByRecursion (λ x. moves_only c x.event ≡ true) more
  pub stands : Stands w moments new stream fresh
  pub unended : IsUnended new
  pub served : IsServed g new link c b full
  pub still : is_early r ≡ false → HasPlace new → displaced new c ≡ false
  pub paid : r ≡ turned.Lull → IsPaid new stream
  pub takes : r ≡ turned.Lull → (k : Kind) → IsTakenIn k g past → IsTakenIn k g new
  pub same : (k : Kind) → said k false new ≡ said k false past
  pub says : SaysOf g new link c r

-- Where a call stands after a step on connection c, with these entries more, and what it printed.
pub record HasStepped (w : Asking) (moments : Option (List ℕ)) (g : Settings) (past new : List Entry) (link : Shown) (c : ℕ) (b : Between) (stream : Option ℕ) (fresh : ℕ) (full : Bool) (r : Turned) (ended : Bool) (out out' : List ℕ) : Type 0 where
  pub more : List Entry
  pub on : new ≡ more ++ past
  pub only : AllByRecursion (λ x. moves_only c x.event ≡ true) more
  pub stands : Stands w moments new stream fresh
  pub served : IsServed g new link c b full
  pub still : is_early r ≡ false → HasPlace new → displaced new c ≡ false
  pub paid : IsPaid new stream
  pub says : ended ≡ false → SaysOf g new link c r
  pub prints : HasPrinted w.kind ended past new out out'
  pub ends : EndsNow ended w.kind g new link c

-- Where a call stands before a step on connection c.
pub record IsReady (w : Asking) (moments : Option (List ℕ)) (g : Settings) (past : List Entry) (link : Shown) (c : ℕ) (b : Between) (stream : Option ℕ) (fresh : ℕ) (full : Bool) : Type 0 where
  pub some : 0 < w.count
  pub stands : Stands w moments past stream fresh
  pub unended : IsUnended past
  pub paid : IsPaid past stream
  pub served : IsServed g past link c b full
  pub still : HasPlace past → displaced past c ≡ false
  pub whole : HasPlace past → IsTakenIn w.kind g past
