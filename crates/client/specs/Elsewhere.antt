-- What becomes of a call whose link has failed or ended. Entries stand newest first.
use Rattle.std.specs.Prelude.{◌≡◌, ◌≤◌, ◌+◌, ◌⊎◌, ℕ, true, false, List, [], Option, Some, None}
use Rattle.outside.specs.Causes.{IsMoment}
use Rattle.outside.specs.Links.{IsNew, Shown}
use Rattle.tape.specs.declared.entry.Entry.{Entry}
use Rattle.session_model.specs.Life.{closed}
use Rattle.conn_shared.specs.Members.{Follows, Knowledge}
use Rattle.link_model.specs.Carrying.{Between}
use Rattle.client.specs.Answered.{TicksAt}
use Rattle.client.specs.Clients.{ClientSeen, OpensAgain, PartsFrom, on, refused_for, PutsBack}
use Rattle.client.specs.Counting.{HasTried, tries_of}
use Rattle.pump.specs.declared.turned.Turned.{Turned}
use Rattle.pump.specs.declared.turned.Turned.TheVariants as turned
use Rattle.client.specs.declared.calling.Calling.{Calling}
use Rattle.client.specs.declared.called.Called.{Called}
use Rattle.client.specs.declared.called.Called.TheVariants as called

-- a moment of the clock was told, and then the session was opened again
pub record OpensTicked (moments : Option (List ℕ)) (was : Knowledge) (conn : ℕ) (new : List Entry) : Type 0 where
  pub now : ℕ
  pub moment : IsMoment moments now
  pub ticked : List Entry
  pub tick : TicksAt was now false ticked
  pub opens : OpensAgain (on was ticked) conn new

-- The present connection was cut and its link put back, and the session was opened over a new link.
pub record Changes (moments : Option (List ℕ)) (was now : ClientSeen) (pump : Between) (back back' : Option (List Shown)) : Type 0 where
  pub got : PutsBack was.link back back'
  pub parted : List Entry
  pub parts : PartsFrom was.link was.conn was.caller parted
  pub opens : OpensTicked moments (on was.caller parted) now.conn now.caller.front
  pub link : Shown
  pub has : now.link ≡ Some link
  pub new_link : IsNew link
  pub pump_is : pump ≡ record { conn = now.conn; left = []; rest = []; max_in = was.of.settings.max_in; bad = false }

-- the link was put back, and no other is there
pub record IsParted (was now : ClientSeen) (back back' : Option (List Shown)) : Type 0 where
  pub got : PutsBack was.link back back'
  pub parts : PartsFrom was.link was.conn was.caller now.caller.front
  pub link : now.link ≡ None
  pub conn : now.conn ≡ was.conn

-- the session was looked at
abbrev pub looking : ClientSeen → List Entry → ClientSeen
looking was looked = record was { caller = on was.caller looked }

-- and then it went on over a new link
pub record GoesElsewhere (moments : Option (List ℕ)) (was now : ClientSeen) (pump : Between) (back back' : Option (List Shown)) : Type 0 where
  pub looked : List Entry
  pub follows : Follows was.caller.names was.caller.front looked
  pub changes : Changes moments (looking was looked) now pump back back'

-- nothing was done but to look
pub record StaysHere (was now : ClientSeen) (back back' : Option (List Shown)) : Type 0 where
  pub same : back' ≡ back
  pub follows : Follows was.caller.names was.caller.front now.caller.front
  pub link : now.link ≡ was.link
  pub conn : now.conn ≡ was.conn

-- or the link was put back, and no other is there
pub record IsPartedAfter (was now : ClientSeen) (back back' : Option (List Shown)) : Type 0 where
  pub looked : List Entry
  pub follows : Follows was.caller.names was.caller.front looked
  pub parted : IsParted (looking was looked) now back back'

-- what a call comes to that can't go on over another link: its session is closed; or no try is left, before a dial or after some
abbrev pub StopsElsewhere : ClientSeen → ClientSeen → Option (List Shown) → Option (List Shown) → Called → Type 0
StopsElsewhere was now back back' (called.Refused why) = StaysHere was now back back' × (closed was.caller.of.settings now.caller.front ≡ Some why) × (called.Refused why ≡ refused_for why)
StopsElsewhere was now back back' called.Net = StaysHere was now back back' ⊎ IsPartedAfter was now back back'
StopsElsewhere was now back back' called.OutOfMemory = Unit {0}
StopsElsewhere was now back back' _ = ⊥

-- the call goes on over another link, or it can't
abbrev pub LeavesSo : Option (List ℕ) → ℕ → ClientSeen → ClientSeen → Calling → Calling → Option (List Shown) → Option (List Shown) → ℕ → ℕ → Option Called → Type 0
LeavesSo moments tries was now k k' back back' faults faults' None = GoesElsewhere moments was now k'.pump back back' × (k' ≡ record k { pump = k'.pump; tried = k'.tried }) × HasTried 1 k.tried k'.tried faults faults'
LeavesSo moments tries was now k k' back back' faults faults' (Some r) = StopsElsewhere was now back back' r × (r ≡ called.Net → HasTried 0 k.tried k'.tried faults faults' × (tries_of was.of.settings tries ≤ k'.tried))

-- What follows from a turn that did not end the call: nothing; a lull more, which may be the last; another link; or what the call came to.
abbrev pub FollowsSo : Turned → Option (List ℕ) → ℕ → ℕ → ClientSeen → ClientSeen → Calling → Calling → Option (List Shown) → Option (List Shown) → ℕ → ℕ → Option Called → Type 0
FollowsSo (turned.Moved given taken) moments lulls tries was now k k' back back' faults faults' result = (result ≡ None) × (now ≡ was) × (k' ≡ k) × (back' ≡ back) × (faults' ≡ faults)
FollowsSo (turned.Busy q) moments lulls tries was now k k' back back' faults faults' result = (result ≡ None) × (now ≡ was) × (k' ≡ k) × (back' ≡ back) × (faults' ≡ faults)
FollowsSo turned.Lull moments lulls tries was now k k' back back' faults faults' result =
    ((result ≡ None) ⊎ ((result ≡ Some (called.Idle lulls)) × (lulls ≤ k'.met))) × (now ≡ was) × (k' ≡ record k { met = k'.met }) × (back' ≡ back) × (faults' ≡ faults) × (k'.met ≤ k.met + 1)
FollowsSo turned.End moments lulls tries was now k k' back back' faults faults' result = LeavesSo moments tries was now k k' back back' faults faults' result
FollowsSo turned.LinkFault moments lulls tries was now k k' back back' faults faults' result = LeavesSo moments tries was now k k' back back' faults faults' result
FollowsSo (turned.Over why) moments lulls tries was now k k' back back' faults faults' result = (result ≡ Some (refused_for why)) × (now ≡ was) × (back' ≡ back)
FollowsSo (turned.Dead last) moments lulls tries was now k k' back back' faults faults' result = (result ≡ Some (called.Dead last)) × (now ≡ was) × (back' ≡ back)
FollowsSo turned.TapeFull moments lulls tries was now k k' back back' faults faults' result = (result ≡ None) × (now ≡ was) × (k' ≡ record k { full = true }) × (back' ≡ back) × (faults' ≡ faults)
FollowsSo (turned.Displaced n) moments lulls tries was now k k' back back' faults faults' result = (result ≡ Some called.OutOfMemory) × (now ≡ was)
FollowsSo turned.OutOfMemory moments lulls tries was now k k' back back' faults faults' result = (result ≡ Some called.OutOfMemory) × (now ≡ was)
