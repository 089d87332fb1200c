-- What the carrier of the client keeps, where the other caller of its end only asks. Entries stand newest first.
use Rattle.std.specs.Prelude.{◌≡◌, ◌<◌, ◌⊎◌, ℕ, true, List, [], Option, Some, None, IfSome}
use Rattle.rs_wire.specs.declared.settings.Settings.{Settings}
use Rattle.tape.specs.declared.entry.Entry.{Entry}
use Rattle.tape.specs.declared.event.Event.{Event}
use Rattle.session_model.specs.Frames.{came, first_bad}
use Rattle.session_model.specs.Joined.{is_accepted}
use Rattle.conn_shared.specs.Members.{Knowledge}
use Rattle.link_model.specs.Carrying.{Between, Keeps}
use Rattle.cable_script.specs.declared.line.Line.{Line}
use Rattle.ring.specs.declared.item.Item.{Item}
use Rattle.ring.specs.Parts.{cuts, ends, part}
use Rattle.threaded_model.specs.Threaded.{acts, has_cut}
use Rattle.carriers.specs.Alone.{NeverAsks, OthersAsk, linked}
use Rattle.threaded_client.specs.Following.{ActsTo}

-- the number of the connection that joins the ends
abbrev pub conn_of : Option Between → Option ℕ
conn_of None = None
conn_of (Some b) = Some b.conn

-- connection c, which was cut: these bytes were pushed and read there
pub record Former (g : Settings) (past : List Entry) (c : ℕ) (given taken : List ℕ) : Type 0 where
  pub accepted : is_accepted past c ≡ true
  pub cut : has_cut past c ≡ true
  pub between : Between
  pub is : between.conn ≡ c
  pub left : between.left ≡ []
  pub keeps : Keeps g past (linked given taken) between

-- the connection that joins the ends: these bytes were pushed and read there
pub record Joining (g : Settings) (past : List Entry) (b : Between) (given taken : List ℕ) : Type 0 where
  pub accepted : is_accepted past b.conn ≡ true
  pub left : b.left ≡ []
  pub keeps : Keeps g past (linked given taken) b

-- none does, and nothing was pushed or read
abbrev pub Joins : Settings → List Entry → Option Between → List ℕ → List ℕ → Type 0
Joins g past None given taken = (given ≡ []) × (taken ≡ [])
Joins g past (Some b) given taken = Joining g past b given taken

-- connection c is one of the first n, or the one that joins the ends
abbrev pub IsKnown : (ℕ → ℕ) → ℕ → Option Between → ℕ → Type 0
IsKnown conn n p c = ((k : ℕ) × (k < n) × (conn k ≡ c)) ⊎ (conn_of p ≡ Some c)

-- nothing came on connection c
abbrev pub IsStill : List Entry → ℕ → Type 0
IsStill past c = (came past c ≡ []) × (first_bad past c ≡ None)

-- The carrier of this number has followed these lines, and pushed and read these items.
pub record ClientCarries (g : Settings) (past : List Entry) (number : ℕ) (lines : List Line) (p : Option Between) (sent received : List Item) : Type 0 where
  -- the connection after k cuts has this number, for the cuts that were made
  pub conn : ℕ → ℕ
  pub both : cuts received ≡ cuts sent
  pub former : (k : ℕ) → k < cuts sent → Former g past (conn k) (part k sent) (part k received)
  pub rising : (j k : ℕ) → j < k → k < cuts sent → conn j < conn k
  pub newest : (k : ℕ) → k < cuts sent → IfSome (conn_of p) (λ c. conn k < c)
  pub here : Joins g past p (part (cuts sent) sent) (part (cuts sent) received)
  pub others : (c : ℕ) → IsKnown conn (cuts sent) p c ⊎ IsStill past c
  pub never_asks : NeverAsks number past
  pub follows : ActsTo None lines (acts past) (conn_of p)
  pub not_ended : ends sent ≡ 0

-- so it does, where the other callers of its end only ask
abbrev pub IsCarrying : Knowledge → List Line → Option Between → List Item → List Item → Type 0
IsCarrying me lines p sent received = OthersAsk me → ClientCarries me.of.settings me.front me.number lines p sent received

-- the pump is that of the connection of this number, and of a session with these settings
abbrev pub IsSound : Settings → ℕ → Option Between → Type 0
IsSound g conn p = IfSome p (λ b. (b.conn ≡ conn) × (b.max_in ≡ g.max_in))

-- any event
abbrev pub IsAny : Event → Type 0
IsAny e = Unit {0}
