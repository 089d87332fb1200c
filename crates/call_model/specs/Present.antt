-- The present connection of a call and its link. Entries stand newest first.
use Rattle.std.specs.Prelude.{◌≡◌, ◌≤◌, ◌^◌, ℕ, Bool, true, false, List, ◌++◌, length, None, IfSome}
use Rattle.rs_wire.specs.declared.settings.Settings.{Settings}
use Rattle.rs_frame.specs.Framed.{framed_all}
use Rattle.outside.specs.Links.{Shown}
use Rattle.tape.specs.declared.entry.Entry.{Entry}
use Rattle.session_model.specs.Life.{closed, is_live, live, openings}
use Rattle.session_model.specs.Frames.{drawn, due}
use Rattle.link_model.specs.Carrying.{Between, Keeps}
use Rattle.link_model.specs.Giving.{HasGiven}
use Rattle.link_model.specs.Leaving.{ComesInTime, parted}
use Rattle.link_laws.specs.Staying.{StaysOn}

-- Connection c is that of the last opening, and no entry since cut it, or closed the session by a call.
pub record HasJoined (g : Settings) (past : List Entry) (c : ℕ) : Type 0 where
  -- the entries up to its opening, and those since
  pub base : List Entry
  pub more : List Entry
  pub parts : past ≡ more ++ base
  pub last : openings past ≡ c
  pub here : is_live (live base) c ≡ true
  pub joined : parted base c ≡ false
  pub free : closed g base ≡ None
  pub in_time : ComesInTime g base c
  pub stays : StaysOn c more

-- all bytes that were drawn on connection c were given to its link, or are left to be given
pub record HasDrawnAll (g : Settings) (past : List Entry) (link : Shown) (c : ℕ) (left : List ℕ) : Type 0 where
  pub within : drawn past c ≤ length (framed_all (due g past c))
  pub given : IfSome link.given (λ bytes. HasGiven g past c left bytes)

-- The link of connection c is served by what stands between the two. Once the session takes no more entries, what is taken is dropped.
pub record IsServed (g : Settings) (past : List Entry) (link : Shown) (c : ℕ) (b : Between) (full : Bool) : Type 0 where
  pub joined : HasJoined g past c
  pub conn : b.conn ≡ c
  pub kept : full ≡ false → Keeps g past link b
  pub given : full ≡ true → HasDrawnAll g past link c b.left
  pub place : full ≡ true → 2 ^ 63 ≤ length past
