-- What holds between a link, the entries of a session, and whoever moves bytes between the two. Entries stand newest first.
use Rattle.std.specs.Prelude.{◌≡◌, ◌≤◌, ℕ, Bool, true, false, ◌==◌, List, [], length, None, IfSome, is_some}
use Rattle.std.specs.List.{AllByRecursion}
use Rattle.rs_wire.specs.declared.settings.Settings.{Settings}
use Rattle.rs_frame.specs.Framed.{framed_all}
use Rattle.outside.specs.Links.{Shown}
use Rattle.tape.specs.declared.event.Event.{Event}
use Rattle.tape.specs.declared.event.Event.TheVariants as event
use Rattle.tape.specs.declared.entry.Entry.{Entry}
use Rattle.session_model.specs.Frames.{came, drawn, due, first_bad, given as bytes_drawn, was_opened}
use Rattle.session_model.specs.Lists.{IsPrefix}
use Rattle.link_model.specs.Giving.{HasGiven, drawn_before}
use Rattle.link_model.specs.Reading.{HasRead}

-- the event draws bytes of connection c, or brings some
abbrev pub is_of : ℕ → Event → Bool
is_of c (event.Draw conn room) = conn == c
is_of c (event.Came conn f) = conn == c
is_of c (event.Bad conn rule) = conn == c
is_of c _ = false

-- the caller of this number alone moves bytes of connection c
abbrev pub IsAlone : ℕ → ℕ → List Entry → Type 0
IsAlone c number past = AllByRecursion (λ x. is_of c x.event ≡ true → x.who ≡ number) past

-- Link and connection c are carried: every frame and every byte crosses in order, each once.
pub record Carried (g : Settings) (past : List Entry) (link : Shown) (c : ℕ) : Type 0 where
  -- what was given begins the bytes drawn, and has those of all draws but the last
  pub given : IfSome link.given (λ bytes. IsPrefix bytes (bytes_drawn g past c) × (drawn_before past c ≤ length bytes))
  -- the frames that came are spelled by the first whole frames taken; what broke the first rule follows them
  pub taken : IfSome link.taken (λ bytes. (rest : List ℕ) × HasRead (came past c) (first_bad past c) g.max_in rest bytes)

-- what stands between a link and a connection
pub record Between : Type 0 where
  pub conn : ℕ
  -- the bytes drawn and not given
  pub left : List ℕ
  -- the bytes taken that did not come
  pub rest : List ℕ
  -- how long a frame may be
  pub max_in : ℕ
  -- bytes came that are no frame
  pub bad : Bool

-- The same as that a link is carried, said by what stands between, so that whoever moves the next byte can keep it.
pub record Keeps (g : Settings) (past : List Entry) (link : Shown) (b : Between) : Type 0 where
  pub opened : was_opened past b.conn ≡ true
  pub bad : b.bad ≡ is_some (first_bad past b.conn)
  pub within : drawn past b.conn ≤ length (framed_all (due g past b.conn))
  pub given : IfSome link.given (λ bytes. HasGiven g past b.conn b.left bytes)
  pub taken : IfSome link.taken (λ bytes. HasRead (came past b.conn) (first_bad past b.conn) g.max_in b.rest bytes)

-- It holds where connection c was opened, nothing was drawn on it and nothing given to the link, and the rest is what was taken and did not come.
pub record IsFresh (g : Settings) (past : List Entry) (link : Shown) (c : ℕ) (rest : List ℕ) : Type 0 where
  pub opened : was_opened past c ≡ true
  pub good : first_bad past c ≡ None
  pub undrawn : drawn past c ≡ 0
  pub ungiven : IfSome link.given (λ bytes. bytes ≡ [])
  pub taken : IfSome link.taken (λ bytes. HasRead (came past c) None g.max_in rest bytes)
