-- Links that are left behind, when no more bytes cross. Entries stand newest first.
use Rattle.std.specs.Prelude.{◌≡◌, ◌≢◌, ◌<◌, ◌≤◌, ◌^◌, ◌⊎◌, ◌==◌, ◌&&◌, ◌||◌, ℕ, Bool, true, false, List, [], ◌∷◌, ◌++◌, length, Some, None, IfSome}
use Rattle.rs_wire.specs.declared.settings.Settings.{Settings}
use Rattle.rs_wire.specs.declared.fault.Cause.{Cause}
use Rattle.rs_wire.specs.declared.fault.Cause.TheVariants as cause
use Rattle.rs_frame.specs.Framed.{framed_all}
use Rattle.outside.specs.Links.{Shown}
use Rattle.tape.specs.declared.event.Event.{Event}
use Rattle.tape.specs.declared.event.Event.TheVariants as event
use Rattle.tape.specs.declared.answer.Answer.{Answer}
use Rattle.tape.specs.declared.answer.Answer.TheVariants as answer
use Rattle.tape.specs.declared.entry.Entry.{Entry}
use Rattle.session_model.specs.Answers.{answer_to}
use Rattle.session_model.specs.Frames.{came, due, first_bad}
use Rattle.session_model.specs.Life.{closed, is_live, live, live_after}
use Rattle.link_model.specs.Reading.{HasRead, IsInFront, IsPart}

-- ---- all that was taken has come

abbrev pub is_came_of : ℕ → Event → Bool
is_came_of c (event.Came conn f) = conn == c
is_came_of c _ = false

-- connection c was live, and was parted, or its peer counted as dead
unfoldable pub parted : List Entry → ℕ → Bool
parted [] c = false
parted (x ∷ past) c = parted past c || (is_live (live past) c && (live_after x.answer (live past) == 0))

-- no frame comes on connection c once it is parted, or once a caller has closed the session
unfoldable pub ComesInTime : Settings → List Entry → ℕ → Type 0
ComesInTime g [] c = Unit {0}
ComesInTime g (x ∷ past) c = ComesInTime g past c × (is_came_of c x.event ≡ true → (parted past c ≡ false) × (closed g past ≢ Some cause.Local))

-- what the bytes begin with would find no room in the queue, after entries that have all frames of connection c
pub record IsHeldBack (g : Settings) (past : List Entry) (c : ℕ) (bytes : List ℕ) : Type 0 where
  pub event : Event
  pub before : List Entry
  pub later : List Entry
  pub queued : ℕ
  pub since : past ≡ later ++ before
  pub all : came before c ≡ came past c
  pub front : IsInFront c bytes g.max_in event
  pub busy : answer_to g before event ≡ answer.OutBusy queued

-- why nothing more of the bytes taken comes
abbrev pub IsReadOut : Settings → List Entry → ℕ → List ℕ → Type 0
IsReadOut g past c bytes = IsPart bytes g.max_in ⊎ (first_bad past c ≢ None) ⊎ IsHeldBack g past c bytes

-- the bytes taken, where they are shown, have all come as far as they can
pub record Heard (g : Settings) (past : List Entry) (link : Shown) (c : ℕ) : Type 0 where
  pub in_time : ComesInTime g past c
  pub read : IfSome link.taken (λ bytes. (rest : List ℕ) × (r : HasRead (came past c) (first_bad past c) g.max_in rest bytes) × IsReadOut g past c r.more)

-- ---- why a link was left

-- a take met the end of the link, or a call failed
abbrev pub IsBroken : Shown → Type 0
IsBroken link = (0 < link.counts.faults) ⊎ (0 < link.counts.ends)

abbrev pub takes_place : Answer → Bool
takes_place (answer.Opened n) = true
takes_place (answer.Dead last) = true
takes_place _ = false

-- a later opening took the place of connection c, or its peer counted as dead
unfoldable pub displaced : List Entry → ℕ → Bool
displaced [] c = false
displaced (x ∷ past) c = displaced past c || (is_live (live past) c && takes_place x.answer)

-- a cause other than a caller's own close, and than the cut of the connection
abbrev pub IsOfSession : Cause → Type 0
IsOfSession cause.Local = ⊥
IsOfSession cause.Cut = ⊥
IsOfSession _ = Unit {0}

-- the entry closed the session for such a cause, while connection c was live
pub record Closes (g : Settings) (past : List Entry) (x : Entry) (c : ℕ) : Type 0 where
  pub cause : Cause
  pub before : closed g past ≡ None
  pub after : closed g (x ∷ past) ≡ Some cause
  pub other : IsOfSession cause
  pub here : is_live (live past) c ≡ true

-- some entry did
unfoldable pub ClosedOn : Settings → List Entry → ℕ → Type 0
ClosedOn g [] c = ⊥
ClosedOn g (x ∷ past) c = Closes g past x c ⊎ ClosedOn g past c

-- all that is due was given, where that is shown
abbrev pub IsAllGiven : Settings → List Entry → Shown → ℕ → Type 0
IsAllGiven g past link c = IfSome link.given (λ bytes. bytes ≡ framed_all (due g past c))

-- Why the link of connection c was left: the session takes no more entries; the connection is another's, or its peer is dead; the session closed on it,
-- and all is given or the link is broken; or the link is broken, and all has come that can.
abbrev pub Left : Settings → List Entry → Shown → ℕ → Type 0
Left g past link c =
    (2 ^ 63 ≤ length past)
    ⊎ (displaced past c ≡ true)
    ⊎ (ClosedOn g past c × (IsAllGiven g past link c ⊎ IsBroken link))
    ⊎ (IsBroken link × Heard g past link c)
