-- What a server's thread did for one link: its callers have a number at each slot, and opened a connection of one slot at most. Entries stand newest first.
use Rattle.std.specs.Prelude.{◌≡◌, ◌≢◌, ◌<◌, ◌≤◌, ◌+◌, ℕ, Bool, true, false, List, [], ◌∷◌, length, slice_get, Option, Some, None}
use Rattle.rs_wire.specs.declared.call.Call.{Call}
use Rattle.rs_wire.specs.declared.settings.Settings.{Settings}
use Rattle.rs_frame.specs.declared.frame.Frame.{Frame}
use Rattle.rs_frame.specs.declared.frame.Frame.TheVariants as frame
use Rattle.outside.specs.Links.{Shown}
use Rattle.tape.specs.declared.event.Event.{Event}
use Rattle.tape.specs.declared.event.Event.TheVariants as event
use Rattle.tape.specs.declared.entry.Entry.{Entry}
use Rattle.session_model.specs.Life.{asked_token, setup}
use Rattle.link_laws.specs.Unopened.{Unopened}
use Rattle.server.specs.Attending.{AreFewTicks}
use Rattle.server.specs.Opening.{IsFirst, resumes}
use Rattle.serve_model.specs.Counts.{accepted_by, opened_by, opens_by, since_open}
use Rattle.serve_model.specs.Links.{IsLinked}
use Rattle.serve_model.specs.Names.{Under}

-- ---- one slot

-- another tape has an accepted SETUP with the token of this one
abbrev pub IsTakenIn : ℕ → List (List Entry) → Frame → Type 0
IsTakenIn i tapes (frame.Setup s) =
    (token : List ℕ) × (j : ℕ) × (past : List Entry) × (s.resume ≡ Some token) × (j ≢ i) × (slice_get tapes j ≡ Some past) × (asked_token (setup past) ≡ Some token)
IsTakenIn i tapes _ = ⊥

-- Link k may be opened at slot i by this frame: it is its first one, the slot is its own but for a RESUME, and where its token is said to be taken it is.
pub record MayOpen (g : Settings) (tapes : List (List Entry)) (k i : ℕ) (link : Shown) (f : Frame) (in_use : Bool) : Type 0 where
  pub first : IsFirst g.max_in link f
  pub place : resumes f ≡ false → i ≡ k
  pub taken : in_use ≡ true → IsTakenIn i tapes f

-- where the event is an opening it is by such a frame
abbrev pub OpensBy : (Frame → Bool → Type 0) → Event → Type 0
OpensBy P (event.Open (Some first) taken) = P first taken
OpensBy P (event.Open None taken) = ⊥
OpensBy P _ = Unit {0}

-- What link k's caller with number n did at slot i.
pub record DidAt (g : Settings) (lease : Option Call) (tapes : List (List Entry)) (k i n : ℕ) (past : List Entry) (link : Shown) : Type 0 where
  pub opens : Under (n ∷ []) (λ x. OpensBy (MayOpen g tapes k i link) x.event) past
  pub linked : (c : ℕ) → 0 < opened_by n c past → IsLinked g lease n c past link
  -- the ticks since its opening are few
  pub ticks : AreFewTicks (n ∷ []) (since_open n past) link

-- ---- all slots

-- how many openings a link's callers made, a number and a tape for each slot, and how many of them were accepted
abbrev pub opens_in : List ℕ → List (List Entry) → ℕ
opens_in [] tapes = 0
opens_in (n ∷ row) [] = 0
opens_in (n ∷ row) (past ∷ tapes) = opens_by n past + opens_in row tapes

abbrev pub accepted_in : List ℕ → List (List Entry) → ℕ
accepted_in [] tapes = 0
accepted_in (n ∷ row) [] = 0
accepted_in (n ∷ row) (past ∷ tapes) = accepted_by n past + accepted_in row tapes

-- Link k, whose callers have these numbers: it has one opening at most, at one slot, and where none was accepted there is a reason.
pub record IsServedLink (g : Settings) (moments : Option (List ℕ)) (lease : Option Call) (tapes : List (List Entry)) (k : ℕ) (row : List ℕ) (link : Shown) : Type 0 where
  pub each : length row ≡ length tapes
  pub did : (i n : ℕ) (past : List Entry) → slice_get row i ≡ Some n → slice_get tapes i ≡ Some past → DidAt g lease tapes k i n past link
  pub once : opens_in row tapes ≤ 1
  pub unopened : accepted_in row tapes ≡ 0 → Unopened g moments tapes link

-- ---- all links

pub record AreServedLinks (g : Settings) (moments : Option (List ℕ)) (lease : Option Call) (tapes : List (List Entry)) (rows : List (List ℕ)) (links : List Shown) : Type 0 where
  pub each : length rows ≡ length links
  pub served : (k : ℕ) (row : List ℕ) (link : Shown) → slice_get rows k ≡ Some row → slice_get links k ≡ Some link → IsServedLink g moments lease tapes k row link
