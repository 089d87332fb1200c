-- What an opening by a first frame adds to what callers have seen, and what the table of the sessions is told of it. Entries stand newest first.
use Rattle.std.specs.Prelude.{◌≡◌, ◌≢◌, ◌↔◌, ◌⊎◌, ℕ, Bool, true, false, nat_lt, if◌then◌else◌, List, [], ◌∷◌, ◌++◌, map, slice_get, Option, Some, None, IfSome}
use Rattle.rs_wire.specs.declared.settings.Settings.{Settings}
use Rattle.rs_frame.specs.declared.frame.Frame.{Frame}
use Rattle.rs_frame.specs.declared.frame.Frame.TheVariants as frame
use Rattle.rs_frame.specs.Spelling.{Spells}
use Rattle.rs_chunk.specs.Stream.{IsWhole, first_frame}
use Rattle.outside.specs.Causes.{IsMoment}
use Rattle.outside.specs.Links.{Shown}
use Rattle.tape.specs.declared.event.Event.TheVariants as event
use Rattle.tape.specs.declared.answer.Answer.{Answer}
use Rattle.tape.specs.declared.answer.Answer.TheVariants as answer
use Rattle.tape.specs.declared.entry.Entry.{Entry}
use Rattle.session_model.specs.Life.{asked_token, setup}
use Rattle.conn_shared.specs.Calls.{IsCalled}
use Rattle.conn_shared.specs.Members.{Follows, Knowledge, SharedId}
use Rattle.session_table.specs.Table.{Held, noted, slot_of}
use Rattle.server.specs.Lost.{IsNoted}
use Rattle.server.specs.declared.opening.Wish.{Wish}
use Rattle.server.specs.declared.opening.Wish.TheVariants as wish

-- ---- callers of several connections

-- each caller is of the connection at its place, and these are the settings of all
abbrev pub AreOf : Settings → List SharedId → List Knowledge → Type 0
AreOf g [] [] = Unit {0}
AreOf g (id ∷ ids) (k ∷ ks) = (k.of ≡ id) × (id.settings ≡ g) × AreOf g ids ks
AreOf g _ _ = ⊥

-- each comes back, with all but its front and its note
abbrev pub AreBack : List Knowledge → List Knowledge → Type 0
AreBack [] [] = Unit {0}
AreBack (old ∷ olds) (new ∷ news) = (new ≡ record old { front = new.front; note = new.note }) × AreBack olds news
AreBack _ _ = ⊥

abbrev pub fronts : List Knowledge → List (List Entry)
fronts callers = map (λ (k : Knowledge). k.front) callers

-- the caller at that place has seen entries of others alone since
pub record FollowsAt (place : ℕ) (olds news : List Knowledge) : Type 0 where
  pub old : Knowledge
  pub new : Knowledge
  pub was : slice_get olds place ≡ Some old
  pub is : slice_get news place ≡ Some new
  pub follows : Follows old.names old.front new.front

-- all callers have
abbrev pub FollowAll : List Knowledge → List Knowledge → Type 0
FollowAll olds news = (place : ℕ) (old : Knowledge) → slice_get olds place ≡ Some old → FollowsAt place olds news

-- all but the one at that place have
abbrev pub FollowBeside : ℕ → List Knowledge → List Knowledge → Type 0
FollowBeside at olds news = (place : ℕ) (old : Knowledge) → place ≢ at → slice_get olds place ≡ Some old → FollowsAt place olds news

-- all but the one at that place have seen nothing
abbrev pub StayBeside : ℕ → List Knowledge → List Knowledge → Type 0
StayBeside at olds news = (place : ℕ) → place ≢ at → slice_get news place ≡ slice_get olds place

-- ---- the first frame

-- the first frame that was taken, where that is shown
abbrev pub IsFirst : ℕ → Shown → Frame → Type 0
IsFirst most link first = IfSome link.taken (λ bytes. IsWhole bytes most × Spells first (first_frame bytes))

abbrev pub resumes : Frame → Bool
resumes (frame.Resume r) = true
resumes _ = false

-- what a SETUP with this token, where it has one, asks for
abbrev pub begins_by : Option (List ℕ) → Wish
begins_by None = wish.Begin
begins_by (Some token) = wish.BeginAs token

-- what a first frame asks for
abbrev pub wish_of : Frame → Wish
wish_of (frame.Resume r) = wish.Resume r.token
wish_of (frame.Setup s) = begins_by s.resume
wish_of _ = wish.Begin

-- ---- a token

-- the slot found, where it is one of so many places
abbrev pub place_in : ℕ → Option ℕ → Option ℕ
place_in slots None = None
place_in slots (Some found) = if nat_lt found slots then Some found else None

-- the slot at which a RESUME is opened: the one found, or else that of its link
abbrev pub or_slot : ℕ → Option ℕ → ℕ
or_slot slot None = slot
or_slot slot (Some found) = found

-- the caller at that place has seen an accepted SETUP with this token
abbrev pub HasTokenAt : List Knowledge → ℕ → List ℕ → Type 0
HasTokenAt callers place token = (k : Knowledge) × (slice_get callers place ≡ Some k) × (asked_token (setup k.front) ≡ Some token)

-- the place found is another one, at which the caller has
abbrev pub IsHeldAt : ℕ → List ℕ → List Knowledge → Option ℕ → Type 0
IsHeldAt slot token callers None = ⊥
IsHeldAt slot token callers (Some place) = (place ≢ slot) × HasTokenAt callers place token

-- the caller of another place than this has seen an accepted SETUP with the token of this one
abbrev pub IsTakenBeside : ℕ → List Knowledge → Frame → Type 0
IsTakenBeside at callers (frame.Setup s) =
    (token : List ℕ) × (place : ℕ) × (s.resume ≡ Some token) × IsHeldAt at token callers (Some place)
IsTakenBeside at callers _ = ⊥

-- ---- an opening

-- a tick with a moment of the clock, so answered
pub record HasTicked (g : Settings) (moments : Option (List ℕ)) (me : Knowledge) (a : Answer) (new : List Entry) : Type 0 where
  pub now : ℕ
  pub moment : IsMoment moments now
  pub called : IsCalled g me (event.Tick now) a new

-- nothing more is asked of a session that answered so
abbrev pub is_last : Answer → Bool
is_last answer.TapeFull = true
is_last answer.OutOfMemory = true
is_last _ = false

abbrev pub is_dead : Answer → Bool
is_dead (answer.Dead last) = true
is_dead _ = false

-- After a tick that was answered so the opening by this first frame, so answered; a tick that met a full tape or found no memory is all there is.
abbrev pub OpensAfter : Settings → Knowledge → Answer → Frame → Bool → Answer → List Entry → Type 0
OpensAfter g me answer.TapeFull first taken a new = (a ≡ answer.TapeFull) × (new ≡ me.front)
OpensAfter g me answer.OutOfMemory first taken a new = (a ≡ answer.OutOfMemory) × (new ≡ me.front)
OpensAfter g me met first taken a new = IsCalled g me (event.Open (Some first) taken) a new

-- One tick with a moment of the clock, and then the opening by this first frame, so answered.
pub record TriesToOpen (g : Settings) (moments : Option (List ℕ)) (me : Knowledge) (first : Frame) (taken : Bool) (a : Answer) (new : List Entry) : Type 0 where
  pub met : Answer
  pub ticked : List Entry
  pub tick : HasTicked g moments me met ticked
  pub opening : OpensAfter g (record me { front = ticked; note = None }) met first taken a new

-- The same, where it is known whether the tick found the peer of the live connection dead.
pub record TriesSo (g : Settings) (moments : Option (List ℕ)) (me : Knowledge) (first : Frame) (taken : Bool) (a : Answer) (dead : Bool) (new : List Entry) : Type 0 where
  pub tries : TriesToOpen g moments me first taken a new
  pub dies : dead ≡ is_dead tries.met

-- The caller at that place does so, and the others have seen nothing.
pub record TriesAt (g : Settings) (moments : Option (List ℕ)) (at : ℕ) (olds news : List Knowledge) (first : Frame) (taken : Bool) (a : Answer) (dead : Bool) : Type 0 where
  pub old : Knowledge
  pub new : Knowledge
  pub was : slice_get olds at ≡ Some old
  pub is : slice_get news at ≡ Some new
  pub others : StayBeside at olds news
  pub so : TriesSo g moments old first taken a dead new.front

-- The caller at that place tries to open: at this slot, but for a RESUME; and where the token is said to be taken, another slot's session has it.
-- The others have seen entries of others alone.
pub record OpensAt (g : Settings) (moments : Option (List ℕ)) (slot at : ℕ) (olds news : List Knowledge) (first : Frame) (a : Answer) : Type 0 where
  pub old : Knowledge
  pub new : Knowledge
  pub was : slice_get olds at ≡ Some old
  pub is : slice_get news at ≡ Some new
  pub place : resumes first ≡ false → at ≡ slot
  pub taken : Bool
  pub beside : taken ≡ true → IsTakenBeside at news first
  pub others : FollowBeside at olds news
  pub tries : TriesToOpen g moments old first taken a new.front

-- A SETUP with this token opens at the slot. Its token is said to be taken exactly where the place found is another one, whose session has it.
pub record BeginsAt (g : Settings) (moments : Option (List ℕ)) (slot : ℕ) (found : Option ℕ) (token : List ℕ) (olds news : List Knowledge) (first : Frame) (a : Answer) : Type 0 where
  pub opens : OpensAt g moments slot slot olds news first a
  pub exact : (opens.taken ≡ true) ↔ IsHeldAt slot token news found

-- ---- the table

abbrev pub is_opened : Answer → Bool
is_opened (answer.Opened c) = true
is_opened _ = false

-- the table has one more session, of a token that none had, or it is as before, where memory ran out
abbrev pub HasAdded : List ℕ → ℕ → List Held → List Held → Type 0
HasAdded token slot old new = (new ≡ old) ⊎ ((slot_of token old ≡ None) × (new ≡ old ++ record { token = token; slot = slot; parted = None } ∷ []))

-- where the opening was accepted
abbrev pub AddsIf : Bool → List ℕ → ℕ → List Held → List Held → Type 0
AddsIf true token slot old new = HasAdded token slot old new
AddsIf false token slot old new = new ≡ old

-- A RESUME that was accepted, or not after its tick found the peer dead or not: the session has a connection again, or it has none, or nothing changed.
abbrev pub NotesAs : Option (List ℕ) → ℕ → Bool → Bool → List Held → List Held → Type 0
NotesAs moments slot true dead old new = new ≡ noted slot None old
NotesAs moments slot false true old new = IsNoted moments slot old new
NotesAs moments slot false false old new = new ≡ old
