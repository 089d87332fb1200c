-- A connection that one of several callers opened and attended. Entries stand newest first.
use Rattle.std.specs.Prelude.{◌≡◌, ◌≢◌, ℕ, Bool, List, [], ◌∷◌, ◌++◌, slice_get, Option, Some, IfSome}
use Rattle.rs_wire.specs.declared.settings.Settings.{Settings}
use Rattle.rs_frame.specs.declared.frame.Frame.{Frame}
use Rattle.rs_frame.specs.Framed.{framed}
use Rattle.rs_frame.specs.Spelling.{IsSpellable, Spells}
use Rattle.rs_chunk.specs.Stream.{IsWhole, first_frame}
use Rattle.outside.specs.Links.{Shown}
use Rattle.tape.specs.Told.{entry_of}
use Rattle.tape.specs.declared.event.Event.TheVariants as event
use Rattle.tape.specs.declared.answer.Answer.TheVariants as answer
use Rattle.tape.specs.declared.entry.Entry.{Entry}
use Rattle.session_model.specs.Legal.{Legal}
use Rattle.conn_shared.specs.Members.{Knowledge}
use Rattle.link_model.specs.Carrying.{Carried, IsAlone}
use Rattle.link_model.specs.Leaving.{Left}
use Rattle.link_laws.specs.Opened.{IsJustOpened}
use Rattle.link_laws.specs.Staying.{IsHeld}
use Rattle.pump.specs.declared.turned.Turned.{Turned}
use Rattle.pump.specs.declared.turned.Turned.TheVariants as turned
use Rattle.handlers.specs.Listed.{Listed}
use Rattle.workers.specs.declared.job.OpenJob.{OpenJob}
use Rattle.server.specs.Attending.{AreFewTicks, KeepsWork}
use Rattle.server.specs.Opening.{StayBeside}
use Rattle.server.specs.Running.{AttendsSo, EndedFor}

-- ---- before

-- The bytes taken begin with this frame, and nothing was given.
pub record IsFirstOf (first : Frame) (bytes : List ℕ) (most : ℕ) (link : Shown) : Type 0 where
  pub whole : IsWhole bytes most
  pub spelled : Spells first (first_frame bytes)
  pub spellable : IsSpellable first
  pub taken : IfSome link.taken (λ taken. taken ≡ bytes)
  pub ungiven : IfSome link.given (λ given. given ≡ [])

-- The newest entry of this caller opened connection c by this first frame.
pub record HasOpened (c : ℕ) (first : Frame) (me : Knowledge) : Type 0 where
  pub taken : Bool
  pub before : List Entry
  pub newest : me.front ≡ entry_of me.number (event.Open (Some first) taken) (answer.Opened c) ∷ before

-- Nothing was given to the link, and what was taken of it is this frame, after its length, and then the rest.
pub record BeginsBy (most : ℕ) (first : Frame) (link : Shown) (rest : List ℕ) : Type 0 where
  pub read : List ℕ
  pub begins : IsFirstOf first read most link
  pub cut : read ≡ framed (first_frame read) ++ rest

-- The caller at that place opened connection c by the first frame of the link, of which these bytes are left.
pub record OpenedAt (most : ℕ) (at c : ℕ) (callers : List Knowledge) (link : Shown) (rest : List ℕ) : Type 0 where
  pub me : Knowledge
  pub is : slice_get callers at ≡ Some me
  pub first : Frame
  pub opened : HasOpened c first me
  pub begins : BeginsBy most first link rest

-- ---- after

-- A caller attended connection c on a link, and what its pump came to.
pub record ServesOne (g : Settings) (moments : Option (List ℕ)) (helps : Bool) (grant : Option ℕ) (routes : List Listed) (was now : Option (List OpenJob)) (c : ℕ) (old new : Knowledge) (link : Shown) (r : Turned) : Type 0 where
  pub legal : Legal g new.front
  pub attends : AttendsSo g moments helps grant c old new.front r
  pub carried : IsAlone c new.number new.front → Carried g new.front link c
  pub left : (first : Frame) → IsJustOpened g old.front c first → IsHeld c new.number new.front → r ≢ turned.OutOfMemory → Left g new.front link c
  pub cause : EndedFor g moments c old new.front link r
  pub work : KeepsWork old.names routes old.front new.front was now
  pub ticks : IsAlone c new.number new.front → (more : List Entry) → new.front ≡ more ++ old.front → AreFewTicks new.names more link

-- The caller at that place did, and the others have seen nothing.
pub record ServesAt (g : Settings) (moments : Option (List ℕ)) (helps : Bool) (grant : Option ℕ) (routes : List Listed) (was now : Option (List OpenJob)) (at c : ℕ) (olds news : List Knowledge) (link : Shown) (r : Turned) : Type 0 where
  pub old : Knowledge
  pub new : Knowledge
  pub there : slice_get olds at ≡ Some old
  pub is : slice_get news at ≡ Some new
  pub others : StayBeside at olds news
  pub same : new ≡ record old { front = new.front; note = new.note }
  pub serves : ServesOne g moments helps grant routes was now c old new link r
