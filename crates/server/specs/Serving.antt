-- What serving one link came to. Entries stand newest first.
use Rattle.std.specs.Prelude.{◌≡◌, ◌≢◌, ◌<◌, ◌≤◌, ◌+◌, ◌^◌, ◌++◌, ◌⊎◌, ℕ, Bool, true, false, List, length, slice_get, Option, Some, None, IfSome}
use Rattle.rs_wire.specs.declared.settings.Settings.{Settings}
use Rattle.rs_frame.specs.declared.frame.Frame.{Frame}
use Rattle.rs_frame.specs.Framed.{framed_frame}
use Rattle.outside.specs.Causes.{IsMoment}
use Rattle.outside.specs.Links.{Shown}
use Rattle.tape.specs.declared.answer.Answer.{Answer}
use Rattle.tape.specs.declared.answer.Answer.TheVariants as answer
use Rattle.tape.specs.declared.entry.Entry.{Entry}
use Rattle.session_model.specs.Life.{closed, resumption_agreed}
use Rattle.session_model.specs.Lists.{IsPrefix}
use Rattle.conn_shared.specs.Members.{Knowledge}
use Rattle.link_model.specs.Carrying.{Carried, IsAlone}
use Rattle.link_model.specs.Leaving.{IsBroken, Left}
use Rattle.link_model.specs.Reading.{BeginsBad}
use Rattle.link_laws.specs.Staying.{IsHeld}
use Rattle.link_laws.specs.Unopened.{Unopened, bad_first, turned_away_by}
use Rattle.pump.specs.declared.turned.Turned.{Turned}
use Rattle.pump.specs.declared.turned.Turned.TheVariants as turned
use Rattle.pump.specs.Turns.{Names, Ticks, WasNoted}
use Rattle.handlers.specs.Listed.{Listed}
use Rattle.workers.specs.declared.job.OpenJob.{OpenJob}
use Rattle.workers.specs.Serving.{Serving}
use Rattle.server.specs.Attending.{AreFewTicks, Attends}
use Rattle.server.specs.Opening.{AreBack, IsFirst, OpensAt, StayBeside, fronts, resumes}
use Rattle.server.specs.Refusing.{GivesAll, told_as}
use Rattle.server.specs.declared.first.First.{First}
use Rattle.server.specs.declared.first.First.TheVariants as firsts
use Rattle.server.specs.declared.opening.Wish.{Wish}
use Rattle.server.specs.declared.opening.Wish.TheVariants as wish
use Rattle.server.specs.declared.served.Served.{Served}
use Rattle.server.specs.declared.served.Served.TheVariants as served

-- the answer to a call of `serve_connection`: how the link was served, and the slot and the number of the opening that was accepted
abbrev pub Outcome : Type 0
Outcome = Served × Option (ℕ × ℕ)

-- what holds of the caller at that place
abbrev pub At : List Knowledge → ℕ → (Knowledge → Type 0) → Type 0
At callers place P = IfSome (slice_get callers place) P

-- what a pump came to says how the link was served, whose session may be resumed or not
abbrev pub served_by : Turned → Bool → Served
served_by (turned.Over cause) resumes = served.Over cause
served_by (turned.Displaced n) resumes = served.Displaced n
served_by (turned.Dead last) resumes = served.Dead last
served_by turned.End true = served.Parted
served_by turned.LinkFault true = served.Parted
served_by turned.End false = served.End
served_by turned.LinkFault false = served.LinkFault
served_by turned.TapeFull resumes = served.TapeFull
served_by _ resumes = served.OutOfMemory

-- ---- what was added

-- An opening by the first frame was not accepted. The link was given a prefix of the ERROR that it is turned away with, where it is.
pub record NoneOpened (g : Settings) (moments : Option (List ℕ)) (slot : ℕ) (olds news : List Knowledge) (link : Shown) : Type 0 where
  pub at : ℕ
  pub first : Frame
  pub is_first : IsFirst g.max_in link first
  pub met : Answer
  pub opens : OpensAt g moments slot at olds news first met
  pub refused : (c : ℕ) → met ≢ answer.Opened c
  pub given : (error : Frame) → turned_away_by first met ≡ Some error → IfSome link.given (λ bytes. IsPrefix bytes (framed_frame error))

-- Connection c was opened by the caller at that place, which attended it.
pub record Opened (g : Settings) (moments : Option (List ℕ)) (helps : Bool) (grant : Option ℕ) (slot at c : ℕ) (olds news : List Knowledge) (link : Shown) (s : Served) : Type 0 where
  pub first : Frame
  pub is_first : IsFirst g.max_in link first
  -- the callers as the opening left them
  pub mid : List Knowledge
  pub opens : OpensAt g moments slot at olds mid first (answer.Opened c)
  pub same : AreBack olds mid
  pub old : Knowledge
  pub new : Knowledge
  pub was : slice_get mid at ≡ Some old
  pub is : slice_get news at ≡ Some new
  pub others : StayBeside at mid news
  pub lease : Answer
  pub attends : Attends g moments helps grant c old lease new.front
  -- a lease that found no memory makes the whole find none
  pub memory : lease ≡ answer.OutOfMemory → s ≡ served.OutOfMemory
  pub ticks : IsAlone c new.number new.front → (more : List Entry) → new.front ≡ more ++ old.front → AreFewTicks new.names more link

abbrev pub Adds : Settings → Option (List ℕ) → Bool → Option ℕ → ℕ → List Knowledge → List Knowledge → Shown → Outcome → Type 0
Adds g moments helps grant slot olds news link (s, Some (at, c)) = Opened g moments helps grant slot at c olds news link s
Adds g moments helps grant slot olds news link (s, None) = (news ≡ olds) ⊎ NoneOpened g moments slot olds news link

-- ---- the link

-- Where a connection was opened: its link is carried if its caller alone moved bytes of it.
abbrev pub IsCarried : Settings → List Knowledge → Shown → Outcome → Type 0
IsCarried g callers link (s, None) = Unit {0}
IsCarried g callers link (s, Some (at, c)) = At callers at (λ me. IsAlone c me.number me.front → Carried g me.front link c)

-- And it may be left if that caller alone also cuts it and closes the session.
abbrev pub IsLeft : Settings → List Knowledge → Shown → Outcome → Type 0
IsLeft g callers link (served.OutOfMemory, opened) = Unit {0}
IsLeft g callers link (s, None) = Unit {0}
IsLeft g callers link (s, Some (at, c)) = At callers at (λ me. IsHeld c me.number me.front → Left g me.front link c)

-- Where none was opened, there is a reason.
abbrev pub IsUnopened : Settings → Option (List ℕ) → List Knowledge → Shown → Outcome → Type 0
IsUnopened g moments callers link (served.OutOfMemory, opened) = Unit {0}
IsUnopened g moments callers link (s, None) = Unopened g moments (fronts callers) link
IsUnopened g moments callers link (s, Some opened) = Unit {0}

-- ---- causes

-- the opening by the first frame was so refused, or met a closed session and is told so, and the link was given that ERROR, or a prefix of it where a
-- call failed
pub record IsRefusedBy (g : Settings) (moments : Option (List ℕ)) (slot : ℕ) (olds news : List Knowledge) (link : Shown) (said : Answer) : Type 0 where
  pub at : ℕ
  pub first : Frame
  pub is_first : IsFirst g.max_in link first
  pub met : Answer
  pub opens : OpensAt g moments slot at olds news first met
  pub error : Frame
  pub earned : turned_away_by first met ≡ Some error
  pub told : said ≡ told_as (resumes first) met
  pub given : IfSome link.given (λ bytes. IsPrefix bytes (framed_frame error))
  pub whole : link.counts.faults ≡ 0 → IfSome link.given (λ bytes. bytes ≡ framed_frame error)

-- between what the caller at that place had seen and what it has seen now
abbrev pub Between : List Knowledge → List Knowledge → ℕ → (Knowledge → Knowledge → Type 0) → Type 0
Between olds news at P = At olds at (λ old. At news at (λ new. P old new))

-- what the caller has seen takes no more entries
abbrev pub IsFull : Knowledge → Type 0
IsFull me = 2 ^ 63 ≤ length me.front

-- the opening by the first frame met a full tape, or the tick before it did
pub record MetFull (g : Settings) (moments : Option (List ℕ)) (slot : ℕ) (olds news : List Knowledge) (link : Shown) : Type 0 where
  pub at : ℕ
  pub first : Frame
  pub is_first : IsFirst g.max_in link first
  pub opens : OpensAt g moments slot at olds news first answer.TapeFull
  pub full : IsFull opens.new

-- the session of the caller at that place agreed to resumption, or did not
abbrev pub Agrees : Settings → Bool → List Knowledge → ℕ → Type 0
Agrees g agreed callers at = At callers at (λ me. resumption_agreed g me.front ≡ agreed)

-- why a link was served so
abbrev pub ServedFor : Settings → Option (List ℕ) → ℕ → List Knowledge → List Knowledge → Shown → Outcome → Type 0
ServedFor g moments slot olds news link (served.Over cause, Some (at, c)) = At news at (λ new. closed g new.front ≡ Some cause)
ServedFor g moments slot olds news link (served.Displaced n, Some (at, c)) = Between olds news at (λ old new. WasNoted (Names c) g old new.front (answer.Stale n))
ServedFor g moments slot olds news link (served.Dead last, Some (at, c)) = Between olds news at (λ old new. WasNoted (Ticks moments) g old new.front (answer.Dead last))
ServedFor g moments slot olds news link (served.Parted, Some (at, c)) = IsBroken link × Agrees g true news at
ServedFor g moments slot olds news link (served.End, None) = 0 < link.counts.ends
ServedFor g moments slot olds news link (served.End, Some (at, c)) = (0 < link.counts.ends) × Agrees g false news at
ServedFor g moments slot olds news link (served.LinkFault, None) = 0 < link.counts.faults
ServedFor g moments slot olds news link (served.LinkFault, Some (at, c)) = (0 < link.counts.faults) × Agrees g false news at
ServedFor g moments slot olds news link (served.SetupRefused fault, None) = IsRefusedBy g moments slot olds news link (answer.SetupRefused fault)
ServedFor g moments slot olds news link (served.ResumeRefused gone, None) = IsRefusedBy g moments slot olds news link (answer.ResumeRefused gone)
ServedFor g moments slot olds news link (served.BadFirst number, None) = IfSome link.taken (λ bytes. BeginsBad number g.max_in bytes)
ServedFor g moments slot olds news link (served.NoFirst now, None) = (0 < link.counts.lulls) × ((start : ℕ) × IsMoment moments start × IsMoment moments now × (start + g.lifetime_ms ≤ now))
ServedFor g moments slot olds news link (served.TapeFull, None) = MetFull g moments slot olds news link
ServedFor g moments slot olds news link (served.TapeFull, Some (at, c)) = At news at IsFull
ServedFor g moments slot olds news link (served.OutOfMemory, opened) = Unit {0}
ServedFor g moments slot olds news link _ = ⊥

-- ---- a worker's statement

-- the statement that a worker keeps was kept of the caller at which the connection was opened, if it held of each caller before
abbrev pub KeepsServing : List Listed → List Knowledge → List Knowledge → Option (List OpenJob) → Option (List OpenJob) → Outcome → Type 0
KeepsServing routes olds news (Some was) (Some now) (s, Some (at, c)) =
    Between olds news at (λ old new. Serving old.names old.front routes was → Serving new.names new.front routes now)
KeepsServing routes olds news was now outcome = now ≡ was

-- ---- between the functions

-- how a link is served that begins with no whole frame
abbrev pub unbegun_by : First → Served
unbegun_by (firsts.Bad rule) = served.BadFirst rule
unbegun_by (firsts.NoFirst now) = served.NoFirst now
unbegun_by firsts.End = served.End
unbegun_by firsts.LinkFault = served.LinkFault
unbegun_by _ = served.OutOfMemory

-- it is given the ERROR for bytes that are no frame, and else nothing happens to it
abbrev pub LeavesUnbegun : First → Shown → Shown → Served → Type 0
LeavesUnbegun (firsts.Bad rule) old new s = (new.taken ≡ old.taken) × (s ≢ served.OutOfMemory → GivesAll old new (framed_frame (bad_first rule)))
LeavesUnbegun _ old new s = new ≡ old

-- the session that is asked for may be resumed
abbrev pub may_resume : Wish → Bool
may_resume wish.Begin = false
may_resume _ = true

abbrev pub is_resume : Wish → Bool
is_resume (wish.Resume token) = true
is_resume _ = false

-- All that is said of one link.
pub record ServedSo (g : Settings) (moments : Option (List ℕ)) (helps : Bool) (grant : Option ℕ) (slot : ℕ) (routes : List Listed) (olds news : List Knowledge) (was now : Option (List OpenJob)) (link : Shown) (outcome : Outcome) : Type 0 where
  pub same : AreBack olds news
  pub added : Adds g moments helps grant slot olds news link outcome
  pub carried : IsCarried g news link outcome
  pub left : IsLeft g news link outcome
  pub unopened : IsUnopened g moments news link outcome
  pub cause : ServedFor g moments slot olds news link outcome
  pub work : KeepsServing routes olds news was now outcome
