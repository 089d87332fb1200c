-- What a turn of a pump adds to what its caller has seen, what it keeps, and what its result says. Entries stand newest first.
use Rattle.std.specs.Prelude.{◌≡◌, ◌<◌, ◌≤◌, ◌^◌, ◌+◌, ◌-◌, ◌⊎◌, ◌&&◌, ◌==◌, ℕ, Bool, true, false, List, [], ◌∷◌, ◌++◌, drop, length, not, Option, Some, None, is_some}
use Rattle.std.specs.List.{AllByRecursion}
use Rattle.rs_wire.specs.declared.fault.Cause.{Cause}
use Rattle.rs_wire.specs.declared.settings.Settings.{Settings}
use Rattle.outside.specs.Causes.{IsMoment, Rose}
use Rattle.outside.specs.Links.{Shown}
use Rattle.tape.specs.declared.event.Event.{Event}
use Rattle.tape.specs.declared.event.Event.TheVariants as event
use Rattle.tape.specs.declared.answer.Answer.{Answer}
use Rattle.tape.specs.declared.answer.Answer.TheVariants as answer
use Rattle.tape.specs.declared.entry.Entry.{Entry}
use Rattle.session_model.specs.Answers.{answer_to}
use Rattle.session_model.specs.Frames.{queued}
use Rattle.session_model.specs.Life.{closed, live}
use Rattle.conn_lock.specs.Callers.{times}
use Rattle.conn_shared.specs.Calls.{IsCalled, IsDrawCall}
use Rattle.conn_shared.specs.Members.{Continues, Follows, Knowledge}
use Rattle.link_model.specs.Carrying.{Between, IsAlone, Keeps, is_of}
use Rattle.link_model.specs.Giving.{count_drawn, next_drawn}
use Rattle.link_model.specs.Reading.{IsInFront, IsPart, IsWaiting}
use Rattle.pump.specs.declared.inner.Inner.{Inner}
use Rattle.pump.specs.declared.bringing.Brought.{Brought}
use Rattle.pump.specs.declared.bringing.Brought.TheVariants as brings
use Rattle.pump.specs.declared.numbers.TheConstants.{PIECE}
use Rattle.pump.specs.declared.turned.Turned.{Turned}
use Rattle.pump.specs.declared.turned.Turned.TheVariants as turned
use Rattle.pump.specs.Moves.{HasGrown, IsGrown, all_of}

-- ---- what is kept

-- the caller's number is one of its names, and no other caller moves bytes of connection c
pub record MovesAlone (me : Knowledge) (c : ℕ) : Type 0 where
  pub named : 0 < times me.number me.names
  pub alone : IsAlone c me.number me.front

-- what is kept between a link and a connection, by what the caller has seen
abbrev pub IsKept : Knowledge → Shown → Between → Type 0
IsKept me link b = MovesAlone me b.conn → Keeps me.of.settings me.front link b

-- what stands between the two in a pump
abbrev pub has : Inner → Between
has p = record { conn = p.conn; left = p.outgoing; rest = all_of p.incoming; max_in = p.incoming.max_in; bad = p.bad }

-- what is kept goes on where an entry of this event is added and the pump becomes another one
abbrev pub Steps : Inner → Inner → Event → Type 0
Steps p q e = (g : Settings) (past : List Entry) (who : ℕ) (a : Answer) (link : Shown) → p.incoming.max_in ≡ g.max_in
    → Keeps g past link (has p) → Keeps g (record { who = who; event = e; answer = a } ∷ past) link (has q)

-- ---- what is added

-- the front went on; what carries one of this caller's names carries its number, and is such an event
pub record GoesOn (P : Event → Type 0) (me : Knowledge) (new : List Entry) : Type 0 where
  pub more : List Entry
  pub on : new ≡ more ++ me.front
  pub own : AllByRecursion (λ x. 0 < times x.who me.names → (x.who ≡ me.number) × P x.event) more

-- a draw, or what came, on connection c
abbrev pub Names : ℕ → Event → Type 0
Names c e = is_of c e ≡ true

-- another event
abbrev pub Spares : ℕ → Event → Type 0
Spares c e = is_of c e ≡ false

-- what came on connection c, a frame or bytes that are none
abbrev pub Arrives : ℕ → Event → Type 0
Arrives c (event.Came conn f) = conn ≡ c
Arrives c (event.Bad conn rule) = conn ≡ c
Arrives c _ = ⊥

-- a tick with such a moment
abbrev pub Ticks : Option (List ℕ) → Event → Type 0
Ticks moments (event.Tick now) = IsMoment moments now
Ticks moments _ = ⊥

-- bytes came that are no frame
abbrev pub is_bad : Event → Bool
is_bad (event.Bad conn rule) = true
is_bad _ = false

-- a tick with such a moment, or an event that names connection c
abbrev pub IsPumped : Option (List ℕ) → ℕ → Event → Type 0
IsPumped moments c e = Ticks moments e ⊎ Names c e

-- Such an event of this caller was so answered since its front was `me.front`: its entry stands in the front `new`.
pub record WasNoted (P : Event → Type 0) (g : Settings) (me : Knowledge) (new : List Entry) (a : Answer) : Type 0 where
  pub entry : Entry
  pub before : List Entry
  pub is : P entry.event
  pub answered : entry.answer ≡ a
  pub own : entry.who ≡ me.number
  -- it is the right answer after the entries before it
  pub right : a ≡ answer_to g before entry.event
  pub since : Continues me.front before
  pub until : Continues (entry ∷ before) new

-- something came on connection c: an entry of this caller says so
pub record HasArrived (c : ℕ) (me : Knowledge) (new : List Entry) : Type 0 where
  pub entry : Entry
  pub before : List Entry
  pub arrives : Arrives c entry.event
  pub own : entry.who ≡ me.number
  pub since : Continues me.front before
  pub until : Continues (entry ∷ before) new

-- ---- what one event came to

abbrev pub brought_by : Answer → Brought
brought_by answer.NotYet = brings.Nothing
brought_by (answer.OutBusy q) = brings.Busy q
brought_by (answer.Stale c) = brings.Displaced c
brought_by (answer.Dead last) = brings.Dead last
brought_by answer.TapeFull = brings.TapeFull
brought_by answer.OutOfMemory = brings.OutOfMemory
brought_by _ = brings.Noted

-- an entry was left
abbrev pub leaves_by : Brought → Bool
leaves_by brings.Noted = true
leaves_by (brings.Displaced n) = true
leaves_by (brings.Dead last) = true
leaves_by _ = false

-- it ends a turn at once
abbrev pub is_ended : Brought → Bool
is_ended (brings.Displaced n) = true
is_ended (brings.Dead last) = true
is_ended brings.TapeFull = true
is_ended brings.OutOfMemory = true
is_ended _ = false

-- an event was brought, and its answer came to this
pub record HasBrought (g : Settings) (me : Knowledge) (e : Event) (b : Brought) (new : List Entry) : Type 0 where
  pub answer : Answer
  pub is : b ≡ brought_by answer
  pub called : IsCalled g me e answer new

-- a tick was brought, with a moment of the clock
pub record HasTicked (g : Settings) (moments : Option (List ℕ)) (me : Knowledge) (b : Brought) (new : List Entry) : Type 0 where
  pub now : ℕ
  pub moment : IsMoment moments now
  pub brought : HasBrought g me (event.Tick now) b new

-- the last of several, of which some were noted
abbrev pub after_some : Bool → Brought → Brought
after_some true brings.Nothing = brings.Noted
after_some _ last = last

-- what stands in front finds no room in the queue after these entries
pub record IsBusy (g : Settings) (past : List Entry) (b : Between) (q : ℕ) : Type 0 where
  pub event : Event
  pub front : IsInFront b.conn b.rest b.max_in event
  pub answered : answer.OutBusy q ≡ answer_to g past event

-- why bringing such events of this caller came to this
abbrev pub BroughtFor : (Event → Type 0) → Settings → Knowledge → List Entry → Brought → Type 0
BroughtFor P g me new (brings.Displaced n) = WasNoted P g me new (answer.Stale n)
BroughtFor P g me new (brings.Dead last) = WasNoted P g me new (answer.Dead last)
BroughtFor P g me new brings.TapeFull = 2 ^ 63 ≤ length new
BroughtFor P g me new _ = Unit {0}

-- where it came to Busy, what stands in front is the reason
abbrev pub IfBusy : Settings → List Entry → Between → Brought → Type 0
IfBusy g past b (brings.Busy q) = IsBusy g past b q
IfBusy g past b _ = Unit {0}

-- nothing stands in front that can come, or what comes is dropped
abbrev pub IsEmptied : Between → Type 0
IsEmptied b = (b.bad ≡ true) ⊎ IsPart b.rest b.max_in

-- all that stood in front was brought
abbrev pub is_done : Brought → Bool
is_done brings.Nothing = true
is_done brings.Noted = true
is_done _ = false

abbrev pub IfDone : Brought → Type 0 → Type 0
IfDone brings.Nothing P = P
IfDone brings.Noted P = P
IfDone _ P = Unit {0}

-- a frame waits that can come, or a length above the limit
abbrev pub HasWaiting : Between → Type 0
HasWaiting b = (b.bad ≡ false) × IsWaiting b.rest b.max_in

-- What stood in front was brought, and it came to this: no byte is lost, nothing but what came is added, and each end has its cause.
pub record Hears (g : Settings) (was now : Knowledge) (old b : Between) (heard : Brought) : Type 0 where
  pub kept : (s : Shown) → IsKept was s old → IsKept now s b
  pub goes : GoesOn (Arrives old.conn) was now.front
  pub cause : BroughtFor (Names old.conn) g was now.front heard
  pub busy : IfBusy g now.front b heard
  pub arrived : heard ≡ brings.Noted → HasArrived old.conn was now.front

-- ---- a tick and a draw

abbrev pub is_empty : List ℕ → Bool
is_empty [] = true
is_empty (b ∷ bytes) = false

-- the answer to a tick after which a turn goes on
abbrev pub goes_on_after : Answer → Bool
goes_on_after a = not (is_ended (brought_by a))

-- a draw of at most this many bytes, and the bytes that are left after it to be given
pub record HasDrawn (g : Settings) (me : Knowledge) (c room : ℕ) (a : Answer) (left : List ℕ) (new : List Entry) : Type 0 where
  pub called : IsCalled g me (event.Draw c room) a new
  pub bytes : left ≡ next_drawn g called.before c a
  pub count : length left ≡ count_drawn a
  pub within : length left ≤ room

-- a draw into the first bytes of a buffer, this many
pub record HasDrawnInto (g : Settings) (me : Knowledge) (c room : ℕ) (a : Answer) (old new : List ℕ) (front : List Entry) : Type 0 where
  pub piece : List ℕ
  pub all : new ≡ piece ++ drop room old
  pub few : length piece ≡ room
  pub call : IsDrawCall g me c room a piece front

-- a draw whose answer came to this
abbrev pub HasDrawnSo : Settings → Knowledge → ℕ → ℕ → Brought → List ℕ → List Entry → Type 0
HasDrawnSo g me c room b left new = (a : Answer) × (b ≡ brought_by a) × HasDrawn g me c room a left new

-- a draw with this answer, where one is due; else all is as it was
abbrev pub DrawsWhere : Bool → Settings → Knowledge → ℕ → ℕ → Option Answer → List ℕ → List ℕ → List Entry → Type 0
DrawsWhere true g me c room (Some a) old left new = HasDrawn g me c room a left new
DrawsWhere false g me c room None old left new = (left ≡ old) × (new ≡ me.front)
DrawsWhere _ g me c room _ old left new = ⊥

-- what it comes to
abbrev pub drawn_by : Option Answer → Brought
drawn_by None = brings.Nothing
drawn_by (Some a) = brought_by a

-- one draw of at most this many bytes, where it is due, came to this
pub record DrawsSo (due : Bool) (g : Settings) (me : Knowledge) (c room : ℕ) (old left : List ℕ) (new : List Entry) (b : Brought) : Type 0 where
  pub drew : Option Answer
  pub draw : DrawsWhere due g me c room drew old left new
  pub came_to : b ≡ drawn_by drew

-- The same draw of a pump: no byte is lost, and each end has its cause.
pub record Draws (due : Bool) (g : Settings) (was now : Knowledge) (old b : Between) (room : ℕ) (drawn : Brought) : Type 0 where
  pub kept : (s : Shown) → IsKept was s old → IsKept now s b
  pub drew : DrawsSo due g was old.conn room old.left b.left now.front drawn
  pub cause : BroughtFor (Names old.conn) g was now.front drawn

-- the answers to the tick, and to the draw where one was due, let the turn go on
abbrev pub goes_on_from : Answer → Option Answer → Bool
goes_on_from ticked None = goes_on_after ticked
goes_on_from ticked (Some drew) = goes_on_after ticked && goes_on_after drew

-- How a turn begins: a tick with a moment of the clock, and then, where that lets it go on and no drawn byte is left, a draw.
pub record Begins (g : Settings) (moments : Option (List ℕ)) (me : Knowledge) (c : ℕ) (old left : List ℕ) (new : List Entry) : Type 0 where
  pub now : ℕ
  pub moment : IsMoment moments now
  pub answer : Answer
  pub ticked : List Entry
  pub tick : IsCalled g me (event.Tick now) answer ticked
  pub drew : Option Answer
  pub draw : DrawsWhere (goes_on_after answer && is_empty old) g (record me { front = ticked; note = None }) c PIECE drew old left new

-- it began so, and came to this
pub record BeginsSo (g : Settings) (moments : Option (List ℕ)) (me : Knowledge) (c : ℕ) (old left : List ℕ) (new : List Entry) (b : Brought) : Type 0 where
  pub begins : Begins g moments me c old left new
  pub came_to : goes_on_from begins.answer begins.drew ≡ not (is_ended b)

-- A whole turn: it begins so, and then adds what came, and no more ticks or draws; nothing comes where the tick or the draw ends it.
pub record IsTurn (g : Settings) (moments : Option (List ℕ)) (me : Knowledge) (c : ℕ) (old left : List ℕ) (new : List Entry) : Type 0 where
  pub begun : List Entry
  pub begins : Begins g moments me c old left begun
  pub arrivals : GoesOn (Arrives c) (record me { front = begun; note = None }) new
  pub ended : goes_on_from begins.answer begins.drew ≡ false → new ≡ begun

-- ---- what a turn came to

-- what ends a turn at once
abbrev pub ended_by : Brought → Option Turned
ended_by (brings.Displaced n) = Some (turned.Displaced n)
ended_by (brings.Dead last) = Some (turned.Dead last)
ended_by brings.TapeFull = Some turned.TapeFull
ended_by brings.OutOfMemory = Some turned.OutOfMemory
ended_by _ = None

-- after it the pump is not used again
abbrev pub is_last : Turned → Bool
is_last (turned.Moved given taken) = false
is_last (turned.Busy q) = false
is_last turned.Lull = false
is_last _ = true

-- it comes before all that stands in front was brought
abbrev pub is_early : Turned → Bool
is_early (turned.Displaced n) = true
is_early (turned.Dead last) = true
is_early turned.TapeFull = true
is_early turned.OutOfMemory = true
is_early _ = false

-- the session is closed, nothing is queued, and no drawn byte is left
abbrev pub is_over : Option Cause → ℕ → ℕ → Bool
is_over None queued left = false
is_over (Some cause) queued left = (queued == 0) && (left == 0)

-- what stands in front found no room in the queue in this turn; only others' entries follow
pub record WasBusy (g : Settings) (me : Knowledge) (b : Between) (new : List Entry) (q : ℕ) : Type 0 where
  pub before : List Entry
  pub since : Continues me.front before
  pub follows : Follows me.names before new
  pub busy : IsBusy g before b q

-- Why a turn came out so: the front of its caller `me` is now `new`, the link showed `s` and shows `t`, and `b` stands between the two.
abbrev pub TurnedFor : Settings → Option (List ℕ) → Knowledge → List Entry → Shown → Shown → Between → Turned → Type 0
TurnedFor g moments me new s t b (turned.Moved given taken) =
    IsGrown given s.given t.given × IsGrown taken s.taken t.taken × ((0 < given) ⊎ (0 < taken) ⊎ HasArrived b.conn me new)
    × (given ≤ PIECE) × (taken ≤ PIECE)
TurnedFor g moments me new s t b (turned.Busy q) = WasBusy g me b new q
TurnedFor g moments me new s t b (turned.Over cause) = (closed g new ≡ Some cause) × (queued g new ≡ 0) × (b.left ≡ [])
TurnedFor g moments me new s t b (turned.Displaced n) = WasNoted (Names b.conn) g me new (answer.Stale n)
TurnedFor g moments me new s t b turned.Lull = Rose s.counts.lulls t.counts.lulls × (t.given ≡ s.given) × (t.taken ≡ s.taken)
TurnedFor g moments me new s t b turned.End = Rose s.counts.ends t.counts.ends
TurnedFor g moments me new s t b turned.LinkFault = Rose s.counts.faults t.counts.faults
TurnedFor g moments me new s t b (turned.Dead last) = WasNoted (Ticks moments) g me new (answer.Dead last)
TurnedFor g moments me new s t b turned.TapeFull = 2 ^ 63 ≤ length new
TurnedFor g moments me new s t b turned.OutOfMemory = Unit {0}

-- all that stands in front was brought, or it found no room
abbrev pub IsReadOut : Settings → Knowledge → Between → List Entry → Type 0
IsReadOut g me b new = IsEmptied b ⊎ ((q : ℕ) × WasBusy g me b new q)

-- What a result that lets the pump go on rules out: that the session is over, and, but of Busy, that something stands in front that can come.
abbrev pub RulesOut : Settings → List Entry → Between → Turned → Type 0
RulesOut g new b (turned.Moved given taken) = (is_over (closed g new) (queued g new) (length b.left) ≡ false) × IsEmptied b
RulesOut g new b (turned.Busy q) = is_over (closed g new) (queued g new) (length b.left) ≡ false
RulesOut g new b turned.Lull = (is_over (closed g new) (queued g new) (length b.left) ≡ false) × IsEmptied b
RulesOut g new b _ = Unit {0}

-- ---- progress

-- how many bytes are shown
abbrev pub length_shown : Option (List ℕ) → ℕ
length_shown None = 0
length_shown (Some bytes) = length bytes

-- the lulls, the stalls, and the bytes given and taken
abbrev pub moved : Shown → ℕ
moved s = s.counts.lulls + s.counts.stalls + length_shown s.given + length_shown s.taken

-- that sum has grown, of a link that shows its bytes, or a count stands where a u64 ends
abbrev pub HasMoved : Shown → Shown → Type 0
HasMoved s t = is_some s.given ≡ true → is_some s.taken ≡ true
    → (moved s < moved t) ⊎ (t.counts.lulls ≡ 2 ^ 64 - 1) ⊎ (t.counts.stalls ≡ 2 ^ 64 - 1)

-- a frame waited, no drawn byte was left, and a draw found nothing queued
pub record HadOnlyFrames (g : Settings) (me : Knowledge) (b : Between) (new : List Entry) : Type 0 where
  pub waiting : HasWaiting b
  pub empty : b.left ≡ []
  pub draw : IsCalled g me (event.Draw b.conn PIECE) answer.NotYet new

-- A whole turn of a pump between the two, with the bytes left after its draw.
pub record IsTurned (g : Settings) (moments : Option (List ℕ)) (me : Knowledge) (new : List Entry) (s t : Shown) (b : Between) (r : Turned) : Type 0 where
  pub left : List ℕ
  pub turn : IsTurn g moments me b.conn b.left left new
  -- the link has all the bytes that it had
  pub grown : HasGrown s.given t.given × HasGrown s.taken t.taken
  -- where the pump goes on something has moved, unless nothing but a frame was there
  pub progress : is_last r ≡ false → HasMoved s t ⊎ HadOnlyFrames g (record me { front = turn.begins.ticked; note = None }) b turn.begun
  -- where a frame waited nothing is taken
  pub waited : HasWaiting b → t.taken ≡ s.taken
  -- where the turn came to what stands in front, its tick and its draw let it go on ..
  pub ticked : is_early r ≡ false → goes_on_after turn.begins.answer ≡ true
  pub drawn : is_early r ≡ false → goes_on_from turn.begins.answer turn.begins.drew ≡ true
  -- .. and where no byte was left after the draw, the connection was live and nothing was queued
  pub dry : is_early r ≡ false → left ≡ [] → (live turn.begun ≡ b.conn) × (queued g turn.begun ≡ 0)
  -- after a lull nothing came, and no byte was left to be given or the link stalled
  pub still : r ≡ turned.Lull → Follows me.names turn.begun new × ((left ≡ []) ⊎ Rose s.counts.stalls t.counts.stalls)
