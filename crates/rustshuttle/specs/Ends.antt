-- What a program sees of an end, and what one call does to it.
use Rattle.std.specs.Prelude.{◌≡◌, ◌↔◌, ◌≤◌, ◌^◌, ℕ, Bool, true, false, List, [], ◌∷◌, ◌++◌, length, take, drop, Option, Some, None}
use Rattle.rs_wire.specs.declared.message.Message.{Message}
use Rattle.rs_wire.specs.declared.words.Side.{Side}
use Rattle.rs_wire.specs.declared.words.Side.TheVariants.{Client, Server}
use Rattle.rs_frame.specs.Spelling.{IsSpellable, Spells}
use Rattle.rs_chunk.specs.Stream.{IsWhole, after_frame, first_frame}
use Rattle.tape.specs.declared.event.Event.{Event}
use Rattle.tape.specs.declared.event.Event.TheVariants as event
use Rattle.tape.specs.declared.answer.Answer.{Answer}
use Rattle.tape.specs.declared.answer.Answer.TheVariants as answer
use Rattle.tape.specs.Answers.{leaves}
use Rattle.rs_frame.specs.Framed.{framed_all}
use Rattle.session_model.specs.Answers.{answer_to}
use Rattle.session_model.specs.Frames.{drawn, due}
use Rattle.session_core.specs.Seen.{IsOrOutOfMemory, Seen, entries_after}
use Rattle.link_model.specs.Reading.{BeginsBad, IsInFront, IsPart}
use Rattle.rustshuttle.specs.declared.fault.EndFault.{EndFault}
use Rattle.rustshuttle.specs.declared.fault.EndFault.TheVariants as fault
use Rattle.rustshuttle.specs.declared.endpoint.TheConstants.{CALLER}

-- content without metadata
abbrev pub plain : List ℕ → Message
plain content = record { metadata = None; content = content }

pub record EndSeen : Type 0 where
  pub session : Seen
  -- the number of the connection whose bytes come
  pub connection : Option ℕ
  -- the bytes that came on it and were not brought
  pub rest : List ℕ

-- the event was answered as a session answers it, and noted where the answer leaves an entry
pub record HasAnswered (e : Event) (a : Answer) (old new : Seen) : Type 0 where
  pub right : IsOrOutOfMemory a (answer_to old.settings old.entries e)
  pub full : (a ≡ answer.TapeFull) ↔ (2 ^ 63 ≤ length old.entries)
  pub after : new ≡ record old { entries = entries_after CALLER e a old.entries; spare = new.spare }

-- the connection after an opening with this answer: the former one where nothing was opened
abbrev pub connection_after : Answer → Option ℕ → Option ℕ
connection_after (answer.Opened n) before = Some n
connection_after _ before = before

-- a client's opening begins with no byte
abbrev pub rest_after : Answer → List ℕ → List ℕ
rest_after (answer.Opened n) rest = []
rest_after _ rest = rest

-- bytes came that are no frame
abbrev pub is_bad : Event → Bool
is_bad (event.Bad conn rule) = true
is_bad _ = false

-- what is left after an event that was noted: what came is passed, and with bytes that are no frame all is dropped
abbrev pub left_after : Event → List ℕ → List ℕ
left_after (event.Bad conn rule) rest = []
left_after _ rest = after_frame rest

-- a whole frame in front, by which a connection is opened at a server
abbrev pub IsFirst : List ℕ → ℕ → Event → Type 0
IsFirst rest most (event.Open (Some f) taken) = IsWhole rest most × Spells f (first_frame rest) × IsSpellable f × (taken ≡ false)
IsFirst rest most _ = ⊥

-- what stands in front comes as this event: at a server without a connection it opens one
abbrev pub ComesAs : Side → Option ℕ → List ℕ → ℕ → Event → Type 0
ComesAs side (Some c) rest most e = IsInFront c rest most e
ComesAs Server None rest most e = IsFirst rest most e
ComesAs Client None rest most e = ⊥

abbrev pub IsNextOf : EndSeen → Event → Type 0
IsNextOf s e = ComesAs s.session.settings.side s.connection s.rest s.session.settings.max_in e

-- nothing stands in front that can come
abbrev pub HasNoneOf : Side → Option ℕ → List ℕ → ℕ → Type 0
HasNoneOf Client None rest most = Unit {0}
HasNoneOf side connection rest most = IsPart rest most

abbrev pub HasNone : EndSeen → Type 0
HasNone s = HasNoneOf s.session.settings.side s.connection s.rest s.session.settings.max_in

-- the next frame was brought, so answered, and noted
pub record HasBrought (a : Answer) (old new : EndSeen) : Type 0 where
  pub event : Event
  pub comes : IsNextOf old event
  pub noted : leaves a ≡ true
  pub answered : HasAnswered event a old.session new.session
  pub connection : new.connection ≡ connection_after a old.connection
  pub rest : new.rest ≡ left_after event old.rest

-- the next frames were brought, one after another, and so answered
unfoldable pub HasBroughtAll : List Answer → EndSeen → EndSeen → Type 0
HasBroughtAll [] old new = new ≡ old
HasBroughtAll (a ∷ answers) old new = (mid : EndSeen) × HasBrought a old mid × HasBroughtAll answers mid new

-- the next frames were brought, and their answers stand after those that were there
pub record HasAppended (before after : List Answer) (old new : EndSeen) : Type 0 where
  pub more : List Answer
  pub is : after ≡ before ++ more
  pub brought : HasBroughtAll more old new

-- the end is as it was, but for the spare of its tape
abbrev pub IsAsBefore : EndSeen → EndSeen → Type 0
IsAsBefore old new = new ≡ record old { session = record old.session { spare = new.session.spare } }

-- what bringing the next frame did: nothing, where none is whole
abbrev pub Brings : Option Answer → EndSeen → EndSeen → Type 0
Brings None old new = (new ≡ old) × HasNone old
Brings (Some a) old new = HasBrought a old new

-- why what the first bytes are is not known, or that they are no frame
abbrev pub IsFirstFault : List ℕ → ℕ → EndFault → Type 0
IsFirstFault rest most (fault.NoFirstFrame rule) = BeginsBad rule most rest
IsFirstFault rest most fault.OutOfMemory = Unit {0}
IsFirstFault rest most _ = ⊥

-- why a frame that was answered so was not brought
abbrev pub IsFaultBy : Answer → EndFault → Type 0
IsFaultBy a (fault.NoFirstFrame rule) = ⊥
IsFaultBy a (fault.Busy queued) = a ≡ answer.OutBusy queued
IsFaultBy a fault.TapeFull = a ≡ answer.TapeFull
IsFaultBy a fault.OutOfMemory = Unit {0}

-- why the next frame was not brought
abbrev pub FaultFor : EndSeen → EndFault → Type 0
FaultFor s (fault.NoFirstFrame rule) = (s.connection ≡ None) × BeginsBad rule s.session.settings.max_in s.rest
FaultFor s (fault.Busy queued) = (e : Event) × IsNextOf s e × (answer_to s.session.settings s.session.entries e ≡ answer.OutBusy queued)
FaultFor s fault.TapeFull = 2 ^ 63 ≤ length s.session.entries
FaultFor s fault.OutOfMemory = Unit {0}

-- ---- what goes out

-- the bytes that a draw with this answer gives: the next of those that are due and not drawn
abbrev pub bytes_of_draw : Seen → ℕ → Answer → List ℕ
bytes_of_draw s c (answer.Drawn n) = take n (drop (drawn s.entries c) (framed_all (due s.settings s.entries c)))
bytes_of_draw s c _ = []

-- a draw of at most this many bytes gave these
pub record HasDrawn (c room : ℕ) (bytes : List ℕ) (old new : Seen) : Type 0 where
  pub answer : Answer
  pub answered : HasAnswered (event.Draw c room) answer old new
  pub is : bytes ≡ bytes_of_draw old c answer

-- where there is a connection the bytes are drawn on it, and else there are none
abbrev pub GivesOnto : Option ℕ → ℕ → List ℕ → Seen → Seen → Type 0
GivesOnto None room bytes old new = (bytes ≡ []) × (new ≡ old)
GivesOnto (Some c) room bytes old new = HasDrawn c room bytes old new

pub record GivesOut (room : ℕ) (bytes : List ℕ) (old new : EndSeen) : Type 0 where
  pub gives : GivesOnto old.connection room bytes old.session new.session
  pub rest : new ≡ record old { session = new.session }

-- why nothing was drawn
abbrev pub IsDrawFault : EndSeen → EndFault → Type 0
IsDrawFault s fault.TapeFull = 2 ^ 63 ≤ length s.session.entries
IsDrawFault s fault.OutOfMemory = Unit {0}
IsDrawFault s _ = ⊥
