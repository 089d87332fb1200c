-- What one end draws and hears, over the bytes between.
use Rattle.std.specs.Prelude.{◌≡◌, ◌<◌, ◌≤◌, ◌+◌, ◌-◌, ℕ, Bool, true, false, List, ◌∷◌, ◌++◌, length, map, drop, take, Option, Some, None, is_some}
use Rattle.std.specs.List.{AllByRecursion}
use Rattle.rs_wire.specs.declared.settings.Settings.{Settings}
use Rattle.rs_frame.specs.declared.frame.Frame.{Frame}
use Rattle.rs_frame.specs.Spelling.{IsSpellable, Spells}
use Rattle.rs_frame.specs.Framed.{framed_all}
use Rattle.rs_chunk.specs.Rest.{Rest}
use Rattle.rs_chunk.specs.Stream.{IsWhole, IsTooLong, first_frame}
use Rattle.tape.specs.declared.event.Event.TheVariants as event
use Rattle.tape.specs.declared.answer.Answer.{Answer}
use Rattle.tape.specs.declared.answer.Answer.TheVariants as answer
use Rattle.tape.specs.declared.entry.Entry.{Entry}
use Rattle.session_model.specs.Life.{live, openings}
use Rattle.session_model.specs.Frames.{came, due, drawn, first_bad, given, refusal, was_opened}
use Rattle.session_model.specs.Answers.{answer_to}
use Rattle.session_model.specs.Joined.{only}
use Rattle.session_core.specs.Seen.{Seen}
use Rattle.cable.specs.declared.arrival.Arrival.{Arrival}
use Rattle.cable.specs.declared.arrival.Arrival.TheVariants as arrival
use Rattle.cable.specs.declared.carrying.Most.{Most}
use Rattle.cable.specs.declared.carrying.Left.{Left}
use Rattle.cable.specs.declared.hearing.Crossing.{Crossing}
use Rattle.cable.specs.declared.hearing.Known.{Known}
use Rattle.cable.specs.declared.hearing.Known.TheVariants as known
use Rattle.cable.specs.Played.{Draws, answered, arrivals, at_most, crossed, hears}

-- an answer of a session that did not run out of memory
abbrev pub IsNoWant : Answer → Type 0
IsNoWant answer.TapeFull = ⊥
IsNoWant answer.OutOfMemory = ⊥
IsNoWant _ = Unit {0}

-- ---- draws

-- a draw filled the buffer with the bytes that are due next
pub record Filled (c : ℕ) (v w : Seen) (room : ℕ) (buffer : List ℕ) : Type 0 where
  pub entries : w.entries ≡ record { who = 0; event = event.Draw c room; answer = answer.Drawn room } ∷ v.entries
  pub bytes : take room buffer ≡ take room (drop (drawn v.entries c) (framed_all (due v.settings v.entries c)))

-- a draw on a connection that is not live
abbrev pub IsStale : ℕ → Seen → Seen → ℕ → Type 0
IsStale c v w room = w.entries ≡ record { who = 0; event = event.Draw c room; answer = answer.Stale (live v.entries) } ∷ v.entries

-- a count grew, or it is as before
abbrev pub Grew : Bool → ℕ → ℕ → Type 0
Grew true m n = m < n
Grew false m n = n ≡ m

-- the draws of a carrying line, the bytes that crossed by them, and whether there are any
pub record Carried (c : ℕ) (m : Most) (v w : Seen) (start rest : Rest) (some : Bool) : Type 0 where
  pub draws : Draws v.settings c m v.entries w.entries
  pub piece : List ℕ
  pub gave : given v.settings w.entries c ≡ given v.settings v.entries c ++ piece
  pub crossed : rest ≡ record start { bytes = start.bytes ++ piece }
  pub grew : Grew some (drawn v.entries c) (drawn w.entries c)

-- at most so many of the bytes left of a refusal crossed, and whether there were any
pub record Offered (m : Most) (l k : Left) (start rest : Rest) (some : Bool) : Type 0 where
  pub bytes : k.bytes ≡ l.bytes
  pub crossed : k.crossed ≡ l.crossed + at_most m (length l.bytes - l.crossed)
  pub within : k.crossed ≤ length k.bytes
  pub piece : List ℕ
  pub gave : take k.crossed l.bytes ≡ take l.crossed l.bytes ++ piece
  pub fed : rest ≡ record start { bytes = start.bytes ++ piece }
  pub grew : Grew some l.crossed k.crossed

-- ---- what is in front of the bytes that crossed

-- the frame is the only one that the bytes can spell
abbrev pub IsOnly : List ℕ → Frame → Type 0
IsOnly bytes f = (d : Frame) → Spells d bytes → d ≡ f

-- where a whole frame stands in front, its bytes spell one
abbrev pub IsSpelledInFront : Rest → Type 0
IsSpelledInFront rest = IsWhole rest.bytes rest.max_in → (f : Frame) × Spells f (first_frame rest.bytes)

abbrev pub IsNextOf : Rest → Option Arrival → Type 0
IsNextOf rest None = (¬ (IsWhole rest.bytes rest.max_in)) × (¬ (IsTooLong rest.bytes rest.max_in))
IsNextOf rest (Some (arrival.Whole f)) = IsWhole rest.bytes rest.max_in × IsSpellable f × IsOnly (first_frame rest.bytes) f
IsNextOf rest (Some arrival.TooLong) = IsTooLong rest.bytes rest.max_in

abbrev pub too_long : Arrival → Bool
too_long (arrival.Whole f) = false
too_long arrival.TooLong = true

abbrev pub whole_in : Option Arrival → Option Frame
whole_in (Some (arrival.Whole f)) = Some f
whole_in _ = None

-- ---- what crossed

-- what crosses to an end under settings g is made of these frames
pub record Ahead (g : Settings) (frames : List Frame) (rest : Rest) : Type 0 where
  pub longest : rest.max_in ≡ g.max_in
  pub below : g.max_in < 16777216
  pub spellable : AllByRecursion IsSpellable frames

-- the first n bytes of these frames crossed to its connection c: what came of them, and the bytes after it
pub record CrossedTo (g : Settings) (c n : ℕ) (frames : List Frame) (past : List Entry) (rest : Rest) (over : Bool) : Type 0 where
  pub ahead : Ahead g frames rest
  pub opened : was_opened past c ≡ true
  pub bytes : take n (framed_all frames) ≡ framed_all (came past c) ++ rest.bytes
  pub bad : over ≡ is_some (first_bad past c)
  pub parts : first_bad past c ≡ None → (items : List Arrival) × (map (λ f. arrival.Whole f) (came past c) ++ items ≡ crossed g.max_in n frames)

abbrev pub Crosses : ℕ → ℕ → List Frame → Seen → Crossing → Type 0
Crosses c n frames v x = CrossedTo v.settings c n frames v.entries x.rest x.over

-- they crossed, and nothing came of them yet
pub record Nears (n : ℕ) (frames : List Frame) (v : Seen) (x : Crossing) : Type 0 where
  pub ahead : Ahead v.settings frames x.rest
  pub bytes : take n (framed_all frames) ≡ x.rest.bytes
  pub goes_on : x.over ≡ false

-- some bytes crossed
pub record IsCrossing (c : ℕ) (v : Seen) (x : Crossing) : Type 0 where
  pub n : ℕ
  pub frames : List Frame
  pub crosses : Crosses c n frames v x

pub record IsNear (v : Seen) (x : Crossing) : Type 0 where
  pub n : ℕ
  pub frames : List Frame
  pub nears : Nears n frames v x

-- ---- what is heard

-- all came that can, and whether something did
pub record IsHearer (c n : ℕ) (frames : List Frame) (v w : Seen) (x : Crossing) (some : Bool) : Type 0 where
  pub entries : w.entries ≡ hears v.settings c n frames v.entries
  pub crosses : CrossedTo v.settings c n frames w.entries x.rest x.over
  pub grew : Grew some (arrivals v.entries) (arrivals w.entries)

-- what is known of a connection whose opening was answered so: a refusal gives its frame, or nothing
abbrev pub known_of : Answer → Known
known_of (answer.Opened d) = known.Accepted d
known_of a = known.Refused (record { bytes = framed_all (only (refusal a)); crossed = 0 })

-- the first frame of a connection came
abbrev pub IsOpenedBy : Frame → Seen → Seen → Known → Type 0
IsOpenedBy f v w k =
    (w.entries ≡ answered v.settings v.entries (event.Open (Some f) false) ∷ v.entries)
    × (k ≡ known_of (answer_to v.settings v.entries (event.Open (Some f) false)))

-- the first frame that crossed came, where it is whole
abbrev pub IsMetBy : List Arrival → ℕ → List Frame → Seen → Seen → Crossing → Known → Type 0
IsMetBy (arrival.Whole f ∷ more) n frames v w x k = IsOpenedBy f v w k × CrossedTo v.settings (openings v.entries + 1) n frames w.entries x.rest x.over
IsMetBy _ n frames v w x k = (w ≡ v) × (k ≡ known.Nothing) × Nears n frames v x

abbrev pub IsMet : ℕ → List Frame → Seen → Seen → Crossing → Known → Type 0
IsMet n frames v w x k = IsMetBy (crossed v.settings.max_in n frames) n frames v w x k
