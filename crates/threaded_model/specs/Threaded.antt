-- A script that threads played: what the entries of the two ends have to do with its lines. Entries are the newest first, all other lists the oldest.
use Rattle.std.specs.Prelude.{◌≡◌, ◌≢◌, ◌<◌, ◌⊎◌, ◌==◌, ℕ, Bool, true, false, if◌then◌else◌, List, [], ◌∷◌, ◌++◌, length, replicate, Option, Some, None, ◌||◌}
use Rattle.std.specs.List.{AllByRecursion}
use Rattle.rs_wire.specs.declared.words.Side.{Side}
use Rattle.rs_wire.specs.declared.words.Side.TheVariants.{Client, Server}
use Rattle.rs_wire.specs.declared.settings.Settings.{Settings}
use Rattle.rs_wire.specs.declared.call.Call.{Call}
use Rattle.rs_wire.specs.declared.call.Call.TheVariants as call
use Rattle.rs_frame.specs.declared.frame.Frame.{Frame}
use Rattle.rs_frame.specs.Spelling.{length_of}
use Rattle.tape.specs.declared.event.Event.{Event}
use Rattle.tape.specs.declared.event.Event.TheVariants as event
use Rattle.tape.specs.declared.answer.Answer.{Answer}
use Rattle.tape.specs.declared.answer.Answer.TheVariants as answer
use Rattle.tape.specs.declared.entry.Entry.{Entry}
use Rattle.session_model.specs.Life.{closed, is_live, live}
use Rattle.session_model.specs.Frames.{came, due}
use Rattle.session_model.specs.Legal.{Legal}
use Rattle.session_model.specs.Joined.{IsOpening, Joined, refused}
use Rattle.cable_script.specs.declared.TheConstants.{ITEM_BYTE}
use Rattle.cable_script.specs.declared.line.Line.{Line}
use Rattle.cable_script.specs.declared.line.Line.TheVariants as line

-- ---- calls

-- an item of so many bytes, all the same, without metadata (cable has it: Played)
abbrev pub an_item : ℕ → ℕ → Call
an_item stream size = call.Next stream (record { metadata = None; content = replicate size ITEM_BYTE }) false

-- the second where it is this end's
abbrev pub at_side : Side → Side → List Call → List Call
at_side Client Client calls = calls
at_side Server Server calls = calls
at_side _ _ calls = []

abbrev pub calls_in : Side → Line → List Call
calls_in side (line.Ask who asked) = at_side side who (asked ∷ [])
calls_in side (line.Many who stream count size) = at_side side who (replicate count (an_item stream size))
calls_in side _ = []

-- the calls of the lines at one end
unfoldable pub calls_of : Side → List Line → List Call
calls_of side [] = []
calls_of side (l ∷ lines) = calls_in side l ++ calls_of side lines

abbrev pub asked_in : Event → List Call
asked_in (event.Asked asked) = asked ∷ []
asked_in _ = []

-- what was asked at an end
unfoldable pub asked : List Entry → List Call
asked [] = []
asked (x ∷ past) = asked past ++ asked_in x.event

-- it takes what waits, where something does
abbrev pub is_taking : Call → Bool
is_taking (call.Take stream) = true
is_taking call.TakeJob = true
is_taking _ = false

-- these calls in their order, each once, but for some that take
unfoldable pub ButTakes : List Call → List Call → Type 0
ButTakes [] noted = noted ≡ []
ButTakes (c ∷ calls) noted = ((rest : List Call) × (noted ≡ c ∷ rest) × ButTakes calls rest) ⊎ ((is_taking c ≡ true) × ButTakes calls noted)

abbrev pub is_asked : Event → Bool
is_asked (event.Asked asked) = true
is_asked _ = false

-- the calls of one end stand under one number
pub record AreCalls (calls : List Call) (past : List Entry) : Type 0 where
  pub noted : ButTakes calls (asked past)
  pub number : ℕ
  pub alone : AllByRecursion (λ (x : Entry). is_asked x.event ≡ true → x.who ≡ number) past

-- ---- openings, cuts and moments of the client

abbrev pub is_act : Event → Bool
is_act (event.Open first taken) = true
is_act (event.Cut conn) = true
is_act (event.Tick now) = true
is_act _ = false

abbrev pub act_in : Entry → List Entry
act_in x = if is_act x.event then x ∷ [] else []

-- its openings, cuts and moments
unfoldable pub acts : List Entry → List Entry
acts [] = []
acts (x ∷ past) = acts past ++ act_in x

-- what a line does at the client, where this connection joins the ends
abbrev pub act : Option ℕ → Line → Option Event
act None line.Open = Some (event.Open None false)
act (Some c) line.Cut = Some (event.Cut c)
act on (line.Tick now) = Some (event.Tick now)
act on _ = None

-- the connection that an opening so answered makes
abbrev pub made_by : Answer → Option ℕ
made_by (answer.Opened c) = Some c
made_by _ = None

-- the one that joins the ends after a line that acted, and was so answered
abbrev pub joins_after : Option ℕ → Line → Answer → Option ℕ
joins_after on line.Open a = made_by a
joins_after on line.Cut a = None
joins_after on _ a = on

-- each entry is what the next line that acts does, where this connection joins the ends at first
unfoldable pub Acts : Option ℕ → List Line → List Entry → Type 0
Acts on [] entries = entries ≡ []
Acts on (l ∷ lines) entries =
    ((act on l ≡ None) × Acts on lines entries)
    ⊎ ((x : Entry) × (rest : List Entry) × (entries ≡ x ∷ rest) × (act on l ≡ Some x.event) × Acts (joins_after on l x.answer) lines rest)

-- ---- moments and cuts of the server

abbrev pub moment_in : Event → List ℕ
moment_in (event.Tick now) = now ∷ []
moment_in _ = []

unfoldable pub moments : List Entry → List ℕ
moments [] = []
moments (x ∷ past) = moments past ++ moment_in x.event

abbrev pub told_in : Line → List ℕ
told_in (line.Tick now) = now ∷ []
told_in _ = []

unfoldable pub told_by : List Line → List ℕ
told_by [] = []
told_by (l ∷ lines) = told_in l ++ told_by lines

abbrev pub cuts_in : ℕ → Event → Bool
cuts_in c (event.Cut conn) = conn == c
cuts_in c _ = false

-- this end cut connection c
unfoldable pub has_cut : List Entry → ℕ → Bool
has_cut [] c = false
has_cut (x ∷ past) c = has_cut past c || cuts_in c x.event

-- ---- at the end

-- opening d of the server is that of the client's live connection
pub record IsLast (C S : List Entry) (pair : ℕ → ℕ) (d : ℕ) : Type 0 where
  pub opening : IsOpening S d
  pub at_client : is_live (live C) (pair d) ≡ true

-- the first frame on connection c is longer than the server takes
abbrev pub IsFirstLong : Settings → Settings → List Entry → ℕ → Type 0
IsFirstLong g h C c = (f : Frame) × (more : List Frame) × (due g C c ≡ f ∷ more) × (h.max_in < length_of f)

-- The lines were played by threads between a client under settings g and a server under settings h, which have these entries.
pub record Threaded (g h : Settings) (lines : List Line) (C S : List Entry) : Type 0 where
  -- both tapes are legal, and they are joined
  pub client_legal : Legal g C
  pub server_legal : Legal h S
  pub pair : ℕ → ℕ
  pub joined : Joined g h C S pair
  -- the calls of each end are those of the script, in order, each once, all under one number; one that left no entry takes
  pub client_calls : AreCalls (calls_of Client lines) C
  pub server_calls : AreCalls (calls_of Server lines) S
  -- the client opens at the start, and opens, cuts and ticks by the lines that act, in order
  pub client_acts : Acts None (line.Open ∷ lines) (acts C)
  -- the server ticks by the lines, in order
  pub server_ticks : moments S ≡ told_by lines
  -- it cuts only where the client cut the pair
  pub server_cuts : (d : ℕ) → has_cut S d ≡ true → IsOpening S d × (has_cut C (pair d) ≡ true)
  -- where the client's connection is live, the server knows of it, unless its first frame is too long
  pub met : (c : ℕ) → is_live (live C) c ≡ true → ((d : ℕ) × IsOpening S d × (pair d ≡ c)) ⊎ IsFirstLong g h C c
  -- where the server refused it, the refusal came
  pub refusal_came : (d : ℕ) → IsLast C S pair d → refused S d ≢ [] → came C (pair d) ≡ refused S d
  -- where it is live at both ends, all that is due came at an end that is not closed
  pub up : (d : ℕ) → IsLast C S pair d → is_live (live S) d ≡ true → closed h S ≡ None → came S d ≡ due g C (pair d)
  pub down : (d : ℕ) → IsLast C S pair d → is_live (live S) d ≡ true → closed g C ≡ None → came C (pair d) ≡ due h S d
