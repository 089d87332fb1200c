-- What the two carriers hand back: the entries of their ends, and what they pushed into the rings and read from them.
use Rattle.std.specs.Prelude.{◌≡◌, ◌≢◌, ◌<◌, ◌⊎◌, ℕ, true, false, List, [], ◌∷◌, None}
use Rattle.rs_wire.specs.declared.words.Side.TheVariants.{Client, Server}
use Rattle.rs_frame.specs.Framed.{framed_all}
use Rattle.rs_chunk.specs.Stream.{IsTooLong, IsWhole}
use Rattle.session_model.specs.Life.{closed, is_live, live}
use Rattle.cable_script.specs.declared.line.Line.{Line}
use Rattle.cable_script.specs.declared.line.Line.TheVariants as line
use Rattle.rs_wire.specs.declared.settings.Settings.{Settings}
use Rattle.tape.specs.declared.entry.Entry.{Entry}
use Rattle.session_model.specs.Lists.{IsPrefix}
use Rattle.session_model.specs.Frames.{came, first_bad, given, queued}
use Rattle.session_model.specs.Joined.{IsOpening, is_accepted, offered, refused}
use Rattle.link_model.specs.Reading.{HasRead}
use Rattle.ring.specs.declared.item.Item.{Item}
use Rattle.ring.specs.Parts.{part}
use Rattle.threaded_model.specs.Threaded.{Acts, AreCalls, acts, calls_of, has_cut, moments, told_by}

-- what came on connection c is what was read there
pub record IsReadOn (g : Settings) (past : List Entry) (c : ℕ) (taken : List ℕ) : Type 0 where
  pub rest : List ℕ
  pub read : HasRead (came past c) (first_bad past c) g.max_in rest taken

-- The client: its connection after k cuts has this number, or is none, which is 0.
pub record ClientKeeps (g : Settings) (C : List Entry) (conn : ℕ → ℕ) (sent received : List Item) : Type 0 where
  pub accepted : (k : ℕ) → 0 < conn k → is_accepted C (conn k) ≡ true
  pub apart : (j k : ℕ) → 0 < conn j → conn j ≡ conn k → j ≡ k
  -- all that was drawn was pushed, and nothing where no connection is
  pub gave : (k : ℕ) → 0 < conn k → part k sent ≡ given g C (conn k)
  pub silent : (k : ℕ) → conn k ≡ 0 → part k sent ≡ []
  pub read : (k : ℕ) → 0 < conn k → IsReadOn g C (conn k) (part k received)
  -- on no other connection something came
  pub others : (c : ℕ) → ((k : ℕ) × (conn k ≡ c) × (0 < c)) ⊎ ((came C c ≡ []) × (first_bad C c ≡ None))

-- The server: its opening d is the connection after so many cuts.
pub record ServerKeeps (h : Settings) (S : List Entry) (place : ℕ → ℕ) (sent received : List Item) : Type 0 where
  pub apart : (d e : ℕ) → IsOpening S d → IsOpening S e → place d ≡ place e → d ≡ e
  -- what was pushed is a prefix of what was drawn, or of the refusal, and nothing was where it opened none
  pub gave : (d : ℕ) → IsOpening S d → IsPrefix (part (place d) sent) (offered h S d)
  pub silent : (k : ℕ) → ((d : ℕ) × IsOpening S d × (place d ≡ k)) ⊎ (part k sent ≡ [])
  pub read : (d : ℕ) → IsOpening S d → IsReadOn h S d (part (place d) received)
  -- its first frame came
  pub first : (d : ℕ) → IsOpening S d → came S d ≢ []

-- ---- the end

-- all that was read there came: nothing stands in front of the rest
pub record IsReadOut (g : Settings) (past : List Entry) (c : ℕ) (taken : List ℕ) : Type 0 where
  pub good : first_bad past c ≡ None
  pub rest : List ℕ
  pub read : HasRead (came past c) None g.max_in rest taken
  pub no_frame : ¬ (IsWhole rest g.max_in)
  pub no_length : ¬ (IsTooLong rest g.max_in)

-- the server never knew of the connection: its first frame is too long
pub record IsUnknown (h : Settings) (S : List Entry) (place : ℕ → ℕ) (k : ℕ) (received : List Item) : Type 0 where
  pub unopened : (d : ℕ) → IsOpening S d → place d ≢ k
  pub long : IsTooLong (part k received) h.max_in

-- it accepted it: it is live no more, or nothing waits, and each end that is not closed has read all
pub record IsCarried (g h : Settings) (C S : List Entry) (c d : ℕ) (read_up sent_down read_down : List ℕ) : Type 0 where
  pub accepted : refused S d ≡ []
  pub gave : sent_down ≡ given h S d
  pub all : is_live (live S) d ≡ true → (queued h S ≡ 0) × (closed h S ≡ None → IsReadOut h S d read_up) × (closed g C ≡ None → IsReadOut g C c read_down)

-- it refused it: the refusal crossed, and the client has read it
pub record IsRefused (g : Settings) (C S : List Entry) (c d : ℕ) (sent_down read_down : List ℕ) : Type 0 where
  pub never_live : is_live (live S) d ≡ false
  pub sent : sent_down ≡ framed_all (refused S d)
  pub heard : IsReadOut g C c read_down

-- what the server knows of the connection after k cuts, in the end
abbrev pub IsDone : Settings → Settings → List Entry → List Entry → (ℕ → ℕ) → (ℕ → ℕ) → ℕ → List Item → List Item → List Item → Type 0
IsDone g h C S conn place k read_up down read_down =
    IsUnknown h S place k read_up
    ⊎ ((d : ℕ) × IsOpening S d × (place d ≡ k) × (IsCarried g h C S (conn k) d (part k read_up) (part k down) (part k read_down) ⊎ IsRefused g C S (conn k) d (part k down) (part k read_down)))

-- the client's live connection is the one after k cuts, and all is done there
pub record IsSettledOn (g h : Settings) (C S : List Entry) (conn place : ℕ → ℕ) (read_up down read_down : List Item) : Type 0 where
  pub k : ℕ
  pub some : 0 < conn k
  pub live_is : live C ≡ conn k
  pub none_waits : queued g C ≡ 0
  pub done : IsDone g h C S conn place k read_up down read_down

-- the client has no live connection, or all is done there
abbrev pub IsSettled : Settings → Settings → List Entry → List Entry → (ℕ → ℕ) → (ℕ → ℕ) → List Item → List Item → List Item → Type 0
IsSettled g h C S conn place read_up down read_down = (live C ≡ 0) ⊎ IsSettledOn g h C S conn place read_up down read_down

-- what the two ends did by the lines
pub record Followed (lines : List Line) (C S : List Entry) (pair : ℕ → ℕ) : Type 0 where
  pub client_calls : AreCalls (calls_of Client lines) C
  pub server_calls : AreCalls (calls_of Server lines) S
  pub client_acts : Acts None (line.Open ∷ lines) (acts C)
  pub server_ticks : moments S ≡ told_by lines
  pub server_cuts : (d : ℕ) → has_cut S d ≡ true → IsOpening S d × (has_cut C (pair d) ≡ true)
