-- What a run by threads leaves. Entries stand newest first.
use Rattle.std.specs.Prelude.{◌≡◌, ◌⊎◌, ℕ, List}
use Rattle.rs_wire.specs.declared.settings.Settings.{Settings}
use Rattle.tape.specs.declared.entry.Entry.{Entry}
use Rattle.session_model.specs.Joined.{Joined}
use Rattle.session_core.specs.Seen.{Seen}
use Rattle.cable_script.specs.declared.line.Line.{Line}
use Rattle.cable.specs.Played.{Played}
use Rattle.threaded_model.specs.Threaded.{Threaded}

-- the lines were played between a client and a server under these settings: line by line, or by threads
abbrev pub IsPlayed : Settings → Settings → List Line → List Entry → List Entry → Type 0
IsPlayed g h lines C S = Played (record { client = g; server = h }) lines C S ⊎ Threaded g h lines C S

-- for some pairing of their openings the two ends are joined
abbrev pub AreJoined : Settings → Settings → List Entry → List Entry → Type 0
AreJoined g h C S = (pair : ℕ → ℕ) × Joined g h C S pair

-- the same end with other entries; its spare is left open
abbrev pub IsSameEnd : Seen → Seen → Type 0
IsSameEnd v w = w ≡ record v { entries = w.entries; spare = w.spare }
