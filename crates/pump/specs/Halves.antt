-- A link with more bytes.
use Rattle.std.specs.Prelude.{List, ℕ}
use Rattle.std.specs.Io.KnownBytes.{append_known}
use Rattle.outside.specs.Links.{Shown}

-- more bytes were given
abbrev pub and_given : Shown → List ℕ → Shown
and_given s piece = record s { given = append_known s.given piece }

-- more bytes were taken
abbrev pub and_taken : Shown → List ℕ → Shown
and_taken s piece = record s { taken = append_known s.taken piece }
