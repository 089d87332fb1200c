-- When a tick does more than take its moment (RSocket 1.0, "KEEPALIVE Frame").
use Rattle.std.specs.Prelude.{◌==◌, ◌||◌, Bool, not, List, is_some}
use Rattle.rs_wire.specs.declared.settings.Settings.{Settings}
use Rattle.tape.specs.declared.entry.Entry.{Entry}
use Rattle.session_model.specs.Life.{closed, live}

-- a tick is answered by what is due: there is a live connection, and the session is not closed
abbrev pub heeds_ticks : Settings → List Entry → Bool
heeds_ticks g past = not ((live past == 0) || is_some (closed g past))
