-- How often a connection was opened, over the entries of a session, the newest first.
use Rattle.std.specs.Prelude.{ℕ, ◌+◌, List, [], ◌∷◌}
use Rattle.tape.specs.declared.entry.Entry.{Entry}
use Rattle.stream_model.specs.Streams.{one_if}
use Rattle.session_model.specs.Joined.{opens_as}

-- how many openings were accepted as connection c
unfoldable pub times_opened : List Entry → ℕ → ℕ
times_opened [] c = 0
times_opened (x ∷ past) c = times_opened past c + one_if (opens_as c x.answer)
