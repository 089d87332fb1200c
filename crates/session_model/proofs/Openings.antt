-- The openings of a session: the live one is among them, and nothing is due or drawn on a connection before its opening.
use Rattle.std.proofs.Common.{◌≡◌, ◌≤◌, ◌<◌, ℕ, List, [], ◌∷◌, refl, arith}
use Rattle.std.proofs.lemmas.Grind.{common_steps}
use Rattle.rs_wire.specs.declared.settings.Settings.{Settings}
use Rattle.tape.specs.declared.entry.Entry.{Entry}
use Rattle.session_model.specs.Life.{openings, live}
use Rattle.session_model.specs.Frames.{due, drawn}
use Rattle.session_model.specs.Answers.{facts}
use Rattle.session_model.specs.Legal.{Legal}
use Rattle.session_model.proofs.Meaning.{last_means}

-- the live connection is one of the openings
pub live_le : (g : Settings) (past : List Entry) → Legal g past → live past ≤ openings past
unfolding Legal live openings facts
live_le g [] legal = omega arith
live_le g (x ∷ past) legal = grind (arith, common_steps, last_means g x past legal, live_le g past legal.0)

-- nothing is due on no connection
pub due_nowhere : (g : Settings) (past : List Entry) → due g past 0 ≡ []
unfolding due
due_nowhere g [] = refl
due_nowhere g (x ∷ past) = grind (arith, common_steps, due_nowhere g past)

-- nothing is due on a connection that is not opened yet
pub due_later : (g : Settings) (past : List Entry) (c : ℕ) → Legal g past → openings past < c → due g past c ≡ []
unfolding Legal live openings due facts
due_later g [] c legal lt = refl
due_later g (x ∷ past) c legal lt =
    grind (arith, common_steps, last_means g x past legal, live_le g past legal.0, due_later g past c legal.0)

-- nothing was drawn from it
pub drawn_later : (g : Settings) (past : List Entry) (c : ℕ) → Legal g past → openings past < c → drawn past c ≡ 0
unfolding Legal live openings drawn facts
drawn_later g [] c legal lt = refl
drawn_later g (x ∷ past) c legal lt =
    grind (arith, common_steps, last_means g x past legal, live_le g past legal.0, drawn_later g past c legal.0)
