-- What is drawn is due.
use Rattle.std.proofs.Common.{◌≡◌, ◌≤◌, ◌+◌, ℕ, List, [], ◌∷◌, ◌++◌, length, arith}
use Rattle.std.proofs.lemmas.Grind.{common_steps, flat_map-append}
use Rattle.rs_wire.specs.declared.settings.Settings.{Settings}
use Rattle.rs_frame.specs.declared.frame.Frame.{Frame}
use Rattle.rs_frame.specs.Framed.{framed_all, framed_frame}
use Rattle.tape.specs.declared.event.Event.{Event}
use Rattle.tape.specs.declared.answer.Answer.TheVariants as answer
use Rattle.tape.specs.declared.entry.Entry.{Entry}
use Rattle.session_model.specs.Life.{live}
use Rattle.session_model.specs.Frames.{due, owes, drawn, queued}
use Rattle.session_model.specs.Answers.{facts}
use Rattle.session_model.specs.Legal.{Legal}
use Rattle.session_model.proofs.Meaning.{last_means}

pub framed_all-append : (xs ys : List Frame) → framed_all (xs ++ ys) ≡ framed_all xs ++ framed_all ys
framed_all-append xs ys = flat_map-append framed_frame xs ys

-- no more is drawn than is due
pub drawn_le : (g : Settings) (past : List Entry) (c : ℕ) → Legal g past → drawn past c ≤ length (framed_all (due g past c))
unfolding Legal drawn due facts queued
drawn_le g [] c legal = omega arith
drawn_le g (x ∷ past) c legal =
    let more = framed_all-append (due g past c) (owes g past c x.answer x.event) in
    grind (arith, common_steps, last_means g x past legal, drawn_le g past c legal.0)

-- what was drawn and what waits are all that is due on the live connection
pub queued_exact : (g : Settings) (past : List Entry) → Legal g past
    → drawn past (live past) + queued g past ≡ length (framed_all (due g past (live past)))
unfolding queued
queued_exact g past h = let le = drawn_le g past (live past) h in omega arith

-- a draw puts nothing in line
pub drawn_owes : (g : Settings) (past : List Entry) (c n : ℕ) (e : Event) → owes g past c (answer.Drawn n) e ≡ []
drawn_owes g past c n e = grind (arith, common_steps)
