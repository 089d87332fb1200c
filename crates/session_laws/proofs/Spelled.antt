-- What is due and come can be spelled.
use Rattle.std.proofs.Common.{ℕ, true, false, cond, List, [], ◌∷◌, arith}
use Rattle.std.proofs.lemmas.Grind.{common_steps}
use Rattle.rs_wire.specs.Settings.{IsChecked}
use Rattle.rs_wire.specs.declared.settings.Settings.{Settings}
use Rattle.tape.specs.declared.answer.Answer.{Answer}
use Rattle.tape.specs.declared.event.Event.{Event}
use Rattle.tape.specs.declared.entry.Entry.{Entry}
use Rattle.session_model.specs.Life.{is_live, live, live_after}
use Rattle.session_model.specs.Frames.{due, came, lines_up, owes}
use Rattle.session_model.specs.Legal.{Fair, Legal}
use Rattle.session_model.proofs.Meaning.{last_means}
use Rattle.session_model.proofs.Beside.{lines_spellable}
use Rattle.session_laws.proofs.Framing.{AreSpellable, spellable-append}

-- what an entry adds to the frames due on a connection
owes_spelled : (g : Settings) (past : List Entry) (c : ℕ) (a : Answer) (e : Event) → AreSpellable (lines_up g past a e) → AreSpellable (owes g past c a e)
owes_spelled g past c a e lines = elim (is_live (live_after a (live past)) c) as (λ v. AreSpellable (cond v (lines_up g past a e) []))
    [ true ↦ lines | false ↦ tt ]

pub due_spelled : (g : Settings) (past : List Entry) (c : ℕ) → IsChecked g → Legal g past → Fair g past → AreSpellable (due g past c)
unfolding Legal Fair due
due_spelled g [] c checked legal fair = tt
due_spelled g (x ∷ past) c checked legal fair =
    spellable-append (due g past c) (owes g past c x.answer x.event) (due_spelled g past c checked legal.0 fair.0)
    (owes_spelled g past c x.answer x.event (lines_spellable g past x.event x.answer checked legal.0 fair.0 fair.1 (last_means g x past legal)))

pub came_spelled : (g : Settings) (past : List Entry) (c : ℕ) → Fair g past → AreSpellable (came past c)
unfolding Fair came
came_spelled g [] c fair = tt
came_spelled g (x ∷ past) c fair = grind (arith, common_steps, came_spelled g past c fair.0, spellable-append)
