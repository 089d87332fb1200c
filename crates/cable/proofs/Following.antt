-- What an end answers, and its entries after it.
use Rattle.std.proofs.lemmas.Grind.{common_steps}
use Rattle.std.proofs.Common.{◌≡◌, Bool, true, false, cond, List, ◌∷◌, Some, ap, arith}
use Rattle.rs_wire.specs.declared.settings.Settings.{Settings}
use Rattle.rs_frame.specs.declared.frame.Frame.{Frame}
use Rattle.tape.specs.declared.event.Event.{Event}
use Rattle.tape.specs.declared.event.Event.TheVariants as event
use Rattle.tape.specs.declared.answer.Answer.{Answer}
use Rattle.tape.specs.declared.entry.Entry.{Entry}
use Rattle.session_model.specs.Answers.{Facts, answer_to, facts, to_open}
use Rattle.session_core.specs.Seen.{entries_after}
use Rattle.cable.specs.Played.{adds, answered}
use Rattle.tape.specs.Answers.{leaves}

-- the entry of an event so answered
abbrev pub noted : Event → Answer → Entry
noted e a = record { who = 0; event = e; answer = a }

after : (past : List Entry) (e : Event) (a : Answer) → entries_after 0 e a past ≡ cond (leaves a) (noted e a ∷ past) past
after past e a = grind (arith, common_steps)

pub adds_none : (g : Settings) (past : List Entry) (e : Event) → leaves (answer_to g past e) ≡ false → adds g past e ≡ past
adds_none g past e l = ap (λ (b : Bool). cond b (answered g past e ∷ past) past) l

pub adds_one : (g : Settings) (past : List Entry) (e : Event) → leaves (answer_to g past e) ≡ true → adds g past e ≡ answered g past e ∷ past
adds_one g past e l = ap (λ (b : Bool). cond b (answered g past e ∷ past) past) l

opening_leaves : (g : Settings) (t : Facts) (f : Frame) → leaves (to_open g t (Some f) false) ≡ true
opening_leaves g t f = grind (arith, common_steps)

-- the opening of a server always leaves an entry
pub open_leaves : (g : Settings) (past : List Entry) (f : Frame) → leaves (answer_to g past (event.Open (Some f) false)) ≡ true
open_leaves g past f = opening_leaves g (facts g past) f
