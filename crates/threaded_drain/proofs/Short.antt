-- The frame that refuses an opening is short.
use Rattle.std.proofs.Common.{◌≤◌, ◌+◌, ◌==◌, ℕ, Bool, true, false, if◌then◌else◌, List, [], ◌∷◌, ◌++◌, length, Some, arith}
use Rattle.std.proofs.lemmas.Grind.{common_steps}
use Rattle.std.specs.List.{AllByRecursion}
use Rattle.rs_wire.specs.Words.{gone_word, setup_word}
use Rattle.rs_wire.specs.declared.fault.Gone.{Gone}
use Rattle.rs_wire.specs.declared.fault.SetupFault.{SetupFault}
use Rattle.rs_frame.specs.declared.frame.Frame.{Frame}
use Rattle.rs_frame.specs.Spelling.{length_of}
use Rattle.tape.specs.declared.event.Event.{Event}
use Rattle.tape.specs.declared.event.Event.TheVariants as event
use Rattle.tape.specs.declared.answer.Answer.{Answer}
use Rattle.tape.specs.declared.answer.Answer.TheVariants as answer
use Rattle.tape.specs.declared.entry.Entry.{Entry}
use Rattle.session_model.specs.Life.{openings}
use Rattle.session_model.specs.Frames.{refusal}
use Rattle.session_model.specs.Joined.{only, refused, refuses}

-- no frame is longer than 64 bytes
abbrev pub AreShort : List Frame → Type 0
AreShort frames = AllByRecursion (λ f. length_of f ≤ 64) frames

short_setup : (f : SetupFault) → length (setup_word f) ≤ 54
short_setup f = grind (arith, common_steps)

short_gone : (f : Gone) → length (gone_word f) ≤ 54
short_gone f = grind (arith, common_steps)

short_refusal : (a : Answer) → AreShort (only (refusal a))
short_refusal (answer.SetupRefused fault) = (let s = short_setup fault in omega (arith, s), tt)
short_refusal (answer.ResumeRefused gone) = (let s = short_gone gone in omega (arith, s), tt)
short_refusal a = tt

short_one : (b : Bool) (a : Answer) → AreShort (if b then only (refusal a) else [])
short_one true a = short_refusal a
short_one false a = tt

short_refuses : (past : List Entry) (d : ℕ) (a : Answer) (e : Event) → AreShort (refuses past d a e)
short_refuses past d a (event.Open (Some f) taken) = short_one (openings past + 1 == d) a
short_refuses past d a e = tt

short_both : (xs ys : List Frame) → AreShort xs → AreShort ys → AreShort (xs ++ ys)
short_both [] ys h k = k
short_both (x ∷ xs) ys h k = (h.0, short_both xs ys h.1 k)

pub refused_short : (past : List Entry) (d : ℕ) → AreShort (refused past d)
unfolding refused
refused_short [] d = tt
refused_short (x ∷ past) d = short_both (refused past d) (refuses past d x.answer x.event) (refused_short past d) (short_refuses past d x.answer x.event)
