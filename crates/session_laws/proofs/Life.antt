-- What is not there before a session is begun, or before an opening.
use Rattle.std.proofs.Common.{◌≡◌, ◌<◌, ◌||◌, ℕ, inl, inr, Bool, true, false, List, [], ◌∷◌, None, refl, arith}
use Rattle.std.proofs.lemmas.Grind.{common_steps}
use Rattle.std.proofs.lemmas.Bool.{cases_lt}
use Rattle.rs_wire.specs.declared.settings.Settings.{Settings}
use Rattle.rs_frame.specs.declared.frame.Frame.{Frame}
use Rattle.tape.specs.declared.entry.Entry.{Entry}
use Rattle.session_model.specs.Life.{begun, is_opened, live, openings}
use Rattle.session_model.specs.Frames.{made, handled, came, first_bad}
use Rattle.session_model.specs.Answers.{facts}
use Rattle.session_model.specs.Legal.{Legal}
use Rattle.session_model.specs.Joined.{IsOpening}
use Rattle.session_model.proofs.Meaning.{last_means}
use Rattle.session_model.proofs.Silent.{silent_before}

-- ---- before the session is begun

-- no connection is live
pub fresh_live : (past : List Entry) → begun past ≡ false → live past ≡ 0
unfolding begun live
fresh_live [] f = refl
fresh_live (x ∷ past) f = grind (arith, common_steps, fresh_live past)

not_begun : (before opened : Bool) → (before || opened) ≡ false → before ≡ false
not_begun false opened f = refl
not_begun true opened f = absurd (cc)

-- nothing is made
pub fresh_made : (g : Settings) (past : List Entry) → Legal g past → begun past ≡ false → made g past ≡ []
unfolding Legal begun made facts
fresh_made g [] legal f = refl
fresh_made g (x ∷ past) legal f =
    let fresh = not_begun (begun past) (is_opened x.answer) f in
    rw (fresh_made g past legal.0 fresh) (silent_before g (facts g past) x.event x.answer (last_means g x past legal) fresh (fresh_live past fresh))

-- nothing is handled
pub fresh_handled : (g : Settings) (past : List Entry) → Legal g past → begun past ≡ false → handled past ≡ []
unfolding Legal begun handled facts
fresh_handled g [] legal f = refl
fresh_handled g (x ∷ past) legal f =
    let fresh = not_begun (begun past) (is_opened x.answer) f in
    let none = fresh_live past fresh in
    rw (fresh_handled g past legal.0 fresh) (grind (arith, common_steps, last_means g x past legal))

-- ---- before an opening

-- nothing came there
pub came_later : (past : List Entry) (c : ℕ) → openings past < c → came past c ≡ []
unfolding came openings
came_later [] c lt = refl
came_later (x ∷ past) c lt = grind (arith, common_steps, came_later past c)

pub bad_later : (past : List Entry) (c : ℕ) → openings past < c → first_bad past c ≡ None
unfolding first_bad openings
bad_later [] c lt = refl
bad_later (x ∷ past) c lt = grind (arith, common_steps, bad_later past c)

-- openings are counted from 1
came_nowhere : (past : List Entry) → came past 0 ≡ []
unfolding came
came_nowhere [] = refl
came_nowhere (x ∷ past) = grind (arith, common_steps, came_nowhere past)

-- where something came there was an opening
pub came_some : (past : List Entry) (c : ℕ) (f : Frame) (fs : List Frame) → came past c ≡ f ∷ fs → IsOpening past c
came_some past c f fs some = elim (cases_lt (openings past) c) [
  | inl later ↦ let none = came_later past c later in absurd (cc)
  | inr within ↦ elim (cases_lt 0 c) [
    | inl above ↦ record { above = above; within = within }
    | inr zero ↦ let none = came_nowhere past in let same : c ≡ 0 = omega arith in absurd (cc)
  ]
]
