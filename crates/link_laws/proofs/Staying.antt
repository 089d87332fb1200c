-- A connection that nobody else ends: it is live, or another took its place.
use Rattle.std.proofs.Common.{◌≡◌, ◌<◌, ◌==◌, ◌∙◌, inl, inr, ◌⊎◌, ℕ, true, false, true≢false, List, [], ◌∷◌, ◌++◌, refl, sym, arith}
use Rattle.std.proofs.lemmas.Grind.{common_steps}
use Rattle.std.proofs.lemmas.Bool.Decides.{nat_tests}
use Rattle.rs_wire.specs.declared.settings.Settings.{Settings}
use Rattle.tape.specs.declared.event.Event.{Event}
use Rattle.tape.specs.declared.event.Event.TheVariants as event
use Rattle.tape.specs.declared.answer.Answer.{Answer}
use Rattle.tape.specs.declared.answer.Answer.TheVariants as answer
use Rattle.tape.specs.declared.entry.Entry.{Entry}
use Rattle.session_model.specs.Answers.{facts}
use Rattle.session_model.specs.Life.{is_live, live, live_after, openings}
use Rattle.session_model.specs.Legal.{Legal}
use Rattle.session_model.specs.Means.{Means}
use Rattle.session_model.proofs.Meaning.{last_means}
use Rattle.session_model.proofs.Openings.{live_le}
use Rattle.link_model.specs.Leaving.{displaced, parted, takes_place}
use Rattle.link_laws.specs.Staying.{StaysOn, ends}

-- connection c is live, or a later opening took its place, or its peer counted as dead
abbrev pub IsOnOrDisplaced : List Entry → ℕ → Type 0
IsOnOrDisplaced past c = (is_live (live past) c ≡ true) ⊎ (displaced past c ≡ true)

-- an answer after which another connection is live, or none, where nobody cuts it
moves_place : (g : Settings) (past : List Entry) (c : ℕ) (a : Answer) (e : Event) → Means g (facts g past) e a → ends c e ≡ false → is_live (live past) c ≡ true
    → (is_live (live_after a (live past)) c ≡ true) ⊎ (takes_place a ≡ true)
unfolding facts
moves_place g past c (answer.Opened n) e means stays here = inr refl
moves_place g past c (answer.Dead last) e means stays here = inr refl
moves_place g past c answer.Parted (event.Cut conn) means stays here = absurd (grind (arith, common_steps, nat_tests))
moves_place g past c answer.Parted e means stays here = absurd means
moves_place g past c a e means stays here = inl here

pub on_or_displaced : (g : Settings) (c : ℕ) (more base : List Entry) → Legal g (more ++ base) → StaysOn c more → IsOnOrDisplaced base c → IsOnOrDisplaced (more ++ base) c
unfolding Legal live displaced
on_or_displaced g c [] base legal stays on = on
on_or_displaced g c (x ∷ more) base legal stays on = elim (on_or_displaced g c more base legal.0 stays.1 on) [
  | inr gone ↦ inr (rw gone refl)
  | inl here ↦ elim (moves_place g (more ++ base) c x.answer x.event (last_means g x (more ++ base) legal) stays.0 here) [
    | inl still ↦ inl still
    | inr takes ↦ inr (rw (here, takes) (grind (arith, common_steps)))
  ]
]

-- ---- what follows of it

displaced_by : (past : List Entry) (x : Entry) (c : ℕ) → displaced past c ≡ true → displaced (x ∷ past) c ≡ true
unfolding displaced
displaced_by past x c gone = rw gone refl

pub displaced_more : (more past : List Entry) (c : ℕ) → displaced past c ≡ true → displaced (more ++ past) c ≡ true
displaced_more [] past c gone = gone
displaced_more (x ∷ more) past c gone = displaced_by (more ++ past) x c (displaced_more more past c gone)

pub not_displaced : (past : List Entry) (x : Entry) (c : ℕ) → displaced (x ∷ past) c ≡ false → displaced past c ≡ false
not_displaced past x c stays = elim (displaced past c) as (λ v. displaced past c ≡ v → v ≡ false) [
  | true ↦ λ gone. absurd (true≢false (sym (displaced_by past x c gone) ∙ stays))
  | false ↦ λ is. refl
] refl

-- an answer by which a connection is parted that nobody cuts
parts_place : (g : Settings) (past : List Entry) (c : ℕ) (a : Answer) (e : Event) → Means g (facts g past) e a → ends c e ≡ false → is_live (live past) c ≡ true
    → (live_after a (live past) == 0) ≡ true → takes_place a ≡ true
parts_place g past c (answer.Opened n) e means stays here none = refl
parts_place g past c (answer.Dead last) e means stays here none = refl
parts_place g past c a e means stays here none = elim (moves_place g past c a e means stays here) [
  | inl still ↦ absurd (grind (arith, common_steps, nat_tests))
  | inr takes ↦ takes
]

pub parted_displaced : (g : Settings) (c : ℕ) (more base : List Entry) → Legal g (more ++ base) → StaysOn c more → parted base c ≡ false → parted (more ++ base) c ≡ true → displaced (more ++ base) c ≡ true
unfolding Legal parted displaced
parted_displaced g c [] base legal stays not gone = absurd (true≢false (sym gone ∙ not))
parted_displaced g c (x ∷ more) base legal stays not gone = elim (parted (more ++ base) c) as (λ v. parted (more ++ base) c ≡ v → displaced (x ∷ more ++ base) c ≡ true) [
  | true ↦ λ was. displaced_by (more ++ base) x c (parted_displaced g c more base legal.0 stays.1 not was)
  | false ↦ λ was. elim (is_live (live (more ++ base)) c) as (λ v. is_live (live (more ++ base)) c ≡ v → displaced (x ∷ more ++ base) c ≡ true) [
    | true ↦ λ here.
        let none : (live_after x.answer (live (more ++ base)) == 0) ≡ true = grind (arith, common_steps) in
        let takes = parts_place g (more ++ base) c x.answer x.event (last_means g x (more ++ base) legal) stays.0 here none in
        rw (here, takes) (grind (arith, common_steps))
    | false ↦ λ off. absurd (grind (arith, common_steps))
  ] refl
] refl

-- before its opening it is not parted
pub never_parted : (g : Settings) (past : List Entry) (c : ℕ) → Legal g past → openings past < c → parted past c ≡ false
unfolding Legal parted openings
never_parted g [] c legal lt = refl
never_parted g (x ∷ past) c legal lt =
    let le = live_le g past legal.0 in
    let before = never_parted g past c legal.0 (omega (arith, lt)) in
    let off : is_live (live past) c ≡ false = grind (arith, common_steps, nat_tests) in
    rw (before, off) refl
