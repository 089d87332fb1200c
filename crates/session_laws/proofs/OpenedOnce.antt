-- Each opening has a number of its own, and the SETUP that was accepted stays.
use Rattle.std.proofs.Common.{◌≡◌, ◌≢◌, ◌≤◌, ◌<◌, ◌+◌, ℕ, Bool, true, false, List, [], ◌∷◌, ◌++◌, Option, Some, refl, ap, subst, arith}
use Rattle.std.proofs.lemmas.Bool.Decides.{nat_tests}
use Rattle.rs_wire.specs.declared.settings.Settings.{Settings}
use Rattle.rs_frame.specs.declared.frame.Frame.TheVariants as frame
use Rattle.rs_frame.specs.declared.frame.Resume.{Resume}
use Rattle.rs_frame.specs.declared.frame.Setup.{Setup}
use Rattle.tape.specs.declared.answer.Answer.{Answer}
use Rattle.tape.specs.declared.answer.Answer.TheVariants as answer
use Rattle.tape.specs.declared.event.Event.{Event}
use Rattle.tape.specs.declared.event.Event.TheVariants as event
use Rattle.tape.specs.declared.entry.Entry.{Entry}
use Rattle.stream_model.specs.Streams.{one_if}
use Rattle.session_model.specs.Answers.{answer_to, facts}
use Rattle.session_model.specs.Joined.{opens_as}
use Rattle.session_model.specs.Legal.{Legal}
use Rattle.session_model.specs.Life.{openings, openings_in, setup, setup_in}
use Rattle.session_model.specs.Lists.{first_of}
use Rattle.session_model.specs.Means.{Means}
use Rattle.session_model.proofs.Agreed.{no_resumption, resumed_agreed}
use Rattle.session_model.proofs.Meaning.{last_means, meaning}
use Rattle.session_laws.specs.Openings.{times_opened}

-- ---- once

-- an entry that opens has the number of its opening
opens_next : (g : Settings) (past : List Entry) (c : ℕ) (a : Answer) (e : Event) → Means g (facts g past) e a → opens_as c a ≡ true → c ≡ openings past + openings_in e
unfolding facts
opens_next g past c (answer.Opened n) (event.Open first taken) means is = let next = means.next in grind (arith, nat_tests)
opens_next g past c (answer.Opened n) e means is = absurd means
opens_next g past c a e means is = absurd (cc)

none_yet : (g : Settings) (past : List Entry) (c : ℕ) → Legal g past → openings past < c → times_opened past c ≡ 0
unfolding Legal openings times_opened
none_yet g [] c legal lt = refl
none_yet g (x ∷ past) c legal lt =
    let before = none_yet g past c legal.0 (omega (arith, lt)) in
    elim (opens_as c x.answer) as (λ v. opens_as c x.answer ≡ v → times_opened past c + one_if v ≡ 0) [
      | true ↦ λ is. let next = opens_next g past c x.answer x.event (last_means g x past legal) is in absurd (omega (arith, lt, next))
      | false ↦ λ is. omega (arith, before)
    ] refl

an_opening : (past : List Entry) (e : Event) (c : ℕ) → c ≡ openings past + openings_in e → 0 < openings_in e → openings past < c
an_opening past e c next some = omega (arith, next, some)

opens_one : (g : Settings) (past : List Entry) (c : ℕ) (a : Answer) (e : Event) → Means g (facts g past) e a → opens_as c a ≡ true → 0 < openings_in e
opens_one g past c (answer.Opened n) (event.Open first taken) means is = omega arith
opens_one g past c (answer.Opened n) e means is = absurd means
opens_one g past c a e means is = absurd (cc)

pub opened_once : (g : Settings) (past : List Entry) (c : ℕ) → Legal g past → times_opened past c ≤ 1
unfolding Legal times_opened
opened_once g [] c legal = omega arith
opened_once g (x ∷ past) c legal =
    let before = opened_once g past c legal.0 in
    let means = last_means g x past legal in
    elim (opens_as c x.answer) as (λ v. opens_as c x.answer ≡ v → times_opened past c + one_if v ≤ 1) [
      | true ↦ λ is.
          let next = opens_next g past c x.answer x.event means is in
          let none = none_yet g past c legal.0 (an_opening past x.event c next (opens_one g past c x.answer x.event means is)) in
          omega (arith, none)
      | false ↦ λ is. omega (arith, before)
    ] refl

-- ---- the SETUP

pub setup_stays : (more past : List Entry) (accepted : Setup) → setup past ≡ Some accepted → setup (more ++ past) ≡ Some accepted
unfolding setup
setup_stays [] past accepted is = is
setup_stays (x ∷ more) past accepted is = ap (λ (o : Option Setup). first_of o (setup_in x.answer x.event)) (setup_stays more past accepted is)

-- ---- no RESUME

pub resumes_none : (g : Settings) (past : List Entry) (r : Resume) (taken : Bool) (c : ℕ) → Legal g past → g.resume ≡ false → answer_to g past (event.Open (Some (frame.Resume r)) taken) ≢ answer.Opened c
resumes_none g past r taken c legal none is =
    let e : Event = event.Open (Some (frame.Resume r)) taken in
    let means : Means g (facts g past) e (answer.Opened c) = subst (Means g (facts g past) e) is (meaning g (facts g past) e) in
    let agreed = resumed_agreed g past r legal means.suits in
    let off = no_resumption g past legal none in
    absurd (cc)
