-- The positions that the peer told, and where what is held begins.
use Rattle.std.proofs.Common.{◌≡◌, ◌↔◌, ◌≤◌, ◌-◌, ◌++◌, ◌&&◌, ℕ, Bool, true, false, cond, max, List, [], ◌∷◌, Some, subst, arith, sym, ◌+◌}
use Rattle.rs_wire.specs.declared.settings.Settings.{Settings}
use Rattle.rs_frame.specs.declared.frame.Frame.{Frame}
use Rattle.rs_frame.specs.declared.frame.Frame.TheVariants as frame
use Rattle.rs_frame.specs.Spelling.{length_of}
use Rattle.tape.specs.declared.answer.Answer.{Answer}
use Rattle.tape.specs.declared.answer.Answer.TheVariants as answer
use Rattle.tape.specs.declared.event.Event.{Event}
use Rattle.tape.specs.declared.event.Event.TheVariants as event
use Rattle.tape.specs.declared.entry.Entry.{Entry}
use Rattle.position.specs.Boundaries.{IsBoundary, acked, first as first_held, frames_from, pos, pos_by}
use Rattle.std.specs.Prelude.{nat_lt}
use Rattle.position.proofs.Boundaries.{pos-append, acked-boundary, boundary-le, least-at_least, least-boundary, pos-from}
use Rattle.position.proofs.Growing.{boundary_rest, boundary_whole}
use Rattle.position.proofs.Held.{acked_more, first_more}
use Rattle.std.proofs.lemmas.Bool.Decides.{nat_tests}
use Rattle.session_model.proofs.Breaking.{unbroken}
use Rattle.session_model.specs.Leases.{is_covered}
use Rattle.session_model.specs.Answers.{facts}
use Rattle.session_model.specs.Frames.{first, made, makes}
use Rattle.session_model.specs.Legal.{Legal}
use Rattle.session_model.specs.Life.{resumption_agreed, told, told_in}
use Rattle.session_model.specs.Means.{Means}
use Rattle.session_model.specs.Streams.{known}
use Rattle.session_model.proofs.Meaning.{last_means}
use Rattle.session_laws.proofs.Growth.{made_grows}
use Rattle.session_laws.proofs.Verdict.{kept_boundary, ok_boundary, resume_boundary}

pub told_grows : (g : Settings) (more past : List Entry) → told g past ≤ told g (more ++ past)
unfolding told
told_grows g [] past = omega arith
told_grows g (x ∷ more) past = omega (arith, told_grows g more past)

pub acked_grows : (g : Settings) (more past : List Entry) → acked (made g past) (told g past) ≤ acked (made g (more ++ past)) (told g (more ++ past))
acked_grows g more past =
    let grown = made_grows g more past in
    subst (λ (l : List Frame). acked (made g past) (told g past) ≤ acked l (told g (more ++ past))) grown.1
    (acked_more length_of (made g past) grown.0 (told g past) (told g (more ++ past)) (told_grows g more past))

pub first_grows : (g : Settings) (more past : List Entry) → first g past ≤ first g (more ++ past)
first_grows g more past =
    let grown = made_grows g more past in
    subst (λ (l : List Frame). first g past ≤ first_held l (told g (more ++ past)) g.hold) grown.1
    (first_more length_of (made g past) grown.0 (told g past) (told g (more ++ past)) g.hold (told_grows g more past))

-- ---- what is held

pub first_boundary : (g : Settings) (past : List Entry) → IsBoundary (made g past) (first g past)
first_boundary g past = least-boundary length_of (made g past) (max (acked (made g past) (told g past)) (pos (made g past) - g.hold))

first_least : (g : Settings) (past : List Entry) → max (acked (made g past) (told g past)) (pos (made g past) - g.hold) ≤ first g past
first_least g past =
    let below = boundary-le length_of (made g past) (acked (made g past) (told g past)) (acked-boundary length_of (made g past) (told g past)) in
    least-at_least length_of (made g past) (max (acked (made g past) (told g past)) (pos (made g past) - g.hold)) (omega arith)

pub first_after_acked : (g : Settings) (past : List Entry) → acked (made g past) (told g past) ≤ first g past
first_after_acked g past = omega (arith, first_least g past)

pub held_fits : (g : Settings) (past : List Entry) → pos (frames_from (made g past) (first g past)) ≤ g.hold
held_fits g past = omega (arith, first_least g past, pos-from length_of (made g past) (first g past) (first_boundary g past))

-- a boundary of what is held, from where that begins, is one of what was made
pub held_boundary : (g : Settings) (past : List Entry) (p : ℕ) → first g past ≤ p
    → IsBoundary (made g past) p ↔ IsBoundary (frames_from (made g past) (first g past)) (p - first g past)
held_boundary g past p le =
    let n = first g past in
    let begins = first_boundary g past in
    let same : n + (p - n) ≡ p = omega (arith, le) in (
      λ b. boundary_rest length_of (made g past) n (p - n) begins (subst (IsBoundary (made g past)) (sym same) b),
      λ b. subst (IsBoundary (made g past)) same (boundary_whole length_of (made g past) n (p - n) begins b),
    )

-- ---- what is told

-- a KEEPALIVE is not ahead
within_if : (agreed : Bool) (position made : ℕ) → (agreed && nat_lt made position) ≡ false → cond agreed position 0 ≤ made
within_if true position made is = grind (arith, nat_tests)
within_if false position made is = omega arith

tells_within : (g : Settings) (past : List Entry) (a : Answer) (e : Event) → Means g (facts g past) e a → told_in (resumption_agreed g past) a e ≤ pos (made g past)
unfolding facts
tells_within g past (answer.Opened n) (event.Open (Some (frame.Resume r)) taken) means =
    boundary-le length_of (made g past) r.server_position (kept_boundary g past r.server_position (resume_boundary (facts g past) r means.suits))
tells_within g past answer.Handled (event.Came conn (frame.ResumeOk position)) means =
    boundary-le length_of (made g past) position (kept_boundary g past position (ok_boundary (facts g past) position means.may.1))
tells_within g past answer.Handled (event.Came conn (frame.Keepalive respond position content)) means =
    within_if (resumption_agreed g past) position (pos (made g past)) (unbroken g (facts g past) (frame.Keepalive respond position content) means.may.1)
tells_within g past a e means = omega arith

-- no more than was made is told
pub told_within : (g : Settings) (past : List Entry) → Legal g past → told g past ≤ pos (made g past)
unfolding Legal made told pos_by
told_within g [] legal = omega arith
told_within g (x ∷ past) legal =
    let new = makes g (is_covered g past) (known g past) x.answer x.event in
    omega (arith, told_within g past legal.0, tells_within g past x.answer x.event (last_means g x past legal), pos-append length_of (made g past) new)
