-- What holds once an opening is accepted.
use Rattle.std.proofs.Common.{◌≡◌, ◌<◌, ◌+◌, ◌==◌, ℕ, Bool, true, false, true≢false, List, ◌∷◌, Some, None, refl, sym, arith}
use Rattle.std.proofs.lemmas.Grind.{common_steps}
use Rattle.std.proofs.lemmas.Bool.Decides.{nat_tests}
use Rattle.rs_wire.specs.declared.settings.Settings.{Settings}
use Rattle.rs_frame.specs.declared.frame.Frame.{Frame}
use Rattle.tape.specs.Told.{entry_of}
use Rattle.tape.specs.declared.event.Event.TheVariants as event
use Rattle.tape.specs.declared.answer.Answer.TheVariants as answer
use Rattle.tape.specs.declared.entry.Entry.{Entry}
use Rattle.session_model.specs.Answers.{facts}
use Rattle.session_model.specs.Life.{closed, is_live, live, openings}
use Rattle.session_model.specs.Frames.{came, drawn, first_bad}
use Rattle.session_model.specs.Legal.{Legal}
use Rattle.session_model.specs.Means.{Opening}
use Rattle.session_model.proofs.Meaning.{last_means}
use Rattle.session_model.proofs.Openings.{drawn_later, live_le}
use Rattle.session_laws.proofs.Life.{bad_later, came_later}
use Rattle.link_model.specs.Leaving.{ComesInTime, parted}
use Rattle.link_laws.specs.Opened.{IsJustOpened}
use Rattle.link_laws.proofs.Staying.{never_parted}
use Rattle.link_laws.proofs.Ended.{early}

next_is : (g : Settings) (before : List Entry) (who : ℕ) (first : Frame) (taken : Bool) (c : ℕ) → Legal g (entry_of who (event.Open (Some first) taken) (answer.Opened c) ∷ before) → c ≡ openings before + 1
unfolding facts
next_is g before who first taken c legal =
    let m : Opening g (facts g before) (Some first) taken c = last_means g (entry_of who (event.Open (Some first) taken) (answer.Opened c)) before legal in
    m.next

free_is : (g : Settings) (before : List Entry) (who : ℕ) (first : Frame) (taken : Bool) (c : ℕ) → Legal g (entry_of who (event.Open (Some first) taken) (answer.Opened c) ∷ before) → closed g before ≡ None
unfolding facts
free_is g before who first taken c legal =
    let m : Opening g (facts g before) (Some first) taken c = last_means g (entry_of who (event.Open (Some first) taken) (answer.Opened c)) before legal in
    m.free

legal_before : (g : Settings) (x : Entry) (before : List Entry) → Legal g (x ∷ before) → Legal g before
unfolding Legal
legal_before g x before legal = legal.0

pub just_opened : (g : Settings) (before : List Entry) (who c : ℕ) (first : Frame) (taken : Bool) → Legal g (entry_of who (event.Open (Some first) taken) (answer.Opened c) ∷ before)
    → IsJustOpened g (entry_of who (event.Open (Some first) taken) (answer.Opened c) ∷ before) c first
unfolding live openings closed parted ComesInTime first_bad drawn came
just_opened g before who c first taken legal =
    let earlier = legal_before g (entry_of who (event.Open (Some first) taken) (answer.Opened c)) before legal in
    let next : c ≡ openings before + 1 = next_is g before who first taken c legal in
    let lt : openings before < c = omega (arith, next) in
    let free = free_is g before who first taken c legal in
    let le = live_le g before earlier in
    let off : is_live (live before) c ≡ false = grind (arith, common_steps, nat_tests) in
    let same : (openings before + 1 == c) ≡ true = grind (arith, nat_tests) in
    record {
      here = grind (arith, common_steps, nat_tests);
      opened = grind (arith, common_steps, nat_tests);
      free = rw free refl;
      joined = rw (never_parted g before c earlier lt, off) refl;
      in_time = (early g before c earlier lt free, λ came. absurd (true≢false (sym came)));
      good = rw (bad_later before c lt) refl;
      undrawn = rw (drawn_later g before c earlier lt) refl;
      came = rw (came_later before c lt, same) refl;
    }
