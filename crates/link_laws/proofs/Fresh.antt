-- A new link at a client's opening.
use Rattle.std.proofs.lemmas.Bool.Decides.{nat_tests}
use Rattle.std.proofs.Common.{◌≡◌, ◌<◌, ◌+◌, ℕ, Bool, List, [], ◌∷◌, None, refl, sym, subst, arith}
use Rattle.rs_wire.specs.declared.settings.Settings.{Settings}
use Rattle.rs_frame.specs.declared.frame.Frame.{Frame}
use Rattle.outside.specs.Links.{IsNew, Shown}
use Rattle.tape.specs.declared.event.Event.{Event}
use Rattle.tape.specs.declared.event.Event.TheVariants as event
use Rattle.tape.specs.declared.answer.Answer.{Answer}
use Rattle.tape.specs.declared.answer.Answer.TheVariants as answer
use Rattle.tape.specs.declared.entry.Entry.{Entry}
use Rattle.session_model.specs.Life.{openings}
use Rattle.session_model.specs.Frames.{came, drawn, first_bad}
use Rattle.session_model.specs.Answers.{facts}
use Rattle.session_model.specs.Legal.{Legal}
use Rattle.session_model.specs.Means.{Means}
use Rattle.session_model.proofs.Meaning.{last_means}
use Rattle.session_model.proofs.Openings.{drawn_later}
use Rattle.session_laws.proofs.Life.{bad_later, came_later}
use Rattle.link_model.specs.Reading.{HasRead}
use Rattle.link_model.specs.Carrying.{IsFresh}
use Rattle.link_model.proofs.Bytes.{if_some}

-- the number of an opening
number_is : (g : Settings) (past : List Entry) (x : Entry) (taken : Bool) (c : ℕ) → Legal g (x ∷ past) → x.event ≡ event.Open None taken → x.answer ≡ answer.Opened c → c ≡ openings past + 1
unfolding facts
number_is g past x taken c legal is opened =
    let m : Means g (facts g past) (event.Open None taken) (answer.Opened c) = subst (λ (a : Answer). Means g (facts g past) (event.Open None taken) a) opened (subst (λ (e : Event). Means g (facts g past) e x.answer) is (last_means g x past legal)) in
    m.next

pub opened_fresh : (g : Settings) (past : List Entry) (x : Entry) (link : Shown) (taken : Bool) (c : ℕ) → Legal g (x ∷ past) → x.event ≡ event.Open None taken → x.answer ≡ answer.Opened c → IsNew link → IsFresh g (x ∷ past) link c []
unfolding Legal openings first_bad came drawn
opened_fresh g past x link taken c legal is opened new =
    let number = number_is g past x taken c legal is opened in
    let before : openings past < c = omega arith in
    let one : openings (x ∷ past) ≡ openings past + 1 = rw is refl in
    let good : first_bad (x ∷ past) c ≡ None = rw (is, bad_later past c before) refl in
    let came_none : came (x ∷ past) c ≡ [] = rw (is, came_later past c before) refl in
    record {
      opened = grind (arith, nat_tests, one, number);
      good = good;
      undrawn = rw (is, opened) (let none = drawn_later g past c legal.0 before in omega (arith, none));
      ungiven = new.given;
      taken = if_some link.taken (λ (bytes : List ℕ) (none : bytes ≡ []). subst (λ (fs : List Frame). HasRead fs None g.max_in [] bytes) (sym came_none) (record {
        spellings = [];
        more = [];
        spelled = tt;
        cut = record { whole = none; fit = tt };
        after = refl;
      })) new.taken;
    }
