-- A session that is closed, and what comes on a connection until then.
use Rattle.std.proofs.Common.{◌≡◌, ◌≢◌, ◌<◌, ◌∙◌, inl, inr, ◌⊎◌, ℕ, Bool, true, false, true≢false, List, [], ◌∷◌, ◌++◌, Option, Some, None, refl, sym, arith}
use Rattle.std.proofs.lemmas.Grind.{common_steps}
use Rattle.std.proofs.lemmas.Bool.Decides.{nat_tests}
use Rattle.rs_wire.specs.declared.settings.Settings.{Settings}
use Rattle.rs_wire.specs.declared.fault.Cause.{Cause}
use Rattle.rs_wire.specs.declared.fault.Cause.TheVariants as cause
use Rattle.tape.specs.declared.event.Event.{Event}
use Rattle.tape.specs.declared.event.Event.TheVariants as event
use Rattle.tape.specs.declared.answer.Answer.{Answer}
use Rattle.tape.specs.declared.answer.Answer.TheVariants as answer
use Rattle.tape.specs.declared.entry.Entry.{Entry}
use Rattle.session_model.specs.Answers.{facts}
use Rattle.session_model.specs.Lists.{first_of}
use Rattle.session_model.specs.Life.{begun, closed, closes, closes_so, is_live, live, openings, resumption_agreed}
use Rattle.session_model.specs.Legal.{Legal}
use Rattle.session_model.specs.Means.{Means}
use Rattle.session_model.proofs.Meaning.{last_means}
use Rattle.session_laws.proofs.Growth.{stays_closed}
use Rattle.session_laws.proofs.Quiet.{first_none}
use Rattle.link_model.specs.Leaving.{ClosedOn, ComesInTime, IsOfSession, displaced, parted}
use Rattle.link_laws.specs.Staying.{StaysOn, asks_close, ends}
use Rattle.link_laws.proofs.Staying.{never_parted, not_displaced, on_or_displaced, parted_displaced}

-- ---- why it is closed

closes_local : (begun resumes : Bool) (a : Answer) (e : Event) → closes_so begun resumes a e ≡ Some cause.Local → asks_close e ≡ true
closes_local begun resumes a e is = grind (arith, common_steps)

ends_close : (c : ℕ) (e : Event) → asks_close e ≡ true → ends c e ≡ true
ends_close c (event.Asked asked) is = is
ends_close c _ is = absurd (true≢false (sym is))

closes_cut : (g : Settings) (past : List Entry) (c : ℕ) (begun resumes : Bool) (a : Answer) (e : Event) → Means g (facts g past) e a → is_live (live past) c ≡ true → closes_so begun resumes a e ≡ Some cause.Cut → ends c e ≡ true
unfolding facts
closes_cut g past c begun resumes answer.Parted (event.Cut conn) means here is = grind (arith, common_steps, nat_tests)
closes_cut g past c begun resumes answer.Parted e means here is = absurd means
closes_cut g past c begun resumes a e means here is = absurd (grind (arith, common_steps))

of_session : (g : Settings) (past : List Entry) (c : ℕ) (a : Answer) (e : Event) (why : Cause) → Means g (facts g past) e a → is_live (live past) c ≡ true → ends c e ≡ false → closes g past a e ≡ Some why → IsOfSession why
of_session g past c a e cause.Local means here stays is = absurd (true≢false (sym (ends_close c e (closes_local (begun past) (resumption_agreed g past) a e is)) ∙ stays))
of_session g past c a e cause.Cut means here stays is = absurd (true≢false (sym (closes_cut g past c (begun past) (resumption_agreed g past) a e means here is) ∙ stays))
of_session g past c a e _ means here stays is = tt

first_is : (before after : Option Cause) (why : Cause) → first_of before after ≡ Some why → before ≡ None → after ≡ Some why
first_is None after why is none = is
first_is (Some x) after why is none = absurd (cc)

-- a session that was open, and is closed, was closed on the connection, or another took its place
pub closed_on : (g : Settings) (c : ℕ) (more base : List Entry) (why : Cause) → Legal g (more ++ base) → StaysOn c more → is_live (live base) c ≡ true → closed g base ≡ None → closed g (more ++ base) ≡ Some why
    → (displaced (more ++ base) c ≡ true) ⊎ ClosedOn g (more ++ base) c
unfolding Legal closed displaced ClosedOn
closed_on g c [] base why legal stays here free is = absurd (cc)
closed_on g c (x ∷ more) base why legal stays here free is = by (closed g (more ++ base)) refl (λ before was. closed_on g c more base before legal.0 stays.1 here free was)
  where
    by : (o : Option Cause) → closed g (more ++ base) ≡ o → ((before : Cause) → closed g (more ++ base) ≡ Some before → (displaced (more ++ base) c ≡ true) ⊎ ClosedOn g (more ++ base) c) → (displaced (x ∷ more ++ base) c ≡ true) ⊎ ClosedOn g (x ∷ more ++ base) c
    by (Some before) was earlier = elim (earlier before was) [
      | inl gone ↦ inl (rw gone refl)
      | inr on ↦ inr (inr on)
    ]
    by None was earlier = elim (on_or_displaced g c more base legal.0 stays.1 (inl here)) [
      | inr gone ↦ inl (rw gone refl)
      | inl now ↦ inr (inl (record {
        cause = why;
        before = was;
        after = is;
        other = of_session g (more ++ base) c x.answer x.event why (last_means g x (more ++ base) legal) now stays.0 (first_is (closed g (more ++ base)) (closes g (more ++ base) x.answer x.event) why is was);
        here = now;
      }))
    ]

-- and no call closed it
pub not_local : (g : Settings) (c : ℕ) (more base : List Entry) → StaysOn c more → closed g base ≡ None → closed g (more ++ base) ≢ Some cause.Local
unfolding closed
not_local g c [] base stays free is = absurd (cc)
not_local g c (x ∷ more) base stays free is = by (closed g (more ++ base)) refl (not_local g c more base stays.1 free)
  where
    by : (o : Option Cause) → closed g (more ++ base) ≡ o → closed g (more ++ base) ≢ Some cause.Local → ⊥
    by (Some before) was earlier = earlier (grind (arith, common_steps))
    by None was earlier = true≢false (sym (ends_close c x.event (closes_local (begun (more ++ base)) (resumption_agreed g (more ++ base)) x.answer x.event (first_is (closed g (more ++ base)) (closes g (more ++ base) x.answer x.event) cause.Local is was))) ∙ stays.0)

-- ---- frames come in time

pub early : (g : Settings) (past : List Entry) (c : ℕ) → Legal g past → openings past < c → closed g past ≡ None → ComesInTime g past c
unfolding Legal ComesInTime openings closed
early g [] c legal lt free = tt
early g (x ∷ past) c legal lt free =
    let before : closed g past ≡ None = (first_none (closed g past) (closes g past x.answer x.event) free).0 in
    let le : openings past < c = omega (arith, lt) in
    (early g past c legal.0 le before, λ came. (never_parted g past c legal.0 le, λ local. (let no : None ≡ Some cause.Local = sym before ∙ local in cc)))

pub in_time : (g : Settings) (c : ℕ) (more base : List Entry) → Legal g (more ++ base) → StaysOn c more → parted base c ≡ false → ComesInTime g base c → displaced (more ++ base) c ≡ false → closed g (more ++ base) ≢ Some cause.Local → ComesInTime g (more ++ base) c
unfolding Legal ComesInTime
in_time g c [] base legal stays not early still free = early
in_time g c (x ∷ more) base legal stays not early still unclosed =
    let past = more ++ base in
    let held = not_displaced past x c still in
    let before : closed g past ≢ Some cause.Local = λ local. unclosed (stays_closed g (x ∷ []) past cause.Local local) in
    (in_time g c more base legal.0 stays.1 not early held before, λ came. (on past held, before))
  where
    on : (past : List Entry) → displaced (more ++ base) c ≡ false → parted (more ++ base) c ≡ false
    on past held = elim (parted (more ++ base) c) as (λ v. parted (more ++ base) c ≡ v → v ≡ false) [
      | true ↦ λ gone. absurd (true≢false (sym (parted_displaced g c more base legal.0 stays.1 not gone) ∙ held))
      | false ↦ λ is. refl
    ] refl
