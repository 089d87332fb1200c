-- Why a link may be left, and that it may still be later.
use Rattle.std.proofs.Common.{◌≡◌, ◌≤◌, ◌-◌, ◌∙◌, inl, inr, ℕ, Bool, true, false, if◌then◌else◌, List, [], ◌∷◌, ◌++◌, length, Some, refl, sym, ap, subst, arith, append-nil}
use Rattle.std.proofs.lemmas.Grind.{common_steps}
use Rattle.std.proofs.lemmas.Bool.Decides.{nat_tests}
use Rattle.std.proofs.lemmas.List.{take_all}
use Rattle.rs_wire.specs.declared.settings.Settings.{Settings}
use Rattle.rs_wire.specs.declared.fault.Cause.{Cause}
use Rattle.rs_frame.specs.declared.frame.Frame.{Frame}
use Rattle.rs_frame.specs.Framed.{framed_all}
use Rattle.outside.specs.Links.{Shown}
use Rattle.tape.specs.declared.event.Event.{Event}
use Rattle.tape.specs.declared.answer.Answer.{Answer}
use Rattle.tape.specs.declared.entry.Entry.{Entry}
use Rattle.session_model.specs.Answers.{facts, refused_call}
use Rattle.session_model.specs.Life.{carrying, closed, is_live, live, live_after}
use Rattle.session_model.specs.Leases.{is_covered}
use Rattle.session_model.specs.Streams.{known}
use Rattle.session_model.specs.Frames.{beside, drawn, due, if_carrying, lines_up, makes, owes, queued, was_opened}
use Rattle.session_model.specs.Legal.{Legal}
use Rattle.session_model.specs.Means.{Means}
use Rattle.session_model.proofs.Meaning.{last_means}
use Rattle.session_model.proofs.Silent.{silent_closed}
use Rattle.session_laws.proofs.Growth.{stays_closed}
use Rattle.link_model.specs.Carrying.{Between, Keeps, is_of}
use Rattle.link_model.specs.Giving.{HasGiven}
use Rattle.link_model.specs.Leaving.{ClosedOn, IsAllGiven, Left, displaced}
use Rattle.link_model.proofs.Bytes.{if_some}
use Rattle.link_laws.proofs.StaysGood.{heard_on}
use Rattle.link_laws.proofs.Staying.{displaced_more}

-- ---- all that is due was given

live_is : (past : List Entry) (c : ℕ) → is_live (live past) c ≡ true → live past ≡ c
live_is past c here = grind (arith, common_steps, nat_tests)

pub all_given : (g : Settings) (past : List Entry) (link : Shown) (b : Between) → Keeps g past link b → b.left ≡ [] → is_live (live past) b.conn ≡ true → queued g past ≡ 0 → IsAllGiven g past link b.conn
unfolding queued
all_given g past link b k none here empty =
    let due_here = framed_all (due g past b.conn) in
    let at : length due_here - drawn past b.conn ≡ 0 = subst (λ c. length (framed_all (due g past c)) - drawn past c ≡ 0) (live_is past b.conn here) empty in
    let le : length due_here ≤ drawn past b.conn = omega (arith, at) in
    if_some link.given (λ (bytes : List ℕ) (h : HasGiven g past b.conn b.left bytes). sym (append-nil bytes) ∙ (ap (λ l. bytes ++ l) (sym none) ∙ (h.all ∙ take_all (drawn past b.conn) due_here le))) k.given

-- ---- nothing more is due once the session is closed

closed_beside : (g : Settings) (past : List Entry) (e : Event) (a : Answer) (why : Cause) → Means g (facts g past) e a → closed g past ≡ Some why → beside g past a e ≡ []
unfolding facts refused_call
closed_beside g past e a why means is = grind (arith, common_steps, means, is)

pub closed_owes : (g : Settings) (past : List Entry) (c : ℕ) (e : Event) (a : Answer) (why : Cause) → Means g (facts g past) e a → closed g past ≡ Some why → owes g past c a e ≡ []
unfolding facts
closed_owes g past c e a why means is =
    let none : makes g (is_covered g past) (known g past) a e ≡ [] = silent_closed g (facts g past) e a why means is in
    let lines : lines_up g past a e ≡ [] = rw (closed_beside g past e a why means is, none) (lines_of (carrying g past)) in
    owed (is_live (live_after a (live past)) c) lines
  where
    lines_of : (b : Bool) → [] ++ if_carrying b [] ≡ []
    lines_of true = refl
    lines_of false = refl

    owed : (b : Bool) → lines_up g past a e ≡ [] → (if b then lines_up g past a e else []) ≡ []
    owed true is = is
    owed false is = refl

-- ---- a link that may be left may be left later

closed_at : (g : Settings) (past : List Entry) (c : ℕ) → ClosedOn g past c → (why : Cause) × (closed g past ≡ Some why)
unfolding ClosedOn
closed_at g [] c on = absurd on
closed_at g (x ∷ past) c (inl at) = (at.cause, at.after)
closed_at g (x ∷ past) c (inr on) = let h = closed_at g past c on in (h.0, stays_closed g (x ∷ []) past h.0 h.1)

given_later : (g : Settings) (x : Entry) (past : List Entry) (link : Shown) (c : ℕ) (why : Cause) → Legal g (x ∷ past) → closed g past ≡ Some why → IsAllGiven g past link c → IsAllGiven g (x ∷ past) link c
unfolding due
given_later g x past link c why legal is all =
    let none : owes g past c x.answer x.event ≡ [] = closed_owes g past c x.event x.answer why (last_means g x past legal) is in
    let same : due g (x ∷ past) c ≡ due g past c = ap (λ (fs : List Frame). due g past c ++ fs) none ∙ append-nil (due g past c) in
    if_some link.given (λ bytes h. h ∙ ap framed_all (sym same)) all

pub left_by_one : (g : Settings) (x : Entry) (past : List Entry) (link : Shown) (c : ℕ) → Legal g (x ∷ past) → was_opened past c ≡ true → is_of c x.event ≡ false → Left g past link c → Left g (x ∷ past) link c
unfolding displaced ClosedOn
left_by_one g x past link c legal opened apart (inl full) = inl (omega (arith, full))
left_by_one g x past link c legal opened apart (inr (inl gone)) = inr (inl (displaced_more (x ∷ []) past c gone))
left_by_one g x past link c legal opened apart (inr (inr (inl (on, inl all)))) = let h = closed_at g past c on in inr (inr (inl (inr on, inl (given_later g x past link c h.0 legal h.1 all))))
left_by_one g x past link c legal opened apart (inr (inr (inl (on, inr broken)))) = inr (inr (inl (inr on, inr broken)))
left_by_one g x past link c legal opened apart (inr (inr (inr (broken, heard)))) = inr (inr (inr (broken, heard_on g past x link c apart opened heard)))
