-- No entry of either end accuses the other.
use Rattle.std.proofs.Common.{◌≡◌, ℕ, Bool, true, false, List, [], ◌∷◌, ◌++◌, Option, Some, None, refl, ap, sym, subst, ◌∙◌, append_assoc, append-nil}
use Rattle.rs_wire.specs.declared.fault.Cause.{Cause}
use Rattle.rs_wire.specs.declared.fault.Cause.TheVariants as cause
use Rattle.rs_wire.specs.declared.fault.Rule.{Rule}
use Rattle.rs_wire.specs.declared.settings.Settings.{Settings}
use Rattle.rs_frame.specs.declared.frame.Frame.{Frame}
use Rattle.rs_frame.specs.declared.frame.Frame.TheVariants as frame
use Rattle.position.specs.Boundaries.{pos}
use Rattle.tape.specs.declared.answer.Answer.{Answer}
use Rattle.tape.specs.declared.answer.Answer.TheVariants as answer
use Rattle.tape.specs.declared.entry.Entry.{Entry}
use Rattle.session_model.specs.Leases.{is_covered}
use Rattle.session_model.specs.Lists.{first_of}
use Rattle.session_model.specs.Life.{carrying, closed, closes}
use Rattle.session_model.specs.Streams.{known}
use Rattle.session_model.specs.Frames.{made, makes}
use Rattle.session_model.specs.Answers.{answer_to, facts, to_known}
use Rattle.session_model.specs.Legal.{Legal}
use Rattle.session_model.proofs.Meaning.{last_means}
use Rattle.session_model.proofs.Silent.{silent_closed}
use Rattle.session_laws.specs.Ends.{AreJoined}
use Rattle.session_laws.specs.Streams.{IsLawful}
use Rattle.session_laws.proofs.Growth.{stays_closed}
use Rattle.session_laws.proofs.Lawful.{before_lawful}
use Rattle.honest_laws.specs.Accusing.{AccusesNobody, accuses}
use Rattle.honest_laws.proofs.Arrives.{Arrives, ComesNow, client_arrives, server_arrives}
use Rattle.honest_laws.proofs.Credit.{finds_credit}
use Rattle.honest_laws.proofs.Judged.{KeepsTo, carried_judged, event_judged, frame_judged, waiting_judged}
use Rattle.honest_laws.proofs.NextId.{next_peers_id}

-- ---- a frame that comes

keeps_to : (g h : Settings) (before peer : List Entry) (f : Frame) → Arrives g h before peer f → KeepsTo g (facts g before) f
unfolding facts
keeps_to g h before peer (frame.Request r) a = next_peers_id g h before peer r a
keeps_to g h before peer (frame.Payload s true complete next message) a = λ whole. absurd (cc)
keeps_to g h before peer (frame.Payload s false complete next message) a = λ whole. finds_credit g h before peer s complete next message a
keeps_to g h before peer f a = tt

arrival_judged : (g : Settings) (before : List Entry) (f : Frame) (carries : Bool) → carrying g before ≡ carries → ComesNow carries (pos (made g before)) f → KeepsTo g (facts g before) f
    → accuses (to_known g (facts g before) f) ≡ false
unfolding facts
arrival_judged g before f true on now keeps = carried_judged g (facts g before) f on now keeps
arrival_judged g before f false off now keeps =
    subst (λ (q : Frame). accuses (to_known g (facts g before) q) ≡ false) (sym now.1) (waiting_judged g (facts g before) now.0 off)

-- what comes from an honest peer accuses nobody
judged : (g h : Settings) (before peer : List Entry) (f : Frame) → Arrives g h before peer f → accuses (to_known g (facts g before) f) ≡ false
judged g h before peer f a = arrival_judged g before f (carrying g before) refl a.now (keeps_to g h before peer f a)

-- ---- nothing is made after an answer that accuses

violates : (a : Answer) → accuses a ≡ true → (rule : Rule) × (a ≡ answer.Violation rule)
violates (answer.Violation rule) bad = (rule, refl)
violates a bad = absurd (cc)

some_cause : (before : Option Cause) (why : Cause) → (w : Cause) × (first_of before (Some why) ≡ Some w)
some_cause (Some w) why = (w, refl)
some_cause None why = (why, refl)

closed_by : (g : Settings) (x : Entry) (before : List Entry) → accuses x.answer ≡ true → (why : Cause) × (closed g (x ∷ before) ≡ Some why)
unfolding closed
closed_by g x before bad =
    let v = violates x.answer bad in
    let is : closes g before x.answer x.event ≡ Some (cause.Broken v.0) = subst (λ (a : Answer). closes g before a x.event ≡ Some (cause.Broken v.0)) (sym v.1) refl in
    let w = some_cause (closed g before) (cause.Broken v.0) in
    (w.0, ap (first_of (closed g before)) is ∙ w.1)

makes_none : (g : Settings) (x : Entry) (before : List Entry) → accuses x.answer ≡ true → made g (x ∷ before) ≡ made g before
unfolding made
makes_none g x before bad =
    let v = violates x.answer bad in
    let none : makes g (is_covered g before) (known g before) x.answer x.event ≡ [] = subst (λ (a : Answer). makes g (is_covered g before) (known g before) a x.event ≡ []) (sym v.1) refl in
    ap (λ l. made g before ++ l) none ∙ append-nil (made g before)

made_after : (g : Settings) (newer past : List Entry) (why : Cause) → Legal g (newer ++ past) → closed g past ≡ Some why → made g (newer ++ past) ≡ made g past
unfolding Legal made facts
made_after g [] past why legal is = refl
made_after g (x ∷ newer) past why legal is =
    let still = stays_closed g newer past why is in
    let none = silent_closed g (facts g (newer ++ past)) x.event x.answer why (last_means g x (newer ++ past) legal) still in
    ap (λ l. made g (newer ++ past) ++ l) none ∙ (append-nil (made g (newer ++ past)) ∙ made_after g newer past why legal.0 is)

made_no_more : (g : Settings) (newer : List Entry) (x : Entry) (before : List Entry) → Legal g (newer ++ x ∷ before) → accuses x.answer ≡ true → made g (newer ++ x ∷ before) ≡ made g before
made_no_more g newer x before legal bad = let c = closed_by g x before bad in made_after g newer (x ∷ before) c.0 legal c.1 ∙ makes_none g x before bad

-- ---- one entry

unless_bad : (b : Bool) → (b ≡ true → b ≡ false) → b ≡ false
unless_bad true never = never refl
unless_bad false never = refl

answer_is : (g : Settings) (newer : List Entry) (x : Entry) (before : List Entry) → IsLawful g (newer ++ x ∷ before) → x.answer ≡ answer_to g before x.event
unfolding Legal
answer_is g newer x before lawful = (before_lawful g newer (x ∷ before) lawful).legal.1.answered

client_one : (g h : Settings) (newer : List Entry) (x : Entry) (before S : List Entry) (pair : ℕ → ℕ) → AreJoined g h (newer ++ x ∷ before) S pair → accuses x.answer ≡ false
unfolding facts
client_one g h newer x before S pair j =
    let lawful : IsLawful g (newer ++ x ∷ before) = record { legal = j.ends.client_legal; fair = j.ends.client_fair } in
    unless_bad (accuses x.answer) (λ bad.
    let same = made_no_more g newer x before lawful.legal bad in
    ap accuses (answer_is g newer x before lawful) ∙ event_judged g (facts g before) x.event (λ conn f is.
    frame_judged g (facts g before) conn f (λ here free error.
    judged g h before S f (client_arrives g h newer before S x pair conn f j (record { is = is; here = here; free = free; error = error }) same))))

server_one : (g h : Settings) (C newer : List Entry) (x : Entry) (before : List Entry) (pair : ℕ → ℕ) → AreJoined g h C (newer ++ x ∷ before) pair → accuses x.answer ≡ false
unfolding facts
server_one g h C newer x before pair j =
    let lawful : IsLawful h (newer ++ x ∷ before) = record { legal = j.ends.server_legal; fair = j.ends.server_fair } in
    unless_bad (accuses x.answer) (λ bad.
    let same = made_no_more h newer x before lawful.legal bad in
    ap accuses (answer_is h newer x before lawful) ∙ event_judged h (facts h before) x.event (λ conn f is.
    frame_judged h (facts h before) conn f (λ here free error.
    judged h g before C f (server_arrives g h C newer before x pair conn f j (record { is = is; here = here; free = free; error = error }) same))))

-- ---- all entries

client_front : (g h : Settings) (newer older S : List Entry) (pair : ℕ → ℕ) → AreJoined g h (newer ++ older) S pair → AccusesNobody older
client_front g h newer [] S pair j = tt
client_front g h newer (x ∷ older) S pair j =
    (client_one g h newer x older S pair j, client_front g h (newer ++ x ∷ []) older S pair (subst (λ l. AreJoined g h l S pair) (sym (append_assoc newer (x ∷ []) older)) j))

server_front : (g h : Settings) (C newer older : List Entry) (pair : ℕ → ℕ) → AreJoined g h C (newer ++ older) pair → AccusesNobody older
server_front g h C newer [] pair j = tt
server_front g h C newer (x ∷ older) pair j =
    (server_one g h C newer x older pair j, server_front g h C (newer ++ x ∷ []) older pair (subst (λ l. AreJoined g h C l pair) (sym (append_assoc newer (x ∷ []) older)) j))

pub client_accuses_nobody : (g h : Settings) (C S : List Entry) (pair : ℕ → ℕ) → AreJoined g h C S pair → AccusesNobody C
client_accuses_nobody g h C S pair j = client_front g h [] C S pair j

pub server_accuses_nobody : (g h : Settings) (C S : List Entry) (pair : ℕ → ℕ) → AreJoined g h C S pair → AccusesNobody S
server_accuses_nobody g h C S pair j = server_front g h C [] S pair j
