-- What a caller knows of the link of its connection holds once all callers are taken in.
use Rattle.std.specs.List.{AllByRecursion}
use Rattle.std.proofs.lemmas.Bool.Decides.{nat_tests}
use Rattle.std.proofs.Common.{◌≡◌, ◌<◌, ◌≤◌, ◌+◌, ◌==◌, ℕ, zero, suc, Bool, true, false, if◌then◌else◌, List, [], ◌∷◌, ◌++◌, Option, refl, sym, subst, arith}
use Rattle.rs_wire.specs.declared.call.Call.{Call}
use Rattle.rs_wire.specs.declared.settings.Settings.{Settings}
use Rattle.outside.specs.Links.{Shown}
use Rattle.tape.specs.declared.answer.Answer.{Answer}
use Rattle.tape.specs.declared.answer.Answer.TheVariants as answer
use Rattle.tape.specs.declared.entry.Entry.{Entry}
use Rattle.tape.specs.declared.event.Event.{Event}
use Rattle.tape.specs.declared.event.Event.TheVariants as event
use Rattle.session_model.specs.Answers.{facts}
use Rattle.session_model.specs.Frames.{was_opened}
use Rattle.session_model.specs.Legal.{Legal}
use Rattle.session_model.specs.Life.{openings, openings_in}
use Rattle.session_model.specs.Means.{Means}
use Rattle.session_model.proofs.Meaning.{last_means}
use Rattle.session_laws.proofs.OpenedOnce.{opened_once}
use Rattle.link_model.specs.Carrying.{Carried, IsAlone, is_of}
use Rattle.link_laws.proofs.Ending.{left_later}
use Rattle.link_laws.proofs.StaysGood.{carried_on}
use Rattle.conn_lock.specs.Callers.{times}
use Rattle.serve_model.specs.Counts.{opened_by, accepts_as}
use Rattle.serve_model.specs.Links.{IsLinked, KnowsLink}
use Rattle.serve_model.specs.Names.{GoesOnBy, Under}
use Rattle.serve_model.specs.Order.{HasNoClose, IsHandledByOwner, IsOwn, IsQuiet, is_opening}
use Rattle.serve_model.proofs.Counts.{leases_on, opened_more}
use Rattle.serve_model.proofs.Names.{all_split, all_two, under_as}
use Rattle.serve_model.proofs.Owners.{opener_alone, opener_holds}

-- ---- a connection that was opened

opens_within : (g : Settings) (past : List Entry) (c : ℕ) (a : Answer) (e : Event) → Means g (facts g past) e a → 0 < accepts_as c e a → (0 < c) × (c ≤ openings past + openings_in e)
unfolding facts
opens_within g past c (answer.Opened n) (event.Open first taken) means some = let next = means.next in (grind (arith, nat_tests), grind (arith, nat_tests))
opens_within g past c a (event.Open first taken) means some = absurd (omega (arith, some))
opens_within g past c a e means some = absurd (omega (arith, some))

pub opened_within : (g : Settings) (n c : ℕ) (past : List Entry) → Legal g past → 0 < opened_by n c past → (0 < c) × (c ≤ openings past)
unfolding opened_by openings Legal
opened_within g n c [] legal some = absurd (omega (arith, some))
opened_within g n c (x ∷ past) legal some = by (accepts_as c x.event x.answer) refl (x.who == n) some (λ k. opened_within g n c past legal.0 k)
  where
    by : (k : ℕ) → accepts_as c x.event x.answer ≡ k → (b : Bool) → 0 < opened_by n c past + (if b then accepts_as c x.event x.answer else 0) → (0 < opened_by n c past → (0 < c) × (c ≤ openings past)) → (0 < c) × (c ≤ openings past + openings_in x.event)
    by (suc k) is b some before = opens_within g past c x.answer x.event (last_means g x past legal) (omega (arith, is))
    by zero is true some before = let h = before (omega (arith, is, some)) in (h.0, omega (arith, h.1))
    by zero is false some before = let h = before (omega (arith, some)) in (h.0, omega (arith, h.1))

pub opened_was : (g : Settings) (n c : ℕ) (past : List Entry) → Legal g past → 0 < opened_by n c past → was_opened past c ≡ true
opened_was g n c past legal some = let h = opened_within g n c past legal some in grind (arith, nat_tests, h.0, h.1)

was_more : (c : ℕ) (more past : List Entry) → was_opened past c ≡ true → was_opened (more ++ past) c ≡ true
unfolding openings
was_more c [] past is = is
was_more c (x ∷ more) past is = let h = was_more c more past is in grind (arith, nat_tests, h)

pub carried_later : (g : Settings) (link : Shown) (c : ℕ) (more past : List Entry) → was_opened past c ≡ true → AllByRecursion (λ (x : Entry). is_of c x.event ≡ false) more → Carried g past link c → Carried g (more ++ past) link c
carried_later g link c [] past opened none h = h
carried_later g link c (x ∷ more) past opened none h = carried_on g (more ++ past) x link c none.0 (was_more c more past opened) (carried_later g link c more past opened none.1 h)

-- ---- what the caller adds later

legal_earlier : (g : Settings) (more past : List Entry) → Legal g (more ++ past) → Legal g past
unfolding Legal
legal_earlier g [] past legal = legal
legal_earlier g (x ∷ more) past legal = legal_earlier g more past legal.0

quiet_opens : (e : Event) → IsQuiet e → is_opening e ≡ false
quiet_opens (event.Asked asked) quiet = refl
quiet_opens (event.Cut conn) quiet = refl
quiet_opens e quiet = absurd quiet

quiet_moves : (c : ℕ) (e : Event) → IsQuiet e → is_of c e ≡ false
quiet_moves c (event.Asked asked) quiet = refl
quiet_moves c (event.Cut conn) quiet = refl
quiet_moves c e quiet = absurd quiet

not_of : (n c : ℕ) (x : Entry) → (is_of c x.event ≡ true → x.who ≡ n) → (0 < times x.who (n ∷ []) → IsQuiet x.event) → is_of c x.event ≡ false
not_of n c x alone quiet = elim (is_of c x.event) as (λ v. is_of c x.event ≡ v → v ≡ false) [
  | true ↦ λ is. let mine : x.who ≡ n = alone is in let none = quiet_moves c x.event (quiet (grind (arith, nat_tests, mine))) in absurd (cc)
  | false ↦ λ is. refl
] refl

pub none_moved : (n c : ℕ) (more : List Entry) → IsAlone c n more → Under (n ∷ []) (λ x. IsQuiet x.event) more → AllByRecursion (λ (x : Entry). is_of c x.event ≡ false) more
none_moved n c more alone quiet = all_two (λ x. is_of c x.event ≡ true → x.who ≡ n) (λ x. 0 < times x.who (n ∷ []) → IsQuiet x.event) (λ x. is_of c x.event ≡ false) (λ x a q. not_of n c x a q) more alone quiet

-- ---- the link

pub is_linked : (g : Settings) (lease : Option Call) (n c : ℕ) (front past : List Entry) (link : Shown) → Legal g past → AllByRecursion (IsOwn past) past
    → AllByRecursion (IsHandledByOwner past) front → HasNoClose front → 0 < opened_by n c front → GoesOnBy (n ∷ []) (λ x. IsQuiet x.event) front past
    → KnowsLink g lease n c front link → IsLinked g lease n c past link
is_linked g lease n c front past link legal own handled none opened goes knows =
    let more = goes.more in
    let once = opened_once g past c legal in
    let mine : 0 < opened_by n c past = subst (λ l. 0 < opened_by n c l) (sym goes.on) (let a = opened_more n c more front in omega (arith, a, opened)) in
    let alone : IsAlone c n past = opener_alone n c past past once mine own in
    let parts = all_split (λ (x : Entry). is_of c x.event ≡ true → x.who ≡ n) more front (subst (IsAlone c n) goes.on alone) in
    let still = none_moved n c more parts.0 goes.own in
    let whole : Legal g (more ++ front) = subst (Legal g) goes.on legal in
    let was = opened_was g n c front (legal_earlier g more front whole) opened in
    let later : List Entry → Type 0 = λ l. IsLinked g lease n c l link in
    subst later (sym goes.on) (record {
      alone = subst (IsAlone c n) goes.on alone;
      carried = carried_later g link c more front was still (knows.carried parts.1);
      left = left_later g link c more front whole was still (knows.left (opener_holds n c past front once mine handled none));
      leased = leases_on lease n more front (under_as (n ∷ []) (λ x. IsQuiet x.event) (λ x. is_opening x.event ≡ false) (λ x quiet. quiet_opens x.event quiet) more goes.own) knows.leased;
    })
