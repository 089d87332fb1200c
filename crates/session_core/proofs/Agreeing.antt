-- Where resumption is agreed, what is kept, and which positions the peer may tell.
use Rattle.std.proofs.Common.{◌≡◌, ◌≤◌, ◌==◌, ◌||◌, ◌&&◌, ltb, ℕ, Bool, true, false, not, cond, List, [], ◌∷◌, ◌++◌, Option, Some, None, IfSome, refl, ap, sym, ◌∙◌, arith}
use Rattle.std.specs.Cmp.Lexicographic.{pointwise}
use Rattle.std.proofs.lemmas.Bool.Decides.{nat_tests}
use Rattle.rs_wire.specs.Settings.{is_client}
use Rattle.rs_wire.specs.declared.settings.Settings.{Settings}
use Rattle.rs_frame.specs.declared.frame.Frame.{Frame}
use Rattle.rs_frame.specs.declared.frame.Frame.TheVariants as frame
use Rattle.rs_frame.specs.declared.frame.Resume.{Resume}
use Rattle.rs_frame.specs.declared.frame.Setup.{Setup}
use Rattle.rs_frame.specs.Spelling.{length_of}
use Rattle.position.specs.Boundaries.{pos}
use Rattle.position.proofs.Boundaries.{pos-append}
use Rattle.tape.specs.declared.event.Event.{Event}
use Rattle.tape.specs.declared.event.Event.TheVariants as event
use Rattle.tape.specs.declared.answer.Answer.{Answer}
use Rattle.tape.specs.declared.answer.Answer.TheVariants as answer
use Rattle.tape.specs.declared.entry.Entry.{Entry}
use Rattle.session_model.specs.Lists.{first_of}
use Rattle.session_model.specs.Life.{agrees_resumption, asked_token, begun, is_opened, live, live_after, resumption_agreed, setup, setup_in, told, told_in}
use Rattle.session_model.specs.Streams.{known}
use Rattle.session_model.specs.Frames.{if_agreed, kept, made, makes}
use Rattle.session_model.specs.Leases.{is_covered}
use Rattle.session_model.specs.Answers.{Facts, broken_rule, covered_by, facts, gone_with, is_ahead, ok_gone, resume_gone}
use Rattle.session_model.specs.Legal.{Legal}
use Rattle.session_model.specs.Means.{Means}
use Rattle.session_model.proofs.Agreed.{kept_made, resumed_agreed, waiting_agreed}
use Rattle.session_model.proofs.Meaning.{last_means}
use Rattle.session_model.proofs.Silent.{silent_before}
use Rattle.session_core.specs.Kept.{again_from}

-- ---- the tests of a position, row by row

passed : {X : Type 0} (b : Bool) (x : X) (next : Option X) → cond b (Some x) next ≡ None → (b ≡ false) × (next ≡ None)
passed true x next none = absurd (cc)
passed false x next none = (refl, none)

-- a position that is accepted
pub record IsAccepted (t : Facts) (position : ℕ) : Type 0 where
  pub to_end : position ≤ t.made.position
  pub boundary : t.boundary position ≡ true

token_accepted : (t : Facts) (r : Resume) (token : Option (List ℕ)) → gone_with t r token ≡ None → IsAccepted t r.server_position
token_accepted t r None none = absurd (cc)
token_accepted t r (Some token) none =
    let a = passed (not (r.major == 1)) _ _ none in
    let b = passed (not (pointwise ◌==◌ r.token token)) _ _ a.1 in
    let c = passed (ltb r.server_position t.first) _ _ b.1 in
    let d = passed (ltb t.made.position r.server_position) _ _ c.1 in
    let e = passed (not (t.boundary r.server_position)) _ _ d.1 in
    let high = d.0 in
    let boundary = e.0 in
    record { to_end = grind (arith, nat_tests); boundary = grind (arith, nat_tests) }

pub resume_accepted : (t : Facts) (r : Resume) → resume_gone t r ≡ None → IsAccepted t r.server_position
resume_accepted t r none = token_accepted t r (asked_token t.setup) none

pub ok_accepted : (t : Facts) (position : ℕ) → ok_gone t position ≡ None → IsAccepted t position
ok_accepted t position none =
    let a = passed (ltb position t.first) _ _ none in
    let b = passed (ltb t.made.position position) _ _ a.1 in
    let c = passed (not (t.boundary position)) _ None b.1 in
    let high = b.0 in
    let boundary = c.0 in
    record { to_end = grind (arith, nat_tests); boundary = grind (arith, nat_tests) }

-- the position from which on frames are sent again is accepted
pub again_accepted : (g : Settings) (t : Facts) (a : Answer) (e : Event) → Means g t e a → IfSome (again_from a e) (IsAccepted t)
again_accepted g t (answer.Opened n) (event.Open (Some (frame.Resume r)) taken) m = resume_accepted t r m.suits
again_accepted g t answer.Handled (event.Came conn (frame.ResumeOk position)) m = ok_accepted t position m.may.1
again_accepted g t a e m = tt

-- ---- where resumption is agreed

either : (a b : Bool) → (a || b) ≡ false → (a ≡ false) × (b ≡ false)
either true b is = absurd (cc)
either false b is = (refl, is)

-- a client that opens again agreed to it
pub client_agreed : (g : Settings) (past : List Entry) → is_client g.side ≡ true → g.resume ≡ true → resumption_agreed g past ≡ true
client_agreed g past side resumes = rw side resumes

-- where frames are sent again, resumption is agreed
pub again_agreed : (g : Settings) (past : List Entry) (a : Answer) (e : Event) → Legal g past → Means g (facts g past) e a → IfSome (again_from a e) (λ p. resumption_agreed g past ≡ true)
unfolding facts
again_agreed g past (answer.Opened n) (event.Open (Some (frame.Resume r)) taken) legal m = resumed_agreed g past r legal m.suits
again_agreed g past answer.Handled (event.Came conn (frame.ResumeOk position)) legal m = waiting_agreed g past conn legal m.may.0 m.here
again_agreed g past a e legal m = tt

-- ---- what is kept

pub if_none : (b : Bool) → if_agreed b [] ≡ []
if_none true = refl
if_none false = refl

if_more : (b : Bool) (xs ys : List Frame) → if_agreed b (xs ++ ys) ≡ if_agreed b xs ++ if_agreed b ys
if_more true xs ys = refl
if_more false xs ys = refl

pub or_nothing : {A : Type 0} (o : Option A) → first_of o None ≡ o
or_nothing {A} None = refl
or_nothing {A} (Some x) = refl

never_live : (a : Answer) (n : ℕ) → is_opened a ≡ false → n ≡ 0 → live_after a n ≡ 0
never_live (answer.Opened k) n none zero = absurd (cc)
never_live answer.Parted n none zero = refl
never_live (answer.Dead last) n none zero = refl
never_live a n none zero = zero

-- before a session is begun nothing was made, and no connection is live
unbegun : (g : Settings) (past : List Entry) → Legal g past → begun past ≡ false → (live past ≡ 0) × (made g past ≡ [])
unfolding Legal begun live made facts
unbegun g [] legal fresh = (refl, refl)
unbegun g (x ∷ past) legal fresh =
    let b = either (begun past) (is_opened x.answer) fresh in
    let before = unbegun g past legal.0 b.0 in
    let none = silent_before g (facts g past) x.event x.answer (last_means g x past legal) b.0 before.0 in
    (never_live x.answer (live past) b.1 before.0, ap (λ fs. fs ++ makes g (is_covered g past) (known g past) x.answer x.event) before.1 ∙ none)

kept_step : (g : Settings) (t : Facts) (a : Answer) (e : Event) (before : Option Setup) (made : List Frame) → Means g t e a → (t.begun ≡ false → made ≡ [])
    → if_agreed (agrees_resumption g (first_of before (setup_in a e))) (made ++ makes g (covered_by g t) t.streams a e)
    ≡ if_agreed (agrees_resumption g before) made ++ if_agreed (agrees_resumption g before) (makes g (covered_by g t) t.streams a e)
kept_step g t (answer.Opened n) (event.Open (Some (frame.Setup s)) taken) before made m none =
    rw (none m.suits.0) (if_none (agrees_resumption g (first_of before (Some s))) ∙ sym (ap (λ fs. fs ++ if_agreed (agrees_resumption g before) []) (if_none (agrees_resumption g before)) ∙ if_none (agrees_resumption g before)))
kept_step g t a e before made m none =
    ap (λ (o : Option Setup). if_agreed (agrees_resumption g o) (made ++ makes g (covered_by g t) t.streams a e)) (or_nothing before) ∙ if_more (agrees_resumption g before) made (makes g (covered_by g t) t.streams a e)

-- what is kept of the frames of one entry more
pub kept_more : (g : Settings) (x : Entry) (past : List Entry) → Legal g (x ∷ past)
    → kept g (x ∷ past) ≡ kept g past ++ if_agreed (resumption_agreed g past) (makes g (is_covered g past) (known g past) x.answer x.event)
unfolding Legal made setup facts
kept_more g x past legal = kept_step g (facts g past) x.answer x.event (setup past) (made g past) (last_means g x past legal) (λ fresh. (unbegun g past legal.0 fresh).1)

told_within_by : (g : Settings) (past : List Entry) (p : ℕ) → IsAccepted (facts g past) p → resumption_agreed g past ≡ true → p ≤ pos (kept g past)
unfolding facts
told_within_by g past p is agreed = rw (kept_made g past agreed) is.to_end

-- a KEEPALIVE that is handled tells no position past what was made
within_made : (agreed : Bool) (made position : ℕ) → (agreed && ltb made position) ≡ false → agreed ≡ true → position ≤ made
within_made true made position none is = grind (arith, nat_tests)
within_made false made position none is = absurd (cc)

keepalive_within : (g : Settings) (past : List Entry) (respond : Bool) (position : ℕ) (content : List ℕ) (agreed : Bool) → resumption_agreed g past ≡ agreed
    → broken_rule g (facts g past) (frame.Keepalive respond position content) ≡ None → cond agreed position 0 ≤ pos (kept g past)
unfolding broken_rule facts
keepalive_within g past respond position content true is none =
    let below = passed (is_ahead g (facts g past) position) _ _ none in
    rw (kept_made g past is) (within_made (resumption_agreed g past) (pos (made g past)) position below.0 is)
keepalive_within g past respond position content false is none = omega arith

tells_within : (g : Settings) (past : List Entry) (a : Answer) (e : Event) → Legal g past → Means g (facts g past) e a → told_in (resumption_agreed g past) a e ≤ pos (kept g past)
tells_within g past (answer.Opened n) (event.Open (Some (frame.Resume r)) taken) legal m =
    told_within_by g past r.server_position (resume_accepted (facts g past) r m.suits) (again_agreed g past (answer.Opened n) (event.Open (Some (frame.Resume r)) taken) legal m)
tells_within g past answer.Handled (event.Came conn (frame.ResumeOk position)) legal m =
    told_within_by g past position (ok_accepted (facts g past) position m.may.1) (again_agreed g past answer.Handled (event.Came conn (frame.ResumeOk position)) legal m)
tells_within g past answer.Handled (event.Came conn (frame.Keepalive respond position content)) legal m =
    keepalive_within g past respond position content (resumption_agreed g past) refl m.may.1
tells_within g past a e legal m = omega arith

-- the position told is none past what is kept
pub told_within : (g : Settings) (past : List Entry) → Legal g past → told g past ≤ pos (kept g past)
unfolding Legal told
told_within g [] legal = omega arith
told_within g (x ∷ past) legal =
    let new = if_agreed (resumption_agreed g past) (makes g (is_covered g past) (known g past) x.answer x.event) in
    let sum = pos-append length_of (kept g past) new in
    let more = ap pos (kept_more g x past legal) in
    omega (arith, more, sum, told_within g past legal.0, tells_within g past x.answer x.event legal.0 (last_means g x past legal))
