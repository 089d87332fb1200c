-- What an end agrees to, and where it agreed to resumption.
use Rattle.std.proofs.Common.{◌≡◌, ◌==◌, ◌&&◌, ℕ, Bool, true, false, not, List, [], ◌∷◌, Option, Some, None, is_some, if◌then◌else◌, refl, ap, arith}
use Rattle.std.proofs.lemmas.Bool.Decides.{nat_tests}
use Rattle.std.proofs.lemmas.Grind.{common_steps}
use Rattle.rs_wire.specs.Settings.{is_client}
use Rattle.rs_wire.specs.declared.settings.Settings.{Settings}
use Rattle.rs_frame.specs.declared.frame.Frame.TheVariants as frame
use Rattle.rs_frame.specs.declared.frame.Resume.{Resume}
use Rattle.tape.specs.declared.answer.Answer.{Answer}
use Rattle.tape.specs.declared.answer.Answer.TheVariants as answer
use Rattle.tape.specs.declared.event.Event.{Event}
use Rattle.tape.specs.declared.event.Event.TheVariants as event
use Rattle.tape.specs.declared.entry.Entry.{Entry}
use Rattle.session_model.specs.Life.{asked_token, asks_leases, asks_resumption, carrying, carrying_after, is_live, leases_agreed, live, live_after, resumption_agreed, setup}
use Rattle.session_model.specs.Frames.{if_agreed, kept, made}
use Rattle.session_model.specs.Answers.{Facts, facts, gone_with, resume_gone}
use Rattle.session_model.specs.Legal.{Legal}
use Rattle.session_model.specs.Means.{Means}
use Rattle.session_model.proofs.Meaning.{last_means}

-- the SETUP that was accepted asks for no more than the settings have
asks_no_resumption : (g : Settings) (past : List Entry) → Legal g past → g.resume ≡ false → asks_resumption (setup past) ≡ false
unfolding Legal setup facts
asks_no_resumption g [] legal none = refl
asks_no_resumption g (x ∷ past) legal none =
    grind (arith, common_steps, last_means g x past legal, asks_no_resumption g past legal.0 none)

asks_no_leases : (g : Settings) (past : List Entry) → Legal g past → g.lease ≡ false → asks_leases (setup past) ≡ false
unfolding Legal setup facts
asks_no_leases g [] legal none = refl
asks_no_leases g (x ∷ past) legal none =
    grind (arith, common_steps, last_means g x past legal, asks_no_leases g past legal.0 none)

pub no_resumption : (g : Settings) (past : List Entry) → Legal g past → g.resume ≡ false → resumption_agreed g past ≡ false
no_resumption g past legal none = grind (arith, common_steps, asks_no_resumption g past legal none)

pub no_leases : (g : Settings) (past : List Entry) → Legal g past → g.lease ≡ false → leases_agreed g past ≡ false
no_leases g past legal none = grind (arith, common_steps, asks_no_leases g past legal none)

-- ---- where resumption is agreed

-- the settings have what the SETUP asked for
asked_resumes : (g : Settings) (past : List Entry) → Legal g past → asks_resumption (setup past) ≡ true → g.resume ≡ true
asked_resumes g past legal asks =
    elim g.resume as (λ v. g.resume ≡ v → v ≡ true) [
      | true ↦ λ is. refl
      | false ↦ λ is. let none = asks_no_resumption g past legal is in absurd (cc)
    ] refl

token_there : (t : Facts) (r : Resume) (token : Option (List ℕ)) → gone_with t r token ≡ None → is_some token ≡ true
token_there t r None none = absurd (cc)
token_there t r (Some x) none = refl

-- an end that is resumed agreed to it
pub resumed_agreed : (g : Settings) (past : List Entry) (r : Resume) → Legal g past → resume_gone (facts g past) r ≡ None → resumption_agreed g past ≡ true
unfolding facts
resumed_agreed g past r legal none =
    let asks = token_there (facts g past) r (asked_token (setup past)) none in
    elim (is_client g.side) as (λ v. (if v then g.resume else asks_resumption (setup past)) ≡ true) [ true ↦ asked_resumes g past legal asks | false ↦ asks ]

both : (a b : Bool) → (a && b) ≡ true → (a ≡ true) × (b ≡ true)
both true b is = (refl, is)
both false b is = absurd (cc)

-- a client that may resume
record Resumes (g : Settings) : Type 0 where
  client : is_client g.side ≡ true
  resumes : g.resume ≡ true

waits_step : (g : Settings) (t : Facts) (e : Event) (a : Answer) (conn : ℕ) → Means g t e a → (asks_resumption t.setup ≡ true → g.resume ≡ true)
    → carrying_after g t.begun a e t.carrying ≡ false → is_live (live_after a t.live) conn ≡ true
    → (t.carrying ≡ false → is_live t.live conn ≡ true → Resumes g) → Resumes g
waits_step g t (event.Open None taken) (answer.Opened n) conn m asked waits here before =
    let b = both t.begun (is_client g.side) (grind (arith, nat_tests)) in
    record { client = b.1; resumes = m.suits b.0 }
waits_step g t (event.Open (Some (frame.Resume r)) taken) (answer.Opened n) conn m asked waits here before =
    let b = both t.begun (is_client g.side) (grind (arith, nat_tests)) in
    record { client = b.1; resumes = asked (token_there t r (asked_token t.setup) m.suits) }
waits_step g t (event.Open (Some f) taken) (answer.Opened n) conn m asked waits here before =
    let b = both t.begun (is_client g.side) (grind (arith, nat_tests)) in
    let fresh = m.suits.0 in
    absurd (cc)
waits_step g t e (answer.Opened n) conn m asked waits here before = absurd m
waits_step g t e answer.Parted conn m asked waits here before = let off = (both (0 == conn) (not (0 == 0)) here).1 in absurd (cc)
waits_step g t e (answer.Dead last) conn m asked waits here before = let off = (both (0 == conn) (not (0 == 0)) here).1 in absurd (cc)
waits_step g t (event.Came c (frame.ResumeOk position)) answer.Handled conn m asked waits here before = absurd (cc)
waits_step g t e a conn m asked waits here before = before waits here

waits_resumes : (g : Settings) (past : List Entry) (conn : ℕ) → Legal g past → carrying g past ≡ false → is_live (live past) conn ≡ true → Resumes g
unfolding Legal carrying live facts
waits_resumes g [] conn legal waits here = let off = (both (0 == conn) (not (0 == 0)) here).1 in absurd (cc)
waits_resumes g (x ∷ past) conn legal waits here =
    waits_step g (facts g past) x.event x.answer conn (last_means g x past legal) (asked_resumes g past legal.0) waits here (waits_resumes g past conn legal.0)

-- resumption is agreed where a connection waits for RESUME_OK
pub waiting_agreed : (g : Settings) (past : List Entry) (conn : ℕ) → Legal g past → carrying g past ≡ false → is_live (live past) conn ≡ true → resumption_agreed g past ≡ true
waiting_agreed g past conn legal waits here = let r = waits_resumes g past conn legal waits here in rw r.client r.resumes

-- where resumption is agreed, all that is made is kept
pub kept_made : (g : Settings) (past : List Entry) → resumption_agreed g past ≡ true → kept g past ≡ made g past
kept_made g past agreed = ap (λ b. if_agreed b (made g past)) agreed
