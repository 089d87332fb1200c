-- What an accepted opening says of resumption.
use Rattle.std.proofs.Common.{◌≡◌, ◌∙◌, ℕ, Bool, true, false, List, [], ◌∷◌, ◌++◌, Option, Some, None, is_some, refl, ap, arith}
use Rattle.std.proofs.lemmas.Grind.{common_steps}
use Rattle.rs_wire.specs.declared.words.Side.TheVariants.{Server}
use Rattle.rs_wire.specs.declared.settings.Settings.{Settings}
use Rattle.rs_frame.specs.declared.frame.Frame.{Frame}
use Rattle.rs_frame.specs.declared.frame.Frame.TheVariants as frame
use Rattle.rs_frame.specs.declared.frame.Resume.{Resume}
use Rattle.rs_frame.specs.declared.frame.Setup.{Setup}
use Rattle.tape.specs.Told.{entry_of}
use Rattle.tape.specs.declared.event.Event.TheVariants as event
use Rattle.tape.specs.declared.answer.Answer.TheVariants as answer
use Rattle.tape.specs.declared.entry.Entry.{Entry}
use Rattle.session_model.specs.Answers.{Facts, facts, gone_with}
use Rattle.session_model.specs.Legal.{Legal}
use Rattle.session_model.specs.Life.{agrees_resumption, asked_token, begun, resumption_agreed, setup}
use Rattle.session_model.specs.Lists.{first_of}
use Rattle.session_model.specs.Means.{Opening, SuitsFirst}
use Rattle.session_model.proofs.Meaning.{last_means}
use Rattle.session_laws.proofs.OpenedOnce.{setup_stays}
use Rattle.server.specs.Opening.{begins_by, wish_of}
use Rattle.server.specs.Serving.{may_resume}

-- a session that is not begun has no SETUP yet
no_setup : (past : List Entry) → begun past ≡ false → setup past ≡ None
unfolding setup begun
no_setup [] not = refl
no_setup (x ∷ past) not = grind (arith, common_steps, no_setup past)

-- the SETUP of a session, which asked for resumption or not
pub record IsAgreed (past : List Entry) (agreed : Bool) : Type 0 where
  pub accepted : Setup
  pub is : setup past ≡ Some accepted
  pub asks : is_some accepted.resume ≡ agreed

asks_by : (o : Option (List ℕ)) → is_some o ≡ may_resume (begins_by o)
asks_by None = refl
asks_by (Some token) = refl

resumed : (past : List Entry) (t : Facts) (r : Resume) (o : Option Setup) → setup past ≡ o → gone_with t r (asked_token o) ≡ None → IsAgreed past true
resumed past t r None is none = absurd (cc)
resumed past t r (Some s) is none = record { accepted = s; is = is; asks = there s.resume none }
  where
    there : (o : Option (List ℕ)) → gone_with t r o ≡ None → is_some o ≡ true
    there None none = absurd (cc)
    there (Some token) none = refl

suits_of : (g : Settings) (before : List Entry) (who : ℕ) (first : Frame) (taken : Bool) (c : ℕ) → Legal g (entry_of who (event.Open (Some first) taken) (answer.Opened c) ∷ before) → SuitsFirst g (facts g before) (Some first) taken
suits_of g before who first taken c legal =
    let m : Opening g (facts g before) (Some first) taken c = last_means g (entry_of who (event.Open (Some first) taken) (answer.Opened c)) before legal in
    m.suits

agreed_by : (g : Settings) (before : List Entry) (who : ℕ) (first : Frame) (taken : Bool) (c : ℕ) → SuitsFirst g (facts g before) (Some first) taken → IsAgreed (entry_of who (event.Open (Some first) taken) (answer.Opened c) ∷ before) (may_resume (wish_of first))
unfolding facts setup
agreed_by g before who (frame.Setup s) taken c suits = record {
  accepted = s;
  is = ap (λ (o : Option Setup). first_of o (Some s)) (no_setup before suits.0);
  asks = asks_by s.resume;
}
agreed_by g before who (frame.Resume r) taken c suits =
    let h : IsAgreed before true = resumed before (facts g before) r (setup before) refl suits in
    record { accepted = h.accepted; is = ap (λ (o : Option Setup). first_of o None) h.is; asks = h.asks }
agreed_by g before who _ taken c suits = absurd (cc)

-- the session that was opened so agrees to resumption as its first frame asks
pub agreed_here : (g : Settings) (before : List Entry) (who : ℕ) (first : Frame) (taken : Bool) (c : ℕ) → Legal g (entry_of who (event.Open (Some first) taken) (answer.Opened c) ∷ before) → IsAgreed (entry_of who (event.Open (Some first) taken) (answer.Opened c) ∷ before) (may_resume (wish_of first))
agreed_here g before who first taken c legal = agreed_by g before who first taken c (suits_of g before who first taken c legal)

-- and does so ever after
pub agreed_on : (g : Settings) (more past : List Entry) (agreed : Bool) → g.side ≡ Server → IsAgreed past agreed → resumption_agreed g (more ++ past) ≡ agreed
agreed_on g more past agreed side h =
    let stays : setup (more ++ past) ≡ Some h.accepted = setup_stays more past h.accepted h.is in
    ap (agrees_resumption g) stays ∙ by side
  where
    by : g.side ≡ Server → agrees_resumption g (Some h.accepted) ≡ agreed
    by side = rw side h.asks
