-- Links that are turned away.
use Rattle.std.proofs.Common.{◌≡◌, ◌≤◌, ◌^◌, ◌∙◌, inl, inr, ℕ, zero, suc, Bool, true, false, List, [], ◌∷◌, ◌++◌, length, Option, Some, None, IfSome, slice_get, refl, sym, ap, subst}
use Rattle.std.proofs.lemmas.List.{append-nil}
use Rattle.std.specs.Io.KnownBytes.{append_known}
use Rattle.rs_wire.specs.declared.settings.Settings.{Settings}
use Rattle.rs_frame.specs.declared.frame.Frame.{Frame}
use Rattle.rs_frame.specs.declared.frame.Frame.TheVariants as frame
use Rattle.outside.specs.Links.{Shown}
use Rattle.tape.specs.declared.event.Event.{Event}
use Rattle.tape.specs.declared.event.Event.TheVariants as event
use Rattle.tape.specs.declared.answer.Answer.{Answer}
use Rattle.tape.specs.declared.answer.Answer.TheVariants as answer
use Rattle.tape.specs.declared.entry.Entry.{Entry}
use Rattle.session_model.specs.Frames.{refusal}
use Rattle.session_model.specs.Lists.{IsPrefix}
use Rattle.conn_shared.specs.Calls.{IsCalled}
use Rattle.conn_shared.specs.Members.{Knowledge}
use Rattle.link_laws.specs.Unopened.{IsOneFull, IsTurnedAwayIn, IsTurnedAwayInOne, TurnsAway, turned_away_by}
use Rattle.server.specs.Opening.{HasTicked, OpensAfter, TriesToOpen, fronts, resumes}
use Rattle.server.specs.Refusing.{GivesAll, told_as}

-- ---- what an opening is told as

-- the ERROR is that of the refusal that the opening is told as
pub turned_by : (first : Frame) (a : Answer) → turned_away_by first a ≡ refusal (told_as (resumes first) a)
turned_by (frame.Resume r) (answer.Closed why) = refl
turned_by (frame.Resume r) _ = refl
turned_by _ (answer.Closed why) = refl
turned_by _ _ = refl

-- only a full tape is told as one
pub told_full : (by_resume : Bool) (a : Answer) → told_as by_resume a ≡ answer.TapeFull → a ≡ answer.TapeFull
told_full true (answer.Closed why) is = absurd (cc)
told_full false (answer.Closed why) is = absurd (cc)
told_full true _ is = is
told_full false _ is = is

no_error : (by_resume : Bool) (error : Frame) → refusal (told_as by_resume answer.TapeFull) ≡ Some error → ⊥
no_error true error is = cc
no_error false error is = cc

no_error_either : (by_resume : Bool) (error : Frame) → refusal (told_as by_resume answer.OutOfMemory) ≡ Some error → ⊥
no_error_either true error is = cc
no_error_either false error is = cc

-- ---- the entry

entry_first : (first error : Frame) (x : Entry) (past new : List Entry) → new ≡ x ∷ past → TurnsAway first error x → IsTurnedAwayIn first error new
unfolding IsTurnedAwayIn
entry_first first error x past new is turns = subst (IsTurnedAwayIn first error) (sym is) (inl turns)

-- an opening that is turned away has an entry
turned_called : (g : Settings) (me : Knowledge) (first error : Frame) (taken : Bool) (a : Answer) (new : List Entry) → IsCalled g me (event.Open (Some first) taken) a new → turned_away_by first a ≡ Some error → IsTurnedAwayIn first error new
turned_called g me first error taken a new called earned = by (resumes first) a called (sym (turned_by first a) ∙ earned) earned
  where
    by : (b : Bool) (a : Answer) → IsCalled g me (event.Open (Some first) taken) a new → refusal (told_as b a) ≡ Some error → turned_away_by first a ≡ Some error → IsTurnedAwayIn first error new
    by b (answer.SetupRefused why) c told earned = entry_first first error _ c.before new c.step.after (taken, refl, earned)
    by b (answer.ResumeRefused why) c told earned = entry_first first error _ c.before new c.step.after (taken, refl, earned)
    by b (answer.Closed why) c told earned = entry_first first error _ c.before new c.step.after (taken, refl, earned)
    by true _ c told earned = absurd (cc)
    by false _ c told earned = absurd (cc)

pub turned_tries : (g : Settings) (moments : Option (List ℕ)) (me : Knowledge) (first error : Frame) (taken : Bool) (a : Answer) (new : List Entry) → TriesToOpen g moments me first taken a new → turned_away_by first a ≡ Some error → IsTurnedAwayIn first error new
turned_tries g moments me first error taken a new t earned = by t.met t.opening
  where
    by : (met : Answer) → OpensAfter g (record me { front = t.ticked; note = None }) met first taken a new → IsTurnedAwayIn first error new
    by answer.TapeFull o = absurd (no_error (resumes first) error (ap (λ (x : Answer). refusal (told_as (resumes first) x)) (sym o.0) ∙ (sym (turned_by first a) ∙ earned)))
    by answer.OutOfMemory o = absurd (no_error_either (resumes first) error (ap (λ (x : Answer). refusal (told_as (resumes first) x)) (sym o.0) ∙ (sym (turned_by first a) ∙ earned)))
    by _ o = turned_called g (record me { front = t.ticked; note = None }) first error taken a new o earned

-- and so it stands in one of the fronts
pub in_one : (first error : Frame) (ks : List Knowledge) (at : ℕ) (k : Knowledge) → slice_get ks at ≡ Some k → IsTurnedAwayIn first error k.front → IsTurnedAwayInOne first error (fronts ks)
in_one first error [] at k is turned = absurd (cc)
in_one first error (x ∷ ks) zero k is turned = inl (subst (λ (y : Knowledge). IsTurnedAwayIn first error y.front) (let same : Some x ≡ Some k = is in let e : k ≡ x = cc in e) turned)
in_one first error (x ∷ ks) (suc at) k is turned = inr (in_one first error ks at k is turned)

-- ---- a full tape

full_called : (g : Settings) (me : Knowledge) (e : Event) (new : List Entry) → IsCalled g me e answer.TapeFull new → 2 ^ 63 ≤ length new
full_called g me e new c = subst (λ (es : List Entry). 2 ^ 63 ≤ length es) (sym c.step.after) (c.step.full.0 refl)

pub full_tries : (g : Settings) (moments : Option (List ℕ)) (me : Knowledge) (first : Frame) (taken : Bool) (new : List Entry) → TriesToOpen g moments me first taken answer.TapeFull new → 2 ^ 63 ≤ length new
full_tries g moments me first taken new t = by t.met t.tick t.opening
  where
    by : (met : Answer) → HasTicked g moments me met t.ticked → OpensAfter g (record me { front = t.ticked; note = None }) met first taken answer.TapeFull new → 2 ^ 63 ≤ length new
    by answer.TapeFull tick o = subst (λ (es : List Entry). 2 ^ 63 ≤ length es) (sym o.1) (full_called g me (event.Tick tick.now) t.ticked tick.called)
    by answer.OutOfMemory tick o = absurd (let no : answer.TapeFull ≡ answer.OutOfMemory = o.0 in cc)
    by _ tick o = full_called g (record me { front = t.ticked; note = None }) (event.Open (Some first) taken) new o

pub full_one : (ks : List Knowledge) (at : ℕ) (k : Knowledge) → slice_get ks at ≡ Some k → 2 ^ 63 ≤ length k.front → IsOneFull (fronts ks)
full_one [] at k is full = absurd (cc)
full_one (x ∷ ks) zero k is full = inl (subst (λ (y : Knowledge). 2 ^ 63 ≤ length y.front) (let same : Some x ≡ Some k = is in let e : k ≡ x = cc in e) full)
full_one (x ∷ ks) (suc at) k is full = inr (full_one ks at k is full)

-- ---- what is given

-- a link to which nothing was given yet has then these bytes, or a prefix of them where a call failed
pub record GaveAll (link : Shown) (bytes : List ℕ) : Type 0 where
  pub begins : IfSome link.given (λ given. IsPrefix given bytes)
  pub whole : link.counts.faults ≡ 0 → IfSome link.given (λ given. given ≡ bytes)

gave_piece : (o : Option (List ℕ)) (piece : List ℕ) (P : List ℕ → Type 0) → IfSome o (λ given. given ≡ []) → P piece → IfSome (append_known o piece) P
gave_piece None piece P none p = tt
gave_piece (Some given) piece P none p = subst (λ b. P (b ++ piece)) (sym none) p

pub gave_all : (old new : Shown) (bytes : List ℕ) → IfSome old.given (λ given. given ≡ []) → GivesAll old new bytes → GaveAll new bytes
gave_all old new bytes none g = record {
  begins = subst (λ o. IfSome o (λ given. IsPrefix given bytes)) (sym g.given) (gave_piece old.given g.piece (λ given. IsPrefix given bytes) none (g.rest, sym g.parts));
  whole = λ well. subst (λ o. IfSome o (λ given. given ≡ bytes)) (sym g.given) (gave_piece old.given g.piece (λ given. given ≡ bytes) none (sym (g.parts ∙ (ap (λ r. g.piece ++ r) (g.whole well) ∙ append-nil g.piece))));
}

-- nothing is a prefix of anything
pub gave_none : (old new : Shown) (bytes : List ℕ) → IfSome old.given (λ given. given ≡ []) → new.given ≡ old.given → IfSome new.given (λ given. IsPrefix given bytes)
gave_none old new bytes none same = subst (λ o. IfSome o (λ given. IsPrefix given bytes)) (sym same) (by old.given none)
  where
    by : (o : Option (List ℕ)) → IfSome o (λ given. given ≡ []) → IfSome o (λ given. IsPrefix given bytes)
    by None none = tt
    by (Some given) none = subst (λ b. IsPrefix b bytes) (sym none) (bytes, refl)
