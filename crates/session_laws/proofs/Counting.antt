-- The frames that positions count, among those that an end makes and puts in line.
use Rattle.std.proofs.Common.{◌≡◌, ◌≤◌, ◌-◌, ◌==◌, ℕ, Bool, true, false, cond, if◌then◌else◌, List, [], ◌∷◌, ◌++◌, length, Some, None, refl, ap, sym, ◌∙◌, arith}
use Rattle.std.specs.List.{filter}
use Rattle.std.proofs.lemmas.List.Elements.{filter-append}
use Rattle.rs_wire.specs.Settings.{IsChecked}
use Rattle.rs_wire.specs.declared.settings.Settings.{Settings}
use Rattle.rs_wire.specs.declared.call.Call.TheVariants as call
use Rattle.rs_frame.specs.declared.frame.Frame.{Frame}
use Rattle.rs_frame.specs.declared.frame.Frame.TheVariants as frame
use Rattle.rs_frame.specs.Spelling.{is_resumable, length_of}
use Rattle.position.specs.Boundaries.{frames_from, frames_from_by, pos}
use Rattle.tape.specs.declared.event.Event.{Event}
use Rattle.tape.specs.declared.event.Event.TheVariants as event
use Rattle.tape.specs.declared.answer.Answer.{Answer}
use Rattle.tape.specs.declared.answer.Answer.TheVariants as answer
use Rattle.tape.specs.declared.entry.Entry.{Entry}
use Rattle.session_model.specs.Leases.{is_covered}
use Rattle.session_model.specs.Lists.{IsPrefix}
use Rattle.session_model.specs.Life.{begun, carrying, is_live, live, live_after}
use Rattle.session_model.specs.Frames.{answers_keepalive, beside, closing_error, first, handled, if_carrying, lines_up, made, makes, owes, position_told, resume_frame, setup_frame}
use Rattle.session_model.specs.Streams.{known}
use Rattle.session_model.specs.Answers.{facts}
use Rattle.session_model.specs.Legal.{Legal}
use Rattle.session_model.specs.Means.{Means}
use Rattle.session_model.proofs.Meaning.{last_means}
use Rattle.session_model.proofs.Spelled.{makes_count}

-- the frames that positions count
abbrev pub counting : List Frame → List Frame
counting fs = filter is_resumable fs

pub prefix_counting : (xs ys : List Frame) → IsPrefix xs ys → IsPrefix (counting xs) (counting ys)
prefix_counting xs ys p = (counting p.0, sym (filter-append is_resumable xs p.0) ∙ ap counting p.1)

-- each frame that is made counts
pub made_counts : (g : Settings) (past : List Entry) → IsChecked g → Legal g past → counting (made g past) ≡ made g past
unfolding Legal made facts
made_counts g [] checked legal = refl
made_counts g (x ∷ past) checked legal =
    let new = makes g (is_covered g past) (known g past) x.answer x.event in
    rw (
      filter-append is_resumable (made g past) new,
      made_counts g past checked legal.0,
      makes_count g (facts g past) x.event x.answer checked
          (last_means g x past legal),
    ) refl

shorter : (xs : List Frame) → length (counting xs) ≤ length xs
shorter [] = omega arith
shorter (x ∷ xs) = elim (is_resumable x) as (λ v. length (cond v (x ∷ counting xs) (counting xs)) ≤ length (x ∷ xs))
    [ true ↦ omega (arith, shorter xs) | false ↦ omega (arith, shorter xs) ]

-- where all count, so do those after the first
rest_counts : (x : Frame) (xs : List Frame) → counting (x ∷ xs) ≡ x ∷ xs → counting xs ≡ xs
rest_counts x xs all = elim (is_resumable x) as (λ v. cond v (x ∷ counting xs) (counting xs) ≡ x ∷ xs → counting xs ≡ xs) [
  | true ↦ λ e. cc
  | false ↦ λ e. let same = ap (length {A = Frame}) e in absurd (omega (arith, same, shorter xs))
] all

-- and those that are sent again
pub again_counts : (fs : List Frame) (p : ℕ) → counting fs ≡ fs → counting (frames_from fs p) ≡ frames_from fs p
unfolding frames_from_by
again_counts [] p all = refl
again_counts (f ∷ fs) p all =
    elim (p == 0) as (λ v. counting (cond v (f ∷ fs) (frames_from fs (p - length_of f))) ≡ cond v (f ∷ fs) (frames_from fs (p - length_of f))) [
      | true ↦ all
      | false ↦ again_counts fs (p - length_of f) (rest_counts f fs all)
    ]

-- the frames that an entry sends again
abbrev pub resent : Settings → List Entry → Answer → Event → List Frame
resent g past (answer.Opened n) (event.Open (Some (frame.Resume r)) taken) = frames_from (made g past) r.server_position
resent g past answer.Handled (event.Came conn (frame.ResumeOk position)) = frames_from (made g past) position
resent g past a e = []

greets_none : (g : Settings) (handled first : ℕ) (begun : Bool) → counting ((if begun then resume_frame g handled first else setup_frame g) ∷ []) ≡ []
greets_none g handled first true = refl
greets_none g handled first false = refl

closes_none : (carrying : Bool) → counting (if carrying then closing_error [] ∷ [] else []) ≡ []
closes_none true = refl
closes_none false = refl

answered_none : (respond : Bool) (position : ℕ) (content : List ℕ) → counting (answers_keepalive respond position content) ≡ []
answered_none true position content = refl
answered_none false position content = refl

-- of what an entry puts in line beside those that it makes, these count
beside_counts : (g : Settings) (past : List Entry) (a : Answer) (e : Event) → counting (made g past) ≡ made g past
    → counting (beside g past a e) ≡ resent g past a e
beside_counts g past (answer.Opened n) (event.Open None taken) all = greets_none g (pos (handled past)) (first g past) (begun past)
beside_counts g past (answer.Opened n) (event.Open (Some (frame.Resume r)) taken) all = again_counts (made g past) r.server_position all
beside_counts g past answer.Handled (event.Came conn (frame.ResumeOk position)) all = again_counts (made g past) position all
beside_counts g past answer.Handled (event.Came conn (frame.Keepalive respond position content)) all = answered_none respond (position_told g past) content
beside_counts g past (answer.ResumeRefused why) (event.Came conn f) all = refl
beside_counts g past answer.Done (event.Asked call.Close) all = closes_none (carrying g past)
beside_counts g past a e all = refl

carried_counts : (carrying : Bool) (fs : List Frame) → counting fs ≡ fs → counting (if_carrying carrying fs) ≡ if_carrying carrying fs
carried_counts true fs all = all
carried_counts false fs all = refl

lines_counts : (g : Settings) (past : List Entry) (a : Answer) (e : Event) → IsChecked g → Legal g past → Means g (facts g past) e a
    → counting (lines_up g past a e) ≡ resent g past a e ++ if_carrying (carrying g past) (makes g (is_covered g past) (known g past) a e)
unfolding facts
lines_counts g past a e checked legal means =
    let new = makes g (is_covered g past) (known g past) a e in
    rw (
      filter-append is_resumable (beside g past a e) (if_carrying (carrying g past) new),
      beside_counts g past a e
          (made_counts g past checked legal),
      carried_counts (carrying g past) new (makes_count g (facts g past) e a checked means),
    ) refl

chosen_counts : (here : Bool) (fs gs : List Frame) → counting fs ≡ gs → counting (if here then fs else []) ≡ (if here then gs else [])
chosen_counts true fs gs is = is
chosen_counts false fs gs is = refl

-- what counts of what an entry adds to the frames due on connection c
pub owes_counts : (g : Settings) (past : List Entry) (c : ℕ) (a : Answer) (e : Event) → IsChecked g → Legal g past → Means g (facts g past) e a
    → counting (owes g past c a e) ≡ (if is_live (live_after a (live past)) c then resent g past a e ++ if_carrying (carrying g past)
    (makes g (is_covered g past) (known g past) a e) else [])
owes_counts g past c a e checked legal means =
    chosen_counts (is_live (live_after a (live past)) c) (lines_up g past a e)
    (resent g past a e ++ if_carrying (carrying g past) (makes g (is_covered g past) (known g past) a e)) (lines_counts g past a e checked legal means)
