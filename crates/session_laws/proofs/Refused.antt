-- The frame that refuses an opening.
use Rattle.std.proofs.Common.{◌≡◌, ◌≤◌, ◌+◌, ◌==◌, ◌⊎◌, inl, inr, ℕ, Bool, true, false, if◌then◌else◌, List, [], ◌∷◌, ◌++◌, Some, refl, ◌∙◌, arith}
use Rattle.std.proofs.lemmas.Grind.{common_steps}
use Rattle.std.proofs.lemmas.Bool.Decides.{nat_tests}
use Rattle.std.proofs.lemmas.List.Elements.{filter-append}
use Rattle.rs_wire.specs.declared.settings.Settings.{Settings}
use Rattle.rs_frame.specs.declared.frame.Frame.{Frame}
use Rattle.rs_frame.specs.Spelling.{is_resumable}
use Rattle.tape.specs.declared.event.Event.{Event}
use Rattle.tape.specs.declared.event.Event.TheVariants as event
use Rattle.tape.specs.declared.answer.Answer.{Answer}
use Rattle.tape.specs.declared.answer.Answer.TheVariants as answer
use Rattle.tape.specs.declared.entry.Entry.{Entry}
use Rattle.session_model.specs.Lists.{IsPrefix}
use Rattle.session_model.specs.Life.{is_live, live, live_after, openings, openings_in}
use Rattle.session_model.specs.Frames.{due, owes, refusal}
use Rattle.session_model.specs.Answers.{facts}
use Rattle.session_model.specs.Joined.{only, refused, refuses, unless_refused}
use Rattle.session_model.specs.Legal.{Legal}
use Rattle.session_model.specs.Means.{Means}
use Rattle.session_model.proofs.Beside.{refusal_spelled as refusal_spellable}
use Rattle.session_model.proofs.Meaning.{last_means}
use Rattle.session_model.proofs.Openings.{due_later, live_le}
use Rattle.session_laws.proofs.Counting.{counting, prefix_counting}
use Rattle.session_laws.proofs.Framing.{AreSpellable, spellable-append}
use Rattle.session_laws.proofs.Prefixes.{prefix_nil}

-- it can be spelled
pub refusal_spelled : (a : Answer) → AreSpellable (only (refusal a))
refusal_spelled a = let spelled = refusal_spellable a in grind (arith, common_steps)

refuses_spelled : (past : List Entry) (d : ℕ) (a : Answer) (e : Event) → AreSpellable (refuses past d a e)
refuses_spelled past d a e = grind (arith, common_steps, refusal_spelled)

pub refused_spelled : (past : List Entry) (d : ℕ) → AreSpellable (refused past d)
unfolding refused
refused_spelled [] d = tt
refused_spelled (x ∷ past) d = spellable-append (refused past d) (refuses past d x.answer x.event) (refused_spelled past d)
    (refuses_spelled past d x.answer x.event)

-- no position counts it
refuses_uncounted : (past : List Entry) (d : ℕ) (a : Answer) (e : Event) → counting (refuses past d a e) ≡ []
refuses_uncounted past d a e = grind (arith, common_steps)

refused_uncounted : (past : List Entry) (d : ℕ) → counting (refused past d) ≡ []
unfolding refused
refused_uncounted [] d = refl
refused_uncounted (x ∷ past) d = rw (
  filter-append is_resumable (refused past d)
      (refuses past d x.answer x.event),
  refused_uncounted past d,
  refuses_uncounted past d x.answer x.event,
) refl

front_empty : (xs ys : List Frame) → xs ++ ys ≡ [] → xs ≡ []
front_empty [] ys e = refl
front_empty (x ∷ xs) ys e = absurd (cc)

-- so what counts of what was offered is what counts of what is due, or nothing
offered_counts : (refusals due came : List Frame) → counting refusals ≡ [] → IsPrefix came (unless_refused refusals due refusals)
    → IsPrefix (counting came) (counting due)
offered_counts [] due came none p = prefix_counting came due p
offered_counts (f ∷ fs) due came none p =
    let q = prefix_counting came (f ∷ fs) p in
    rw (front_empty (counting came) q.0 (q.1 ∙ none)) (prefix_nil (counting due))

pub counted_offer : (past : List Entry) (d : ℕ) (due came : List Frame) → IsPrefix came (unless_refused (refused past d) due (refused past d))
    → IsPrefix (counting came) (counting due)
counted_offer past d due came p = offered_counts (refused past d) due came (refused_uncounted past d) p

pub offered_spelled : (refusals due : List Frame) → AreSpellable due → AreSpellable refusals → AreSpellable (unless_refused refusals due refusals)
offered_spelled [] due h k = h
offered_spelled (f ∷ fs) due h k = k

-- ---- where something is due, nothing was refused

-- an opening that was refused is not live, and nothing is due there
record IsOut (g : Settings) (past : List Entry) (d : ℕ) : Type 0 where
  none : due g past d ≡ []
  off : is_live (live past) d ≡ false
  within : d ≤ openings past

refuses_here : (past : List Entry) (d : ℕ) (here : Bool) (a : Answer) → (openings past + 1 == d) ≡ here
    → ((if here then only (refusal a) else []) ≡ []) ⊎ ((d ≡ openings past + 1) × (live_after a (live past) ≡ live past))
refuses_here past d false a is = inl refl
refuses_here past d true (answer.SetupRefused fault) is = inr (grind (arith, nat_tests), refl)
refuses_here past d true (answer.ResumeRefused why) is = inr (grind (arith, nat_tests), refl)
refuses_here past d true a is = inl refl

-- an entry refuses nothing there, or it is the opening
refuses_case : (past : List Entry) (d : ℕ) (a : Answer) (e : Event)
    → (refuses past d a e ≡ []) ⊎ ((d ≡ openings past + 1) × (live_after a (live past) ≡ live past) × (openings_in e ≡ 1))
refuses_case past d a (event.Open (Some f) taken) = elim (refuses_here past d (openings past + 1 == d) a refl) [
  | inl none ↦ inl none
  | inr here ↦ inr (here.0, here.1, refl)
]
refuses_case past d a e = inl refl

stays_off : (g : Settings) (past : List Entry) (d : ℕ) (a : Answer) (e : Event) → Means g (facts g past) e a → is_live (live past) d ≡ false
    → d ≤ openings past → is_live (live_after a (live past)) d ≡ false
unfolding facts
stays_off g past d (answer.Opened n) (event.Open first taken) means off within = let next = means.next in grind (arith, nat_tests)
stays_off g past d (answer.Opened n) e means off within = absurd means
stays_off g past d answer.Parted e means off within = grind (arith, nat_tests)
stays_off g past d (answer.Dead last) e means off within = grind (arith, nat_tests)
stays_off g past d a e means off within = off

owes_none : (g : Settings) (past : List Entry) (d : ℕ) (a : Answer) (e : Event) → is_live (live_after a (live past)) d ≡ false → due g past d ≡ []
    → due g past d ++ owes g past d a e ≡ []
owes_none g past d a e off none = rw (none, off) refl

refused_after : (g : Settings) (x : Entry) (past : List Entry) (d : ℕ) → Legal g (x ∷ past) → IsOut g past d → IsOut g (x ∷ past) d
unfolding Legal due live openings
refused_after g x past d legal out =
    let off = stays_off g past d x.answer x.event (last_means g x past legal) out.off out.within in
    let within = out.within in
    record { none = owes_none g past d x.answer x.event off out.none; off = off; within = omega arith }

refused_now : (g : Settings) (x : Entry) (past : List Entry) (d : ℕ) → Legal g (x ∷ past)
    → (d ≡ openings past + 1) × (live_after x.answer (live past) ≡ live past) × (openings_in x.event ≡ 1) → IsOut g (x ∷ past) d
unfolding Legal due live openings
refused_now g x past d legal at =
    let le = live_le g past legal.0 in
    let next = at.0 in
    let same = at.1 in
    let one = at.2 in
    let off : is_live (live_after x.answer (live past)) d ≡ false = rw same (grind (arith, nat_tests)) in
    record { none = owes_none g past d x.answer x.event off (due_later g past d legal.0 (omega arith)); off = off; within = omega arith }

refused_or_due : (g : Settings) (past : List Entry) (d : ℕ) → Legal g past → (refused past d ≡ []) ⊎ IsOut g past d
unfolding Legal refused
refused_or_due g [] d legal = inl refl
refused_or_due g (x ∷ past) d legal = elim (refused_or_due g past d legal.0) [
  | inl none ↦ elim (refuses_case past d x.answer x.event) [
    | inl still ↦ inl (rw (none, still) refl)
    | inr now ↦ inr (refused_now g x past d legal now)
  ]
  | inr out ↦ inr (refused_after g x past d legal out)
]

pub due_unrefused : (g : Settings) (past : List Entry) (d : ℕ) (f : Frame) (fs : List Frame) → Legal g past → due g past d ≡ f ∷ fs → refused past d ≡ []
due_unrefused g past d f fs legal some = elim (refused_or_due g past d legal) [
  | inl none ↦ none
  | inr out ↦ let nothing = out.none in absurd (cc)
]
