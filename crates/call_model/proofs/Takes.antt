-- What was taken of a stream, by the entries and by its words.
use Rattle.std.proofs.Common.{◌≡◌, ◌==◌, ◌∙◌, ℕ, Bool, true, false, cond, if◌then◌else◌, List, nat_lt, arith, [], ◌∷◌, ◌++◌, Option, Some, None, refl, append-nil, ap, subst, sym}
use Rattle.std.proofs.lemmas.Bool.{eqb-true}
use Rattle.std.proofs.lemmas.Bool.Decides.{nat_tests}
use Rattle.std.proofs.lemmas.Grind.{common_steps}
use Rattle.std.specs.List.{AllByRecursion}
use Rattle.rs_wire.specs.declared.settings.Settings.{Settings}
use Rattle.rs_wire.specs.declared.words.Role.{Role}
use Rattle.rs_wire.specs.declared.delivery.Delivery.{Delivery}
use Rattle.rs_wire.specs.declared.call.Call.TheVariants as call
use Rattle.tape.specs.declared.event.Event.{Event}
use Rattle.tape.specs.declared.event.Event.TheVariants as event
use Rattle.tape.specs.declared.answer.Answer.{Answer}
use Rattle.tape.specs.declared.answer.Answer.TheVariants as answer
use Rattle.tape.specs.declared.entry.Entry.{Entry}
use Rattle.fragment.specs.Joining.{Gathered}
use Rattle.stream_model.specs.Marks.{Opening, Step, Mark, Opens, Passed, Sent, Got, Pushed, Took, TookJob}
use Rattle.stream_model.specs.Turns.{Turn, Said, Taken, other, taken}
use Rattle.stream_model.specs.Streams.{goes_on, turn}
use Rattle.stream_model.specs.Known.{front_of, known as known_after, waiting_of}
use Rattle.stream_model.specs.Fair.{Fair as FairMarks, Fits}
use Rattle.stream_model.proofs.Ids.{fresh, others_stay, same_id, turn_got, turn_job, turn_opened, turn_passed, turn_pushed, turn_sent, turn_took}
use Rattle.session_model.specs.Leases.{is_covered}
use Rattle.session_model.specs.Streams.{heard_in, marks_in, unfinished, words}
use Rattle.session_model.specs.Answers.{Facts, answer_to, facts, refused_call, to_call}
use Rattle.session_model.specs.Lists.{IsPrefix}
use Rattle.session_laws.proofs.Lawful.{laws_of, taken_prefix}
use Rattle.session_model.specs.Legal.{Fair, Legal}
use Rattle.session_model.specs.Means.{Means}
use Rattle.session_model.proofs.Fairness.{legal_fair}
use Rattle.session_model.proofs.Meaning.{last_means}
use Rattle.session_laws.specs.Streams.{IsLawful, IsStream, stream}
use Rattle.call_model.specs.Saying.{GetsNothing, delivered_of, delivered_on, got_in, got_on}

abbrev pub taken_of : Option Turn → List Delivery
taken_of None = []
taken_of (Some t) = taken t.words

-- what a mark takes of stream s
took_in : ℕ → Mark → List Delivery
took_in s (Took q d) = if q == s then d ∷ [] else []
took_in s m = []

said_same : (t : Option Turn) (by : Role → Role) (step : Step) → taken_of (goes_on t (λ role. Said (by role) step)) ≡ taken_of t
unfolding taken
said_same None by step = refl
said_same (Some t) by step = refl

pub here_or_not : (P : ℕ → Type 0) (q s : ℕ) (same : Bool) → (q == s) ≡ same → (q ≡ s → P q) → (same ≡ false → P q) → P q
here_or_not P q s true is here there = here (eqb-true q s is)
here_or_not P q s false is here there = there refl

-- a mark that takes nothing
Keeps : ℕ → List Mark → ℕ → Mark → Type 0
Keeps most seen s m = taken_of (turn most (m ∷ seen) s) ≡ taken_of (turn most seen s)

taken_here : (s : ℕ) (d : Delivery) → took_in s (Took s d) ≡ [] → ⊥
unfolding took_in
taken_here s d n = let here = same_id s in grind (arith, here, n, common_steps)

opens_none : (admitted : Bool) (o : Opening) → taken_of (cond admitted (Some (record { opening = o; words = [] })) None) ≡ []
unfolding taken
opens_none true o = refl
opens_none false o = refl

quiet_on : (most : ℕ) (seen : List Mark) (m : Mark) (s : ℕ) → Fits most seen m → took_in s m ≡ [] → Keeps most seen s m
unfolding Keeps taken
quiet_on most seen (Opens q o) s fits none =
    here_or_not (λ i. Fits most seen (Opens i o) → Keeps most seen s (Opens i o)) q s (q == s) refl
    (λ same f. subst (λ i. Fits most seen (Opens i o) → Keeps most seen s (Opens i o)) (sym same) (λ f. rw (turn_opened most seen s o f.fresh, fresh most seen s f.fresh) (opens_none _ o)) f)
    (λ apart f. rw (others_stay most seen (Opens q o) q s (same_id q) apart) refl) fits
quiet_on most seen (Passed q) s fits none = rw (turn_passed most seen q s) refl
quiet_on most seen (Sent q step) s fits none =
    here_or_not (λ i. Keeps most seen s (Sent i step)) q s (q == s) refl
    (λ same. subst (λ i. Keeps most seen s (Sent i step)) (sym same) (rw (turn_sent most seen s step) (said_same (turn most seen s) (λ role. role) step)))
    (λ apart. rw (others_stay most seen (Sent q step) q s (same_id q) apart) refl)
quiet_on most seen (Got q step) s fits none =
    here_or_not (λ i. Keeps most seen s (Got i step)) q s (q == s) refl
    (λ same. subst (λ i. Keeps most seen s (Got i step)) (sym same) (rw (turn_got most seen s step) (said_same (turn most seen s) (λ role. other role) step)))
    (λ apart. rw (others_stay most seen (Got q step) q s (same_id q) apart) refl)
quiet_on most seen (Pushed metadata) s fits none = rw (turn_pushed most seen metadata s) refl
quiet_on most seen (Took q d) s fits none =
    here_or_not (λ i. took_in s (Took i d) ≡ [] → Keeps most seen s (Took i d)) q s (q == s) refl
    (λ same. subst (λ i. took_in s (Took i d) ≡ [] → Keeps most seen s (Took i d)) (sym same) (λ n. absurd (taken_here s d n)))
    (λ apart n. rw (others_stay most seen (Took q d) q s (same_id q) apart) refl) none
quiet_on most seen TookJob s fits none = rw (turn_job most seen s) refl

all_quiet : (most : ℕ) (more seen : List Mark) (s : ℕ) → FairMarks most (more ++ seen) → AllByRecursion (λ m. took_in s m ≡ []) more → taken_of (turn most (more ++ seen) s) ≡ taken_of (turn most seen s)
unfolding FairMarks Keeps
all_quiet most [] seen s fair quiet = refl
all_quiet most (m ∷ more) seen s fair quiet = quiet_on most (more ++ seen) m s fair.1 quiet.0 ∙ all_quiet most more seen s fair.0 quiet.1

-- a delivery is taken of a stream on which some wait
took_on : (t : Option Turn) (d : Delivery) → front_of (waiting_of t) ≡ Some d → taken_of (goes_on t (λ role. Taken d)) ≡ taken_of t ++ d ∷ []
unfolding taken
took_on None d first = absurd (cc)
took_on (Some t) d first = refl

taken_more : (most : ℕ) (seen : List Mark) (q s : ℕ) (d : Delivery) → front_of (waiting_of (turn most seen q)) ≡ Some d → taken_of (turn most (Took q d ∷ seen) s) ≡ taken_of (turn most seen s) ++ (if q == s then d ∷ [] else [])
taken_more most seen q s d first =
    here_or_not (λ i. front_of (waiting_of (turn most seen i)) ≡ Some d → taken_of (turn most (Took i d ∷ seen) s) ≡ taken_of (turn most seen s) ++ (if i == s then d ∷ [] else [])) q s (q == s) refl
    (λ same. subst (λ i. front_of (waiting_of (turn most seen i)) ≡ Some d → taken_of (turn most (Took i d ∷ seen) s) ≡ taken_of (turn most seen s) ++ (if i == s then d ∷ [] else [])) (sym same)
    (λ f. rw (turn_took most seen s d, same_id s) (took_on (turn most seen s) d f)))
    (λ apart f. rw (others_stay most seen (Took q d) q s (same_id q) apart, apart) (sym (append-nil (taken_of (turn most seen s))))) first

quiet_marks : (covered : Bool) (held : ℕ → Gathered) (s : ℕ) (a : Answer) (e : Event) → got_in s a e ≡ [] → AllByRecursion (λ m. took_in s m ≡ []) (marks_in covered held a e)
unfolding took_in
quiet_marks covered held s a e none = grind (arith, none, common_steps)

entry_more : (g : Settings) (past : List Entry) (s : ℕ) (a : Answer) (e : Event) → Means g (facts g past) e a → FairMarks g.max_streams (marks_in (is_covered g past) (unfinished g past) a e ++ words g past)
    → taken_of (turn g.max_streams (marks_in (is_covered g past) (unfinished g past) a e ++ words g past) s) ≡ taken_of (turn g.max_streams (words g past) s) ++ got_in s a e
unfolding facts known_after
entry_more g past s (answer.Got d) (event.Asked (call.Take q)) means fair = taken_more g.max_streams (words g past) q s d means
entry_more g past s (answer.Got d) e means fair = absurd means
entry_more g past s a e means fair = all_quiet g.max_streams (marks_in (is_covered g past) (unfinished g past) a e) (words g past) s fair (quiet_marks (is_covered g past) (unfinished g past) s a e refl) ∙ sym (append-nil _)

pub takes_are : (g : Settings) (past : List Entry) (s : ℕ) → IsLawful g past → taken_of (stream g past s) ≡ got_on past s
unfolding Legal Fair heard_in got_on turn
takes_are g [] s h = refl
takes_are g (x ∷ past) s h =
    entry_more g past s x.answer x.event (last_means g x past h.legal) (legal_fair g (x ∷ past) h.legal h.fair) ∙ ap (λ (l : List Delivery). l ++ got_in s x.answer x.event) (takes_are g past s (record { legal = h.legal.0; fair = h.fair.0 }))

pub taken_is : (g : Settings) (past : List Entry) (s : ℕ) (t : Turn) → IsStream g past s t → got_on past s ≡ taken t.words
taken_is g past s t is = sym (takes_are g past s is.lawful) ∙ ap taken_of is.there

-- ---- what was taken is what was delivered first

first_of_turn : (g : Settings) (past : List Entry) (s : ℕ) (o : Option Turn) → IsLawful g past → stream g past s ≡ o → IsPrefix (taken_of o) (delivered_of o)
first_of_turn g past s None h is = ([], refl)
first_of_turn g past s (Some t) h is = taken_prefix g past s t (record { lawful = h; there = is })

pub taken_first : (g : Settings) (past : List Entry) (s : ℕ) → IsLawful g past → IsPrefix (got_on past s) (delivered_on g past s)
taken_first g past s h = subst (λ (l : List Delivery). IsPrefix l (delivered_on g past s)) (takes_are g past s h) (first_of_turn g past s (stream g past s) h refl)

-- where nothing waits it is all
whole_of_turn : (g : Settings) (past : List Entry) (s : ℕ) (o : Option Turn) → IsLawful g past → stream g past s ≡ o → waiting_of o ≡ [] → taken_of o ≡ delivered_of o
whole_of_turn g past s None h is none = refl
whole_of_turn g past s (Some t) h is none = sym (append-nil (taken t.words)) ∙ (ap (λ (l : List Delivery). taken t.words ++ l) (sym none) ∙ (laws_of g past s t (record { lawful = h; there = is })).taken)

-- a Take that gets nothing finds nothing that waits
waits_none : (g : Settings) (t : Facts) (s : ℕ) (waits : List Delivery) → t.streams.waits s ≡ waits → GetsNothing (to_call g t (call.Take s)) → waits ≡ []
unfolding refused_call
waits_none g t s [] is gets = refl
waits_none g t s (d ∷ waits) is gets = absurd (subst GetsNothing (got_first g t s d waits is) gets)
  where
    got_first : (g : Settings) (t : Facts) (s : ℕ) (d : Delivery) (waits : List Delivery) → t.streams.waits s ≡ d ∷ waits → to_call g t (call.Take s) ≡ answer.Got d
    got_first g t s d waits is = let small : nat_lt g.max_payload 0 ≡ false = grind (arith, nat_tests) in rw (is, small) refl

pub taken_whole : (g : Settings) (past : List Entry) (s : ℕ) → IsLawful g past → GetsNothing (answer_to g past (event.Asked (call.Take s))) → got_on past s ≡ delivered_on g past s
unfolding facts known_after
taken_whole g past s h gets =
    let none : waiting_of (stream g past s) ≡ [] = waits_none g (facts g past) s (waiting_of (stream g past s)) refl gets in
    sym (takes_are g past s h) ∙ whole_of_turn g past s (stream g past s) h refl none
