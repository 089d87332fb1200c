-- Each request of the peer's becomes one job, and is handed out once, in its order.
use Rattle.std.proofs.Common.{◌≡◌, ◌≤◌, ◌+◌, ◌==◌, ◌&&◌, ◌||◌, ℕ, Bool, true, false, cond, List, [], ◌∷◌, ◌++◌, Option, Some, None, refl, append-nil, ap, subst, sym, ◌∙◌, arith}
use Rattle.std.proofs.lemmas.Grind.{common_steps}
use Rattle.std.proofs.lemmas.Bool.{eqb-true}
use Rattle.std.proofs.lemmas.List.{append_assoc}
use Rattle.std.specs.List.{AllByRecursion}
use Rattle.rs_wire.specs.declared.words.Role.{Role}
use Rattle.rs_wire.specs.declared.words.Role.TheVariants.{Responder}
use Rattle.rs_wire.specs.declared.settings.Settings.{Settings}
use Rattle.rs_wire.specs.declared.message.Message.{Message}
use Rattle.rs_wire.specs.declared.delivery.Job.{Job}
use Rattle.rs_wire.specs.declared.call.Call.TheVariants as call
use Rattle.tape.specs.declared.event.Event.{Event}
use Rattle.tape.specs.declared.event.Event.TheVariants as event
use Rattle.tape.specs.declared.answer.Answer.{Answer}
use Rattle.tape.specs.declared.answer.Answer.TheVariants as answer
use Rattle.tape.specs.declared.entry.Entry.{Entry}
use Rattle.fragment.specs.Joining.{Gathered}
use Rattle.stream_model.specs.Marks.{Opening, Step, Payload, RequestN, Cancel, Fail, Mark, Opens, Passed, Sent, Got, Pushed, Took, TookJob}
use Rattle.stream_model.specs.Turns.{Word, Said, Taken, Turn, is_role, is_whole, other}
use Rattle.stream_model.specs.Streams.{brings_job, goes_on, has_room, is_admitted, jobs, jobs_in, jobs_taken, jobs_waiting, late_job, one_if, opening_job, turn}
use Rattle.stream_model.specs.Known.{front_of, known as known_after}
use Rattle.stream_model.specs.Fair.{Fair as FairMarks, Fits}
use Rattle.stream_model.proofs.Ids.{fresh, others_stay, same_id, turn_got, turn_job, turn_opened, turn_passed, turn_pushed, turn_sent, turn_took}
use Rattle.stream_model.proofs.Jobs.{jobs_after, jobs_more}
use Rattle.session_model.specs.Leases.{is_covered}
use Rattle.session_model.specs.Streams.{heard_in, marks_in, unfinished, words}
use Rattle.session_model.specs.Answers.{facts}
use Rattle.session_model.specs.Legal.{Fair, Legal}
use Rattle.session_model.specs.Means.{Means}
use Rattle.session_model.proofs.Fairness.{legal_fair}
use Rattle.session_model.proofs.Meaning.{last_means}
use Rattle.session_laws.specs.Streams.{IsLawful}
use Rattle.session_laws.specs.Jobs.{got_in, jobs_got, jobs_on}

-- ---- one job a stream, at most

jobs_on_both : (s : ℕ) (xs ys : List Job) → jobs_on s (xs ++ ys) ≡ jobs_on s xs + jobs_on s ys
unfolding jobs_on
jobs_on_both s [] ys = omega arith
jobs_on_both s (j ∷ xs) ys = omega (arith, jobs_on_both s xs ys)

-- the request's own message is whole
abbrev whole_turn : Option Turn → Bool
whole_turn None = false
whole_turn (Some t) = is_whole t.opening t.words

or_more : (n : ℕ) (a b : Bool) → n ≤ one_if a → n ≤ one_if (a || b)
or_more n true b h = h
or_more n false b h = omega (arith, h)

stays_whole : (n : ℕ) (t : Option Turn) (word : Role → Word) → n ≤ one_if (whole_turn t) → n ≤ one_if (whole_turn (goes_on t word))
unfolding is_whole
stays_whole n None word h = h
stays_whole n (Some t) word h = or_more n _ _ h

-- a request that comes
opening_counts : (s : ℕ) (o : Opening) (whole : Option (Message × Bool)) (mine room : Bool) → o.whole ≡ whole
    → jobs_on s (cond (mine && room) (opening_job s o whole) []) ≤ one_if (whole_turn (cond room (Some (record { opening = o; words = [] })) None))
unfolding jobs_on is_whole
opening_counts s o None mine room is = grind (arith, common_steps)
opening_counts s o (Some m) mine false is = grind (arith, common_steps)
opening_counts s o (Some m) false true is = omega arith
opening_counts s o (Some m) true true is = rw (is, same_id s) (omega arith)

opening_elsewhere : (q s : ℕ) (o : Opening) (whole : Option (Message × Bool)) (b : Bool) → (q == s) ≡ false → jobs_on s (cond b (opening_job q o whole) []) ≡ 0
unfolding jobs_on
opening_elsewhere q s o None true apart = refl
opening_elsewhere q s o None false apart = refl
opening_elsewhere q s o (Some m) true apart = rw (apart) refl
opening_elsewhere q s o (Some m) false apart = refl

-- the rest of a request's own message
late_counts : (n s : ℕ) (step : Step) (t : Option Turn) → n ≤ one_if (whole_turn t) → n + jobs_on s (late_job s step t) ≤ one_if (whole_turn (goes_on t (λ role. Said (other role) step)))
unfolding jobs_on is_whole
late_counts n s (Payload message complete next) None h = omega (arith, h)
late_counts n s (Payload message complete next) (Some t) h =
    let here = same_id s in
    grind (arith, common_steps)
late_counts n s (RequestN k) t h = let on = stays_whole n t (λ role. Said (other role) (RequestN k)) h in omega (arith, on)
late_counts n s Cancel t h = let on = stays_whole n t (λ role. Said (other role) Cancel) h in omega (arith, on)
late_counts n s (Fail code content) t h = let on = stays_whole n t (λ role. Said (other role) (Fail code content)) h in omega (arith, on)

late_elsewhere : (q s : ℕ) (step : Step) (t : Option Turn) → (q == s) ≡ false → jobs_on s (late_job q step t) ≡ 0
unfolding jobs_on
late_elsewhere q s (Payload message complete next) None apart = refl
late_elsewhere q s (Payload message complete next) (Some t) apart = grind (arith, common_steps)
late_elsewhere q s (RequestN k) t apart = refl
late_elsewhere q s Cancel t apart = refl
late_elsewhere q s (Fail code content) t apart = refl

-- what a mark adds
Counts : ℕ → List Mark → Mark → ℕ → ℕ → Type 0
Counts most seen m s n = n + jobs_on s (brings_job most seen m) ≤ one_if (whole_turn (turn most (m ∷ seen) s))

opens_here : (most : ℕ) (seen : List Mark) (o : Opening) (s n : ℕ) → Fits most seen (Opens s o) → n ≤ one_if (whole_turn (turn most seen s)) → Counts most seen (Opens s o) s n
unfolding Counts
opens_here most seen o s n fits h =
    let none = fresh most seen s fits.fresh in
    let zero_is : n ≤ 0 = subst (λ (t : Option Turn). n ≤ one_if (whole_turn t)) none h in
    let counts = opening_counts s o o.whole (is_role o.role Responder) (is_admitted (has_room most seen) o) refl in
    rw (turn_opened most seen s o fits.fresh) (omega (arith, zero_is, counts))

here_or_not : (most : ℕ) (seen : List Mark) (m : Mark) (q s n : ℕ) (same : Bool) → (q == s) ≡ same → (q ≡ s → Counts most seen m s n) → (same ≡ false → Counts most seen m s n) → Counts most seen m s n
here_or_not most seen m q s n true is here there = here (eqb-true q s is)
here_or_not most seen m q s n false is here there = there refl

counts_more : (most : ℕ) (seen : List Mark) (m : Mark) (s n : ℕ) → Fits most seen m → n ≤ one_if (whole_turn (turn most seen s)) → Counts most seen m s n
unfolding Counts jobs_on
counts_more most seen (Opens q o) s n fits h =
    here_or_not most seen (Opens q o) q s n (q == s) refl
    (λ same. subst (λ (i : ℕ). Fits most seen (Opens i o) → Counts most seen (Opens i o) s n) (sym same) (λ f. opens_here most seen o s n f h) fits)
    (λ apart. rw (opening_elsewhere q s o o.whole (is_role o.role Responder && is_admitted (has_room most seen) o) apart, others_stay most seen (Opens q o) q s (same_id q) apart) (omega (arith, h)))
counts_more most seen (Passed q) s n fits h = rw (turn_passed most seen q s) (omega (arith, h))
counts_more most seen (Sent q step) s n fits h =
    here_or_not most seen (Sent q step) q s n (q == s) refl
    (λ same. rw (same, turn_sent most seen s step) (let on = stays_whole n (turn most seen s) (λ role. Said role step) h in omega (arith, on)))
    (λ apart. rw (others_stay most seen (Sent q step) q s (same_id q) apart) (omega (arith, h)))
counts_more most seen (Got q step) s n fits h =
    here_or_not most seen (Got q step) q s n (q == s) refl
    (λ same. rw (same, turn_got most seen s step) (late_counts n s step (turn most seen s) h))
    (λ apart. rw (late_elsewhere q s step (turn most seen q) apart, others_stay most seen (Got q step) q s (same_id q) apart) (omega (arith, h)))
counts_more most seen (Pushed metadata) s n fits h = rw (turn_pushed most seen metadata s) (omega (arith, h))
counts_more most seen (Took q d) s n fits h =
    here_or_not most seen (Took q d) q s n (q == s) refl
    (λ same. rw (same, turn_took most seen s d) (let on = stays_whole n (turn most seen s) (λ role. Taken d) h in omega (arith, on)))
    (λ apart. rw (others_stay most seen (Took q d) q s (same_id q) apart) (omega (arith, h)))
counts_more most seen TookJob s n fits h = rw (turn_job most seen s) (omega (arith, h))

jobs_once : (most : ℕ) (seen : List Mark) (s : ℕ) → FairMarks most seen → jobs_on s (jobs most seen) ≤ one_if (whole_turn (turn most seen s))
unfolding jobs jobs_on FairMarks turn Counts
jobs_once most [] s fair = omega arith
jobs_once most (m ∷ seen) s fair =
    rw (jobs_on_both s (jobs most seen) (brings_job most seen m))
    (counts_more most seen m s (jobs_on s (jobs most seen)) fair.1 (jobs_once most seen s fair.0))

one_at_most : (b : Bool) → one_if b ≤ 1
one_at_most true = omega arith
one_at_most false = omega arith

-- ---- handed out in their order

added : (most : ℕ) (seen : List Mark) (m : Mark) (got : List Job) → FairMarks most seen → jobs_in m ≡ 0 → got ++ jobs_waiting most seen ≡ jobs most seen
    → got ++ jobs_waiting most (m ∷ seen) ≡ jobs most (m ∷ seen)
unfolding jobs
added most seen m got fair none h =
    rw (jobs_more most seen m fair none) (sym (append_assoc got (jobs_waiting most seen) (brings_job most seen m)) ∙ ap (λ (l : List Job). l ++ brings_job most seen m) h)

all_added : (most : ℕ) (more seen : List Mark) (got : List Job) → FairMarks most (more ++ seen) → AllByRecursion (λ m. jobs_in m ≡ 0) more → got ++ jobs_waiting most seen ≡ jobs most seen
    → got ++ jobs_waiting most (more ++ seen) ≡ jobs most (more ++ seen)
unfolding FairMarks
all_added most [] seen got fair quiet h = h
all_added most (m ∷ more) seen got fair quiet h = added most (more ++ seen) m got fair.0 quiet.0 (all_added most more seen got fair.0 quiet.1 h)

front_first : (waiting : List Job) (j : Job) → front_of waiting ≡ Some j → (rest : List Job) × (waiting ≡ j ∷ rest)
front_first [] j is = absurd (cc)
front_first (k ∷ waiting) j is = (waiting, let same : k ≡ j = cc in ap (λ (i : Job). i ∷ waiting) same)

-- a job is taken
taken_more : (most : ℕ) (seen : List Mark) (got : List Job) (j : Job) → front_of (jobs_waiting most seen) ≡ Some j → got ++ jobs_waiting most seen ≡ jobs most seen
    → (got ++ j ∷ []) ++ jobs_waiting most (TookJob ∷ seen) ≡ jobs most (TookJob ∷ seen)
unfolding jobs
taken_more most seen got j first h =
    let waits = front_first (jobs_waiting most seen) j first in
    rw (jobs_after most seen j waits.0 waits.1)
    (append_assoc got (j ∷ []) waits.0 ∙ (ap (λ (l : List Job). got ++ l) (sym waits.1) ∙ (h ∙ sym (append-nil (jobs most seen)))))

-- an answer that hands out no job takes none
quiet_marks : (covered : Bool) (held : ℕ → Gathered) (a : Answer) (e : Event) → got_in a ≡ [] → AllByRecursion (λ m. jobs_in m ≡ 0) (marks_in covered held a e)
quiet_marks covered held a e none = grind (arith, common_steps)

quiet_more : (g : Settings) (past : List Entry) (a : Answer) (e : Event) → got_in a ≡ [] → FairMarks g.max_streams (marks_in (is_covered g past) (unfinished g past) a e ++ words g past) → jobs_got past ++ jobs_waiting g.max_streams (words g past) ≡ jobs g.max_streams (words g past)
    → (jobs_got past ++ got_in a) ++ jobs_waiting g.max_streams (marks_in (is_covered g past) (unfinished g past) a e ++ words g past) ≡ jobs g.max_streams (marks_in (is_covered g past) (unfinished g past) a e ++ words g past)
quiet_more g past a e none fair h =
    rw (none, append-nil (jobs_got past)) (all_added g.max_streams (marks_in (is_covered g past) (unfinished g past) a e) (words g past) (jobs_got past) fair (quiet_marks (is_covered g past) (unfinished g past) a e none) h)

entry_more : (g : Settings) (past : List Entry) (a : Answer) (e : Event) → Means g (facts g past) e a → FairMarks g.max_streams (marks_in (is_covered g past) (unfinished g past) a e ++ words g past) → jobs_got past ++ jobs_waiting g.max_streams (words g past) ≡ jobs g.max_streams (words g past)
    → (jobs_got past ++ got_in a) ++ jobs_waiting g.max_streams (marks_in (is_covered g past) (unfinished g past) a e ++ words g past) ≡ jobs g.max_streams (marks_in (is_covered g past) (unfinished g past) a e ++ words g past)
unfolding facts known_after
entry_more g past (answer.GotJob job) (event.Asked call.TakeJob) means fair h = taken_more g.max_streams (words g past) (jobs_got past) job means h
entry_more g past (answer.GotJob job) e means fair h = absurd means
entry_more g past a e means fair h = quiet_more g past a e refl fair h

pub handed_out_first : (g : Settings) (past : List Entry) → IsLawful g past → jobs_got past ++ jobs_waiting g.max_streams (words g past) ≡ jobs g.max_streams (words g past)
unfolding Legal Fair heard_in jobs_got jobs jobs_taken jobs_waiting
handed_out_first g [] h = refl
handed_out_first g (x ∷ past) h =
    entry_more g past x.answer x.event (last_means g x past h.legal) (legal_fair g (x ∷ past) h.legal h.fair) (handed_out_first g past (record { legal = h.legal.0; fair = h.fair.0 }))

pub handed_out_once : (g : Settings) (past : List Entry) (s : ℕ) → IsLawful g past → jobs_on s (jobs_got past) ≤ 1
handed_out_once g past s h =
    let all = jobs_once g.max_streams (words g past) s (legal_fair g past h.legal h.fair) in
    let most = one_at_most (whole_turn (turn g.max_streams (words g past) s)) in
    let both = jobs_on_both s (jobs_got past) (jobs_waiting g.max_streams (words g past)) in
    let same = ap (jobs_on s) (handed_out_first g past h) in
    omega (arith, all, most, both, same)
