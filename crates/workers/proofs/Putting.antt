-- A job among others is changed, leaves, or comes.
use Rattle.std.specs.List.{position, position_or_len, remove}
use Rattle.std.proofs.lemmas.Bool.Decides.{nat_tests}
use Rattle.std.proofs.lemmas.List.Quantifiers.{position-Some}
use Rattle.std.proofs.lemmas.List.{length-append, take-append-drop}
use Rattle.std.proofs.Math.ListN.{set}
use Rattle.std.proofs.Common.{◌≡◌, ◌<◌, ◌≤◌, ◌+◌, ◌==◌, ◌∙◌, ℕ, zero, suc, Bool, true, false, cond, if◌then◌else◌, not, inl, inr, ◌⊎◌, List, [], ◌∷◌, ◌++◌, length, take, drop, get_or, drop-cons, refl, sym, ap, subst, arith, append-nil}
use Rattle.std.specs.Prelude.{Option, Some, None, is_none}
use Rattle.rs_wire.specs.declared.words.Kind.{Kind}
use Rattle.rs_wire.specs.declared.words.Kind.TheVariants as kind
use Rattle.rs_wire.specs.declared.message.Message.{Message}
use Rattle.rs_wire.specs.declared.call.Call.{Call}
use Rattle.rs_wire.specs.declared.call.Call.TheVariants as call
use Rattle.rs_wire.specs.declared.delivery.Job.{Job}
use Rattle.rs_wire.specs.declared.settings.Settings.{Settings}
use Rattle.conn_shared.specs.Members.{Continues}
use Rattle.tape.specs.declared.event.Event.{Event}
use Rattle.tape.specs.declared.event.Event.TheVariants as event
use Rattle.rs_wire.specs.declared.delivery.Job.TheVariants as job
use Rattle.tape.specs.declared.answer.Answer.{Answer}
use Rattle.tape.specs.declared.answer.Answer.TheVariants as answer
use Rattle.tape.specs.declared.entry.Entry.{Entry}
use Rattle.handlers.specs.Listed.{Listed}
use Rattle.handlers.specs.declared.law.Law.{Law}
use Rattle.workers.specs.declared.job.OpenJob.{OpenJob}
use Rattle.workers.specs.declared.job.Stage.TheVariants as stage
use Rattle.workers.specs.Courses.{Course, after_call, after_event, after_job, after_reply, after_take, course, is_named, made_before}
use Rattle.workers.specs.Replies.{law_of}
use Rattle.workers.specs.Serving.{AreRouted, IsAt, IsGone, IsServed, Stands, jobs_on}
use Rattle.workers.specs.declared.outcome.Found.{Found}
use Rattle.workers.specs.declared.outcome.Found.TheVariants as found
use Rattle.workers.specs.Causes.{IsRefusedOrFull, WasAnswered, WasHad}
use Rattle.workers.specs.Going.{IsForgotten, IsOfTakeJob, IsPut, IsSameJob, Keeps, StoodIn, found_of, told}
use Rattle.workers.proofs.Fronts.{answered_between, got_since}
use Rattle.workers.proofs.Plans.{other_test, same_test, test_other, test_same}
use Rattle.workers.proofs.Jobs.{jobs-append, jobs_here, jobs_there, routed_both, routed_split, served_longer, serving_same}

-- ---- places

pub remove_split : {X : Type 0} (before after : List X) (x : X) → remove (before ++ x ∷ after) (length before) ≡ before ++ after
remove_split [] after x = refl
remove_split (b ∷ before) after x = ap (λ xs. b ∷ xs) (remove_split before after x)

pub set_split : {X : Type 0} (before after : List X) (x y : X) → set (before ++ x ∷ after) (length before) y ≡ before ++ y ∷ after
set_split [] after x y = refl
set_split (b ∷ before) after x y = ap (λ xs. b ∷ xs) (set_split before after x y)

pub cut_at : {X : Type 0} (xs : List X) (i : ℕ) (d : X) → i < length xs → xs ≡ take i xs ++ get_or xs i d ∷ drop (suc i) xs
cut_at xs i d within = sym (take-append-drop i xs) ∙ ap (λ ys. take i xs ++ ys) (drop-cons xs i d within)

pub cut_length : {X : Type 0} (xs : List X) (i : ℕ) → i < length xs → length (take i xs) ≡ i
cut_length [] i within = absurd (omega arith)
cut_length (x ∷ xs) zero within = refl
cut_length (x ∷ xs) (suc i) within = ap suc (cut_length xs i (omega arith))

-- ---- the job of a stream leaves

none_on : (s : ℕ) (jobs : List OpenJob) → length jobs ≤ position_or_len (λ j. j.stream == s) jobs → jobs_on s jobs ≡ []
none_on s [] h = refl
none_on s (j ∷ jobs) h = elim (j.stream == s) as (λ b. (j.stream == s) ≡ b → suc (length jobs) ≤ cond (not b) (1 + position_or_len (λ i. i.stream == s) jobs) 0 → jobs_on s (j ∷ jobs) ≡ []) [
  | true ↦ λ is le. absurd (omega arith)
  | false ↦ λ is le. jobs_there s j jobs (test_other j.stream s is) ∙ none_on s jobs (omega arith)
] refl h

past_end : {X : Type 0} (p : X → Bool) (xs : List X) → position p xs ≡ None → length xs ≤ position_or_len p xs
past_end p xs h = grind (arith, nat_tests)

pub nothing_forgotten : (s : ℕ) (jobs : List OpenJob) → position (λ j. j.stream == s) jobs ≡ None → IsForgotten s jobs jobs
nothing_forgotten s jobs h = record {
  here = λ few. none_on s jobs (past_end (λ j. j.stream == s) jobs h);
  apart = λ q other. refl;
  routed = λ routes r. r;
  stood = λ j h. h;
}

two_empty : (xs ys : List OpenJob) (j : OpenJob) → length (xs ++ j ∷ ys) ≤ 1 → xs ++ ys ≡ []
two_empty [] [] j few = refl
two_empty [] (y ∷ ys) j few = absurd (omega arith)
two_empty (x ∷ xs) ys j few = let l : length (xs ++ j ∷ ys) ≡ length xs + length (j ∷ ys) = length-append xs (j ∷ ys) in absurd (omega arith)

stood_more : (before after : List OpenJob) (j x : OpenJob) → StoodIn (before ++ after) x → StoodIn (before ++ j ∷ after) x
stood_more [] after j x h = inr h
stood_more (b ∷ before) after j x (inl h) = inl h
stood_more (b ∷ before) after j x (inr h) = inr (stood_more before after j x h)

forgotten_between : (s : ℕ) (before after : List OpenJob) (j : OpenJob) → j.stream ≡ s → IsForgotten s (before ++ j ∷ after) (before ++ after)
forgotten_between s before after j is = record {
  here = λ few.
      let all : jobs_on s (before ++ j ∷ after) ≡ jobs_on s before ++ j ∷ jobs_on s after = jobs-append s before (j ∷ after) ∙ ap (λ js. jobs_on s before ++ js) (jobs_here s j after is) in
      jobs-append s before after ∙ two_empty (jobs_on s before) (jobs_on s after) j (subst (λ js. length js ≤ 1) all few);
  apart = λ q other. jobs-append q before after ∙ (ap (λ js. jobs_on q before ++ js) (sym (jobs_there q j after (λ e. other (sym e ∙ is)))) ∙ sym (jobs-append q before (j ∷ after)));
  routed = λ routes r. let both = routed_split routes before (j ∷ after) r in routed_both routes before after both.0 both.1.1;
  stood = stood_more before after j;
}

pub one_forgotten : (s i : ℕ) (jobs : List OpenJob) (d : OpenJob) → position (λ j. j.stream == s) jobs ≡ Some i → IsForgotten s jobs (remove jobs i)
one_forgotten s i jobs d h =
    let at = position-Some (λ (j : OpenJob). j.stream == s) jobs i d h in
    subst (λ js. IsForgotten s js (remove jobs i)) (sym (cut_at jobs i d at.0))
    (forgotten_between s (take i jobs) (drop (suc i) jobs) (get_or jobs i d) (test_same (get_or jobs i d).stream s at.1))

-- ---- a job comes

few_jobs : (routes : List Listed) (n s : ℕ) (c : Course) (jobs : List OpenJob) → IsServed routes n s c jobs → length jobs ≤ 1
few_jobs routes n s c [] h = omega arith
few_jobs routes n s c (j ∷ []) h = omega arith
few_jobs routes n s c (j ∷ i ∷ more) h = absurd h

job_here : (s : ℕ) (k : Kind) (initial : Option ℕ) (message : Message) (complete : Bool) (c : Course)
    → after_job s (answer.GotJob (job.Asked s k initial message complete)) c ≡ record { job = Some (job.Asked s k initial message complete); made = made_before c; got = []; over = false; last = None; tried = c.tried }
job_here s k initial message complete c = rw (same_test s s refl) refl

pub job_there : (s q : ℕ) (k : Kind) (initial : Option ℕ) (message : Message) (complete : Bool) (c : Course) → (q ≡ s → ⊥)
    → after_job q (answer.GotJob (job.Asked s k initial message complete)) c ≡ c
job_there s q k initial message complete c differs = rw (other_test s q (λ e. differs (sym e))) refl

-- ---- replies before a job

-- one call: where no reply was tried, none was accepted
untried_call : (s : ℕ) (asked : Call) (a : Answer) (c : Course) → (c.tried ≡ false → c.made ≡ []) → (after_call s asked a c).tried ≡ false → (after_call s asked a c).made ≡ []
untried_call s (call.Next q message complete) a c h = by (q == s)
  where
    by : (b : Bool) → (if b then after_reply (call.Next q message complete) a c else c).tried ≡ false → (if b then after_reply (call.Next q message complete) a c else c).made ≡ []
    by true is = absurd (cc)
    by false is = h is
untried_call s (call.Done q) a c h = by (q == s)
  where
    by : (b : Bool) → (if b then after_reply (call.Done q) a c else c).tried ≡ false → (if b then after_reply (call.Done q) a c else c).made ≡ []
    by true is = absurd (cc)
    by false is = h is
untried_call s (call.Fail q code content) a c h = by (q == s)
  where
    by : (b : Bool) → (if b then after_reply (call.Fail q code content) a c else c).tried ≡ false → (if b then after_reply (call.Fail q code content) a c else c).made ≡ []
    by true is = absurd (cc)
    by false is = h is
untried_call s (call.Take q) a c h = by (q == s)
  where
    by : (b : Bool) → (if b then after_take q a c else c).tried ≡ false → (if b then after_take q a c else c).made ≡ []
    by true is = h is
    by false is = h is
untried_call s call.TakeJob (answer.GotJob (job.Asked q kind initial message complete)) c h = by (q == s)
  where
    kept : (b : Bool) → c.made ≡ [] → (if b then c.made else []) ≡ []
    kept true is = is
    kept false is = refl

    by : (b : Bool) → (if b then record { job = Some (job.Asked q kind initial message complete); made = made_before c; got = []; over = false; last = None; tried = c.tried } else c).tried ≡ false
        → (if b then record { job = Some (job.Asked q kind initial message complete); made = made_before c; got = []; over = false; last = None; tried = c.tried } else c).made ≡ []
    by true is = kept (is_none c.job) (h is)
    by false is = h is
untried_call s call.TakeJob (answer.GotJob (job.Pushed metadata)) c h = h
untried_call s call.TakeJob _ c h = h
untried_call s _ a c h = h

untried_event : (s : ℕ) (e : Event) (a : Answer) (c : Course) → (c.tried ≡ false → c.made ≡ []) → (after_event s e a c).tried ≡ false → (after_event s e a c).made ≡ []
untried_event s (event.Asked asked) a c h = untried_call s asked a c h
untried_event s _ a c h = h

-- where no reply was tried on a stream, none was accepted
pub untried : (names : List ℕ) (s : ℕ) (past : List Entry) → (course names s past).tried ≡ false → (course names s past).made ≡ []
unfolding course
untried names s [] h = refl
untried names s (x ∷ past) h = by (untried names s past) (is_named names x.who) h
  where
    by : ((course names s past).tried ≡ false → (course names s past).made ≡ []) → (b : Bool) → (if b then after_event s x.event x.answer (course names s past) else course names s past).tried ≡ false
        → (if b then after_event s x.event x.answer (course names s past) else course names s past).made ≡ []
    by rest true = untried_event s x.event x.answer (course names s past) rest
    by rest false = rest

-- so none counts for a job that comes where the statement holds
none_before : (routes : List Listed) (n s : ℕ) (c : Course) (jobs : List OpenJob) → (c.tried ≡ false → c.made ≡ []) → IsServed routes n s c jobs → made_before c ≡ []
none_before routes n s c [] still h = by c.job h
  where
    by : (o : Option Job) → IsGone routes n s c o → (if is_none o then c.made else []) ≡ []
    by None gone = still gone
    by (Some j) gone = refl
none_before routes n s c (j ∷ []) still h = ap (λ (o : Option Job). if is_none o then c.made else []) h.got
none_before routes n s c (j ∷ i ∷ more) still h = absurd h

-- a job of which nothing was made
fresh_at : (lo : Option Law) (k : Kind) (content : List ℕ) → IsAt lo k content [] false 0 stage.Request
fresh_at (Some l) kind.Response content = refl
fresh_at (Some l) kind.Fnf content = refl
fresh_at (Some l) kind.Stream content = omega arith
fresh_at (Some l) kind.Channel content = (refl, refl, refl)
fresh_at None kind.Response content = refl
fresh_at None kind.Fnf content = refl
fresh_at None kind.Stream content = refl
fresh_at None kind.Channel content = refl

fresh_stands : (routes : List Listed) (j : OpenJob) (initial : Option ℕ) (complete tried : Bool) → j.made ≡ 0 → j.stage ≡ stage.Request
    → Stands routes (record { job = Some (job.Asked j.stream j.kind initial j.message complete); made = []; got = []; over = false; last = None; tried = tried }) j
fresh_stands routes j initial complete tried made at = record {
  initial = initial;
  complete = complete;
  got = refl;
  made = made;
  replies = tt;
  at = subst (λ n. IsAt (law_of routes j.kind j.message) j.kind j.message.content [] false n j.stage) (sym made)
      (subst (λ t. IsAt (law_of routes j.kind j.message) j.kind j.message.content [] false 0 t) (sym at) (fresh_at (law_of routes j.kind j.message) j.kind j.message.content));
}

pub serving_put : (names : List ℕ) (routes : List Listed) (old new : List Entry) (s : ℕ) (k : Kind) (initial : Option ℕ) (message : Message) (complete : Bool) (was now : List OpenJob)
    → ((q : ℕ) → course names q new ≡ told q call.TakeJob (answer.GotJob (job.Asked s k initial message complete)) (course names q old)) → length old ≤ length new
    → IsPut routes s k message was now → Keeps names routes old new was now
serving_put names routes old new s k initial message complete was now tells longer p h q = by (q == s) refl
  where
    a : Answer
    a = answer.GotJob (job.Asked s k initial message complete)

    all : jobs_on q now ≡ jobs_on q p.rest ++ jobs_on q (p.job ∷ [])
    all = ap (jobs_on q) p.are ∙ jobs-append q p.rest (p.job ∷ [])

    here : q ≡ s → IsServed routes (length new) q (course names q new) (jobs_on q now)
    here e =
        let mine : p.job.stream ≡ q = p.stream ∙ sym e in
        let rest : jobs_on q p.rest ≡ [] = subst (λ r. jobs_on r p.rest ≡ []) (sym e) (p.forgotten.here (few_jobs routes (length old) s (course names s old) (jobs_on s was) (h s))) in
        let only : jobs_on q now ≡ p.job ∷ [] = all ∙ (ap (λ js. js ++ jobs_on q (p.job ∷ [])) rest ∙ jobs_here q p.job [] mine) in
        let none : made_before (course names s old) ≡ [] = none_before routes (length old) s (course names s old) (jobs_on s was) (untried names s old) (h s) in
        let went : course names s new ≡ record { job = Some (job.Asked s k initial message complete); made = []; got = []; over = false; last = None; tried = (course names s old).tried } =
        tells s ∙ (job_here s k initial message complete (course names s old)
        ∙ ap (λ (ms : List Call). record { job = Some (job.Asked s k initial message complete); made = ms; got = []; over = false; last = None; tried = (course names s old).tried }) none) in
        let stands = fresh_stands routes p.job initial complete (course names s old).tried p.made p.stage in
        subst (IsServed routes (length new) q (course names q new)) (sym only)
        (subst (λ c. Stands routes c p.job) (sym (ap (λ r. course names r new) e ∙ went))
        (subst (λ m. Stands routes (record { job = Some (job.Asked s k initial m complete); made = []; got = []; over = false; last = None; tried = (course names s old).tried }) p.job) p.message
        (subst (λ l. Stands routes (record { job = Some (job.Asked s l initial p.job.message complete); made = []; got = []; over = false; last = None; tried = (course names s old).tried }) p.job) p.kind
        (subst (λ r. Stands routes (record { job = Some (job.Asked r p.job.kind initial p.job.message complete); made = []; got = []; over = false; last = None; tried = (course names s old).tried }) p.job) p.stream stands))))

    there : (q ≡ s → ⊥) → IsServed routes (length new) q (course names q new) (jobs_on q now)
    there differs =
        let same : jobs_on q now ≡ jobs_on q was = all ∙ (ap (λ js. jobs_on q p.rest ++ js) (jobs_there q p.job [] (λ e. differs (sym e ∙ p.stream))) ∙ (append-nil (jobs_on q p.rest) ∙ p.forgotten.apart q differs)) in
        subst (IsServed routes (length new) q (course names q new)) (sym same)
        (subst (λ c. IsServed routes (length new) q c (jobs_on q was)) (sym (tells q ∙ job_there s q k initial message complete (course names q old) differs))
        (served_longer routes (length old) (length new) q (course names q old) (jobs_on q was) longer (h q)))

    by : (b : Bool) → (q == s) ≡ b → IsServed routes (length new) q (course names q new) (jobs_on q now)
    by true e = here (test_same q s e)
    by false e = there (test_other q s e)

-- ---- no job comes

-- an answer to TakeJob that brings no request changes no stream's course
abbrev pub no_job : Answer → Type 0
no_job (answer.GotJob (job.Asked s k initial message complete)) = ⊥
no_job _ = Unit {0}

pub told_no_job : (s : ℕ) (a : Answer) (c : Course) → no_job a → told s call.TakeJob a c ≡ c
told_no_job s (answer.GotJob (job.Asked q k initial message complete)) c h = absurd h
told_no_job s (answer.GotJob (job.Pushed metadata)) c h = refl
told_no_job s _ c h = refl

pub found_asked : (a : Answer) (s : ℕ) (k : Kind) (m : Message) → found_of a ≡ found.Asked s k m → (initial : Option ℕ) × (complete : Bool) × (a ≡ answer.GotJob (job.Asked s k initial m complete))
found_asked (answer.GotJob (job.Asked q l initial n complete)) s k m h = (initial, complete, cc)
found_asked (answer.GotJob (job.Pushed metadata)) s k m h = absurd (cc)
found_asked answer.NotYet s k m h = absurd (cc)
found_asked answer.OutOfMemory s k m h = absurd (cc)
found_asked _ s k m h = absurd (cc)

abbrev pub BringsNone : Found → Type 0
BringsNone (found.Asked s k m) = ⊥
BringsNone _ = Unit {0}

none_found : (a : Answer) → BringsNone (found_of a) → no_job a
none_found (answer.GotJob (job.Asked q l initial n complete)) h = h
none_found (answer.GotJob (job.Pushed metadata)) h = tt
none_found _ h = tt

-- where no request comes, the statement is as before
pub keeps_none : (names : List ℕ) (routes : List Listed) (old new : List Entry) (work : List OpenJob) (a : Answer) (f : Found) → found_of a ≡ f → BringsNone f
    → ((q : ℕ) → course names q new ≡ told q call.TakeJob a (course names q old)) → length old ≤ length new → Keeps names routes old new work work
keeps_none names routes old new work a f is none tells longer =
    serving_same names routes old new work (λ q. tells q ∙ told_no_job q a (course names q old) (none_found a (subst BringsNone (sym is) none))) longer

pub keeps_put : (names : List ℕ) (routes : List Listed) (old new : List Entry) (s : ℕ) (k : Kind) (m : Message) (a : Answer) (was now : List OpenJob) → found_of a ≡ found.Asked s k m
    → ((q : ℕ) → course names q new ≡ told q call.TakeJob a (course names q old)) → length old ≤ length new → IsPut routes s k m was now → Keeps names routes old new was now
keeps_put names routes old new s k m a was now is tells longer p =
    let f = found_asked a s k m is in
    serving_put names routes old new s k f.0 m f.1 was now (subst (λ b. (q : ℕ) → course names q new ≡ told q call.TakeJob b (course names q old)) f.2 tells) longer p

pub no_more_found : (a b : Answer) → IsOfTakeJob a → found_of a ≡ found.NoMore b → (a ≡ b) × IsRefusedOrFull a
no_more_found (answer.GotJob (job.Asked q l initial n complete)) b of h = absurd (cc)
no_more_found (answer.GotJob (job.Pushed metadata)) b of h = absurd (cc)
no_more_found answer.NotYet b of h = absurd (cc)
no_more_found answer.OutOfMemory b of h = absurd (cc)
no_more_found (answer.Refused why) b of h = (cc, tt)
no_more_found answer.TapeFull b of h = (cc, tt)
no_more_found _ b of h = absurd of

pub not_yet_found : (a : Answer) → found_of a ≡ found.NotYet → a ≡ answer.NotYet
not_yet_found (answer.GotJob (job.Asked q l initial n complete)) h = absurd (cc)
not_yet_found (answer.GotJob (job.Pushed metadata)) h = absurd (cc)
not_yet_found answer.NotYet h = refl
not_yet_found answer.OutOfMemory h = absurd (cc)
not_yet_found _ h = absurd (cc)

pub put_routed : (routes : List Listed) (s : ℕ) (k : Kind) (m : Message) (was now : List OpenJob) → IsPut routes s k m was now → AreRouted routes was → AreRouted routes now
put_routed routes s k m was now p h = subst (AreRouted routes) (sym p.are) (routed_both routes p.rest (p.job ∷ []) (p.forgotten.routed routes h) (p.routed, tt))

pub put_some : (routes : List Listed) (s : ℕ) (k : Kind) (m : Message) (was now : List OpenJob) → IsPut routes s k m was now → 0 < length now
put_some routes s k m was now p = let l : length now ≡ length p.rest + 1 = ap length p.are ∙ length-append p.rest (p.job ∷ []) in omega arith

-- ---- whose job it was

stood_last : (xs : List OpenJob) (j x : OpenJob) → StoodIn (xs ++ j ∷ []) x → StoodIn xs x ⊎ IsSameJob j x
stood_last [] j x (inl h) = inr h
stood_last [] j x (inr h) = absurd h
stood_last (y ∷ xs) j x (inl h) = inl (inl h)
stood_last (y ∷ xs) j x (inr h) = elim (stood_last xs j x h) [
  | inl there ↦ inl (inr there)
  | inr same ↦ inr same
]

-- a job in the work, where one was just put into it, stood there before or was got
pub had_put : (g : Settings) (number : ℕ) (a b c : List Entry) (routes : List Listed) (s : ℕ) (k : Kind) (m : Message) (r : Answer) (was now : List OpenJob) → found_of r ≡ found.Asked s k m
    → WasAnswered g number a b call.TakeJob r → Continues a b → Continues b c → IsPut routes s k m was now → (x : OpenJob) → WasHad g number b c now x → WasHad g number a c was x
had_put g number a b c routes s k m r was now is answered later since p x (inr got) = inr (got_since g number a b c x later got)
had_put g number a b c routes s k m r was now is answered later since p x (inl stood) = elim (stood_last p.rest p.job x (subst (λ js. StoodIn js x) p.are stood)) [
  | inl there ↦ inl (p.forgotten.stood x there)
  | inr same ↦
      let f = found_asked r s k m is in
      let stream : s ≡ x.stream = sym (ap (λ (j : OpenJob). j.stream) same ∙ p.stream) in
      let kind_so : k ≡ x.kind = sym (ap (λ (j : OpenJob). j.kind) same ∙ p.kind) in
      let message : m ≡ x.message = sym (ap (λ (j : OpenJob). j.message) same ∙ p.message) in
      inr (record {
        initial = f.0;
        complete = f.1;
        got = subst (WasAnswered g number a c call.TakeJob)
            (f.2 ∙ (ap (λ q. answer.GotJob (job.Asked q k f.0 m f.1)) stream ∙ (ap (λ q. answer.GotJob (job.Asked x.stream q f.0 m f.1)) kind_so ∙ ap (λ q. answer.GotJob (job.Asked x.stream x.kind f.0 q f.1)) message)))
            (answered_between g number a a b c call.TakeJob r ([], refl) since answered);
      })
]
