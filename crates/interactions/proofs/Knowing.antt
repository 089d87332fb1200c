-- What is known after a mark, from what was known before and what the mark changes.
use Rattle.std.proofs.Common.{◌≡◌, ◌<◌, ◌%◌, ◌==◌, ◌&&◌, ℕ, Bool, true, false, cond, List, [], ◌∷◌, ◌++◌, Option, Some, None, is_some, nat_eq, refl, ap, sym, ◌∙◌, arith, append-nil}
use Rattle.std.proofs.Math.Path.{fun_ext}
use Rattle.std.proofs.lemmas.Bool.Decides.{nat_tests}
use Rattle.rs_wire.specs.declared.words.Role.{Role}
use Rattle.rs_wire.specs.declared.words.Role.TheVariants.{Requester, Responder}
use Rattle.rs_wire.specs.declared.delivery.Delivery.{Delivery}
use Rattle.rs_wire.specs.declared.delivery.Job.{Job}
use Rattle.rs_wire.specs.declared.delivery.Job.TheVariants as job
use Rattle.stream_model.specs.declared.stream.Stream.{Stream}
use Rattle.stream_model.specs.Marks.{Mark, Opening, Step, Opens, Passed, Sent, Got, Pushed, Took, TookJob}
use Rattle.stream_model.specs.Turns.{Said, delivered_first, ends, brings, inbound, is_role, other}
use Rattle.stream_model.specs.Streams.{turn, live, on, one_if, highest, higher, has_room, is_admitted, is_live, jobs_in, jobs_waiting, jobs, jobs_taken, count_to, brings_job, opening_job}
use Rattle.stream_model.specs.Kept.{after, requested, kept, unless_done}
use Rattle.stream_model.specs.Known.{Known, known, over_at, waiting_of}
use Rattle.stream_model.specs.Fair.{Fair}
use Rattle.stream_model.proofs.Ids.{fresh, highest_said, highest_opens, highest_passed, others_stay, same_id, turn_job, turn_passed, turn_pushed, is_opening}
use Rattle.stream_model.proofs.Live.{live_said, live_opens, live_passed, live_pushed, live_job}
use Rattle.stream_model.proofs.Jobs.{jobs_more, jobs_after}
use Rattle.stream_model.proofs.Keeping.{live_kept, kept_going, kept_opened, kept_sent, kept_got, kept_took}
use Rattle.stream_model.proofs.Words.{waits_said}
use Rattle.stream_model.proofs.Steps.{waits_going, waits_sent, waits_got, waits_took, waits_opened, job_going, jobs_got}
use Rattle.interactions.specs.Stands.{Says, Begins}
use Rattle.interactions.specs.Next.{waits_own, waits_peer, job_in, opened_jobs}

pub same_known : (k k' : ℕ → Option Stream) (w w' : ℕ → List Delivery) (j j' : List Job) (l l' e e' o o' : ℕ) → k ≡ k' → w ≡ w' → j ≡ j' → l ≡ l' → e ≡ e' → o ≡ o'
    → ◌≡◌ {A = Known} (record { kept = k; waits = w; jobs = j; live = l; even = e; odd = o }) (record { kept = k'; waits = w'; jobs = j'; live = l'; even = e'; odd = o' })
same_known k k' w w' j j' l l' e e' o o' ik iw ij il ie io = cc

-- what holds at s, and elsewhere as before
at_or_else : {A : Type 0} (s q : ℕ) (before after : ℕ → A) (new : A) → ((s == q) ≡ false → after q ≡ before q) → new ≡ after s → cond (nat_eq s q) new (before q) ≡ after q
at_or_else {A} s q before after new others here =
    elim (nat_eq s q) as (λ v. nat_eq s q ≡ v → cond v new (before q) ≡ after q) [
      | true ↦ λ is. let same : s ≡ q = grind (arith, nat_tests) in here ∙ ap after same
      | false ↦ λ is. sym (others is)
    ] refl

-- ---- a mark on a stream

pub said_known : (most : ℕ) (seen : List Mark) (m : Mark) (s : ℕ) (new : Known) (kept' : Option Stream) (waits' : List Delivery) (more : List Job)
    → Fair most seen → on s m ≡ true → is_opening m ≡ false → jobs_in m ≡ 0
    → kept' ≡ kept (turn most (m ∷ seen) s) → waits' ≡ waiting_of (turn most (m ∷ seen) s) → more ≡ brings_job most seen m
    → Says (known most seen) new s kept' waits' more → new ≡ known most (m ∷ seen)
unfolding known
said_known most seen m s new kept' waits' more h here quiet none k w j says =
    let others = λ (q : ℕ) (apart : (s == q) ≡ false). others_stay most seen m s q here apart in
    let count = live_said most seen m s h here quiet in
    let before : one_if (is_some (kept (turn most seen s))) ≡ one_if (is_live (turn most seen s)) = ap one_if (live_kept (turn most seen s)) in
    let after : one_if (is_some kept') ≡ one_if (is_live (turn most (m ∷ seen) s)) = ap one_if (ap is_some k ∙ live_kept (turn most (m ∷ seen) s)) in
    let l = says.live in
    same_known new.kept (λ q. kept (turn most (m ∷ seen) q)) new.waits (λ q. waiting_of (turn most (m ∷ seen) q)) new.jobs (jobs_waiting most (m ∷ seen)) new.live (live most (m ∷ seen)) new.even (highest 0 (m ∷ seen)) new.odd (highest 1 (m ∷ seen))
    (fun_ext (λ q. says.kept q ∙ at_or_else s q (λ q. kept (turn most seen q)) (λ q. kept (turn most (m ∷ seen) q)) kept' (λ apart. ap kept (others q apart)) k))
    (fun_ext (λ q. says.waits q ∙ at_or_else s q (λ q. waiting_of (turn most seen q)) (λ q. waiting_of (turn most (m ∷ seen) q)) waits' (λ apart. ap waiting_of (others q apart)) w))
    (says.jobs ∙ (ap (λ l. jobs_waiting most seen ++ l) j ∙ sym (jobs_more most seen m h none)))
    (omega arith)
    (says.even ∙ sym (highest_said 0 seen m quiet))
    (says.odd ∙ sym (highest_said 1 seen m quiet))

own_waits : (role : Role) (over ends : Bool) (before more : List Delivery) → waits_own over ends before ≡ waits_said over (is_role role role) ends before more
own_waits Requester over ends before more = refl
own_waits Responder over ends before more = refl

peer_waits : (role : Role) (over ends : Bool) (before more : List Delivery) → waits_peer over before more ≡ waits_said over (is_role role (other role)) ends before more
peer_waits Requester over ends before more = refl
peer_waits Responder over ends before more = refl

same_job : (s : ℕ) (f : Stream) (step : Step) → job_in s f step ≡ job_going s (Some f) step
same_job s f step = refl

-- an act of this end on a stream that is open
pub own_known : (most : ℕ) (seen : List Mark) (s : ℕ) (step : Step) (f : Stream) (new : Known)
    → Fair most seen → (known most seen).kept s ≡ Some f
    → Says (known most seen) new s (unless_done (after f (Said f.role step))) (waits_own (over_at f (inbound f.role)) (ends f.kind (inbound f.role) (Said f.role step)) ((known most seen).waits s)) []
    → new ≡ known most (Sent s step ∷ seen)
unfolding known
own_known most seen s step f new h k says =
    let before = waiting_of (turn most seen s) in
    said_known most seen (Sent s step) s new _ _ _ h (same_id s) refl refl
    (sym (kept_sent most seen s step ∙ ap (λ k. kept_going k (λ role. Said role step)) k))
    (own_waits f.role (over_at f (inbound f.role)) (ends f.kind (inbound f.role) (Said f.role step)) before (brings f.kind f.whole (inbound f.role) f.role step) ∙ sym (waits_sent most seen s step h ∙ ap (λ k. waits_going k (λ role. role) step before) k))
    refl says

-- an act of the peer's
pub peer_known : (most : ℕ) (seen : List Mark) (s : ℕ) (step : Step) (f : Stream) (new : Known)
    → Fair most seen → (known most seen).kept s ≡ Some f
    → Says (known most seen) new s (unless_done (after f (Said (other f.role) step))) (waits_peer (over_at f (inbound f.role)) ((known most seen).waits s) (brings f.kind f.whole (inbound f.role) (other f.role) step)) (job_in s f step)
    → new ≡ known most (Got s step ∷ seen)
unfolding known
peer_known most seen s step f new h k says =
    let before = waiting_of (turn most seen s) in
    said_known most seen (Got s step) s new _ _ _ h (same_id s) refl refl
    (sym (kept_got most seen s step ∙ ap (λ k. kept_going k (λ role. Said (other role) step)) k))
    (peer_waits f.role (over_at f (inbound f.role)) (ends f.kind (inbound f.role) (Said (other f.role) step)) before (brings f.kind f.whole (inbound f.role) (other f.role) step) ∙ sym (waits_got most seen s step h ∙ ap (λ k. waits_going k (λ role. other role) step before) k))
    (same_job s f step ∙ sym (jobs_got most seen s step ∙ ap (λ k. job_going s k step) k)) says

same : (s q : ℕ) (A : Type 0) (f : ℕ → A) → f q ≡ cond (nat_eq s q) (f s) (f q)
same s q A f = elim (nat_eq s q) as (λ v. nat_eq s q ≡ v → f q ≡ cond v (f s) (f q)) [ true ↦ λ is. let e : s ≡ q = grind (arith, nat_tests) in ap f (sym e) | false ↦ λ is. refl ] refl

says_nothing : (t : Known) (s : ℕ) → Says t t s (t.kept s) (t.waits s) []
says_nothing t s = record { kept = λ q. same s q (Option Stream) t.kept; live = refl; waits = λ q. same s q (List Delivery) t.waits; jobs = sym (append-nil t.jobs); even = refl; odd = refl }

-- a step of either end on a stream that is not open changes nothing
pub sent_ignored : (most : ℕ) (seen : List Mark) (s : ℕ) (step : Step) → Fair most seen → (known most seen).kept s ≡ None → known most seen ≡ known most (Sent s step ∷ seen)
unfolding known
sent_ignored most seen s step h k =
    said_known most seen (Sent s step) s (known most seen) _ _ _ h (same_id s) refl refl
    (k ∙ sym (kept_sent most seen s step ∙ ap (λ k. kept_going k (λ role. Said role step)) k))
    (sym (waits_sent most seen s step h ∙ ap (λ k. waits_going k (λ role. role) step (waiting_of (turn most seen s))) k))
    refl (says_nothing (known most seen) s)

pub got_ignored : (most : ℕ) (seen : List Mark) (s : ℕ) (step : Step) → Fair most seen → (known most seen).kept s ≡ None → known most seen ≡ known most (Got s step ∷ seen)
unfolding known
got_ignored most seen s step h k =
    said_known most seen (Got s step) s (known most seen) _ _ _ h (same_id s) refl refl
    (k ∙ sym (kept_got most seen s step ∙ ap (λ k. kept_going k (λ role. Said (other role) step)) k))
    (sym (waits_got most seen s step h ∙ ap (λ k. waits_going k (λ role. other role) step (waiting_of (turn most seen s))) k))
    (sym (jobs_got most seen s step ∙ ap (λ k. job_going s k step) k)) (says_nothing (known most seen) s)

-- what waits first on a stream is taken
pub took_known : (most : ℕ) (seen : List Mark) (s : ℕ) (d : Delivery) (rest : List Delivery) (new : Known)
    → Fair most seen → (known most seen).waits s ≡ d ∷ rest → Says (known most seen) new s ((known most seen).kept s) rest [] → new ≡ known most (Took s d ∷ seen)
unfolding known
took_known most seen s d rest new h first says =
    said_known most seen (Took s d) s new _ _ _ h (same_id s) refl refl (sym (kept_took most seen s d)) (sym (waits_took most seen s d rest h first)) refl says

-- the first job is taken
pub took_job_known : (most : ℕ) (seen : List Mark) (j : Job) (rest : List Job) → (known most seen).jobs ≡ j ∷ rest → record (known most seen) { jobs = rest } ≡ known most (TookJob ∷ seen)
unfolding known highest
took_job_known most seen j rest first =
    same_known _ _ _ _ _ _ _ _ _ _ _ _
    (fun_ext (λ q. sym (ap kept (turn_job most seen q)))) (fun_ext (λ q. sym (ap waiting_of (turn_job most seen q)))) (sym (jobs_after most seen j rest first)) (sym (live_job most seen)) refl refl

-- ---- a request

pub opens_known : (most : ℕ) (seen : List Mark) (s : ℕ) (o : Opening) (new : Known) (kept' : Option Stream) (waits' : List Delivery) (more : List Job)
    → Fair most seen → highest (s % 2) seen < s
    → kept' ≡ kept (turn most (Opens s o ∷ seen) s) → waits' ≡ waiting_of (turn most (Opens s o ∷ seen) s) → more ≡ brings_job most seen (Opens s o)
    → Begins (known most seen) new s kept' waits' more → new ≡ known most (Opens s o ∷ seen)
unfolding known
opens_known most seen s o new kept' waits' more h above k w j begins =
    let m = Opens s o in
    let others = λ (q : ℕ) (apart : (s == q) ≡ false). others_stay most seen m s q (same_id s) apart in
    let count = live_opens most seen s o above in
    let after : one_if (is_some kept') ≡ one_if (is_live (turn most (m ∷ seen) s)) = ap one_if (ap is_some k ∙ live_kept (turn most (m ∷ seen) s)) in
    let l = begins.live in
    same_known new.kept (λ q. kept (turn most (m ∷ seen) q)) new.waits (λ q. waiting_of (turn most (m ∷ seen) q)) new.jobs (jobs_waiting most (m ∷ seen)) new.live (live most (m ∷ seen)) new.even (highest 0 (m ∷ seen)) new.odd (highest 1 (m ∷ seen))
    (fun_ext (λ q. begins.kept q ∙ at_or_else s q (λ q. kept (turn most seen q)) (λ q. kept (turn most (m ∷ seen) q)) kept' (λ apart. ap kept (others q apart)) k))
    (fun_ext (λ q. begins.waits q ∙ at_or_else s q (λ q. waiting_of (turn most seen q)) (λ q. waiting_of (turn most (m ∷ seen) q)) waits' (λ apart. ap waiting_of (others q apart)) w))
    (begins.jobs ∙ (ap (λ l. jobs_waiting most seen ++ l) j ∙ sym (jobs_more most seen m h refl)))
    (omega arith)
    (begins.even ∙ sym (highest_opens 0 seen s o))
    (begins.odd ∙ sym (highest_opens 1 seen s o))

jobs_opened : (admitted r : Bool) (js : List Job) → admitted ≡ true → cond r js [] ≡ cond (r && admitted) js []
jobs_opened admitted true js e = rw e refl
jobs_opened admitted false js e = refl

no_jobs : (admitted r : Bool) (js : List Job) → admitted ≡ false → ◌≡◌ {A = List Job} [] (cond (r && admitted) js [])
no_jobs admitted true js e = rw e refl
no_jobs admitted false js e = refl

-- one that is admitted
pub begun_known : (most : ℕ) (seen : List Mark) (s : ℕ) (o : Opening) (new : Known)
    → Fair most seen → highest (s % 2) seen < s → is_admitted (has_room most seen) o ≡ true
    → Begins (known most seen) new s (unless_done (requested o)) ((known most seen).waits s ++ delivered_first o) (opened_jobs s o) → new ≡ known most (Opens s o ∷ seen)
unfolding known
begun_known most seen s o new h above ok begins =
    opens_known most seen s o new _ _ _ h above
    (sym (kept_opened most seen s o above ∙ ap (λ b. cond b (unless_done (requested o)) None) ok))
    (ap (λ t. waiting_of t ++ delivered_first o) (fresh most seen s above) ∙ sym (waits_opened most seen s o above ∙ ap (λ b. cond b (delivered_first o) []) ok))
    (jobs_opened _ (is_role o.role Responder) (opening_job s o o.whole) ok) begins

-- one that is not
pub passed_known : (most : ℕ) (seen : List Mark) (s : ℕ) (o : Opening) (new : Known)
    → Fair most seen → highest (s % 2) seen < s → is_admitted (has_room most seen) o ≡ false
    → new ≡ record (known most seen) { even = higher 0 s (known most seen).even; odd = higher 1 s (known most seen).odd } → new ≡ known most (Opens s o ∷ seen)
unfolding known
passed_known most seen s o new h above refused is =
    let none : kept (turn most seen s) ≡ None = ap kept (fresh most seen s above) in
    opens_known most seen s o new None (waiting_of (turn most seen s)) [] h above
    (sym (kept_opened most seen s o above ∙ ap (λ b. cond b (unless_done (requested o)) None) refused))
    (ap waiting_of (fresh most seen s above) ∙ sym (waits_opened most seen s o above ∙ ap (λ b. cond b (delivered_first o) []) refused))
    (no_jobs _ (is_role o.role Responder) (opening_job s o o.whole) refused) (record {
      kept = λ q. ap (λ (t : Known). t.kept q) is ∙ (same s q (Option Stream) (λ q. kept (turn most seen q)) ∙ ap (λ k. cond (nat_eq s q) k (kept (turn most seen q))) none);
      live = let l = ap (λ (t : Known). t.live) is in omega arith;
      waits = λ q. ap (λ (t : Known). t.waits q) is ∙ same s q (List Delivery) (λ q. waiting_of (turn most seen q));
      jobs = ap (λ (t : Known). t.jobs) is ∙ sym (append-nil (jobs_waiting most seen));
      even = ap (λ (t : Known). t.even) is;
      odd = ap (λ (t : Known). t.odd) is;
    })

-- one whose lease does not cover it
pub over_known : (most : ℕ) (seen : List Mark) (s : ℕ) → Fair most seen → record (known most seen) { even = higher 0 s (known most seen).even; odd = higher 1 s (known most seen).odd } ≡ known most (Passed s ∷ seen)
unfolding known
over_known most seen s h =
    same_known _ _ _ _ _ _ _ _ _ _ _ _
    (fun_ext (λ q. sym (ap kept (turn_passed most seen s q)))) (fun_ext (λ q. sym (ap waiting_of (turn_passed most seen s q))))
    (sym (jobs_more most seen (Passed s) h refl ∙ append-nil (jobs_waiting most seen))) (sym (live_passed most seen s))
    (sym (highest_passed 0 seen s)) (sym (highest_passed 1 seen s))

-- metadata that the peer pushes
pub pushed_known : (most : ℕ) (seen : List Mark) (metadata : List ℕ) → Fair most seen → record (known most seen) { jobs = (known most seen).jobs ++ job.Pushed metadata ∷ [] } ≡ known most (Pushed metadata ∷ seen)
unfolding known
pushed_known most seen metadata h =
    same_known _ _ _ _ _ _ _ _ _ _ _ _
    (fun_ext (λ q. sym (ap kept (turn_pushed most seen metadata q)))) (fun_ext (λ q. sym (ap waiting_of (turn_pushed most seen metadata q))))
    (sym (jobs_more most seen (Pushed metadata) h refl)) (sym (live_pushed most seen metadata))
    (sym (highest_said 0 seen (Pushed metadata) refl)) (sym (highest_said 1 seen (Pushed metadata) refl))

-- nothing happened yet
pub none_known : (most : ℕ) → record { kept = λ s. None; waits = λ s. []; jobs = []; live = 0; even = 0; odd = 0 } ≡ known most []
unfolding known turn jobs_waiting highest jobs_taken jobs count_to
none_known most = refl
