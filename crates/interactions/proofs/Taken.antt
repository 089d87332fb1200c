-- The parts go on to show what is known after something is taken.
use Rattle.std.proofs.Common.{◌≡◌, ℕ, true, false, cond, List, [], ◌∷◌, ◌++◌, Option, Some, None, option_to_list, nat_eq, length, refl, ap, subst, sym, ◌∙◌, arith, append-nil}
use Rattle.std.proofs.Math.Path.{fun_ext}
use Rattle.std.proofs.lemmas.Bool.Decides.{nat_tests}
use Rattle.rs_wire.specs.declared.delivery.Delivery.{Delivery}
use Rattle.rs_wire.specs.declared.delivery.Job.{Job}
use Rattle.stream_model.specs.Marks.{Mark, Took, TookJob}
use Rattle.stream_model.specs.Arriving.{took, took_job}
use Rattle.stream_model.specs.Known.{Known, known}
use Rattle.stream_model.specs.Fair.{Fair, Fits}
use Rattle.stream_model.proofs.Steps.{took_fits}
use Rattle.stream_table.specs.Tables.{TableOf, kept_at}
use Rattle.interactions.specs.declared.parts.Parts.{Parts}
use Rattle.interactions.specs.Queues.{QueueOf}
use Rattle.interactions.specs.Waiting.{waits_at}
use Rattle.interactions.specs.Stands.{Stands, Says, known_of, most_of}
use Rattle.interactions.proofs.Knowing.{same_known, took_known, took_job_known}
use Rattle.interactions.proofs.Standing.{next_stands}

-- of another stream as before, and of this one as well
everywhere : (s q : ℕ) (old new : ℕ → List Delivery) → new s ≡ old s → ((q : ℕ) → nat_eq s q ≡ false → new q ≡ old q) → new q ≡ old q
everywhere s q old new here others =
    elim (nat_eq s q) as (λ v. nat_eq s q ≡ v → new q ≡ old q) [
      | true ↦ λ is. let e : s ≡ q = grind (arith, nat_tests) in subst (λ q. new q ≡ old q) e here
      | false ↦ λ is. others q is
    ] refl

-- of another stream as before, and of this one so
here_or_else : (s q : ℕ) (old new : ℕ → List Delivery) → ((q : ℕ) → nat_eq s q ≡ false → new q ≡ old q) → new q ≡ cond (nat_eq s q) (new s) (old q)
here_or_else s q old new others =
    elim (nat_eq s q) as (λ v. nat_eq s q ≡ v → new q ≡ cond v (new s) (old q)) [
      | true ↦ λ is. let e : s ≡ q = grind (arith, nat_tests) in ap new (sym e)
      | false ↦ λ is. others q is
    ] refl

same_here : (s q : ℕ) (A : Type 0) (f : ℕ → A) → f q ≡ cond (nat_eq s q) (f s) (f q)
same_here s q A f = elim (nat_eq s q) as (λ v. nat_eq s q ≡ v → f q ≡ cond v (f s) (f q)) [ true ↦ λ is. let e : s ≡ q = grind (arith, nat_tests) in ap f (sym e) | false ↦ λ is. refl ] refl

fits_taken : (most : ℕ) (seen : List Mark) (s : ℕ) (d : Delivery) (rest : List Delivery) → (known most seen).waits s ≡ d ∷ rest → Fits most seen (Took s d)
unfolding known
fits_taken most seen s d rest waits = took_fits most seen s d rest waits

-- what waits first on a stream is taken, or nothing waits
pub taken_stands : (old new : Parts) (seen : List Mark) (s : ℕ) (d : Option Delivery) → new.table ≡ old.table → new.jobs ≡ old.jobs
    → waits_at old.waits s ≡ option_to_list d ++ waits_at new.waits s → ((q : ℕ) → nat_eq s q ≡ false → waits_at new.waits q ≡ waits_at old.waits q)
    → Stands old seen → Stands new (took s d ++ seen)
taken_stands old new seen s None t j first others h =
    let most : most_of new ≡ most_of old = ap (λ (t : TableOf). t.limits.max_streams) t in
    let w = λ (q : ℕ). everywhere s q (waits_at old.waits) (waits_at new.waits) (sym first) others in
    let is : known_of new ≡ known_of old = same_known _ _ _ _ _ _ _ _ _ _ _ _
    (fun_ext (λ q. ap (λ (t : TableOf). kept_at t.kept q) t)) (fun_ext w) (ap (λ (j : QueueOf Job). j.items) j) (ap (λ (t : TableOf). length t.kept) t) (ap (λ (t : TableOf). t.even) t) (ap (λ (t : TableOf). t.odd) t) in
    record { fair = subst (λ most. Fair most seen) (sym most) h.fair; known = is ∙ (h.known ∙ ap (λ most. known most seen) (sym most)) }
taken_stands old new seen s (Some d) t j first others h =
    let most = most_of old in
    let waits : (known most seen).waits s ≡ d ∷ waits_at new.waits s = subst (λ (t : Known). t.waits s ≡ d ∷ waits_at new.waits s) h.known first in
    let says : Says (known_of old) (known_of new) s ((known_of old).kept s) (waits_at new.waits s) [] = record {
      kept = λ q. ap (λ (t : TableOf). kept_at t.kept q) t ∙ same_here s q _ (kept_at old.table.kept);
      live = rw t refl;
      waits = λ q. here_or_else s q (waits_at old.waits) (waits_at new.waits) others;
      jobs = ap (λ (j : QueueOf Job). j.items) j ∙ sym (append-nil old.jobs.items);
      even = ap (λ (t : TableOf). t.even) t;
      odd = ap (λ (t : TableOf). t.odd) t;
    } in
    next_stands old new seen (Took s d) (ap (λ (t : TableOf). t.limits) t) h (fits_taken most seen s d (waits_at new.waits s) waits)
    (took_known most seen s d (waits_at new.waits s) (known_of new) h.fair waits
    (subst (λ (t : Known). Says t (known_of new) s (t.kept s) (waits_at new.waits s) []) h.known says))

a_job_waits : (most : ℕ) (seen : List Mark) (j : Job) (rest : List Job) → (known most seen).jobs ≡ j ∷ rest → Fits most seen TookJob
unfolding known
a_job_waits most seen j rest e = rw e (omega arith)

-- the job that waits first is taken, or none waits
pub job_stands : (old new : Parts) (seen : List Mark) (j : Option Job) → new.table ≡ old.table → new.waits ≡ old.waits → old.jobs.items ≡ option_to_list j ++ new.jobs.items
    → Stands old seen → Stands new (took_job j ++ seen)
job_stands old new seen None t w first h =
    let most : most_of new ≡ most_of old = ap (λ (t : TableOf). t.limits.max_streams) t in
    let is : known_of new ≡ known_of old = same_known _ _ _ _ _ _ _ _ _ _ _ _
    (fun_ext (λ q. ap (λ (t : TableOf). kept_at t.kept q) t)) (fun_ext (λ q. ap (λ w. waits_at w q) w)) (sym first) (ap (λ (t : TableOf). length t.kept) t) (ap (λ (t : TableOf). t.even) t) (ap (λ (t : TableOf). t.odd) t) in
    record { fair = subst (λ most. Fair most seen) (sym most) h.fair; known = is ∙ (h.known ∙ ap (λ most. known most seen) (sym most)) }
job_stands old new seen (Some j) t w first h =
    let most = most_of old in
    let jobs : (known most seen).jobs ≡ j ∷ new.jobs.items = subst (λ (t : Known). t.jobs ≡ j ∷ new.jobs.items) h.known first in
    let is : known_of new ≡ record (known_of old) { jobs = new.jobs.items } = same_known _ _ _ _ _ _ _ _ _ _ _ _
    (fun_ext (λ q. ap (λ (t : TableOf). kept_at t.kept q) t)) (fun_ext (λ q. ap (λ w. waits_at w q) w)) refl (ap (λ (t : TableOf). length t.kept) t) (ap (λ (t : TableOf). t.even) t) (ap (λ (t : TableOf). t.odd) t) in
    next_stands old new seen TookJob (ap (λ (t : TableOf). t.limits) t) h (a_job_waits most seen j new.jobs.items jobs)
    (is ∙ (ap (λ (t : Known). record t { jobs = new.jobs.items }) h.known ∙ took_job_known most seen j new.jobs.items jobs))
