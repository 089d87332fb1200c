-- What a mark on a stream changes, by what is kept of the stream.
use Rattle.std.proofs.Common.{◌≡◌, ◌<◌, ◌%◌, ◌^◌, ◌&&◌, ℕ, Bool, true, false, not, cond, List, [], ◌∷◌, Option, Some, None, IsSome, refl, ap, subst, sym, ◌∙◌}
use Rattle.std.proofs.lemmas.Bool.{and_parts}
use Rattle.rs_wire.specs.declared.words.Role.{Role}
use Rattle.rs_wire.specs.declared.words.Role.TheVariants.{Responder}
use Rattle.rs_wire.specs.declared.words.Way.{Way}
use Rattle.rs_wire.specs.declared.words.Way.TheVariants as way
use Rattle.rs_wire.specs.declared.message.Message.{Message}
use Rattle.rs_wire.specs.declared.delivery.Delivery.{Delivery}
use Rattle.rs_wire.specs.declared.delivery.Job.{Job}
use Rattle.rs_wire.specs.declared.delivery.Job.TheVariants as job
use Rattle.credit.specs.declared.Credit.{Credit}
use Rattle.stream_model.specs.declared.stream.Stream.{Stream}
use Rattle.stream_model.specs.Marks.{Opening, Step, Payload, RequestN, Cancel, Fail, Mark, Opens, Sent, Got, Took}
use Rattle.stream_model.specs.Turns.{Turn, Word, Said, Taken, needs_credit, inbound, is_role, ends, over, is_over, is_whole, item_in, brings, used, granted, delivered, delivered_first, taken, waiting, other}
use Rattle.stream_model.specs.Streams.{turn, goes_on, is_admitted, has_room, highest, if_amount, job_of, late_job, brings_job}
use Rattle.stream_model.specs.Kept.{stream_of, kept}
use Rattle.stream_model.specs.Known.{over_at, credit_at, waiting_of}
use Rattle.stream_model.specs.Fair.{Fair, Fits, FitsTurn, FitsWord, FindsCredit, FairWords, GrantsAmount}
use Rattle.stream_model.proofs.Words.{waits_said, waiting_said, waiting_taken}
use Rattle.stream_model.proofs.Streams.{fair_turn, fair_words, FairTurn}
use Rattle.stream_model.proofs.Ids.{turn_opened, turn_sent, turn_got, turn_took}

-- ---- what is kept is what the words say

pub over_is : (o : Opening) (xs : List Word) (w : Way) → over_at (stream_of o xs) w ≡ over o xs w
unfolding stream_of
over_is o xs way.Request = refl
over_is o xs way.Reply = refl

counted : (needs : Bool) (n u : ℕ) → needs ≡ true → ◌≡◌ {A = Credit} (cond needs (record { granted = n; used = u }) (record { granted = 0; used = 0 })) (record { granted = n; used = u })
counted true n u is = refl
counted false n u is = absurd (cc)

pub credit_is : (o : Opening) (xs : List Word) (w : Way) → needs_credit o.kind ≡ true → credit_at (stream_of o xs) w ≡ record { granted = granted o xs w; used = used o xs w }
unfolding stream_of
credit_is o xs way.Request needs = counted (needs_credit o.kind) _ _ needs
credit_is o xs way.Reply needs = counted (needs_credit o.kind) _ _ needs

-- both ways of a stream that is over are
pub over_each : (t : Turn) → is_over t ≡ true → (w : Way) → over t.opening t.words w ≡ true
over_each t is way.Request = (and_parts (over t.opening t.words way.Request) (over t.opening t.words way.Reply) is).0
over_each t is way.Reply = (and_parts (over t.opening t.words way.Request) (over t.opening t.words way.Reply) is).1

-- ---- what waits

-- what waits after a step on a stream of which this is kept
abbrev pub waits_next : Stream → Role → Step → List Delivery → List Delivery
waits_next f by step waits = waits_said (over_at f (inbound f.role)) (is_role f.role by) (ends f.kind (inbound f.role) (Said by step)) waits (brings f.kind f.whole (inbound f.role) by step)

abbrev pub waits_going : Option Stream → (Role → Role) → Step → List Delivery → List Delivery
waits_going None by step waits = waits
waits_going (Some f) by step waits = waits_next f (by f.role) step waits

waits_live : (o : Opening) (xs : List Word) (by : Role → Role) (step : Step) → FairWords o xs → waiting o (Said (by o.role) step ∷ xs) ≡ waits_going (Some (stream_of o xs)) by step (waiting o xs)
unfolding stream_of
waits_live o xs by step h =
    waiting_said o xs (by o.role) step h
    ∙ ap (λ b. waits_said b (is_role o.role (by o.role)) (ends o.kind (inbound o.role) (Said (by o.role) step)) (waiting o xs) (brings o.kind (is_whole o xs) (inbound o.role) (by o.role) step)) (sym (over_is o xs (inbound o.role)))

waits_over : (t : Turn) (by : Role) (step : Step) → is_over t ≡ true → FairWords t.opening t.words → waiting t.opening (Said by step ∷ t.words) ≡ waiting t.opening t.words
waits_over t by step is h = waiting_said t.opening t.words by step h ∙ rw (over_each t is (inbound t.opening.role)) refl

pub waits_on : (t : Option Turn) (by : Role → Role) (step : Step) → FairTurn t → waiting_of (goes_on t (λ role. Said (by role) step)) ≡ waits_going (kept t) by step (waiting_of t)
waits_on None by step h = refl
waits_on (Some t) by step h =
    elim (is_over t) as (λ v. is_over t ≡ v → waiting t.opening (Said (by t.opening.role) step ∷ t.words) ≡ waits_going (cond v None (Some (stream_of t.opening t.words))) by step (waiting t.opening t.words)) [
      | true ↦ λ is. waits_over t (by t.opening.role) step is h
      | false ↦ λ is. waits_live t.opening t.words by step h
    ] refl

pub waits_sent : (most : ℕ) (seen : List Mark) (s : ℕ) (step : Step) → Fair most seen → waiting_of (turn most (Sent s step ∷ seen) s) ≡ waits_going (kept (turn most seen s)) (λ role. role) step (waiting_of (turn most seen s))
waits_sent most seen s step h = ap waiting_of (turn_sent most seen s step) ∙ waits_on (turn most seen s) (λ role. role) step (fair_turn most seen s h)

pub waits_got : (most : ℕ) (seen : List Mark) (s : ℕ) (step : Step) → Fair most seen → waiting_of (turn most (Got s step ∷ seen) s) ≡ waits_going (kept (turn most seen s)) (λ role. other role) step (waiting_of (turn most seen s))
waits_got most seen s step h = ap waiting_of (turn_got most seen s step) ∙ waits_on (turn most seen s) (λ role. other role) step (fair_turn most seen s h)

some_waits : (t : Option Turn) (d : Delivery) (rest : List Delivery) → waiting_of t ≡ d ∷ rest → (u : Turn) × (t ≡ Some u)
some_waits None d rest e = absurd (cc)
some_waits (Some u) d rest e = (u, refl)

-- the first that waits is taken
pub waits_took : (most : ℕ) (seen : List Mark) (s : ℕ) (d : Delivery) (rest : List Delivery) → Fair most seen → waiting_of (turn most seen s) ≡ d ∷ rest → waiting_of (turn most (Took s d ∷ seen) s) ≡ rest
waits_took most seen s d rest h e =
    let some = some_waits (turn most seen s) d rest e in
    let t = some.0 in
    let first : waiting t.opening t.words ≡ d ∷ rest = ap waiting_of (sym some.1) ∙ e in
    ap waiting_of (turn_took most seen s d ∙ ap (λ t. goes_on t (λ role. Taken d)) some.1) ∙ waiting_taken t.opening t.words d rest (fair_words most seen s t h some.1) first

waiting_first : (o : Opening) → waiting o [] ≡ delivered_first o
unfolding waiting taken delivered
waiting_first o = refl

pub waits_opened : (most : ℕ) (seen : List Mark) (s : ℕ) (o : Opening) → highest (s % 2) seen < s → waiting_of (turn most (Opens s o ∷ seen) s) ≡ cond (is_admitted (has_room most seen) o) (delivered_first o) []
waits_opened most seen s o h =
    ap waiting_of (turn_opened most seen s o h)
    ∙ elim (is_admitted (has_room most seen) o) as (λ v. waiting_of (cond v (Some (record { opening = o; words = [] })) None) ≡ cond v (delivered_first o) []) [ true ↦ waiting_first o | false ↦ refl ]

-- ---- jobs

-- the job that a step of the peer's brings to a stream of which this is kept
abbrev pub job_next : ℕ → Stream → Step → List Job
job_next s f (Payload message complete next) = cond (is_role f.role Responder && not f.whole && not f.request_over) (job.Asked s f.kind (if_amount f.initial) message complete ∷ []) []
job_next s f step = []

abbrev pub job_going : ℕ → Option Stream → Step → List Job
job_going s None step = []
job_going s (Some f) step = job_next s f step

late_none : (s : ℕ) (step : Step) → late_job s step None ≡ []
late_none s (Payload m complete next) = refl
late_none s (RequestN n) = refl
late_none s Cancel = refl
late_none s (Fail code content) = refl

no_late : (a b : Bool) (js : List Job) → cond (a && not b && not true) js [] ≡ []
no_late true true js = refl
no_late true false js = refl
no_late false b js = refl

-- none comes to a stream that is over
late_over : (s : ℕ) (step : Step) (t : Turn) → is_over t ≡ true → late_job s step (Some t) ≡ []
late_over s (Payload m complete next) t is = rw (over_each t is way.Request) (no_late (is_role t.opening.role Responder) (is_whole t.opening t.words) (job_of s t.opening m complete ∷ []))
late_over s (RequestN n) t is = refl
late_over s Cancel t is = refl
late_over s (Fail code content) t is = refl

late_live : (s : ℕ) (step : Step) (t : Turn) → late_job s step (Some t) ≡ job_next s (stream_of t.opening t.words) step
unfolding stream_of
late_live s (Payload m complete next) t = refl
late_live s (RequestN n) t = refl
late_live s Cancel t = refl
late_live s (Fail code content) t = refl

pub late_is : (s : ℕ) (step : Step) (t : Option Turn) → late_job s step t ≡ job_going s (kept t) step
late_is s step None = late_none s step
late_is s step (Some t) =
    elim (is_over t) as (λ v. is_over t ≡ v → late_job s step (Some t) ≡ job_going s (cond v None (Some (stream_of t.opening t.words))) step) [
      | true ↦ λ is. late_over s step t is
      | false ↦ λ is. late_live s step t
    ] refl

pub jobs_got : (most : ℕ) (seen : List Mark) (s : ℕ) (step : Step) → brings_job most seen (Got s step) ≡ job_going s (kept (turn most seen s)) step
jobs_got most seen s step = late_is s step (turn most seen s)

-- ---- steps that fit

-- an item of a step finds credit on its way
abbrev pub Credited : Stream → Role → Step → Type 0
Credited f by step = needs_credit f.kind ≡ true → (w : Way) → IsSome (cond (over_at f w) None (item_in f.kind f.whole w (Said by step))) → (credit_at f w).used < (credit_at f w).granted

pub finds : (o : Opening) (xs : List Word) (by : Role) (step : Step) → Credited (stream_of o xs) by step → needs_credit o.kind ≡ true → (w : Way) → FindsCredit o xs (Said by step) w
unfolding stream_of
finds o xs by step h needs w =
    subst (λ c. IsSome (cond (over o xs w) None (item_in o.kind (is_whole o xs) w (Said by step))) → c.used < c.granted) (credit_is o xs w needs)
    (subst (λ b. IsSome (cond b None (item_in o.kind (is_whole o xs) w (Said by step))) → (credit_at (stream_of o xs) w).used < (credit_at (stream_of o xs) w).granted) (over_is o xs w) (h needs w))

-- a grant is an amount, where the step is one
abbrev pub StepGrants : Step → Type 0
StepGrants (RequestN n) = n < 2 ^ 31
StepGrants step = Unit {0}

grants_amount : (by : Role) (step : Step) → StepGrants step → GrantsAmount (Said by step)
grants_amount by (RequestN n) h = h
grants_amount by (Payload m complete next) h = tt
grants_amount by Cancel h = tt
grants_amount by (Fail code content) h = tt

-- whatever is said on a stream that is over
over_fits : (t : Turn) (by : Role) (step : Step) → is_over t ≡ true → StepGrants step → FitsWord t.opening t.words (Said by step)
over_fits t by step is n = record {
  credit = λ needs w some.
      let none : IsSome (cond true None (item_in t.opening.kind (is_whole t.opening t.words) w (Said by step))) = subst (λ b. IsSome (cond b None (item_in t.opening.kind (is_whole t.opening t.words) w (Said by step)))) (over_each t is w) some in
      absurd (cc);
  take = tt;
  grant = grants_amount by step n;
}

-- a step fits where its item finds credit
pub fits_turn : (t : Option Turn) (by : Role → Role) (step : Step) → StepGrants step → ((f : Stream) → kept t ≡ Some f → Credited f (by f.role) step) → FitsTurn t (λ role. Said (by role) step)
unfolding stream_of
fits_turn None by step n h = tt
fits_turn (Some t) by step n h =
    elim (is_over t) as (λ v. is_over t ≡ v → ((f : Stream) → cond v None (Some (stream_of t.opening t.words)) ≡ Some f → Credited f (by f.role) step) → FitsWord t.opening t.words (Said (by t.opening.role) step)) [
      | true ↦ λ is h. over_fits t (by t.opening.role) step is n
      | false ↦ λ is h. record { credit = finds t.opening t.words (by t.opening.role) step (h (stream_of t.opening t.words) refl); take = tt; grant = grants_amount (by t.opening.role) step n }
    ] refl h

pub sent_fits : (most : ℕ) (seen : List Mark) (s : ℕ) (step : Step) → StepGrants step → ((f : Stream) → kept (turn most seen s) ≡ Some f → Credited f f.role step) → Fits most seen (Sent s step)
sent_fits most seen s step n h = fits_turn (turn most seen s) (λ role. role) step n h

pub got_fits : (most : ℕ) (seen : List Mark) (s : ℕ) (step : Step) → StepGrants step → ((f : Stream) → kept (turn most seen s) ≡ Some f → Credited f (other f.role) step) → Fits most seen (Got s step)
got_fits most seen s step n h = fits_turn (turn most seen s) (λ role. other role) step n h

-- a word without an item has none
pub nothing_taken : (over : Bool) → IsSome (cond {A = Option Message} over None None) → ⊥
nothing_taken true found = cc
nothing_taken false found = cc

-- and what is taken, where it is the first that waits
pub took_fits : (most : ℕ) (seen : List Mark) (s : ℕ) (d : Delivery) (rest : List Delivery) → waiting_of (turn most seen s) ≡ d ∷ rest → Fits most seen (Took s d)
took_fits most seen s d rest e =
    let some = some_waits (turn most seen s) d rest e in
    let t = some.0 in
    subst (λ t. FitsTurn t (λ role. Taken d)) (sym some.1) (record { credit = λ needs w found. absurd (nothing_taken (over t.opening t.words w) found); take = (rest, ap waiting_of (sym some.1) ∙ e); grant = tt })
