-- The parts go on to show what is known.
use Rattle.std.proofs.Common.{◌≡◌, ◌≤◌, ◌<◌, ◌^◌, ◌&&◌, ℕ, Bool, true, false, not, cond, List, [], ◌∷◌, ◌++◌, Option, Some, None, ltb, append-nil, length, refl, ap, subst, sym, ◌∙◌}
use Rattle.std.proofs.Math.Path.{fun_ext}
use Rattle.rs_wire.specs.declared.message.Message.{Message}
use Rattle.rs_wire.specs.declared.words.Kind.{Kind}
use Rattle.rs_wire.specs.declared.words.Kind.TheVariants.{Response, Fnf, Stream as Streamed, Channel}
use Rattle.rs_wire.specs.declared.words.Role.{Role}
use Rattle.rs_wire.specs.declared.words.Role.TheVariants.{Requester, Responder}
use Rattle.rs_wire.specs.declared.delivery.Delivery.{Delivery}
use Rattle.rs_wire.specs.declared.delivery.Delivery.TheVariants as delivery
use Rattle.rs_wire.specs.declared.delivery.Job.{Job}
use Rattle.rs_wire.specs.declared.delivery.Job.TheVariants as job
use Rattle.stream_model.specs.declared.stream.Limits.{Limits}
use Rattle.stream_model.specs.declared.stream.Stream.{Stream}
use Rattle.stream_model.specs.Marks.{Mark, Opening, Step, Opens, Passed, Sent, Got, Pushed}
use Rattle.stream_model.specs.Turns.{Said, carries, delivered_first, ends, brings, inbound, is_fnf, is_role, item_deliveries, other}
use Rattle.stream_model.specs.Streams.{higher, highest, is_admitted, live}
use Rattle.stream_model.specs.Kept.{after, requested, is_done, kept, unless_done}
use Rattle.stream_model.specs.Known.{Known, known, highest_at, over_at}
use Rattle.stream_model.specs.Fair.{Fair, FindsPlace, Fits}
use Rattle.stream_model.specs.Arriving.{or_zero, ours, theirs}
use Rattle.stream_model.proofs.Steps.{Credited, StepGrants, sent_fits, got_fits}
use Rattle.stream_model.specs.Refused.{credit_refused}
use Rattle.stream_model.proofs.Fitting.{peer_fresh}
use Rattle.stream_model.proofs.Places.{live_within}
use Rattle.stream_table.specs.Tables.{kept_at, highest_in}
use Rattle.interactions.specs.declared.parts.Parts.{Parts}
use Rattle.interactions.specs.Waiting.{waits_at}
use Rattle.interactions.specs.Stands.{Stands, Says, Begins, known_of, most_of}
use Rattle.interactions.specs.Next.{job_in, opened_jobs, waits_own, waits_peer}
use Rattle.interactions.specs.Credited.{HasCredit}
use Rattle.interactions.proofs.Credits.{no_item, own_credit}
use Rattle.interactions.proofs.Knowing.{own_known, peer_known, sent_ignored, got_ignored, begun_known, over_known, passed_known, pushed_known, none_known, same_known}

-- a mark more
pub next_stands : (old new : Parts) (seen : List Mark) (m : Mark) → new.table.limits ≡ old.table.limits → Stands old seen → Fits (most_of old) seen m → known_of new ≡ known (most_of old) (m ∷ seen) → Stands new (m ∷ seen)
unfolding Fair
next_stands old new seen m l h fits is =
    let same : most_of new ≡ most_of old = ap (λ (l : Limits). l.max_streams) l in
    subst (λ most. (Fair most (m ∷ seen)) × (known_of new ≡ known most (m ∷ seen)) → Stands new (m ∷ seen)) same (λ h. record { fair = h.0; known = h.1 }) ((h.fair, fits), is)

-- what is kept of a stream is what is known of it
kept_is : (p : Parts) (seen : List Mark) (s : ℕ) (k : Option Stream) → Stands p seen → kept_at p.table.kept s ≡ k → (known (most_of p) seen).kept s ≡ k
kept_is p seen s k h is = subst (λ (t : Known). t.kept s ≡ k) h.known is

of_known : (most : ℕ) (seen : List Mark) (s : ℕ) (P : Option Stream → Type 0) → P ((known most seen).kept s) → P (kept (Rattle.stream_model.specs.Streams.turn most seen s))
unfolding known
of_known most seen s P h = h

only_one : (k : Option Stream) (f : Stream) (P : Stream → Type 0) → k ≡ Some f → P f → (g : Stream) → k ≡ Some g → P g
only_one k f P is h g e = let same : f ≡ g = cc in subst P same h

not_none : (k : Option Stream) (P : Stream → Type 0) → k ≡ None → (g : Stream) → k ≡ Some g → P g
not_none k P is g e = absurd (cc)

-- an act of this end on a stream that is open
pub own_stands : (old new : Parts) (seen : List Mark) (s : ℕ) (step : Step) (f next : Stream) (e : Bool) → kept_at old.table.kept s ≡ Some f → new.table.limits ≡ old.table.limits
    → next ≡ after f (Said f.role step) → e ≡ ends f.kind (inbound f.role) (Said f.role step) → StepGrants step → Credited f f.role step
    → Says (known_of old) (known_of new) s (unless_done next) (waits_own (over_at f (inbound f.role)) e (waits_at old.waits s)) []
    → Stands old seen → Stands new (Sent s step ∷ seen)
own_stands old new seen s step f next e k l is ends_is n credit says h =
    let most = most_of old in
    let kk = kept_is old seen s (Some f) h k in
    let fits = sent_fits most seen s step n (of_known most seen s (λ k. (g : Stream) → k ≡ Some g → Credited g g.role step) (only_one _ f (λ g. Credited g g.role step) kk credit)) in
    next_stands old new seen (Sent s step) l h fits (own_known most seen s step f (known_of new) h.fair kk
    (subst (λ (t : Known). Says t (known_of new) s (unless_done (after f (Said f.role step))) (waits_own (over_at f (inbound f.role)) (ends f.kind (inbound f.role) (Said f.role step)) (t.waits s)) []) h.known
    (subst (λ e. Says (known_of old) (known_of new) s (unless_done (after f (Said f.role step))) (waits_own (over_at f (inbound f.role)) e (waits_at old.waits s)) []) ends_is
    (subst (λ g. Says (known_of old) (known_of new) s (unless_done g) (waits_own (over_at f (inbound f.role)) e (waits_at old.waits s)) []) is says))))

-- an act of the peer's
pub peer_stands : (old new : Parts) (seen : List Mark) (s : ℕ) (step : Step) (f next : Stream) (more : List Delivery) → kept_at old.table.kept s ≡ Some f → new.table.limits ≡ old.table.limits
    → next ≡ after f (Said (other f.role) step) → more ≡ brings f.kind f.whole (inbound f.role) (other f.role) step → StepGrants step → Credited f (other f.role) step
    → Says (known_of old) (known_of new) s (unless_done next) (waits_peer (over_at f (inbound f.role)) (waits_at old.waits s) more) (job_in s f step)
    → Stands old seen → Stands new (Got s step ∷ seen)
peer_stands old new seen s step f next more k l is brings_is n credit says h =
    let most = most_of old in
    let kk = kept_is old seen s (Some f) h k in
    let fits = got_fits most seen s step n (of_known most seen s (λ k. (g : Stream) → k ≡ Some g → Credited g (other g.role) step) (only_one _ f (λ g. Credited g (other g.role) step) kk credit)) in
    next_stands old new seen (Got s step) l h fits (peer_known most seen s step f (known_of new) h.fair kk
    (subst (λ (t : Known). Says t (known_of new) s (unless_done (after f (Said (other f.role) step))) (waits_peer (over_at f (inbound f.role)) (t.waits s) (brings f.kind f.whole (inbound f.role) (other f.role) step)) (job_in s f step)) h.known
    (subst (λ more. Says (known_of old) (known_of new) s (unless_done (after f (Said (other f.role) step))) (waits_peer (over_at f (inbound f.role)) (waits_at old.waits s) more) (job_in s f step)) brings_is
    (subst (λ g. Says (known_of old) (known_of new) s (unless_done g) (waits_peer (over_at f (inbound f.role)) (waits_at old.waits s) more) (job_in s f step)) is says))))

-- a step of either end on a stream that is not open
pub sent_stands : (p : Parts) (seen : List Mark) (s : ℕ) (step : Step) → StepGrants step → kept_at p.table.kept s ≡ None → Stands p seen → Stands p (Sent s step ∷ seen)
sent_stands p seen s step n k h =
    let most = most_of p in
    let kk = kept_is p seen s None h k in
    let fits = sent_fits most seen s step n (of_known most seen s (λ k. (g : Stream) → k ≡ Some g → Credited g g.role step) (not_none _ (λ g. Credited g g.role step) kk)) in
    next_stands p p seen (Sent s step) refl h fits (h.known ∙ sent_ignored most seen s step h.fair kk)

pub got_stands : (p : Parts) (seen : List Mark) (s : ℕ) (step : Step) → StepGrants step → kept_at p.table.kept s ≡ None → Stands p seen → Stands p (Got s step ∷ seen)
got_stands p seen s step n k h =
    let most = most_of p in
    let kk = kept_is p seen s None h k in
    let fits = got_fits most seen s step n (of_known most seen s (λ k. (g : Stream) → k ≡ Some g → Credited g (other g.role) step) (not_none _ (λ g. Credited g (other g.role) step) kk)) in
    next_stands p p seen (Got s step) refl h fits (h.known ∙ got_ignored most seen s step h.fair kk)

-- more room, and nothing else
pub room_stands : (old new : Parts) (seen : List Mark) → new.table.limits ≡ old.table.limits → known_of new ≡ known_of old → Stands old seen → Stands new seen
room_stands old new seen l is h =
    let same : most_of new ≡ most_of old = ap (λ (l : Limits). l.max_streams) l in
    subst (λ most. (Fair most seen) × (known_of new ≡ known most seen) → Stands new seen) same (λ h. record { fair = h.0; known = h.1 }) (h.fair, is ∙ h.known)

pub none_stands : (p : Parts) → p.table.kept ≡ [] → p.table.even ≡ 0 → p.table.odd ≡ 0 → ((s : ℕ) → waits_at p.waits s ≡ []) → p.jobs.items ≡ [] → Stands p []
unfolding Fair
none_stands p k e o w j = record {
  fair = tt;
  known = same_known _ _ _ _ _ _ _ _ _ _ _ _ (ap (λ (l : List (ℕ × Stream)). λ (s : ℕ). kept_at l s) k) (fun_ext w) j (ap length k) e o ∙ none_known (most_of p);
}

-- ---- requests, on an id above all of its parity

pub live_is : (p : Parts) (seen : List Mark) → Stands p seen → length p.table.kept ≡ live (most_of p) seen
unfolding known
live_is p seen h = ap (λ (t : Known). t.live) h.known

-- no more streams are open than may be
pub live_stands : (p : Parts) (seen : List Mark) → Stands p seen → length p.table.kept ≤ most_of p
live_stands p seen h = subst (λ n. n ≤ most_of p) (sym (live_is p seen h)) (live_within (most_of p) seen h.fair)

-- one that is admitted
pub begun_stands : (old new : Parts) (seen : List Mark) (s : ℕ) (o : Opening) → new.table.limits ≡ old.table.limits → highest_in old.table s < s → is_admitted (ltb (length old.table.kept) (most_of old)) o ≡ true
    → o.initial < 2 ^ 31 → FindsPlace (most_of old) seen o o.role
    → Begins (known_of old) (known_of new) s (unless_done (requested o)) (waits_at old.waits s ++ delivered_first o) (opened_jobs s o)
    → Stands old seen → Stands new (Opens s o ∷ seen)
unfolding known
begun_stands old new seen s o l above ok n place begins h =
    let most = most_of old in
    let fresh' = peer_fresh most seen s (subst (λ (t : Known). highest_at t s < s) h.known above) in
    let ok' = subst (λ (t : Known). is_admitted (ltb t.live most) o ≡ true) h.known ok in
    next_stands old new seen (Opens s o) l h (record { fresh = fresh'; initial = n; place = place }) (begun_known most seen s o (known_of new) h.fair fresh' ok'
    (subst (λ (t : Known). Begins t (known_of new) s (unless_done (requested o)) (t.waits s ++ delivered_first o) (opened_jobs s o)) h.known begins))

-- one of this end's
pub requested_stands : (old new : Parts) (seen : List Mark) (s : ℕ) (kind : Kind) (initial : Option ℕ) (m : Message) (complete : Bool) (f : Stream) → new.table.limits ≡ old.table.limits → highest_in old.table s < s
    → or_zero initial < 2 ^ 31 → (is_fnf kind ≡ false → length old.table.kept < most_of old) → f ≡ requested (ours kind initial m complete)
    → Begins (known_of old) (known_of new) s (unless_done f) (waits_at old.waits s) [] → Stands old seen → Stands new (Opens s (ours kind initial m complete) ∷ seen)
requested_stands old new seen s kind initial m complete f l above n room is begins h =
    begun_stands old new seen s (ours kind initial m complete) l above refl n (refl, λ fnf. subst (λ n. n < most_of old) (live_is old seen h) (room fnf))
    (subst (λ ds. Begins (known_of old) (known_of new) s (unless_done (requested (ours kind initial m complete))) ds []) (sym (append-nil (waits_at old.waits s)))
    (subst (λ f. Begins (known_of old) (known_of new) s (unless_done f) (waits_at old.waits s) []) is begins)) h

-- one of the peer's that is not admitted
pub passed_stands : (old new : Parts) (seen : List Mark) (s : ℕ) (kind : Kind) (initial : Option ℕ) (whole : Option (Message × Bool)) → new.table.limits ≡ old.table.limits → highest_in old.table s < s
    → is_admitted (ltb (length old.table.kept) (most_of old)) (theirs kind initial whole) ≡ false → or_zero initial < 2 ^ 31
    → known_of new ≡ record (known_of old) { even = higher 0 s old.table.even; odd = higher 1 s old.table.odd } → Stands old seen → Stands new (Opens s (theirs kind initial whole) ∷ seen)
unfolding known
passed_stands old new seen s kind initial whole l above refused n is h =
    let most = most_of old in
    let o = theirs kind initial whole in
    let fresh' = peer_fresh most seen s (subst (λ (t : Known). highest_at t s < s) h.known above) in
    let refused' = subst (λ (t : Known). is_admitted (ltb t.live most) o ≡ false) h.known refused in
    next_stands old new seen (Opens s o) l h (record { fresh = fresh'; initial = n; place = tt }) (passed_known most seen s o (known_of new) h.fair fresh' refused'
    (subst (λ (t : Known). known_of new ≡ record t { even = higher 0 s t.even; odd = higher 1 s t.odd }) h.known is))

-- one whose lease does not cover it
pub over_stands : (old new : Parts) (seen : List Mark) (s : ℕ) → new.table.limits ≡ old.table.limits → highest_in old.table s < s
    → known_of new ≡ record (known_of old) { even = higher 0 s old.table.even; odd = higher 1 s old.table.odd } → Stands old seen → Stands new (Passed s ∷ seen)
over_stands old new seen s l above is h =
    let most = most_of old in
    let fresh' = peer_fresh most seen s (subst (λ (t : Known). highest_at t s < s) h.known above) in
    next_stands old new seen (Passed s) l h fresh'
    (subst (λ (t : Known). known_of new ≡ record t { even = higher 0 s t.even; odd = higher 1 s t.odd }) h.known is ∙ over_known most seen s h.fair)

-- metadata that the peer pushes
pub pushed_stands : (old new : Parts) (seen : List Mark) (metadata : List ℕ) → new.table.limits ≡ old.table.limits
    → known_of new ≡ record (known_of old) { jobs = old.jobs.items ++ job.Pushed metadata ∷ [] } → Stands old seen → Stands new (Pushed metadata ∷ seen)
pushed_stands old new seen metadata l is h =
    let most = most_of old in
    next_stands old new seen (Pushed metadata) l h tt
    (subst (λ (t : Known). known_of new ≡ record t { jobs = t.jobs ++ job.Pushed metadata ∷ [] }) h.known is ∙ pushed_known most seen metadata h.fair)

-- a request whose message is whole is over at once where it is a fire-and-forget
pub done_first : (role : Role) (kind : Kind) (initial : ℕ) (m : Message × Bool) → is_done (requested (record { role = role; kind = kind; initial = initial; whole = Some m })) ≡ is_fnf kind
done_first role Fnf initial m = refl
done_first role Response initial m = refl
done_first role Streamed initial m = refl
done_first role Channel initial m = elim m.1 as (λ v. ((v && true) && (v && false)) ≡ false) [ true ↦ refl | false ↦ refl ]

pub not_fnf : (role : Role) (kind : Kind) (initial : ℕ) (m : Message × Bool) (f : Stream) → f ≡ requested (record { role = role; kind = kind; initial = initial; whole = Some m }) → is_done f ≡ false → is_fnf kind ≡ false
not_fnf role kind initial m f is d = sym (done_first role kind initial m) ∙ (ap is_done (sym is) ∙ d)

pub no_first : (kind : Kind) (initial : Option ℕ) → [] ≡ delivered_first (theirs kind initial None)
no_first Fnf initial = refl
no_first Response initial = refl
no_first Streamed initial = refl
no_first Channel initial = refl

-- the same, by other names
pub begins_as : (old new : Known) (s : ℕ) (f g : Stream) (before l k : List Delivery) (i j : List Job) → f ≡ g → l ≡ k → i ≡ j → Begins old new s (unless_done f) (before ++ l) i → Begins old new s (unless_done g) (before ++ k) j
begins_as old new s f g before l k i j e d is h = subst (λ j. Begins old new s (unless_done g) (before ++ k) j) is (subst (λ l. Begins old new s (unless_done g) (before ++ l) i) d (subst (λ f. Begins old new s (unless_done f) (before ++ l) i) e h))

-- ---- items

-- an item of this end's that is not refused finds credit, and what is no item needs none
pub send_credit : (k : Option Stream) (f : Stream) (next : Bool) → k ≡ Some f → (next ≡ true → credit_refused k ≡ None) → HasCredit f f.role next
send_credit k f true is h = own_credit f (subst (λ k. credit_refused k ≡ None) is (h refl))
send_credit k f false is h = no_item f f.role

-- what a fire-and-forget does not deliver
pub message_brings : (fnf item ends : Bool) (m : Message) (i e : List Delivery) → i ≡ cond fnf [] (cond item (delivery.Item m ∷ []) []) → e ≡ cond fnf [] (cond ends (delivery.Complete ∷ []) [])
    → i ++ e ≡ cond fnf [] (item_deliveries (cond item (Some m) None) ++ cond ends (delivery.Complete ∷ []) [])
message_brings true item ends m i e a b = rw (a, b) refl
message_brings false true ends m i e a b = rw (a, b) refl
message_brings false false ends m i e a b = rw (a, b) refl

pub nothing_brings : (fnf : Bool) → ◌≡◌ {A = List Delivery} [] (cond fnf [] ([] ++ cond false (delivery.Complete ∷ []) []))
nothing_brings true = refl
nothing_brings false = refl

own_first : (kind : Kind) (whole : Bool) (role : Role) → carries kind whole (inbound role) (other role) ≡ true → (is_role role Responder && not whole) ≡ false
own_first kind whole Requester h = refl
own_first Channel true Responder h = refl
own_first Channel false Responder h = absurd (cc)
own_first Streamed whole Responder h = absurd (cc)
own_first Response whole Responder h = absurd (cc)
own_first Fnf whole Responder h = absurd (cc)

both : (a b : Bool) → (a && b) ≡ true → b ≡ true
both true b h = h
both false b h = absurd (cc)

-- an item is no part of the request's own message
pub item_not_own : (kind : Kind) (whole next : Bool) (role : Role) (is_item : Bool) → is_item ≡ (next && carries kind whole (inbound role) (other role)) → is_item ≡ true → (is_role role Responder && not whole) ≡ false
item_not_own kind whole next role is_item e is = own_first kind whole role (both next _ (sym e ∙ is))
