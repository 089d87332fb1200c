-- Two lists of marks that tell the same: those of the entries, and those that the frames say.
use Rattle.std.proofs.Common.{◌≡◌, ◌<◌, ◌%◌, ◌==◌, ◌&&◌, ℕ, zero, suc, Bool, true, false, cond, ltb, List, [], ◌∷◌, ◌++◌, Option, Some, None, refl, append-nil, ap, subst, sym, ◌∙◌}
use Rattle.std.proofs.lemmas.Bool.{eqb-true}
use Rattle.rs_wire.specs.declared.words.Role.TheVariants.{Responder}
use Rattle.rs_wire.specs.declared.words.Way.TheVariants as way
use Rattle.rs_wire.specs.declared.delivery.Delivery.{Delivery}
use Rattle.rs_wire.specs.declared.delivery.Job.{Job}
use Rattle.rs_wire.specs.declared.delivery.Job.TheVariants as job
use Rattle.stream_model.specs.Marks.{Opening, Step, Payload, RequestN, Cancel, Fail, Mark, Opens, Passed, Sent, Got, Pushed, Took, TookJob}
use Rattle.stream_model.specs.Turns.{Taken, Turn, is_role}
use Rattle.stream_model.specs.Streams.{brings_job, count_to, highest, higher, is_admitted, is_live, jobs, late_job, live, on, opening_job, top, turn}
use Rattle.stream_model.proofs.Ids.{highest_opens, highest_passed, highest_said, others_stay, same_id, still_none, turn_got, turn_job, turn_opened, turn_passed, turn_pushed, turn_sent, turn_took}
use Rattle.session_laws.specs.Jobs.{requests}
use Rattle.session_laws.specs.Read.{turn_read, framed_step, framed_words}
use Rattle.session_laws.proofs.ReadWords.{framed_own, framed_peers, framed_taken, same_live, same_over, same_whole}

pub record Same (most : ℕ) (W R : List Mark) : Type 0 where
  pub turns : (s : ℕ) → turn most R s ≡ turn_read (turn most W s)
  pub ids : (parity : ℕ) → highest parity R ≡ highest parity W
  pub asked : requests (jobs most R) ≡ requests (jobs most W)

count_same : (n : ℕ) (f g : ℕ → Bool) → ((q : ℕ) → f q ≡ g q) → count_to n f ≡ count_to n g
unfolding count_to
count_same zero f g same = refl
count_same (suc n) f g same = rw (same (suc n), count_same n f g same) refl

pub room_same : (most : ℕ) (W R : List Mark) → Same most W R → live most R ≡ live most W
room_same most W R h =
    rw (h.ids 0, h.ids 1) (count_same (top W) (λ q. is_live (turn most R q)) (λ q. is_live (turn most W q)) (λ q. ap is_live (h.turns q) ∙ same_live (turn most W q)))

-- ---- the jobs

requests_both : (xs ys : List Job) → requests (xs ++ ys) ≡ requests xs ++ requests ys
requests_both [] ys = refl
requests_both (job.Asked s kind initial message complete ∷ xs) ys = ap (λ (l : List Job). job.Asked s kind initial message complete ∷ l) (requests_both xs ys)
requests_both (job.Pushed metadata ∷ xs) ys = requests_both xs ys

-- a mark more in each, that bring the same requests
asked_more : (most : ℕ) (W R : List Mark) (m n : Mark) → Same most W R → requests (brings_job most R n) ≡ requests (brings_job most W m) → requests (jobs most (n ∷ R)) ≡ requests (jobs most (m ∷ W))
unfolding jobs
asked_more most W R m n h brings = rw (requests_both (jobs most R) (brings_job most R n), requests_both (jobs most W) (brings_job most W m), h.asked, brings) refl

-- a mark that brings no request
asked_none : (most : ℕ) (W : List Mark) (m : Mark) → requests (brings_job most W m) ≡ [] → requests (jobs most (m ∷ W)) ≡ requests (jobs most W)
unfolding jobs
asked_none most W m none = requests_both (jobs most W) (brings_job most W m) ∙ (ap (λ (l : List Job). requests (jobs most W) ++ l) none ∙ append-nil (requests (jobs most W)))

late_same : (s : ℕ) (step : Step) (t : Option Turn) → late_job s step (turn_read t) ≡ late_job s step t
late_same s (Payload message complete next) None = refl
late_same s (Payload message complete next) (Some t) = rw (same_whole t.opening t.words, same_over t.opening t.words way.Request) refl
late_same s (RequestN n) t = refl
late_same s Cancel t = refl
late_same s (Fail code content) t = refl

-- ---- one mark more

-- one mark more on a stream, in each: where it tells the same on that stream, it does on all
turns_more : (most : ℕ) (W R : List Mark) (m n : Mark) (s q : ℕ) (same : Bool) → (s == q) ≡ same → Same most W R → on s m ≡ true → on s n ≡ true → turn most (n ∷ R) s ≡ turn_read (turn most (m ∷ W) s)
    → turn most (n ∷ R) q ≡ turn_read (turn most (m ∷ W) q)
turns_more most W R m n s q true is h here there now = subst (λ (i : ℕ). turn most (n ∷ R) i ≡ turn_read (turn most (m ∷ W) i)) (eqb-true s q is) now
turns_more most W R m n s q false is h here there now = others_stay most R n s q there is ∙ (h.turns q ∙ sym (ap turn_read (others_stay most W m s q here is)))

opened_framed : (b : Bool) (o : Opening) → cond b (Some (record { opening = o; words = [] })) None ≡ turn_read (cond b (Some (record { opening = o; words = [] })) None)
unfolding framed_words
opened_framed true o = refl
opened_framed false o = refl

pub same_opens : (most : ℕ) (W R : List Mark) (s : ℕ) (o : Opening) → highest (s % 2) W < s → Same most W R → Same most (Opens s o ∷ W) (Opens s o ∷ R)
same_opens most W R s o below h =
    let there = subst (λ (n : ℕ). n < s) (sym (h.ids (s % 2))) below in
    let room = ap (λ (n : ℕ). is_admitted (ltb n most) o) (room_same most W R h) in
    let now : turn most (Opens s o ∷ R) s ≡ turn_read (turn most (Opens s o ∷ W) s) =
    rw (turn_opened most R s o there, turn_opened most W s o below, room) (opened_framed (is_admitted (ltb (live most W) most) o) o) in
    record {
      turns = λ q. turns_more most W R (Opens s o) (Opens s o) s q (s == q) refl h (same_id s) (same_id s) now;
      ids = λ p. highest_opens p R s o ∙ (ap (higher p s) (h.ids p) ∙ sym (highest_opens p W s o));
      asked = asked_more most W R (Opens s o) (Opens s o) h (ap (λ (b : Bool). requests (cond (is_role o.role Responder && b) (opening_job s o o.whole) [])) room);
    }

pub same_sent : (most : ℕ) (W R : List Mark) (s : ℕ) (step step' : Step) → ((u : Turn) → turn most W s ≡ Some u → step' ≡ framed_step u.opening u.opening.role step) → Same most W R → Same most (Sent s step ∷ W) (Sent s step' ∷ R)
same_sent most W R s step step' steps h =
    let now : turn most (Sent s step' ∷ R) s ≡ turn_read (turn most (Sent s step ∷ W) s) =
    rw (turn_sent most R s step', turn_sent most W s step, h.turns s) (framed_own (turn most W s) step step' steps) in
    record {
      turns = λ q. turns_more most W R (Sent s step) (Sent s step') s q (s == q) refl h (same_id s) (same_id s) now;
      ids = λ p. highest_said p R (Sent s step') refl ∙ (h.ids p ∙ sym (highest_said p W (Sent s step) refl));
      asked = asked_more most W R (Sent s step) (Sent s step') h refl;
    }

pub same_got : (most : ℕ) (W R : List Mark) (s : ℕ) (step : Step) → Same most W R → Same most (Got s step ∷ W) (Got s step ∷ R)
same_got most W R s step h =
    let now : turn most (Got s step ∷ R) s ≡ turn_read (turn most (Got s step ∷ W) s) =
    rw (turn_got most R s step, turn_got most W s step, h.turns s) (framed_peers (turn most W s) step) in
    record {
      turns = λ q. turns_more most W R (Got s step) (Got s step) s q (s == q) refl h (same_id s) (same_id s) now;
      ids = λ p. highest_said p R (Got s step) refl ∙ (h.ids p ∙ sym (highest_said p W (Got s step) refl));
      asked = asked_more most W R (Got s step) (Got s step) h (ap requests (ap (late_job s step) (h.turns s) ∙ late_same s step (turn most W s)));
    }

-- what a caller takes stands in no frame
took_turns : (most : ℕ) (W : List Mark) (s q : ℕ) (d : Delivery) (same : Bool) → (s == q) ≡ same → turn_read (turn most W q) ≡ turn_read (turn most (Took s d ∷ W) q)
unfolding framed_words
took_turns most W s q d true is =
    subst (λ (i : ℕ). turn_read (turn most W i) ≡ turn_read (turn most (Took s d ∷ W) i)) (eqb-true s q is)
    (framed_taken (turn most W s) (λ role. Taken d) (λ role o xs. refl) ∙ sym (ap turn_read (turn_took most W s d)))
took_turns most W s q d false is = sym (ap turn_read (others_stay most W (Took s d) s q (same_id s) is))

pub same_took : (most : ℕ) (W R : List Mark) (s : ℕ) (d : Delivery) → Same most W R → Same most (Took s d ∷ W) R
same_took most W R s d h = record {
  turns = λ q. h.turns q ∙ took_turns most W s q d (s == q) refl;
  ids = λ p. h.ids p ∙ sym (highest_said p W (Took s d) refl);
  asked = h.asked ∙ sym (asked_none most W (Took s d) refl);
}

pub same_job : (most : ℕ) (W R : List Mark) → Same most W R → Same most (TookJob ∷ W) R
same_job most W R h = record {
  turns = λ q. h.turns q ∙ sym (ap turn_read (turn_job most W q));
  ids = λ p. h.ids p ∙ sym (highest_said p W TookJob refl);
  asked = h.asked ∙ sym (asked_none most W TookJob refl);
}

-- metadata that is pushed stands in no frame that counts
pub same_pushed : (most : ℕ) (W R : List Mark) (metadata : List ℕ) → Same most W R → Same most (Pushed metadata ∷ W) R
same_pushed most W R metadata h = record {
  turns = λ q. h.turns q ∙ sym (ap turn_read (turn_pushed most W metadata q));
  ids = λ p. h.ids p ∙ sym (highest_said p W (Pushed metadata) refl);
  asked = h.asked ∙ sym (asked_none most W (Pushed metadata) refl);
}

pub same_came : (most : ℕ) (W R : List Mark) (metadata : List ℕ) → Same most W R → Same most (Pushed metadata ∷ W) (Pushed metadata ∷ R)
same_came most W R metadata h =
    let before = same_pushed most W R metadata h in
    record {
      turns = λ q. turn_pushed most R metadata q ∙ before.turns q;
      ids = λ p. highest_said p R (Pushed metadata) refl ∙ before.ids p;
      asked = asked_none most R (Pushed metadata) refl ∙ before.asked;
    }

-- a request that is passed over
pub same_passed : (most : ℕ) (W R : List Mark) (s : ℕ) → Same most W R → Same most (Passed s ∷ W) (Passed s ∷ R)
same_passed most W R s h = record {
  turns = λ q. turn_passed most R s q ∙ (h.turns q ∙ sym (ap turn_read (turn_passed most W s q)));
  ids = λ p. highest_passed p R s ∙ (ap (higher p s) (h.ids p) ∙ sym (highest_passed p W s));
  asked = asked_more most W R (Passed s) (Passed s) h refl;
}

-- a frame on a stream that was never admitted tells nothing
stray_turns : (most : ℕ) (R : List Mark) (s q : ℕ) (step : Step) (same : Bool) → (s == q) ≡ same → turn most R s ≡ None → turn most (Sent s step ∷ R) q ≡ turn most R q
stray_turns most R s q step true is none =
    subst (λ (i : ℕ). turn most (Sent s step ∷ R) i ≡ turn most R i) (eqb-true s q is)
    (still_none most R (Sent s step) s refl none ∙ sym none)
stray_turns most R s q step false is none = others_stay most R (Sent s step) s q (same_id s) is

pub same_stray : (most : ℕ) (W R : List Mark) (s : ℕ) (step : Step) → turn most W s ≡ None → Same most W R → Same most W (Sent s step ∷ R)
same_stray most W R s step none h = record {
  turns = λ q. stray_turns most R s q step (s == q) refl (h.turns s ∙ ap turn_read none) ∙ h.turns q;
  ids = λ p. highest_said p R (Sent s step) refl ∙ h.ids p;
  asked = asked_none most R (Sent s step) refl ∙ h.asked;
}
