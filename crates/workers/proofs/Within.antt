-- How many bytes the replies of a worker have in one call.
use Rattle.std.proofs.Common.{◌≡◌, ◌<◌, ◌≤◌, ◌+◌, ◌^◌, ◌∙◌, ◌⊎◌, ℕ, Bool, true, false, if◌then◌else◌, List, [], ◌∷◌, ◌++◌, length, inl, inr, refl, sym, ap, subst, arith, append-nil, append_assoc}
use Rattle.std.specs.Prelude.{Option, Some, None, IfSome}
use Rattle.rs_wire.specs.declared.call.Call.{Call}
use Rattle.rs_wire.specs.declared.call.Call.TheVariants as call
use Rattle.tape.specs.declared.answer.Answer.{Answer}
use Rattle.tape.specs.declared.entry.Entry.{Entry}
use Rattle.conn_shared.specs.Members.{Knowledge}
use Rattle.workers.specs.declared.outcome.Outcome.TheVariants as outcome
use Rattle.workers.specs.declared.step.Step.{Step}
use Rattle.workers.specs.declared.step.Step.TheVariants as step
use Rattle.workers.specs.Courses.{GoesOn, HasReplied, HasSent, IsReplyOn, IsWithin, KeepsWithin, accepted, accepted_of, bytes_of_all, is_done}
use Rattle.workers.specs.Going.{HasRepliedOnce, IsAccepted, Tells, outcome_of}
use Rattle.workers.proofs.Fronts.{accepted-append, bytes-append, none_of}
use Rattle.workers.proofs.Gone.{IsOn}
use Rattle.workers.proofs.Reasons.{accepted_done, done_bytes}

-- ---- which replies were made

pub replied_none : (names : List ℕ) (a : List Entry) → HasReplied names a a []
replied_none names a = record { more = []; on = refl; replied = refl }

replied_both : (names : List ℕ) (a b c : List Entry) (xs ys : List Call) → HasReplied names a b xs → HasReplied names b c ys → HasReplied names a c (ys ++ xs)
replied_both names a b c xs ys h k = record {
  more = k.more ++ h.more;
  on = k.on ∙ (ap (λ es. k.more ++ es) h.on ∙ sym (append_assoc k.more h.more a));
  replied = accepted-append names k.more h.more ∙ (ap (λ cs. cs ++ accepted names h.more) k.replied ∙ ap (λ cs. ys ++ cs) h.replied);
}

replied_quietly : (P : Call → Type 0) (names : List ℕ) (number : ℕ) (a b : List Entry) → GoesOn P names number a b 0 → HasReplied names a b []
replied_quietly P names number a b h = record { more = h.more; on = h.on; replied = none_of (accepted names h.more) h.count }

pub sent_of : (names : List ℕ) (a b : List Entry) (xs : List Call) → HasReplied names a b xs → HasSent names a b (bytes_of_all xs)
sent_of names a b xs h =
    let same : bytes_of_all xs ≤ bytes_of_all xs = omega arith in
    record { more = h.more; on = h.on; sent = subst (λ cs. bytes_of_all xs ≤ bytes_of_all cs) (sym h.replied) same }

-- ---- a step

pub once_none : (names : List ℕ) (a : List Entry) (how : Step) → Tells how 0 → HasRepliedOnce names a a how
once_none names a how tells = record { replies = []; made = replied_none names a; one = omega arith; bytes = tells }

-- a Take makes no reply
pub once_took : (names : List ℕ) (a b : List Entry) (s : ℕ) (r : Answer) (how : Step) → Tells how 0 → HasReplied names a b (accepted_of (call.Take s) r) → HasRepliedOnce names a b how
once_took names a b s r how tells h = record { replies = []; made = h; one = omega arith; bytes = tells }

one_at_most : (asked : Call) (a : Answer) → length (accepted_of asked a) ≤ 1
one_at_most (call.Next s message complete) a = by (is_done a)
  where
    by : (b : Bool) → length (if b then call.Next s message complete ∷ [] else []) ≤ 1
    by true = omega arith
    by false = omega arith
one_at_most (call.Done s) a = by (is_done a)
  where
    by : (b : Bool) → length (if b then call.Done s ∷ [] else []) ≤ 1
    by true = omega arith
    by false = omega arith
one_at_most (call.Fail s code content) a = by (is_done a)
  where
    by : (b : Bool) → length (if b then call.Fail s code content ∷ [] else []) ≤ 1
    by true = omega arith
    by false = omega arith
one_at_most (call.Take s) a = omega arith
one_at_most call.TakeJob a = omega arith
one_at_most (call.Request kind initial message complete) a = omega arith
one_at_most (call.Grant s n) a = omega arith
one_at_most (call.Cancel s) a = omega arith
one_at_most (call.Push metadata) a = omega arith
one_at_most (call.Lease ttl count metadata) a = omega arith
one_at_most call.Close a = omega arith

pub once_said : (names : List ℕ) (a b : List Entry) (asked : Call) (r : Answer) (how : Step) → Tells how (bytes_of_all (accepted_of asked r)) → HasReplied names a b (accepted_of asked r) → HasRepliedOnce names a b how
once_said names a b asked r how tells h = record { replies = accepted_of asked r; made = h; one = one_at_most asked r; bytes = tells }

-- an accepted reply, whose bytes the step tells
pub tells_reply : (s : ℕ) (asked : Call) (before : ℕ) (last : Bool) (r : Answer) (how : Step) → outcome_of r ≡ outcome.Accepted → IsReplyOn s asked → IsAccepted asked before last how → Tells how (bytes_of_all (accepted_of asked r))
tells_reply s asked before last r (step.Went bytes) is on so = so ∙ sym (ap (λ b. bytes_of_all (accepted_of asked b)) (accepted_done r is) ∙ done_bytes s asked on)
tells_reply s asked before last r (step.Served items) is on so = tt
tells_reply s asked before last r step.Blocked is on so = tt
tells_reply s asked before last r (step.Stopped a) is on so = tt
tells_reply s asked before last r step.OutOfMemory is on so = tt

-- ---- several steps

-- replies were made, of so many bytes at most, and where there are some, that is below the bound
pub record HasRoom (names : List ℕ) (most : ℕ) (old new : List Entry) (sent : ℕ) : Type 0 where
  pub replies : List Call
  pub made : HasReplied names old new replies
  pub sum : bytes_of_all replies ≤ sent
  pub below : (replies ≡ []) ⊎ (sent < most)

pub room_begins : (names : List ℕ) (most : Option ℕ) (a : List Entry) → IfSome most (λ m. HasRoom names m a a 0)
room_begins names None a = tt
room_begins names (Some m) a = record { replies = []; made = replied_none names a; sum = omega arith; below = inl refl }

as_before : (was mid now : Knowledge) (how : Step) → IsOn was mid → HasRepliedOnce mid.names mid.front now.front how → HasRepliedOnce was.names mid.front now.front how
as_before was mid now how on h = subst (λ names. HasRepliedOnce names mid.front now.front how) (ap (λ (x : Knowledge). x.names) on) h

-- a step that went on, and is not enough
pub room_after : (was mid now : Knowledge) (most : Option ℕ) (sent bytes sum : ℕ) → IsOn was mid → IfSome most (λ m. (sum < m) × (m < 2 ^ 64)) → ((m : ℕ) → sum < m → m < 2 ^ 64 → sum ≡ sent + bytes)
    → IfSome most (λ m. HasRoom was.names m was.front mid.front sent) → HasRepliedOnce mid.names mid.front now.front (step.Went bytes) → IfSome most (λ m. HasRoom was.names m was.front now.front sum)
room_after was mid now None sent bytes sum on fewer exact h k = tt
room_after was mid now (Some m) sent bytes sum on fewer exact h k =
    let once : HasRepliedOnce was.names mid.front now.front (step.Went bytes) = as_before was mid now (step.Went bytes) on k in
    let whole : bytes_of_all (once.replies ++ h.replies) ≡ bytes_of_all once.replies + bytes_of_all h.replies = bytes-append once.replies h.replies in
    let told : bytes ≡ bytes_of_all once.replies = once.bytes in
    let total : sum ≡ sent + bytes = exact m fewer.0 fewer.1 in
    record {
      replies = once.replies ++ h.replies;
      made = replied_both was.names was.front mid.front now.front h.replies once.replies h.made once.made;
      sum = (let before = h.sum in omega arith);
      below = inr fewer.0;
    }

fewer_first : (most sent : ℕ) (replies : List Call) → bytes_of_all replies ≤ sent → (replies ≡ []) ⊎ (sent < most) → IsWithin most replies
fewer_first most sent [] sum below = tt
fewer_first most sent (last ∷ before) sum (inl none) = absurd (cc)
fewer_first most sent (last ∷ before) sum (inr below) = inr (omega arith)

still_within : (most sent : ℕ) (step replies : List Call) → length step ≤ 1 → bytes_of_all replies ≤ sent → (replies ≡ []) ⊎ (sent < most) → IsWithin most (step ++ replies)
still_within most sent [] replies one sum below = fewer_first most sent replies sum below
still_within most sent (c ∷ []) replies one sum (inl none) = inl none
still_within most sent (c ∷ []) replies one sum (inr below) = inr (omega arith)
still_within most sent (c ∷ d ∷ more) replies one sum below = absurd (omega arith)

-- any step
pub within_after : (was mid now : Knowledge) (most : Option ℕ) (sent : ℕ) (how : Step) → IsOn was mid → IfSome most (λ m. HasRoom was.names m was.front mid.front sent)
    → HasRepliedOnce mid.names mid.front now.front how → IfSome most (λ m. KeepsWithin was.names m was.front now.front)
within_after was mid now None sent how on h k = tt
within_after was mid now (Some m) sent how on h k =
    let once : HasRepliedOnce was.names mid.front now.front how = as_before was mid now how on k in
    record {
      replies = once.replies ++ h.replies;
      made = replied_both was.names was.front mid.front now.front h.replies once.replies h.made once.made;
      within = still_within m sent once.replies h.replies once.one h.sum h.below;
    }

-- ---- of a worker

-- nothing was called
pub within_none : (names : List ℕ) (most : Option ℕ) (a : List Entry) → IfSome most (λ m. KeepsWithin names m a a)
within_none names None a = tt
within_none names (Some m) a = record { replies = []; made = replied_none names a; within = tt }

-- no reply was accepted
pub within_quietly : (P : Call → Type 0) (names : List ℕ) (number : ℕ) (most : Option ℕ) (a b : List Entry) → GoesOn P names number a b 0 → IfSome most (λ m. KeepsWithin names m a b)
within_quietly P names number None a b h = tt
within_quietly P names number (Some m) a b h = record { replies = []; made = replied_quietly P names number a b h; within = tt }

-- no reply was accepted at first
pub within_since : (P : Call → Type 0) (was mid now : Knowledge) (most : Option ℕ) → IsOn was mid → GoesOn P was.names was.number was.front mid.front 0
    → IfSome most (λ m. KeepsWithin mid.names m mid.front now.front) → IfSome most (λ m. KeepsWithin was.names m was.front now.front)
within_since P was mid now None on h k = tt
within_since P was mid now (Some m) on h k =
    let kept : KeepsWithin was.names m mid.front now.front = subst (λ names. KeepsWithin names m mid.front now.front) (ap (λ (x : Knowledge). x.names) on) k in
    record {
      replies = kept.replies;
      made = subst (HasReplied was.names was.front now.front) (append-nil kept.replies) (replied_both was.names was.front mid.front now.front [] kept.replies (replied_quietly P was.names was.number was.front mid.front h) kept.made);
      within = kept.within;
    }
