-- The frame that is put in line last, as it is kept.
use Rattle.std.proofs.Common.{◌≡◌, ◌<◌, ◌+◌, ◌^◌, ℕ, Bool, true, false, List, [], ◌∷◌, ◌++◌, max, Option, Some, None, IfSome, is_some, option_to_list, ap, sym, subst, ◌∙◌, arith, append-nil}
use Rattle.std.specs.Prelude.{Result, Ok, Err, OnOk}
use Rattle.rs_frame.specs.declared.frame.Frame.{Frame}
use Rattle.rs_frame.specs.Framed.{framed_all, framed_frame}
use Rattle.position.specs.Boundaries.{pos}
use Rattle.replay_buffer.specs.Held.{Held, IsHeldOf, end_of}
use Rattle.outbox.specs.Waiting.{IsKept, Waiting, with_last}
use Rattle.session_model.specs.Frames.{if_agreed}
use Rattle.session_core.specs.Kept.{HoldsMore}
use Rattle.session_core.specs.Sending.{FindsPosition, IsLined}
use Rattle.session_core.proofs.Standing.{holds_same}
use Rattle.session_core.proofs.Sums.{pos_one}

-- what stands where there is a value
pub on_ok : {T E : Type 0} (r : Result T E) (P Q : Type 0) → (P → Q) → OnOk r P → OnOk r Q
on_ok (Ok x) P Q f p = f p
on_ok (Err e) P Q f p = tt

-- where frames are kept
pub lined_kept : (keeps : Bool) (o : Option Frame) (old new : Waiting) → keeps ≡ true → IfSome o (λ f. IsKept f old new) → IfSome o (λ f. IsLined keeps f old new)
lined_kept keeps None old new agreed kept = tt
lined_kept keeps (Some f) old new agreed kept = record {
  queue = kept.queue ∙ ap (λ (l : List ℕ). old.queue ++ l) (sym (append-nil (framed_frame f)));
  held =
      subst (λ (b : Bool). HoldsMore old.held (if_agreed b (f ∷ [])) 0 new.held) (sym agreed)
      (λ made told held low. let same : told ≡ max told 0 = omega arith in subst (λ (n : ℕ). IsHeldOf (made ++ f ∷ []) n new.held) same (kept.of_made made told held low));
  hold = ap (λ (h : Held). h.hold) kept.held;
}

-- where they are not, what is held stays
pub lined_last : (keeps : Bool) (o : Option Frame) (old new : Waiting) → keeps ≡ false → new ≡ with_last old (framed_all (option_to_list o)) → IfSome o (λ f. IsLined keeps f old new)
lined_last keeps None old new forgets last = tt
lined_last keeps (Some f) old new forgets last =
    let same : new.held ≡ old.held = ap (λ (w : Waiting). w.held) last in
    record {
      queue = ap (λ (w : Waiting). w.queue) last;
      held =
          subst (λ (b : Bool). HoldsMore old.held (if_agreed b (f ∷ [])) 0 new.held) (sym forgets)
          (subst (λ (h : Held). HoldsMore old.held [] 0 h) (sym same) (holds_same false old.held));
      hold = ap (λ (h : Held). h.hold) same;
    }

-- the frame of a call that has one waits last
pub lined_queue : (keeps : Bool) (o : Option Frame) (old new : Waiting) → is_some o ≡ true → IfSome o (λ f. IsLined keeps f old new) → new.queue ≡ old.queue ++ framed_all (option_to_list o)
lined_queue keeps None old new some lined = absurd (cc)
lined_queue keeps (Some f) old new some lined = lined.queue

-- the frames that were made are kept
pub lined_held : (keeps : Bool) (o : Option Frame) (ms : List Frame) (old new : Waiting) → is_some o ≡ true → ms ≡ option_to_list o → IfSome o (λ f. IsLined keeps f old new)
    → HoldsMore old.held (if_agreed keeps ms) 0 new.held
lined_held keeps None ms old new some is lined = absurd (cc)
lined_held keeps (Some f) ms old new some is lined = subst (λ (l : List Frame). HoldsMore old.held (if_agreed keeps l) 0 new.held) (sym is) lined.held

pub lined_hold : (keeps : Bool) (o : Option Frame) (old new : Waiting) → is_some o ≡ true → IfSome o (λ f. IsLined keeps f old new) → new.held.hold ≡ old.held.hold
lined_hold keeps None old new some lined = absurd (cc)
lined_hold keeps (Some f) old new some lined = lined.hold

-- frames of which all end at positions that can be told do so one by one
pub top_where : (o : Option Frame) (ms : List Frame) (h : Held) → ms ≡ option_to_list o → end_of h + pos ms < 2 ^ 63 → IfSome o (FindsPosition h)
top_where None ms h is top = tt
top_where (Some f) ms h is top = omega (arith, ap pos is, pos_one f, top)
