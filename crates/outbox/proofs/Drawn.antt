-- What is left while bytes are drawn or dropped piece by piece.
use Rattle.std.proofs.Common.{◌≡◌, ℕ, ◌+◌, ◌-◌, ◌<◌, ◌≤◌, List, ◌++◌, length, take, drop, sym, refl, ap, ◌∙◌, append_assoc, arith}
use Rattle.std.proofs.lemmas.List.{drop-drop, drop_at, length-drop, length-take-le, take-append-drop, take-take, take_all, take_at}
use Rattle.std.proofs.Math.Seq.{take-append-add}
use Rattle.outbox.specs.Waiting.{Waiting, with_queue}

take-more : (queue : List ℕ) (f r : ℕ) → f ≤ length queue → take f queue ++ take r (drop f queue) ≡ take (f + r) queue
take-more queue f r le =
    sym (take-append-add (take f queue) (drop f queue) r) ∙ ap (λ k. take (k + r) (take f queue ++ drop f queue)) (length-take-le f queue le)
    ∙ ap (take (f + r)) (take-append-drop f queue)

-- the buffer after so many bytes, and some more
pub filled : (queue old now more : List ℕ) (f r : ℕ) → f ≤ length queue → now ≡ take f queue ++ drop f old → more ≡ take r (drop f queue) ++ drop r (drop f now)
    → take f now ++ more ≡ take (f + r) queue ++ drop (f + r) old
filled queue old now more f r le is then =
    let size = length-take-le f queue le in
    let front : take f now ≡ take f queue = ap (take f) is ∙ take_at (take f queue) (drop f old) f size in
    let back : drop f now ≡ drop f old = ap (drop f) is ∙ drop_at (take f queue) (drop f old) f size in
    (λ i. front i ++ then i) ∙ ap (λ l. take f queue ++ (take r (drop f queue) ++ drop r l)) back ∙ sym (append_assoc (take f queue) (take r (drop f queue)) (drop r (drop f old)))
    ∙ ap (λ l. l ++ drop r (drop f old)) (take-more queue f r le) ∙ ap (λ l. take (f + r) queue ++ l) (drop-drop r f old)

-- the first bytes are gone, and so many are still to go
pub record Drops (old now : Waiting) (gone : ℕ) : Type 0 where
  pub is : now ≡ with_queue old (drop gone old.queue) now.room.loose
  pub within : gone ≤ length old.queue

pub drops_none : (old : Waiting) → Drops old old 0
drops_none old = record { is = refl; within = omega arith }

pub drops_more : (old now new : Waiting) (gone n : ℕ) → Drops old now gone → gone + n ≤ length old.queue → new ≡ with_queue now (drop n now.queue) new.room.loose → Drops old new (gone + n)
drops_more old now new gone n d le then =
    let queue : now.queue ≡ drop gone old.queue = ap (λ (w : Waiting). w.queue) d.is in
    record {
      is = then ∙ ap (λ (w : Waiting). with_queue w (drop n w.queue) new.room.loose) d.is ∙ ap (λ l. with_queue old l new.room.loose) (drop-drop n gone old.queue);
      within = le;
    }

pub still : (old now : Waiting) (gone : ℕ) → Drops old now gone → length now.queue ≡ length old.queue - gone
still old now gone d = ap (λ (w : Waiting). length w.queue) d.is ∙ length-drop gone old.queue

-- the last bytes are gone: so many are left
pub record Cuts (old now : Waiting) (left : ℕ) : Type 0 where
  pub is : now ≡ with_queue old (take left old.queue) now.room.loose
  pub within : left ≤ length old.queue

pub cuts_none : (old : Waiting) (left : ℕ) → left ≡ length old.queue → Cuts old old left
cuts_none old left all = record {
  is = ap (λ l. with_queue old l old.room.loose) (sym (take_all left old.queue (omega (arith, all))));
  within = omega (arith, all);
}

pub cut_still : (old now : Waiting) (left : ℕ) → Cuts old now left → length now.queue ≡ left
cut_still old now left c = ap (λ (w : Waiting). length w.queue) c.is ∙ length-take-le left old.queue c.within

pub cuts_more : (old now new : Waiting) (left n : ℕ) → Cuts old now left → n ≤ left → new ≡ with_queue now (take (length now.queue - n) now.queue) new.room.loose → Cuts old new (left - n)
cuts_more old now new left n c le then =
    let size = cut_still old now left c in
    let less : length now.queue - n ≡ left - n = omega (arith, size) in
    record {
      is = then ∙ ap (λ k. with_queue now (take k now.queue) new.room.loose) less ∙ ap (λ (w : Waiting). with_queue w (take (left - n) w.queue) new.room.loose) c.is
          ∙ ap (λ l. with_queue old l new.room.loose) (take-take (left - n) left old.queue (omega arith));
      within = omega (arith, c.within);
    }

-- so many bytes are drawn into the buffer
pub record Fills (queue old now : List ℕ) (f : ℕ) : Type 0 where
  pub is : now ≡ take f queue ++ drop f old
  pub within : f ≤ length old
