-- A frame that is put in line last, and kept.
use Rattle.std.proofs.Common.{◌≡◌, ◌≤◌, ◌+◌, ◌-◌, ◌++◌, ◌∷◌, [], ℕ, List, length, drop, ap, sym, subst, ◌∙◌, arith, append_assoc, append-nil, length-append}
use Rattle.std.proofs.lemmas.List.{drop_at}
use Rattle.byteorder.specs.Endian.{big_bytes}
use Rattle.rs_frame.specs.declared.frame.Frame.{Frame}
use Rattle.rs_frame.specs.Framed.{framed, framed_all, framed_frame}
use Rattle.rs_frame.specs.Spelling.{canonical, length_of}
use Rattle.position.specs.Boundaries.{pos}
use Rattle.replay_buffer.specs.Held.{Held, IsHeldOf, Spare, end_of, from_least, with_newest}
use Rattle.outbox.specs.Waiting.{IsKept, Waiting, with_last, with_spare}

-- the last bytes that wait are the frame's
last_is : (o old : Waiting) (f : Frame) (n : ℕ) → o ≡ with_last old (framed_all (f ∷ [])) → n ≡ length_of f → drop (length o.queue - n) o.queue ≡ canonical f
last_is o old f n last is =
    let prefix = big_bytes 3 (length (canonical f)) in
    let front = old.queue ++ prefix in
    let one : framed_all (f ∷ []) ≡ prefix ++ canonical f = append-nil (framed (canonical f)) in
    let cut : o.queue ≡ front ++ canonical f =
    ap (λ (k : Waiting). k.queue) last ∙ ap (λ (l : List ℕ). old.queue ++ l) one ∙ sym (append_assoc old.queue prefix (canonical f)) in
    let all : length o.queue ≡ length front + length (canonical f) = ap length cut ∙ length-append front (canonical f) in
    let same : length (canonical f) ≡ n = omega (arith, is) in
    ap (drop (length o.queue - n)) cut ∙ drop_at front (canonical f) (length o.queue - n) (omega (arith, all, same))

pub is_kept : (old mid o new : Waiting) (s : Spare) (f : Frame) (n : ℕ) → mid ≡ with_spare old s → o ≡ with_last mid (framed_all (f ∷ [])) → n ≡ length_of f
    → new.held ≡ from_least (with_newest o.held (drop (length o.queue - n) o.queue)) (end_of (with_newest o.held (drop (length o.queue - n) o.queue)) - o.held.hold)
    → ((made : List Frame) (told : ℕ) (newest : Frame) → IsHeldOf made told o.held → told ≤ pos made → drop (length o.queue - n) o.queue ≡ canonical newest → IsHeldOf (made ++ newest ∷ []) told new.held)
    → new.queue ≡ o.queue → IsKept f old new
is_kept old mid o new s f n spare last is held of_made queue =
    let frame = last_is o mid f n last is in
    let same : o.held ≡ old.held = ap (λ (w : Waiting). w.held) last ∙ ap (λ (w : Waiting). w.held) spare in
    record {
      queue = queue ∙ ap (λ (w : Waiting). w.queue) last ∙ (λ j. (spare j).queue ++ append-nil (framed_frame f) j);
      held = held ∙ (λ j. from_least (with_newest (same j) (frame j)) (end_of (with_newest (same j) (frame j)) - (same j).hold));
      of_made = λ made told holds low. of_made made told f (subst (λ (h : Held). IsHeldOf made told h) (sym same) holds) low frame;
    }

-- memory was reserved before
pub is_kept_after : (old mid new : Waiting) (s : Spare) (f : Frame) → mid ≡ with_spare old s → IsKept f mid new → IsKept f old new
is_kept_after old mid new s f spare kept =
    let k = subst (λ (w : Waiting). IsKept f w new) spare kept in
    record { queue = k.queue; held = k.held; of_made = k.of_made }
