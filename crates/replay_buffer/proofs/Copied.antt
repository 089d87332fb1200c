-- Bytes that were copied out, frame after frame.
use Rattle.std.proofs.Common.{◌≡◌, ℕ, suc, ◌+◌, ◌-◌, ◌<◌, ◌≤◌, List, ◌∷◌, ◌++◌, length, take, drop, min, sym, ap, subst, ◌^◌, ◌∙◌, append_assoc, arith, inl, inr}
use borrow.Rule.Slice.PartMut.{mid_of, put_mid}
use Rattle.std.specs.List.{flat_map}
use Rattle.std.proofs.Math.Seq.{take-add}
use Rattle.std.proofs.lemmas.Bool.{cases_lt}
use Rattle.std.proofs.lemmas.List.{append-nil, drop-append-le, drop-drop, drop_all, drop_at, length-append, length-drop, length-take-le, take-append-le, take_all, take_at}
use Rattle.std.proofs.lemmas.List.Concat.{flat_map-cons}
use Rattle.rs_frame.specs.Framed.{framed}
use Rattle.position.specs.Boundaries.{pos_by}
use Rattle.replay_buffer.specs.Laid.{Begins, laid_len}
use Rattle.replay_buffer.specs.Marked.{IsAt}
use Rattle.replay_buffer.specs.Stored.{Stored, floor_of, framed_from, frames_of}
use Rattle.replay_buffer.specs.declared.marks.Spot.{Spot}
use Rattle.replay_buffer.specs.declared.store.Store.TheInside.{Inside}
use Rattle.replay_buffer.proofs.Found.{framed_here}
use Rattle.replay_buffer.proofs.Known.{Known, reached}
use Rattle.replay_buffer.proofs.Plain.{laid_all-plain}
use Rattle.replay_buffer.proofs.Stored.{laid_all-drop, laid_parts, length-framed}

-- so many of the bytes are at the beginning of the buffer
pub record Written (bytes old now : List ℕ) (written : ℕ) : Type 0 where
  pub within : written ≤ length bytes
  pub room : written ≤ length old
  pub buffer : now ≡ take written bytes ++ drop written old

-- and so many more, which were written after these
pub more_written : (bytes old now new rest : List ℕ) (written more : ℕ) → Written bytes old now written → rest ≡ drop written bytes → more ≤ length rest → written + more ≤ length old
    → new ≡ take written now ++ (take more rest ++ drop more (drop written now)) → Written bytes old new (written + more)
more_written bytes old now new rest written more w is few room made =
    let size : length (take written bytes) ≡ written = length-take-le written bytes w.within in
    let before : take written now ≡ take written bytes = ap (take written) w.buffer ∙ take_at (take written bytes) (drop written old) written size in
    let after : drop written now ≡ drop written old = ap (drop written) w.buffer ∙ drop_at (take written bytes) (drop written old) written size in
    record {
      within = omega (arith, few, ap length is, length-drop written bytes, w.within);
      room = room;
      buffer = made
          ∙ (λ i. before i ++ (take more (is i) ++ drop more (after i)))
          ∙ sym (append_assoc (take written bytes) (take more (drop written bytes)) (drop more (drop written old)))
          ∙ (λ i. sym (take-add written more bytes) i ++ drop-drop more written old i);
    }

pub same_length : (bytes old now : List ℕ) (written : ℕ) → Written bytes old now written → length now ≡ length old
same_length bytes old now written w =
    omega (arith, ap length w.buffer, length-append (take written bytes) (drop written old), length-take-le written bytes w.within, length-drop written old, w.room)

-- the rest of the buffer, and what is left where it was written to
rest_of : (now : List ℕ) (written : ℕ) → mid_of written (length now - written) now ≡ drop written now
rest_of now written = take_all (length now - written) (drop written now) (omega (arith, length-drop written now))

put_rest : (now part : List ℕ) (written : ℕ) → put_mid written (length now - written) now part ≡ take written now ++ part
put_rest now part written =
    let none = drop_all (length now - written) (drop written now) (omega (arith, length-drop written now)) in
    ap (λ l. take written now ++ (part ++ l)) none ∙ ap (λ l. take written now ++ l) (append-nil part)

-- what a walk that copies has come to: these bytes were written, and the next ones lie after `skip` others from the place on
pub record Copies (v : Stored) (from start : ℕ) (old now : List ℕ) (s : Spot) (skip written : ℕ) : Type 0 where
  pub at : IsAt (floor_of v) v.base (frames_of v) s
  pub inside : skip ≤ length (framed_from v s.position)
  pub done : Written (drop start (framed_from v from)) old now written
  pub rest : drop written (drop start (framed_from v from)) ≡ drop skip (framed_from v s.position)

pub same_copies : (v : Stored) (from start : ℕ) (old now new : List ℕ) (s : Spot) (skip left written more : ℕ) → Copies v from start old now s skip written → new ≡ now → left ≡ skip → more ≡ written
    → Copies v from start old new s left more
same_copies v from start old now new s skip left written more c buffer same count =
    subst (λ b. Copies v from start old b s left more) (sym buffer) (subst (λ n. Copies v from start old now s n more) (sym same) (subst (Copies v from start old now s skip) (sym count) c))

-- the frame that lies at a place, and the next place
pub record Steps (r : Inside) (v : Stored) (s next : Spot) : Type 0 where
  pub frame : List ℕ
  pub begins : Begins (drop (s.offset - r.base) r.bytes.items) frame
  pub count : next.position - s.position ≡ length frame
  pub size : 3 + (next.position - s.position) ≡ length (framed frame)
  pub bytes : framed_from v s.position ≡ framed frame ++ framed_from v next.position
  pub top : 3 + (next.position - s.position) < 2 ^ 64

pub steps : (r : Inside) (v : Stored) (s next : Spot) → Known r v → IsAt (floor_of v) v.base (frames_of v) s → s.position < r.plain → IsAt (floor_of v) v.base (frames_of v) next → next.index ≡ s.index + 1
    → Steps r v s next
steps r v s next k here before there index =
    let fs = frames_of v in
    let some : s.index < length fs = elim (cases_lt s.index (length fs)) [
      | inl more ↦ more
      | inr all ↦ absurd (omega (arith, before, here.start, k.plain_end, ap (pos_by length) (take_all s.index fs all)))
    ] in
    let x = reached r v s k here some in
    let same = ap (λ i. pos_by length (take i fs)) index in
    let later : suc s.index ≡ next.index = omega (arith, index) in
    let from = framed_here v s.index s.position k.longer here.within here.start in
    let to = framed_here v next.index next.position k.longer there.within there.start in
    record {
      frame = x.frame;
      begins = x.begins;
      count = omega (arith, there.start, same, x.next);
      size = omega (arith, there.start, same, x.next, length-framed x.frame);
      bytes = from ∙ ap (flat_map framed) (x.rest ∙ ap (λ i. x.frame ∷ drop i fs) later) ∙ flat_map-cons framed x.frame (drop next.index fs) ∙ ap (λ l. framed x.frame ++ l) (sym to);
      top = omega (arith, there.start, same, x.next, x.top);
    }

-- a frame is left out
pub passes_by : (r : Inside) (v : Stored) (from start : ℕ) (old now : List ℕ) (s next : Spot) (skip written n : ℕ) → Copies v from start old now s skip written → Steps r v s next
    → IsAt (floor_of v) v.base (frames_of v) next → n ≡ 3 + (next.position - s.position) → n ≤ skip → Copies v from start old now next (skip - n) written
passes_by r v from start old now s next skip written n c st there is le =
    let whole : n + (skip - n) ≡ skip = omega (arith, le) in
    let size : length (framed st.frame) ≡ n = omega (arith, is, st.size) in
    let left : drop n (framed_from v s.position) ≡ framed_from v next.position = ap (drop n) st.bytes ∙ drop_at (framed st.frame) (framed_from v next.position) n size in
    record {
      at = there;
      inside = omega (arith, c.inside, ap length st.bytes, length-append (framed st.frame) (framed_from v next.position), size);
      done = c.done;
      rest = c.rest ∙ ap (λ k. drop k (framed_from v s.position)) (sym whole) ∙ sym (drop-drop (skip - n) n (framed_from v s.position)) ∙ ap (drop (skip - n)) left;
    }

-- the rest of a frame is written, as far as it fits
pub record Frame (v : Stored) (from start : ℕ) (old new : List ℕ) (next : Spot) (written : ℕ) : Type 0 where
  pub done : Written (drop start (framed_from v from)) old new written
  pub goes : written < length old → Copies v from start old new next 0 written

pub copies_frame : (r : Inside) (v : Stored) (from start : ℕ) (old now part : List ℕ) (s next : Spot) (skip written more n : ℕ) → Copies v from start old now s skip written → (st : Steps r v s next)
    → IsAt (floor_of v) v.base (frames_of v) next → n ≡ 3 + (next.position - s.position) → skip < n → more ≡ min (length (mid_of written (length now - written) now)) (3 + length st.frame - skip)
    → part ≡ take more (drop skip (framed st.frame)) ++ drop more (mid_of written (length now - written) now)
    → Frame v from start old (put_mid written (length now - written) now part) next (written + more)
copies_frame r v from start old now part s next skip written more n c st there is lt many made =
    let bytes = drop start (framed_from v from) in
    let after = framed_from v next.position in
    let frame = st.frame in
    let all_same = same_length bytes old now written c.done in
    let left = rest_of now written in
    let size : n ≡ length (framed st.frame) = omega (arith, is, st.size) in
    let len = length-framed st.frame in
    let cut : drop skip (framed_from v s.position) ≡ drop skip (framed st.frame) ++ after = ap (drop skip) st.bytes ∙ drop-append-le skip (framed st.frame) after (omega (arith, lt, size)) in
    let one = length-drop skip (framed st.frame) in
    let fits : more ≡ min (length old - written) (3 + length st.frame - skip) = omega (arith, many, ap length left, length-drop written now, all_same) in
    let few : more ≤ length (drop skip (framed st.frame)) = omega (arith, fits, one, len) in
    let taken : take more (drop skip (framed st.frame)) ≡ take more (drop skip (framed_from v s.position)) = sym (ap (take more) cut ∙ take-append-le more (drop skip (framed st.frame)) after few) in
    let new = put_mid written (length now - written) now part in
    let new_is : put_mid written (length now - written) now part ≡ take written now ++ (take more (drop skip (framed_from v s.position)) ++ drop more (drop written now)) =
    put_rest now part written ∙ ap (λ l. take written now ++ l) (made ∙ (λ i. taken i ++ drop more (left i))) in
    let done = more_written bytes old now new (drop skip (framed_from v s.position)) written more c.done (sym c.rest) (omega (arith, few, ap length cut, length-append (drop skip (framed st.frame)) after)) (omega (arith, fits, c.done.room)) new_is in
    record {
      done = done;
      goes = λ room.
          let all : length (drop skip (framed st.frame)) ≡ more = omega (arith, fits, room, one, len) in
          record {
            at = there;
            inside = omega arith;
            done = done;
            rest = sym (drop-drop more written bytes) ∙ ap (drop more) (c.rest ∙ cut) ∙ drop_at (drop skip (framed st.frame)) after more all;
          };
    }

-- where the buffer is full, so many were written as fit
pub full : (bytes old new : List ℕ) (start written : ℕ) → Written (drop start bytes) old new written → written ≡ length new → written ≡ min (length old) (length bytes - start)
full bytes old new start written w all = omega (arith, all, same_length (drop start bytes) old new written w, w.within, length-drop start bytes)

-- the last frames lie as they go onto a stream
pub record Last (r : Inside) (v : Stored) (s : Spot) : Type 0 where
  pub rest : drop (s.offset - r.base) r.bytes.items ≡ framed_from v s.position
  pub size : (s.offset - r.base) + length (framed_from v s.position) ≡ length r.bytes.items

pub last : (r : Inside) (v : Stored) (s : Spot) → Known r v → IsAt (floor_of v) v.base (frames_of v) s → r.plain ≤ s.position → Last r v s
last r v s k here past =
    let fs = frames_of v in
    let plain = laid_all-plain (drop s.index fs) (k.plain s.index here.within (omega (arith, past, here.start))) in
    let place : s.offset - r.base ≡ laid_len (take s.index fs) = omega (arith, here.offset, k.base) in
    let rest : drop (s.offset - r.base) r.bytes.items ≡ framed_from v s.position =
    (λ i. drop (place i) (k.stores.bytes_are i)) ∙ laid_all-drop fs s.index ∙ plain ∙ sym (framed_here v s.index s.position k.longer here.within here.start) in
    record {
      rest = rest;
      size = omega (arith, ap length rest, length-drop (s.offset - r.base) r.bytes.items, place, laid_parts fs s.index, k.size);
    }

-- they are copied in one go
pub record Finishes (v : Stored) (from start : ℕ) (old new : List ℕ) (written : ℕ) : Type 0 where
  pub count : written ≡ min (length old) (length (framed_from v from) - start)
  pub buffer : new ≡ take written (drop start (framed_from v from)) ++ drop written old

pub finishes : (r : Inside) (v : Stored) (from start : ℕ) (old now part : List ℕ) (s : Spot) (skip written more : ℕ) → Copies v from start old now s skip written → Last r v s
    → more ≡ min (length (mid_of written (length now - written) now)) (length r.bytes.items - ((s.offset - r.base) + skip))
    → part ≡ take more (drop ((s.offset - r.base) + skip) r.bytes.items) ++ drop more (mid_of written (length now - written) now)
    → Finishes v from start old (put_mid written (length now - written) now part) (written + more)
finishes r v from start old now part s skip written more c l many made =
    let bytes = drop start (framed_from v from) in
    let lies = s.offset - r.base in
    let all_same = same_length bytes old now written c.done in
    let left = rest_of now written in
    let rest : drop (lies + skip) r.bytes.items ≡ drop skip (framed_from v s.position) = sym (drop-drop skip lies r.bytes.items) ∙ ap (drop skip) l.rest in
    let one = length-drop skip (framed_from v s.position) in
    let fits : more ≡ min (length old - written) (length (framed_from v s.position) - skip) = omega (arith, many, ap length left, length-drop written now, all_same, l.size) in
    let new = put_mid written (length now - written) now part in
    let new_is : put_mid written (length now - written) now part ≡ take written now ++ (take more (drop skip (framed_from v s.position)) ++ drop more (drop written now)) =
    put_rest now part written ∙ ap (λ l. take written now ++ l) (made ∙ (λ i. take more (rest i) ++ drop more (left i))) in
    let done = more_written bytes old now new (drop skip (framed_from v s.position)) written more c.done (sym c.rest) (omega (arith, fits, one)) (omega (arith, fits, c.done.room)) new_is in
    record {
      count = omega (arith, fits, ap length c.rest, one, length-drop written bytes, length-drop start (framed_from v from), c.done.within, c.done.room, c.inside);
      buffer = done.buffer;
    }
