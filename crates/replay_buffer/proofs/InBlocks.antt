-- Where a byte lies among blocks of one size.
use Rattle.std.proofs.Common.{◌≡◌, ℕ, zero, suc, ◌+◌, ◌-◌, ◌*◌, ◌<◌, ◌≤◌, List, [], ◌∷◌, ◌++◌, length, min, take, drop, refl, sym, ap, ◌∙◌, append_assoc, arith, inl, inr, subst, take-add, take-take, ◌^◌}
use Rattle.std.specs.Prelude.{Some, None, slice_get}
use Rattle.std.specs.List.{AllByRecursion, flat_map}
use Rattle.std.proofs.lemmas.Bool.{cases_lt}
use Rattle.std.proofs.lemmas.List.{append-nil, drop-append-le, drop_at, drop-drop, length-append, length-drop, length-take-le, take_all, take_at}
use Rattle.std.proofs.lemmas.List.Concat.{flat_map-append, flat_map-cons}
use Rattle.std.proofs.lemmas.Option.{none-some, same_Some, slice_get-get_or}
use Rattle.std.proofs.Math.Seq.{drop-append-add}
use Rattle.replay_buffer.specs.Blocks.{Bytes, IsBlocks, IsEmpty, IsFull, bytes_of, written}
use Rattle.replay_buffer.specs.declared.block.TheConstants.{BLOCK}
use Rattle.replay_buffer.specs.declared.blocks.Blocks.TheInside.{Inside}

pub length-joined : (bs : List (List ℕ)) → AllByRecursion IsFull bs → length (flat_map (λ b. b) bs) ≡ BLOCK * length bs
length-joined [] all = refl
length-joined (b ∷ bs) all = omega (arith, ap length (flat_map-cons (λ b. b) b bs), length-append b (flat_map (λ b. b) bs), all.0, length-joined bs all.1)

-- the bytes of a block from one on, and those of the later blocks
record InBlock (bytes block : List ℕ) (at r : ℕ) : Type 0 where
  rest : List ℕ
  cut : drop at bytes ≡ drop r block ++ rest
  size : length block ≡ BLOCK

in_block : (bs : List (List ℕ)) (last block : List ℕ) (k r : ℕ) → AllByRecursion IsFull bs → Some block ≡ slice_get bs k → r ≤ BLOCK
    → InBlock (flat_map (λ b. b) bs ++ last) block (BLOCK * k + r) r
in_block [] last block k r all is le = absurd (none-some block (sym is))
in_block (b ∷ bs) last block zero r all is le =
    let same : block ≡ b = same_Some block b is in
    let first : BLOCK * 0 + r ≡ r = omega arith in
    let parts : flat_map (λ b. b) (b ∷ bs) ++ last ≡ b ++ (flat_map (λ b. b) bs ++ last) = append_assoc b (flat_map (λ b. b) bs) last in
    record {
      rest = flat_map (λ b. b) bs ++ last;
      cut = (λ j. drop (first j) (parts j)) ∙ drop-append-le r b (flat_map (λ b. b) bs ++ last) (omega (arith, all.0, le)) ∙ ap (λ x. drop r x ++ (flat_map (λ b. b) bs ++ last)) (sym same);
      size = ap length same ∙ all.0;
    }
in_block (b ∷ bs) last block (suc k) r all is le =
    let i = in_block bs last block k r all.1 is le in
    let parts : flat_map (λ b. b) (b ∷ bs) ++ last ≡ b ++ (flat_map (λ b. b) bs ++ last) = append_assoc b (flat_map (λ b. b) bs) last in
    let sum : BLOCK * suc k + r ≡ length b + (BLOCK * k + r) = omega (arith, all.0) in
    record {
      rest = i.rest;
      cut = (λ j. drop (sum j) (parts j)) ∙ drop-append-add b (flat_map (λ b. b) bs ++ last) (BLOCK * k + r) ∙ i.cut;
      size = i.size;
    }

-- some bytes, which are the first ones of these
pub record IsPart (bytes part : List ℕ) : Type 0 where
  pub some : 0 < length part
  pub is : part ≡ take (length part) bytes

pub in_full : (bs : List (List ℕ)) (last block part : List ℕ) (at k r : ℕ) → AllByRecursion IsFull bs → Some block ≡ slice_get bs k → k * BLOCK + r ≡ at → r < BLOCK
    → part ≡ drop r block → IsPart (drop at (flat_map (λ b. b) bs ++ last)) part
in_full bs last block part at k r all is sum lt part_is =
    let i = in_block bs last block k r all is (omega arith) in
    let rest : part ≡ drop r block = part_is in
    let place : BLOCK * k + r ≡ at = omega (arith, sum) in
    let cut : drop at (flat_map (λ b. b) bs ++ last) ≡ part ++ i.rest = ap (λ n. drop n (flat_map (λ b. b) bs ++ last)) (sym place) ∙ i.cut ∙ ap (λ l. l ++ i.rest) (sym rest) in
    record {
      some = omega (arith, ap length rest, length-drop r block, i.size, lt);
      is = sym (ap (take (length part)) cut ∙ take_at part i.rest (length part) refl);
    }

-- a place after all full blocks
pub beyond : (bs : List (List ℕ)) (at k r : ℕ) → None ≡ slice_get bs k → k * BLOCK + r ≡ at → BLOCK * length bs ≤ at
beyond bs at k r none sum = elim (cases_lt k (length bs)) [
  | inl inside ↦ absurd (none-some _ (none ∙ slice_get-get_or bs k [] inside))
  | inr outside ↦ omega (arith, sum, outside)
]

pub in_last : (bs : List (List ℕ)) (last part : List ℕ) (at : ℕ) → AllByRecursion IsFull bs → BLOCK * length bs ≤ at → at < length (flat_map (λ b. b) bs ++ last)
    → part ≡ drop (at - BLOCK * length bs) last → IsPart (drop at (flat_map (λ b. b) bs ++ last)) part
in_last bs last part at all far within part_is =
    let r = at - BLOCK * length bs in
    let joined = flat_map (λ b. b) bs in
    let size = length-joined bs all in
    let rest : part ≡ drop r last = part_is in
    let sum : at ≡ length joined + r = omega (arith, size, far) in
    let cut : drop at (joined ++ last) ≡ part = ap (λ n. drop n (joined ++ last)) sum ∙ drop-append-add joined last r ∙ sym rest in
    record {
      some = omega (arith, ap length cut, length-drop at (joined ++ last), within);
      is = sym (ap (take (length part)) cut ∙ take_all (length part) part (omega arith));
    }

-- ---- blocks that are let go

-- the same bytes are left, in blocks that are full
pub record IsLeft (old new : List (List ℕ)) (gone left : ℕ) : Type 0 where
  pub full : AllByRecursion IsFull new
  pub fewer : length new ≤ length old
  pub count : left + BLOCK * length old ≡ gone + BLOCK * length new
  pub same : (rest : List ℕ) → drop left (flat_map (λ b. b) new ++ rest) ≡ drop gone (flat_map (λ b. b) old ++ rest)

pub one_less : (old now new : List (List ℕ)) (gone left : ℕ) (block : List ℕ) → IsLeft old now gone left → Some block ≡ slice_get now 0 → new ≡ drop 1 now → BLOCK ≤ left → IsLeft old new gone (left - BLOCK)
one_less old [] new gone left block l is less le = absurd (none-some block (sym is))
one_less old (b ∷ bs) new gone left block l is less le =
    let size = ap length less in
    let sum : left ≡ length b + (left - BLOCK) = omega (arith, l.full.0, le) in
    record {
      full = subst (AllByRecursion IsFull) (sym less) l.full.1;
      fewer = omega (arith, size, l.fewer);
      count = omega (arith, size, l.count, le);
      same = λ rest.
          let parts : flat_map (λ x. x) (b ∷ bs) ++ rest ≡ b ++ (flat_map (λ x. x) bs ++ rest) = append_assoc b (flat_map (λ x. x) bs) rest in
          ap (λ l. drop (left - BLOCK) (flat_map (λ x. x) l ++ rest)) less ∙ sym ((λ j. drop (sum j) (parts j)) ∙ drop-append-add b (flat_map (λ x. x) bs ++ rest) (left - BLOCK)) ∙ l.same rest;
    }

-- ---- blocks that are written to

pub length-written : (b : Inside) → IsBlocks b → length (written b) ≡ BLOCK * length b.full.items + length b.last
length-written b s = omega (arith, length-append (flat_map (λ x. x) b.full.items) b.last, length-joined b.full.items s.full)

-- how many bytes there are
pub record Sized (b : Inside) (v : Bytes) : Type 0 where
  pub size : b.gone + length v.items ≡ BLOCK * length b.full.items + length b.last
  pub top : b.gone + length v.items < 2 ^ 63

pub sized : (b : Inside) (v : Bytes) → IsBlocks b → bytes_of b ≡ v → Sized b v
sized b v s is =
    let size : b.gone + length v.items ≡ BLOCK * length b.full.items + length b.last = omega (arith, ap (λ (x : Bytes). length x.items) is, length-drop b.gone (written b), length-written b s, s.within) in
    record { size = size; top = omega (arith, size, s.places, s.few, s.last) }

-- these bytes were appended
pub record Puts (b new : Inside) (more : List ℕ) : Type 0 where
  pub blocks : IsBlocks new
  pub is : bytes_of new ≡ record { items = (bytes_of b).items ++ more; free = (bytes_of b).free - length more }

pub puts : (b new : Inside) (more : List ℕ) → IsBlocks b → new ≡ record b { last = b.last ++ more } → length b.last + length more ≤ BLOCK → Puts b new more
puts b new more s is le =
    let joined = flat_map (λ x. x) b.full.items in
    let size = length-append b.last more in
    let longer : written (record b { last = b.last ++ more }) ≡ written b ++ more = sym (append_assoc joined b.last more) in
    let items : drop b.gone (written (record b { last = b.last ++ more })) ≡ drop b.gone (written b) ++ more = ap (drop b.gone) longer ∙ drop-append-le b.gone (written b) more s.within in
    let free : (BLOCK - length (b.last ++ more)) + BLOCK * length b.spare.items ≡ (BLOCK - length b.last) + BLOCK * length b.spare.items - length more = omega (arith, size, le) in
    subst (λ x. Puts b x more) (sym is) (record {
      blocks = record {
        full = s.full;
        last = omega (arith, size, le);
        spare = s.spare;
        gone = s.gone;
        within = omega (arith, s.within, ap length longer, length-append (written b) more);
        places = s.places;
        few = s.few;
      };
      is = λ i. record { items = items i; free = free i };
    })

all_push : {X : Type 0} (P : X → Type 0) (xs : List X) (x : X) → AllByRecursion P xs → P x → AllByRecursion P (xs ++ x ∷ [])
all_push P [] x all one = (one, tt)
all_push P (y ∷ xs) x all one = (all.0, all_push P xs x all.1 one)

all_take : {X : Type 0} (P : X → Type 0) (n : ℕ) (xs : List X) → AllByRecursion P xs → AllByRecursion P (take n xs)
all_take P zero xs all = tt
all_take P (suc n) [] all = tt
all_take P (suc n) (x ∷ xs) all = (all.0, all_take P n xs all.1)

-- the last block, which is full, was put after the full ones, and a spare one in its place
pub went_on : (b new : Inside) → IsBlocks b → length b.last ≡ BLOCK → 0 < length b.spare.items → new.full.items ≡ b.full.items ++ b.last ∷ [] → new.full.capacity ≡ b.full.capacity
    → new.last ≡ [] → new.spare.items ≡ take (length b.spare.items - 1) b.spare.items → new.gone ≡ b.gone → IsBlocks new × (bytes_of new ≡ bytes_of b)
went_on b new s full some items capacity last spare gone =
    let fs = b.full.items in
    let same : written new ≡ written b = (λ i. flat_map (λ x. x) (items i) ++ last i) ∙ append-nil (flat_map (λ x. x) (fs ++ b.last ∷ [])) ∙ flat_map-append (λ x. x) fs (b.last ∷ []) ∙ ap (λ l. flat_map (λ x. x) fs ++ l) (append-nil b.last) in
    let more = ap length items ∙ length-append fs (b.last ∷ []) in
    let fewer = ap length spare ∙ length-take-le (length b.spare.items - 1) b.spare.items (omega arith) in
    let free : (BLOCK - length new.last) + BLOCK * length new.spare.items ≡ (BLOCK - length b.last) + BLOCK * length b.spare.items = omega (arith, ap length last, full, fewer, some) in (
      record {
        full = subst (AllByRecursion IsFull) (sym items) (all_push IsFull fs b.last s.full full);
        last = omega (arith, ap length last);
        spare = subst (AllByRecursion IsEmpty) (sym spare) (all_take IsEmpty (length b.spare.items - 1) b.spare.items s.spare);
        gone = omega (arith, gone, s.gone);
        within = omega (arith, gone, ap length same, s.within);
        places = omega (arith, more, fewer, capacity, s.places, some);
        few = omega (arith, capacity, s.few);
      },
      λ i. record { items = drop (gone i) (same i); free = free i },
    )

-- bytes were appended, and then more
pub put_two : (a b c : Bytes) (xs ys more : List ℕ) → b ≡ record { items = a.items ++ xs; free = a.free - length xs } → c ≡ record { items = b.items ++ ys; free = b.free - length ys }
    → xs ++ ys ≡ more → c ≡ record { items = a.items ++ more; free = a.free - length more }
put_two a b c xs ys more p q is =
    let items : c.items ≡ a.items ++ more = ap (λ (x : Bytes). x.items) q ∙ ap (λ (x : Bytes). x.items ++ ys) p ∙ append_assoc a.items xs ys ∙ ap (λ l. a.items ++ l) is in
    let free : c.free ≡ a.free - length more = omega (arith, ap length is, length-append xs ys, ap (λ (x : Bytes). x.free) p, ap (λ (x : Bytes). x.free) q) in
    λ i. record { items = items i; free = free i }

pub put_three : (a b c d : Bytes) (xs ys zs more : List ℕ) → b ≡ record { items = a.items ++ xs; free = a.free - length xs } → c ≡ record { items = b.items ++ ys; free = b.free - length ys }
    → d ≡ record { items = c.items ++ zs; free = c.free - length zs } → xs ++ (ys ++ zs) ≡ more → d ≡ record { items = a.items ++ more; free = a.free - length more }
put_three a b c d xs ys zs more p q r is = put_two a c d (xs ++ ys) zs more (put_two a b c xs ys (xs ++ ys) p q refl) r (append_assoc xs ys zs ∙ is)

-- ---- blocks of which bytes are dropped

-- the oldest blocks were let go, all of whose bytes are dropped
pub dropped_front : (b new : Inside) (v : Bytes) (count : ℕ) → IsBlocks b → bytes_of b ≡ v → count ≤ length v.items → AllByRecursion IsFull new.full.items → new.full.capacity ≡ b.full.capacity
    → length new.full.items ≤ length b.full.items → new.gone ≤ BLOCK → new.gone + BLOCK * length b.full.items ≡ (b.gone + count) + BLOCK * length new.full.items → ((rest : List ℕ) → drop new.gone (flat_map (λ x. x) new.full.items ++ rest) ≡ drop (b.gone + count) (flat_map (λ x. x) b.full.items ++ rest))
    → new.last ≡ b.last → new.spare ≡ b.spare → IsBlocks new × (bytes_of new ≡ record v { items = drop count v.items })
dropped_front b new v count s is within full capacity fewer gone sum same last spare =
    let z = sized b v s is in
    let left : drop new.gone (written new) ≡ drop (b.gone + count) (written b) = same new.last ∙ ap (λ l. drop (b.gone + count) (flat_map (λ x. x) b.full.items ++ l)) last in
    let items : drop new.gone (written new) ≡ drop count v.items = left ∙ sym (drop-drop count b.gone (written b)) ∙ ap (λ (x : Bytes). drop count x.items) is in
    let free : (BLOCK - length new.last) + BLOCK * length new.spare.items ≡ v.free = (λ i. (BLOCK - length (last i)) + BLOCK * length ((spare i).items)) ∙ ap (λ (x : Bytes). x.free) is in
    let inside : new.gone ≤ length (written new) = omega (arith, sum, z.size, within, ap length last, length-append (flat_map (λ x. x) new.full.items) new.last, length-joined new.full.items full) in (
      record {
        full = full;
        last = omega (arith, ap length last, s.last);
        spare = subst (λ x. AllByRecursion IsEmpty x.items) (sym spare) s.spare;
        gone = gone;
        within = inside;
        places = omega (arith, fewer, capacity, s.places, ap (λ x. length x.items) spare);
        few = omega (arith, capacity, s.few);
      },
      λ i. record { items = items i; free = free i },
    )

-- ---- bytes that are copied out

-- the first bytes were written to the beginning of the buffer
pub record IsCopied (bytes old new : List ℕ) (count done : ℕ) : Type 0 where
  pub most : done ≤ count
  pub within : count ≤ length old
  pub enough : count ≤ length bytes
  pub is : new ≡ take done bytes ++ drop done old

pub copied_more : (bytes old new part ys : List ℕ) (count done more k : ℕ) → IsCopied bytes old new count done → done < count → IsPart (drop done bytes) part → more ≡ min (length part) (count - done)
    → ys ≡ take more part → k ≡ more → IsCopied bytes old (take done new ++ (ys ++ drop k (drop done new))) count (done + more)
copied_more bytes old new part ys count done more k c lt p more_is ys_is k_is =
    let long : length (take done bytes) ≡ done = length-take-le done bytes (omega (arith, c.enough, c.most)) in
    let first : take done new ≡ take done bytes = ap (take done) c.is ∙ take_at (take done bytes) (drop done old) done long in
    let later : drop k (drop done new) ≡ drop (done + more) old = (λ i. drop (k_is i) (drop done (c.is i))) ∙ ap (drop more) (drop_at (take done bytes) (drop done old) done long) ∙ drop-drop more done old in
    let next : ys ≡ take more (drop done bytes) = ys_is ∙ ap (take more) p.is ∙ take-take more (length part) (drop done bytes) (omega (arith, more_is)) in
    record {
      most = omega (arith, more_is, c.most);
      within = c.within;
      enough = c.enough;
      is = (λ i. first i ++ (next i ++ later i)) ∙ sym (append_assoc (take done bytes) (take more (drop done bytes)) (drop (done + more) old))
          ∙ ap (λ l. l ++ drop (done + more) old) (sym (take-add done more bytes));
    }
