-- How many own and held bytes of the line are left.
use Rattle.std.proofs.Common.{◌≡◌, ℕ, ◌+◌, ◌-◌, ◌<◌, ◌≤◌, ◌==◌, Bool, false, List, [], ◌∷◌, ◌++◌, length, slice_index_or, take, drop, replicate, map, Option, None, Some, refl, sym, ap, subst, ◌∙◌, append_assoc, append-nil, arith}
use Rattle.std.proofs.lemmas.List.{drop_all, drop_at, length-append, length-drop, length-replicate, length-take-le, replicate-append-replicate, take-take, take_at}
use Rattle.replay_buffer.specs.Held.{Buffer, IsReadable}
use Rattle.outbox.specs.declared.stretch.Stretch.{Stretch}
use Rattle.outbox.specs.Line.{own_in, run, weave}
use Rattle.outbox.specs.Spans.{AreSpans, IsPart, IsPinned, bytes_from, piece, pieces, span}
use Rattle.outbox.proofs.Runs.{Cut, cut_first, cut_last, held_first, held_last, length-run, own_first}
use Rattle.outbox.proofs.Spanned.{are-first, are-last, go_where_some, goes_same, length-span, pieces-push, span_advanced}
use Rattle.outbox.proofs.Weaving.{held-first, own-first, own_in-append, own_in-le, own_in-nil, own_in-none, own_in-parts, own_in-run, own_in-some}

-- so many own bytes, and so many held ones
pub record Counted (bytes : List (Option ℕ)) (own held : ℕ) : Type 0 where
  pub own_is : own ≡ own_in bytes
  pub all_is : own + held ≡ length bytes

pub counted_drop : (bytes : List (Option ℕ)) (n k own held : ℕ) → Counted bytes own held → n ≤ length bytes → k ≡ own_in (take n bytes) → Counted (drop n bytes) (own - k) (held - (n - k))
counted_drop bytes n k own held c within is =
    let parts = own_in-parts bytes n in
    let size = length-drop n bytes in
    let few = own_in-le (take n bytes) in
    let more = own_in-le (drop n bytes) in
    record {
      own_is = omega (arith, c.own_is, parts, is);
      all_is = omega (arith, c.own_is, c.all_is, parts, is, size, few, more, length-take-le n bytes within);
    }

pub counted_take : (bytes : List (Option ℕ)) (n k own held : ℕ) → Counted bytes own held → n ≤ length bytes → k ≡ own_in (drop (length bytes - n) bytes) → Counted (take (length bytes - n) bytes) (own - k) (held - (n - k))
counted_take bytes n k own held c within is =
    let m = length bytes - n in
    let parts = own_in-parts bytes m in
    let size = length-take-le m bytes (omega arith) in
    let few = own_in-le (drop m bytes) in
    let more = own_in-le (take m bytes) in
    let left = length-drop m bytes in
    record {
      own_is = omega (arith, c.own_is, parts, is);
      all_is = omega (arith, c.own_is, c.all_is, parts, is, size, few, more, left, within);
    }

-- own bytes and then held ones come after all
pub counted_run : (bytes new : List (Option ℕ)) (own held before : ℕ) (xs : List ℕ) (n : ℕ) → Counted bytes own held → own ≤ before → new ≡ bytes ++ run (before - own) xs → n ≡ length xs → Counted new before (held + n)
counted_run bytes new own held before xs n c le is size =
    let count = ap own_in is ∙ own_in-append bytes (run (before - own) xs) in
    let long = ap length is ∙ length-append bytes (run (before - own) xs) in
    record {
      own_is = omega (arith, c.own_is, count, own_in-run (before - own) xs, le);
      all_is = omega (arith, c.own_is, c.all_is, long, length-run (before - own) xs, size, le);
    }

-- ---- the first stretch

pub record First (b : Buffer) (s : Stretch) (rest : List Stretch) (bytes : List (Option ℕ)) (own held : ℕ) : Type 0 where
  pub some : 0 < s.own + s.count
  pub part : IsPart b s
  pub others : AreSpans b rest
  pub bytes_are : bytes ≡ piece b s ++ pieces b rest
  pub own_fits : s.own ≤ own
  pub held_fits : s.count ≤ held

pub first : (b : Buffer) (ss rest : List Stretch) (s : Stretch) (own held : ℕ) → AreSpans b ss → ss ≡ s ∷ rest → Counted (pieces b ss) own held → First b s rest (pieces b ss) own held
first b ss rest s own held all is c =
    let each = subst (AreSpans b) is all in
    let bytes = ap (pieces b) is in
    let count = ap own_in bytes ∙ own_in-append (piece b s) (pieces b rest) in
    let size = ap length bytes ∙ length-append (piece b s) (pieces b rest) in
    let one = own_in-run s.own (span b s) in
    let long = length-run s.own (span b s) in
    record {
      some = each.0.0;
      part = each.0.1;
      others = each.1;
      bytes_are = bytes;
      own_fits = omega (arith, c.own_is, count, one);
      held_fits = omega (arith, c.own_is, c.all_is, count, one, size, long, length-span b s each.0.1, own_in-le (pieces b rest));
    }

-- some of its own bytes leave
pub record Leaves (bytes : List (Option ℕ)) (n k : ℕ) (rest : List (Option ℕ)) : Type 0 where
  pub within : n ≤ length bytes
  pub own_is : k ≡ own_in (take n bytes)
  pub rest_is : drop n bytes ≡ rest

pub own_leaves : (b : Buffer) (s : Stretch) (bytes more : List (Option ℕ)) (n : ℕ) → bytes ≡ piece b s ++ more → n ≤ s.own → Leaves bytes n n (run (s.own - n) (span b s) ++ more)
own_leaves b s bytes more n is le =
    let c = cut_first (piece b s) more n (replicate n None) (run (s.own - n) (span b s)) (own_first s.own n (span b s) le) in
    record {
      within = omega (arith, c.within, ap length is);
      own_is = sym (ap (λ l. own_in (take n l)) is ∙ ap own_in c.front_is ∙ own_in-none n);
      rest_is = ap (drop n) is ∙ c.rest_is;
    }

-- it has none, and some of its held bytes leave
pub held_leaves : (b : Buffer) (s : Stretch) (bytes more : List (Option ℕ)) (n : ℕ) → IsPart b s → bytes ≡ piece b s ++ more → s.own ≡ 0 → n ≤ s.count → Leaves bytes n 0 (run 0 (drop n (span b s)) ++ more)
held_leaves b s bytes more n part is none le =
    let same : bytes ≡ run 0 (span b s) ++ more = is ∙ ap (λ k. run k (span b s) ++ more) none in
    let c = cut_first (run 0 (span b s)) more n (map Some (take n (span b s))) (run 0 (drop n (span b s))) (held_first n (span b s) (omega (arith, le, length-span b s part))) in
    record {
      within = omega (arith, c.within, ap length same);
      own_is = sym (ap (λ l. own_in (take n l)) same ∙ ap own_in c.front_is ∙ own_in-some (take n (span b s)));
      rest_is = ap (drop n) same ∙ c.rest_is;
    }

-- all of them leave
pub none_held : (xs : List ℕ) (n : ℕ) → length xs ≤ n → run 0 (drop n xs) ≡ []
none_held xs n le = ap (run 0) (drop_all n xs le)

-- ---- the last stretch

pub record Last (b : Buffer) (s : Stretch) (front : List Stretch) (bytes : List (Option ℕ)) (own held : ℕ) : Type 0 where
  pub some : 0 < s.own + s.count
  pub part : IsPart b s
  pub others : AreSpans b front
  pub bytes_are : bytes ≡ pieces b front ++ piece b s
  pub own_fits : s.own ≤ own
  pub held_fits : s.count ≤ held

pub last : (b : Buffer) (ss front : List Stretch) (s : Stretch) (own held : ℕ) → AreSpans b ss → ss ≡ front ++ s ∷ [] → Counted (pieces b ss) own held → Last b s front (pieces b ss) own held
last b ss front s own held all is c =
    let each = subst (AreSpans b) is all in
    let one = are-last b front (s ∷ []) each in
    let bytes = ap (pieces b) is ∙ pieces-push b front s in
    let count = ap own_in bytes ∙ own_in-append (pieces b front) (piece b s) in
    let size = ap length bytes ∙ length-append (pieces b front) (piece b s) in
    let own_one = own_in-run s.own (span b s) in
    let long = length-run s.own (span b s) in
    record {
      some = one.0.0;
      part = one.0.1;
      others = are-first b front (s ∷ []) each;
      bytes_are = bytes;
      own_fits = omega (arith, c.own_is, count, own_one);
      held_fits = omega (arith, c.own_is, c.all_is, count, own_one, size, long, length-span b s one.0.1, own_in-le (pieces b front));
    }

-- some bytes leave at the end
pub record Ends (bytes : List (Option ℕ)) (n k : ℕ) (front : List (Option ℕ)) : Type 0 where
  pub within : n ≤ length bytes
  pub own_is : k ≡ own_in (drop (length bytes - n) bytes)
  pub front_is : take (length bytes - n) bytes ≡ front

-- held ones
pub held_ends : (b : Buffer) (s : Stretch) (bytes before : List (Option ℕ)) (n : ℕ) → IsPart b s → bytes ≡ before ++ piece b s → n ≤ s.count
    → Ends bytes n 0 (before ++ piece b (record s { count = s.count - n }))
held_ends b s bytes before n part is le =
    let all = span b s in
    let size = length-span b s part in
    let m = s.count - n in
    let c = cut_last before (piece b s) (s.own + m) (run s.own (take m all)) (map Some (drop m all)) (held_last s.own m all (omega (arith, size))) in
    let total : length bytes - n ≡ length before + (s.own + m) = omega (arith, ap length is, length-append before (piece b s), length-run s.own all, size, le) in
    let fewer : take m all ≡ span b (record s { count = m }) = take-take m s.count (drop s.place.skip (bytes_from b s.place.position)) (omega arith) in
    record {
      within = omega (arith, ap length is, length-append before (piece b s), length-run s.own all, size, le);
      own_is = sym ((λ i. own_in (drop (total i) (is i))) ∙ ap own_in c.rest_is ∙ own_in-some (drop m all));
      front_is = (λ i. take (total i) (is i)) ∙ c.front_is ∙ ap (λ l. before ++ run s.own l) fewer;
    }

-- own ones, after which no held ones come
pub own_ends : (b : Buffer) (s : Stretch) (bytes before : List (Option ℕ)) (n : ℕ) → bytes ≡ before ++ piece b s → s.count ≡ 0 → n ≤ s.own
    → Ends bytes n n (before ++ piece b (record s { own = s.own - n }))
own_ends b s bytes before n is none le =
    let alone : (k : ℕ) → run k (span b s) ≡ replicate k None = λ k. ap (λ l. replicate k None ++ map Some l) (empty b s none) ∙ append-nil (replicate k None) in
    let m = s.own - n in
    let sum : m + n ≡ s.own = omega (arith, le) in
    let parts : bytes ≡ (before ++ piece b (record s { own = m })) ++ replicate n None =
    is ∙ ap (λ l. before ++ l) (alone s.own ∙ ap (λ k. replicate k None) (sym sum) ∙ sym (replicate-append-replicate m n None) ∙ ap (λ l. l ++ replicate n None) (sym (alone m)))
    ∙ sym (append_assoc before (piece b (record s { own = m })) (replicate n None)) in
    let front = before ++ piece b (record s { own = m }) in
    let size = ap length parts ∙ length-append front (replicate n None) ∙ ap (λ k. length front + k) (gone n) in
    let total : length front ≡ length bytes - n = omega (arith, size) in
    record {
      within = omega (arith, size);
      own_is = sym (ap (λ l. own_in (drop (length bytes - n) l)) parts ∙ ap own_in (drop_at front (replicate n None) (length bytes - n) total) ∙ own_in-none n);
      front_is = ap (take (length bytes - n)) parts ∙ take_at front (replicate n None) (length bytes - n) total;
    }
  where
    gone : (n : ℕ) → length (replicate {A = Option ℕ} n None) ≡ n
    gone n = length-replicate n None

    empty : (b : Buffer) (s : Stretch) → s.count ≡ 0 → span b s ≡ []
    empty b s none = ap (λ k. take k (drop s.place.skip (bytes_from b s.place.position))) none

-- ---- what a drop leaves

-- of the last stretch this is left, and so many bytes left, of which `k` are own ones
pub record DropsLast (b : Buffer) (ss front : List Stretch) (t : Stretch) (n k own held : ℕ) : Type 0 where
  pub part : IsPart b t
  pub others : AreSpans b front
  pub ends : Ends (pieces b ss) n k (pieces b front ++ piece b t)
  pub counted : Counted (take (length (pieces b ss) - n) (pieces b ss)) (own - k) (held - (n - k))

pub drops_last_held : (b : Buffer) (ss front : List Stretch) (s : Stretch) (n own held : ℕ) → AreSpans b ss → ss ≡ front ++ s ∷ [] → own ≡ own_in (pieces b ss) → own + held ≡ length (pieces b ss) → n ≤ s.count
    → DropsLast b ss front (record s { count = s.count - n }) n 0 own held
drops_last_held b ss front s n own held all is own_is all_is le =
    let c : Counted (pieces b ss) own held = record { own_is = own_is; all_is = all_is } in
    let l = last b ss front s own held all is c in
    let e = held_ends b s (pieces b ss) (pieces b front) n l.part l.bytes_are le in
    record {
      part = record { boundary = l.part.boundary; within = omega (arith, l.part.within); pinned = l.part.pinned };
      others = l.others;
      ends = e;
      counted = counted_take (pieces b ss) n 0 own held c e.within e.own_is;
    }

pub drops_last_own : (b : Buffer) (ss front : List Stretch) (s : Stretch) (n own held : ℕ) → AreSpans b ss → ss ≡ front ++ s ∷ [] → own ≡ own_in (pieces b ss) → own + held ≡ length (pieces b ss) → s.count ≡ 0 → n ≤ s.own
    → DropsLast b ss front (record s { own = s.own - n }) n n own held
drops_last_own b ss front s n own held all is own_is all_is none le =
    let c : Counted (pieces b ss) own held = record { own_is = own_is; all_is = all_is } in
    let l = last b ss front s own held all is c in
    let e = own_ends b s (pieces b ss) (pieces b front) n l.bytes_are none le in
    record {
      part = record { boundary = l.part.boundary; within = l.part.within; pinned = l.part.pinned };
      others = l.others;
      ends = e;
      counted = counted_take (pieces b ss) n n own held c e.within e.own_is;
    }

pub fits_last : (b : Buffer) (ss front : List Stretch) (s : Stretch) (own held : ℕ) → AreSpans b ss → ss ≡ front ++ s ∷ [] → own ≡ own_in (pieces b ss) → own + held ≡ length (pieces b ss) → (s.own ≤ own) × (s.count ≤ held)
fits_last b ss front s own held all is own_is all_is =
    let l = last b ss front s own held all is (record { own_is = own_is; all_is = all_is }) in
    (l.own_fits, l.held_fits)

-- the same of the first stretch
pub record DropsFirst (b : Buffer) (ss rest : List Stretch) (left : List (Option ℕ)) (n k own held : ℕ) : Type 0 where
  pub others : AreSpans b rest
  pub leaves : Leaves (pieces b ss) n k (left ++ pieces b rest)
  pub counted : Counted (drop n (pieces b ss)) (own - k) (held - (n - k))

pub drops_first_own : (b : Buffer) (ss rest : List Stretch) (s : Stretch) (n own held : ℕ) → AreSpans b ss → ss ≡ s ∷ rest → own ≡ own_in (pieces b ss) → own + held ≡ length (pieces b ss) → n ≤ s.own
    → DropsFirst b ss rest (piece b (record s { own = s.own - n })) n n own held
drops_first_own b ss rest s n own held all is own_is all_is le =
    let c : Counted (pieces b ss) own held = record { own_is = own_is; all_is = all_is } in
    let f = first b ss rest s own held all is c in
    let l = own_leaves b s (pieces b ss) (pieces b rest) n f.bytes_are le in
    record { others = f.others; leaves = l; counted = counted_drop (pieces b ss) n n own held c l.within l.own_is }

pub drops_first_held : (b : Buffer) (ss rest : List Stretch) (s : Stretch) (n own held : ℕ) → AreSpans b ss → ss ≡ s ∷ rest → own ≡ own_in (pieces b ss) → own + held ≡ length (pieces b ss) → s.own ≡ 0 → n ≤ s.count
    → DropsFirst b ss rest (run 0 (drop n (span b s))) n 0 own held
drops_first_held b ss rest s n own held all is own_is all_is none le =
    let c : Counted (pieces b ss) own held = record { own_is = own_is; all_is = all_is } in
    let f = first b ss rest s own held all is c in
    let l = held_leaves b s (pieces b ss) (pieces b rest) n f.part f.bytes_are none le in
    record { others = f.others; leaves = l; counted = counted_drop (pieces b ss) n 0 own held c l.within l.own_is }

pub first_part : (b : Buffer) (ss rest : List Stretch) (s : Stretch) → AreSpans b ss → ss ≡ s ∷ rest → IsPart b s
first_part b ss rest s all is = (subst (AreSpans b) is all).0.1

pub fits_first : (b : Buffer) (ss rest : List Stretch) (s : Stretch) (own held : ℕ) → AreSpans b ss → ss ≡ s ∷ rest → own ≡ own_in (pieces b ss) → own + held ≡ length (pieces b ss) → (s.own ≤ own) × (s.count ≤ held)
fits_first b ss rest s own held all is own_is all_is =
    let f = first b ss rest s own held all is (record { own_is = own_is; all_is = all_is }) in
    (f.own_fits, f.held_fits)

-- ---- what lies in the list

pub none_there : (ss : List Stretch) (n : ℕ) → n ≡ length ss → n ≡ 0 → ss ≡ []
none_there [] n size none = refl
none_there (s ∷ ss) n size none = absurd (omega (arith, size, none))

pub one_there : (ss : List Stretch) (s : Stretch) (n : ℕ) → n ≡ length ss → 0 < n → s ≡ slice_index_or ss 0 s → ss ≡ s ∷ drop 1 ss
one_there [] s n size some is = absurd (omega (arith, size, some))
one_there (t ∷ ss) s n size some is = ap (λ x. x ∷ ss) (sym is)

pub only_there : (ss : List Stretch) (s : Stretch) (n : ℕ) → n ≡ length ss → n ≡ 1 → s ≡ slice_index_or ss 0 s → ss ≡ s ∷ []
only_there [] s n size one is = absurd (omega (arith, size, one))
only_there (t ∷ []) s n size one is = ap (λ x. x ∷ []) (sym is)
only_there (t ∷ u ∷ ss) s n size one is = absurd (omega (arith, size, one))

-- the rest of the first stretch, whose place moved on
pub record Moved (b new : Buffer) (rest ss : List Stretch) (left : List ℕ) : Type 0 where
  pub each : AreSpans new ss
  pub bytes : pieces new ss ≡ run 0 left ++ pieces b rest

pub moved : (b new : Buffer) (s t : Stretch) (rest ss : List Stretch) (n : ℕ) (alone : Bool) (len : ℕ) → IsPart b s → AreSpans b rest → n < s.count → t.own ≡ 0 → t.count ≡ s.count - n
    → IsReadable new t.place.position → IsPinned new t.place.position → t.place.skip ≤ length (bytes_from new t.place.position)
    → drop t.place.skip (bytes_from new t.place.position) ≡ drop (s.place.skip + n) (bytes_from b s.place.position)
    → alone ≡ (len == 0) → len ≡ length rest → (alone ≡ false → new ≡ b) → ss ≡ t ∷ rest → Moved b new rest ss (drop n (span b s))
moved b new s t rest ss n alone len part others lt none count at pin inside bytes is size same there =
    let a = span_advanced b new s t n (omega (arith, lt)) count part at pin inside bytes in
    let o = go_where_some b new rest alone len is size (λ some. goes_same b new (same some)) others in
    record {
      each = subst (AreSpans new) (sym there) ((omega (arith, lt, count), a.0), o.each);
      bytes = ap (pieces new) there ∙ (λ i. run (none i) (a.1 i) ++ o.bytes i);
    }

-- ---- the first bytes that wait

pub first_own : (b : Buffer) (s : Stretch) (bytes more : List (Option ℕ)) (n : ℕ) (own : List ℕ) → bytes ≡ piece b s ++ more → n ≤ s.own → own_in bytes ≤ length own → take n (weave bytes own) ≡ take n own
first_own b s bytes more n own is le fits =
    let c = cut_first (piece b s) more n (replicate n None) (run (s.own - n) (span b s)) (own_first s.own n (span b s) le) in
    own-first bytes n own (omega (arith, c.within, ap length is)) fits (ap (take n) is ∙ c.front_is)

pub first_held : (b : Buffer) (s : Stretch) (bytes more : List (Option ℕ)) (n : ℕ) (own : List ℕ) → IsPart b s → bytes ≡ piece b s ++ more → s.own ≡ 0 → n ≤ s.count → own_in bytes ≤ length own → take n (weave bytes own) ≡ take n (span b s)
first_held b s bytes more n own part is none le fits =
    let same : bytes ≡ run 0 (span b s) ++ more = is ∙ ap (λ k. run k (span b s) ++ more) none in
    let c = cut_first (run 0 (span b s)) more n (map Some (take n (span b s))) (run 0 (drop n (span b s))) (held_first n (span b s) (omega (arith, le, length-span b s part))) in
    held-first bytes n own (take n (span b s)) (omega (arith, c.within, ap length same)) fits (ap (take n) same ∙ c.front_is)
