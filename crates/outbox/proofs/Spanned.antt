-- Spans of the frames that can be read, while these change.
use Rattle.std.proofs.Common.{◌≡◌, ℕ, ◌+◌, ◌-◌, ◌<◌, ◌≤◌, ◌==◌, Bool, false, true, List, [], ◌∷◌, ◌++◌, length, take, drop, map, Option, Some, None, refl, sym, ap, subst, ◌∙◌, append_assoc, append-nil, arith}
use Rattle.std.specs.List.{AllByRecursion, flat_map}
use Rattle.std.proofs.lemmas.List.{drop-append-le, drop-drop, drop-take, drop_at, length-append, length-drop, length-take-le, take-append-le, take_all}
use Rattle.std.proofs.lemmas.Bool.Decides.{nat_tests}
use Rattle.std.proofs.lemmas.List.Concat.{flat_map-append, flat_map-cons}
use Rattle.rs_frame.specs.Framed.{framed}
use Rattle.replay_buffer.specs.Held.{Buffer, IsReadable, Spare}
use Rattle.outbox.specs.declared.stretch.Stretch.{Stretch}
use Rattle.outbox.specs.Line.{run}
use Rattle.outbox.specs.Pins.{Goes, GoesAt}
use Rattle.outbox.specs.Spans.{AreSpans, IsLonger, IsPart, IsPinned, IsSpan, Reaches, bytes_from, piece, pieces, span}
use Rattle.outbox.proofs.Pins.{KeepsAt, kept_is}
use Rattle.outbox.proofs.Runs.{run-more}

-- ---- lists of them

pub pieces-append : (b : Buffer) (ss ts : List Stretch) → pieces b (ss ++ ts) ≡ pieces b ss ++ pieces b ts
pieces-append b ss ts = flat_map-append (piece b) ss ts

pub pieces-one : (b : Buffer) (s : Stretch) → pieces b (s ∷ []) ≡ piece b s
pieces-one b s = append-nil (piece b s)

pub pieces-push : (b : Buffer) (ss : List Stretch) (s : Stretch) → pieces b (ss ++ s ∷ []) ≡ pieces b ss ++ piece b s
pieces-push b ss s = pieces-append b ss (s ∷ []) ∙ ap (λ l. pieces b ss ++ l) (pieces-one b s)

pub are-append : (b : Buffer) (ss ts : List Stretch) → AreSpans b ss → AreSpans b ts → AreSpans b (ss ++ ts)
are-append b [] ts xs ys = ys
are-append b (s ∷ ss) ts xs ys = (xs.0, are-append b ss ts xs.1 ys)

pub are-first : (b : Buffer) (ss ts : List Stretch) → AreSpans b (ss ++ ts) → AreSpans b ss
are-first b [] ts all = tt
are-first b (s ∷ ss) ts all = (all.0, are-first b ss ts all.1)

pub are-last : (b : Buffer) (ss ts : List Stretch) → AreSpans b (ss ++ ts) → AreSpans b ts
are-last b [] ts all = all
are-last b (s ∷ ss) ts all = are-last b ss ts all.1

-- ---- what a change leaves

pub record Same (b new : Buffer) (s : Stretch) : Type 0 where
  pub part : IsPart new s
  pub span_is : span new s ≡ span b s

pub part_goes : (b new : Buffer) (s : Stretch) → Goes b new → IsPart b s → Same b new s
part_goes b new s goes part =
    let g = goes s.place.position part.boundary part.pinned in
    let bytes = bytes_from b s.place.position in
    let skip = s.place.skip in
    let size = length-drop skip bytes in
    record {
      part = record {
        boundary = g.boundary;
        within = omega (arith, part.within, ap length g.bytes, length-append bytes g.more);
        pinned = g.pinned;
      };
      span_is = ap (λ l. take s.count (drop skip l)) g.bytes ∙ ap (take s.count) (drop-append-le skip bytes g.more (omega (arith, part.within)))
          ∙ take-append-le s.count (drop skip bytes) g.more (omega (arith, part.within, size));
    }

pub record SameAll (b new : Buffer) (ss : List Stretch) : Type 0 where
  pub each : AreSpans new ss
  pub bytes : pieces new ss ≡ pieces b ss

pub all_go : (b new : Buffer) (ss : List Stretch) → Goes b new → AreSpans b ss → SameAll b new ss
all_go b new [] goes all = record { each = tt; bytes = refl }
all_go b new (s ∷ ss) goes all =
    let one = part_goes b new s goes all.0.1 in
    let rest = all_go b new ss goes all.1 in
    record {
      each = ((all.0.0, one.part), rest.each);
      bytes = λ i. run s.own (one.span_is i) ++ rest.bytes i;
    }

pub goes_same : (b new : Buffer) → new ≡ b → Goes b new
goes_same b new is = subst (Goes b) (sym is) (λ p at pin. record { boundary = at; pinned = pin; more = []; bytes = sym (append-nil (bytes_from b p)) })

-- only what was reserved changes
pub goes_reserved : (b new : Buffer) (spare : Spare) → new ≡ record b { spare = spare } → Goes b new
goes_reserved b new spare is = subst (Goes b) (sym is) (λ p at pin. record {
  boundary = at;
  pinned = record { at = pin.at; pin = pin.pin; boundary = pin.boundary; low = pin.low };
  more = [];
  bytes = sym (append-nil (bytes_from b p));
})

-- where there are some they go on, and otherwise there is nothing to show
pub go_where_some : (b new : Buffer) (ss : List Stretch) (alone : Bool) (n : ℕ) → alone ≡ (n == 0) → n ≡ length ss → (alone ≡ false → Goes b new) → AreSpans b ss → SameAll b new ss
go_where_some b new [] alone n is size goes all = record { each = tt; bytes = refl }
go_where_some b new (s ∷ ss) alone n is size goes all =
    let some : (n == 0) ≡ false = grind (arith, nat_tests, size) in
    all_go b new (s ∷ ss) (goes (is ∙ some)) all

-- where there are some, one of them is pinned
pub some_pinned : (b : Buffer) (ss : List Stretch) (alone : Bool) (n : ℕ) → alone ≡ (n == 0) → n ≡ length ss → AreSpans b ss → alone ≡ false → (p : ℕ) × IsPinned b p
some_pinned b [] alone n is size all others =
    let yes : (n == 0) ≡ true = grind (arith, nat_tests, size) in
    absurd (cc (is, yes, others))
some_pinned b (s ∷ ss) alone n is size all others = (s.place.position, all.0.1.pinned)

-- ---- a frame more in line

abbrev pub Keeps : Buffer → Buffer → List ℕ → Type 0
Keeps b new frame = (p : ℕ) → IsReadable b p → IsPinned b p → KeepsAt b new frame p

pub record Lined (b new : Buffer) (old after : List Stretch) (bytes : List (Option ℕ)) : Type 0 where
  pub each : AreSpans new after
  pub lined : pieces new after ≡ pieces b old ++ bytes

-- in a stretch of its own
pub frame_pushed : (b new : Buffer) (old : List Stretch) (s : Stretch) (frame : List ℕ) → Keeps b new frame → AreSpans b old → IsReadable b s.place.position → IsPinned b s.place.position
    → s.place.skip ≡ length (bytes_from b s.place.position) → s.count ≡ length (framed frame) → 0 < s.count → Lined b new old (old ++ s ∷ []) (run s.own (framed frame))
frame_pushed b new old s frame keeps all at pin skip count some =
    let k = keeps s.place.position at pin in
    let bytes = bytes_from b s.place.position in
    let size = ap length k.bytes ∙ length-append bytes (framed frame) in
    let part : IsPart new s = record { boundary = k.boundary; within = omega (arith, size, skip, count); pinned = k.pinned } in
    let alone : span new s ≡ framed frame = ap (λ l. take s.count (drop s.place.skip l)) k.bytes ∙ ap (take s.count) (drop_at bytes (framed frame) s.place.skip (sym skip)) ∙ take_all s.count (framed frame) (omega (arith, count)) in
    let others = all_go b new old (kept_is b new frame keeps) all in
    record {
      each = are-append new old (s ∷ []) others.each ((omega (arith, some), part), tt);
      lined = pieces-push new old s ∙ (λ i. others.bytes i ++ run s.own (alone i));
    }

-- at the end of the last one
pub frame_joined : (b new : Buffer) (old after : List Stretch) (n : ℕ) (frame : List ℕ) → Keeps b new frame → AreSpans b old → IsLonger b old after n → n ≡ length (framed frame)
    → Lined b new old after (run 0 (framed frame))
frame_joined b new old after n frame keeps all l count =
    let s = l.last in
    let more = record s { count = s.count + n } in
    let split = subst (AreSpans b) l.before all in
    let last = are-last b l.front (s ∷ []) split in
    let k = keeps s.place.position last.0.1.boundary last.0.1.pinned in
    let bytes = bytes_from b s.place.position in
    let size = ap length k.bytes ∙ length-append bytes (framed frame) in
    let part : IsPart new more = record { boundary = k.boundary; within = omega (arith, size, l.end, count); pinned = k.pinned } in
    let left = length-drop s.place.skip bytes in
    let was : span b s ≡ drop s.place.skip bytes = take_all s.count (drop s.place.skip bytes) (omega (arith, left, l.end)) in
    let now : span new more ≡ span b s ++ framed frame =
    ap (λ x. take (s.count + n) (drop s.place.skip x)) k.bytes ∙ ap (take (s.count + n)) (drop-append-le s.place.skip bytes (framed frame) (omega (arith, l.end)))
    ∙ take_all (s.count + n) (drop s.place.skip bytes ++ framed frame) (omega (arith, left, l.end, count, length-append (drop s.place.skip bytes) (framed frame))) ∙ ap (λ x. x ++ framed frame) (sym was) in
    let others = all_go b new l.front (kept_is b new frame keeps) (are-first b l.front (s ∷ []) split) in
    record {
      each = subst (AreSpans new) (sym l.after) (are-append new l.front (more ∷ []) others.each ((omega (arith, last.0.0), part), tt));
      lined = ap (pieces new) l.after ∙ pieces-push new l.front more ∙ (λ i. others.bytes i ++ run s.own (now i)) ∙ ap (λ x. pieces b l.front ++ x) (run-more s.own (span b s) (framed frame))
          ∙ sym (append_assoc (pieces b l.front) (piece b s) (run 0 (framed frame))) ∙ ap (λ x. x ++ run 0 (framed frame)) (sym (pieces-push b l.front s) ∙ sym (ap (pieces b) l.before));
    }

-- the held frames from a boundary on
pub sent_pushed : (b new : Buffer) (old : List Stretch) (s : Stretch) (bytes : List ℕ) → AreSpans new old → pieces new old ≡ pieces b old → IsReadable new s.place.position → IsPinned new s.place.position
    → s.place.skip ≡ 0 → bytes_from new s.place.position ≡ bytes → s.count ≡ length bytes → 0 < s.own + s.count → Lined b new old (old ++ s ∷ []) (run s.own bytes)
sent_pushed b new old s bytes all same at pin skip is count some =
    let part : IsPart new s = record { boundary = at; within = omega (arith, skip, count, ap length is); pinned = pin } in
    let alone : span new s ≡ bytes = ap (λ k. take s.count (drop k (bytes_from new s.place.position))) skip ∙ ap (take s.count) is ∙ take_all s.count bytes (omega (arith, count)) in
    record {
      each = are-append new old (s ∷ []) all ((some, part), tt);
      lined = pieces-push new old s ∙ (λ i. same i ++ run s.own (alone i));
    }

-- ---- the place moves on

pub span_advanced : (b new : Buffer) (s t : Stretch) (n : ℕ) → n ≤ s.count → t.count ≡ s.count - n → IsPart b s → IsReadable new t.place.position → IsPinned new t.place.position
    → t.place.skip ≤ length (bytes_from new t.place.position) → drop t.place.skip (bytes_from new t.place.position) ≡ drop (s.place.skip + n) (bytes_from b s.place.position)
    → IsPart new t × (span new t ≡ drop n (span b s))
span_advanced b new s t n le count part at pin inside bytes =
    let old = bytes_from b s.place.position in
    let now = bytes_from new t.place.position in
    let sum : n + (s.count - n) ≡ s.count = omega (arith, le) in (
      record {
        boundary = at;
        within = omega (arith, part.within, inside, count, le, ap length bytes, length-drop t.place.skip now, length-drop (s.place.skip + n) old);
        pinned = pin;
      },
      (λ i. take (count i) (bytes i)) ∙ ap (take (s.count - n)) (sym (drop-drop n s.place.skip old)) ∙ sym (drop-take n (s.count - n) (drop s.place.skip old))
          ∙ ap (λ k. drop n (take k (drop s.place.skip old))) sum,
    )

pub length-span : (b : Buffer) (s : Stretch) → IsPart b s → length (span b s) ≡ s.count
length-span b s part =
    let bytes = bytes_from b s.place.position in
    length-take-le s.count (drop s.place.skip bytes) (omega (arith, part.within, length-drop s.place.skip bytes))

-- ---- the end of the frames

pub shut : {A : Type 0} → false ≡ true → A
shut never = absurd (cc never)

pub reach-none : (b : Buffer) → Reaches b []
unfolding Reaches
reach-none b = tt

pub reach-last : (b : Buffer) (front : List Stretch) (s : Stretch) → Reaches b (front ++ s ∷ []) → s.place.skip + s.count ≡ length (bytes_from b s.place.position)
unfolding Reaches
reach-last b [] s end = end
reach-last b (f ∷ []) s end = end
reach-last b (f ∷ g ∷ front) s end = reach-last b (g ∷ front) s end

pub reach-push : (b : Buffer) (front : List Stretch) (s : Stretch) → s.place.skip + s.count ≡ length (bytes_from b s.place.position) → Reaches b (front ++ s ∷ [])
unfolding Reaches
reach-push b [] s end = end
reach-push b (f ∷ []) s end = end
reach-push b (f ∷ g ∷ front) s end = reach-push b (g ∷ front) s end

-- without the first stretch
pub reach-rest : (b : Buffer) (s : Stretch) (rest : List Stretch) → Reaches b (s ∷ rest) → Reaches b rest
unfolding Reaches
reach-rest b s [] end = tt
reach-rest b s (t ∷ rest) end = end

reach-spare : (b : Buffer) (spare : Spare) (ss : List Stretch) → Reaches b ss → Reaches (record b { spare = spare }) ss
unfolding Reaches
reach-spare b spare [] end = tt
reach-spare b spare (s ∷ []) end = end
reach-spare b spare (s ∷ t ∷ ss) end = reach-spare b spare (t ∷ ss) end

pub reach-reserved : (b new : Buffer) (spare : Spare) (ss : List Stretch) → new ≡ record b { spare = spare } → Reaches b ss → Reaches new ss
reach-reserved b new spare ss is end = subst (λ k. Reaches k ss) (sym is) (reach-spare b spare ss end)

-- where the first stretch moves on
pub reach-moved : (b new : Buffer) (s t : Stretch) (rest : List Stretch) (n : ℕ) (alone : Bool) (len : ℕ) → n ≤ s.count → t.count ≡ s.count - n
    → t.place.skip ≤ length (bytes_from new t.place.position)
    → drop t.place.skip (bytes_from new t.place.position) ≡ drop (s.place.skip + n) (bytes_from b s.place.position)
    → alone ≡ (len == 0) → len ≡ length rest → (alone ≡ false → new ≡ b) → Reaches b (s ∷ rest) → Reaches new (t ∷ rest)
unfolding Reaches
reach-moved b new s t [] n alone len le count inside bytes is size same end =
    omega (arith, le, count, inside, end, ap length bytes, length-drop t.place.skip (bytes_from new t.place.position), length-drop (s.place.skip + n) (bytes_from b s.place.position))
reach-moved b new s t (r ∷ rest) n alone len le count inside bytes is size same end =
    let some : (len == 0) ≡ false = grind (arith, nat_tests, size) in
    subst (λ k. Reaches k (r ∷ rest)) (sym (same (is ∙ some))) end

-- a frame more in line reaches the end
pub frame_pushed_reaches : (b new : Buffer) (old : List Stretch) (s : Stretch) (frame : List ℕ) → Keeps b new frame → IsReadable b s.place.position → IsPinned b s.place.position
    → s.place.skip ≡ length (bytes_from b s.place.position) → s.count ≡ length (framed frame) → Reaches new (old ++ s ∷ [])
frame_pushed_reaches b new old s frame keeps at pin skip count =
    let k = keeps s.place.position at pin in
    reach-push new old s (omega (arith, ap length k.bytes, length-append (bytes_from b s.place.position) (framed frame), skip, count))

pub frame_joined_reaches : (b new : Buffer) (old after : List Stretch) (n : ℕ) (frame : List ℕ) → Keeps b new frame → AreSpans b old → IsLonger b old after n → n ≡ length (framed frame) → Reaches new after
frame_joined_reaches b new old after n frame keeps all l count =
    let s = l.last in
    let last = are-last b l.front (s ∷ []) (subst (AreSpans b) l.before all) in
    let k = keeps s.place.position last.0.1.boundary last.0.1.pinned in
    let end : s.place.skip + (s.count + n) ≡ length (bytes_from new s.place.position) =
    omega (arith, ap length k.bytes, length-append (bytes_from b s.place.position) (framed frame), l.end, count) in
    subst (Reaches new) (sym l.after) (reach-push new l.front (record s { count = s.count + n }) end)
