-- Bytes hold frames in one way, up to what can't be read.
use Rattle.std.proofs.Common.{◌≡◌, ℕ, ◌^◌, ◌<◌, ◌≤◌, List, [], ◌∷◌, ◌++◌, length, map, take, drop, refl, sym, ap, subst, ◌∙◌, append_assoc, arith}
use Rattle.std.specs.List.{flat_map, AllByRecursion}
use Rattle.std.proofs.lemmas.List.{append-nil, length-append, take_all, take_at, drop_at}
use Rattle.std.proofs.lemmas.List.Concat.{flat_map-cons}
use Rattle.byteorder.specs.Endian.{big_bytes, big_number}
use Rattle.rs_frame.specs.declared.frame.Frame.{Frame}
use Rattle.rs_frame.specs.Spelling.{IsSpellable, Spells, canonical}
use Rattle.rs_frame.proofs.Decoded.{none_broken}
use Rattle.rs_frame.proofs.Fields.{number_again, rest_again}
use Rattle.rs_frame.proofs.Whole.{canonical_spells, one_frame}
use Rattle.rs_chunk.proofs.Lengths.{length-canonical}
use Rattle.rs_frame.specs.Framed.{framed, framed_all, framed_frame}
use Rattle.rs_chunk.specs.Stream.{HasFrame, after_frame, first_frame, first_length}
use Rattle.capture.specs.declared.TheConstants.{MOST_CAPTURE}
use Rattle.capture.specs.declared.lines.BadFrame.{BadFrame}
use Rattle.capture.specs.declared.lines.BadFrame.TheVariants as bads
use Rattle.capture.specs.Captured.{AreSpelled, Holds, IsBadAt, IsCapture, IsWrong}

-- no frame can be read at the front
abbrev Stops : List ℕ → Type 0
Stops bytes = HasFrame bytes → (f : Frame) → Spells f (first_frame bytes) → ⊥

none_stops : Stops []
none_stops has f spells = absurd (omega (arith, has.0))

wrong_stops : (bytes : List ℕ) (bad : BadFrame) → IsWrong bytes bad → Stops bytes
wrong_stops bytes (bads.Breaks fault) wrong has f spells = absurd (cc (wrong.1, none_broken (first_frame bytes) (f, spells)))
wrong_stops bytes bads.NotWhole none has f spells = absurd (none has)

-- the frame in front is found again, and what follows it
record Front (frame rest bytes : List ℕ) : Type 0 where
  has : HasFrame bytes
  first : first_frame bytes ≡ frame
  after : after_frame bytes ≡ rest

front : (frame rest : List ℕ) → length frame < 2 ^ 24 → Front frame rest (framed frame ++ rest)
front frame rest fits =
    let n = length frame in
    let bytes = framed frame ++ rest in
    let same : bytes ≡ big_bytes 3 n ++ (frame ++ rest) = append_assoc (big_bytes 3 n) frame rest in
    let len : first_length bytes ≡ n = ap (big_number 3) same ∙ number_again 3 n (frame ++ rest) fits in
    let behind : drop 3 bytes ≡ frame ++ rest = ap (drop 3) same ∙ rest_again 3 n (frame ++ rest) in
    record {
      has = (omega arith, omega (arith, len, length-append frame rest));
      first = ap (λ (k : ℕ). take k (drop 3 bytes)) len ∙ ap (take n) behind ∙ take_at frame rest n refl;
      after = ap (λ (k : ℕ). drop k (drop 3 bytes)) len ∙ ap (drop n) behind ∙ drop_at frame rest n refl;
    }

cons_front : (b : List ℕ) (bs : List (List ℕ)) (r : List ℕ) → flat_map framed (b ∷ bs) ++ r ≡ framed b ++ (flat_map framed bs ++ r)
cons_front b bs r = ap (λ (t : List ℕ). t ++ r) (flat_map-cons framed b bs) ∙ append_assoc (framed b) (flat_map framed bs) r

-- where a frame is read, it does not stop
not_stopped : (bytes b rest : List ℕ) (f : Frame) → Stops bytes → length b < 2 ^ 24 → Spells f b → bytes ≡ framed b ++ rest → ⊥
not_stopped bytes b rest f stops fits spells e =
    let same = front b rest fits in
    subst Stops e stops same.has f (subst (λ (t : List ℕ). Spells f t) (sym same.first) spells)

abbrev Fit : List (List ℕ) → Type 0
Fit bs = AllByRecursion (λ b. length b < 2 ^ 24) bs

agree : (fs gs : List Frame) (bs cs : List (List ℕ)) (r s : List ℕ) → AreSpelled fs bs → AreSpelled gs cs → Fit bs → Fit cs → Stops r → Stops s → flat_map framed bs ++ r ≡ flat_map framed cs ++ s → (fs ≡ gs) × (r ≡ s)
unfolding AreSpelled
agree [] [] [] [] r s p q a b no_r no_s e = (refl, e)
agree [] (g ∷ gs) [] (c ∷ cs) r s p q a b no_r no_s e = absurd (not_stopped r c (flat_map framed cs ++ s) g no_r b.0 q.0 (e ∙ cons_front c cs s))
agree (f ∷ fs) [] (d ∷ bs) [] r s p q a b no_r no_s e = absurd (not_stopped s d (flat_map framed bs ++ r) f no_s a.0 p.0 (sym e ∙ cons_front d bs r))
agree (f ∷ fs) (g ∷ gs) (d ∷ bs) (c ∷ cs) r s p q a b no_r no_s e =
    let x = front d (flat_map framed bs ++ r) a.0 in
    let y = front c (flat_map framed cs ++ s) b.0 in
    let same : framed d ++ (flat_map framed bs ++ r) ≡ framed c ++ (flat_map framed cs ++ s) = sym (cons_front d bs r) ∙ e ∙ cons_front c cs s in
    let one : d ≡ c = sym x.first ∙ ap first_frame same ∙ y.first in
    let rest = agree fs gs bs cs r s p.1 q.1 a.1 b.1 no_r no_s (sym x.after ∙ ap after_frame same ∙ y.after) in
    let frame : f ≡ g = one_frame f g c (subst (λ (t : List ℕ). Spells f t) one p.0) q.0 in
    (cc (frame, rest.0), rest.1)
agree [] gs (d ∷ bs) cs r s p q a b no_r no_s e = absurd p
agree (f ∷ fs) gs [] cs r s p q a b no_r no_s e = absurd p
agree fs [] bs (c ∷ cs) r s p q a b no_r no_s e = absurd q
agree fs (g ∷ gs) bs [] r s p q a b no_r no_s e = absurd q

one_way : (bytes : List ℕ) (fs gs : List Frame) (r s : List ℕ) → Holds bytes fs r → Holds bytes gs s → Stops r → Stops s → (fs ≡ gs) × (r ≡ s)
one_way bytes fs gs r s p q no_r no_s = agree fs gs p.spellings q.spellings r s p.spelled q.spelled p.cut.fit q.cut.fit no_r no_s (sym p.cut.whole ∙ q.cut.whole)

pub one : (bytes : List ℕ) (fs gs : List Frame) → IsCapture bytes fs → IsCapture bytes gs → fs ≡ gs
one bytes fs gs p q = (one_way bytes fs gs [] [] p.holds q.holds none_stops none_stops).0

pub either : (bytes : List ℕ) (place : ℕ) (bad : BadFrame) (fs gs : List Frame) → IsCapture bytes fs → IsBadAt bytes place bad gs → ⊥
either bytes place bad fs gs p q =
    let all : take MOST_CAPTURE bytes ≡ bytes = take_all MOST_CAPTURE bytes p.short in
    let holds : Holds bytes gs q.rest = subst (λ (t : List ℕ). Holds t gs q.rest) all q.holds in
    let same : [] ≡ q.rest = (one_way bytes fs gs [] q.rest p.holds holds none_stops (wrong_stops q.rest bad q.wrong)).1 in
    absurd (omega (arith, q.place_is, q.there, ap length same, ap length all))

one_wrong : (bytes : List ℕ) (a b : BadFrame) → IsWrong bytes a → IsWrong bytes b → a ≡ b
one_wrong bytes (bads.Breaks fault) (bads.Breaks other) p q = cc (p.1, q.1)
one_wrong bytes (bads.Breaks fault) bads.NotWhole p q = absurd (q p.0)
one_wrong bytes bads.NotWhole (bads.Breaks other) p q = absurd (p q.0)
one_wrong bytes bads.NotWhole bads.NotWhole p q = refl

pub one_place : (bytes : List ℕ) (p q : ℕ) (r s : BadFrame) (fs gs : List Frame) → IsBadAt bytes p r fs → IsBadAt bytes q s gs → (p ≡ q) × (r ≡ s) × (fs ≡ gs)
one_place bytes p q r s fs gs a b =
    let same = one_way (take MOST_CAPTURE bytes) fs gs a.rest b.rest a.holds b.holds (wrong_stops a.rest r a.wrong) (wrong_stops b.rest s b.wrong) in
    (omega (arith, a.place_is, b.place_is, ap length same.1), one_wrong b.rest r s (subst (λ (t : List ℕ). IsWrong t r) same.1 a.wrong) b.wrong, same.0)

canonical_frames : (frames : List Frame) → framed_all frames ≡ flat_map framed (map canonical frames)
canonical_frames [] = refl
canonical_frames (f ∷ frames) = flat_map-cons framed_frame f frames ∙ ap (λ (t : List ℕ). framed_frame f ++ t) (canonical_frames frames) ∙ sym (flat_map-cons framed (canonical f) (map canonical frames))

canonical_spelled : (frames : List Frame) → AllByRecursion IsSpellable frames → AreSpelled frames (map canonical frames)
unfolding AreSpelled
canonical_spelled [] all = tt
canonical_spelled (f ∷ frames) all = (canonical_spells f all.0.fields, canonical_spelled frames all.1)

canonical_fit : (frames : List Frame) → AllByRecursion IsSpellable frames → Fit (map canonical frames)
canonical_fit [] all = tt
canonical_fit (f ∷ frames) all = (omega (arith, length-canonical f, all.0.short), canonical_fit frames all.1)

pub framed_capture : (frames : List Frame) → AllByRecursion IsSpellable frames → length (framed_all frames) ≤ MOST_CAPTURE → IsCapture (framed_all frames) frames
framed_capture frames all short =
    record {
      short = short;
      holds = record {
        spellings = map canonical frames;
        spelled = canonical_spelled frames all;
        cut = record { whole = canonical_frames frames ∙ sym (append-nil (flat_map framed (map canonical frames))); fit = canonical_fit frames all };
      };
    }
