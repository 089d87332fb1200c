-- The fields hold the list of frames: reading, appending and dropping.
use Rattle.std.proofs.Common.{◌≡◌, ℕ, zero, suc, ◌+◌, ◌-◌, ◌*◌, ◌<◌, ◌≤◌, ◌^◌, List, [], ◌∷◌, ◌++◌, length, take, drop, refl, sym, ap, subst, ◌∙◌, arith}
use Rattle.std.specs.List.{AllByRecursion, flat_map}
use Rattle.std.proofs.lemmas.Grind.{common_steps}
use Rattle.std.proofs.lemmas.List.{length-append, length-drop, length-take-le, take-append-drop, drop_at, append-nil}
use Rattle.std.proofs.Math.Seq.{take-add}
use Rattle.std.proofs.lemmas.List.Concat.{flat_map-append, flat_map-cons}
use Rattle.byteorder.specs.Endian.{big_bytes}
use Rattle.byteorder.specs.Numbers.{length-bytes_high_first}
use Rattle.rs_frame.specs.Framed.{framed}
use Rattle.position.specs.Boundaries.{pos_by}
use Rattle.replay_buffer.specs.Laid.{Begins, frames_in, laid, laid_len, length_in, prefix_in, prefix_len}
use Rattle.replay_buffer.specs.Storage.{Stores}
use Rattle.replay_buffer.proofs.Boundaries.{at_index}
use Rattle.replay_buffer.proofs.Prefixed.{few-laid, first, length-laid, prefix-least}

length-prefix : (f : List ℕ) → length (big_bytes 3 (length f)) ≡ 3
length-prefix f = length-bytes_high_first 3 (length f)

pub length-framed : (f : List ℕ) → length (framed f) ≡ 3 + length f
length-framed f = omega (arith, length-append (big_bytes 3 (length f)) f, length-prefix f)

pub framed_all-push : (fs : List (List ℕ)) (f : List ℕ) → flat_map framed (fs ++ f ∷ []) ≡ flat_map framed fs ++ framed f
framed_all-push fs f = flat_map-append framed fs (f ∷ []) ∙ ap (λ t. flat_map framed fs ++ t) (append-nil (framed f))

pub length-framed_all : (fs : List (List ℕ)) → length (flat_map framed fs) ≡ pos_by length fs + 3 * length fs
unfolding pos_by
length-framed_all [] = refl
length-framed_all (f ∷ fs) = grind (arith, common_steps, length-framed f, length-framed_all fs)

-- the same as they lie
laid_all-push : (fs : List (List ℕ)) (f : List ℕ) → flat_map laid (fs ++ f ∷ []) ≡ flat_map laid fs ++ laid f
laid_all-push fs f = flat_map-append laid fs (f ∷ []) ∙ ap (λ t. flat_map laid fs ++ t) (append-nil (laid f))

pub laid_len-push : (fs : List (List ℕ)) (f : List ℕ) → laid_len (fs ++ f ∷ []) ≡ laid_len fs + (prefix_len (length f) + length f)
laid_len-push fs f = omega (arith, ap length (laid_all-push fs f), length-append (flat_map laid fs) (laid f), length-laid f)

-- each frame is read from the bytes, one after the other
read_again : (fs : List (List ℕ)) → AllByRecursion (λ f. 6 ≤ length f) fs → AllByRecursion (λ f. length f < 2 ^ 24) fs → frames_in (length fs) (flat_map laid fs) ≡ fs
read_again [] long short = refl
read_again (f ∷ fs) long short =
    let rest = flat_map laid fs in
    let bytes = laid f ++ rest in
    let begins : Begins bytes f = record { rest = rest; is = refl; longer = long.0; shorter = short.0 } in
    let one = first bytes f begins in
    let frame : take (length_in bytes) (drop (prefix_in bytes) bytes) ≡ f = (λ i. take (one.len i) (drop (one.prefix i) bytes)) ∙ one.frame in
    let left : drop (prefix_in bytes + length_in bytes) bytes ≡ rest = (λ i. drop (one.prefix i + one.len i) bytes) ∙ one.left in
    let more : frames_in (length fs) (drop (prefix_in bytes + length_in bytes) bytes) ≡ fs = ap (frames_in (length fs)) left ∙ read_again fs long.1 short.1 in
    ap (frames_in (suc (length fs))) (flat_map-cons laid f fs) ∙ (λ i. frame i ∷ more i)

pub length-frames_in : (n : ℕ) (bytes : List ℕ) → length (frames_in n bytes) ≡ n
length-frames_in zero bytes = refl
length-frames_in (suc n) bytes = omega (arith, length-frames_in n (drop (prefix_in bytes + length_in bytes) bytes))

-- what is stored is what is read
pub record Reads (n : ℕ) (bytes : List ℕ) (fs : List (List ℕ)) : Type 0 where
  pub stored : Stores bytes (frames_in n bytes)
  pub same : frames_in n bytes ≡ fs

reads : (n : ℕ) (bytes : List ℕ) (fs : List (List ℕ)) → n ≡ length fs → Stores bytes fs → Reads n bytes fs
reads n bytes fs many s =
    let same : frames_in n bytes ≡ fs = (λ i. frames_in (many i) (s.bytes_are i)) ∙ read_again fs s.longer s.shorter in
    record { stored = subst (Stores bytes) (sym same) s; same = same }

pub all_push : {X : Type 0} (P : X → Type 0) (xs : List X) (x : X) → AllByRecursion P xs → P x → AllByRecursion P (xs ++ x ∷ [])
all_push P [] x all one = (one, tt)
all_push P (y ∷ xs) x all one = (all.0, all_push P xs x all.1 one)

pub all_drop : {X : Type 0} (P : X → Type 0) (xs : List X) (k : ℕ) → AllByRecursion P xs → AllByRecursion P (drop k xs)
all_drop P xs zero all = all
all_drop P [] (suc k) all = all
all_drop P (x ∷ xs) (suc k) all = all_drop P xs k all.1

pub all_take : {X : Type 0} (P : X → Type 0) (xs : List X) (k : ℕ) → AllByRecursion P xs → AllByRecursion P (take k xs)
all_take P xs zero all = tt
all_take P [] (suc k) all = tt
all_take P (x ∷ xs) (suc k) all = (all.0, all_take P xs k all.1)

-- the fields once a frame was appended
pub Stores-append : (n : ℕ) (bytes more : List ℕ) (fs : List (List ℕ)) (f : List ℕ) → Stores bytes fs → n ≡ length fs + 1 → more ≡ bytes ++ laid f
    → 6 ≤ length f → length f < 2 ^ 24 → Reads n more (fs ++ f ∷ [])
Stores-append n bytes more fs f s many m long short = reads n more (fs ++ f ∷ []) (omega (arith, many, length-append fs (f ∷ []))) (record {
  bytes_are = m ∙ ap (λ b. b ++ laid f) s.bytes_are ∙ sym (laid_all-push fs f);
  longer = all_push (λ g. 6 ≤ length g) fs f s.longer long;
  shorter = all_push (λ g. length g < 2 ^ 24) fs f s.shorter short;
})

-- the frames from one on lie after those before it
pub framed_all-drop : (fs : List (List ℕ)) (m : ℕ) → m ≤ length fs → drop (pos_by length (take m fs) + 3 * m) (flat_map framed fs) ≡ flat_map framed (drop m fs)
framed_all-drop fs m le =
    let parts : flat_map framed fs ≡ flat_map framed (take m fs) ++ flat_map framed (drop m fs) = ap (flat_map framed) (sym (take-append-drop m fs)) ∙ flat_map-append framed (take m fs) (drop m fs) in
    let len : length (flat_map framed (take m fs)) ≡ pos_by length (take m fs) + 3 * m = omega (arith, length-framed_all (take m fs), length-take-le m fs le) in
    ap (drop (pos_by length (take m fs) + 3 * m)) parts ∙ drop_at (flat_map framed (take m fs)) (flat_map framed (drop m fs)) (pos_by length (take m fs) + 3 * m) len

-- so they do as they lie
pub laid_parts : (fs : List (List ℕ)) (m : ℕ) → laid_len fs ≡ laid_len (take m fs) + laid_len (drop m fs)
laid_parts fs m =
    ap laid_len (sym (take-append-drop m fs)) ∙ ap length (flat_map-append laid (take m fs) (drop m fs)) ∙ length-append (flat_map laid (take m fs)) (flat_map laid (drop m fs))

pub laid_len-parts : (fs : List (List ℕ)) (k j : ℕ) → laid_len (take (k + j) fs) ≡ laid_len (take k fs) + laid_len (take j (drop k fs))
laid_len-parts fs k j =
    ap laid_len (take-add k j fs) ∙ ap length (flat_map-append laid (take k fs) (take j (drop k fs))) ∙ length-append (flat_map laid (take k fs)) (flat_map laid (take j (drop k fs)))

pub laid_all-drop : (fs : List (List ℕ)) (m : ℕ) → drop (laid_len (take m fs)) (flat_map laid fs) ≡ flat_map laid (drop m fs)
laid_all-drop fs m =
    let parts : flat_map laid fs ≡ flat_map laid (take m fs) ++ flat_map laid (drop m fs) = ap (flat_map laid) (sym (take-append-drop m fs)) ∙ flat_map-append laid (take m fs) (drop m fs) in
    ap (drop (laid_len (take m fs))) parts ∙ drop_at (flat_map laid (take m fs)) (flat_map laid (drop m fs)) (laid_len (take m fs)) refl

-- the fields once the first frames are gone
pub Stores-drop : (n size : ℕ) (bytes left : List ℕ) (fs : List (List ℕ)) (k : ℕ) → Stores bytes fs → n ≡ length fs - k
    → size ≡ laid_len (take k fs) → left ≡ drop size bytes → Reads n left (drop k fs)
Stores-drop n size bytes left fs k s many is dropped = reads n left (drop k fs) (omega (arith, many, length-drop k fs)) (record {
  bytes_are = dropped ∙ (λ i. drop (is i) (s.bytes_are i)) ∙ laid_all-drop fs k;
  longer = all_drop _ fs k s.longer;
  shorter = all_drop _ fs k s.shorter;
})

-- the frame at an index lies at its place
pub record Measured (bytes : List ℕ) (fs : List (List ℕ)) (k before : ℕ) : Type 0 where
  pub frame : List ℕ
  pub begins : Begins (drop before bytes) frame
  pub rest : drop k fs ≡ frame ∷ drop (suc k) fs
  pub next : pos_by length (take (k + 1) fs) ≡ pos_by length (take k fs) + length frame
  pub lies : laid_len (take (k + 1) fs) ≡ laid_len (take k fs) + (prefix_len (length frame) + length frame)

pub measured : (bytes : List ℕ) (fs : List (List ℕ)) (k before : ℕ) → Stores bytes fs → k < length fs → before ≡ laid_len (take k fs) → Measured bytes fs k before
measured bytes fs k before s lt is =
    let a = at_index fs k lt in
    let rest = flat_map laid (drop (suc k) fs) in
    let long = subst (AllByRecursion (λ f. 6 ≤ length f)) a.rest (all_drop _ fs k s.longer) in
    let short = subst (AllByRecursion (λ f. length f < 2 ^ 24)) a.rest (all_drop _ fs k s.shorter) in
    let left : drop before bytes ≡ laid a.frame ++ rest =
    (λ i. drop (is i) (s.bytes_are i)) ∙ laid_all-drop fs k ∙ ap (flat_map laid) a.rest ∙ flat_map-cons laid a.frame (drop (suc k) fs) in
    record {
      frame = a.frame;
      begins = record { rest = rest; is = left; longer = long.0; shorter = short.0 };
      rest = a.rest;
      next = a.sum;
      lies = ap laid_len (a.taken) ∙ laid_len-push (take k fs) a.frame;
    }

pub few_frames : (fs : List (List ℕ)) → AllByRecursion (λ f. 6 ≤ length f) fs → 6 * length fs ≤ pos_by length fs
unfolding pos_by
few_frames [] all = omega arith
few_frames (f ∷ fs) all = omega (arith, all.0, few_frames fs all.1)

-- as they lie they have at least a byte more each, and at most a fifth more bytes
pub laid_least : (fs : List (List ℕ)) → pos_by length fs + length fs ≤ laid_len fs
unfolding pos_by
laid_least [] = omega arith
laid_least (f ∷ fs) =
    omega (arith, ap length (flat_map-cons laid f fs), length-append (laid f) (flat_map laid fs), length-laid f, prefix-least (length f), laid_least fs)

pub few_laid : (fs : List (List ℕ)) → AllByRecursion (λ f. 6 ≤ length f) fs → 5 * laid_len fs ≤ 6 * pos_by length fs
unfolding pos_by
few_laid [] all = omega arith
few_laid (f ∷ fs) all =
    omega (arith, ap length (flat_map-cons laid f fs), length-append (laid f) (flat_map laid fs), few-laid f all.0, few_laid fs all.1)
