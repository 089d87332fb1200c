-- Sums over frames of what each says on one stream.
use Rattle.std.proofs.Common.{◌≡◌, ◌≤◌, ◌+◌, ◌-◌, ◌==◌, ◌&&◌, ℕ, zero, suc, Bool, true, false, not, cond, if◌then◌else◌, List, [], ◌∷◌, ◌++◌, refl, ap, ◌∙◌, arith}
use Rattle.std.specs.Prelude.{nat_le}
use Rattle.rs_wire.specs.declared.message.Message.{Message}
use Rattle.rs_frame.specs.declared.frame.Frame.{Frame}
use Rattle.rs_frame.specs.declared.frame.Frame.TheVariants as frame
use Rattle.rs_frame.specs.declared.frame.Request.{Request}
use Rattle.rs_frame.specs.Spelling.{length_of}
use Rattle.fragment.specs.Splitting.{first_fragment, first_part, fragments, left_part, rest_after, room_of}
use Rattle.stream_model.specs.Arriving.{or_zero}
use Rattle.stream_model.specs.Streams.{one_if}
use Rattle.stream_model.specs.Turns.{needs_credit}
use Rattle.session_model.specs.Frames.{in_fragments}
use Rattle.session_model.specs.Lists.{IsPrefix}

unfoldable pub total : (Frame → ℕ) → List Frame → ℕ
total of [] = 0
total of (f ∷ fs) = of f + total of fs

pub total_more : (of : Frame → ℕ) (xs ys : List Frame) → total of (xs ++ ys) ≡ total of xs + total of ys
unfolding total
total_more of [] ys = omega arith
total_more of (x ∷ xs) ys = omega (arith, total_more of xs ys)

-- ---- what a frame says on the stream s

-- how many items it grants, by REQUEST_N or with a request
abbrev pub gives : ℕ → Frame → ℕ
gives s (frame.Request r) = if r.stream == s then or_zero r.initial else 0
gives s (frame.RequestN q n) = if q == s then n else 0
gives s f = 0

-- whether it makes a message of PAYLOAD frames whole
abbrev pub ends_message : ℕ → Frame → ℕ
ends_message s (frame.Payload q follows complete next message) = one_if ((q == s) && not follows)
ends_message s f = 0

-- whether it asks for the stream
abbrev pub asks : ℕ → Frame → ℕ
asks s (frame.Request r) = one_if (r.stream == s)
asks s f = 0

-- whether it does so in fragments
abbrev pub asks_in_parts : ℕ → Frame → ℕ
asks_in_parts s (frame.Request r) = one_if ((r.stream == s) && r.follows)
asks_in_parts s f = 0

-- whether it asks for one that needs no credit
abbrev pub asks_without : ℕ → Frame → ℕ
asks_without s (frame.Request r) = one_if ((r.stream == s) && not (needs_credit r.kind))
asks_without s f = 0

-- ---- all of them

pub record Counts : Type 0 where
  pub given : ℕ
  pub ended : ℕ
  pub asked : ℕ
  pub parts : ℕ
  pub without : ℕ

unfoldable pub counts : ℕ → List Frame → Counts
counts s fs = record {
  given = total (gives s) fs;
  ended = total (ends_message s) fs;
  asked = total (asks s) fs;
  parts = total (asks_in_parts s) fs;
  without = total (asks_without s) fs;
}

abbrev pub plus : Counts → Counts → Counts
plus a b = record {
  given = a.given + b.given;
  ended = a.ended + b.ended;
  asked = a.asked + b.asked;
  parts = a.parts + b.parts;
  without = a.without + b.without;
}

abbrev pub none : Counts
none = record { given = 0; ended = 0; asked = 0; parts = 0; without = 0 }

pub counts_more : (s : ℕ) (xs ys : List Frame) → counts s (xs ++ ys) ≡ plus (counts s xs) (counts s ys)
unfolding counts
counts_more s xs ys =
    rw (total_more (gives s) xs ys, total_more (ends_message s) xs ys, total_more (asks s) xs ys, total_more (asks_in_parts s) xs ys, total_more (asks_without s) xs ys) refl

pub plus_none : (a : Counts) → plus a none ≡ a
plus_none a =
    let given : a.given + 0 ≡ a.given = omega arith in
    let ended : a.ended + 0 ≡ a.ended = omega arith in
    let asked : a.asked + 0 ≡ a.asked = omega arith in
    let parts : a.parts + 0 ≡ a.parts = omega arith in
    let without : a.without + 0 ≡ a.without = omega arith in
    rw (given, ended, asked, parts, without) refl

pub counts_none : (s : ℕ) → counts s [] ≡ none
unfolding counts total
counts_none s = refl

pub counts_one : (s : ℕ) (f : Frame) → counts s (f ∷ []) ≡ record { given = gives s f; ended = ends_message s f; asked = asks s f; parts = asks_in_parts s f; without = asks_without s f }
unfolding counts total
counts_one s f =
    let given : gives s f + 0 ≡ gives s f = omega arith in
    let ended : ends_message s f + 0 ≡ ends_message s f = omega arith in
    let asked : asks s f + 0 ≡ asks s f = omega arith in
    let parts : asks_in_parts s f + 0 ≡ asks_in_parts s f = omega arith in
    let without : asks_without s f + 0 ≡ asks_without s f = omega arith in
    rw (given, ended, asked, parts, without) refl

-- ---- fragments

-- a sum in which each payload counts that ends a message, and no other
payload_total : (of : Frame → ℕ) (last : ℕ → ℕ) → ((s : ℕ) (complete next : Bool) (m : Message) → of (frame.Payload s true complete next m) ≡ 0)
    → ((s : ℕ) (complete next : Bool) (m : Message) → of (frame.Payload s false complete next m) ≡ last s)
    → (n mtu s : ℕ) (complete next : Bool) (m : Message) → total of (fragments n mtu (frame.Payload s false complete next m)) ≡ last s
unfolding total fragments
payload_total of last idle ends zero mtu s complete next m = omega (arith, ends s complete next m)
payload_total of last idle ends (suc n) mtu s complete next m =
    let f = frame.Payload s false complete next m in
    elim (nat_le (length_of f) mtu) as (λ v. total of (cond v (f ∷ []) (first_fragment mtu f ∷ fragments n mtu (rest_after mtu f))) ≡ last s) [
      | true ↦ omega (arith, ends s complete next m)
      | false ↦ omega (arith, idle s false next (first_part (mtu - 6) m), payload_total of last idle ends n mtu s complete next (left_part (mtu - 6) m))
    ]

-- the counts of a payload, in however many fragments
abbrev pub ends_one : ℕ → ℕ → Counts
ends_one s q = record none { ended = one_if (q == s) }

idle_end : (s q : ℕ) → one_if ((q == s) && false) ≡ 0
idle_end s q = elim (q == s) as (λ v. one_if (v && false) ≡ 0) [ true ↦ refl | false ↦ refl ]

whole_end : (s q : ℕ) → one_if ((q == s) && true) ≡ one_if (q == s)
whole_end s q = elim (q == s) as (λ v. one_if (v && true) ≡ one_if v) [ true ↦ refl | false ↦ refl ]

pub fragments_count : (s n mtu q : ℕ) (complete next : Bool) (m : Message) → counts s (fragments n mtu (frame.Payload q false complete next m)) ≡ ends_one s q
unfolding counts
fragments_count s n mtu q complete next m =
    let given = payload_total (gives s) (λ i. 0) (λ i c x k. refl) (λ i c x k. refl) n mtu q complete next m in
    let ended = payload_total (ends_message s) (λ i. one_if (i == s)) (λ i c x k. idle_end s i) (λ i c x k. whole_end s i) n mtu q complete next m in
    let asked = payload_total (asks s) (λ i. 0) (λ i c x k. refl) (λ i c x k. refl) n mtu q complete next m in
    let parts = payload_total (asks_in_parts s) (λ i. 0) (λ i c x k. refl) (λ i c x k. refl) n mtu q complete next m in
    let without = payload_total (asks_without s) (λ i. 0) (λ i c x k. refl) (λ i c x k. refl) n mtu q complete next m in
    rw (given, ended, asked, parts, without) refl

pub payload_count : (s mtu q : ℕ) (complete next : Bool) (m : Message) → counts s (in_fragments mtu (frame.Payload q false complete next m)) ≡ ends_one s q
payload_count s mtu q complete next m =
    let f = frame.Payload q false complete next m in
    elim (mtu == 0) as (λ v. counts s (cond v (f ∷ []) (fragments (length_of f) mtu f)) ≡ ends_one s q) [
      | true ↦ counts_one s f ∙ rw (whole_end s q) refl
      | false ↦ fragments_count s (length_of f) mtu q complete next m
    ]

-- what goes out of a request: it, or its first fragment and then those of the rest
pub data Asking (r : Request) (fs : List Frame) : Type 0 where
  Whole : fs ≡ frame.Request r ∷ [] → Asking r fs
  Cut : (part rest : Message) (n mtu : ℕ) → fs ≡ frame.Request (record r { follows = true; complete = false; message = part }) ∷ fragments n mtu (frame.Payload r.stream false r.complete true rest) → Asking r fs

asking_by : (n mtu : ℕ) (r : Request) → Asking r (fragments n mtu (frame.Request r))
unfolding fragments
asking_by zero mtu r = Whole refl
asking_by (suc n) mtu r =
    let f = frame.Request r in
    elim (nat_le (length_of f) mtu) as (λ v. Asking r (cond v (f ∷ []) (first_fragment mtu f ∷ fragments n mtu (rest_after mtu f)))) [
      | true ↦ Whole refl
      | false ↦ Cut (first_part (room_of mtu f) r.message) (left_part (room_of mtu f) r.message) n mtu refl
    ]

pub asking : (mtu : ℕ) (r : Request) → Asking r (in_fragments mtu (frame.Request r))
asking mtu r = elim (mtu == 0) as (λ v. Asking r (cond v (frame.Request r ∷ []) (fragments (length_of (frame.Request r)) mtu (frame.Request r)))) [
  | true ↦ Whole refl
  | false ↦ asking_by (length_of (frame.Request r)) mtu r
]

-- a request asks once; where it goes out in parts, one message of payloads ends
pub record CountsAsking (s : ℕ) (r : Request) (fs : List Frame) : Type 0 where
  pub given : (counts s fs).given ≡ gives s (frame.Request r)
  pub asked : (counts s fs).asked ≡ asks s (frame.Request r)
  pub without : (counts s fs).without ≡ asks_without s (frame.Request r)
  pub ended : (counts s fs).ended ≤ (counts s fs).parts
  pub parts : (counts s fs).parts ≤ (counts s fs).asked

part_asks : (s q : ℕ) (follows : Bool) → one_if ((q == s) && follows) ≤ one_if (q == s)
part_asks s q true = elim (q == s) as (λ v. one_if (v && true) ≤ one_if v) [ true ↦ omega arith | false ↦ omega arith ]
part_asks s q false = elim (q == s) as (λ v. one_if (v && false) ≤ one_if v) [ true ↦ omega arith | false ↦ omega arith ]

cut_ends : (s q : ℕ) → one_if (q == s) ≤ one_if ((q == s) && true)
cut_ends s q = elim (q == s) as (λ v. one_if v ≤ one_if (v && true)) [ true ↦ omega arith | false ↦ omega arith ]

asking_counted : (s : ℕ) (r : Request) (fs : List Frame) → Asking r fs → CountsAsking s r fs
unfolding counts total
asking_counted s r fs (Whole e) = rw e (record { given = omega arith; asked = omega arith; without = omega arith; ended = omega arith; parts = omega (arith, part_asks s r.stream r.follows) })
asking_counted s r fs (Cut part rest n mtu e) =
    let tail = fragments_count s n mtu r.stream r.complete true rest in
    let given = ap (λ (c : Counts). c.given) tail in
    let ended = ap (λ (c : Counts). c.ended) tail in
    let asked = ap (λ (c : Counts). c.asked) tail in
    let parts = ap (λ (c : Counts). c.parts) tail in
    let without = ap (λ (c : Counts). c.without) tail in
    rw e (record { given = omega (arith, given); asked = omega (arith, asked); without = omega (arith, without); ended = omega (arith, ended, parts, cut_ends s r.stream); parts = omega (arith, asked, parts, part_asks s r.stream true) })

pub request_counted : (s mtu : ℕ) (r : Request) → CountsAsking s r (in_fragments mtu (frame.Request r))
request_counted s mtu r = asking_counted s r (in_fragments mtu (frame.Request r)) (asking mtu r)

-- the request itself says nothing on other streams
pub elsewhere_none : (s mtu : ℕ) (r : Request) → (r.stream == s) ≡ false → counts s (in_fragments mtu (frame.Request r)) ≡ none
unfolding counts
elsewhere_none s mtu r apart =
    let c = request_counted s mtu r in
    let fs = in_fragments mtu (frame.Request r) in
    let given : total (gives s) fs ≡ 0 = c.given ∙ rw apart refl in
    let asked : total (asks s) fs ≡ 0 = c.asked ∙ rw apart refl in
    let without : total (asks_without s) fs ≡ 0 = c.without ∙ rw apart refl in
    let few = c.parts in
    let parts : total (asks_in_parts s) fs ≡ 0 = omega (arith, few, asked) in
    let less = c.ended in
    let ended : total (ends_message s) fs ≡ 0 = omega (arith, less, parts) in
    rw (given, asked, without, parts, ended) refl

-- ---- prefixes

pub total_grows : (of : Frame → ℕ) (xs ys : List Frame) → IsPrefix xs ys → total of xs ≤ total of ys
total_grows of xs ys p = let whole = total_more of xs p.0 in let same = ap (total of) p.1 in omega (arith, whole, same)
