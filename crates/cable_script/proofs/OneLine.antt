-- A text is that of one line.
use Rattle.std.proofs.lemmas.Grind.{common_steps}
use Rattle.std.proofs.Common.{◌≡◌, ℕ, Bool, true, false, List, ◌∷◌, ◌++◌, Option, Some, None, refl, ap, subst, sym, ◌∙◌, arith, append-nil}
use Rattle.std.specs.Prelude.{codes, decimal, IfSome, is_some}
use Rattle.std.proofs.lemmas.List.{append_assoc, append_cancel_right}
use Rattle.hex.specs.Hex.{IsBytes}
use Rattle.rs_wire.specs.Calls.{is_streamed}
use Rattle.rs_wire.specs.declared.words.Side.{Side}
use Rattle.rs_wire.specs.declared.words.Kind.{Kind}
use Rattle.rs_wire.specs.declared.call.Call.{Call}
use Rattle.rs_wire.specs.declared.call.Call.TheVariants as call
use Rattle.rs_wire.specs.declared.message.Message.{Message}
use Rattle.cable_script.specs.declared.line.Line.{Line}
use Rattle.cable_script.specs.declared.line.Line.TheVariants as lines
use Rattle.cable_script.specs.Spoken.{kind_word, last_text, next_word, numbered, side_word}
use Rattle.cable_script.specs.Line.{IsAmount, IsLine, IsPayload, IsSayable, call_words, many_words, part_text, payload_text, text_of, with_initial, with_metadata}
use Rattle.cable_script.specs.Script.{is_passed}
use Rattle.cable_script.specs.Words.{HasNo}
use Rattle.cable_script.proofs.Cuts.{has_cut, one_cut, part_has_none, payload_spaceless}
use Rattle.cable_script.proofs.Spaced.{code_small, one_amount, same_amounts, same_numbers}
use Rattle.plain_text.proofs.Hex.{one_hex}
use Rattle.plain_text.proofs.Numbers.{decimal_same}

-- ---- a message

one_part : (a b : List ℕ) → IsBytes a → IsBytes b → part_text a ≡ part_text b → a ≡ b
one_part a b h k e = one_hex 45 a b h k e

same_parts : (m n : Option (List ℕ)) (x y : List ℕ) → IfSome m IsBytes → IfSome n IsBytes → IsBytes x → IsBytes y → with_metadata m (part_text x) ≡ with_metadata n (part_text y) → (m ≡ n) × (x ≡ y)
same_parts None None x y hm hn hx hy e = (refl, one_part x y hx hy e)
same_parts None (Some b) x y hm hn hx hy e = absurd (has_cut 58 (part_text b) (part_text y) (subst (λ (w : List ℕ). HasNo 58 w) e (part_has_none 58 x refl hx)))
same_parts (Some a) None x y hm hn hx hy e = absurd (has_cut 58 (part_text a) (part_text x) (subst (λ (w : List ℕ). HasNo 58 w) (sym e) (part_has_none 58 y refl hy)))
same_parts (Some a) (Some b) x y hm hn hx hy e =
    let same = one_cut 58 (part_text a) (part_text b) (part_text x) (part_text y) (part_has_none 58 a refl hm) (part_has_none 58 b refl hn) e in
    (ap Some (one_part a b hm hn same.0), one_part x y hx hy same.1)

one_payload : (m n : Message) → IsPayload m → IsPayload n → payload_text m ≡ payload_text n → m ≡ n
one_payload m n h k e =
    let same = same_parts m.metadata n.metadata m.content n.content h.metadata k.metadata h.content k.content e in
    ap (λ (p : Option (List ℕ)). record { metadata = p; content = m.content }) same.0 ∙ ap (λ (x : List ℕ). record { metadata = n.metadata; content = x }) same.1

-- ---- a request

same_kind : (k l : Kind) (x y : List ℕ) → kind_word k ++ 32 ∷ x ≡ kind_word l ++ 32 ∷ y → (k ≡ l) × (x ≡ y)
same_kind k l x y e = grind (arith, common_steps)

same_initial : (i j : Option ℕ) (x y : List ℕ) → is_some i ≡ is_some j → IfSome i IsAmount → IfSome j IsAmount → with_initial i x ≡ with_initial j y → (i ≡ j) × (x ≡ y)
same_initial None None x y some h k e = (refl, e)
same_initial None (Some b) x y some h k e = absurd cc
same_initial (Some a) None x y some h k e = absurd cc
same_initial (Some a) (Some b) x y some h k e = let same = same_amounts a b x y h k e in (ap Some same.0, same.1)

-- a text without a space does not end with a word more
same_last : (x y : Bool) (v w : List ℕ) → HasNo 32 v → HasNo 32 w → v ++ last_text x ≡ w ++ last_text y → (x ≡ y) × (v ≡ w)
same_last true true v w h k e = (refl, append_cancel_right v w (codes " last") e)
same_last true false v w h k e = absurd (has_cut 32 v (codes "last") (subst (λ (t : List ℕ). HasNo 32 t) (sym (e ∙ append-nil w)) k))
same_last false true v w h k e = absurd (has_cut 32 w (codes "last") (subst (λ (t : List ℕ). HasNo 32 t) (sym (append-nil v) ∙ e) h))
same_last false false v w h k e = (refl, sym (append-nil v) ∙ e ∙ append-nil w)

one_request : (k l : Kind) (i j : Option ℕ) (m n : Message) (x y : Bool) → IsSayable (call.Request k i m x) → IsSayable (call.Request l j n y) → call_words (call.Request k i m x) ≡ call_words (call.Request l j n y) → call.Request k i m x ≡ call.Request l j n y
one_request k l i j m n x y h g e =
    let kinds = same_kind k l (with_initial i (payload_text m ++ last_text x)) (with_initial j (payload_text n ++ last_text y)) e in
    let some : is_some i ≡ is_some j = h.0 ∙ (ap is_streamed kinds.0 ∙ sym g.0) in
    let initials = same_initial i j (payload_text m ++ last_text x) (payload_text n ++ last_text y) some h.1 g.1 kinds.1 in
    let ends = same_last x y (payload_text m) (payload_text n) (payload_spaceless m h.3) (payload_spaceless n g.3) initials.1 in
    let messages = one_payload m n h.3 g.3 ends.1 in
    let a : k ≡ l = kinds.0 in
    let b : i ≡ j = initials.0 in
    let c : x ≡ y = ends.0 in
    let d : m ≡ n = messages in
    cc

-- ---- a call on a stream

same_next : (x y : Bool) (s t : ℕ) (v w : List ℕ) → numbered (next_word x) s ++ 32 ∷ v ≡ numbered (next_word y) t ++ 32 ∷ w → (x ≡ y) × (decimal s ++ 32 ∷ v ≡ decimal t ++ 32 ∷ w)
same_next true true s t v w e = (refl, cc)
same_next true false s t v w e = grind (arith, common_steps)
same_next false true s t v w e = grind (arith, common_steps)
same_next false false s t v w e = (refl, cc)

one_next : (s t : ℕ) (m n : Message) (x y : Bool) → IsSayable (call.Next s m x) → IsSayable (call.Next t n y) → call_words (call.Next s m x) ≡ call_words (call.Next t n y) → call.Next s m x ≡ call.Next t n y
one_next s t m n x y h g e =
    let words = same_next x y s t (payload_text m) (payload_text n) e in
    let streams = same_amounts s t (payload_text m) (payload_text n) h.0 g.0 words.1 in
    let messages = one_payload m n h.1 g.1 streams.1 in
    let a : s ≡ t = streams.0 in
    let b : x ≡ y = words.0 in
    let c : m ≡ n = messages in
    cc

one_fail : (s t a b : ℕ) (x y : List ℕ) → IsSayable (call.Fail s a x) → IsSayable (call.Fail t b y) → call_words (call.Fail s a x) ≡ call_words (call.Fail t b y) → call.Fail s a x ≡ call.Fail t b y
one_fail s t a b x y h g e =
    let texts : (decimal s ++ 32 ∷ decimal a) ++ 32 ∷ part_text x ≡ (decimal t ++ 32 ∷ decimal b) ++ 32 ∷ part_text y = cc in
    let streams = same_amounts s t (decimal a ++ 32 ∷ part_text x) (decimal b ++ 32 ∷ part_text y) h.0 g.0 (sym (append_assoc (decimal s) (32 ∷ decimal a) (32 ∷ part_text x)) ∙ texts ∙ append_assoc (decimal t) (32 ∷ decimal b) (32 ∷ part_text y)) in
    let codes_are = same_numbers a b (part_text x) (part_text y) (code_small a h.1) (code_small b g.1) streams.1 in
    let contents = one_part x y h.2 g.2 codes_are.1 in
    let p : s ≡ t = streams.0 in
    let q : a ≡ b = codes_are.0 in
    cc

one_call : (c d : Call) → IsSayable c → IsSayable d → call_words c ≡ call_words d → c ≡ d
one_call (call.Request k i m x) (call.Request l j n y) h g e = one_request k l i j m n x y h g e
one_call (call.Next s m x) (call.Next t n y) h g e = one_next s t m n x y h g e
one_call (call.Done s) (call.Done t) h g e = ap call.Done (one_amount s t h g cc)
one_call (call.Grant s a) (call.Grant t b) h g e =
    let streams = same_amounts s t (decimal a) (decimal b) h.0 g.0 cc in
    let numbers = one_amount a b h.1 g.1 streams.1 in
    let p : s ≡ t = streams.0 in
    cc
one_call (call.Cancel s) (call.Cancel t) h g e = ap call.Cancel (one_amount s t h g cc)
one_call (call.Fail s a x) (call.Fail t b y) h g e = one_fail s t a b x y h g e
one_call (call.Push x) (call.Push y) h g e = ap call.Push (one_part x y h g cc)
one_call (call.Lease t a m) (call.Lease u b n) h g e =
    let ttls = same_amounts t u (decimal a) (decimal b) h.0 g.0 cc in
    let counts = one_amount a b h.1 g.1 ttls.1 in
    let p : t ≡ u = ttls.0 in
    let q : m ≡ n = h.2 ∙ sym g.2 in
    cc
one_call (call.Take s) (call.Take t) h g e = ap call.Take (one_amount s t h g cc)
one_call c d h g e = grind (arith, common_steps)

-- ---- a line

-- a line of one end is one of that end alone
same_side : (s t : Side) (v w : List ℕ) → side_word s ++ 32 ∷ v ≡ side_word t ++ 32 ∷ w → (s ≡ t) × (v ≡ w)
same_side s t v w e = grind (arith, common_steps)

-- a line of both ends
abbrev is_between : Line → Bool
is_between (lines.Ask side asked) = false
is_between (lines.Many side stream count size) = false
is_between _ = true

not_between : (s : Side) (v : List ℕ) (l : Line) → is_between l ≡ true → side_word s ++ 32 ∷ v ≡ text_of l → ⊥
not_between s v l h1 h2 = grind (arith, common_steps)

-- no call has the text of many
not_many : (c : Call) (stream count size : ℕ) → call_words c ≡ many_words stream count size → ⊥
not_many c stream count size e = grind (arith, common_steps)

one_many : (s t : Side) (a b m n x y : ℕ) → IsLine (lines.Many s a m x) → IsLine (lines.Many t b n y) → text_of (lines.Many s a m x) ≡ text_of (lines.Many t b n y) → lines.Many s a m x ≡ lines.Many t b n y
one_many s t a b m n x y h g e =
    let ends = same_side s t (many_words a m x) (many_words b n y) e in
    let words : (decimal a ++ 32 ∷ decimal m) ++ 32 ∷ decimal x ≡ (decimal b ++ 32 ∷ decimal n) ++ 32 ∷ decimal y = let many = ends.1 in cc in
    let streams = same_amounts a b (decimal m ++ 32 ∷ decimal x) (decimal n ++ 32 ∷ decimal y) h.0 g.0 (sym (append_assoc (decimal a) (32 ∷ decimal m) (32 ∷ decimal x)) ∙ words ∙ append_assoc (decimal b) (32 ∷ decimal n) (32 ∷ decimal y)) in
    let counts = same_amounts m n (decimal x) (decimal y) h.1 g.1 streams.1 in
    let sizes = decimal_same x y (omega (arith, h.2)) (omega (arith, g.2)) counts.1 in
    let p : s ≡ t = ends.0 in
    let q : a ≡ b = streams.0 in
    let r : m ≡ n = counts.0 in
    cc

pub one : (a b : Line) → IsLine a → IsLine b → text_of a ≡ text_of b → a ≡ b
one (lines.Ask s c) (lines.Ask t d) h k e =
    let same = same_side s t (call_words c) (call_words d) e in
    ap (λ (x : Side). lines.Ask x c) same.0 ∙ ap (λ (x : Call). lines.Ask t x) (one_call c d h k same.1)
one (lines.Ask s c) (lines.Many t b n y) h k e = absurd (not_many c b n y (same_side s t (call_words c) (many_words b n y) e).1)
one (lines.Many s a m x) (lines.Ask t d) h k e = absurd (not_many d a m x (sym (same_side s t (many_words a m x) (call_words d) e).1))
one (lines.Many s a m x) (lines.Many t b n y) h k e = one_many s t a b m n x y h k e
one (lines.Ask s c) b h k e = absurd (not_between s (call_words c) b refl e)
one (lines.Many s a m x) b h k e = absurd (not_between s (many_words a m x) b refl e)
one a (lines.Ask t d) h k e = absurd (not_between t (call_words d) a refl (sym e))
one a (lines.Many t b n y) h k e = absurd (not_between t (many_words b n y) a refl (sym e))
one a b h1 h2 h3 = grind (arith, common_steps, decimal_same)

-- no line is passed over
pub spoken : (l : Line) → IsLine l → is_passed (text_of l) ≡ false
spoken l h1 = grind (arith, common_steps)
