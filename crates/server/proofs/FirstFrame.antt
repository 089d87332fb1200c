-- The first frame of a link: how its bytes are read, and that it stays the first.
use Rattle.std.proofs.Common.{◌≡◌, ◌<◌, ◌≤◌, ◌^◌, ◌∙◌, ℕ, List, [], ◌∷◌, ◌++◌, append-nil, append_assoc, length, take, drop, Option, Some, None, IfSome, refl, sym, ap, subst, arith}
use Rattle.std.specs.List.{flat_map}
use Rattle.std.proofs.lemmas.List.{length-append, length-take}
use Rattle.std.proofs.lemmas.List.Concat.{flat_map-cons}
use Rattle.std.specs.Io.KnownBytes.{append_known}
use Rattle.std.proofs.Math.Seq.{take-append_seam}
use Rattle.byteorder.specs.Endian.{big_bytes, big_number}
use Rattle.rs_wire.specs.declared.settings.Settings.{Settings}
use Rattle.rs_frame.specs.declared.frame.Frame.{Frame}
use Rattle.rs_frame.specs.Framed.{framed}
use Rattle.rs_frame.specs.Spelling.{Spells, length_of}
use Rattle.rs_frame.proofs.Fields.{number_again, rest_again}
use Rattle.rs_frame.proofs.Whole.{one_length}
use Rattle.rs_chunk.specs.Stream.{HasFrame, IsWhole, first_frame, first_length}
use Rattle.outside.specs.Links.{Shown}
use Rattle.tape.specs.declared.entry.Entry.{Entry}
use Rattle.session_model.specs.Frames.{came}
use Rattle.link_model.specs.Carrying.{IsFresh}
use Rattle.link_model.specs.Reading.{AreSpelled, HasRead}
use Rattle.link_model.proofs.Bytes.{if_some}
use Rattle.link_laws.specs.Opened.{IsJustOpened}
use Rattle.server.specs.Attended.{BeginsBy}
use Rattle.server.specs.Opening.{IsFirst}

-- ---- at its opening

flat_one : (f rest : List ℕ) → flat_map framed (f ∷ []) ++ rest ≡ framed f ++ rest
flat_one f rest = ap (λ (t : List ℕ). t ++ rest) (flat_map-cons framed f [] ∙ append-nil (framed f))

read_once : (c most : ℕ) (past : List Entry) (first : Frame) (read rest : List ℕ) → came past c ≡ first ∷ [] → Spells first (first_frame read) → length (first_frame read) < 2 ^ 24 → read ≡ framed (first_frame read) ++ rest → HasRead (came past c) None most rest read
read_once c most past first read rest came_is spelled short cut = record {
  spellings = first_frame read ∷ [];
  more = rest;
  spelled = subst (λ (fs : List Frame). AreSpelled fs (first_frame read ∷ [])) (sym came_is) (spelled, tt);
  cut = record { whole = cut ∙ sym (flat_one (first_frame read) rest); fit = (short, tt) };
  after = refl;
}

-- a link whose connection was just opened by its first frame is fresh
pub fresh_by : (g : Settings) (past : List Entry) (c : ℕ) (first : Frame) (link : Shown) (rest : List ℕ) → IsJustOpened g past c first → BeginsBy g.max_in first link rest → IsFresh g past link c rest
fresh_by g past c first link rest just b =
    let short : length (first_frame b.read) < 2 ^ 24 = subst (λ n. n < 2 ^ 24) (sym (one_length first (first_frame b.read) b.begins.spelled)) b.begins.spellable.short in
    record {
      opened = just.opened;
      good = just.good;
      undrawn = just.undrawn;
      ungiven = b.begins.ungiven;
      taken = if_some link.taken (λ (t : List ℕ) (is : t ≡ b.read). subst (HasRead (came past c) None g.max_in rest) (sym is) (read_once c g.max_in past first b.read rest just.came b.begins.spelled short b.cut)) b.begins.taken;
    }

-- ---- later

length_here : (f x : List ℕ) → length f < 2 ^ 24 → first_length (framed f ++ x) ≡ length f
length_here f x fits = ap (big_number 3) (append_assoc (big_bytes 3 (length f)) f x) ∙ number_again 3 (length f) (f ++ x) fits

frame_here : (f x : List ℕ) → length f < 2 ^ 24 → first_frame (framed f ++ x) ≡ f
frame_here f x fits =
    let after : drop 3 (framed f ++ x) ≡ f ++ x = ap (drop 3) (append_assoc (big_bytes 3 (length f)) f x) ∙ rest_again 3 (length f) (f ++ x) in
    ap (λ (n : ℕ). take n (drop 3 (framed f ++ x))) (length_here f x fits) ∙ (ap (take (length f)) after ∙ take-append_seam f x)

has_front : (f x : List ℕ) → length f < 2 ^ 24 → HasFrame (framed f ++ x)
has_front f x short =
    let n = length_here f x short in
    (omega arith, omega (arith, n, length-append f x))

begins_with : (first : Frame) (most : ℕ) (f x : List ℕ) → Spells first f → length f < 2 ^ 24 → length_of first ≤ most → IsWhole (framed f ++ x) most × Spells first (first_frame (framed f ++ x))
begins_with first most f x spelled short fits =
    let n = length_here f x short in
    let len = one_length first f spelled in
    ((has_front f x short, omega (arith, n, len, fits)), subst (Spells first) (sym (frame_here f x short)) spelled)

-- the first frame has at most as many bytes as a frame may have
first_fits : (first : Frame) (most : ℕ) (read : List ℕ) → IsWhole read most → Spells first (first_frame read) → length_of first ≤ most
first_fits first most read whole spelled =
    let len = one_length first (first_frame read) spelled in
    let few = length-take (first_length read) (drop 3 read) in
    omega (arith, len, few, whole.1)

read_on : (first : Frame) (most : ℕ) (read rest piece : List ℕ) (o : Option (List ℕ)) → Spells first (first_frame read) → length (first_frame read) < 2 ^ 24 → length_of first ≤ most → read ≡ framed (first_frame read) ++ rest → IfSome o (λ t. t ≡ read)
    → IfSome (append_known o piece) (λ b. IsWhole b most × Spells first (first_frame b))
read_on first most read rest piece None spelled short fits cut is = tt
read_on first most read rest piece (Some t) spelled short fits cut is =
    let whole : t ++ piece ≡ framed (first_frame read) ++ (rest ++ piece) = ap (λ (x : List ℕ). x ++ piece) (is ∙ cut) ∙ append_assoc (framed (first_frame read)) rest piece in
    subst (λ (b : List ℕ). IsWhole b most × Spells first (first_frame b)) (sym whole) (begins_with first most (first_frame read) (rest ++ piece) spelled short fits)

-- what is taken still begins with the first frame, however much more is taken
pub first_still : (most : ℕ) (first : Frame) (old link : Shown) (rest piece : List ℕ) → BeginsBy most first old rest → link.taken ≡ append_known old.taken piece → IsFirst most link first
first_still most first old link rest piece b grown =
    let short : length (first_frame b.read) < 2 ^ 24 = subst (λ n. n < 2 ^ 24) (sym (one_length first (first_frame b.read) b.begins.spelled)) b.begins.spellable.short in
    subst (λ o. IfSome o (λ bytes. IsWhole bytes most × Spells first (first_frame bytes))) (sym grown)
    (read_on first most b.read rest piece old.taken b.begins.spelled short (first_fits first most b.read b.begins.whole b.begins.spelled) b.cut b.begins.taken)
