-- How many bytes the frames of a call take.
use Rattle.std.proofs.Common.{◌≡◌, ◌≤◌, ◌+◌, ◌*◌, ◌==◌, ◌||◌, ℕ, true, false, List, [], ◌∷◌, length, Option, Some, None, refl, ap, subst, sym, ◌∙◌, arith, length-append}
use Rattle.std.specs.Prelude.{nat_le}
use Rattle.std.proofs.lemmas.Grind.{common_steps}
use Rattle.std.proofs.lemmas.Bool.Decides.{nat_tests}
use Rattle.byteorder.specs.Endian.{big_bytes}
use Rattle.byteorder.specs.Numbers.{length-bytes_high_first}
use Rattle.rs_wire.specs.Message.{option_length}
use Rattle.rs_wire.specs.Settings.{IsChecked}
use Rattle.rs_wire.specs.declared.settings.Settings.{Settings}
use Rattle.rs_frame.specs.declared.frame.Frame.{Frame}
use Rattle.rs_frame.specs.declared.frame.Frame.TheVariants as frame
use Rattle.rs_frame.specs.Framed.{framed_all, framed_frame}
use Rattle.rs_frame.specs.Spelling.{canonical, length_of}
use Rattle.position.specs.Boundaries.{pos, pos_by}
use Rattle.stream_model.specs.Arriving.{no_message}
use Rattle.fragment.specs.declared.size.SplitSize.{SplitSize}
use Rattle.fragment.specs.Splitting.{IsMtu, split_of}
use Rattle.fragment.proofs.Splits.{split_fits}
use Rattle.session_model.specs.Frames.{in_fragments}
use Rattle.session_model.proofs.Spelled.{is_mtu}
use Rattle.session_core.specs.Sizes.{size_alone, size_of_frames, size_sent}

-- settings that were tested have an mtu
pub mtu_limit : (g : Settings) → IsChecked g → IsMtu g.mtu
mtu_limit g checked = is_mtu g checked

length_framed : (f : Frame) → length (framed_frame f) ≡ 3 + length_of f
length_framed f = omega (arith, length-append (big_bytes 3 (length (canonical f))) (canonical f), length-bytes_high_first 3 (length (canonical f)))

-- each frame goes out after its length of 3 bytes
pub framed_size : (fs : List Frame) → length (framed_all fs) ≡ 3 * length fs + pos fs
unfolding pos_by
framed_size [] = refl
framed_size (f ∷ fs) = grind (arith, common_steps, length_framed f, framed_size fs)

alone_by : (f : Frame) (mtu : ℕ) → IsMtu mtu → length_of f ≤ 64 → split_of f mtu ≡ f ∷ []
alone_by f mtu limit short = grind (arith, common_steps, nat_tests, limit.1, split_fits f mtu)

-- the frame that says that nothing more follows is never split
pub last_alone : (s mtu : ℕ) → IsMtu mtu → split_of (frame.Payload s false true false no_message) mtu ≡ frame.Payload s false true false no_message ∷ []
last_alone s mtu limit = alone_by (frame.Payload s false true false no_message) mtu limit (omega arith)

-- nor is one that is not longer than the mtu
pub fits_alone : (f : Frame) (mtu : ℕ) → (mtu == 0 || nat_le (length_of f) mtu) ≡ true → in_fragments mtu f ≡ f ∷ []
fits_alone f mtu fits = grind (arith, common_steps, nat_tests, split_fits f mtu)

-- ---- the size of the frames of a call

pub sized : (mtu m : ℕ) → m ≡ mtu → (f : Frame) (n : SplitSize) (o : Option Frame) → o ≡ Some f → n.frames ≡ length (in_fragments m f) → n.bytes ≡ pos (in_fragments m f)
    → Some n ≡ size_sent mtu o
sized mtu m same f n o is frames bytes =
    let made : record { frames = n.frames; bytes = n.bytes } ≡ size_of_frames (in_fragments m f) = cc in
    let some : Some n ≡ size_sent m (Some f) = ap Some made in
    subst (λ k. Some n ≡ size_sent k o) same (subst (λ (x : Option Frame). Some n ≡ size_sent m x) (sym is) some)

-- of one that is not split
pub sized_alone : (mtu : ℕ) (f : Frame) (n : SplitSize) (b : ℕ) (o : Option Frame) → o ≡ Some f → in_fragments mtu f ≡ f ∷ [] → n ≡ record { frames = 1; bytes = b } → length_of f ≡ b
    → Some n ≡ size_sent mtu o
unfolding pos_by
sized_alone mtu f n b o is alone one long =
    let frames : n.frames ≡ length (in_fragments mtu f) = ap (λ (k : SplitSize). k.frames) one ∙ ap length (sym alone) in
    let sum : pos (f ∷ []) ≡ b = omega (arith, long) in
    let bytes : n.bytes ≡ pos (in_fragments mtu f) = ap (λ (k : SplitSize). k.bytes) one ∙ (sym sum ∙ ap pos (sym alone)) in
    sized mtu mtu refl f n o is frames bytes

pub error_length : (s code : ℕ) (content : List ℕ) → length_of (frame.Error s code content) ≡ 10 + length content
error_length s code content = omega (arith, length-append (big_bytes 4 code) content)

-- ---- the size of a frame of the connection alone

pub sized_one : (f : Frame) (n : SplitSize) (b : ℕ) (o : Option Frame) → o ≡ Some f → n ≡ record { frames = 1; bytes = b } → length_of f ≡ b → Some n ≡ size_alone o
unfolding pos_by
sized_one f n b o is one long =
    let sum : b ≡ pos (f ∷ []) = omega (arith, long) in
    let made : n ≡ size_of_frames (f ∷ []) = one ∙ ap (λ k. record { frames = 1; bytes = k }) sum in
    ap Some made ∙ sym (ap size_alone is)

pub lease_length : (ttl count : ℕ) (metadata : Option (List ℕ)) → length_of (frame.Lease ttl count metadata) ≡ 14 + option_length metadata
lease_length ttl count None = omega arith
lease_length ttl count (Some metadata) = omega (arith, length-append (big_bytes 4 count) metadata)
