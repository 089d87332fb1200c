-- The bytes of a whole frame: what is read is spelled so, and what is spelled so is read.
use Rattle.std.proofs.Common.{◌≡◌, ℕ, ◌+◌, ◌*◌, ◌^◌, ◌<◌, ◌≤◌, Bool, true, false, ltb, leb, List, [], ◌∷◌, ◌++◌, length, drop, Option, Result, Ok, Err, refl, sym, ap, subst, ◌∙◌, arith}
use Rattle.std.specs.Prelude.{is_some}
use Rattle.std.proofs.lemmas.Bool.{ltb-false, le-ltb, leb-false}
use Rattle.byteorder.specs.Endian.{big_bytes}
use Rattle.byteorder.specs.Numbers.{big_from-lt}
use Rattle.rs_wire.specs.declared.message.Message.{Message}
use Rattle.rs_wire.specs.declared.words.Kind.{Kind}
use Rattle.rs_wire.specs.declared.words.Kind.TheVariants as kinds
use Rattle.rs_frame.specs.declared.fault.FrameFault.{FrameFault}
use Rattle.rs_frame.specs.declared.fault.FrameFault.TheVariants as faults
use Rattle.rs_frame.specs.declared.frame.Frame.{Frame}
use Rattle.rs_frame.specs.declared.frame.Frame.TheVariants as frames
use Rattle.rs_frame.specs.declared.frame.Setup.{Setup}
use Rattle.rs_frame.specs.declared.frame.Resume.{Resume}
use Rattle.rs_frame.specs.declared.row.Row.{Row}
use Rattle.rs_frame.specs.declared.row.Row.TheVariants as rows
use Rattle.rs_frame.specs.Table.{row_of, flag, stream_word, type_word, type_number, flags_word, body}
use Rattle.rs_frame.specs.Reading.{as_frame, setup_at, row_at, frame_at, as_resume, resume_at}
use Rattle.rs_frame.specs.Spelling.{payload, FieldsFit, HasFlags, body_of, stream_of, number_of, kind_number, number_there, with_header, Spells, length_of, flags_of, bit_if, canonical}
use Rattle.rs_frame.proofs.Bytes.{IsBytes, IsBytes-drop}
use Rattle.rs_frame.proofs.Fields.{refuse_all_ok, number_front, number_next, number_again}
use Rattle.rs_frame.proofs.Rows.{IsRow, ok_is, made, payload_takes, payload_again, request_n_takes, request_n_again, cancel_takes, cancel_again, error_takes, error_again, plain_takes, plain_again, counted_takes, counted_again, setup_takes, setup_again, lease_takes, lease_again, keepalive_takes, keepalive_again, metadata_push_takes, metadata_push_again, resume_takes, resume_again, resume_ok_takes, resume_ok_again, ext_takes, ext_again}

-- ---- the number of a row

row_1 : (n : ℕ) → row_of n ≡ rows.Setup → n ≡ 1
row_1 n e = grind arith

row_2 : (n : ℕ) → row_of n ≡ rows.Lease → n ≡ 2
row_2 n e = grind arith

row_3 : (n : ℕ) → row_of n ≡ rows.Keepalive → n ≡ 3
row_3 n e = grind arith

row_12 : (n : ℕ) → row_of n ≡ rows.MetadataPush → n ≡ 12
row_12 n e = grind arith

row_13 : (n : ℕ) → row_of n ≡ rows.Resume → n ≡ 13
row_13 n e = grind arith

row_14 : (n : ℕ) → row_of n ≡ rows.ResumeOk → n ≡ 14
row_14 n e = grind arith

row_63 : (n : ℕ) → row_of n ≡ rows.Ext → n ≡ 63
row_63 n e = grind arith

row_4 : (n : ℕ) → row_of n ≡ rows.Response → n ≡ 4
row_4 n e = grind arith

row_5 : (n : ℕ) → row_of n ≡ rows.Fnf → n ≡ 5
row_5 n e = grind arith

row_6 : (n : ℕ) → row_of n ≡ rows.Stream → n ≡ 6
row_6 n e = grind arith

row_7 : (n : ℕ) → row_of n ≡ rows.Channel → n ≡ 7
row_7 n e = grind arith

row_8 : (n : ℕ) → row_of n ≡ rows.RequestN → n ≡ 8
row_8 n e = grind arith

row_9 : (n : ℕ) → row_of n ≡ rows.Cancel → n ≡ 9
row_9 n e = grind arith

row_10 : (n : ℕ) → row_of n ≡ rows.Payload → n ≡ 10
row_10 n e = grind arith

row_11 : (n : ℕ) → row_of n ≡ rows.Error → n ≡ 11
row_11 n e = grind arith

-- ---- rows

as_frame_ok : (r : Result Setup FrameFault) (f : Frame) → as_frame r ≡ Ok f → (s : Setup) × (r ≡ Ok s) × (frames.Setup s ≡ f)
as_frame_ok (Ok s) f e = (s, refl, cc)
as_frame_ok (Err r) f e = absurd cc

as_resume_ok : (r : Result Resume FrameFault) (f : Frame) → as_resume r ≡ Ok f → (s : Resume) × (r ≡ Ok s) × (frames.Resume s ≡ f)
as_resume_ok (Ok s) f e = (s, refl, cc)
as_resume_ok (Err r) f e = absurd cc

row_takes : (row : Row) (number stream flags : ℕ) (rest : List ℕ) (f : Frame) → row_of number ≡ row → number < 64 → flags < 1024 → IsBytes rest → stream < 2 ^ 31 → row_at row number stream flags rest ≡ Ok f → IsRow f number stream flags rest
row_takes rows.Setup number stream flags rest f is small few h low e =
    let a = as_frame_ok (setup_at stream flags rest) f e in
    subst (λ (n : ℕ). IsRow f n stream flags rest) (sym (row_1 number is)) (subst (λ (x : Frame). IsRow x 1 stream flags rest) a.2 (setup_takes stream flags rest a.0 h a.1))
row_takes rows.Response number stream flags rest f is small few h low e = subst (λ (n : ℕ). IsRow f n stream flags rest) (sym (row_4 number is)) (plain_takes kinds.Response stream flags rest f (refl, refl) (λ k. cc) h low e)
row_takes rows.Fnf number stream flags rest f is small few h low e = subst (λ (n : ℕ). IsRow f n stream flags rest) (sym (row_5 number is)) (plain_takes kinds.Fnf stream flags rest f (refl, refl) (λ k. cc) h low e)
row_takes rows.Stream number stream flags rest f is small few h low e = subst (λ (n : ℕ). IsRow f n stream flags rest) (sym (row_6 number is)) (counted_takes kinds.Stream false stream flags rest f (λ n g. (n, refl, g, refl)) (λ k. absurd cc) h low e)
row_takes rows.Channel number stream flags rest f is small few h low e = subst (λ (n : ℕ). IsRow f n stream flags rest) (sym (row_7 number is)) (counted_takes kinds.Channel (flag 0x40 flags) stream flags rest f (λ n g. (n, refl, g)) (λ k. refl) h low e)
row_takes rows.RequestN number stream flags rest f is small few h low e = subst (λ (n : ℕ). IsRow f n stream flags rest) (sym (row_8 number is)) (request_n_takes stream flags rest f h low e)
row_takes rows.Cancel number stream flags rest f is small few h low e = subst (λ (n : ℕ). IsRow f n stream flags rest) (sym (row_9 number is)) (cancel_takes stream flags rest f h low e)
row_takes rows.Payload number stream flags rest f is small few h low e = subst (λ (n : ℕ). IsRow f n stream flags rest) (sym (row_10 number is)) (payload_takes stream flags rest f h low e)
row_takes rows.Error number stream flags rest f is small few h low e = subst (λ (n : ℕ). IsRow f n stream flags rest) (sym (row_11 number is)) (error_takes stream flags rest f h low e)
row_takes rows.Lease number stream flags rest f is small few h low e = subst (λ (n : ℕ). IsRow f n stream flags rest) (sym (row_2 number is)) (lease_takes stream flags rest f h e)
row_takes rows.Keepalive number stream flags rest f is small few h low e = subst (λ (n : ℕ). IsRow f n stream flags rest) (sym (row_3 number is)) (keepalive_takes stream flags rest f h e)
row_takes rows.MetadataPush number stream flags rest f is small few h low e = subst (λ (n : ℕ). IsRow f n stream flags rest) (sym (row_12 number is)) (metadata_push_takes stream flags rest f e)
row_takes rows.Resume number stream flags rest f is small few h low e =
    let a = as_resume_ok (resume_at stream rest) f e in
    subst (λ (n : ℕ). IsRow f n stream flags rest) (sym (row_13 number is)) (subst (λ (x : Frame). IsRow x 13 stream flags rest) a.2 (resume_takes stream flags rest a.0 h a.1))
row_takes rows.ResumeOk number stream flags rest f is small few h low e = subst (λ (n : ℕ). IsRow f n stream flags rest) (sym (row_14 number is)) (resume_ok_takes stream flags rest f h e)
row_takes rows.Ext number stream flags rest f is small few h low e = subst (λ (n : ℕ). IsRow f n stream flags rest) (sym (row_63 number is)) (ext_takes stream flags rest f h low few e)
row_takes rows.Unknown number stream flags rest f is small few h low e =
    subst (λ (x : Frame). IsRow x number stream flags rest) (ok_is (frames.Unknown stream number flags rest) f e)
    (record { number_is = refl; stream_is = refl; named = refl; body_is = refl; fits = (low, small, is, few) })

request_again : (stream : ℕ) (kind : Kind) (follows complete : Bool) (initial : Option ℕ) (m : Message) (flags : ℕ) → HasFlags (made stream kind follows complete initial m) flags → FieldsFit (made stream kind follows complete initial m)
    → row_at (row_of (kind_number kind)) (kind_number kind) stream flags (number_there initial ++ payload m) ≡ Ok (made stream kind follows complete initial m)
request_again stream kinds.Response follows complete initial m flags named fits =
    rw (fits.1.0, fits.1.1) (plain_again kinds.Response stream flags follows m fits.0 named.0 named.1 fits.2)
request_again stream kinds.Fnf follows complete initial m flags named fits =
    rw (fits.1.0, fits.1.1) (plain_again kinds.Fnf stream flags follows m fits.0 named.0 named.1 fits.2)
request_again stream kinds.Stream follows complete initial m flags named fits =
    rw (fits.1.1, fits.1.3) (counted_again kinds.Stream false stream flags fits.1.0 follows m fits.0 fits.1.2 named.0 named.1 fits.2)
request_again stream kinds.Channel follows complete initial m flags named fits =
    rw (fits.1.1, named.2 refl) (counted_again kinds.Channel complete stream flags fits.1.0 follows m fits.0 fits.1.2 named.0 named.1 fits.2)

row_again : (f : Frame) (flags : ℕ) → HasFlags f flags → FieldsFit f → row_at (row_of (number_of f)) (number_of f) (stream_of f) flags (body_of f) ≡ Ok f
row_again (frames.Setup s) flags named fits = ap as_frame (setup_again flags s named fits)
row_again (frames.Request r) flags named fits = request_again r.stream r.kind r.follows r.complete r.initial r.message flags named fits
row_again (frames.RequestN stream n) flags named fits = request_n_again stream n fits
row_again (frames.Cancel stream) flags named fits = cancel_again stream fits
row_again (frames.Payload stream follows complete next m) flags named fits = payload_again stream flags follows complete next m named fits
row_again (frames.Error stream code content) flags named fits = error_again stream code content fits
row_again (frames.Lease ttl count metadata) flags named fits = lease_again flags ttl count metadata named fits
row_again (frames.Keepalive respond position content) flags named fits = keepalive_again flags position respond content named fits
row_again (frames.MetadataPush metadata) flags named fits = metadata_push_again metadata
row_again (frames.Resume r) flags named fits = ap as_resume (resume_again r fits)
row_again (frames.ResumeOk position) flags named fits = resume_ok_again position fits
row_again (frames.Ext stream kept extended rest) flags named fits = rw (sym named) (ext_again stream flags extended rest fits.2)
row_again (frames.Unknown stream number kept rest) flags named fits = rw (fits.2, named) refl

-- ---- whole frames

pub frame_takes : (bytes : List ℕ) (f : Frame) → IsBytes bytes → frame_at bytes ≡ Ok f → Spells f bytes
unfolding frame_at
frame_takes bytes f h e =
    let p = refuse_all_ok ((ltb (length bytes) 6, faults.ShortHeader) ∷ (leb (2 ^ 31) (stream_word bytes), faults.LeadingBit) ∷ []) (row_at (row_of (type_number bytes)) (type_number bytes) (stream_word bytes) (flags_word bytes) (body bytes)) f e in
    let long : 6 ≤ length bytes = ltb-false _ _ p.0.0 in
    let low : stream_word bytes < 2 ^ 31 = leb-false _ _ p.0.1.0 in
    let word : type_word bytes < 256 ^ 2 = big_from-lt 0 2 (drop 4 bytes) (IsBytes-drop 4 bytes h) in
    let number : type_number bytes < 64 = omega arith in
    let few : flags_word bytes < 1024 = omega arith in
    let split : type_word bytes ≡ type_number bytes * 1024 + flags_word bytes = omega arith in
    let r = row_takes (row_of (type_number bytes)) (type_number bytes) (stream_word bytes) (flags_word bytes) (body bytes) f refl number few (IsBytes-drop 6 bytes h) low p.1 in
    let whole : bytes ≡ with_header (stream_word bytes) (type_number bytes) (flags_word bytes) (body bytes) =
    number_front 4 bytes (omega arith) h ∙ ap (λ (t : List ℕ). big_bytes 4 (stream_word bytes) ++ t) (number_next 2 4 bytes long h)
    ∙ ap (λ (w : ℕ). big_bytes 4 (stream_word bytes) ++ (big_bytes 2 w ++ body bytes)) split in
    record {
      fits = r.fits;
      flags = flags_word bytes;
      flags_fit = few;
      named = r.named;
      bytes_are = whole ∙ ap (λ (n : ℕ). with_header n (type_number bytes) (flags_word bytes) (body bytes)) (sym r.stream_is) ∙ ap (λ (n : ℕ). with_header (stream_of f) n (flags_word bytes) (body bytes)) (sym r.number_is) ∙ ap (with_header (stream_of f) (number_of f) (flags_word bytes)) r.body_is;
    }

kind_fits : (k : Kind) → kind_number k < 64
kind_fits kinds.Response = omega arith
kind_fits kinds.Fnf = omega arith
kind_fits kinds.Stream = omega arith
kind_fits kinds.Channel = omega arith

number_fits : (f : Frame) → FieldsFit f → number_of f < 64
number_fits (frames.Setup s) fits = omega arith
number_fits (frames.Lease ttl count metadata) fits = omega arith
number_fits (frames.Keepalive respond position content) fits = omega arith
number_fits (frames.MetadataPush metadata) fits = omega arith
number_fits (frames.Resume r) fits = omega arith
number_fits (frames.ResumeOk position) fits = omega arith
number_fits (frames.Ext stream kept extended rest) fits = omega arith
number_fits (frames.Request r) fits = kind_fits r.kind
number_fits (frames.RequestN stream n) fits = omega arith
number_fits (frames.Cancel stream) fits = omega arith
number_fits (frames.Payload stream follows complete next m) fits = omega arith
number_fits (frames.Error stream code content) fits = omega arith
number_fits (frames.Unknown stream number kept rest) fits = fits.1

stream_fits : (f : Frame) → FieldsFit f → stream_of f < 2 ^ 31
stream_fits (frames.Setup s) fits = omega arith
stream_fits (frames.Lease ttl count metadata) fits = omega arith
stream_fits (frames.Keepalive respond position content) fits = omega arith
stream_fits (frames.MetadataPush metadata) fits = omega arith
stream_fits (frames.Resume r) fits = omega arith
stream_fits (frames.ResumeOk position) fits = omega arith
stream_fits (frames.Ext stream kept extended rest) fits = fits.0
stream_fits (frames.Request r) fits = fits.0.1
stream_fits (frames.RequestN stream n) fits = fits.0.1
stream_fits (frames.Cancel stream) fits = fits.1
stream_fits (frames.Payload stream follows complete next m) fits = fits.0.1
stream_fits (frames.Error stream code content) fits = fits.0
stream_fits (frames.Unknown stream number kept rest) fits = fits.0

frame_of : (stream number flags : ℕ) (rest bytes : List ℕ) → 6 ≤ length bytes → stream < 2 ^ 31 → flags < 1024 → stream_word bytes ≡ stream → type_word bytes ≡ number * 1024 + flags → body bytes ≡ rest → frame_at bytes ≡ row_at (row_of number) number stream flags rest
unfolding frame_at
frame_of stream number flags rest bytes long low few s w b =
    let l : ltb (length bytes) 6 ≡ false = le-ltb _ _ long in
    let t : leb (2 ^ 31) stream ≡ false = grind arith in
    let n : type_number bytes ≡ number = omega arith in
    let f : flags_word bytes ≡ flags = omega arith in
    rw (l, s, t, n, f, b) refl

pub spells_read : (f : Frame) (bytes : List ℕ) → Spells f bytes → frame_at bytes ≡ Ok f
spells_read f bytes s =
    let word = number_of f * 1024 + s.flags in
    let low = stream_fits f s.fits in
    let small = number_fits f s.fits in
    let few = s.flags_fit in
    let after = big_bytes 2 word ++ body_of f in
    let all = with_header (stream_of f) (number_of f) s.flags (body_of f) in
    ap frame_at s.bytes_are
    ∙ frame_of (stream_of f) (number_of f) s.flags (body_of f) all (omega arith) low few (number_again 4 (stream_of f) after (omega arith)) (number_again 2 word (body_of f) (omega arith)) refl
    ∙ row_again f s.flags s.named s.fits

-- bytes spell at most one frame
pub one_frame : (f g : Frame) (bytes : List ℕ) → Spells f bytes → Spells g bytes → f ≡ g
one_frame f g bytes s t = ok_is f g (sym (spells_read f bytes s) ∙ spells_read g bytes t)

-- all spellings of a frame have one length
pub one_length : (f : Frame) (bytes : List ℕ) → Spells f bytes → length bytes ≡ length_of f
one_length f bytes s = ap length s.bytes_are ∙ omega arith

-- ---- the canonical spelling

flags3_ok : (m r l : Bool) → (flag 0x100 (bit_if m 0x100 + bit_if r 0x80 + bit_if l 0x40) ≡ m) × (flag 0x80 (bit_if m 0x100 + bit_if r 0x80 + bit_if l 0x40) ≡ r) × (flag 0x40 (bit_if m 0x100 + bit_if r 0x80 + bit_if l 0x40) ≡ l) × (bit_if m 0x100 + bit_if r 0x80 + bit_if l 0x40 < 1024)
flags3_ok true true true = (refl, refl, refl, omega arith)
flags3_ok true true false = (refl, refl, refl, omega arith)
flags3_ok true false true = (refl, refl, refl, omega arith)
flags3_ok true false false = (refl, refl, refl, omega arith)
flags3_ok false true true = (refl, refl, refl, omega arith)
flags3_ok false true false = (refl, refl, refl, omega arith)
flags3_ok false false true = (refl, refl, refl, omega arith)
flags3_ok false false false = (refl, refl, refl, omega arith)

flags4_ok : (m f c n : Bool) → (flag 0x100 (bit_if m 0x100 + bit_if f 0x80 + bit_if c 0x40 + bit_if n 0x20) ≡ m) × (flag 0x80 (bit_if m 0x100 + bit_if f 0x80 + bit_if c 0x40 + bit_if n 0x20) ≡ f) × (flag 0x40 (bit_if m 0x100 + bit_if f 0x80 + bit_if c 0x40 + bit_if n 0x20) ≡ c)
    × (flag 0x20 (bit_if m 0x100 + bit_if f 0x80 + bit_if c 0x40 + bit_if n 0x20) ≡ n) × (bit_if m 0x100 + bit_if f 0x80 + bit_if c 0x40 + bit_if n 0x20 < 1024)
flags4_ok true true true true = (refl, refl, refl, refl, omega arith)
flags4_ok true true true false = (refl, refl, refl, refl, omega arith)
flags4_ok true true false true = (refl, refl, refl, refl, omega arith)
flags4_ok true true false false = (refl, refl, refl, refl, omega arith)
flags4_ok true false true true = (refl, refl, refl, refl, omega arith)
flags4_ok true false true false = (refl, refl, refl, refl, omega arith)
flags4_ok true false false true = (refl, refl, refl, refl, omega arith)
flags4_ok true false false false = (refl, refl, refl, refl, omega arith)
flags4_ok false true true true = (refl, refl, refl, refl, omega arith)
flags4_ok false true true false = (refl, refl, refl, refl, omega arith)
flags4_ok false true false true = (refl, refl, refl, refl, omega arith)
flags4_ok false true false false = (refl, refl, refl, refl, omega arith)
flags4_ok false false true true = (refl, refl, refl, refl, omega arith)
flags4_ok false false true false = (refl, refl, refl, refl, omega arith)
flags4_ok false false false true = (refl, refl, refl, refl, omega arith)
flags4_ok false false false false = (refl, refl, refl, refl, omega arith)

flag_ok : (b : Bool) → (flag 0x100 (bit_if b 0x100) ≡ b) × (flag 0x80 (bit_if b 0x80) ≡ b) × (bit_if b 0x100 < 1024) × (bit_if b 0x80 < 1024)
flag_ok true = (refl, refl, omega arith, omega arith)
flag_ok false = (refl, refl, omega arith, omega arith)

pub canonical_spells : (f : Frame) → FieldsFit f → Spells f (canonical f)
canonical_spells (frames.Setup s) fits = let k = flags3_ok (is_some s.message.metadata) (is_some s.resume) s.lease in record { fits = fits; flags = flags_of (frames.Setup s); flags_fit = k.3; named = (k.0, k.1, k.2); bytes_are = refl }
canonical_spells (frames.Request r) fits = let k = flags3_ok (is_some r.message.metadata) r.follows r.complete in record { fits = fits; flags = flags_of (frames.Request r); flags_fit = k.3; named = (k.0, k.1, λ is. k.2); bytes_are = refl }
canonical_spells (frames.RequestN stream n) fits = record { fits = fits; flags = 0; flags_fit = omega arith; named = tt; bytes_are = refl }
canonical_spells (frames.Cancel stream) fits = record { fits = fits; flags = 0; flags_fit = omega arith; named = tt; bytes_are = refl }
canonical_spells (frames.Payload stream follows complete next m) fits = let k = flags4_ok (is_some m.metadata) follows complete next in record { fits = fits; flags = flags_of (frames.Payload stream follows complete next m); flags_fit = k.4; named = (k.0, k.1, k.2, k.3); bytes_are = refl }
canonical_spells (frames.Error stream code content) fits = record { fits = fits; flags = 0; flags_fit = omega arith; named = tt; bytes_are = refl }
canonical_spells (frames.Lease ttl count metadata) fits = let k = flag_ok (is_some metadata) in record { fits = fits; flags = flags_of (frames.Lease ttl count metadata); flags_fit = k.2; named = k.0; bytes_are = refl }
canonical_spells (frames.Keepalive respond position content) fits = let k = flag_ok respond in record { fits = fits; flags = flags_of (frames.Keepalive respond position content); flags_fit = k.3; named = k.1; bytes_are = refl }
canonical_spells (frames.MetadataPush metadata) fits = record { fits = fits; flags = 0x100; flags_fit = omega arith; named = tt; bytes_are = refl }
canonical_spells (frames.Resume r) fits = record { fits = fits; flags = 0; flags_fit = omega arith; named = tt; bytes_are = refl }
canonical_spells (frames.ResumeOk position) fits = record { fits = fits; flags = 0; flags_fit = omega arith; named = tt; bytes_are = refl }
canonical_spells (frames.Ext stream kept extended rest) fits = record { fits = fits; flags = kept; flags_fit = fits.1; named = refl; bytes_are = refl }
canonical_spells (frames.Unknown stream number kept rest) fits = record { fits = fits; flags = kept; flags_fit = fits.3; named = refl; bytes_are = refl }
