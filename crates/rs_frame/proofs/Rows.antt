-- Each row: what is read is spelled so, and what is spelled so is read.
use Rattle.std.proofs.Common.{◌≡◌, ℕ, ◌+◌, ◌^◌, ◌<◌, ◌≤◌, Bool, true, false, cond, ltb, eqb, leb, List, [], ◌∷◌, ◌++◌, length, take, drop, Option, Some, None, Result, Ok, refl, sym, ap, subst, ◌∙◌, append_assoc, arith}
use Rattle.std.specs.Prelude.{is_some, not, ◌||◌, ◌&&◌, if◌then◌else◌}
use Rattle.std.proofs.lemmas.Bool.{ltb-false, le-ltb, eqb-false, leb-false}
use Rattle.std.proofs.lemmas.List.{take_at, drop_at, take-append-drop, length-append, length-take, length-drop, drop-drop, append-nil, nil_from_length}
use Rattle.byteorder.specs.Endian.{big_number, big_bytes}
use Rattle.byteorder.specs.Numbers.{big_from-lt}
use Rattle.rs_wire.specs.declared.message.Message.{Message}
use Rattle.rs_wire.specs.declared.words.Kind.{Kind}
use Rattle.rs_wire.specs.declared.words.Kind.TheVariants as kinds
use Rattle.rs_frame.specs.declared.fault.FrameFault.{FrameFault}
use Rattle.rs_frame.specs.declared.fault.FrameFault.TheVariants as faults
use Rattle.rs_frame.specs.declared.frame.Frame.{Frame}
use Rattle.rs_frame.specs.declared.frame.Frame.TheVariants as frames
use Rattle.rs_frame.specs.declared.frame.Setup.{Setup}
use Rattle.rs_frame.specs.declared.frame.Resume.{Resume}
use Rattle.rs_frame.specs.Table.{flag, number_at, long_at}
use Rattle.rs_frame.specs.Rules.{message_of, names_of, Names}
use Rattle.rs_frame.specs.Reading.{refuse, found, setup_at, plain_at, counted_at, payload_at, request_n_at, cancel_at, error_at, lease_at, keepalive_at, metadata_push_at, resume_at, resume_ok_at, ext_at}
use Rattle.rs_frame.specs.Spelling.{counted_bytes, if_there, payload, MessageFits, FieldsFit, HasFlags, body_of, stream_of, number_of, IsStream, InitialFits, kind_number, to_end}
use Rattle.rs_frame.proofs.Bytes.{IsBytes, IsBytes-drop}
use Rattle.rs_frame.proofs.Fields.{refuse_ok, refuse_all_ok, found_ok, number_next, names_take, names_again, number_front, number_again, rest_again, message_takes, message_again}

-- a row with this number, stream and flags, and this body, is the frame
pub record IsRow (f : Frame) (number stream flags : ℕ) (body : List ℕ) : Type 0 where
  pub number_is : number_of f ≡ number
  pub stream_is : stream_of f ≡ stream
  pub named : HasFlags f flags
  pub body_is : body ≡ body_of f
  pub fits : FieldsFit f

abbrev done : {A : Type 0} → A → Result A FrameFault
done x = Ok x

pub ok_is : {A : Type 0} (x y : A) → done x ≡ done y → x ≡ y
ok_is x y e = cc

above_zero : (n : ℕ) → eqb n 0 ≡ false → 0 < n
above_zero n e = let ne = eqb-false n 0 e in omega arith

pub payload_takes : (stream flags : ℕ) (body : List ℕ) (f : Frame) → IsBytes body → stream < 2 ^ 31 → payload_at stream flags body ≡ Ok f → IsRow f 10 stream flags body
unfolding payload_at
payload_takes stream flags body f h low e =
    let next : Message → Result Frame FrameFault = λ m. Ok (frames.Payload stream (flag 0x80 flags) (flag 0x40 flags) (flag 0x20 flags) m) in
    let a = refuse_ok (eqb stream 0) faults.WrongStream (found faults.MetadataLength (message_of (flag 0x100 flags) body) next) f e in
    let b = found_ok faults.MetadataLength (message_of (flag 0x100 flags) body) next f a.1 in
    let m = message_takes (flag 0x100 flags) body b.0 h b.1 in
    subst (λ (x : Frame). IsRow x 10 stream flags body) (ok_is (frames.Payload stream (flag 0x80 flags) (flag 0x40 flags) (flag 0x20 flags) b.0) f b.2)
    (record { number_is = refl; stream_is = refl; named = (m.flag_is, refl, refl, refl); body_is = m.parts; fits = ((above_zero stream a.0, low), m.fits) })

pub payload_again : (stream flags : ℕ) (follows complete next : Bool) (m : Message) → HasFlags (frames.Payload stream follows complete next m) flags → FieldsFit (frames.Payload stream follows complete next m) → payload_at stream flags (payload m) ≡ Ok (frames.Payload stream follows complete next m)
unfolding payload_at
payload_again stream flags follows complete next m named fits =
    let above : eqb stream 0 ≡ false = grind (arith, fits.0) in
    rw (above, named.0, message_again m.metadata m.content fits.1, named.1, named.2, named.3) refl

or_false : (a b : Bool) → (a || b) ≡ false → (a ≡ false) × (b ≡ false)
or_false true b e = absurd cc
or_false false b e = (refl, e)

pub request_n_takes : (stream flags : ℕ) (body : List ℕ) (f : Frame) → IsBytes body → stream < 2 ^ 31 → request_n_at stream body ≡ Ok f → IsRow f 8 stream flags body
unfolding request_n_at
request_n_takes stream flags body f h low e =
    let n = big_number 4 body in
    let p = refuse_all_ok ((eqb stream 0, faults.WrongStream) ∷ (ltb (length body) 4, faults.ShortBody) ∷ (ltb 4 (length body), faults.LongBody) ∷ (eqb n 0, faults.ZeroNumber) ∷ (leb (2 ^ 31) n, faults.HighBit) ∷ []) (Ok (frames.RequestN stream n)) f e in
    let long : 4 ≤ length body = ltb-false _ _ p.0.1.0 in
    let short : length body ≤ 4 = ltb-false _ _ p.0.1.1.0 in
    let below : n < 2 ^ 31 = leb-false _ _ p.0.1.1.1.1.0 in
    let nothing : drop 4 body ≡ [] = nil_from_length (drop 4 body) (omega (arith, length-drop 4 body)) in
    let whole : body ≡ big_bytes 4 n = number_front 4 body long h ∙ ap (λ (t : List ℕ). big_bytes 4 n ++ t) nothing in
    subst (λ (x : Frame). IsRow x 8 stream flags body) (ok_is (frames.RequestN stream n) f p.1)
    (record { number_is = refl; stream_is = refl; named = tt; body_is = whole; fits = ((above_zero stream p.0.0, low), (above_zero n p.0.1.1.1.0, below)) })

request_n_of : (stream n : ℕ) (body : List ℕ) → FieldsFit (frames.RequestN stream n) → length body ≡ 4 → big_number 4 body ≡ n → request_n_at stream body ≡ Ok (frames.RequestN stream n)
unfolding request_n_at
request_n_of stream n body fits len is =
    let s : eqb stream 0 ≡ false = grind (arith, fits.0) in
    let z : eqb n 0 ≡ false = grind (arith, fits.1) in
    let top : leb (2 ^ 31) n ≡ false = grind (arith, fits.1) in
    rw (s, len, is, z, top) refl

pub request_n_again : (stream n : ℕ) → FieldsFit (frames.RequestN stream n) → request_n_at stream (big_bytes 4 n) ≡ Ok (frames.RequestN stream n)
request_n_again stream n fits = request_n_of stream n (big_bytes 4 n) fits refl (number_again 4 n [] (omega (arith, fits.1.1)))

pub cancel_takes : (stream flags : ℕ) (body : List ℕ) (f : Frame) → IsBytes body → stream < 2 ^ 31 → cancel_at stream body ≡ Ok f → IsRow f 9 stream flags body
unfolding cancel_at
cancel_takes stream flags body f h low e =
    let p = refuse_all_ok ((eqb stream 0, faults.WrongStream) ∷ (ltb 0 (length body), faults.LongBody) ∷ []) (Ok (frames.Cancel stream)) f e in
    let short : length body ≤ 0 = ltb-false _ _ p.0.1.0 in
    subst (λ (x : Frame). IsRow x 9 stream flags body) (ok_is (frames.Cancel stream) f p.1)
    (record { number_is = refl; stream_is = refl; named = tt; body_is = nil_from_length body (omega arith); fits = (above_zero stream p.0.0, low) })

pub cancel_again : (stream : ℕ) → FieldsFit (frames.Cancel stream) → cancel_at stream [] ≡ Ok (frames.Cancel stream)
unfolding cancel_at
cancel_again stream fits = let s : eqb stream 0 ≡ false = grind (arith, fits) in rw s refl

pub error_takes : (stream flags : ℕ) (body : List ℕ) (f : Frame) → IsBytes body → stream < 2 ^ 31 → error_at stream body ≡ Ok f → IsRow f 11 stream flags body
unfolding error_at
error_takes stream flags body f h low e =
    let n = big_number 4 body in
    let p = refuse_all_ok ((ltb (length body) 4, faults.ShortBody) ∷ []) (Ok (frames.Error stream n (drop 4 body))) f e in
    let long : 4 ≤ length body = ltb-false _ _ p.0.0 in
    subst (λ (x : Frame). IsRow x 11 stream flags body) (ok_is (frames.Error stream n (drop 4 body)) f p.1)
    (record { number_is = refl; stream_is = refl; named = tt; body_is = number_front 4 body long h; fits = (low, big_from-lt 0 4 body h) })

error_of : (stream n : ℕ) (content body : List ℕ) → 4 ≤ length body → big_number 4 body ≡ n → drop 4 body ≡ content → error_at stream body ≡ Ok (frames.Error stream n content)
unfolding error_at
error_of stream n content body long is after =
    let s : ltb (length body) 4 ≡ false = le-ltb _ _ long in
    rw (s, is, after) refl

pub error_again : (stream code : ℕ) (content : List ℕ) → FieldsFit (frames.Error stream code content) → error_at stream (big_bytes 4 code ++ content) ≡ Ok (frames.Error stream code content)
error_again stream code content fits = error_of stream code content (big_bytes 4 code ++ content) (omega arith) (number_again 4 code content fits.1) (rest_again 4 code content)

-- ---- requests

abbrev pub made : ℕ → Kind → Bool → Bool → Option ℕ → Message → Frame
made stream kind follows complete initial m = frames.Request (record { stream = stream; kind = kind; follows = follows; complete = complete; initial = initial; message = m })

pub plain_takes : (kind : Kind) (stream flags : ℕ) (body : List ℕ) (f : Frame) → InitialFits kind None false → (kind ≡ kinds.Channel → ⊥) → IsBytes body → stream < 2 ^ 31 → plain_at kind stream flags body ≡ Ok f → IsRow f (kind_number kind) stream flags body
unfolding plain_at
plain_takes kind stream flags body f initial other h low e =
    let next : Message → Result Frame FrameFault = λ m. Ok (made stream kind (flag 0x80 flags) false None m) in
    let a = refuse_ok (eqb stream 0) faults.WrongStream (found faults.MetadataLength (message_of (flag 0x100 flags) body) next) f e in
    let b = found_ok faults.MetadataLength (message_of (flag 0x100 flags) body) next f a.1 in
    let m = message_takes (flag 0x100 flags) body b.0 h b.1 in
    subst (λ (x : Frame). IsRow x (kind_number kind) stream flags body) (ok_is (made stream kind (flag 0x80 flags) false None b.0) f b.2)
    (record { number_is = refl; stream_is = refl; named = (m.flag_is, refl, λ is. absurd (other is)); body_is = m.parts; fits = ((above_zero stream a.0, low), initial, m.fits) })

pub plain_again : (kind : Kind) (stream flags : ℕ) (follows : Bool) (m : Message) → IsStream stream → flag 0x100 flags ≡ is_some m.metadata → flag 0x80 flags ≡ follows → MessageFits m → plain_at kind stream flags (payload m) ≡ Ok (made stream kind follows false None m)
unfolding plain_at
plain_again kind stream flags follows m is present follow fits =
    let above : eqb stream 0 ≡ false = grind (arith, is) in
    rw (above, present, message_again m.metadata m.content fits, follow) refl

pub counted_takes : (kind : Kind) (complete : Bool) (stream flags : ℕ) (body : List ℕ) (f : Frame) → ((n : ℕ) → IsStream n → InitialFits kind (Some n) complete) → (kind ≡ kinds.Channel → flag 0x40 flags ≡ complete) → IsBytes body → stream < 2 ^ 31 → counted_at kind complete stream flags body ≡ Ok f → IsRow f (kind_number kind) stream flags body
unfolding counted_at
counted_takes kind complete stream flags body f initial other h low e =
    let n = big_number 4 body in
    let last : Message → Result Frame FrameFault = λ m. Ok (made stream kind (flag 0x80 flags) complete (Some n) m) in
    let next : Message → Result Frame FrameFault = λ m. refuse (leb (2 ^ 31) n) faults.HighBit (last m) in
    let p = refuse_all_ok ((eqb stream 0, faults.WrongStream) ∷ (ltb (length body) 4, faults.ShortBody) ∷ (eqb n 0, faults.ZeroNumber) ∷ []) (found faults.MetadataLength (message_of (flag 0x100 flags) (drop 4 body)) next) f e in
    let b = found_ok faults.MetadataLength (message_of (flag 0x100 flags) (drop 4 body)) next f p.1 in
    let q = refuse_ok (leb (2 ^ 31) n) faults.HighBit (last b.0) f b.2 in
    let long : 4 ≤ length body = ltb-false _ _ p.0.1.0 in
    let below : n < 2 ^ 31 = leb-false _ _ q.0 in
    let is : IsStream n = (above_zero n p.0.1.1.0, below) in
    let m = message_takes (flag 0x100 flags) (drop 4 body) b.0 (IsBytes-drop 4 body h) b.1 in
    let whole : body ≡ big_bytes 4 n ++ payload b.0 = number_front 4 body long h ∙ ap (λ (t : List ℕ). big_bytes 4 n ++ t) m.parts in
    subst (λ (x : Frame). IsRow x (kind_number kind) stream flags body) (ok_is (made stream kind (flag 0x80 flags) complete (Some n) b.0) f q.1)
    (record { number_is = refl; stream_is = refl; named = (m.flag_is, refl, other); body_is = whole; fits = ((above_zero stream p.0.0, low), initial n is, m.fits) })

counted_of : (kind : Kind) (complete : Bool) (stream flags n : ℕ) (follows : Bool) (m : Message) (body : List ℕ) → IsStream stream → IsStream n → flag 0x100 flags ≡ is_some m.metadata → flag 0x80 flags ≡ follows → MessageFits m
    → 4 ≤ length body → big_number 4 body ≡ n → drop 4 body ≡ payload m → counted_at kind complete stream flags body ≡ Ok (made stream kind follows complete (Some n) m)
unfolding counted_at
counted_of kind complete stream flags n follows m body above is present follow fits long number after =
    let s : eqb stream 0 ≡ false = grind (arith, above) in
    let l : ltb (length body) 4 ≡ false = le-ltb _ _ long in
    let z : eqb n 0 ≡ false = grind (arith, is) in
    let top : leb (2 ^ 31) n ≡ false = grind (arith, is) in
    rw (s, l, number, z, after, present, message_again m.metadata m.content fits, top, follow) refl

pub counted_again : (kind : Kind) (complete : Bool) (stream flags n : ℕ) (follows : Bool) (m : Message) → IsStream stream → IsStream n → flag 0x100 flags ≡ is_some m.metadata → flag 0x80 flags ≡ follows → MessageFits m
    → counted_at kind complete stream flags (big_bytes 4 n ++ payload m) ≡ Ok (made stream kind follows complete (Some n) m)
counted_again kind complete stream flags n follows m above is present follow fits =
    counted_of kind complete stream flags n follows m (big_bytes 4 n ++ payload m) above is present follow fits (omega arith) (number_again 4 n (payload m) (omega (arith, is.1))) (rest_again 4 n (payload m))

-- ---- SETUP

abbrev setup_made : ℕ → List ℕ → Names → Message → Setup
setup_made flags body names m = record { resume = names.token; lease = flag 0x40 flags; major = big_number 2 body; minor = number_at 2 2 body; keepalive = number_at 4 4 body; lifetime = number_at 4 8 body; metadata_mime = names.metadata_mime; content_mime = names.content_mime; message = m }

pub setup_takes : (stream flags : ℕ) (body : List ℕ) (s : Setup) → IsBytes body → setup_at stream flags body ≡ Ok s → IsRow (frames.Setup s) 1 stream flags body
unfolding setup_at
setup_takes stream flags body s h e =
    let keepalive = number_at 4 4 body in
    let lifetime = number_at 4 8 body in
    let last : Names → Message → Result Setup FrameFault = λ names m. Ok (setup_made flags body names m) in
    let third : Names → Message → Result Setup FrameFault = λ names m. refuse (leb (2 ^ 31) keepalive || leb (2 ^ 31) lifetime) faults.HighBit (last names m) in
    let second : Names → Result Setup FrameFault = λ names. found faults.MetadataLength (message_of (flag 0x100 flags) names.rest) (third names) in
    let p = refuse_all_ok ((not (eqb stream 0), faults.WrongStream) ∷ (ltb (length body) 12, faults.ShortBody) ∷ (eqb keepalive 0 || eqb lifetime 0, faults.ZeroNumber) ∷ []) (found faults.NameLength (names_of (flag 0x80 flags) (drop 12 body)) second) s e in
    let a = found_ok faults.NameLength (names_of (flag 0x80 flags) (drop 12 body)) second s p.1 in
    let b = found_ok faults.MetadataLength (message_of (flag 0x100 flags) a.0.rest) (third a.0) s a.2 in
    let q = refuse_ok (leb (2 ^ 31) keepalive || leb (2 ^ 31) lifetime) faults.HighBit (last a.0 b.0) s b.2 in
    let zero_is : stream ≡ 0 = grind (arith, p.0.0) in
    let long : 12 ≤ length body = ltb-false _ _ p.0.1.0 in
    let z = or_false (eqb keepalive 0) (eqb lifetime 0) p.0.1.1.0 in
    let t = or_false (leb (2 ^ 31) keepalive) (leb (2 ^ 31) lifetime) q.0 in
    let names = names_take (flag 0x80 flags) (drop 12 body) a.0 (IsBytes-drop 12 body h) a.1 in
    let m = message_takes (flag 0x100 flags) a.0.rest b.0 names.rest_bytes b.1 in
    let tail : drop 12 body ≡ if_there 2 a.0.token ++ (counted_bytes 1 a.0.metadata_mime ++ (counted_bytes 1 a.0.content_mime ++ payload b.0)) =
    names.parts ∙ ap (λ (t : List ℕ). if_there 2 a.0.token ++ (counted_bytes 1 a.0.metadata_mime ++ (counted_bytes 1 a.0.content_mime ++ t))) m.parts in
    let e8 = number_next 4 8 body (omega arith) h ∙ ap (λ (t : List ℕ). big_bytes 4 lifetime ++ t) tail in
    let e4 = number_next 4 4 body (omega arith) h ∙ ap (λ (t : List ℕ). big_bytes 4 keepalive ++ t) e8 in
    let e2 = number_next 2 2 body (omega arith) h ∙ ap (λ (t : List ℕ). big_bytes 2 (number_at 2 2 body) ++ t) e4 in
    let whole : body ≡ body_of (frames.Setup (setup_made flags body a.0 b.0)) = number_front 2 body (omega arith) h ∙ ap (λ (t : List ℕ). big_bytes 2 (big_number 2 body) ++ t) e2 in
    subst (λ (x : Setup). IsRow (frames.Setup x) 1 stream flags body) (ok_is (setup_made flags body a.0 b.0) s q.1)
    (record {
      number_is = refl;
      stream_is = sym zero_is;
      named = (m.flag_is, names.flag_is, refl);
      body_is = whole;
      fits = (big_from-lt 0 2 body h, big_from-lt 0 2 (drop 2 body) (IsBytes-drop 2 body h), (above_zero keepalive z.0, leb-false _ _ t.0), (above_zero lifetime z.1, leb-false _ _ t.1), names.token, names.metadata, names.content, m.fits);
    })

abbrev setup_names : Setup → Names
setup_names s = record { token = s.resume; metadata_mime = s.metadata_mime; content_mime = s.content_mime; rest = payload s.message }

setup_of : (flags : ℕ) (s : Setup) (body : List ℕ) → HasFlags (frames.Setup s) flags → FieldsFit (frames.Setup s) → 12 ≤ length body → big_number 2 body ≡ s.major → number_at 2 2 body ≡ s.minor → number_at 4 4 body ≡ s.keepalive → number_at 4 8 body ≡ s.lifetime
    → drop 12 body ≡ if_there 2 s.resume ++ (counted_bytes 1 s.metadata_mime ++ (counted_bytes 1 s.content_mime ++ payload s.message)) → setup_at 0 flags body ≡ Ok s
unfolding setup_at
setup_of flags s body named fits long major minor keepalive lifetime after =
    let l : ltb (length body) 12 ≡ false = le-ltb _ _ long in
    let z1 : eqb s.keepalive 0 ≡ false = grind (arith, fits.2) in
    let z2 : eqb s.lifetime 0 ≡ false = grind (arith, fits.3) in
    let t1 : leb (2 ^ 31) s.keepalive ≡ false = grind (arith, fits.2) in
    let t2 : leb (2 ^ 31) s.lifetime ≡ false = grind (arith, fits.3) in
    rw (l, keepalive, lifetime, z1, z2, named.1, after, names_again (setup_names s) fits.4 fits.5 fits.6, named.0, message_again s.message.metadata s.message.content fits.7, t1, t2, named.2, major, minor) refl

pub setup_again : (flags : ℕ) (s : Setup) → HasFlags (frames.Setup s) flags → FieldsFit (frames.Setup s) → setup_at 0 flags (body_of (frames.Setup s)) ≡ Ok s
setup_again flags s named fits =
    let tail = if_there 2 s.resume ++ (counted_bytes 1 s.metadata_mime ++ (counted_bytes 1 s.content_mime ++ payload s.message)) in
    let l8 = big_bytes 4 s.lifetime ++ tail in
    let l4 = big_bytes 4 s.keepalive ++ l8 in
    let l2 = big_bytes 2 s.minor ++ l4 in
    setup_of flags s (body_of (frames.Setup s)) named fits (omega arith)
    (number_again 2 s.major l2 fits.0) (number_again 2 s.minor l4 fits.1) (number_again 4 s.keepalive l8 (omega (arith, fits.2.1))) (number_again 4 s.lifetime tail (omega (arith, fits.3.1))) refl

-- ---- LEASE

lease_meta : (present : Bool) (body rest : List ℕ) → drop 8 body ≡ rest → (cond (not present && ltb 8 (length body)) true false ≡ false) → rest ≡ to_end (if present then Some rest else None) × (present ≡ is_some (if present then Some rest else None))
lease_meta true body rest e t = (refl, refl)
lease_meta false body rest e t =
    let short : length body ≤ 8 = grind arith in
    (sym e ∙ nil_from_length (drop 8 body) (omega (arith, length-drop 8 body)), refl)

and_false : (a b : Bool) → (a && b) ≡ false → cond (a && b) true false ≡ false
and_false a b e = rw e refl

pub lease_takes : (stream flags : ℕ) (body : List ℕ) (f : Frame) → IsBytes body → lease_at stream flags body ≡ Ok f → IsRow f 2 stream flags body
unfolding lease_at
lease_takes stream flags body f h e =
    let ttl = big_number 4 body in
    let count = number_at 4 4 body in
    let m = flag 0x100 flags in
    let made_lease : Frame = frames.Lease ttl count (if m then Some (drop 8 body) else None) in
    let p = refuse_all_ok ((not (eqb stream 0), faults.WrongStream) ∷ (ltb (length body) 8, faults.ShortBody) ∷ (not m && ltb 8 (length body), faults.LongBody) ∷ (leb (2 ^ 31) ttl || leb (2 ^ 31) count, faults.HighBit) ∷ []) (Ok made_lease) f e in
    let zero_is : stream ≡ 0 = grind (arith, p.0.0) in
    let long : 8 ≤ length body = ltb-false _ _ p.0.1.0 in
    let t = or_false (leb (2 ^ 31) ttl) (leb (2 ^ 31) count) p.0.1.1.1.0 in
    let end = lease_meta m body (drop 8 body) refl (and_false (not m) (ltb 8 (length body)) p.0.1.1.0) in
    let e4 = number_next 4 4 body long h ∙ ap (λ (t : List ℕ). big_bytes 4 count ++ t) end.0 in
    let whole : body ≡ body_of made_lease = number_front 4 body (omega arith) h ∙ ap (λ (t : List ℕ). big_bytes 4 ttl ++ t) e4 in
    subst (λ (x : Frame). IsRow x 2 stream flags body) (ok_is made_lease f p.1)
    (record { number_is = refl; stream_is = sym zero_is; named = end.1; body_is = whole; fits = (leb-false _ _ t.0, leb-false _ _ t.1) })

lease_of : (flags ttl count : ℕ) (metadata : Option (List ℕ)) (body : List ℕ) → flag 0x100 flags ≡ is_some metadata → (ttl < 2 ^ 31) × (count < 2 ^ 31) → 8 ≤ length body → big_number 4 body ≡ ttl → number_at 4 4 body ≡ count → drop 8 body ≡ to_end metadata → lease_at 0 flags body ≡ Ok (frames.Lease ttl count metadata)
unfolding lease_at
lease_of flags ttl count None body named fits long a b after =
    let l : ltb (length body) 8 ≡ false = le-ltb _ _ long in
    let k : ltb 8 (length body) ≡ false = le-ltb _ _ (omega (arith, ap length after, length-drop 8 body)) in
    let t1 : leb (2 ^ 31) ttl ≡ false = grind (arith, fits.0) in
    let t2 : leb (2 ^ 31) count ≡ false = grind (arith, fits.1) in
    rw (l, named, k, a, b, t1, t2) refl
lease_of flags ttl count (Some metadata) body named fits long a b after =
    let l : ltb (length body) 8 ≡ false = le-ltb _ _ long in
    let t1 : leb (2 ^ 31) ttl ≡ false = grind (arith, fits.0) in
    let t2 : leb (2 ^ 31) count ≡ false = grind (arith, fits.1) in
    rw (l, named, a, b, t1, t2, after) refl

pub lease_again : (flags ttl count : ℕ) (metadata : Option (List ℕ)) → flag 0x100 flags ≡ is_some metadata → (ttl < 2 ^ 31) × (count < 2 ^ 31) → lease_at 0 flags (big_bytes 4 ttl ++ (big_bytes 4 count ++ to_end metadata)) ≡ Ok (frames.Lease ttl count metadata)
lease_again flags ttl count metadata named fits =
    lease_of flags ttl count metadata (big_bytes 4 ttl ++ (big_bytes 4 count ++ to_end metadata)) named fits (omega arith) (number_again 4 ttl (big_bytes 4 count ++ to_end metadata) (omega (arith, fits.0))) (number_again 4 count (to_end metadata) (omega (arith, fits.1))) refl

-- ---- KEEPALIVE, RESUME_OK, EXT, METADATA_PUSH

pub keepalive_takes : (stream flags : ℕ) (body : List ℕ) (f : Frame) → IsBytes body → keepalive_at stream flags body ≡ Ok f → IsRow f 3 stream flags body
unfolding keepalive_at
keepalive_takes stream flags body f h e =
    let n = big_number 8 body in
    let p = refuse_all_ok ((not (eqb stream 0), faults.WrongStream) ∷ (ltb (length body) 8, faults.ShortBody) ∷ (leb (2 ^ 63) n, faults.HighBit) ∷ []) (Ok (frames.Keepalive (flag 0x80 flags) n (drop 8 body))) f e in
    let zero_is : stream ≡ 0 = grind (arith, p.0.0) in
    subst (λ (x : Frame). IsRow x 3 stream flags body) (ok_is (frames.Keepalive (flag 0x80 flags) n (drop 8 body)) f p.1)
    (record { number_is = refl; stream_is = sym zero_is; named = refl; body_is = number_front 8 body (ltb-false _ _ p.0.1.0) h; fits = leb-false _ _ p.0.1.1.0 })

keepalive_of : (flags position : ℕ) (respond : Bool) (content body : List ℕ) → flag 0x80 flags ≡ respond → position < 2 ^ 63 → 8 ≤ length body → big_number 8 body ≡ position → drop 8 body ≡ content → keepalive_at 0 flags body ≡ Ok (frames.Keepalive respond position content)
unfolding keepalive_at
keepalive_of flags position respond content body named fits long is after =
    let l : ltb (length body) 8 ≡ false = le-ltb _ _ long in
    let t : leb (2 ^ 63) position ≡ false = grind arith in
    rw (l, is, t, named, after) refl

pub keepalive_again : (flags position : ℕ) (respond : Bool) (content : List ℕ) → flag 0x80 flags ≡ respond → position < 2 ^ 63 → keepalive_at 0 flags (big_bytes 8 position ++ content) ≡ Ok (frames.Keepalive respond position content)
keepalive_again flags position respond content named fits =
    keepalive_of flags position respond content (big_bytes 8 position ++ content) named fits (omega arith) (number_again 8 position content (omega arith)) (rest_again 8 position content)

pub resume_ok_takes : (stream flags : ℕ) (body : List ℕ) (f : Frame) → IsBytes body → resume_ok_at stream body ≡ Ok f → IsRow f 14 stream flags body
unfolding resume_ok_at
resume_ok_takes stream flags body f h e =
    let n = big_number 8 body in
    let p = refuse_all_ok ((not (eqb stream 0), faults.WrongStream) ∷ (ltb (length body) 8, faults.ShortBody) ∷ (ltb 8 (length body), faults.LongBody) ∷ (leb (2 ^ 63) n, faults.HighBit) ∷ []) (Ok (frames.ResumeOk n)) f e in
    let zero_is : stream ≡ 0 = grind (arith, p.0.0) in
    let long : 8 ≤ length body = ltb-false _ _ p.0.1.0 in
    let short : length body ≤ 8 = ltb-false _ _ p.0.1.1.0 in
    let nothing : drop 8 body ≡ [] = nil_from_length (drop 8 body) (omega (arith, length-drop 8 body)) in
    subst (λ (x : Frame). IsRow x 14 stream flags body) (ok_is (frames.ResumeOk n) f p.1)
    (record { number_is = refl; stream_is = sym zero_is; named = tt; body_is = number_front 8 body long h ∙ ap (λ (t : List ℕ). big_bytes 8 n ++ t) nothing; fits = leb-false _ _ p.0.1.1.1.0 })

resume_ok_of : (position : ℕ) (body : List ℕ) → position < 2 ^ 63 → length body ≡ 8 → big_number 8 body ≡ position → resume_ok_at 0 body ≡ Ok (frames.ResumeOk position)
unfolding resume_ok_at
resume_ok_of position body fits len is =
    let t : leb (2 ^ 63) position ≡ false = grind arith in
    rw (len, is, t) refl

pub resume_ok_again : (position : ℕ) → position < 2 ^ 63 → resume_ok_at 0 (big_bytes 8 position) ≡ Ok (frames.ResumeOk position)
resume_ok_again position fits = resume_ok_of position (big_bytes 8 position) fits refl (number_again 8 position [] (omega arith))

pub ext_takes : (stream flags : ℕ) (body : List ℕ) (f : Frame) → IsBytes body → stream < 2 ^ 31 → flags < 1024 → ext_at stream flags body ≡ Ok f → IsRow f 63 stream flags body
unfolding ext_at
ext_takes stream flags body f h low few e =
    let n = big_number 4 body in
    let p = refuse_all_ok ((ltb (length body) 4, faults.ShortBody) ∷ (leb (2 ^ 31) n, faults.HighBit) ∷ []) (Ok (frames.Ext stream flags n (drop 4 body))) f e in
    subst (λ (x : Frame). IsRow x 63 stream flags body) (ok_is (frames.Ext stream flags n (drop 4 body)) f p.1)
    (record { number_is = refl; stream_is = refl; named = refl; body_is = number_front 4 body (ltb-false _ _ p.0.0) h; fits = (low, few, leb-false _ _ p.0.1.0) })

ext_of : (stream flags n : ℕ) (rest body : List ℕ) → n < 2 ^ 31 → 4 ≤ length body → big_number 4 body ≡ n → drop 4 body ≡ rest → ext_at stream flags body ≡ Ok (frames.Ext stream flags n rest)
unfolding ext_at
ext_of stream flags n rest body fits long is after =
    let l : ltb (length body) 4 ≡ false = le-ltb _ _ long in
    let t : leb (2 ^ 31) n ≡ false = grind arith in
    rw (l, is, t, after) refl

pub ext_again : (stream flags n : ℕ) (rest : List ℕ) → n < 2 ^ 31 → ext_at stream flags (big_bytes 4 n ++ rest) ≡ Ok (frames.Ext stream flags n rest)
ext_again stream flags n rest fits = ext_of stream flags n rest (big_bytes 4 n ++ rest) fits (omega arith) (number_again 4 n rest (omega arith)) (rest_again 4 n rest)

pub metadata_push_takes : (stream flags : ℕ) (body : List ℕ) (f : Frame) → metadata_push_at stream body ≡ Ok f → IsRow f 12 stream flags body
unfolding metadata_push_at
metadata_push_takes stream flags body f e =
    let p = refuse_all_ok ((not (eqb stream 0), faults.WrongStream) ∷ []) (Ok (frames.MetadataPush body)) f e in
    let zero_is : stream ≡ 0 = grind (arith, p.0.0) in
    subst (λ (x : Frame). IsRow x 12 stream flags body) (ok_is (frames.MetadataPush body) f p.1)
    (record { number_is = refl; stream_is = sym zero_is; named = tt; body_is = refl; fits = tt })

pub metadata_push_again : (body : List ℕ) → metadata_push_at 0 body ≡ Ok (frames.MetadataPush body)
unfolding metadata_push_at
metadata_push_again body = refl

-- ---- RESUME

abbrev resume_made : List ℕ → Resume
resume_made body =
    let len = number_at 2 4 body in
    record { major = big_number 2 body; minor = number_at 2 2 body; token = take len (drop 6 body); server_position = long_at (6 + len) body; client_position = long_at (14 + len) body }

pub resume_takes : (stream flags : ℕ) (body : List ℕ) (r : Resume) → IsBytes body → resume_at stream body ≡ Ok r → IsRow (frames.Resume r) 13 stream flags body
unfolding resume_at long_at
resume_takes stream flags body r h e =
    let len = number_at 2 4 body in
    let server = long_at (6 + len) body in
    let client = long_at (14 + len) body in
    let p = refuse_all_ok ((not (eqb stream 0), faults.WrongStream) ∷ (ltb (length body) 22, faults.ShortBody) ∷ (ltb (22 + len) (length body), faults.LongBody) ∷ (ltb (length body) (22 + len), faults.NameLength) ∷ (leb (2 ^ 63) server || leb (2 ^ 63) client, faults.HighBit) ∷ []) (Ok (resume_made body)) r e in
    let zero_is : stream ≡ 0 = grind (arith, p.0.0) in
    let least : 22 ≤ length body = ltb-false _ _ p.0.1.0 in
    let short : length body ≤ 22 + len = ltb-false _ _ p.0.1.1.0 in
    let long : 22 + len ≤ length body = ltb-false _ _ p.0.1.1.1.0 in
    let t = or_false (leb (2 ^ 63) server) (leb (2 ^ 63) client) p.0.1.1.1.1.0 in
    let token = take len (drop 6 body) in
    let token_len : length token ≡ len = omega (arith, length-take len (drop 6 body), length-drop 6 body) in
    let fit : len < 2 ^ 16 = big_from-lt 0 2 (drop 4 body) (IsBytes-drop 4 body h) in
    let nothing : drop (14 + len + 8) body ≡ [] = nil_from_length (drop (14 + len + 8) body) (omega (arith, length-drop (14 + len + 8) body)) in
    let e14 : drop (14 + len) body ≡ big_bytes 8 client = number_next 8 (14 + len) body (omega arith) h ∙ ap (λ (t : List ℕ). big_bytes 8 client ++ t) nothing ∙ append-nil (big_bytes 8 client) in
    let place : drop (6 + len + 8) body ≡ drop (14 + len) body = ap (λ (k : ℕ). drop k body) (omega arith) in
    let e6 : drop (6 + len) body ≡ big_bytes 8 server ++ big_bytes 8 client = number_next 8 (6 + len) body (omega arith) h ∙ ap (λ (t : List ℕ). big_bytes 8 server ++ t) (place ∙ e14) in
    let cut : drop 6 body ≡ token ++ (big_bytes 8 server ++ big_bytes 8 client) = sym (take-append-drop len (drop 6 body)) ∙ ap (λ (t : List ℕ). token ++ t) (drop-drop len 6 body ∙ e6) in
    let e4 : drop 4 body ≡ counted_bytes 2 token ++ (big_bytes 8 server ++ big_bytes 8 client) =
    number_next 2 4 body (omega arith) h ∙ ap (λ (t : List ℕ). big_bytes 2 len ++ t) cut ∙ sym (append_assoc (big_bytes 2 len) token (big_bytes 8 server ++ big_bytes 8 client))
    ∙ ap (λ (k : ℕ). (big_bytes 2 k ++ token) ++ (big_bytes 8 server ++ big_bytes 8 client)) (sym token_len) in
    let e2 = number_next 2 2 body (omega arith) h ∙ ap (λ (t : List ℕ). big_bytes 2 (number_at 2 2 body) ++ t) e4 in
    let whole : body ≡ body_of (frames.Resume (resume_made body)) = number_front 2 body (omega arith) h ∙ ap (λ (t : List ℕ). big_bytes 2 (big_number 2 body) ++ t) e2 in
    subst (λ (x : Resume). IsRow (frames.Resume x) 13 stream flags body) (ok_is (resume_made body) r p.1)
    (record { number_is = refl; stream_is = sym zero_is; named = tt; body_is = whole; fits = (big_from-lt 0 2 body h, big_from-lt 0 2 (drop 2 body) (IsBytes-drop 2 body h), omega arith, leb-false _ _ t.0, leb-false _ _ t.1) })

resume_of : (r : Resume) (body : List ℕ) → FieldsFit (frames.Resume r) → length body ≡ 22 + length r.token → big_number 2 body ≡ r.major → number_at 2 2 body ≡ r.minor → number_at 2 4 body ≡ length r.token → take (length r.token) (drop 6 body) ≡ r.token
    → long_at (6 + length r.token) body ≡ r.server_position → long_at (14 + length r.token) body ≡ r.client_position → resume_at 0 body ≡ Ok r
unfolding resume_at long_at
resume_of r body fits len major minor token_len token server client =
    let l : ltb (length body) 22 ≡ false = le-ltb _ _ (omega arith) in
    let k : ltb (22 + length r.token) (length body) ≡ false = le-ltb _ _ (omega arith) in
    let m : ltb (length body) (22 + length r.token) ≡ false = le-ltb _ _ (omega arith) in
    let t1 : leb (2 ^ 63) r.server_position ≡ false = grind (arith, fits.3) in
    let t2 : leb (2 ^ 63) r.client_position ≡ false = grind (arith, fits.4) in
    rw (l, token_len, k, m, server, client, t1, t2, major, minor, token) refl

pub resume_again : (r : Resume) → FieldsFit (frames.Resume r) → resume_at 0 (body_of (frames.Resume r)) ≡ Ok r
unfolding long_at
resume_again r fits =
    let n = length r.token in
    let last = big_bytes 8 r.client_position in
    let ends = big_bytes 8 r.server_position ++ last in
    let cut = counted_bytes 2 r.token ++ ends in
    let l2 = big_bytes 2 r.minor ++ cut in
    let body = body_of (frames.Resume r) in
    let six : drop 6 body ≡ r.token ++ ends = append_assoc [] r.token ends in
    let at6 : drop (6 + n) body ≡ ends = sym (drop-drop n 6 body) ∙ ap (drop n) six ∙ drop_at r.token ends n refl in
    let at14 : drop (14 + n) body ≡ last = ap (λ (k : ℕ). drop k body) (omega arith) ∙ sym (drop-drop 8 (6 + n) body) ∙ ap (drop 8) at6 ∙ rest_again 8 r.server_position last in
    resume_of r body fits (omega (arith, length-append r.token ends))
    (number_again 2 r.major l2 fits.0) (number_again 2 r.minor cut fits.1) (number_again 2 n (r.token ++ ends) fits.2)
    (ap (take n) six ∙ take_at r.token ends n refl)
    (ap (big_number 8) at6 ∙ number_again 8 r.server_position last (omega (arith, fits.3)))
    (ap (big_number 8) at14 ∙ number_again 8 r.client_position [] (omega (arith, fits.4)))
