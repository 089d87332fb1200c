-- A line is that of one frame.
use Rattle.std.proofs.Common.{◌≡◌, ℕ, zero, suc, ◌<◌, ◌^◌, Bool, true, false, ltb, if◌then◌else◌, List, [], ◌∷◌, ◌++◌, Option, Some, None, refl, sym, ap, ◌∙◌, arith}
use Rattle.std.specs.Prelude.{bytes_eq, codes, decimal, is_some}
use Rattle.std.specs.List.{list_all}
use Rattle.std.specs.Str.Parse.{digits_value}
use Rattle.std.proofs.lemmas.Fmt.{decimal_is_IsNumeral}
use Rattle.std.proofs.lemmas.Bool.{and_parts, ltb-true}
use Rattle.hex.specs.Hex.{IsBytes}
use Rattle.rs_wire.specs.declared.message.Message.{Message}
use Rattle.rs_wire.specs.declared.words.Kind.{Kind}
use Rattle.rs_wire.specs.declared.words.Kind.TheVariants as kinds
use Rattle.rs_frame.specs.Spelling.{FieldsFit, InitialFits}
use Rattle.rs_frame.specs.declared.frame.Frame.{Frame}
use Rattle.rs_frame.specs.declared.frame.Frame.TheVariants as frames
use Rattle.frame_text.specs.Lines.{HasBytes, HasOption, fields_of, line_of}
use Rattle.frame_text.specs.Names.{frame_name, kind_name}
use Rattle.frame_text.specs.Spelled.{bytes_of, channel_words, meaning_in, option_of, payload_words, respond_words, setup_words}
use Rattle.frame_text.specs.Words.{blob_word, letters_word, letter_if, option_word}
use Rattle.frame_text.proofs.Steps.{AllAboveSpace, AboveSpace, AboveSpace-blob, AboveSpace-decimal, AboveSpace-option, bytes_again, option_again, same_words}

-- ---- a frame from the words of its line

abbrev nth : ℕ → List (List ℕ) → List ℕ
nth n [] = []
nth zero (w ∷ ws) = w
nth (suc n) (w ∷ ws) = nth n ws

abbrev number : ℕ → List (List ℕ) → ℕ
number n ws = digits_value 10 (nth n ws)

abbrev bytes : ℕ → List (List ℕ) → List ℕ
bytes n ws = bytes_of (nth n ws)

abbrev message : ℕ → ℕ → List (List ℕ) → Message
message n k ws = record { metadata = option_of (nth n ws); content = bytes k ws }

abbrev or_none : {A : Type 0} → A → Option A → A
or_none none None = none
or_none none (Some a) = a

abbrev setup_flags_of : List ℕ → Bool × Bool
setup_flags_of word = or_none (false, false) (meaning_in setup_words word)

abbrev respond_of : List ℕ → Bool
respond_of word = or_none false (meaning_in respond_words word)

abbrev channel_of : List ℕ → Bool × Bool
channel_of word = or_none (false, false) (meaning_in channel_words word)

abbrev payload_of : List ℕ → Bool × Bool × Bool
payload_of word = or_none (false, false, false) (meaning_in payload_words word)

abbrev setup_from : List (List ℕ) → Frame
setup_from ws = frames.Setup (record {
  resume = option_of (nth 6 ws);
  lease = (setup_flags_of (nth 1 ws)).1;
  major = number 2 ws;
  minor = number 3 ws;
  keepalive = number 4 ws;
  lifetime = number 5 ws;
  metadata_mime = bytes 7 ws;
  content_mime = bytes 8 ws;
  message = message 9 10 ws;
})

abbrev resume_from : List (List ℕ) → Frame
resume_from ws = frames.Resume (record { major = number 1 ws; minor = number 2 ws; token = bytes 3 ws; server_position = number 4 ws; client_position = number 5 ws })

abbrev plain_from : Kind → List (List ℕ) → Frame
plain_from kind ws = frames.Request (record {
  stream = number 0 ws;
  kind = kind;
  follows = (channel_of (nth 1 ws)).0;
  complete = false;
  initial = None;
  message = message 2 3 ws;
})

abbrev counted_from : Kind → List (List ℕ) → Frame
counted_from kind ws = frames.Request (record {
  stream = number 0 ws;
  kind = kind;
  follows = (channel_of (nth 1 ws)).0;
  complete = (channel_of (nth 1 ws)).1;
  initial = Some (number 2 ws);
  message = message 3 4 ws;
})

abbrev payload_from : Bool × Bool × Bool → List (List ℕ) → Frame
payload_from f ws = frames.Payload (number 0 ws) f.0 f.1 f.2 (message 2 3 ws)

unfoldable from_words : List (List ℕ) → Frame
from_words [] = frames.Cancel 0
from_words (name ∷ ws) =
    if bytes_eq name (codes "SETUP") then setup_from ws
    else if bytes_eq name (codes "LEASE") then frames.Lease (number 1 ws) (number 2 ws) (option_of (nth 3 ws))
    else if bytes_eq name (codes "KEEPALIVE") then frames.Keepalive (respond_of (nth 1 ws)) (number 2 ws) (bytes 3 ws)
    else if bytes_eq name (codes "METADATA_PUSH") then frames.MetadataPush (bytes 1 ws)
    else if bytes_eq name (codes "RESUME") then resume_from ws
    else if bytes_eq name (codes "RESUME_OK") then frames.ResumeOk (number 1 ws)
    else if bytes_eq name (codes "EXT") then frames.Ext (number 0 ws) (number 1 ws) (number 2 ws) (bytes 3 ws)
    else if bytes_eq name (codes "REQUEST_RESPONSE") then plain_from kinds.Response ws
    else if bytes_eq name (codes "REQUEST_FNF") then plain_from kinds.Fnf ws
    else if bytes_eq name (codes "REQUEST_STREAM") then counted_from kinds.Stream ws
    else if bytes_eq name (codes "REQUEST_CHANNEL") then counted_from kinds.Channel ws
    else if bytes_eq name (codes "REQUEST_N") then frames.RequestN (number 0 ws) (number 1 ws)
    else if bytes_eq name (codes "CANCEL") then frames.Cancel (number 0 ws)
    else if bytes_eq name (codes "PAYLOAD") then payload_from (payload_of (nth 1 ws)) ws
    else if bytes_eq name (codes "ERROR") then frames.Error (number 0 ws) (number 1 ws) (bytes 2 ws)
    else frames.Unknown (number 0 ws) (number 1 ws) (number 2 ws) (bytes 3 ws)

-- ---- words and what they say

back : (n : ℕ) → n < 2 ^ 64 → digits_value 10 (decimal n) ≡ n
back n small = (decimal_is_IsNumeral n small).1

setup_again : (r l : Bool) → setup_flags_of (letters_word (letter_if r (codes "R") ++ letter_if l (codes "L"))) ≡ (r, l)
setup_again false false = refl
setup_again true false = refl
setup_again false true = refl
setup_again true true = refl

respond_again : (r : Bool) → respond_of (letters_word (letter_if r (codes "R"))) ≡ r
respond_again false = refl
respond_again true = refl

channel_again : (f c : Bool) → channel_of (letters_word (letter_if f (codes "F") ++ letter_if c (codes "C"))) ≡ (f, c)
channel_again false false = refl
channel_again true false = refl
channel_again false true = refl
channel_again true true = refl

payload_again : (f c n : Bool) → payload_of (letters_word (letter_if f (codes "F") ++ (letter_if c (codes "C") ++ letter_if n (codes "N")))) ≡ (f, c, n)
payload_again false false false = refl
payload_again true false false = refl
payload_again false true false = refl
payload_again false false true = refl
payload_again true true false = refl
payload_again true false true = refl
payload_again false true true = refl
payload_again true true true = refl

-- ---- each frame from its own words

no_some : (n : ℕ) → Some n ≡ None → ⊥
no_some n e = cc

no_none : (n : ℕ) → None ≡ Some n → ⊥
no_none n e = cc

same_below : (n k : ℕ) → Some n ≡ Some k → k < 2 ^ 31 → n < 2 ^ 31
same_below n k e lt = let same : n ≡ k = cc in omega (arith, same, lt)

abbrev pub made : Kind → ℕ → Bool → Bool → Option ℕ → Message → Frame
made kind stream follows complete initial message = frames.Request (record { stream = stream; kind = kind; follows = follows; complete = complete; initial = initial; message = message })

-- frames of equal fields

request_is : {kind : Kind} {s stream : ℕ} {f follows c complete : Bool} {i initial : Option ℕ} {d metadata : Option (List ℕ)} {e content : List ℕ}
    → s ≡ stream → f ≡ follows → c ≡ complete → i ≡ initial → d ≡ metadata → e ≡ content
    → made kind s f c i (record { metadata = d; content = e }) ≡ made kind stream follows complete initial (record { metadata = metadata; content = content })
request_is a b c d e f = cc

abbrev setup_made : Option (List ℕ) → Bool → ℕ → ℕ → ℕ → ℕ → List ℕ → List ℕ → Option (List ℕ) → List ℕ → Frame
setup_made resume lease major minor keepalive lifetime metadata_mime content_mime metadata content = frames.Setup (record {
  resume = resume;
  lease = lease;
  major = major;
  minor = minor;
  keepalive = keepalive;
  lifetime = lifetime;
  metadata_mime = metadata_mime;
  content_mime = content_mime;
  message = record { metadata = metadata; content = content };
})

setup_is : {r r' : Option (List ℕ)} {l l' : Bool} {a a' b b' c c' d d' : ℕ} {e e' f f' : List ℕ} {m m' : Option (List ℕ)} {g g' : List ℕ}
    → r ≡ r' → l ≡ l' → a ≡ a' → b ≡ b' → c ≡ c' → d ≡ d' → e ≡ e' → f ≡ f' → m ≡ m' → g ≡ g'
    → setup_made r l a b c d e f m g ≡ setup_made r' l' a' b' c' d' e' f' m' g'
setup_is p1 p2 p3 p4 p5 p6 p7 p8 p9 p10 = cc

lease_is : {t ttl c count : ℕ} {m metadata : Option (List ℕ)} → t ≡ ttl → c ≡ count → m ≡ metadata → frames.Lease t c m ≡ frames.Lease ttl count metadata
lease_is a b c = cc

keepalive_is : {r respond : Bool} {p position : ℕ} {c content : List ℕ} → r ≡ respond → p ≡ position → c ≡ content → frames.Keepalive r p c ≡ frames.Keepalive respond position content
keepalive_is a b c = cc

abbrev resume_made : ℕ → ℕ → List ℕ → ℕ → ℕ → Frame
resume_made major minor token server client = frames.Resume (record { major = major; minor = minor; token = token; server_position = server; client_position = client })

resume_is : {a a' b b' : ℕ} {t t' : List ℕ} {c c' d d' : ℕ} → a ≡ a' → b ≡ b' → t ≡ t' → c ≡ c' → d ≡ d' → resume_made a b t c d ≡ resume_made a' b' t' c' d'
resume_is p1 p2 p3 p4 p5 = cc

ext_is : {a a' b b' c c' : ℕ} {r r' : List ℕ} → a ≡ a' → b ≡ b' → c ≡ c' → r ≡ r' → frames.Ext a b c r ≡ frames.Ext a' b' c' r'
ext_is p1 p2 p3 p4 = cc

unknown_is : {a a' b b' c c' : ℕ} {r r' : List ℕ} → a ≡ a' → b ≡ b' → c ≡ c' → r ≡ r' → frames.Unknown a b c r ≡ frames.Unknown a' b' c' r'
unknown_is p1 p2 p3 p4 = cc

request_n_is : {a a' b b' : ℕ} → a ≡ a' → b ≡ b' → frames.RequestN a b ≡ frames.RequestN a' b'
request_n_is p1 p2 = cc

error_is : {a a' b b' : ℕ} {c c' : List ℕ} → a ≡ a' → b ≡ b' → c ≡ c' → frames.Error a b c ≡ frames.Error a' b' c'
error_is p1 p2 p3 = cc

abbrev payload_made : ℕ → Bool × Bool × Bool → Option (List ℕ) → List ℕ → Frame
payload_made stream f metadata content = frames.Payload stream f.0 f.1 f.2 (record { metadata = metadata; content = content })

payload_is : {a a' : ℕ} {f f' : Bool × Bool × Bool} {m m' : Option (List ℕ)} {c c' : List ℕ} → a ≡ a' → f ≡ f' → m ≡ m' → c ≡ c' → payload_made a f m c ≡ payload_made a' f' m' c'
payload_is p1 p2 p3 p4 = cc

plain_again : (kind : Kind) (stream : ℕ) (follows complete : Bool) (initial : Option ℕ) (m : Message) → initial ≡ None → complete ≡ false → stream < 2 ^ 31 → HasBytes (made kind stream follows complete initial m)
    → plain_from kind (decimal stream ∷ letters_word (letter_if follows (codes "F") ++ letter_if complete (codes "C")) ∷ option_word m.metadata ∷ blob_word m.content ∷ []) ≡ made kind stream follows complete initial m
plain_again kind stream follows complete initial m none whole fits has =
    request_is (back stream (omega (arith, fits))) (ap (λ (p : Bool × Bool). p.0) (channel_again follows complete)) (sym whole) (sym none) (option_again m.metadata has.0) (bytes_again m.content has.1)

counted_again : (kind : Kind) (stream : ℕ) (follows complete : Bool) (n : ℕ) (m : Message) → n < 2 ^ 31 → stream < 2 ^ 31 → HasBytes (made kind stream follows complete (Some n) m)
    → counted_from kind (decimal stream ∷ letters_word (letter_if follows (codes "F") ++ letter_if complete (codes "C")) ∷ decimal n ∷ option_word m.metadata ∷ blob_word m.content ∷ []) ≡ made kind stream follows complete (Some n) m
counted_again kind stream follows complete n m fits_n fits has =
    request_is (back stream (omega (arith, fits))) (ap (λ (p : Bool × Bool). p.0) (channel_again follows complete)) (ap (λ (p : Bool × Bool). p.1) (channel_again follows complete))
    (ap (λ (k : ℕ). Some k) (back n (omega (arith, fits_n)))) (option_again m.metadata has.0) (bytes_again m.content has.1)

request_again : (kind : Kind) (stream : ℕ) (follows complete : Bool) (initial : Option ℕ) (m : Message) → FieldsFit (made kind stream follows complete initial m) → HasBytes (made kind stream follows complete initial m)
    → from_words (frame_name (made kind stream follows complete initial m) ∷ fields_of (made kind stream follows complete initial m)) ≡ made kind stream follows complete initial m
unfolding from_words
request_again kinds.Response stream follows complete None m fits has = plain_again kinds.Response stream follows complete None m refl fits.1.1 fits.0.1 has
request_again kinds.Response stream follows complete (Some n) m fits has = absurd (no_some n fits.1.0)
request_again kinds.Fnf stream follows complete None m fits has = plain_again kinds.Fnf stream follows complete None m refl fits.1.1 fits.0.1 has
request_again kinds.Fnf stream follows complete (Some n) m fits has = absurd (no_some n fits.1.0)
request_again kinds.Stream stream follows complete None m fits has = absurd (no_none fits.1.0 fits.1.1)
request_again kinds.Stream stream follows complete (Some n) m fits has = counted_again kinds.Stream stream follows complete n m (same_below n fits.1.0 fits.1.1 fits.1.2.1) fits.0.1 has
request_again kinds.Channel stream follows complete None m fits has = absurd (no_none fits.1.0 fits.1.1)
request_again kinds.Channel stream follows complete (Some n) m fits has = counted_again kinds.Channel stream follows complete n m (same_below n fits.1.0 fits.1.1 fits.1.2.1) fits.0.1 has

again : (f : Frame) → FieldsFit f → HasBytes f → from_words (frame_name f ∷ fields_of f) ≡ f
unfolding from_words
again (frames.Setup s) fits has =
    setup_is (option_again s.resume has.0) (ap (λ (p : Bool × Bool). p.1) (setup_again (is_some s.resume) s.lease))
    (back s.major (omega (arith, fits.0))) (back s.minor (omega (arith, fits.1))) (back s.keepalive (omega (arith, fits.2.1))) (back s.lifetime (omega (arith, fits.3.1)))
    (bytes_again s.metadata_mime has.1) (bytes_again s.content_mime has.2) (option_again s.message.metadata has.3.0) (bytes_again s.message.content has.3.1)
again (frames.Lease ttl count metadata) fits has = lease_is (back ttl (omega (arith, fits.0))) (back count (omega (arith, fits.1))) (option_again metadata has)
again (frames.Keepalive respond position content) fits has = keepalive_is (respond_again respond) (back position (omega (arith, fits))) (bytes_again content has)
again (frames.MetadataPush metadata) fits has = ap (λ (b : List ℕ). frames.MetadataPush b) (bytes_again metadata has)
again (frames.Resume r) fits has =
    resume_is (back r.major (omega (arith, fits.0))) (back r.minor (omega (arith, fits.1))) (bytes_again r.token has) (back r.server_position (omega (arith, fits.3))) (back r.client_position (omega (arith, fits.4)))
again (frames.ResumeOk position) fits has = ap (λ (n : ℕ). frames.ResumeOk n) (back position (omega (arith, fits)))
again (frames.Ext stream flags extended rest) fits has =
    ext_is (back stream (omega (arith, fits.0))) (back flags (omega (arith, fits.1))) (back extended (omega (arith, fits.2))) (bytes_again rest has)
again (frames.Request r) fits has = request_again r.kind r.stream r.follows r.complete r.initial r.message fits has
again (frames.RequestN stream n) fits has = request_n_is (back stream (omega (arith, fits.0.1))) (back n (omega (arith, fits.1.1)))
again (frames.Cancel stream) fits has = ap (λ (n : ℕ). frames.Cancel n) (back stream (omega (arith, fits.1)))
again (frames.Payload stream follows complete next m) fits has =
    payload_is (back stream (omega (arith, fits.0.1))) (payload_again follows complete next) (option_again m.metadata has.0) (bytes_again m.content has.1)
again (frames.Error stream code content) fits has = error_is (back stream (omega (arith, fits.0))) (back code (omega (arith, fits.1))) (bytes_again content has)
again (frames.Unknown stream kind flags rest) fits has =
    unknown_is (back stream (omega (arith, fits.0))) (back kind (omega (arith, fits.1))) (back flags (omega (arith, fits.3))) (bytes_again rest has)

-- ---- each word is above the space

clean : (w : List ℕ) → list_all (λ b. ltb 32 b) w ≡ true → AboveSpace w
clean [] h = tt
clean (b ∷ w) h =
    let p = and_parts (ltb 32 b) (list_all (λ b. ltb 32 b) w) h in
    (ltb-true 32 b p.0, clean w p.1)

pub setup_clean : (r l : Bool) → AboveSpace (letters_word (letter_if r (codes "R") ++ letter_if l (codes "L")))
setup_clean false false = clean (codes "-") refl
setup_clean true false = clean (codes "R") refl
setup_clean false true = clean (codes "L") refl
setup_clean true true = clean (codes "RL") refl

pub respond_clean : (r : Bool) → AboveSpace (letters_word (letter_if r (codes "R")))
respond_clean false = clean (codes "-") refl
respond_clean true = clean (codes "R") refl

pub channel_clean : (f c : Bool) → AboveSpace (letters_word (letter_if f (codes "F") ++ letter_if c (codes "C")))
channel_clean false false = clean (codes "-") refl
channel_clean true false = clean (codes "F") refl
channel_clean false true = clean (codes "C") refl
channel_clean true true = clean (codes "FC") refl

pub payload_clean : (f c n : Bool) → AboveSpace (letters_word (letter_if f (codes "F") ++ (letter_if c (codes "C") ++ letter_if n (codes "N"))))
payload_clean false false false = clean (codes "-") refl
payload_clean true false false = clean (codes "F") refl
payload_clean false true false = clean (codes "C") refl
payload_clean false false true = clean (codes "N") refl
payload_clean true true false = clean (codes "FC") refl
payload_clean true false true = clean (codes "FN") refl
payload_clean false true true = clean (codes "CN") refl
payload_clean true true true = clean (codes "FCN") refl

kind_clean : (kind : Kind) → AboveSpace (kind_name kind)
kind_clean kinds.Response = clean (codes "REQUEST_RESPONSE") refl
kind_clean kinds.Fnf = clean (codes "REQUEST_FNF") refl
kind_clean kinds.Stream = clean (codes "REQUEST_STREAM") refl
kind_clean kinds.Channel = clean (codes "REQUEST_CHANNEL") refl

pub name_clean : (f : Frame) → AboveSpace (frame_name f)
name_clean (frames.Setup s) = clean (codes "SETUP") refl
name_clean (frames.Lease ttl count metadata) = clean (codes "LEASE") refl
name_clean (frames.Keepalive respond position content) = clean (codes "KEEPALIVE") refl
name_clean (frames.MetadataPush metadata) = clean (codes "METADATA_PUSH") refl
name_clean (frames.Resume r) = clean (codes "RESUME") refl
name_clean (frames.ResumeOk position) = clean (codes "RESUME_OK") refl
name_clean (frames.Ext stream flags extended rest) = clean (codes "EXT") refl
name_clean (frames.Request r) = kind_clean r.kind
name_clean (frames.RequestN stream n) = clean (codes "REQUEST_N") refl
name_clean (frames.Cancel stream) = clean (codes "CANCEL") refl
name_clean (frames.Payload stream follows complete next message) = clean (codes "PAYLOAD") refl
name_clean (frames.Error stream code content) = clean (codes "ERROR") refl
name_clean (frames.Unknown stream number flags rest) = clean (codes "UNKNOWN") refl

decimal_clean : (n : ℕ) → n < 2 ^ 63 → AboveSpace (decimal n)
decimal_clean n small = AboveSpace-decimal n (omega (arith, small))

message_clean : (m : Message) → HasOption m.metadata → IsBytes m.content → AllAboveSpace (option_word m.metadata ∷ blob_word m.content ∷ [])
message_clean m has all = (AboveSpace-option m.metadata has, (AboveSpace-blob m.content all, tt))

initial_below : (kind : Kind) (n : ℕ) (complete : Bool) → InitialFits kind (Some n) complete → n < 2 ^ 63
initial_below kinds.Response n complete fits = absurd (no_some n fits.0)
initial_below kinds.Fnf n complete fits = absurd (no_some n fits.0)
initial_below kinds.Stream n complete fits = omega (arith, same_below n fits.0 fits.1 fits.2.1)
initial_below kinds.Channel n complete fits = omega (arith, same_below n fits.0 fits.1 fits.2.1)

kind_fields_clean : (kind : Kind) (stream : ℕ) (follows complete : Bool) (initial : Option ℕ) (m : Message) → FieldsFit (made kind stream follows complete initial m) → HasBytes (made kind stream follows complete initial m) → AllAboveSpace (fields_of (made kind stream follows complete initial m))
kind_fields_clean kind stream follows complete None m fits has = (decimal_clean stream (omega (arith, fits.0.1)), (channel_clean follows complete, message_clean m has.0 has.1))
kind_fields_clean kind stream follows complete (Some n) m fits has = (decimal_clean stream (omega (arith, fits.0.1)), (channel_clean follows complete, (decimal_clean n (initial_below kind n complete fits.1), message_clean m has.0 has.1)))

pub words_clean : (f : Frame) → FieldsFit f → HasBytes f → AllAboveSpace (fields_of f)
words_clean (frames.Setup s) fits has = (
  clean (codes "0") refl,
  (
    setup_clean (is_some s.resume) s.lease,
    (
      decimal_clean s.major (omega (arith, fits.0)),
      (
        decimal_clean s.minor (omega (arith, fits.1)),
        (
          decimal_clean s.keepalive (omega (arith, fits.2.1)),
          (
            decimal_clean s.lifetime (omega (arith, fits.3.1)),
            (AboveSpace-option s.resume has.0, (AboveSpace-blob s.metadata_mime has.1, (AboveSpace-blob s.content_mime has.2, message_clean s.message has.3.0 has.3.1))),
          ),
        ),
      ),
    ),
  ),
)
words_clean (frames.Lease ttl count metadata) fits has = (clean (codes "0") refl, (decimal_clean ttl (omega (arith, fits.0)), (decimal_clean count (omega (arith, fits.1)), (AboveSpace-option metadata has, tt))))
words_clean (frames.Keepalive respond position content) fits has = (clean (codes "0") refl, (respond_clean respond, (decimal_clean position fits, (AboveSpace-blob content has, tt))))
words_clean (frames.MetadataPush metadata) fits has = (clean (codes "0") refl, (AboveSpace-blob metadata has, tt))
words_clean (frames.Resume r) fits has =
    (clean (codes "0") refl, (decimal_clean r.major (omega (arith, fits.0)), (decimal_clean r.minor (omega (arith, fits.1)), (AboveSpace-blob r.token has, (decimal_clean r.server_position fits.3, (decimal_clean r.client_position fits.4, tt))))))
words_clean (frames.ResumeOk position) fits has = (clean (codes "0") refl, (decimal_clean position fits, tt))
words_clean (frames.Ext stream flags extended rest) fits has =
    (decimal_clean stream (omega (arith, fits.0)), (decimal_clean flags (omega (arith, fits.1)), (decimal_clean extended (omega (arith, fits.2)), (AboveSpace-blob rest has, tt))))
words_clean (frames.Request r) fits has = kind_fields_clean r.kind r.stream r.follows r.complete r.initial r.message fits has
words_clean (frames.RequestN stream n) fits has = (decimal_clean stream (omega (arith, fits.0.1)), (decimal_clean n (omega (arith, fits.1.1)), tt))
words_clean (frames.Cancel stream) fits has = (decimal_clean stream (omega (arith, fits.1)), tt)
words_clean (frames.Payload stream follows complete next message) fits has =
    (decimal_clean stream (omega (arith, fits.0.1)), (payload_clean follows complete next, message_clean message has.0 has.1))
words_clean (frames.Error stream code content) fits has = (decimal_clean stream (omega (arith, fits.0)), (decimal_clean code (omega (arith, fits.1)), (AboveSpace-blob content has, tt)))
words_clean (frames.Unknown stream number flags rest) fits has =
    (decimal_clean stream (omega (arith, fits.0)), (decimal_clean number (omega (arith, fits.1)), (decimal_clean flags (omega (arith, fits.3)), (AboveSpace-blob rest has, tt))))

-- ---- the law

pub one_frame : (f g : Frame) → FieldsFit f → HasBytes f → FieldsFit g → HasBytes g → line_of f ≡ line_of g → f ≡ g
one_frame f g fits has fits_g has_g same =
    sym (again f fits has)
    ∙ ap from_words (same_words (frame_name f) (frame_name g) (fields_of f) (fields_of g) (name_clean f) (name_clean g) (words_clean f fits has) (words_clean g fits_g has_g) same)
    ∙ again g fits_g has_g
