-- All that is made, and all that an entry puts in line, can be spelled; positions stay below their top.
use Rattle.std.proofs.Common.{◌≡◌, ◌≤◌, ◌<◌, ◌+◌, ◌-◌, ◌^◌, ◌==◌, ℕ, Bool, true, false, cond, List, [], ◌∷◌, ◌++◌, length, max, Option, Some, None, IfSome, length-append, arith, lit<}
use Rattle.std.proofs.lemmas.Grind.{common_steps}
use Rattle.std.specs.List.{AllByRecursion}
use Rattle.byteorder.specs.Endian.{big_bytes}
use Rattle.rs_wire.specs.Words.{gone_word, rule_word}
use Rattle.rs_wire.specs.Settings.{IsChecked}
use Rattle.rs_wire.specs.declared.fault.Gone.{Gone}
use Rattle.rs_wire.specs.declared.fault.Rule.{Rule}
use Rattle.rs_wire.specs.declared.settings.Settings.{Settings}
use Rattle.rs_wire.specs.Message.{option_length}
use Rattle.rs_wire.specs.declared.call.Call.{Call}
use Rattle.rs_wire.specs.declared.call.Call.TheVariants as call
use Rattle.rs_frame.specs.declared.frame.Frame.{Frame}
use Rattle.rs_frame.specs.declared.frame.Frame.TheVariants as frame
use Rattle.rs_frame.specs.Spelling.{IsSpellable, if_there, counted_bytes, length_of}
use Rattle.position.specs.Boundaries.{acked, frames_from, frames_from_by, pos, pos_by}
use Rattle.position.proofs.Boundaries.{pos-append}
use Rattle.position.proofs.Held.{first_within}
use Rattle.tape.specs.declared.event.Event.{Event}
use Rattle.tape.specs.declared.event.Event.TheVariants as event
use Rattle.tape.specs.declared.answer.Answer.{Answer}
use Rattle.tape.specs.declared.answer.Answer.TheVariants as answer
use Rattle.tape.specs.declared.entry.Entry.{Entry}
use Rattle.session_model.specs.declared.numbers.TheConstants.{CONNECTION_ERROR, REJECTED_RESUME}
use Rattle.session_model.specs.Life.{begun, carrying, resumption_agreed, told}
use Rattle.session_model.specs.Leases.{is_covered}
use Rattle.session_model.specs.Streams.{known}
use Rattle.session_model.specs.Frames.{answers_keepalive, beside, closing_error, first, handled, handles, if_carrying, lines_up, made, makes, position_told, refusal, resume_frame, setup_frame, tells}
use Rattle.session_model.specs.Answers.{Facts, by_size, facts, size_in}
use Rattle.session_model.specs.Legal.{Fair, IsFair, Legal}
use Rattle.session_model.specs.Means.{Means}
use Rattle.session_model.proofs.Ids.{ids_fit}
use Rattle.session_model.proofs.Meaning.{last_means}
use Rattle.session_model.proofs.Refusals.{size_fits, unrefused}
use Rattle.session_model.proofs.Spelled.{error_spellable, handles_fit, makes_fit, makes_spellable}

-- ---- what is made

all_both : {X : Type 0} (P : X → Type 0) (xs ys : List X) → AllByRecursion P xs → AllByRecursion P ys → AllByRecursion P (xs ++ ys)
all_both P [] ys h k = k
all_both P (x ∷ xs) ys h k = (h.0, all_both P xs ys h.1 k)

pub made_spellable : (g : Settings) (past : List Entry) → IsChecked g → Legal g past → Fair g past → AllByRecursion IsSpellable (made g past)
unfolding Legal Fair made facts
made_spellable g [] checked legal fair = tt
made_spellable g (x ∷ past) checked legal fair =
    let ids = ids_fit g past checked legal.0 fair.0 in
    all_both IsSpellable (made g past) (makes g (is_covered g past) (known g past) x.answer x.event) (made_spellable g past checked legal.0 fair.0)
    (makes_spellable g (facts g past) x.event x.answer checked ids fair.1 (last_means g x past legal))

pub made_within : (g : Settings) (past : List Entry) → Legal g past → pos (made g past) ≤ g.top_position
unfolding Legal made facts pos_by
made_within g [] legal = omega arith
made_within g (x ∷ past) legal =
    let new = makes g (is_covered g past) (known g past) x.answer x.event in
    omega (arith, pos-append length_of (made g past) new, makes_fit g (facts g past) x.event x.answer (last_means g x past legal) (made_within g past legal.0))

pub handled_within : (g : Settings) (past : List Entry) → Legal g past → pos (handled past) ≤ g.top_position
unfolding Legal handled facts pos_by
handled_within g [] legal = omega arith
handled_within g (x ∷ past) legal =
    let new = handles x.answer x.event in
    omega (arith, pos-append length_of (handled past) new, handles_fit g (facts g past) x.event x.answer (last_means g x past legal) (handled_within g past legal.0))

-- what is held begins within what was made
held_within : (g : Settings) (past : List Entry) → first g past ≤ pos (made g past)
held_within g past = first_within length_of (made g past) (max (acked (made g past) (told g past)) (pos (made g past) - g.hold))

-- ---- what stands beside

token_fits : (resumes : Bool) (t : List ℕ) → length t ≤ 65535 → IfSome (cond {A = Option (List ℕ)} resumes (Some t) None) (λ x. length x < 2 ^ 16)
token_fits true t short = omega arith
token_fits false t short = tt

short_setup : (keepalive lifetime : ℕ) (token : Option (List ℕ)) (metadata content : List ℕ) → IfSome token (λ x. length x < 2 ^ 16) → length metadata ≤ 255 → length content ≤ 255
    → 6 + length (big_bytes 2 1 ++ (big_bytes 2 0 ++ (big_bytes 4 keepalive ++ (big_bytes 4 lifetime ++ (if_there 2 token ++ (counted_bytes 1 metadata ++ (counted_bytes 1 content ++ []))))))) < 2 ^ 24
short_setup keepalive lifetime None metadata content t m c = omega (arith, length-append metadata (counted_bytes 1 content ++ []), length-append content [])
short_setup keepalive lifetime (Some x) metadata content t m c =
    omega (arith, t, length-append x (counted_bytes 1 metadata ++ (counted_bytes 1 content ++ [])), length-append metadata (counted_bytes 1 content ++ []), length-append content [])

-- a SETUP, with its token where the client resumes
pub setup_spellable : (g : Settings) → IsChecked g → IsSpellable (setup_frame g)
setup_spellable g checked =
    let keepalive = checked.keepalive in
    let lifetime = checked.lifetime in
    let metadata = checked.metadata_mime in
    let content = checked.content_mime in
    let token = token_fits g.resume g.token checked.token in
    record {
      fields = (lit< tt, lit< tt, (omega (arith, keepalive.above), omega (arith, keepalive.below)), (omega (arith, lifetime.above), omega (arith, lifetime.below)), token, omega arith, omega arith, tt);
      short = short_setup g.keepalive_ms g.lifetime_ms _ g.metadata_mime g.content_mime token metadata content;
    }

pub resume_spellable : (g : Settings) (handled first : ℕ) → IsChecked g → handled ≤ g.top_position → first ≤ g.top_position → IsSpellable (resume_frame g handled first)
resume_spellable g handled first checked h f =
    let token = checked.token in
    let top = checked.top_position in
    record {
      fields = (lit< tt, lit< tt, omega arith, omega arith, omega arith);
      short = omega (arith, length-append g.token (big_bytes 8 handled ++ big_bytes 8 first));
    }

pub ok_spellable : (g : Settings) (handled : ℕ) → IsChecked g → handled ≤ g.top_position → IsSpellable (frame.ResumeOk handled)
ok_spellable g handled checked h = let top = checked.top_position in record { fields = omega arith; short = lit< tt }

-- frames that are sent again
again_spellable : (fs : List Frame) (p : ℕ) → AllByRecursion IsSpellable fs → AllByRecursion IsSpellable (frames_from fs p)
unfolding frames_from_by
again_spellable [] p h = tt
again_spellable (f ∷ fs) p h = elim (p == 0) as (λ v. AllByRecursion IsSpellable (cond v (f ∷ fs) (frames_from fs (p - length_of f)))) [ true ↦ h | false ↦ again_spellable fs (p - length_of f) h.1 ]

pub words_short : (r : Rule) → length (rule_word r) ≤ 16000000
words_short r = grind (arith, common_steps)

pub gone_short : (why : Gone) → length (gone_word why) ≤ 16000000
gone_short why = grind (arith, common_steps)

pub closing_spellable : (content : List ℕ) → length content ≤ 16000000 → IsSpellable (closing_error content)
closing_spellable content small = error_spellable 0 CONNECTION_ERROR content (lit< tt) (lit< tt) small

-- what was made and handled finds its place
record InPlace (g : Settings) (past : List Entry) : Type 0 where
  checked : IsChecked g
  spellable : AllByRecursion IsSpellable (made g past)
  made_below : pos (made g past) ≤ g.top_position
  handled_below : pos (handled past) ≤ g.top_position

client_greets : (g : Settings) (past : List Entry) → InPlace g past → IsSpellable (cond (begun past) (resume_frame g (pos (handled past)) (first g past)) (setup_frame g))
client_greets g past is =
    let made = is.made_below in
    let held = held_within g past in
    elim (begun past) as (λ v. IsSpellable (cond v (resume_frame g (pos (handled past)) (first g past)) (setup_frame g))) [
      | true ↦ resume_spellable g (pos (handled past)) (first g past) is.checked is.handled_below (omega arith)
      | false ↦ setup_spellable g is.checked
    ]

-- a position that is told
pub tells_below : (agreed : Bool) (handled top : ℕ) → handled ≤ top → tells agreed handled ≤ top
tells_below true handled top h = h
tells_below false handled top h = omega arith

told_below : (g : Settings) (past : List Entry) → InPlace g past → position_told g past < 2 ^ 63
told_below g past is =
    let top = is.checked.top_position in
    let below = tells_below (resumption_agreed g past) (pos (handled past)) g.top_position is.handled_below in
    omega arith

-- a KEEPALIVE that is sent, and one that answers
pub asks_spellable : (position : ℕ) → position < 2 ^ 63 → IsSpellable (frame.Keepalive true position [])
asks_spellable position fits = record { fields = fits; short = lit< tt }

pub answers_spellable : (respond : Bool) (position came : ℕ) (content : List ℕ) → position < 2 ^ 63 → IsSpellable (frame.Keepalive respond came content) → AllByRecursion IsSpellable (answers_keepalive respond position content)
answers_spellable false position came content fits spellable = tt
answers_spellable true position came content fits spellable =
    let short = spellable.short in
    (record { fields = fits; short = omega (arith, short, length-append (big_bytes 8 came) content, length-append (big_bytes 8 position) content) }, tt)

-- metadata that is pushed, and a LEASE
pub push_spellable : (metadata : List ℕ) → length metadata ≤ 16000000 → IsSpellable (frame.MetadataPush metadata)
push_spellable metadata small = record { fields = tt; short = omega (arith, small) }

pub lease_spellable : (ttl count : ℕ) (metadata : Option (List ℕ)) → ttl < 2 ^ 31 → count < 2 ^ 31 → option_length metadata ≤ 16000000 → IsSpellable (frame.Lease ttl count metadata)
lease_spellable ttl count None t c small = record { fields = (t, c); short = lit< tt }
lease_spellable ttl count (Some metadata) t c small = record { fields = (t, c); short = omega (arith, small, length-append (big_bytes 4 count) metadata) }

-- what a call that is not refused sends is small
pub done_small : (g : Settings) (t : Facts) (asked : Call) → IsChecked g → by_size g asked ≡ None → size_in asked ≤ 16000000
done_small g t asked checked none =
    let most = checked.max_payload.below in
    let small = size_fits g asked none in
    omega arith

beside_spellable : (g : Settings) (past : List Entry) (e : Event) (a : Answer) → InPlace g past → IsFair g e → Means g (facts g past) e a → AllByRecursion IsSpellable (beside g past a e)
beside_spellable g past (event.Open None taken) (answer.Opened n) is fair means = (client_greets g past is, tt)
beside_spellable g past (event.Open (Some (frame.Resume r)) taken) (answer.Opened n) is fair means =
    (ok_spellable g (pos (handled past)) is.checked is.handled_below, again_spellable (made g past) r.server_position is.spellable)
beside_spellable g past e (answer.Opened n) is fair means = tt
beside_spellable g past e (answer.Violation r) is fair means = (closing_spellable (rule_word r) (words_short r), tt)
beside_spellable g past (event.Came conn f) (answer.ResumeRefused why) is fair means = (closing_spellable (gone_word why) (gone_short why), tt)
beside_spellable g past (event.Came conn (frame.ResumeOk position)) answer.Handled is fair means = again_spellable (made g past) position is.spellable
beside_spellable g past (event.Came conn (frame.Keepalive respond position content)) answer.Handled is fair means =
    answers_spellable respond (position_told g past) position content (told_below g past is) fair
beside_spellable g past e answer.Sent is fair means = (asks_spellable (position_told g past) (told_below g past is), tt)
beside_spellable g past (event.Asked (call.Push metadata)) answer.Done is fair means =
    let asked = call.Push metadata in
    (push_spellable metadata (done_small g (facts g past) asked is.checked (unrefused g (facts g past) asked means).size), tt)
beside_spellable g past (event.Asked (call.Lease ttl count metadata)) answer.Done is fair means =
    let asked = call.Lease ttl count metadata in
    (lease_spellable ttl count metadata fair.1.0.1 fair.1.1.1 (done_small g (facts g past) asked is.checked (unrefused g (facts g past) asked means).size), tt)
beside_spellable g past (event.Asked call.Close) answer.Done is fair means =
    elim (carrying g past) as (λ v. AllByRecursion IsSpellable (cond {A = List Frame} v (closing_error [] ∷ []) [])) [ true ↦ (closing_spellable [] (omega arith), tt) | false ↦ tt ]
beside_spellable g past e a is fair means = tt

carried_spellable : (carrying : Bool) (fs : List Frame) → AllByRecursion IsSpellable fs → AllByRecursion IsSpellable (if_carrying carrying fs)
carried_spellable true fs h = h
carried_spellable false fs h = tt

-- all that an entry puts in line
pub lines_spellable : (g : Settings) (past : List Entry) (e : Event) (a : Answer) → IsChecked g → Legal g past → Fair g past → IsFair g e → Means g (facts g past) e a → AllByRecursion IsSpellable (lines_up g past a e)
unfolding facts
lines_spellable g past e a checked legal fair can means =
    let ids = ids_fit g past checked legal fair in
    let new = makes g (is_covered g past) (known g past) a e in
    let is : InPlace g past = record {
      checked = checked;
      spellable = made_spellable g past checked legal fair;
      made_below = made_within g past legal;
      handled_below = handled_within g past legal;
    } in
    all_both IsSpellable (beside g past a e) (if_carrying (carrying g past) new) (beside_spellable g past e a is can means)
    (carried_spellable (carrying g past) new (makes_spellable g (facts g past) e a checked ids can means))

-- the frame that refuses a connection
pub refusal_spelled : (a : Answer) → IfSome (refusal a) IsSpellable
refusal_spelled (answer.SetupRefused fault) = grind (arith, common_steps)
refusal_spelled (answer.ResumeRefused why) = error_spellable 0 REJECTED_RESUME (gone_word why) (lit< tt) (lit< tt) (gone_short why)
refusal_spelled a = tt
