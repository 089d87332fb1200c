-- The frames that an entry makes, where it means what it says, can be spelled, count in the positions, and find their places there.
use Rattle.std.proofs.Common.{◌≡◌, ◌≤◌, ◌<◌, ◌+◌, ◌^◌, ◌==◌, ◌||◌, ℕ, Bool, true, false, List, [], ◌∷◌, length, Option, Some, None, IfSome, refl, length-append, subst, sym, arith, lit<}
use Rattle.std.proofs.lemmas.Grind.{common_steps}
use Rattle.std.proofs.lemmas.Bool.Decides.{nat_tests}
use Rattle.std.specs.List.{AllByRecursion, filter}
use Rattle.byteorder.specs.Endian.{big_bytes}
use Rattle.rs_wire.specs.Message.{size_of}
use Rattle.rs_wire.specs.Calls.{CanBeAsked}
use Rattle.rs_wire.specs.Ranges.{is_between}
use Rattle.rs_wire.specs.Settings.{IsChecked, fault_of}
use Rattle.rs_wire.specs.declared.words.Kind.{Kind}
use Rattle.rs_wire.specs.declared.words.Side.{Side}
use Rattle.rs_wire.specs.declared.message.Message.{Message}
use Rattle.rs_wire.specs.declared.settings.Settings.{Settings}
use Rattle.rs_wire.specs.declared.call.Call.{Call}
use Rattle.rs_wire.specs.declared.call.Call.TheVariants as call
use Rattle.rs_frame.specs.declared.frame.Frame.{Frame}
use Rattle.rs_frame.specs.declared.frame.Frame.TheVariants as frame
use Rattle.rs_frame.specs.declared.frame.Request.{Request}
use Rattle.rs_frame.specs.Spelling.{IsSpellable, IsStream, InitialFits, MessageFits, payload, is_resumable, length_of}
use Rattle.position.specs.Boundaries.{pos, pos_by}
use Rattle.tape.specs.declared.event.Event.{Event}
use Rattle.tape.specs.declared.event.Event.TheVariants as event
use Rattle.tape.specs.declared.answer.Answer.{Answer}
use Rattle.tape.specs.declared.answer.Answer.TheVariants as answer
use Rattle.stream_model.specs.Known.{Known, highest_at, is_open_response, is_peers_next}
use Rattle.stream_model.specs.Refused.{by_state}
use Rattle.stream_model.specs.Arriving.{no_message}
use Rattle.fragment.specs.Splitting.{IsMtu, IsSplittable, follows_of, split_of}
use Rattle.fragment.proofs.Cuts.{first_spellable, rest_spellable}
use Rattle.fragment.proofs.Splits.{by_cuts}
use Rattle.session_model.specs.declared.numbers.TheConstants.{REJECTED}
use Rattle.session_model.specs.Streams.{turned_away_for}
use Rattle.session_model.specs.Frames.{request_frame, turned_away, turned_away_with, spoken, in_fragments, sent_as, makes, handles}
use Rattle.session_model.specs.Answers.{Facts, covered_by, refused_sending}
use Rattle.session_model.specs.Legal.{AmountsFit, IsFair}
use Rattle.session_model.specs.Means.{Does, Means}
use Rattle.session_model.proofs.Refusals.{Unrefused, unrefused, size_fits, can_send, names}
use Rattle.session_model.proofs.Breaking.{may_fit, unbroken}
use Rattle.session_model.proofs.Ids.{IdsFit, highest_fits, started_fits}

-- ---- messages

metadata_fits : (g : Settings) (m : Message) → IsChecked g → size_of m ≤ g.max_payload → MessageFits m
metadata_fits g m checked small = let most = checked.max_payload.below in grind (arith, common_steps)

payload_short : (g : Settings) (m : Message) → IsChecked g → size_of m ≤ g.max_payload → length (payload m) < 16000004
payload_short g m checked small = let most = checked.max_payload.below in grind (arith, common_steps)

-- ---- the frames of calls

initial_fits : (kind : Kind) (initial : Option ℕ) (message : Message) (complete : Bool) → CanBeAsked (call.Request kind initial message complete)
    → AmountsFit (call.Request kind initial message complete) → InitialFits kind initial complete
initial_fits kind initial message complete ask amounts = grind (arith, common_steps)

request_spellable : (g : Settings) (id : ℕ) (kind : Kind) (initial : Option ℕ) (message : Message) (complete : Bool) → IsChecked g → IsStream id
    → InitialFits kind initial complete → size_of message ≤ g.max_payload → IsSpellable (request_frame id kind initial message complete)
request_spellable g id kind initial message complete checked stream initial_is small =
    let short = payload_short g message checked small in
    record { fields = (stream, initial_is, metadata_fits g message checked small); short = grind (arith, common_steps) }

payload_spellable : (g : Settings) (s : ℕ) (complete next : Bool) (message : Message) → IsChecked g → IsStream s → size_of message ≤ g.max_payload
    → IsSpellable (frame.Payload s false complete next message)
payload_spellable g s complete next message checked stream small =
    let short = payload_short g message checked small in
    record { fields = (stream, metadata_fits g message checked small); short = omega (arith, short) }

pub error_spellable : (s code : ℕ) (content : List ℕ) → s < 2 ^ 31 → code < 2 ^ 32 → length content ≤ 16000000 → IsSpellable (frame.Error s code content)
error_spellable s code content stream is small = record { fields = (stream, is); short = omega (arith, small, length-append (big_bytes 4 code) content) }

-- the stream that a call names has an id of 31 bits
named : (t : Known) (s : ℕ) → IdsFit t → 0 < s → s ≤ highest_at t s → IsStream s
named t s ids above below = let top = highest_fits t s ids in (above, omega arith)

-- ---- fragments

-- what is split is whole
abbrev pub IsWhole : Frame → Type 0
IsWhole f = follows_of f ≡ false

-- a fact of a frame that is whole holds of all that goes out where it holds of every split
by_fragments : (P : List Frame → Type 0) (mtu : ℕ) (f : Frame) → IsWhole f → (IsSplittable f → P (split_of f mtu)) → P (f ∷ []) → P (in_fragments mtu f)
by_fragments P mtu (frame.Request r) whole split alone = split whole
by_fragments P mtu (frame.Payload s follows complete next message) whole split alone = split whole
by_fragments P mtu f whole split alone = alone

mtu_between : (g : Settings) → fault_of g ≡ None → (g.mtu == 0 || is_between 64 g.mtu 16777215) ≡ true
mtu_between g none = grind (arith, common_steps)

pub is_mtu : (g : Settings) → IsChecked g → IsMtu g.mtu
is_mtu g checked =
    let between = mtu_between g checked.no_fault in
    let most = checked.mtu in
    (omega arith, λ some. grind (arith, nat_tests))

split_spellable : (f : Frame) (mtu : ℕ) → IsMtu mtu → IsSplittable f → IsSpellable f → AllByRecursion IsSpellable (split_of f mtu)
split_spellable f mtu limit splittable =
    by_cuts (λ h hs. IsSpellable h → AllByRecursion IsSpellable hs) mtu limit.1
    (λ h whole fits spellable. (spellable, tt))
    (λ h hs long rest spellable. (first_spellable mtu h long spellable, rest (rest_spellable mtu h long spellable)))
    (length_of f) f (omega arith) splittable

fragments_spellable : (g : Settings) (f : Frame) → IsChecked g → IsWhole f → IsSpellable f → AllByRecursion IsSpellable (in_fragments g.mtu f)
fragments_spellable g f checked whole spellable =
    by_fragments (AllByRecursion IsSpellable) g.mtu f whole (λ splittable. split_spellable f g.mtu (is_mtu g checked) splittable spellable) (spellable, tt)

sent_spellable : (g : Settings) (o : Option Frame) → IsChecked g → IfSome o IsWhole → IfSome o IsSpellable → AllByRecursion IsSpellable (sent_as g o)
sent_spellable g None checked whole spellable = tt
sent_spellable g (Some f) checked whole spellable = fragments_spellable g f checked whole spellable

-- the frame of a call is whole
pub spoken_whole : (t : Known) (id : ℕ) (asked : Call) → IfSome (spoken t id asked) IsWhole
spoken_whole t id asked = grind (arith, common_steps)

-- the frame of a call that is not refused
pub spoken_spellable : (g : Settings) (t : Facts) (id : ℕ) (asked : Call) → IsChecked g → IdsFit t.streams → IsFair g (event.Asked asked) → IsStream id → Unrefused g t asked
    → IfSome (spoken t.streams id asked) IsSpellable
spoken_spellable g t id (call.Request kind initial message complete) checked ids fair stream u =
    request_spellable g id kind initial message complete checked stream (initial_fits kind initial message complete fair.0 fair.1) (size_fits g (call.Request kind initial message complete) u.size)
spoken_spellable g t id (call.Next s message complete) checked ids fair stream u =
    let n = names t.streams s _ u.state in
    payload_spellable g s (complete || is_open_response (t.streams.kept s)) true message checked (named t.streams s ids n.above n.below) (size_fits g (call.Next s message complete) u.size)
spoken_spellable g t id (call.Done s) checked ids fair stream u =
    let n = names t.streams s _ u.state in
    payload_spellable g s true false no_message checked (named t.streams s ids n.above n.below) (omega arith)
spoken_spellable g t id (call.Grant s n) checked ids fair stream u =
    let k = names t.streams s _ u.state in
    record { fields = (named t.streams s ids k.above k.below, fair.1); short = lit< tt }
spoken_spellable g t id (call.Cancel s) checked ids fair stream u =
    let n = names t.streams s _ u.state in
    record { fields = named t.streams s ids n.above n.below; short = lit< tt }
spoken_spellable g t id (call.Fail s code content) checked ids fair stream u =
    let n = names t.streams s _ u.state in
    let most = checked.max_payload.below in
    let small = size_fits g (call.Fail s code content) u.size in
    let is = fair.0 in
    error_spellable s code content (named t.streams s ids n.above n.below).1 (grind (arith, common_steps)) (omega arith)
spoken_spellable g t id (call.Push metadata) checked ids fair stream u = tt
spoken_spellable g t id (call.Lease ttl count metadata) checked ids fair stream u = tt
spoken_spellable g t id (call.Take s) checked ids fair stream u = tt
spoken_spellable g t id call.TakeJob checked ids fair stream u = tt
spoken_spellable g t id call.Close checked ids fair stream u = tt

-- ---- what an entry makes

-- the word of why a request is turned away is short
abbrev pub IsWord : Option (List ℕ) → Type 0
IsWord None = Unit {0}
IsWord (Some word) = length word ≤ 16000000

word_short : (g : Settings) (covered : Bool) (t : Known) (r : Request) → IsWord (turned_away_for g covered t r)
word_short g covered t r = grind (arith, common_steps)

away_spellable : (s : ℕ) (word : Option (List ℕ)) → s < 2 ^ 31 → IsWord word → AllByRecursion IsSpellable (turned_away_with s word)
away_spellable s None fits short = tt
away_spellable s (Some word) fits short = (error_spellable s REJECTED word fits (lit< tt) short, tt)

answer_spellable : (g : Settings) (t : Facts) (conn : ℕ) (f : Frame) → IsSpellable f → AllByRecursion IsSpellable (makes g (covered_by g t) t.streams answer.Handled (event.Came conn f))
answer_spellable g t conn (frame.Request r) spellable =
    away_spellable r.stream (turned_away_for g (covered_by g t) t.streams r) spellable.fields.0.1 (word_short g (covered_by g t) t.streams r)
answer_spellable g t conn f spellable = tt

-- a call that starts nothing and takes nothing is not refused
pub done_passes : (g : Settings) (t : Facts) (asked : Call) → Does g t (event.Asked asked) → Unrefused g t asked
done_passes g t (call.Request kind initial message complete) does = absurd does
done_passes g t (call.Next s message complete) does = unrefused g t (call.Next s message complete) does
done_passes g t (call.Done s) does = unrefused g t (call.Done s) does
done_passes g t (call.Grant s n) does = unrefused g t (call.Grant s n) does
done_passes g t (call.Cancel s) does = unrefused g t (call.Cancel s) does
done_passes g t (call.Fail s code content) does = unrefused g t (call.Fail s code content) does
done_passes g t (call.Push metadata) does = unrefused g t (call.Push metadata) does
done_passes g t (call.Lease ttl count metadata) does = unrefused g t (call.Lease ttl count metadata) does
done_passes g t (call.Take s) does = absurd does
done_passes g t call.TakeJob does = absurd does
done_passes g t call.Close does = unrefused g t call.Close does

-- its frame has no id but the one that it names
pub done_same : (g : Settings) (t : Facts) (asked : Call) (id : ℕ) → Does g t (event.Asked asked) → spoken t.streams id asked ≡ spoken t.streams 0 asked
done_same g t (call.Request kind initial message complete) id does = absurd does
done_same g t asked id does = refl

pub done_spellable : (g : Settings) (t : Facts) (asked : Call) → IsChecked g → IdsFit t.streams → IsFair g (event.Asked asked) → Does g t (event.Asked asked)
    → IfSome (spoken t.streams 0 asked) IsSpellable
done_spellable g t asked checked ids fair does =
    rw (← done_same g t asked 1 does) (spoken_spellable g t 1 asked checked ids fair (lit< tt, lit< tt) (done_passes g t asked does))

-- the frames that an entry makes
pub makes_spellable : (g : Settings) (t : Facts) (e : Event) (a : Answer) → IsChecked g → IdsFit t.streams → IsFair g e → Means g t e a → AllByRecursion IsSpellable (makes g (covered_by g t) t.streams a e)
makes_spellable g t (event.Asked (call.Request kind initial message complete)) (answer.Started id) checked ids fair means =
    let asked = call.Request kind initial message complete in
    sent_spellable g (spoken t.streams id asked) checked (spoken_whole t.streams id asked) (spoken_spellable g t id asked checked ids fair (started_fits g t kind initial message complete id checked means) (unrefused g t asked means.accepted))
makes_spellable g t e (answer.Started id) checked ids fair means = absurd means
makes_spellable g t (event.Asked asked) answer.Done checked ids fair means =
    sent_spellable g (spoken t.streams 0 asked) checked (spoken_whole t.streams 0 asked) (done_spellable g t asked checked ids fair means)
makes_spellable g t e answer.Done checked ids fair means = absurd means
makes_spellable g t (event.Came conn f) answer.Handled checked ids fair means = answer_spellable g t conn f fair
makes_spellable g t e answer.Handled checked ids fair means = absurd means
makes_spellable g t e a checked ids fair means = tt

-- ---- what counts

-- the positions count each fragment of a frame that they count
split_counts : (f : Frame) (mtu : ℕ) → IsMtu mtu → IsSplittable f → filter is_resumable (split_of f mtu) ≡ split_of f mtu
split_counts f mtu limit splittable =
    by_cuts (λ h hs. filter is_resumable hs ≡ hs) mtu limit.1 (λ h whole fits. grind (arith, common_steps)) (λ h hs long rest. grind (arith, common_steps, rest, long.whole)) (length_of f) f (omega arith) splittable

fragments_count : (g : Settings) (f : Frame) → IsChecked g → IsWhole f → is_resumable f ≡ true → filter is_resumable (in_fragments g.mtu f) ≡ in_fragments g.mtu f
fragments_count g f checked whole counts =
    by_fragments (λ fs. filter is_resumable fs ≡ fs) g.mtu f whole (split_counts f g.mtu (is_mtu g checked)) (grind (arith, common_steps))

sent_count : (g : Settings) (o : Option Frame) → IsChecked g → IfSome o IsWhole → IfSome o (λ f. is_resumable f ≡ true) → filter is_resumable (sent_as g o) ≡ sent_as g o
sent_count g None checked whole counts = refl
sent_count g (Some f) checked whole counts = fragments_count g f checked whole counts

-- they count the frame of a call
spoken_counts : (g : Settings) (t : Facts) (id : ℕ) (asked : Call) → by_state t.streams asked ≡ None → IfSome (spoken t.streams id asked) (λ f. is_resumable f ≡ true)
spoken_counts g t id (call.Fail s code content) none = let n = (names t.streams s _ none).above in grind (arith, common_steps)
spoken_counts g t id asked none = grind (arith, common_steps)

-- the id of a request of the peer's is above 0
next_some : (side : Side) (t : Known) (s : ℕ) → is_peers_next side t s ≡ true → 0 < s
next_some side t s is = grind (arith, common_steps)

away_counts : (s : ℕ) (word : Option (List ℕ)) → 0 < s → filter is_resumable (turned_away_with s word) ≡ turned_away_with s word
away_counts s None above = refl
away_counts s (Some word) above = grind (arith, common_steps)

-- and each that an entry makes
pub makes_count : (g : Settings) (t : Facts) (e : Event) (a : Answer) → IsChecked g → Means g t e a → filter is_resumable (makes g (covered_by g t) t.streams a e) ≡ makes g (covered_by g t) t.streams a e
makes_count g t (event.Asked (call.Request kind initial message complete)) (answer.Started id) checked means =
    let asked = call.Request kind initial message complete in
    sent_count g (spoken t.streams id asked) checked (spoken_whole t.streams id asked) refl
makes_count g t (event.Asked asked) answer.Done checked means =
    sent_count g (spoken t.streams 0 asked) checked (spoken_whole t.streams 0 asked) (spoken_counts g t 0 asked (done_passes g t asked means).state)
makes_count g t (event.Came conn (frame.Request r)) answer.Handled checked means =
    away_counts r.stream (turned_away_for g (covered_by g t) t.streams r) (next_some g.side t.streams r.stream (unbroken g t (frame.Request r) means.may.1).next)
makes_count g t e a checked means = grind (arith, common_steps)

-- ---- positions

-- the frame of a call ends at or before the top position
spoken_fits : (g : Settings) (t : Facts) (o : Option Frame) → refused_sending g t o ≡ None → t.made.position ≤ g.top_position → t.made.position + pos (sent_as g o) ≤ g.top_position
unfolding pos_by
spoken_fits g t None none below = omega (arith, below)
spoken_fits g t (Some f) none below = (can_send g t (in_fragments g.mtu f) none).within

pub done_sends : (g : Settings) (t : Facts) (asked : Call) → Does g t (event.Asked asked) → refused_sending g t (spoken t.streams 0 asked) ≡ None
done_sends g t (call.Request kind initial message complete) does = absurd does
done_sends g t call.Close does = refl
done_sends g t (call.Push metadata) does = refl
done_sends g t (call.Lease ttl count metadata) does = refl
done_sends g t asked does = (done_passes g t asked does).sending

away_fits : (made top s : ℕ) (away : Option (List ℕ)) {why : Option (List ℕ)} → why ≡ away → ((word : List ℕ) → why ≡ Some word → made + length_of (turned_away s word) ≤ top) → made ≤ top
    → made + pos (turned_away_with s away) ≤ top
unfolding pos_by
away_fits made top s None is answered below = omega (arith, below)
away_fits made top s (Some word) is answered below = let fits = answered word is in omega (arith, fits)

-- and the frames that an entry makes
pub makes_fit : (g : Settings) (t : Facts) (e : Event) (a : Answer) → Means g t e a → t.made.position ≤ g.top_position → t.made.position + pos (makes g (covered_by g t) t.streams a e) ≤ g.top_position
unfolding pos_by
makes_fit g t (event.Asked (call.Request kind initial message complete)) (answer.Started id) means below =
    let asked = call.Request kind initial message complete in
    let none = (unrefused g t asked means.accepted).sending in
    spoken_fits g t (spoken t.streams id asked) (subst (λ n. refused_sending g t (spoken t.streams n asked) ≡ None) (sym means.next) none) below
makes_fit g t e (answer.Started id) means below = absurd means
makes_fit g t (event.Asked asked) answer.Done means below = spoken_fits g t (spoken t.streams 0 asked) (done_sends g t asked means) below
makes_fit g t e answer.Done means below = absurd means
makes_fit g t (event.Came conn (frame.Request r)) answer.Handled means below =
    away_fits t.made.position g.top_position r.stream (turned_away_for g (covered_by g t) t.streams r) refl (unbroken g t (frame.Request r) means.may.1).answered below
makes_fit g t e a means below = grind (arith, common_steps)

-- and the frames that an entry handles
pub handles_fit : (g : Settings) (t : Facts) (e : Event) (a : Answer) → Means g t e a → t.handled.position ≤ g.top_position → t.handled.position + pos (handles a e) ≤ g.top_position
unfolding pos_by
handles_fit g t (event.Came conn f) answer.Handled means below = let fits = may_fit g t f means.may in grind (arith, common_steps)
handles_fit g t e answer.Handled means below = absurd means
handles_fit g t e a means below = omega (arith, below)
