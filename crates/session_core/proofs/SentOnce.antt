-- A call that goes out in one frame: its answer, its frame, and the frame in line.
use Rattle.std.proofs.Common.{rules, ◌≡◌, ◌<◌, ◌^◌, ◌==◌, ◌||◌, ℕ, Bool, true, false, cond, List, [], ◌∷◌, length, Option, Some, None, IfSome, is_some, option_to_list, refl, ap, sym, subst, ◌∙◌}
use Rattle.std.specs.Prelude.{nat_le, nat_lt}
use Rattle.rs_wire.specs.Settings.{IsChecked}
use Rattle.rs_wire.specs.declared.settings.Settings.{Settings}
use Rattle.rs_wire.specs.declared.fault.Refusal.{Refusal}
use Rattle.rs_wire.specs.declared.call.Call.{Call}
use Rattle.rs_wire.specs.declared.call.Call.TheVariants as call
use Rattle.rs_frame.specs.declared.frame.Frame.{Frame}
use Rattle.rs_frame.specs.declared.frame.Frame.TheVariants as frame
use Rattle.rs_frame.specs.Framed.{framed_all}
use Rattle.rs_frame.specs.Spelling.{IsSpellable, length_of}
use Rattle.position.specs.Boundaries.{pos}
use Rattle.tape.specs.declared.entry.Entry.{Entry}
use Rattle.tape.specs.declared.event.Event.TheVariants as event
use Rattle.tape.specs.declared.answer.Answer.TheVariants as answer
use Rattle.stream_model.specs.declared.stream.Limits.{Limits}
use Rattle.stream_model.specs.Known.{Known, next_id}
use Rattle.stream_model.specs.Arriving.{no_message}
use Rattle.interactions.specs.Answers.{next_within}
use Rattle.interactions.specs.Seen.{Seen, known_to}
use Rattle.session_model.specs.Answers.{accepted, answer_to, refused_or}
use Rattle.session_model.specs.Frames.{if_carrying, in_fragments, makes, request_frame, sent_as, spoken}
use Rattle.session_model.specs.Legal.{IsFair, LeavesEntry}
use Rattle.session_model.specs.Life.{live_after}
use Rattle.session_model.specs.Means.{Means}
use Rattle.session_core.specs.declared.state.State.{State}
use Rattle.session_core.specs.Fits.{AreLimits, Fits, facts_of}
use Rattle.session_core.specs.Leasing.{covers_next}
use Rattle.session_core.specs.Line.{line_of}
use Rattle.session_core.specs.Outgoing.{CanGo, frame_made}
use Rattle.session_core.specs.Prepared.{lined_on}
use Rattle.session_core.specs.Sending.{GoesOut, IsCallOn, MaySend, Sends, answer_on, frame_on, is_last, own_next}
use Rattle.session_core.proofs.Framed.{fits_alone}
use Rattle.session_core.proofs.Soundness.{answer_of}
use Rattle.session_core.proofs.Spelling.{frame_goes}
use Rattle.session_core.proofs.Sums.{pos_one}

or_true : (a b : Bool) → b ≡ true → (a || b) ≡ true
or_true true b is = refl
or_true false b is = is

-- a frame that is not longer than the mtu is not split
pub alone_below : (f : Frame) (mtu n : ℕ) → length_of f ≡ n → nat_le n mtu ≡ true → in_fragments mtu f ≡ f ∷ []
alone_below f mtu n is short = fits_alone f mtu (or_true (mtu == 0) (nat_le (length_of f) mtu) (subst (λ (k : ℕ). nat_le k mtu ≡ true) (sym is) short))

next_unless : (spent : Bool) (n : ℕ) → IfSome (cond {A = Option ℕ} spent None (Some n)) (λ on. on ≡ n)
next_unless true n = tt
next_unless false n = refl

-- an id that is not spent is the next
pub next_own : (v : Seen) (o : Option ℕ) → o ≡ next_within v.limits (known_to v) → IfSome o (λ on. on ≡ own_next v)
next_own v o is = subst (λ (k : Option ℕ). IfSome k (λ on. on ≡ own_next v)) (sym is) (next_unless (nat_lt v.limits.last_id (own_next v)) (own_next v))

-- ---- the answer

-- it means what any such answer means
pub sent_means : (g : Settings) (s : State) (asked : Call) (on : ℕ) → AreLimits g s → IsCallOn (own_next s.streams) asked on → MaySend g s asked → Means g (facts_of s) (event.Asked asked) (answer_on asked on)
sent_means g s (call.Request kind initial message complete) on limits is may = record { next = is ∙ ap (λ (l : Limits). next_id l.side (known_to s.streams)) limits; accepted = may.accepted }
sent_means g s (call.Next n message complete) on limits is may = may.accepted
sent_means g s (call.Done n) on limits is may = may.accepted
sent_means g s (call.Grant n amount) on limits is may = may.accepted
sent_means g s (call.Cancel n) on limits is may = may.accepted
sent_means g s (call.Fail n code content) on limits is may = may.accepted
sent_means g s asked on limits is may = absurd is

answer_accepted : (g : Settings) (s : State) (asked : Call) (on : ℕ) → AreLimits g s → IsCallOn (own_next s.streams) asked on → answer_on asked on ≡ accepted g (facts_of s) asked
answer_accepted g s (call.Request kind initial message complete) on limits is = ap answer.Started (is ∙ ap (λ (l : Limits). next_id l.side (known_to s.streams)) limits)
answer_accepted g s (call.Next n message complete) on limits is = refl
answer_accepted g s (call.Done n) on limits is = refl
answer_accepted g s (call.Grant n amount) on limits is = refl
answer_accepted g s (call.Cancel n) on limits is = refl
answer_accepted g s (call.Fail n code content) on limits is = refl
answer_accepted g s asked on limits is = absurd is

pub sent_answer : (g : Settings) (s : State) (past : List Entry) (asked : Call) (on : ℕ) → Fits g s past → IsCallOn (own_next s.streams) asked on → MaySend g s asked
    → answer_on asked on ≡ answer_to g past (event.Asked asked)
sent_answer g s past asked on fits is may =
    answer_of g s past (event.Asked asked) (answer_on asked on) fits
    (answer_accepted g s asked on fits.limits_are is ∙ sym (ap (λ (r : Option Refusal). refused_or r (accepted g (facts_of s) asked)) may.accepted))

pub sent_leaves : (asked : Call) (on : ℕ) → LeavesEntry (answer_on asked on)
sent_leaves (call.Request kind initial message complete) on = search rules
sent_leaves asked on = search rules

-- ---- the frame

-- it is the frame of the call
frame_as : (t : Known) (asked : Call) (on : ℕ) → frame_made t (answer_on asked on) (event.Asked asked) ≡ spoken t on asked
frame_as t (call.Request kind initial message complete) on = refl
frame_as t asked on = refl

made_as : (g : Settings) (covered : Bool) (t : Known) (asked : Call) (on : ℕ) → makes g covered t (answer_on asked on) (event.Asked asked) ≡ sent_as g (spoken t on asked)
made_as g covered t (call.Request kind initial message complete) on = refl
made_as g covered t asked on = refl

-- what is written is that frame
pub frame_spoken : (t : Known) (next : ℕ) (asked : Call) (on : ℕ) (last : Bool) → IsCallOn next asked on → last ≡ is_last t asked → frame_on on last asked ≡ spoken t on asked
frame_spoken t next (call.Request kind initial message complete) on last is so = ap (λ (b : Bool). Some (request_frame on kind initial message b)) so
frame_spoken t next (call.Next n message complete) on last is so =
    ap (λ (k : ℕ). Some (frame.Payload k false last true message)) is ∙ ap (λ (b : Bool). Some (frame.Payload n false b true message)) so
frame_spoken t next (call.Done n) on last is so = ap (λ (k : ℕ). Some (frame.Payload k false true false no_message)) is
frame_spoken t next (call.Grant n amount) on last is so = ap (λ (k : ℕ). Some (frame.RequestN k amount)) is
frame_spoken t next (call.Cancel n) on last is so = ap (λ (k : ℕ). Some (frame.Cancel k)) is
frame_spoken t next (call.Fail n code content) on last is so = ap (λ (k : ℕ). Some (frame.Error k code content)) is
frame_spoken t next asked on last is so = absurd is

spelled_where : (o : Option Frame) → IfSome o CanGo → IfSome o IsSpellable
spelled_where None goes = tt
spelled_where (Some f) goes = goes.0

pub sent_spellable : (g : Settings) (s : State) (asked : Call) (on : ℕ) → IsChecked g → (known_to s.streams).even < 2 ^ 31 → (known_to s.streams).odd < 2 ^ 31 → IsFair g (event.Asked asked) → AreLimits g s
    → IsCallOn (own_next s.streams) asked on → MaySend g s asked → IfSome (spoken (known_to s.streams) on asked) IsSpellable
sent_spellable g s asked on checked even odd fair limits is may =
    spelled_where (spoken (known_to s.streams) on asked)
    (subst (λ (o : Option Frame). IfSome o CanGo) (frame_as (known_to s.streams) asked on)
    (frame_goes g s (event.Asked asked) (answer_on asked on) checked even odd fair (sent_means g s asked on limits is may)))

alone_where : (g : Settings) (o : Option Frame) (mtu n : ℕ) → IfSome o (λ f. n ≡ length_of f) → mtu ≡ g.mtu → ((f : Frame) → length_of f ≡ n → in_fragments mtu f ≡ f ∷ []) → sent_as g o ≡ option_to_list o
alone_where g None mtu n long limit alone = refl
alone_where g (Some f) mtu n long limit alone = subst (λ (m : ℕ). in_fragments m f ≡ f ∷ []) limit (alone f (sym long))

-- one that is not split is all that is made
pub sent_made : (g : Settings) (s : State) (asked : Call) (on mtu n : ℕ) → IfSome (spoken (known_to s.streams) on asked) (λ f. n ≡ length_of f) → mtu ≡ g.mtu → ((f : Frame) → length_of f ≡ n → in_fragments mtu f ≡ f ∷ [])
    → makes g (covers_next g s) (known_to s.streams) (answer_on asked on) (event.Asked asked) ≡ option_to_list (spoken (known_to s.streams) on asked)
sent_made g s asked on mtu n long limit alone = made_as g (covers_next g s) (known_to s.streams) asked on ∙ alone_where g (spoken (known_to s.streams) on asked) mtu n long limit alone

pub is_spoken : (t : Known) (next : ℕ) (asked : Call) (on : ℕ) → IsCallOn next asked on → is_some (spoken t on asked) ≡ true
is_spoken t next (call.Request kind initial message complete) on is = refl
is_spoken t next (call.Next n message complete) on is = refl
is_spoken t next (call.Done n) on is = refl
is_spoken t next (call.Grant n amount) on is = refl
is_spoken t next (call.Cancel n) on is = refl
is_spoken t next (call.Fail n code content) on is = refl
is_spoken t next asked on is = absurd is

one_where : (o : Option Frame) → is_some o ≡ true → length (option_to_list o) ≡ 1
one_where None some = absurd (cc)
one_where (Some f) some = refl

long_where : (o : Option Frame) (n : ℕ) → is_some o ≡ true → IfSome o (λ f. n ≡ length_of f) → pos (option_to_list o) ≡ n
long_where None n some long = absurd (cc)
long_where (Some f) n some long = pos_one f ∙ sym long

pub sent_sends : (g : Settings) (s : State) (asked : Call) (on n : ℕ) → IsCallOn (own_next s.streams) asked on → MaySend g s asked → IfSome (spoken (known_to s.streams) on asked) (λ f. n ≡ length_of f)
    → makes g (covers_next g s) (known_to s.streams) (answer_on asked on) (event.Asked asked) ≡ option_to_list (spoken (known_to s.streams) on asked) → Sends g s asked on n
sent_sends g s asked on n is may long made =
    let some = is_spoken (known_to s.streams) (own_next s.streams) asked on is in
    record {
      may = may;
      alone = made;
      one = ap length made ∙ one_where (spoken (known_to s.streams) on asked) some;
      long = ap pos made ∙ long_where (spoken (known_to s.streams) on asked) n some long;
    }

-- ---- in line

-- nothing else is put in line
line_alone : (g : Settings) (s : State) (next : ℕ) (asked : Call) (on : ℕ) → IsCallOn next asked on
    → line_of g s (answer_on asked on) (event.Asked asked) ≡ framed_all (if_carrying s.carrying (makes g (covers_next g s) (known_to s.streams) (answer_on asked on) (event.Asked asked)))
line_alone g s next (call.Request kind initial message complete) on is = refl
line_alone g s next (call.Next n message complete) on is = refl
line_alone g s next (call.Done n) on is = refl
line_alone g s next (call.Grant n amount) on is = refl
line_alone g s next (call.Cancel n) on is = refl
line_alone g s next (call.Fail n code content) on is = refl
line_alone g s next asked on is = absurd is

still_live : (asked : Call) (on live : ℕ) → live_after (answer_on asked on) live ≡ live
still_live (call.Request kind initial message complete) on live = refl
still_live asked on live = refl

pub sent_lined : (g : Settings) (s : State) (asked : Call) (on : ℕ) → IsCallOn (own_next s.streams) asked on → GoesOut s
    → makes g (covers_next g s) (known_to s.streams) (answer_on asked on) (event.Asked asked) ≡ option_to_list (spoken (known_to s.streams) on asked)
    → framed_all (option_to_list (spoken (known_to s.streams) on asked)) ≡ lined_on (live_after (answer_on asked on) s.live) (line_of g s (answer_on asked on) (event.Asked asked))
sent_lined g s asked on is out made =
    let a = answer_on asked on in
    let e = event.Asked asked in
    let ms = makes g (covers_next g s) (known_to s.streams) a e in
    ap framed_all (sym made)
    ∙ (ap (λ (b : Bool). framed_all (if_carrying b ms)) (sym out.carries)
    ∙ (sym (line_alone g s (own_next s.streams) asked on is)
    ∙ (ap (λ (b : Bool). cond {A = List ℕ} b (line_of g s a e) []) (sym out.connected)
    ∙ ap (λ (n : ℕ). lined_on n (line_of g s a e)) (sym (still_live asked on s.live)))))
