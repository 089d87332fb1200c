-- Bytes that wait in the queue once a frame found no place there.
use Rattle.std.proofs.lemmas.Bool.Decides.{nat_tests}
use Rattle.std.proofs.lemmas.List.{length-take}
use Rattle.std.proofs.Common.{◌≡◌, ◌<◌, ◌≤◌, ◌+◌, ◌^◌, ◌∙◌, ℕ, Bool, true, false, true≢false, nat_lt, if◌then◌else◌, List, length, take, drop, Option, Some, None, refl, ap, subst, arith}
use Rattle.rs_wire.specs.Settings.{out_limit_of}
use Rattle.rs_wire.specs.declared.fault.Cause.{Cause}
use Rattle.rs_wire.specs.declared.fault.Gone.{Gone}
use Rattle.rs_wire.specs.declared.fault.Rule.{Rule}
use Rattle.rs_wire.specs.declared.settings.Settings.{Settings}
use Rattle.rs_frame.specs.declared.frame.Frame.{Frame}
use Rattle.rs_frame.specs.declared.frame.Frame.TheVariants as frame
use Rattle.rs_frame.specs.Spelling.{Spells, length_of}
use Rattle.rs_frame.proofs.Whole.{one_length}
use Rattle.rs_chunk.specs.Stream.{IsWhole, first_frame, first_length}
use Rattle.tape.specs.declared.event.Event.{Event}
use Rattle.tape.specs.declared.event.Event.TheVariants as event
use Rattle.tape.specs.declared.answer.Answer.{Answer}
use Rattle.tape.specs.declared.answer.Answer.TheVariants as answer
use Rattle.tape.specs.declared.entry.Entry.{Entry}
use Rattle.session_model.specs.Answers.{Facts, answer_to, facts, handled_unless, handled_unless_gone, ok_gone, on_live, peer_error, rule_now, to_known, unless_busy, unless_closed, unless_error}
use Rattle.session_model.specs.Frames.{queued}
use Rattle.session_model.specs.Life.{is_live, live}
use Rattle.session_model.specs.declared.numbers.TheConstants.{ANSWER_ROOM}
use Rattle.link_model.specs.Carrying.{Between}
use Rattle.link_model.specs.Reading.{IsInFront}
use Rattle.pump.specs.Turns.{IsBusy}

-- ---- nothing else is answered so

abbrev is_busy : Answer → Bool
is_busy (answer.OutBusy q) = true
is_busy _ = false

handled_not : (r : Option Rule) → is_busy (handled_unless r) ≡ false
handled_not None = refl
handled_not (Some r) = refl

gone_not : (carrying : Bool) (r : Answer) (o : Option Gone) → is_busy r ≡ false → is_busy (if carrying then r else handled_unless_gone o) ≡ false
gone_not true r o not = not
gone_not false r None not = refl
gone_not false r (Some why) not = refl

known_not : (g : Settings) (t : Facts) (f : Frame) → is_busy (to_known g t f) ≡ false
known_not g t (frame.ResumeOk position) = gone_not t.carrying _ (ok_gone t position) refl
known_not g t f = handled_not (rule_now g t f)

error_not : (o : Option ℕ) (a : Answer) → is_busy a ≡ false → is_busy (unless_error o a) ≡ false
error_not None a not = not
error_not (Some code) a not = refl

-- what is answered so is longer than what is left of the queue
from : (g : Settings) (t : Facts) (conn len q : ℕ) (next : Answer) → is_busy next ≡ false → len < 2 ^ 24 → answer.OutBusy q ≡ on_live t conn (unless_closed t.closed (unless_busy g t len next)) → (is_live t.live conn ≡ true) × (0 < t.queued)
from g t conn len q next not short is = by (is_live t.live conn) t.closed (nat_lt (out_limit_of g) (t.queued + len + ANSWER_ROOM)) refl refl is
  where
    by : (here : Bool) (closed : Option Cause) (full : Bool) → is_live t.live conn ≡ here → nat_lt (out_limit_of g) (t.queued + len + ANSWER_ROOM) ≡ full
        → answer.OutBusy q ≡ (if here then unless_closed closed (if full then answer.OutBusy t.queued else next) else answer.Stale t.live) → (is_live t.live conn ≡ true) × (0 < t.queued)
    by true None true here full is = (here, (let past : out_limit_of g < t.queued + len + ANSWER_ROOM = grind (arith, nat_tests) in omega (arith, past, short)))
    by true None false here full is = absurd (true≢false (ap is_busy is ∙ not))
    by true (Some why) full here is_full is = absurd (true≢false (ap is_busy is))
    by false closed full here is_full is = absurd (true≢false (ap is_busy is))

take_few : (n : ℕ) (xs : List ℕ) → length (take n xs) ≤ n
take_few n xs = omega (arith, length-take n xs)

-- a whole frame within the limit is short
short_by : (f : Frame) (bytes : List ℕ) (most : ℕ) → most < 2 ^ 24 → IsWhole bytes most → Spells f (first_frame bytes) → length_of f < 2 ^ 24
short_by f bytes most short whole spells =
    let few : length (first_frame bytes) ≤ first_length bytes = take_few (first_length bytes) (drop 3 bytes) in
    let same : length (first_frame bytes) ≡ length_of f = one_length f (first_frame bytes) spells in
    omega (arith, few, same, whole.1, short)

-- where a frame finds no place in the queue the connection is live, and bytes wait
pub busy_waits : (g : Settings) (past : List Entry) (b : Between) (q : ℕ) → b.max_in < 2 ^ 24 → IsBusy g past b q → (is_live (live past) b.conn ≡ true) × (0 < queued g past)
unfolding facts
busy_waits g past b q short busy = by busy.event busy.front busy.answered
  where
    by : (e : Event) → IsInFront b.conn b.rest b.max_in e → answer.OutBusy q ≡ answer_to g past e → (is_live (live past) b.conn ≡ true) × (0 < queued g past)
    by (event.Came conn f) front is =
        subst (λ n. (is_live (live past) n ≡ true) × (0 < queued g past)) front.0
        (from g (facts g past) conn (length_of f) q (unless_error (peer_error f) (to_known g (facts g past) f)) (error_not (peer_error f) (to_known g (facts g past) f) (known_not g (facts g past) f)) (short_by f b.rest b.max_in short front.1 front.2) is)
    by (event.Bad conn rule) front is =
        subst (λ n. (is_live (live past) n ≡ true) × (0 < queued g past)) front.0 (from g (facts g past) conn 0 q _ refl (omega arith) is)
    by (event.Open first taken) front is = absurd front
    by (event.Cut conn) front is = absurd front
    by (event.Draw conn room) front is = absurd front
    by (event.Tick now) front is = absurd front
    by (event.Asked asked) front is = absurd front
