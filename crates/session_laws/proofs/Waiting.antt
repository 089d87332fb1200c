-- What is queued on a connection that waits for RESUME_OK.
use Rattle.std.proofs.Common.{◌≡◌, ◌≤◌, ◌+◌, ◌==◌, ◌&&◌, ◌∙◌, ℕ, Bool, true, false, not, cond, List, [], ◌∷◌, ◌++◌, length, Some, None, refl, sym, ap, subst, append-nil, length-append, arith}
use Rattle.std.proofs.lemmas.Grind.{common_steps}
use Rattle.std.proofs.lemmas.Bool.Decides.{nat_tests}
use Rattle.byteorder.specs.Endian.{big_bytes}
use Rattle.rs_wire.specs.Settings.{IsChecked, is_client, out_limit_of}
use Rattle.rs_wire.specs.declared.settings.Settings.{Settings}
use Rattle.rs_wire.specs.declared.call.Call.TheVariants as call
use Rattle.rs_frame.specs.declared.frame.Frame.{Frame}
use Rattle.rs_frame.specs.declared.frame.Frame.TheVariants as frame
use Rattle.rs_frame.specs.Framed.{framed_all, framed_frame}
use Rattle.rs_frame.specs.Spelling.{length_of}
use Rattle.rs_chunk.proofs.Lengths.{length-framed_frame}
use Rattle.position.specs.Boundaries.{pos}
use Rattle.tape.specs.declared.event.Event.{Event}
use Rattle.tape.specs.declared.event.Event.TheVariants as event
use Rattle.tape.specs.declared.answer.Answer.{Answer}
use Rattle.tape.specs.declared.answer.Answer.TheVariants as answer
use Rattle.tape.specs.declared.entry.Entry.{Entry}
use Rattle.session_model.specs.declared.numbers.TheConstants.{ANSWER_ROOM}
use Rattle.session_model.specs.Life.{begun, carrying, carrying_after, closed, closes, is_live, is_opened, live, live_after}
use Rattle.session_model.specs.Frames.{beside, due, first, handled, if_carrying, lines_up, owes, queued, resume_frame}
use Rattle.session_model.specs.Answers.{facts}
use Rattle.session_model.specs.Legal.{Fair, IsFair, Legal}
use Rattle.session_model.specs.Means.{Means}
use Rattle.session_model.proofs.Meaning.{last_means}
use Rattle.session_model.proofs.Openings.{due_later}
use Rattle.session_model.proofs.Refusals.{can_send_beside, unrefused}
use Rattle.session_laws.specs.Resumption.{IsResumeAlone, IsWaiting}
use Rattle.session_laws.specs.Streams.{IsLawful}
use Rattle.session_laws.proofs.Quiet.{first_none}

both : (a b : Bool) → not (a && b) ≡ false → (a ≡ true) × (b ≡ true)
both true true is = (refl, refl)
both true false is = absurd (cc)
both false b is = absurd (cc)

here_so : (n : ℕ) → (n == 0) ≡ false → is_live n n ≡ true
here_so n some = grind (arith, nat_tests, common_steps)

if_none : (carries : Bool) → if_carrying carries [] ≡ []
if_none true = refl
if_none false = refl

-- a client that opens again has its RESUME in line
greeted : (g : Settings) (past : List Entry) (e : Event) (n : ℕ) → Legal g past → IsFair g e → Means g (facts g past) e (answer.Opened n) → carrying_after g (begun past) (answer.Opened n) e (carrying g past) ≡ false → (n == 0) ≡ false
    → IsResumeAlone g (due g past n ++ owes g past n (answer.Opened n) e)
unfolding facts
greeted g past (event.Open None taken) n legal fair means waits some =
    let again = (both (begun past) (is_client g.side) waits).0 in
    let next = means.next in
    let none = due_later g past n legal (omega (arith, next)) in
    (pos (handled past), first g past, rw (none, here_so n some, again, if_none (carrying g past)) refl)
greeted g past (event.Open (Some f) taken) n legal fair means waits some =
    let client = (both (begun past) (is_client g.side) waits).1 in
    let server = ap is_client fair.0 in
    absurd (cc)
greeted g past e n legal fair means waits some = absurd means

-- what leaves a connection waiting puts nothing in line on it
lines_none : (g : Settings) (past : List Entry) (a : Answer) (e : Event) → Means g (facts g past) e a → is_opened a ≡ false → carrying g past ≡ false → carrying_after g (begun past) a e (carrying g past) ≡ false → closes g past a e ≡ None
    → beside g past a e ≡ []
unfolding facts
lines_none g past (answer.Opened n) e means keeps was still stays = absurd (cc)
lines_none g past (answer.Violation broken) e means keeps was still stays = absurd (cc)
lines_none g past (answer.ResumeRefused why) (event.Came conn f) means keeps was still stays = absurd (cc)
lines_none g past answer.Handled (event.Came conn (frame.ResumeOk position)) means keeps was still stays = absurd (cc)
lines_none g past answer.Handled (event.Came conn (frame.Keepalive respond position content)) means keeps was still stays = let carries = means.may.0 in absurd (cc)
lines_none g past answer.Sent (event.Tick now) means keeps was still stays = let carries = means.carries in absurd (cc)
lines_none g past answer.Sent e means keeps was still stays = absurd means
lines_none g past answer.Done (event.Asked (call.Push metadata)) means keeps was still stays =
    let carries = (can_send_beside g (facts g past) (frame.MetadataPush metadata) (unrefused g (facts g past) (call.Push metadata) means).sending).carries in absurd (cc)
lines_none g past answer.Done (event.Asked (call.Lease ttl count metadata)) means keeps was still stays =
    let carries = (can_send_beside g (facts g past) (frame.Lease ttl count metadata) (unrefused g (facts g past) (call.Lease ttl count metadata) means).sending).carries in absurd (cc)
lines_none g past answer.Done (event.Asked call.Close) means keeps was still stays = absurd (cc)
lines_none g past a e means keeps was still stays = refl

owes_none : (g : Settings) (past : List Entry) (c : ℕ) (a : Answer) (e : Event) → beside g past a e ≡ [] → carrying g past ≡ false → owes g past c a e ≡ []
owes_none g past c a e none was =
    elim (is_live (live_after a (live past)) c) as (λ v. cond {A = List Frame} v (lines_up g past a e) [] ≡ []) [ true ↦ rw (none, was) refl | false ↦ refl ]

-- a connection that was opened before the last entry waited before it
waited : (g : Settings) (begun : Bool) (a : Answer) (e : Event) (now : ℕ) (before : Bool) → is_opened a ≡ false → (live_after a now == 0) ≡ false → carrying_after g begun a e before ≡ false → (live_after a now ≡ now) × (before ≡ false)
waited g begun (answer.Opened n) e now before keeps here still = absurd (cc)
waited g begun answer.Parted e now before keeps here still = absurd (cc)
waited g begun (answer.Dead last) e now before keeps here still = absurd (cc)
waited g begun answer.Handled (event.Came conn (frame.ResumeOk position)) now before keeps here still = absurd (cc)
waited g begun a e now before keeps here still = (refl, still)

abbrev Alone : Settings → List Entry → Type 0
Alone g past = IsWaiting g past → IsResumeAlone g (due g past (live past))

stays_alone : (g : Settings) (x : Entry) (past : List Entry) → Legal g (x ∷ past) → is_opened x.answer ≡ false → IsWaiting g (x ∷ past) → Alone g past → IsResumeAlone g (due g (x ∷ past) (live (x ∷ past)))
unfolding live carrying closed due
stays_alone g x past legal keeps is before =
    let w = waited g (begun past) x.answer x.event (live past) (carrying g past) keeps is.here is.waits in
    let free = first_none (closed g past) (closes g past x.answer x.event) is.free in
    let here : (live past == 0) ≡ false = subst (λ n. (n == 0) ≡ false) w.0 is.here in
    let alone = before (record { here = here; waits = w.1; free = free.0 }) in
    let lines = lines_none g past x.answer x.event (last_means g x past legal) keeps w.1 is.waits free.1 in
    let none = owes_none g past (live past) x.answer x.event lines w.1 in
    subst (λ n. IsResumeAlone g (due g past n ++ owes g past n x.answer x.event)) (sym w.0)
    (alone.0, alone.1, ap (λ (l : List Frame). due g past (live past) ++ l) none ∙ (append-nil (due g past (live past)) ∙ alone.2))

alone_step : (g : Settings) (x : Entry) (past : List Entry) (a : Answer) → x.answer ≡ a → Legal g (x ∷ past) → IsFair g x.event → IsWaiting g (x ∷ past) → Alone g past → IsResumeAlone g (due g (x ∷ past) (live (x ∷ past)))
unfolding live carrying due Legal
alone_step g x past (answer.Opened n) is legal fair waits before =
    let means = subst (λ a. Means g (facts g past) x.event a) is (last_means g x past legal) in
    let still = subst (λ a. carrying_after g (begun past) a x.event (carrying g past) ≡ false) is waits.waits in
    let some : (n == 0) ≡ false = subst (λ a. (live_after a (live past) == 0) ≡ false) is waits.here in
    subst (λ a. IsResumeAlone g (due g past (live_after a (live past)) ++ owes g past (live_after a (live past)) a x.event)) (sym is) (greeted g past x.event n legal.0 fair means still some)
alone_step g x past a is legal fair waits before = stays_alone g x past legal (ap is_opened is) waits before

pub resume_alone : (g : Settings) (past : List Entry) → IsLawful g past → IsWaiting g past → IsResumeAlone g (due g past (live past))
unfolding live Legal Fair
resume_alone g [] h waits = let none = waits.here in absurd (cc)
resume_alone g (x ∷ past) h waits =
    alone_step g x past x.answer refl h.legal h.fair.1 waits (resume_alone g past (record { legal = h.legal.0; fair = h.fair.0 }))

-- ---- how long it is

pub resume_length : (g : Settings) (told from : ℕ) → length (framed_all (resume_frame g told from ∷ [])) ≤ length g.token + 31
resume_length g told from =
    let f = resume_frame g told from in
    let one : framed_all (f ∷ []) ≡ framed_frame f = append-nil (framed_frame f) in
    let long : length_of f ≡ length g.token + 28 = omega (arith, length-append g.token (big_bytes 8 told ++ big_bytes 8 from)) in
    subst (λ (bytes : List ℕ). length bytes ≤ length g.token + 31) (sym one) (omega (arith, length-framed_frame f, long))

pub ok_room : (g : Settings) (past : List Entry) (position : ℕ) → IsChecked g → IsLawful g past → IsWaiting g past → queued g past + length_of (frame.ResumeOk position) + ANSWER_ROOM ≤ out_limit_of g
unfolding queued
ok_room g past position checked h waits =
    let alone = resume_alone g past h waits in
    let long = resume_length g alone.0 alone.1 in
    let token = checked.token in
    rw alone.2 (omega (arith, long, token))
