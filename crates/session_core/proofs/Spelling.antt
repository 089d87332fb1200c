-- The frames that are made can be spelled.
use Rattle.std.proofs.Common.{◌<◌, ◌^◌, Option, Some, None, IfSome, ℕ, Bool, true, false, cond, List, [], ◌∷◌, arith}
use Rattle.std.specs.List.{AllByRecursion}
use Rattle.rs_wire.specs.Settings.{IsChecked}
use Rattle.rs_wire.specs.Words.{gone_word, rule_word}
use Rattle.rs_wire.specs.declared.settings.Settings.{Settings}
use Rattle.rs_wire.specs.declared.call.Call.TheVariants as call
use Rattle.rs_frame.specs.declared.frame.Frame.{Frame}
use Rattle.rs_frame.specs.declared.frame.Frame.TheVariants as frame
use Rattle.rs_frame.specs.Spelling.{IsSpellable}
use Rattle.replay_buffer.specs.Held.{IsHeldBoundary}
use Rattle.tape.specs.declared.event.Event.{Event}
use Rattle.tape.specs.declared.event.Event.TheVariants as event
use Rattle.tape.specs.declared.answer.Answer.{Answer}
use Rattle.tape.specs.declared.answer.Answer.TheVariants as answer
use Rattle.interactions.specs.Seen.{known_to}
use Rattle.session_model.specs.Frames.{closing_error, makes, resume_frame, setup_frame, spoken, tells}
use Rattle.session_model.specs.Life.{agrees_resumption}
use Rattle.session_model.specs.Legal.{IsFair}
use Rattle.session_model.specs.Means.{Means}
use Rattle.session_model.proofs.Beside.{answers_spellable, asks_spellable, closing_spellable, done_small, gone_short, lease_spellable, ok_spellable, push_spellable, resume_spellable, setup_spellable, tells_below, words_short}
use Rattle.session_model.proofs.Ids.{IdsFit, started_fits}
use Rattle.session_model.proofs.Refusals.{unrefused}
use Rattle.session_model.proofs.Spelled.{IsWhole, done_spellable, makes_spellable, spoken_spellable, spoken_whole}
use Rattle.session_core.specs.declared.state.State.{State}
use Rattle.session_core.specs.Fits.{ArePositionsBelow, facts_of}
use Rattle.session_core.specs.Kept.{again_from}
use Rattle.session_core.specs.Leasing.{covers_next}
use Rattle.session_core.specs.Outgoing.{CanGo, frame_made, greeting, notices}
use Rattle.session_core.proofs.Keeping.{held_test}
use Rattle.session_core.proofs.Agreeing.{IsAccepted, again_accepted}

-- the ids of the streams have 31 bits
pub made_spelled : (g : Settings) (s : State) (e : Event) (a : Answer) → IsChecked g → (known_to s.streams).even < 2 ^ 31 → (known_to s.streams).odd < 2 ^ 31 → IsFair g e
    → Means g (facts_of s) e a → AllByRecursion IsSpellable (makes g (covers_next g s) (known_to s.streams) a e)
made_spelled g s e a checked even odd fair means = makes_spellable g (facts_of s) e a checked (record { even = even; odd = odd }) fair means

both : {A : Type 0} (P Q : A → Type 0) (o : Option A) → IfSome o P → IfSome o Q → IfSome o (λ x. P x × Q x)
both P Q None p q = tt
both P Q (Some x) p q = (p, q)

-- the frame of a call can be split
pub frame_goes : (g : Settings) (s : State) (e : Event) (a : Answer) → IsChecked g → (known_to s.streams).even < 2 ^ 31 → (known_to s.streams).odd < 2 ^ 31 → IsFair g e
    → Means g (facts_of s) e a → IfSome (frame_made (known_to s.streams) a e) CanGo
frame_goes g s (event.Asked (call.Request kind initial message complete)) (answer.Started id) checked even odd fair means =
    let asked = call.Request kind initial message complete in
    let ids : IdsFit (known_to s.streams) = record { even = even; odd = odd } in
    both IsSpellable IsWhole (spoken (known_to s.streams) id asked)
    (spoken_spellable g (facts_of s) id asked checked ids fair (started_fits g (facts_of s) kind initial message complete id checked means) (unrefused g (facts_of s) asked means.accepted))
    (spoken_whole (known_to s.streams) id asked)
frame_goes g s e (answer.Started id) checked even odd fair means = absurd means
frame_goes g s (event.Asked asked) answer.Done checked even odd fair means =
    let ids : IdsFit (known_to s.streams) = record { even = even; odd = odd } in
    both IsSpellable IsWhole (spoken (known_to s.streams) 0 asked)
    (done_spellable g (facts_of s) asked checked ids fair means)
    (spoken_whole (known_to s.streams) 0 asked)
frame_goes g s e answer.Done checked even odd fair means = absurd means
frame_goes g s e a checked even odd fair means = tt

-- the frames of the connection
greeting_spelled : (g : Settings) (s : State) (e : Event) → IsChecked g → ArePositionsBelow g s → AllByRecursion IsSpellable (greeting g (facts_of s) e)
greeting_spelled g s (event.Open None taken) checked below = (
  elim s.begun as (λ v. IsSpellable (cond v (resume_frame g s.handled.position s.outbox.held.first) (setup_frame g))) [
    | true ↦ resume_spellable g s.handled.position s.outbox.held.first checked below.handled below.first
    | false ↦ setup_spellable g checked
  ],
  tt,
)
greeting_spelled g s (event.Open (Some (frame.Resume r)) taken) checked below = (ok_spellable g s.handled.position checked below.handled, tt)
greeting_spelled g s e checked below = tt

-- the position that this end tells
position_below : (g : Settings) (s : State) (agreed : Bool) → IsChecked g → ArePositionsBelow g s → tells agreed s.handled.position < 2 ^ 63
position_below g s agreed checked below =
    let top = checked.top_position in
    let told = tells_below agreed s.handled.position g.top_position below.handled in
    omega arith

pub notices_spelled : (g : Settings) (s : State) (e : Event) (a : Answer) → IsChecked g → ArePositionsBelow g s → IsFair g e → Means g (facts_of s) e a → AllByRecursion IsSpellable (notices g (facts_of s) a e)
notices_spelled g s e (answer.Opened n) checked below fair means = greeting_spelled g s e checked below
notices_spelled g s e (answer.Violation r) checked below fair means = (closing_spellable (rule_word r) (words_short r), tt)
notices_spelled g s (event.Came conn f) (answer.ResumeRefused why) checked below fair means = (closing_spellable (gone_word why) (gone_short why), tt)
notices_spelled g s (event.Came conn (frame.Keepalive respond position content)) answer.Handled checked below fair means =
    let agreed = agrees_resumption g s.setup in
    answers_spellable respond (tells agreed s.handled.position) position content (position_below g s agreed checked below) fair
notices_spelled g s e answer.Sent checked below fair means =
    let agreed = agrees_resumption g s.setup in
    (asks_spellable (tells agreed s.handled.position) (position_below g s agreed checked below), tt)
notices_spelled g s (event.Asked (call.Push metadata)) answer.Done checked below fair means =
    let asked = call.Push metadata in
    (push_spellable metadata (done_small g (facts_of s) asked checked (unrefused g (facts_of s) asked means).size), tt)
notices_spelled g s (event.Asked (call.Lease ttl count metadata)) answer.Done checked below fair means =
    let asked = call.Lease ttl count metadata in
    (lease_spellable ttl count metadata fair.1.0.1 fair.1.1.1 (done_small g (facts_of s) asked checked (unrefused g (facts_of s) asked means).size), tt)
notices_spelled g s (event.Asked call.Close) answer.Done checked below fair means =
    elim s.carrying as (λ v. AllByRecursion IsSpellable (cond {A = List Frame} v (closing_error [] ∷ []) [])) [ true ↦ (closing_spellable [] (omega arith), tt) | false ↦ tt ]
notices_spelled g s e a checked below fair means = tt

-- frames are sent again from a held boundary on
held_where : (s : State) (o : Option ℕ) → IfSome o (IsAccepted (facts_of s)) → IfSome o (IsHeldBoundary s.outbox.held)
held_where s None is = tt
held_where s (Some p) is = held_test s.outbox.held p is.boundary

pub again_held : (g : Settings) (s : State) (e : Event) (a : Answer) → Means g (facts_of s) e a → IfSome (again_from a e) (IsHeldBoundary s.outbox.held)
again_held g s e a means = held_where s (again_from a e) (again_accepted g (facts_of s) a e means)
