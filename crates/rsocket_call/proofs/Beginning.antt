-- A call can begin after its tick and its first opening.
use Rattle.std.proofs.Common.{◌≡◌, ◌∙◌, ◌&&◌, ◌^◌, ◌≤◌, ℕ, Bool, true, false, true≢false, List, [], ◌∷◌, Option, None, inl, inr, refl, sym, ap, subst, arith, length}
use Rattle.rs_wire.specs.declared.settings.Settings.{Settings}
use Rattle.rs_wire.specs.Calls.{is_streamed}
use Rattle.tape.specs.Answers.{leaves}
use Rattle.tape.specs.Told.{entry_of}
use Rattle.tape.specs.declared.event.Event.TheVariants as event
use Rattle.tape.specs.declared.answer.Answer.{Answer}
use Rattle.tape.specs.declared.answer.Answer.TheVariants as answer
use Rattle.tape.specs.declared.entry.Entry.{Entry}
use Rattle.session_model.specs.Answers.{answer_to, facts}
use Rattle.session_model.specs.Life.{begun, live, openings}
use Rattle.session_core.specs.Seen.{IsOrOutOfMemory}
use Rattle.conn_shared.specs.Members.{Knowledge}
use Rattle.call_model.specs.Order.{Asking, InOrder}
use Rattle.call_model.specs.Saying.{said, started}
use Rattle.call_model.specs.Timing.{AreMoments}
use Rattle.call_model.proofs.Present.{joined_opened}
use Rattle.session_model.specs.Legal.{Legal}
use Rattle.client.specs.Alone.{IsOwn}
use Rattle.client.specs.Calling.{CanBegin}
use Rattle.client.specs.Clients.{ClientSeen, on}
use Rattle.client.proofs.Alone.{Adds, own_call}
use Rattle.rsocket_call.specs.Begun.{HasOpened, HasTicked}
use Rattle.rsocket_call.proofs.Saying.{says_nothing}

-- ---- a tick before anything

tick_is_quiet : (g : Settings) (now : ℕ) → answer_to g [] (event.Tick now) ≡ answer.Quiet
unfolding facts live
tick_is_quiet g now = refl

the_answer : (a right : Answer) → (a ≡ answer.TapeFull → ⊥) → (a ≡ answer.OutOfMemory → ⊥) → IsOrOutOfMemory a right → a ≡ right
the_answer answer.TapeFull right full memory h = absurd (full refl)
the_answer answer.OutOfMemory right full memory h = absurd (memory refl)
the_answer _ right full memory h = h

no_place : (n : ℕ) → n ≡ 0 → 2 ^ 63 ≤ n → ⊥
no_place n none most = omega (arith, none, most)

-- the entry of the tick stands alone
pub tick_first : (moments : Option (List ℕ)) (me : Knowledge) (new : List Entry) → me.front ≡ [] → (t : HasTicked moments me new) → Adds me (event.Tick t.now) t.answered new → new ≡ entry_of me.number (event.Tick t.now) answer.Quiet ∷ []
tick_first moments me new none t adds =
    let quiet : t.answered ≡ answer.Quiet = the_answer t.answered answer.Quiet (λ full. no_place (length me.front) (ap length none) (adds.step.full.0 full)) t.had
    (subst (λ a. IsOrOutOfMemory t.answered a) (ap (λ (l : List Entry). answer_to me.of.settings l (event.Tick t.now)) none ∙ tick_is_quiet me.of.settings t.now) adds.step.answered) in
    elim (adds.came) [
      | inl none_left ↦ absurd (true≢false (sym (ap leaves quiet) ∙ none_left.0))
      | inr one ↦ one.1 ∙ (ap (λ a. entry_of me.number (event.Tick t.now) a ∷ me.front) quiet ∙ ap (λ (l : List Entry). entry_of me.number (event.Tick t.now) answer.Quiet ∷ l) none)
    ]

and_false : (b : Bool) → (b && false) ≡ false
and_false true = refl
and_false false = refl

-- ---- the tick and the opening

module _ (w : Asking) (moments : Option (List ℕ)) (n now c : ℕ) where
  abbrev tick : Entry
  tick = entry_of n (event.Tick now) answer.Quiet

  abbrev open_entry : Entry
  open_entry = entry_of n (event.Open None false) (answer.Opened c)

  pub tick_in_order : InOrder w (tick ∷ [])
  unfolding InOrder started
  tick_in_order = (tt, record { must = tt; may = refl })

  both_in_order : InOrder w (open_entry ∷ tick ∷ [])
  unfolding InOrder started begun
  both_in_order = (tick_in_order, record { must = rw (and_false (is_streamed w.kind)) tt; may = refl })

  tick_not_begun : begun (tick ∷ []) ≡ false
  unfolding begun
  tick_not_begun = refl

  pub tick_unstarted : started (tick ∷ []) ≡ None
  unfolding started
  tick_unstarted = refl

  pub tick_opens_none : openings (tick ∷ []) ≡ 0
  unfolding openings
  tick_opens_none = refl

  none_started : started (open_entry ∷ tick ∷ []) ≡ None
  unfolding started
  none_started = refl

-- the client that was opened so
pub opened_twice : (moments : Option (List ℕ)) (me : Knowledge) (c : ClientSeen) → me.front ≡ [] → (o : HasOpened moments me c) → IsOwn c.caller
    → c.caller.front ≡ entry_of me.number (event.Open None false) (answer.Opened c.conn) ∷ entry_of me.number (event.Tick o.ticks.now) answer.Quiet ∷ []
opened_twice moments me c none o own =
    let unnoted : c.caller.note ≡ None = ap (λ (k : Knowledge). k.note) o.caller in
    let same : c.caller ≡ record me { front = c.caller.front; note = c.caller.note } = subst (λ n. c.caller ≡ record me { front = c.caller.front; note = n }) (sym unnoted) o.caller in
    let opening = own_call me.of.settings (on me o.ticked) c.caller (event.Open None false) (answer.Opened c.conn) refl same o.opens own in
    let tick = own_call me.of.settings me (on me o.ticked) (event.Tick o.ticks.now) o.ticks.answered refl refl o.ticks.called opening.0 in
    let first = tick_first moments me o.ticked none o.ticks tick.1 in
    elim (opening.1.came) [
      | inl none_left ↦ absurd (true≢false none_left.0)
      | inr one ↦ one.1 ∙ ap (λ (l : List Entry). entry_of me.number (event.Open None false) (answer.Opened c.conn) ∷ l) first
    ]

pub can_begin : (w : Asking) (moments : Option (List ℕ)) (me : Knowledge) (c : ClientSeen) → me.front ≡ [] → HasOpened moments me c → IsOwn c.caller → CanBegin w moments c.caller.front c.conn c.link
can_begin w moments me c none o own =
    let is = opened_twice moments me c none o own in
    record {
      link = o.link;
      has = o.has;
      new_link = o.new;
      begins = record {
        entry = entry_of me.number (event.Open None false) (answer.Opened c.conn);
        before = entry_of me.number (event.Tick o.ticks.now) answer.Quiet ∷ [];
        is = is;
        event = refl;
        answered = refl;
        first = tick_not_begun w moments me.number o.ticks.now c.conn;
      };
      order = subst (InOrder w) (sym is) (both_in_order w moments me.number o.ticks.now c.conn);
      timed = subst (AreMoments moments) (sym is) (tt, (o.ticks.moment, tt));
    }

-- nothing is said yet
pub nothing_said : (w : Asking) (moments : Option (List ℕ)) (me : Knowledge) (c : ClientSeen) → me.front ≡ [] → HasOpened moments me c → IsOwn c.caller → said w.kind false c.caller.front ≡ []
nothing_said w moments me c none o own =
    let is = opened_twice moments me c none o own in
    ap (said w.kind false) is ∙ says_nothing w.kind _ (none_started w moments me.number o.ticks.now c.conn)

-- ---- the first opening has the number 1

two_openings : (n now c : ℕ) → openings (entry_of n (event.Open None false) (answer.Opened c) ∷ entry_of n (event.Tick now) answer.Quiet ∷ []) ≡ 1
unfolding openings
two_openings n now c = refl

pub first_is_one : (moments : Option (List ℕ)) (me : Knowledge) (c : ClientSeen) → me.front ≡ [] → HasOpened moments me c → IsOwn c.caller → c.conn ≡ 1
first_is_one moments me c none o own =
    let is = opened_twice moments me c none o own in
    let tick = entry_of me.number (event.Tick o.ticks.now) answer.Quiet in
    let opening = entry_of me.number (event.Open None false) (answer.Opened c.conn) in
    let joined = joined_opened c.caller.of.settings (tick ∷ []) opening c.conn (subst (Legal c.caller.of.settings) is own.lawful.legal) refl refl in
    sym joined.last ∙ two_openings me.number o.ticks.now c.conn
