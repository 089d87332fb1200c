-- What the caller of one number added to a list in which it had nothing.
use Rattle.std.proofs.lemmas.Bool.Decides.{nat_tests}
use Rattle.std.proofs.Common.{◌≡◌, ◌<◌, ◌≤◌, ◌+◌, ◌&&◌, ◌==◌, ◌∙◌, ◌⊎◌, inl, inr, ℕ, Bool, true, false, nat_lt, if◌then◌else◌, List, [], ◌∷◌, ◌++◌, Option, Some, None, refl, sym, ap, subst, arith, append-nil}
use Rattle.rs_wire.specs.declared.settings.Settings.{Settings}
use Rattle.rs_frame.specs.declared.frame.Frame.{Frame}
use Rattle.tape.specs.Answers.{leaves}
use Rattle.tape.specs.Told.{entry_of}
use Rattle.tape.specs.declared.answer.Answer.{Answer}
use Rattle.tape.specs.declared.answer.Answer.TheVariants as answer
use Rattle.tape.specs.declared.entry.Entry.{Entry}
use Rattle.tape.specs.declared.event.Event.{Event}
use Rattle.tape.specs.declared.event.Event.TheVariants as event
use Rattle.stream_model.specs.Streams.{one_if}
use Rattle.session_model.specs.Joined.{opens_as}
use Rattle.session_model.specs.Life.{is_opened, openings_in}
use Rattle.conn_lock.specs.Callers.{times}
use Rattle.conn_shared.specs.Calls.{IsCalled}
use Rattle.conn_shared.specs.Members.{Knowledge}
use Rattle.pump.specs.Turns.{Ticks}
use Rattle.server.specs.Attending.{is_tick, ticks_by}
use Rattle.server.specs.Opening.{OpensAfter, TriesToOpen}
use Rattle.serve_model.specs.Counts.{accepted_by, accepts, accepts_as, opened_by, opens_by, since_open}
use Rattle.serve_model.specs.Names.{GoesOnBy, Under}
use Rattle.serve_model.proofs.Counts.{if_zero, is_named}
use Rattle.serve_model.proofs.Names.{goes_both}
use Rattle.serve_laws.proofs.Taking.{call_goes, under_others}

-- no entry carries the number
abbrev pub IsIdle : ℕ → List Entry → Type 0
IsIdle n past = Under (n ∷ []) (λ x. ⊥) past

-- ---- a count of what the entries under one number are

module _ (n : ℕ) (count : List Entry → ℕ) (one : Entry → ℕ) (empty : count [] ≡ 0) (step : (x : Entry) (past : List Entry) → count (x ∷ past) ≡ count past + one x) (none : (x : Entry) → (0 < times x.who (n ∷ []) → ⊥) → one x ≡ 0) where
  others_count : (others past : List Entry) → IsIdle n others → count (others ++ past) ≡ count past
  others_count [] past idle = refl
  others_count (x ∷ others) past idle =
      let h = others_count others past idle.1 in
      let k = none x idle.0 in
      let s = step x (others ++ past) in
      omega (arith, h, k, s)

  pub idle_count : (past : List Entry) → IsIdle n past → count past ≡ 0
  idle_count past idle = ap count (sym (append-nil past)) ∙ (others_count past [] idle ∙ empty)

  pub call_count : (g : Settings) (me : Knowledge) (e : Event) (a : Answer) (new : List Entry) → me.names ≡ n ∷ [] → IsCalled g me e a new → count new ≤ count me.front + one (entry_of me.number e a)
  call_count g me e a new names called = by (leaves a) refl
    where
      idle : IsIdle n called.follows.0
      idle = subst (λ ns. Under ns (λ x. ⊥) called.follows.0) names (under_others (λ x. ⊥) me.names called.follows.0 called.follows.2)

      before : count called.before ≡ count me.front
      before = ap count called.follows.1 ∙ others_count called.follows.0 me.front idle

      by : (b : Bool) → leaves a ≡ b → count new ≤ count me.front + one (entry_of me.number e a)
      by true left =
          let on : new ≡ entry_of me.number e a ∷ called.before = called.step.after ∙ rw left refl in
          let s = ap count on ∙ step (entry_of me.number e a) called.before in
          omega (arith, s, before)
      by false left =
          let on : new ≡ called.before = called.step.after ∙ rw left refl in
          let s = ap count on in
          omega (arith, s, before)

-- ---- openings and ticks

module _ (n : ℕ) where
  opens_one : Entry → ℕ
  opens_one x = if x.who == n then openings_in x.event else 0

  accepts_one : Entry → ℕ
  accepts_one x = if x.who == n then accepts x.event x.answer else 0

  accepts_as_one : ℕ → Entry → ℕ
  accepts_as_one c x = if x.who == n then accepts_as c x.event x.answer else 0

  ticks_one : Entry → ℕ
  ticks_one x = if is_tick x.event && nat_lt 0 (times x.who (n ∷ [])) then 1 else 0

  not_mine : (x : Entry) (k : ℕ) → (0 < times x.who (n ∷ []) → ⊥) → (if x.who == n then k else 0) ≡ 0
  not_mine x k none = if_zero (x.who == n) k (λ is. absurd (none (is_named n x.who is)))

  no_tick : (x : Entry) → (0 < times x.who (n ∷ []) → ⊥) → ticks_one x ≡ 0
  unfolding ticks_one
  no_tick x none = if_zero (is_tick x.event && nat_lt 0 (times x.who (n ∷ []))) 1 (λ is. absurd (none (grind (arith, nat_tests, is))))

  opens_step : (x : Entry) (past : List Entry) → opens_by n (x ∷ past) ≡ opens_by n past + opens_one x
  unfolding opens_by opens_one
  opens_step x past = refl

  opens_empty : opens_by n [] ≡ 0
  unfolding opens_by
  opens_empty = refl

  accepts_step : (x : Entry) (past : List Entry) → accepted_by n (x ∷ past) ≡ accepted_by n past + accepts_one x
  unfolding accepted_by accepts_one
  accepts_step x past = refl

  accepts_empty : accepted_by n [] ≡ 0
  unfolding accepted_by
  accepts_empty = refl

  accepts_as_step : (c : ℕ) (x : Entry) (past : List Entry) → opened_by n c (x ∷ past) ≡ opened_by n c past + accepts_as_one c x
  unfolding opened_by accepts_as_one
  accepts_as_step c x past = refl

  accepts_as_empty : (c : ℕ) → opened_by n c [] ≡ 0
  unfolding opened_by
  accepts_as_empty c = refl

  ticks_step : (x : Entry) (past : List Entry) → ticks_by (n ∷ []) (x ∷ past) ≡ ticks_by (n ∷ []) past + ticks_one x
  unfolding ticks_by ticks_one
  ticks_step x past = refl

  ticks_empty : ticks_by (n ∷ []) [] ≡ 0
  unfolding ticks_by
  ticks_empty = refl

  no_opens : (x : Entry) → (0 < times x.who (n ∷ []) → ⊥) → opens_one x ≡ 0
  unfolding opens_one
  no_opens x none = not_mine x (openings_in x.event) none

  no_accepts : (x : Entry) → (0 < times x.who (n ∷ []) → ⊥) → accepts_one x ≡ 0
  unfolding accepts_one
  no_accepts x none = not_mine x (accepts x.event x.answer) none

  no_accepts_as : (c : ℕ) (x : Entry) → (0 < times x.who (n ∷ []) → ⊥) → accepts_as_one c x ≡ 0
  unfolding accepts_as_one
  no_accepts_as c x none = not_mine x (accepts_as c x.event x.answer) none

  pub idle_opens : (past : List Entry) → IsIdle n past → opens_by n past ≡ 0
  idle_opens past idle = idle_count n (opens_by n) opens_one opens_empty opens_step no_opens past idle

  pub idle_accepts : (past : List Entry) → IsIdle n past → accepted_by n past ≡ 0
  idle_accepts past idle = idle_count n (accepted_by n) accepts_one accepts_empty accepts_step no_accepts past idle

  pub idle_opened : (c : ℕ) (past : List Entry) → IsIdle n past → opened_by n c past ≡ 0
  idle_opened c past idle = idle_count n (opened_by n c) (accepts_as_one c) (accepts_as_empty c) (accepts_as_step c) (no_accepts_as c) past idle

  pub idle_ticks : (past : List Entry) → IsIdle n past → ticks_by (n ∷ []) past ≡ 0
  idle_ticks past idle = idle_count n (ticks_by (n ∷ [])) ticks_one ticks_empty ticks_step no_tick past idle

  at_most : (b : Bool) (k : ℕ) → (if b then k else 0) ≤ k
  at_most true k = omega arith
  at_most false k = omega arith

  -- a call of this caller counts as much as it is, at most
  pub call_opens : (g : Settings) (me : Knowledge) (e : Event) (a : Answer) (new : List Entry) → me.names ≡ n ∷ [] → IsCalled g me e a new → opens_by n new ≤ opens_by n me.front + openings_in e
  unfolding opens_one
  call_opens g me e a new names called =
      let h = call_count n (opens_by n) opens_one opens_empty opens_step no_opens g me e a new names called in
      let k = at_most (me.number == n) (openings_in e) in
      omega (arith, h, k)

  pub call_accepts : (g : Settings) (me : Knowledge) (e : Event) (a : Answer) (new : List Entry) → me.names ≡ n ∷ [] → IsCalled g me e a new → accepted_by n new ≤ accepted_by n me.front + accepts e a
  unfolding accepts_one
  call_accepts g me e a new names called =
      let h = call_count n (accepted_by n) accepts_one accepts_empty accepts_step no_accepts g me e a new names called in
      let k = at_most (me.number == n) (accepts e a) in
      omega (arith, h, k)

  pub call_opened : (c : ℕ) (g : Settings) (me : Knowledge) (e : Event) (a : Answer) (new : List Entry) → me.names ≡ n ∷ [] → IsCalled g me e a new → opened_by n c new ≤ opened_by n c me.front + accepts_as c e a
  unfolding accepts_as_one
  call_opened c g me e a new names called =
      let h = call_count n (opened_by n c) (accepts_as_one c) (accepts_as_empty c) (accepts_as_step c) (no_accepts_as c) g me e a new names called in
      let k = at_most (me.number == n) (accepts_as c e a) in
      omega (arith, h, k)

  pub call_ticks : (g : Settings) (me : Knowledge) (e : Event) (a : Answer) (new : List Entry) → me.names ≡ n ∷ [] → IsCalled g me e a new → ticks_by (n ∷ []) new ≤ ticks_by (n ∷ []) me.front + one_if (is_tick e)
  unfolding ticks_one
  call_ticks g me e a new names called =
      let h = call_count n (ticks_by (n ∷ [])) ticks_one ticks_empty ticks_step no_tick g me e a new names called in
      let k = both (is_tick e) (nat_lt 0 (times me.number (n ∷ []))) in
      omega (arith, h, k)
    where
      both : (a b : Bool) → (if a && b then 1 else 0) ≤ one_if a
      both true true = omega arith
      both true false = omega arith
      both false b = omega arith

-- ---- a tick and an opening

-- a tick with a moment of the clock, or the opening by this first frame
abbrev pub Tried : Option (List ℕ) → Frame → Bool → Event → Type 0
Tried moments first taken e = Ticks moments e ⊎ (e ≡ event.Open (Some first) taken)

-- What the two come to, for a caller of one name.
pub record TriedOnce (moments : Option (List ℕ)) (n : ℕ) (old new : List Entry) (first : Frame) (taken : Bool) (a : Answer) : Type 0 where
  pub goes : GoesOnBy (n ∷ []) (λ x. Tried moments first taken x.event) old new
  pub opens : opens_by n new ≤ opens_by n old + 1
  pub accepts : accepted_by n new ≤ accepted_by n old + one_if (is_opened a)
  pub opened : (c : ℕ) → opened_by n c new ≤ opened_by n c old + one_if (opens_as c a)
  pub ticks : ticks_by (n ∷ []) new ≤ ticks_by (n ∷ []) old + 1

ticked_once : (g : Settings) (moments : Option (List ℕ)) (n : ℕ) (me : Knowledge) (first : Frame) (taken : Bool) (a : Answer) (ticked : List Entry) (now : ℕ) → me.names ≡ n ∷ [] → Ticks moments (event.Tick now) → (met : Answer) → IsCalled g me (event.Tick now) met ticked
    → TriedOnce moments n me.front ticked first taken a
ticked_once g moments n me first taken a ticked now names moment met called =
    let opens = call_opens n g me (event.Tick now) met ticked names called in
    let accepts = call_accepts n g me (event.Tick now) met ticked names called in
    let ticks = call_ticks n g me (event.Tick now) met ticked names called in
    record {
      goes = subst (λ ns. GoesOnBy ns (λ x. Tried moments first taken x.event) me.front ticked) names (call_goes (Tried moments first taken) g me (event.Tick now) met ticked (inl moment) called);
      opens = omega (arith, opens);
      accepts = omega (arith, accepts);
      opened = λ c. let opened = call_opened n c g me (event.Tick now) met ticked names called in omega (arith, opened);
      ticks = omega (arith, ticks);
    }

pub tried_once : (g : Settings) (moments : Option (List ℕ)) (n : ℕ) (me : Knowledge) (first : Frame) (taken : Bool) (a : Answer) (new : List Entry) → me.names ≡ n ∷ [] → TriesToOpen g moments me first taken a new → TriedOnce moments n me.front new first taken a
tried_once g moments n me first taken a new names tries = by tries.met tries.opening
  where
    ticked : TriedOnce moments n me.front tries.ticked first taken a
    ticked = ticked_once g moments n me first taken a tries.ticked tries.tick.now names tries.tick.moment tries.met tries.tick.called

    tick_opens : opens_by n tries.ticked ≤ opens_by n me.front + 0
    tick_opens = call_opens n g me (event.Tick tries.tick.now) tries.met tries.ticked names tries.tick.called

    tick_accepts : accepted_by n tries.ticked ≤ accepted_by n me.front + 0
    tick_accepts = call_accepts n g me (event.Tick tries.tick.now) tries.met tries.ticked names tries.tick.called

    tick_opened : (c : ℕ) → opened_by n c tries.ticked ≤ opened_by n c me.front + 0
    tick_opened c = call_opened n c g me (event.Tick tries.tick.now) tries.met tries.ticked names tries.tick.called

    mid : Knowledge
    mid = record me { front = tries.ticked; note = None }

    opening : IsCalled g mid (event.Open (Some first) taken) a new → TriedOnce moments n me.front new first taken a
    opening called =
        let e : Event = event.Open (Some first) taken in
        let opens = call_opens n g mid e a new names called in
        let accepts = call_accepts n g mid e a new names called in
        let ticks = call_ticks n g mid e a new names called in
        let one = ticked.ticks in
        record {
          goes = goes_both (n ∷ []) (λ x. Tried moments first taken x.event) me.front tries.ticked new ticked.goes
              (subst (λ ns. GoesOnBy ns (λ x. Tried moments first taken x.event) tries.ticked new) names (call_goes (Tried moments first taken) g mid e a new (inr refl) called));
          opens = omega (arith, opens, tick_opens);
          accepts = omega (arith, accepts, tick_accepts);
          opened = λ c. let opened = call_opened n c g mid e a new names called in let before = tick_opened c in omega (arith, opened, before);
          ticks = omega (arith, ticks, one);
        }

    by : (met : Answer) → OpensAfter g mid met first taken a new → TriedOnce moments n me.front new first taken a
    by answer.TapeFull after = subst (λ l. TriedOnce moments n me.front l first taken a) (sym after.1) ticked
    by answer.OutOfMemory after = subst (λ l. TriedOnce moments n me.front l first taken a) (sym after.1) ticked
    by met after = opening after

-- an opening that was accepted stands as the newest entry
pub accepted_last : (g : Settings) (moments : Option (List ℕ)) (me : Knowledge) (first : Frame) (taken : Bool) (c : ℕ) (new : List Entry) → TriesToOpen g moments me first taken (answer.Opened c) new
    → (before : List Entry) × (new ≡ entry_of me.number (event.Open (Some first) taken) (answer.Opened c) ∷ before)
accepted_last g moments me first taken c new tries = by tries.met tries.opening
  where
    by : (met : Answer) → OpensAfter g (record me { front = tries.ticked; note = None }) met first taken (answer.Opened c) new → (before : List Entry) × (new ≡ entry_of me.number (event.Open (Some first) taken) (answer.Opened c) ∷ before)
    by answer.TapeFull after = absurd (cc)
    by answer.OutOfMemory after = absurd (cc)
    by met after = (after.before, after.step.after)

-- ---- the entries after the last opening

pub ticks_since : (n : ℕ) (past : List Entry) → ticks_by (n ∷ []) (since_open n past) ≤ ticks_by (n ∷ []) past
unfolding since_open ticks_by
ticks_since n [] = omega arith
ticks_since n (x ∷ past) = let h = ticks_since n past in by ((x.who == n) && nat_lt 0 (openings_in x.event)) h
  where
    by : (b : Bool) → ticks_by (n ∷ []) (since_open n past) ≤ ticks_by (n ∷ []) past → ticks_by (n ∷ []) (if b then [] else x ∷ since_open n past) ≤ ticks_by (n ∷ []) past + (if is_tick x.event && nat_lt 0 (times x.who (n ∷ [])) then 1 else 0)
    by true h = omega arith
    by false h = omega (arith, h)

pub since_opening : (n : ℕ) (first : Frame) (taken : Bool) (a : Answer) (before : List Entry) → since_open n (entry_of n (event.Open (Some first) taken) a ∷ before) ≡ []
unfolding since_open
since_opening n first taken a before = let same : (n == n) ≡ true = grind (arith, nat_tests) in rw same refl

pub opening_counts : (n c : ℕ) (first : Frame) (taken : Bool) (before : List Entry) → (0 < opened_by n c (entry_of n (event.Open (Some first) taken) (answer.Opened c) ∷ before)) × (0 < accepted_by n (entry_of n (event.Open (Some first) taken) (answer.Opened c) ∷ before))
unfolding opened_by accepted_by
opening_counts n c first taken before =
    let same : (n == n) ≡ true = grind (arith, nat_tests) in
    let also : (c == c) ≡ true = grind (arith, nat_tests) in
    (rw (same, also) (omega arith), rw same (omega arith))
