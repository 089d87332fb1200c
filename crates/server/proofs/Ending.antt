-- Why the link of a connection may be left, as its caller knows.
use Rattle.std.proofs.Common.{◌≡◌, ◌<◌, ◌∙◌, ◌||◌, inl, inr, ℕ, true, false, true≢false, List, [], ◌∷◌, ◌++◌, Option, Some, refl, sym, ap, subst, arith, append_assoc}
use Rattle.std.proofs.lemmas.List.{append_cancel_right}
use Rattle.std.proofs.lemmas.Grind.{common_steps}
use Rattle.std.proofs.lemmas.Bool.Decides.{nat_tests}
use Rattle.rs_wire.specs.declared.settings.Settings.{Settings}
use Rattle.rs_wire.specs.declared.fault.Cause.{Cause}
use Rattle.rs_frame.specs.declared.frame.Frame.{Frame}
use Rattle.outside.specs.Causes.{Rose}
use Rattle.outside.specs.Links.{Shown}
use Rattle.tape.specs.declared.event.Event.{Event}
use Rattle.tape.specs.declared.event.Event.TheVariants as event
use Rattle.tape.specs.declared.answer.Answer.{Answer}
use Rattle.tape.specs.declared.answer.Answer.TheVariants as answer
use Rattle.tape.specs.declared.entry.Entry.{Entry}
use Rattle.session_model.specs.Answers.{answer_to, facts}
use Rattle.session_model.specs.Life.{closed, is_live, live}
use Rattle.session_model.specs.Frames.{queued}
use Rattle.session_model.specs.Legal.{Legal}
use Rattle.session_model.specs.Means.{Means}
use Rattle.session_model.proofs.Meaning.{meaning}
use Rattle.conn_lock.specs.Callers.{times}
use Rattle.conn_shared.specs.Members.{Knowledge}
use Rattle.link_model.specs.Carrying.{Between, IsAlone, Keeps, is_of}
use Rattle.link_model.specs.Leaving.{ComesInTime, Heard, IsBroken, Left, displaced}
use Rattle.pump.specs.declared.turned.Turned.{Turned}
use Rattle.pump.specs.declared.turned.Turned.TheVariants as turned
use Rattle.pump.specs.Turns.{GoesOn, IsKept, IsReadOut, MovesAlone, Names, Ticks, TurnedFor, WasNoted, is_early, is_last}
use Rattle.pump.proofs.Adding.{IsOn, IsOwn, all_as, all_split}
use Rattle.pump.proofs.ReadOut.{is_heard}
use Rattle.link_laws.specs.Opened.{IsJustOpened}
use Rattle.link_laws.specs.Staying.{IsHeld, StaysOn, ends}
use Rattle.link_laws.proofs.Staying.{displaced_more}
use Rattle.link_laws.proofs.Ended.{in_time, not_local}
use Rattle.link_laws.proofs.Ending.{left_dead, left_over, left_stale, stays_held}

pub legal_of : (g : Settings) (more past : List Entry) → Legal g (more ++ past) → Legal g past
unfolding Legal
legal_of g [] past legal = legal
legal_of g (x ∷ more) past legal = legal_of g more past legal.0

-- who alone holds a connection alone moves bytes of it
pub alone_of : (c n : ℕ) (past : List Entry) → IsHeld c n past → IsAlone c n past
alone_of c n past held = all_as (λ (x : Entry). (is_of c x.event || ends c x.event) ≡ true → x.who ≡ n) (λ (x : Entry). is_of c x.event ≡ true → x.who ≡ n) (λ x h is. h (rw is refl)) past held

-- ends of links
pub rose_some : (old new : ℕ) → Rose old new → 0 < new
rose_some old new (inl lt) = omega (arith, lt)
rose_some old new (inr full) = omega (arith, full)

-- an event of connection c that met another live one
off_live : (g : Settings) (past : List Entry) (c n : ℕ) (e : Event) → Names c e → answer.Stale n ≡ answer_to g past e → is_live (live past) c ≡ false
unfolding facts
off_live g past c n e names is = by e names (subst (Means g (facts g past) e) (sym is) (meaning g (facts g past) e))
  where
    by : (e : Event) → Names c e → Means g (facts g past) e (answer.Stale n) → is_live (live past) c ≡ false
    by (event.Draw conn room) names m = grind (arith, common_steps, nat_tests)
    by (event.Came conn f) names m = grind (arith, common_steps, nat_tests)
    by (event.Bad conn rule) names m = grind (arith, common_steps, nat_tests)
    by (event.Open first taken) names m = absurd (true≢false (sym names))
    by (event.Cut conn) names m = absurd (true≢false (sym names))
    by (event.Tick now) names m = absurd m
    by (event.Asked asked) names m = absurd m

module _ (g : Settings) (P : Event → Type 0) (was now : Knowledge) (s t : Shown) (b : Between) (first : Frame)
    (quiet : (e : Event) → P e → ends b.conn e ≡ false)
    (on : IsOn was now) (settings : was.of.settings ≡ g) (limit : b.max_in ≡ g.max_in)
    (just : IsJustOpened g was.front b.conn first) (goes : GoesOn P was now.front) (legal : Legal g now.front)
    (named : 0 < times was.number was.names) (held : IsHeld b.conn was.number now.front) (kept : IsKept now t b) where
  legal_on : Legal g (goes.more ++ was.front)
  legal_on = subst (Legal g) goes.on legal

  stays : StaysOn b.conn goes.more
  stays = stays_held b.conn was.number goes.more (all_split _ goes.more was.front (subst (IsHeld b.conn was.number) goes.on held)).0
      (all_as (IsOwn P was.names was.number) (λ (x : Entry). x.who ≡ was.number → ends b.conn x.event ≡ false) (λ x own is. quiet x.event (own (subst (λ n. 0 < times n was.names) (sym is) named)).1) goes.more goes.own)

  own : MovesAlone now b.conn
  own =
      let number : now.number ≡ was.number = ap (λ (x : Knowledge). x.number) on in
      let names : now.names ≡ was.names = ap (λ (x : Knowledge). x.names) on in
      record {
        named = subst (λ ns. 0 < times now.number ns) (sym names) (subst (λ n. 0 < times n was.names) (sym number) named);
        alone = subst (λ n. IsAlone b.conn n now.front) (sym number) (alone_of b.conn was.number now.front held);
      }

  keeps_on : Keeps g (goes.more ++ was.front) t b
  keeps_on =
      let of : now.of.settings ≡ g = ap (λ (x : Knowledge). x.of.settings) on ∙ settings in
      subst (λ es. Keeps g es t b) goes.on (subst (λ h. Keeps h now.front t b) of (kept own))

  -- where an entry was noted since the opening
  module _ (Q : Event → Type 0) (a : Answer) (w : WasNoted Q g was now.front a) where
    parts : goes.more ≡ w.until.0 ++ w.entry ∷ w.since.0
    parts = append_cancel_right goes.more (w.until.0 ++ w.entry ∷ w.since.0) was.front (sym goes.on ∙ (w.until.1 ∙ (ap (λ l. w.until.0 ++ w.entry ∷ l) w.since.1 ∙ sym (append_assoc w.until.0 (w.entry ∷ w.since.0) was.front))))

    stays_before : StaysOn b.conn w.since.0
    stays_before = (all_split _ w.until.0 (w.entry ∷ w.since.0) (subst (StaysOn b.conn) parts stays)).1.1

    legal_before : Legal g (w.since.0 ++ was.front)
    legal_before = subst (Legal g) w.since.1 (legal_of g (w.entry ∷ []) w.before (legal_of g w.until.0 (w.entry ∷ w.before) (subst (Legal g) w.until.1 legal)))

    -- what displaced the connection by then did so for good
    for_good : displaced (w.entry ∷ w.since.0 ++ was.front) b.conn ≡ true → displaced now.front b.conn ≡ true
    for_good gone = subst (λ es. displaced es b.conn ≡ true) (sym w.until.1) (displaced_more w.until.0 (w.entry ∷ w.before) b.conn (subst (λ es. displaced (w.entry ∷ es) b.conn ≡ true) (sym w.since.1) gone))

  -- another connection was the live one
  stale : (n : ℕ) → WasNoted (Names b.conn) g was now.front (answer.Stale n) → displaced now.front b.conn ≡ true
  stale n w =
      let off : is_live (live (w.since.0 ++ was.front)) b.conn ≡ false = subst (λ es. is_live (live es) b.conn ≡ false) w.since.1 (off_live g w.before b.conn n w.entry.event w.is w.right) in
      let gone : displaced (w.since.0 ++ was.front) b.conn ≡ true = left_stale g t b.conn w.since.0 was.front (legal_before (Names b.conn) (answer.Stale n) w) (stays_before (Names b.conn) (answer.Stale n) w) just.here off in
      for_good (Names b.conn) (answer.Stale n) w (displaced_more (w.entry ∷ []) (w.since.0 ++ was.front) b.conn gone)

  -- its peer counted as dead
  dead : (moments : Option (List ℕ)) (last : ℕ) → WasNoted (Ticks moments) g was now.front (answer.Dead last) → displaced now.front b.conn ≡ true
  dead moments last w = for_good (Ticks moments) (answer.Dead last) w (left_dead g b.conn w.entry w.since.0 was.front last w.answered (legal_before (Ticks moments) (answer.Dead last) w) (stays_before (Ticks moments) (answer.Dead last) w) just.here)

  broken : IsBroken t → IsReadOut g was b now.front → Left g now.front t b.conn
  broken is out = elim (displaced now.front b.conn) as (λ v. displaced now.front b.conn ≡ v → Left g now.front t b.conn) [
    | true ↦ λ gone. inr (inl gone)
    | false ↦ λ still.
        let of : now.of.settings ≡ g = ap (λ (x : Knowledge). x.of.settings) on ∙ settings in
        let on_time : ComesInTime g (goes.more ++ was.front) b.conn = in_time g b.conn goes.more was.front legal_on stays just.joined just.in_time (subst (λ es. displaced es b.conn ≡ false) goes.on still) (not_local g b.conn goes.more was.front stays just.free) in
        let here : ComesInTime g now.front b.conn = subst (λ es. ComesInTime g es b.conn) (sym goes.on) on_time in
        inr (inr (inr (is, subst (λ h. Heard h now.front t b.conn) of (is_heard was now t b on just.opened (limit ∙ ap (λ (h : Settings). h.max_in) (sym of)) own kept (subst (λ h. IsReadOut h was b now.front) (sym of) out) (subst (λ h. ComesInTime h now.front b.conn) (sym of) here)))))
  ] refl

  over : (why : Cause) → closed g now.front ≡ Some why → queued g now.front ≡ 0 → b.left ≡ [] → Left g now.front t b.conn
  over why is empty none = subst (λ es. Left g es t b.conn) (sym goes.on) (left_over g t b goes.more was.front why legal_on stays just.here just.free (subst (λ es. closed g es ≡ Some why) goes.on is) keeps_on none (subst (λ es. queued g es ≡ 0) goes.on empty))

  pub left_after : (moments : Option (List ℕ)) (r : Turned) → is_last r ≡ true → (r ≡ turned.OutOfMemory → ⊥)
      → TurnedFor g moments was now.front s t b r → (is_early r ≡ false → IsReadOut g was b now.front) → Left g now.front t b.conn
  left_after moments (turned.Moved given taken) last some cause out = absurd (true≢false (sym last))
  left_after moments (turned.Busy q) last some cause out = absurd (true≢false (sym last))
  left_after moments turned.Lull last some cause out = absurd (true≢false (sym last))
  left_after moments (turned.Over why) last some cause out = over why cause.0 cause.1 cause.2
  left_after moments (turned.Displaced n) last some cause out = inr (inl (stale n cause))
  left_after moments turned.End last some cause out = broken (inr (rose_some s.counts.ends t.counts.ends cause)) (out refl)
  left_after moments turned.LinkFault last some cause out = broken (inl (rose_some s.counts.faults t.counts.faults cause)) (out refl)
  left_after moments (turned.Dead n) last some cause out = inr (inl (dead moments n cause))
  left_after moments turned.TapeFull last some cause out = inl cause
  left_after moments turned.OutOfMemory last some cause out = absurd (some refl)
