-- A connection from its opening to its cut.
use Rattle.std.specs.List.{AllByRecursion}
use Rattle.std.proofs.Common.{◌≡◌, ◌<◌, ◌≤◌, ◌+◌, ◌⊎◌, ◌∙◌, inl, inr, ℕ, Bool, true, false, true≢false, List, [], ◌∷◌, ◌++◌, Option, Some, None, refl, sym, ap, subst, arith}
use Rattle.rs_wire.specs.declared.settings.Settings.{Settings}
use Rattle.rs_frame.specs.declared.frame.Frame.{Frame}
use Rattle.outside.specs.Links.{Shown}
use Rattle.tape.specs.declared.event.Event.{Event}
use Rattle.tape.specs.declared.answer.Answer.{Answer}
use Rattle.tape.specs.declared.answer.Answer.TheVariants as answer
use Rattle.tape.specs.declared.entry.Entry.{Entry}
use Rattle.session_model.specs.Frames.{was_opened}
use Rattle.session_model.specs.Legal.{Legal}
use Rattle.session_model.specs.Life.{closed}
use Rattle.session_laws.proofs.Growth.{stays_closed}
use Rattle.conn_lock.specs.Callers.{times}
use Rattle.conn_shared.specs.Members.{Knowledge}
use Rattle.link_model.specs.Carrying.{Carried, IsAlone, is_of}
use Rattle.link_model.specs.Leaving.{Left}
use Rattle.link_model.proofs.Fresh.{is_carried}
use Rattle.link_model.proofs.Same.{opened_on}
use Rattle.pump.specs.declared.turned.Turned.{Turned}
use Rattle.pump.specs.declared.turned.Turned.TheVariants as turned
use Rattle.pump.specs.Turns.{GoesOn, IsKept, MovesAlone, Names, Spares, Ticks, TurnedFor, WasNoted, is_last, moved}
use Rattle.pump.proofs.Adding.{IsOn, IsOwn, all_split, continues_both, goes_as, goes_both, goes_continues, on_both}
use Rattle.pump.proofs.Events.{longer_still}
use Rattle.pump.proofs.Going.{kept_goes}
use Rattle.link_laws.specs.Opened.{IsJustOpened}
use Rattle.link_laws.specs.Staying.{IsHeld}
use Rattle.link_laws.proofs.Ending.{left_later}
use Rattle.server.specs.Attending.{AreFewTicks, IsAtTop, IsAttended, IsCut, IsServed, ticks_by}
use Rattle.server.specs.Running.{AttendsSo, EndedFor, Ran}
use Rattle.server.proofs.Helped.{IsRun, attended_served, cut_quiet, cut_served, run_goes, run_quiet}
use Rattle.server.proofs.Ticking.{IsNoTick, none_goes, ticks_both}
use Rattle.server.proofs.Ending.{alone_of, left_after, legal_of, rose_some}

cut_spares : (c k : ℕ) (e : Event) → IsCut k e → Spares c e
cut_spares c k e is = subst (Spares c) (sym is) refl

opened_since : (c : ℕ) (more past : List Entry) → was_opened past c ≡ true → was_opened (more ++ past) c ≡ true
opened_since c [] past o = o
opened_since c (x ∷ more) past o = opened_on (more ++ past) x c (opened_since c more past o)

-- what is added after the last turn moves no bytes of the connection
apart_all : (c n : ℕ) (names : List ℕ) (more : List Entry) → 0 < times n names → AllByRecursion (IsOwn (IsCut c) names n) more → IsAlone c n more → AllByRecursion (λ (x : Entry). is_of c x.event ≡ false) more
apart_all c n names [] named own alone = tt
apart_all c n names (x ∷ more) named own alone = (by (is_of c x.event) refl, apart_all c n names more named own.1 alone.1)
  where
    by : (b : Bool) → is_of c x.event ≡ b → is_of c x.event ≡ false
    by false is = is
    by true is = cut_spares c c x.event (own.0 (subst (λ k. 0 < times k names) (sym (alone.0 is)) named)).1

module _ (g : Settings) (moments : Option (List ℕ)) (helps : Bool) (grant : Option ℕ) (was mid now : Knowledge) (s t : Shown) (c : ℕ) (r : Turned)
    (settings : was.of.settings ≡ g) (on_mid : IsOn was mid) (on_now : IsOn mid now)
    (ran : Ran g moments helps grant was mid s t c r) (cut : GoesOn (IsCut c) mid now.front)
    (named : 0 < times was.number was.names) where
  number_mid : mid.number ≡ was.number
  number_mid = ap (λ (x : Knowledge). x.number) on_mid

  names_mid : mid.names ≡ was.names
  names_mid = ap (λ (x : Knowledge). x.names) on_mid

  number_now : now.number ≡ was.number
  number_now = ap (λ (x : Knowledge). x.number) on_now ∙ number_mid

  names_now : now.names ≡ was.names
  names_now = ap (λ (x : Knowledge). x.names) on_now ∙ names_mid

  named_mid : 0 < times mid.number mid.names
  named_mid = subst (λ ns. 0 < times mid.number ns) (sym names_mid) (subst (λ n. 0 < times n was.names) (sym number_mid) named)

  named_now : 0 < times now.number now.names
  named_now = subst (λ ns. 0 < times now.number ns) (sym names_now) (subst (λ n. 0 < times n was.names) (sym number_now) named)

  goes : GoesOn (IsRun moments helps c) was mid.front
  goes = run_goes g moments helps grant c was ran.lease ran.leased mid.front ran.grants ran.goes

  -- its link is carried
  pub carried_at_end : IsAlone c now.number now.front → Carried g now.front t c
  carried_at_end alone =
      let b = ran.between in
      let of : now.of.settings ≡ g = ap (λ (x : Knowledge). x.of.settings) (on_both was mid now on_mid on_now) ∙ settings in
      let kept : IsKept now t b = kept_goes mid now t b on_now (goes_as (IsCut c) (Spares b.conn) mid now.front (cut_spares b.conn c) cut) ran.kept in
      let k = kept (record { named = named_now; alone = subst (λ n. IsAlone n now.number now.front) (sym ran.conn) alone }) in
      subst (λ n. Carried g now.front t n) ran.conn (subst (λ h. Carried h now.front t b.conn) of (is_carried now.of.settings now.front t b k))

  -- it is left for a reason
  pub left_at_end : (first : Frame) → Legal g now.front → (r ≡ turned.OutOfMemory → ⊥) → IsJustOpened g was.front c first → IsHeld c now.number now.front → Left g now.front t c
  left_at_end first legal some just held =
      let b = ran.between in
      let same : b.conn ≡ c = ran.conn in
      subst (λ n. Left g now.front t n) same
      (main (subst (λ n. IsJustOpened g was.front n first) (sym same) just) (subst (λ n. IsHeld n was.number now.front) (sym same) (subst (λ n. IsHeld c n now.front) number_now held))
      (subst (λ n. GoesOn (IsCut n) mid now.front) (sym same) cut) (subst (λ n. GoesOn (IsRun moments helps n) was mid.front) (sym same) goes))
    where
      main : IsJustOpened g was.front ran.between.conn first → IsHeld ran.between.conn was.number now.front → GoesOn (IsCut ran.between.conn) mid now.front → GoesOn (IsRun moments helps ran.between.conn) was mid.front → Left g now.front t ran.between.conn
      main just held cut goes =
          let b = ran.between in
          let legal_on : Legal g (cut.more ++ mid.front) = subst (Legal g) cut.on legal in
          let split = all_split _ cut.more mid.front (subst (IsHeld b.conn was.number) cut.on held) in
          let left_mid : Left g mid.front t b.conn = left_after g (IsRun moments helps b.conn) was mid s t b first (run_quiet moments helps b.conn) on_mid settings ran.limit just goes (legal_of g cut.more mid.front legal_on) named split.1 ran.kept
          moments r ran.last some ran.cause ran.read in
          let own : AllByRecursion (IsOwn (IsCut b.conn) was.names was.number) cut.more = subst (λ ns. AllByRecursion (IsOwn (IsCut b.conn) ns was.number) cut.more) names_mid (subst (λ n. AllByRecursion (IsOwn (IsCut b.conn) mid.names n) cut.more) number_mid cut.own) in
          let apart = apart_all b.conn was.number was.names cut.more named own (alone_of b.conn was.number cut.more split.0) in
          let opened : was_opened mid.front b.conn ≡ true = subst (λ es. was_opened es b.conn ≡ true) (sym goes.on) (opened_since b.conn goes.more was.front just.opened) in
          subst (λ es. Left g es t b.conn) (sym cut.on) (left_later g t b.conn cut.more mid.front legal_on opened apart left_mid)

  -- what was added
  pub attends_at_end : (end : Turned) → (r ≡ turned.OutOfMemory → end ≡ turned.OutOfMemory) → AttendsSo g moments helps grant c was now.front end
  attends_at_end end none =
      let P = IsServed moments helps c in
      let from : Knowledge = record was { front = ran.leased; note = None } in
      let on_from : IsOn from mid = on_mid in
      record {
        lease = ran.lease;
        attends = record {
          leased = ran.leased;
          lease = ran.grants;
          rest = goes_both P from mid now.front on_from (goes_as (IsAttended moments helps c) P from mid.front (attended_served moments helps c) ran.goes) (goes_as (IsCut c) P mid now.front (cut_served moments helps c) cut);
        };
        want = λ want. none (ran.want want);
      }

  ran_cause : EndedFor g moments c was now.front t r
  ran_cause = by r ran.last (subst (λ n. TurnedFor g moments was mid.front s t (record ran.between { conn = n }) r) ran.conn ran.cause)
    where
      later : (Q : Event → Type 0) (a : Answer) → WasNoted Q g was mid.front a → WasNoted Q g was now.front a
      later Q a w = record { entry = w.entry; before = w.before; is = w.is; answered = w.answered; own = w.own; right = w.right; since = w.since; until = continues_both (w.entry ∷ w.before) mid.front now.front w.until (goes_continues (IsCut c) mid now.front cut) }

      by : (r : Turned) → is_last r ≡ true → TurnedFor g moments was mid.front s t (record ran.between { conn = c }) r → EndedFor g moments c was now.front t r
      by (turned.Moved given taken) last h = absurd (true≢false (sym last))
      by (turned.Busy q) last h = absurd (true≢false (sym last))
      by turned.Lull last h = absurd (true≢false (sym last))
      by (turned.Over why) last h = subst (λ es. closed g es ≡ Some why) (sym cut.on) (stays_closed g cut.more mid.front why h.0)
      by (turned.Displaced n) last h = later (Names c) (answer.Stale n) h
      by turned.End last h = rose_some s.counts.ends t.counts.ends h
      by turned.LinkFault last h = rose_some s.counts.faults t.counts.faults h
      by (turned.Dead n) last h = later (Ticks moments) (answer.Dead n) h
      by turned.TapeFull last h = longer_still mid.front now.front (goes_continues (IsCut c) mid now.front cut) h
      by turned.OutOfMemory last h = tt

  -- why it ended so
  pub cause_at_end : (end : Turned) → ((end ≡ turned.OutOfMemory → ⊥) → end ≡ r) → EndedFor g moments c was now.front t end
  cause_at_end end same = by_end end (λ some. subst (EndedFor g moments c was now.front t) (sym (same some)) (ran_cause))
    where
      by_end : (end : Turned) → ((end ≡ turned.OutOfMemory → ⊥) → EndedFor g moments c was now.front t end) → EndedFor g moments c was now.front t end
      by_end turned.OutOfMemory h = tt
      by_end (turned.Moved given taken) h = h (λ is. absurd (cc))
      by_end (turned.Busy q) h = h (λ is. absurd (cc))
      by_end turned.Lull h = h (λ is. absurd (cc))
      by_end (turned.Over why) h = h (λ is. absurd (cc))
      by_end (turned.Displaced n) h = h (λ is. absurd (cc))
      by_end turned.End h = h (λ is. absurd (cc))
      by_end turned.LinkFault h = h (λ is. absurd (cc))
      by_end (turned.Dead n) h = h (λ is. absurd (cc))
      by_end turned.TapeFull h = h (λ is. absurd (cc))

  -- with few ticks
  pub ticks_at_end : IsAlone c now.number now.front → (more : List Entry) → now.front ≡ more ++ was.front → AreFewTicks now.names more t
  ticks_at_end alone more is given taken =
      let own : MovesAlone mid c = record { named = named_mid; alone = (all_split _ cut.more mid.front (subst (λ n. IsAlone c n (cut.more ++ mid.front)) (sym number_mid) (subst (IsAlone c was.number) cut.on (subst (λ n. IsAlone c n now.front) number_now alone)))).1 } in
      let quiet : ticks_by mid.names now.front ≡ ticks_by mid.names mid.front = none_goes mid now.front (goes_as (IsCut c) IsNoTick mid now.front (cut_quiet c) cut) in
      let same : ticks_by was.names now.front ≡ ticks_by was.names mid.front = subst (λ ns. ticks_by ns now.front ≡ ticks_by ns mid.front) names_mid quiet in
      let all : ticks_by was.names now.front ≡ ticks_by was.names more + ticks_by was.names was.front = ap (ticks_by was.names) is ∙ ticks_both was.names more was.front in
      subst (λ ns. (ticks_by ns more ≤ 2 + moved t) ⊎ IsAtTop t) (sym names_now) (by same all (ran.ticks own given taken))
    where
      by : ticks_by was.names now.front ≡ ticks_by was.names mid.front → ticks_by was.names now.front ≡ ticks_by was.names more + ticks_by was.names was.front → (ticks_by was.names mid.front + moved s ≤ 2 + ticks_by was.names was.front + moved t) ⊎ IsAtTop t → (ticks_by was.names more ≤ 2 + moved t) ⊎ IsAtTop t
      by same all (inl few) = inl (omega (arith, same, all, few))
      by same all (inr top) = inr top
