-- Ticks against what moves, turn by turn.
use Rattle.std.specs.List.{AllByRecursion}
use Rattle.std.specs.Io.KnownBytes.{append_known}
use Rattle.std.proofs.lemmas.List.{length-append}
use Rattle.std.proofs.Common.{◌≡◌, ◌<◌, ◌≤◌, ◌+◌, ◌-◌, ◌^◌, ◌⊎◌, ◌∙◌, inl, inr, ℕ, Bool, true, false, true≢false, List, [], ◌∷◌, ◌++◌, Option, Some, None, is_some, refl, sym, ap, subst, arith, append_assoc}
use Rattle.rs_wire.specs.declared.settings.Settings.{Settings}
use Rattle.outside.specs.Links.{NoneFell, Shown}
use Rattle.tape.specs.declared.event.Event.TheVariants as event
use Rattle.tape.specs.declared.entry.Entry.{Entry}
use Rattle.conn_lock.specs.Callers.{times}
use Rattle.conn_shared.specs.Members.{Continues, Follows, Knowledge}
use Rattle.session_model.specs.Frames.{queued}
use Rattle.session_model.specs.Life.{live}
use Rattle.link_model.specs.Carrying.{Between, IsAlone, is_of}
use Rattle.link_model.specs.Reading.{IsWaiting}
use Rattle.pump.specs.declared.turned.Turned.{Turned}
use Rattle.pump.specs.declared.numbers.TheConstants.{PIECE}
use Rattle.pump.specs.Moves.{HasGrown}
use Rattle.pump.specs.Turns.{GoesOn, HadOnlyFrames, HasMoved, IsBusy, IsEmptied, IsReadOut, IsTurned, MovesAlone, Spares, is_last, length_shown, moved}
use Rattle.pump.proofs.Adding.{IsOn, IsOwn, all_split, goes_both, goes_called, goes_follows}
use Rattle.pump.proofs.Drawing.{idle_by}
use Rattle.server.specs.Attending.{HaveFewTicks, IsAtTop, ticks_by}
use Rattle.server.proofs.Ticking.{IsNoTick, none_goes, turn_adds}
use Rattle.server.proofs.Waits.{busy_waits, waits_still}

-- ---- what a link shows

shown_before : (old new : Option (List ℕ)) → HasGrown old new → is_some new ≡ true → is_some old ≡ true
shown_before None new h is = absurd (true≢false (sym is ∙ ap is_some h.1))
shown_before (Some xs) new h is = refl

pub grown_both : (a b c : Option (List ℕ)) → HasGrown a b → HasGrown b c → HasGrown a c
grown_both None b c h k = ([], k.1 ∙ ap (λ o. append_known o k.0) h.1)
grown_both (Some xs) b c h k = (h.0 ++ k.0, k.1 ∙ (ap (λ o. append_known o k.0) h.1 ∙ ap Some (append_assoc xs h.0 k.0)))

longer : (old new : Option (List ℕ)) → HasGrown old new → length_shown old ≤ length_shown new
longer None new h = omega arith
longer (Some xs) new h = let all : length_shown new ≡ length_shown (Some (xs ++ h.0)) = ap length_shown h.1 in omega (arith, all, length-append xs h.0)

moved_more : (s t : Shown) → HasGrown s.given t.given → HasGrown s.taken t.taken → NoneFell s.counts t.counts → moved s ≤ moved t
moved_more s t given taken f = omega (arith, f.lulls, f.stalls, longer s.given t.given given, longer s.taken t.taken taken)

still_at_top : (s t : Shown) → NoneFell s.counts t.counts → IsAtTop s → IsAtTop t
still_at_top s t f (inl top) = inl (omega (arith, f.lulls, top))
still_at_top s t f (inr top) = inr (omega (arith, f.stalls, top))

-- ---- ready for the next turn

-- nothing waits to come on connection b.conn, or it found no place in the queue, and this caller has drawn nothing since
abbrev pub IsReady : Settings → Knowledge → Between → Type 0
IsReady g me b = IsEmptied b ⊎ ((before : List Entry) × (q : ℕ) × GoesOn (Spares b.conn) (record me { front = before; note = None }) me.front × IsBusy g before b q)

-- after a turn
pub ready_after : (g : Settings) (me now : Knowledge) (b : Between) → IsOn me now → IsReadOut g me b now.front → IsReady g now b
ready_after g me now b on (inl emptied) = inl emptied
ready_after g me now b on (inr h) =
    let names : now.names ≡ me.names = ap (λ (x : Knowledge). x.names) on in
    inr (h.1.before, h.0, goes_follows (Spares b.conn) (record now { front = h.1.before; note = None }) now.front (subst (λ ns. Follows ns h.1.before now.front) (sym names) h.1.follows), h.1.busy)

-- and after calls that draw nothing
pub ready_on : (g : Settings) (mid now : Knowledge) (b : Between) → IsOn mid now → GoesOn (Spares b.conn) mid now.front → IsReady g mid b → IsReady g now b
ready_on g mid now b on goes (inl emptied) = inl emptied
ready_on g mid now b on goes (inr h) =
    let from : Knowledge = record mid { front = h.0; note = None } in
    let same : record now { front = h.0; note = None } ≡ from = ap (λ (x : Knowledge). record x { front = h.0; note = None }) on in
    inr (h.0, h.1, subst (λ k. GoesOn (Spares b.conn) k now.front) (sym same) (goes_both (Spares b.conn) from mid now.front refl h.2 goes), h.3)

-- what its caller adds that spares a connection, and what others add where it alone moves bytes of it
apart_by : (c n : ℕ) (names : List ℕ) (more : List Entry) → 0 < times n names → AllByRecursion (IsOwn (Spares c) names n) more → IsAlone c n more → AllByRecursion (λ (x : Entry). is_of c x.event ≡ false) more
apart_by c n names [] named own alone = tt
apart_by c n names (x ∷ more) named own alone = (by (is_of c x.event) refl, apart_by c n names more named own.1 alone.1)
  where
    by : (b : Bool) → is_of c x.event ≡ b → is_of c x.event ≡ false
    by false is = is
    by true is = (own.0 (subst (λ k. 0 < times k names) (sym (alone.0 is)) named)).1

not_waiting : (b : Between) → IsEmptied b → (b.bad ≡ false) × IsWaiting b.rest b.max_in → ⊥
not_waiting b (inl bad) h = true≢false (sym bad ∙ h.0)
not_waiting b (inr part) (good, inl whole) = part.0 whole
not_waiting b (inr part) (good, inr long) = part.1 long

-- who moves bytes alone did so before
pub own_before : (mid now : Knowledge) (c : ℕ) → IsOn mid now → Continues mid.front now.front → MovesAlone now c → MovesAlone mid c
own_before mid now c on h own =
    let number : now.number ≡ mid.number = ap (λ (x : Knowledge). x.number) on in
    let names : now.names ≡ mid.names = ap (λ (x : Knowledge). x.names) on in
    record {
      named = subst (λ ns. 0 < times mid.number ns) names (subst (λ n. 0 < times n now.names) number own.named);
      alone = (all_split (λ (x : Entry). is_of c x.event ≡ true → x.who ≡ mid.number) h.0 mid.front (subst (IsAlone c mid.number) h.1 (subst (λ n. IsAlone c n now.front) number own.alone))).1;
    }

-- a turn that finds bytes waiting in the queue draws some
pub never_idle : (g : Settings) (me : Knowledge) (b : Between) (ticked begun : List Entry) → b.max_in < 2 ^ 24 → MovesAlone (record me { front = begun; note = None }) b.conn → IsReady g me b → GoesOn (Spares b.conn) me ticked
    → HadOnlyFrames g (record me { front = ticked; note = None }) b begun → ⊥
never_idle g me b ticked begun short own (inl emptied) tick h = not_waiting b emptied h.waiting
never_idle g me b ticked begun short own (inr r) tick h =
    let P = Spares b.conn in
    let from : Knowledge = record me { front = r.0; note = None } in
    let at_tick : Knowledge = record me { front = ticked; note = None } in
    let waited = busy_waits g r.0 b r.1 short r.3 in
    let idle : (live begun ≡ b.conn) × (queued g begun ≡ 0) = idle_by g at_tick b.conn PIECE begun h.draw in
    let drew : GoesOn P at_tick begun = subst (GoesOn P at_tick) (sym h.draw.step.after) (goes_follows P at_tick h.draw.before h.draw.follows) in
    let goes : GoesOn P from begun = goes_both P from at_tick begun refl (goes_both P from me ticked refl r.2 tick) drew in
    let alone : IsAlone b.conn me.number (goes.more ++ r.0) = subst (IsAlone b.conn me.number) goes.on own.alone in
    let apart = apart_by b.conn me.number me.names goes.more own.named goes.own (all_split (λ (x : Entry). is_of b.conn x.event ≡ true → x.who ≡ me.number) goes.more r.0 alone).0 in
    waits_still g b.conn goes.more r.0 apart waited.0 waited.1 (ap live (sym goes.on) ∙ idle.0) (ap (queued g) (sym goes.on) ∙ idle.1)

-- ---- the bound

-- so far no more ticks than what moved, or one more where the next turn is sure to move something
abbrev pub IsOnTime : Settings → List ℕ → List Entry → Knowledge → Shown → Shown → Between → Type 0
IsOnTime g names old me s t b = HaveFewTicks 0 names old me.front s t ⊎ (IsReady g me b × HaveFewTicks 1 names old me.front s t)

pub on_time_first : (g : Settings) (me : Knowledge) (s : Shown) (b : Between) → IsOnTime g me.names me.front me s s b
on_time_first g me s b = inl (λ given taken. inl (omega arith))

-- what a turn makes of the bound
few_more : (names : List ℕ) (old past new : List Entry) (s m t : Shown) (few more : ℕ) → HasGrown m.given t.given × HasGrown m.taken t.taken → NoneFell m.counts t.counts → ticks_by names new + moved m + few ≤ ticks_by names past + moved t + more
    → HaveFewTicks few names old past s m → HaveFewTicks more names old new s t
few_more names old past new s m t few more grown f le h given taken = by (h (shown_before m.given t.given grown.0 given) (shown_before m.taken t.taken grown.1 taken))
  where
    by : (ticks_by names past + moved s ≤ few + ticks_by names old + moved m) ⊎ IsAtTop m → (ticks_by names new + moved s ≤ more + ticks_by names old + moved t) ⊎ IsAtTop t
    by (inl h) = inl (omega (arith, h, le))
    by (inr top) = inr (still_at_top m t f top)

few_moved : (names : List ℕ) (old past new : List Entry) (s m t : Shown) → HasGrown m.given t.given × HasGrown m.taken t.taken → NoneFell m.counts t.counts → ticks_by names new ≤ ticks_by names past + 1 → HasMoved m t → HaveFewTicks 1 names old past s m → HaveFewTicks 1 names old new s t
few_moved names old past new s m t grown f le moves h given taken =
    let was_given = shown_before m.given t.given grown.0 given in
    let was_taken = shown_before m.taken t.taken grown.1 taken in
    by (moves was_given was_taken) (h was_given was_taken)
  where
    by : (moved m < moved t) ⊎ (t.counts.lulls ≡ 2 ^ 64 - 1) ⊎ (t.counts.stalls ≡ 2 ^ 64 - 1) → (ticks_by names past + moved s ≤ 1 + ticks_by names old + moved m) ⊎ IsAtTop m → (ticks_by names new + moved s ≤ 1 + ticks_by names old + moved t) ⊎ IsAtTop t
    by moves (inr top) = inr (still_at_top m t f top)
    by (inl lt) (inl h) = inl (omega (arith, h, le, lt))
    by (inr (inl top)) (inl h) = inr (inl (omega (arith, top)))
    by (inr (inr top)) (inl h) = inr (inr (omega (arith, top)))

-- a turn that goes on keeps it ..
pub on_time_turn : (g : Settings) (moments : Option (List ℕ)) (names : List ℕ) (old : List Entry) (me now : Knowledge) (s m t : Shown) (b c : Between) (r : Turned) → me.names ≡ names → IsOn me now → b.max_in < 2 ^ 24 → NoneFell m.counts t.counts → is_last r ≡ false
    → MovesAlone now b.conn → IsTurned g moments me now.front m t b r → IsReadOut g me c now.front → IsOnTime g names old me s m b → IsOnTime g names old now s t c
on_time_turn g moments names old me now s m t b c r named on short f going own turned out h = inr (ready_after g me now c on out, by h)
  where
    adds : ticks_by names now.front ≤ ticks_by names me.front + 1
    adds = subst (λ ns. ticks_by ns now.front ≤ ticks_by ns me.front + 1) named (turn_adds g moments me b.conn b.left turned.left now.front turned.turn)

    number : now.number ≡ me.number
    number = ap (λ (x : Knowledge). x.number) on

    names_same : now.names ≡ me.names
    names_same = ap (λ (x : Knowledge). x.names) on

    begun_alone : MovesAlone (record me { front = turned.turn.begun; note = None }) b.conn
    begun_alone = record {
      named = subst (λ ns. 0 < times me.number ns) names_same (subst (λ n. 0 < times n now.names) number own.named);
      alone = (all_split (λ (x : Entry). is_of b.conn x.event ≡ true → x.who ≡ me.number) turned.turn.arrivals.more turned.turn.begun (subst (IsAlone b.conn me.number) turned.turn.arrivals.on (subst (λ n. IsAlone b.conn n now.front) number own.alone))).1;
    }

    ticked : GoesOn (Spares b.conn) me turned.turn.begins.ticked
    ticked = goes_called (Spares b.conn) g me (event.Tick turned.turn.begins.now) turned.turn.begins.answer turned.turn.begins.ticked refl turned.turn.begins.tick

    busy : IsReady g me b → HaveFewTicks 1 names old me.front s m → HasMoved m t ⊎ HadOnlyFrames g (record me { front = turned.turn.begins.ticked; note = None }) b turned.turn.begun → HaveFewTicks 1 names old now.front s t
    busy ready few (inl moves) = few_moved names old me.front now.front s m t turned.grown f adds moves few
    busy ready few (inr only) = absurd (never_idle g me b turned.turn.begins.ticked turned.turn.begun short begun_alone ready ticked only)

    by : IsOnTime g names old me s m b → HaveFewTicks 1 names old now.front s t
    by (inl few) = few_more names old me.front now.front s m t 0 1 turned.grown f (omega (arith, adds, moved_more m t turned.grown.0 turned.grown.1 f)) few
    by (inr (ready, few)) = busy ready few (turned.progress going)

-- .. and the last turn adds one tick at most
pub on_time_last : (g : Settings) (moments : Option (List ℕ)) (names : List ℕ) (old : List Entry) (me : Knowledge) (new : List Entry) (s m t : Shown) (b : Between) (r : Turned) → me.names ≡ names → NoneFell m.counts t.counts → IsTurned g moments me new m t b r
    → IsOnTime g names old me s m b → HaveFewTicks 2 names old new s t
on_time_last g moments names old me new s m t b r named f turned h = by h
  where
    adds : ticks_by names new ≤ ticks_by names me.front + 1
    adds = subst (λ ns. ticks_by ns new ≤ ticks_by ns me.front + 1) named (turn_adds g moments me b.conn b.left turned.left new turned.turn)

    by : IsOnTime g names old me s m b → HaveFewTicks 2 names old new s t
    by (inl few) = few_more names old me.front new s m t 0 2 turned.grown f (omega (arith, adds, moved_more m t turned.grown.0 turned.grown.1 f)) few
    by (inr (ready, few)) = few_more names old me.front new s m t 1 2 turned.grown f (omega (arith, adds, moved_more m t turned.grown.0 turned.grown.1 f)) few

-- calls that draw nothing and do not tick keep it
same_ticks : (names : List ℕ) (old past new : List Entry) (s t : Shown) (few : ℕ) → ticks_by names new ≡ ticks_by names past → HaveFewTicks few names old past s t → HaveFewTicks few names old new s t
same_ticks names old past new s t few same h given taken = subst (λ n. (n + moved s ≤ few + ticks_by names old + moved t) ⊎ IsAtTop t) (sym same) (h given taken)

pub few_since : (names : List ℕ) (old past new : List Entry) (s t : Shown) (few : ℕ) → ticks_by names past ≡ ticks_by names old → HaveFewTicks few names past new s t → HaveFewTicks few names old new s t
few_since names old past new s t few same h given taken = subst (λ n. (ticks_by names new + moved s ≤ few + n + moved t) ⊎ IsAtTop t) same (h given taken)

pub on_time_helped : (g : Settings) (names : List ℕ) (old : List Entry) (mid now : Knowledge) (s t : Shown) (b : Between) → mid.names ≡ names → IsOn mid now → GoesOn (Spares b.conn) mid now.front → GoesOn IsNoTick mid now.front → IsOnTime g names old mid s t b → IsOnTime g names old now s t b
on_time_helped g names old mid now s t b named on spares quiet (inl few) = inl (same_ticks names old mid.front now.front s t 0 (subst (λ ns. ticks_by ns now.front ≡ ticks_by ns mid.front) named (none_goes mid now.front quiet)) few)
on_time_helped g names old mid now s t b named on spares quiet (inr (ready, few)) =
    inr (ready_on g mid now b on spares ready, same_ticks names old mid.front now.front s t 1 (subst (λ ns. ticks_by ns now.front ≡ ticks_by ns mid.front) named (none_goes mid now.front quiet)) few)
