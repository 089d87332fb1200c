-- Ticks, counted.
use Rattle.std.specs.List.{AllByRecursion}
use Rattle.std.proofs.lemmas.Bool.Decides.{nat_tests}
use Rattle.std.proofs.Common.{◌≡◌, ◌≤◌, ◌+◌, ◌&&◌, ◌∙◌, ℕ, Bool, true, false, true≢false, nat_lt, if◌then◌else◌, List, [], ◌∷◌, ◌++◌, Option, Some, None, refl, sym, ap, subst, arith}
use Rattle.rs_wire.specs.declared.settings.Settings.{Settings}
use Rattle.tape.specs.Answers.{leaves}
use Rattle.tape.specs.Told.{entry_of}
use Rattle.tape.specs.declared.event.Event.{Event}
use Rattle.tape.specs.declared.event.Event.TheVariants as event
use Rattle.tape.specs.declared.answer.Answer.{Answer}
use Rattle.tape.specs.declared.entry.Entry.{Entry}
use Rattle.conn_lock.specs.Callers.{times}
use Rattle.conn_shared.specs.Calls.{IsCalled}
use Rattle.conn_shared.specs.Members.{Knowledge}
use Rattle.pump.specs.Turns.{Arrives, DrawsWhere, GoesOn, IsTurn, goes_on_after, is_empty}
use Rattle.pump.specs.declared.numbers.TheConstants.{PIECE}
use Rattle.pump.proofs.Adding.{IsOwn, goes_as, goes_called, goes_follows}
use Rattle.server.specs.Attending.{is_tick, ticks_by}

-- an event that is no tick
abbrev pub IsNoTick : Event → Type 0
IsNoTick e = is_tick e ≡ false

pub ticks_both : (names : List ℕ) (more past : List Entry) → ticks_by names (more ++ past) ≡ ticks_by names more + ticks_by names past
unfolding ticks_by
ticks_both names [] past = omega arith
ticks_both names (x ∷ more) past = let rest = ticks_both names more past in omega (arith, rest)

count_none : (a b : Bool) → (b ≡ true → a ≡ false) → ◌≡◌ {A = ℕ} (if a && b then 1 else 0) 0
count_none false b f = refl
count_none true false f = refl
count_none true true f = absurd (true≢false (f refl))

count_few : (b : Bool) → (if b then 1 else 0) ≤ 1
count_few true = omega arith
count_few false = omega arith

no_ticks : (names : List ℕ) (n : ℕ) (more : List Entry) → AllByRecursion (IsOwn IsNoTick names n) more → ticks_by names more ≡ 0
unfolding ticks_by
no_ticks names n [] own = refl
no_ticks names n (x ∷ more) own =
    let none = count_none (is_tick x.event) (nat_lt 0 (times x.who names)) (λ named. (own.0 (grind (arith, nat_tests))).1) in
    let rest = no_ticks names n more own.1 in
    omega (arith, none, rest)

-- where no tick was added
pub none_goes : (me : Knowledge) (new : List Entry) → GoesOn IsNoTick me new → ticks_by me.names new ≡ ticks_by me.names me.front
none_goes me new goes =
    let none = no_ticks me.names me.number goes.more goes.own in
    let all = ticks_both me.names goes.more me.front in
    ap (ticks_by me.names) goes.on ∙ omega (arith, none, all)

-- one call adds one at most
call_adds : (g : Settings) (me : Knowledge) (e : Event) (a : Answer) (new : List Entry) → IsCalled g me e a new → ticks_by me.names new ≤ ticks_by me.names me.front + 1
unfolding ticks_by
call_adds g me e a new c = subst (λ es. ticks_by me.names es ≤ ticks_by me.names me.front + 1) (sym c.step.after) (by (leaves a))
  where
    before : ticks_by me.names c.before ≡ ticks_by me.names me.front
    before = none_goes me c.before (goes_follows IsNoTick me c.before c.follows)

    by : (b : Bool) → ticks_by me.names (if b then entry_of me.number e a ∷ c.before else c.before) ≤ ticks_by me.names me.front + 1
    by true = let few = count_few (is_tick e && nat_lt 0 (times me.number me.names)) in omega (arith, few, before)
    by false = omega (arith, before)

draw_adds : (g : Settings) (due : Bool) (me : Knowledge) (c room : ℕ) (drew : Option Answer) (old left : List ℕ) (new : List Entry) → DrawsWhere due g me c room drew old left new → ticks_by me.names new ≡ ticks_by me.names me.front
draw_adds g true me c room (Some a) old left new d = none_goes me new (goes_called IsNoTick g me (event.Draw c room) a new refl d.called)
draw_adds g false me c room None old left new d = ap (ticks_by me.names) d.1
draw_adds g true me c room None old left new d = absurd d
draw_adds g false me c room (Some a) old left new d = absurd d

arrives_quiet : (c : ℕ) (e : Event) → Arrives c e → IsNoTick e
arrives_quiet c (event.Came conn f) h = refl
arrives_quiet c (event.Bad conn rule) h = refl
arrives_quiet c _ h = absurd h

-- and so does a turn
pub turn_adds : (g : Settings) (moments : Option (List ℕ)) (me : Knowledge) (c : ℕ) (old left : List ℕ) (new : List Entry) → IsTurn g moments me c old left new → ticks_by me.names new ≤ ticks_by me.names me.front + 1
turn_adds g moments me c old left new t =
    let ticked : Knowledge = record me { front = t.begins.ticked; note = None } in
    let begun : Knowledge = record me { front = t.begun; note = None } in
    let one = call_adds g me (event.Tick t.begins.now) t.begins.answer t.begins.ticked t.begins.tick in
    let draw = draw_adds g (goes_on_after t.begins.answer && is_empty old) ticked c PIECE t.begins.drew old left t.begun t.begins.draw in
    let rest = none_goes begun new (goes_as (Arrives c) IsNoTick begun new (arrives_quiet c) t.arrivals) in
    omega (arith, one, draw, rest)
