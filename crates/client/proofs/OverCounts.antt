-- What a step of a call counts, where its caller is alone.
use Rattle.std.specs.List.{AllByRecursion}
use Rattle.std.proofs.lemmas.Bool.Decides.{nat_tests}
use Rattle.std.proofs.lemmas.List.{length-append}
use Rattle.std.proofs.Common.{◌≡◌, ◌<◌, ◌≤◌, ◌+◌, ◌-◌, ◌^◌, ◌==◌, ◌&&◌, ◌⊎◌, ◌∙◌, inl, inr, ℕ, Bool, true, false, true≢false, if◌then◌else◌, List, [], ◌∷◌, ◌++◌, length, Option, Some, None, is_some, refl, sym, ap, subst, arith, append-nil}
use Rattle.rs_wire.specs.declared.settings.Settings.{Settings}
use Rattle.rs_frame.specs.Framed.{framed_all}
use Rattle.rs_chunk.specs.Stream.{IsTooLong, IsWhole}
use Rattle.outside.specs.Causes.{Rose}
use Rattle.outside.specs.Links.{NoneFell, Shown}
use Rattle.tape.specs.Told.{entry_of}
use Rattle.tape.specs.declared.event.Event.{Event}
use Rattle.tape.specs.declared.event.Event.TheVariants as event
use Rattle.tape.specs.declared.answer.Answer.{Answer}
use Rattle.tape.specs.declared.answer.Answer.TheVariants as answer
use Rattle.tape.specs.declared.entry.Entry.{Entry}
use Rattle.session_model.specs.Frames.{drawn, due, owes, queued}
use Rattle.session_model.specs.Life.{is_live, live, openings}
use Rattle.conn_shared.specs.Members.{Knowledge}
use Rattle.link_model.specs.Carrying.{Between, is_of}
use Rattle.link_model.specs.Reading.{IsWaiting}
use Rattle.link_model.proofs.Same.{drawn_same, due_more}
use Rattle.pump.specs.declared.numbers.TheConstants.{PIECE}
use Rattle.pump.specs.declared.turned.Turned.{Turned}
use Rattle.pump.specs.declared.turned.Turned.TheVariants as turned
use Rattle.pump.specs.Moves.{HasGrown}
use Rattle.pump.specs.Turns.{Arrives, DrawsWhere, HadOnlyFrames, HasMoved, IsEmptied, IsReadOut, TurnedFor, goes_on_after, is_early, is_empty, is_last}
use Rattle.pump.proofs.Drawing.{idle_by}
use Rattle.call_model.specs.Order.{is_tick}
use Rattle.call_model.specs.Leaving.{AreTimely, HaveLulled, HaveTried, one_if}
use Rattle.call_model.specs.Timing.{HasFewTicks, IsAtTop, length_shown, moved, ticks_on}
use Rattle.call_model.proofs.Links.{are_timely_more, few_later, lulled_on, lulled_once, timely_and_one}
use Rattle.client.specs.Alone.{IsOwn}
use Rattle.client.specs.Counting.{HasCounted, HasQueued, IsCounted, IsSureToMove}
use Rattle.client.specs.Takes.{AsksMore, is_call}
use Rattle.client.specs.Turning.{Drops, DropsFor, Pumps, TurnsSo}
use Rattle.client.specs.declared.calling.Calling.{Calling}
use Rattle.client.proofs.Alone.{Adds, IsSame, follows_alone, own_before, own_call, own_named}
use Rattle.client.proofs.OverTurns.{come_alone}
use Rattle.client.proofs.Waits.{busy_waits}

-- ---- the queue of a connection from which nothing is drawn

queued_on : (g : Settings) (past : List Entry) (x : Entry) (c : ℕ) → is_of c x.event ≡ false → HasQueued g past c → HasQueued g (x ∷ past) c
queued_on g past x c apart some =
    let all : length (framed_all (due g (x ∷ past) c)) ≡ length (framed_all (due g past c) ++ framed_all (owes g past c x.answer x.event)) = ap length (due_more g past x c) in
    omega (arith, some, all, length-append (framed_all (due g past c)) (framed_all (owes g past c x.answer x.event)), drawn_same past x c apart)

queued_adds : (g : Settings) (me : Knowledge) (e : Event) (a : Answer) (new : List Entry) (c : ℕ) → is_of c e ≡ false → Adds me e a new → HasQueued g me.front c → HasQueued g new c
queued_adds g me e a new c apart adds some = elim adds.came [
  | inl none ↦ subst (λ (l : List Entry). HasQueued g l c) (sym none.1) some
  | inr more ↦ subst (λ (l : List Entry). HasQueued g l c) (sym more.1) (queued_on g me.front (entry_of me.number e a) c apart some)
]

-- bytes wait there, where the connection is live
pub queued_live : (g : Settings) (past : List Entry) (c : ℕ) → is_live (live past) c ≡ true → 0 < queued g past → HasQueued g past c
unfolding queued
queued_live g past c here some =
    let is : live past ≡ c = grind (arith, nat_tests) in
    let above : 0 < length (framed_all (due g past c)) - drawn past c = subst (λ n. 0 < length (framed_all (due g past n)) - drawn past n) is some in
    omega (arith, above)

none_queued : (g : Settings) (past : List Entry) (c : ℕ) → live past ≡ c → queued g past ≡ 0 → HasQueued g past c → ⊥
unfolding queued
none_queued g past c is none some =
    let zero : length (framed_all (due g past c)) - drawn past c ≡ 0 = subst (λ n. length (framed_all (due g past n)) - drawn past n ≡ 0) is none in
    omega (arith, some, zero)

-- ---- ticks

few_one : (b : Bool) → (if b then 1 else 0) ≤ 1
few_one true = omega arith
few_one false = omega arith

pub one_tick : (past : List Entry) (x : Entry) (c : ℕ) → ticks_on (x ∷ past) c ≤ ticks_on past c + 1
unfolding ticks_on
one_tick past x c = omega (arith, few_one (is_tick x.event && (openings past == c)))

pub no_tick : (past : List Entry) (x : Entry) (c : ℕ) → is_tick x.event ≡ false → ticks_on (x ∷ past) c ≡ ticks_on past c
unfolding ticks_on
no_tick past x c none = rw none (omega arith)

pub adds_tick : (me : Knowledge) (e : Event) (a : Answer) (new : List Entry) (c : ℕ) → Adds me e a new → ticks_on new c ≤ ticks_on me.front c + 1
adds_tick me e a new c adds = elim adds.came [
  | inl none ↦ subst (λ (l : List Entry). ticks_on l c ≤ ticks_on me.front c + 1) (sym none.1) (omega arith)
  | inr more ↦ subst (λ (l : List Entry). ticks_on l c ≤ ticks_on me.front c + 1) (sym more.1) (one_tick me.front (entry_of me.number e a) c)
]

pub adds_no_tick : (me : Knowledge) (e : Event) (a : Answer) (new : List Entry) (c : ℕ) → is_tick e ≡ false → Adds me e a new → ticks_on new c ≡ ticks_on me.front c
adds_no_tick me e a new c none adds = elim adds.came [
  | inl same ↦ ap (λ (l : List Entry). ticks_on l c) same.1
  | inr more ↦ ap (λ (l : List Entry). ticks_on l c) more.1 ∙ no_tick me.front (entry_of me.number e a) c none
]

come_tick : (c : ℕ) (e : Event) → Arrives c e → is_tick e ≡ false
come_tick c (event.Came conn f) is = refl
come_tick c (event.Bad conn rule) is = refl
come_tick c _ is = absurd is

come_ticks : (c n : ℕ) (more past : List Entry) → AllByRecursion (λ (x : Entry). Arrives c x.event) more → ticks_on (more ++ past) n ≡ ticks_on past n
come_ticks c n [] past all = refl
come_ticks c n (x ∷ more) past all = no_tick (more ++ past) x n (come_tick c x.event all.0) ∙ come_ticks c n more past all.1

own_drawn : (was : Knowledge) (ticked begun : List Entry) (c : ℕ) (due : Bool) (drew : Option Answer) (old left : List ℕ) → IsOwn (record was { front = begun; note = None }) → DrawsWhere due was.of.settings (record was { front = ticked; note = None }) c PIECE drew old left begun → IsOwn (record was { front = ticked; note = None })
own_drawn was ticked begun c true (Some a) old left own d = (own_call was.of.settings (record was { front = ticked; note = None }) (record was { front = begun; note = None }) (event.Draw c PIECE) a refl refl d.called own).0
own_drawn was ticked begun c false None old left own d = subst (λ (l : List Entry). IsOwn (record was { front = l; note = None })) d.1 own
own_drawn was ticked begun c true None old left own d = absurd d
own_drawn was ticked begun c false (Some a) old left own d = absurd d

-- a draw, where one was due
drawn_ticks : (was : Knowledge) (ticked begun : List Entry) (c n : ℕ) (due : Bool) (drew : Option Answer) (old left : List ℕ) → IsOwn (record was { front = begun; note = None }) → DrawsWhere due was.of.settings (record was { front = ticked; note = None }) c PIECE drew old left begun → ticks_on begun n ≡ ticks_on ticked n
drawn_ticks was ticked begun c n true (Some a) old left own d =
    let k : Knowledge = record was { front = ticked; note = None } in
    let h = own_call was.of.settings k (record was { front = begun; note = None }) (event.Draw c PIECE) a refl refl d.called own in
    adds_no_tick k (event.Draw c PIECE) a begun n refl h.1
drawn_ticks was ticked begun c n false None old left own d = ap (λ (l : List Entry). ticks_on l n) d.1
drawn_ticks was ticked begun c n true None old left own d = absurd d
drawn_ticks was ticked begun c n false (Some a) old left own d = absurd d

-- ---- calls

call_apart : (c : ℕ) (e : Event) → is_call e ≡ true → (is_of c e ≡ false) × (is_tick e ≡ false)
call_apart c (event.Asked asked) is = (refl, refl)
call_apart c _ is = absurd (true≢false (sym is))

calls_tick : (c : ℕ) (more past : List Entry) → AllByRecursion (λ (x : Entry). is_call x.event ≡ true) more → ticks_on (more ++ past) c ≡ ticks_on past c
calls_tick c [] past all = refl
calls_tick c (x ∷ more) past all = no_tick (more ++ past) x c (call_apart c x.event all.0).1 ∙ calls_tick c more past all.1

calls_queue : (g : Settings) (c : ℕ) (more past : List Entry) → AllByRecursion (λ (x : Entry). is_call x.event ≡ true) more → HasQueued g past c → HasQueued g (more ++ past) c
calls_queue g c [] past all some = some
calls_queue g c (x ∷ more) past all some = queued_on g (more ++ past) x c (call_apart c x.event all.0).0 (calls_queue g c more past all.1 some)

-- ---- what a link shows

shown_before : (old new : Option (List ℕ)) → HasGrown old new → is_some new ≡ true → is_some old ≡ true
shown_before None new h is = absurd (true≢false (sym is ∙ ap is_some h.1))
shown_before (Some xs) new h is = refl

longer : (old new : Option (List ℕ)) → HasGrown old new → length_shown old ≤ length_shown new
longer None new h = omega arith
longer (Some xs) new h = let all : length_shown new ≡ length_shown (Some (xs ++ h.0)) = ap length_shown h.1 in omega (arith, all, length-append xs h.0)

grown_none : (o : Option (List ℕ)) → HasGrown o o
grown_none None = ([], refl)
grown_none (Some xs) = ([], ap Some (sym (append-nil xs)))

still_at_top : (s t : Shown) → NoneFell s.counts t.counts → IsAtTop s → IsAtTop t
still_at_top s t f (inl top) = inl (omega (arith, f.lulls, top))
still_at_top s t f (inr top) = inr (omega (arith, f.stalls, top))

-- so many ticks more, over a link that goes on
few_more : (few n : ℕ) (past new : List Entry) (s t : Shown) (c : ℕ) → HasGrown s.given t.given → HasGrown s.taken t.taken → NoneFell s.counts t.counts → ticks_on new c ≤ ticks_on past c + n → HasFewTicks few past s c → HasFewTicks (few + n) new t c
few_more few n past new s t c given taken f le h is_given is_taken = by (h (shown_before s.given t.given given is_given) (shown_before s.taken t.taken taken is_taken))
  where
    by : (ticks_on past c ≤ moved s + few) ⊎ IsAtTop s → (ticks_on new c ≤ moved t + (few + n)) ⊎ IsAtTop t
    by (inl is) = inl (omega (arith, is, le, f.lulls, f.stalls, longer s.given t.given given, longer s.taken t.taken taken))
    by (inr top) = inr (still_at_top s t f top)

few_same : (few : ℕ) (past new : List Entry) (s t : Shown) (c : ℕ) → HasGrown s.given t.given → HasGrown s.taken t.taken → NoneFell s.counts t.counts → ticks_on new c ≡ ticks_on past c → HasFewTicks few past s c → HasFewTicks few new t c
few_same few past new s t c given taken f same h is_given is_taken = by (h (shown_before s.given t.given given is_given) (shown_before s.taken t.taken taken is_taken))
  where
    by : (ticks_on past c ≤ moved s + few) ⊎ IsAtTop s → (ticks_on new c ≤ moved t + few) ⊎ IsAtTop t
    by (inl is) = inl (omega (arith, is, same, f.lulls, f.stalls, longer s.given t.given given, longer s.taken t.taken taken))
    by (inr top) = inr (still_at_top s t f top)

-- one tick more, and something moved
few_moved : (few : ℕ) (past new : List Entry) (s t : Shown) (c : ℕ) → HasGrown s.given t.given → HasGrown s.taken t.taken → NoneFell s.counts t.counts → ticks_on new c ≤ ticks_on past c + 1 → HasMoved s t → HasFewTicks few past s c → HasFewTicks few new t c
few_moved few past new s t c given taken f le moves h is_given is_taken =
    let was_given = shown_before s.given t.given given is_given in
    let was_taken = shown_before s.taken t.taken taken is_taken in
    by (moves was_given was_taken) (h was_given was_taken)
  where
    by : (moved s < moved t) ⊎ (t.counts.lulls ≡ 2 ^ 64 - 1) ⊎ (t.counts.stalls ≡ 2 ^ 64 - 1) → (ticks_on past c ≤ moved s + few) ⊎ IsAtTop s → (ticks_on new c ≤ moved t + few) ⊎ IsAtTop t
    by moves (inr top) = inr (still_at_top s t f top)
    by (inl lt) (inl is) = inl (omega (arith, is, le, lt))
    by (inr (inl top)) (inl is) = inr (inl (omega (arith, top)))
    by (inr (inr top)) (inl is) = inr (inr (omega (arith, top)))

-- nothing stands in front of no bytes
pub none_whole : (most : ℕ) → IsWhole [] most → ⊥
none_whole most h = omega (arith, h.0)

pub none_long : (most : ℕ) → IsTooLong [] most → ⊥
none_long most h = omega (arith, h.0)

-- ---- a turn

not_waiting : (b : Between) → IsEmptied b → (b.bad ≡ false) × IsWaiting b.rest b.max_in → ⊥
not_waiting b (inl bad) h = true≢false (sym bad ∙ h.0)
not_waiting b (inr part) (good, inl whole) = part.0 whole
not_waiting b (inr part) (good, inr long) = part.1 long

pub counted_turn : (moments : Option (List ℕ)) (was now : Knowledge) (s t : Shown) (b d : Between) (r : Turned) → IsSame was now → b.max_in < 2 ^ 24 → IsOwn now → Pumps moments was now s t b d r → HasCounted was.of.settings was.front now.front s t b.conn b d false r
counted_turn moments was now s t b d r same short own p = record {
  fell = p.counted;
  lulled = λ lull. (subst (λ (x : Turned). TurnedFor g moments was now.front s t d x) lull p.cause).0;
  dropped = λ full. absurd (true≢false (sym full));
  ticked = λ few. few_more few 1 was.front now.front s t c p.turned.grown.0 p.turned.grown.1 p.counted adds;
  moved = λ off going sure few. few_moved few was.front now.front s t c p.turned.grown.0 p.turned.grown.1 p.counted adds (moves sure (p.turned.progress going));
  sure = λ off late. after (p.read late);
}
  where
    g : Settings
    g = was.of.settings

    c : ℕ
    c = b.conn

    bk : Knowledge
    bk = record was { front = p.turned.turn.begun; note = None }

    tk : Knowledge
    tk = record was { front = p.turned.turn.begins.ticked; note = None }

    own_begun : IsOwn bk
    own_begun = own_before bk now same (p.turned.turn.arrivals.more, p.turned.turn.arrivals.on) own

    own_ticked : IsOwn tk
    own_ticked = own_drawn was p.turned.turn.begins.ticked p.turned.turn.begun c (goes_on_after p.turned.turn.begins.answer && is_empty b.left) p.turned.turn.begins.drew b.left p.turned.left own_begun p.turned.turn.begins.draw

    tick : Adds was (event.Tick p.turned.turn.begins.now) p.turned.turn.begins.answer p.turned.turn.begins.ticked
    tick = (own_call g was tk (event.Tick p.turned.turn.begins.now) p.turned.turn.begins.answer refl refl p.turned.turn.begins.tick own_ticked).1

    adds : ticks_on now.front c ≤ ticks_on was.front c + 1
    adds =
        let one = adds_tick was (event.Tick p.turned.turn.begins.now) p.turned.turn.begins.answer p.turned.turn.begins.ticked c tick in
        let two = drawn_ticks was p.turned.turn.begins.ticked p.turned.turn.begun c c (goes_on_after p.turned.turn.begins.answer && is_empty b.left) p.turned.turn.begins.drew b.left p.turned.left own_begun p.turned.turn.begins.draw in
        let three = ap (λ (l : List Entry). ticks_on l c) p.turned.turn.arrivals.on ∙ come_ticks c c p.turned.turn.arrivals.more p.turned.turn.begun (come_alone was now c p.turned.turn.begun same own p.turned.turn.arrivals) in
        omega (arith, one, two, three)

    -- a turn that finds bytes in the queue draws some
    never : IsSureToMove g was.front b → HadOnlyFrames g tk b p.turned.turn.begun → ⊥
    never (inl emptied) h = not_waiting b emptied h.waiting
    never (inr some) h =
        let idle = idle_by g tk c PIECE p.turned.turn.begun h.draw in
        let drew = own_call g tk bk (event.Draw c PIECE) answer.NotYet refl refl h.draw own_begun in
        elim drew.1.came [
          | inl none ↦ none_queued g p.turned.turn.begun c idle.0 idle.1
              (subst (λ (l : List Entry). HasQueued g l c) (sym none.1) (queued_adds g was (event.Tick p.turned.turn.begins.now) p.turned.turn.begins.answer p.turned.turn.begins.ticked c refl tick some))
          | inr more ↦ true≢false (sym more.0)
        ]

    moves : IsSureToMove g was.front b → HasMoved s t ⊎ HadOnlyFrames g tk b p.turned.turn.begun → HasMoved s t
    moves sure (inl h) = h
    moves sure (inr only) = absurd (never sure only)

    after : IsReadOut g was d now.front → IsSureToMove g now.front d
    after (inl emptied) = inl emptied
    after (inr (q, busy)) =
        let one : now.front ≡ busy.before = follows_alone was.names busy.before now.front busy.follows (own_named was now same own) in
        let limit = p.limit in
        let waits = busy_waits g busy.before d q (omega (arith, short, limit)) busy.busy in
        inr (subst (λ (l : List Entry). HasQueued g l d.conn) (sym one) (queued_live g busy.before d.conn waits.0 waits.1))

pub counted_drop : (g : Settings) (past new : List Entry) (s t : Shown) (c : ℕ) (b d : Between) (r : Turned) → new ≡ past → Drops s t r → HasCounted g past new s t c b d true r
counted_drop g past new s t c b d r same h = record {
  fell = h.counted;
  lulled = λ lull. rose r h.cause lull;
  dropped = λ full. still;
  ticked = λ few x. few_later few (few + 1) new t c (omega arith) (still few x);
  moved = λ off. absurd (true≢false off);
  sure = λ off. absurd (true≢false off);
}
  where
    still : (few : ℕ) → HasFewTicks few past s c → HasFewTicks few new t c
    still few = few_same few past new s t c (subst (HasGrown s.given) (sym h.given) (grown_none s.given)) h.grown h.counted (ap (λ (l : List Entry). ticks_on l c) same)

    rose : (x : Turned) → DropsFor s t x → x ≡ turned.Lull → Rose s.counts.lulls t.counts.lulls
    rose turned.Lull cause is = cause
    rose (turned.Moved given taken) cause is = absurd (cc)
    rose turned.End cause is = absurd (cc)
    rose turned.LinkFault cause is = absurd (cc)
    rose _ cause is = absurd cause

pub counted_so : (moments : Option (List ℕ)) (was now : Knowledge) (s t : Shown) (b d : Between) (full : Bool) (r : Turned) → IsSame was now → b.max_in < 2 ^ 24 → IsOwn now → TurnsSo full moments was now s t b d r → HasCounted was.of.settings was.front now.front s t b.conn b d full r
counted_so moments was now s t b d false r same short own turns = counted_turn moments was now s t b d r same short own turns
counted_so moments was now s t b d true r same short own turns = counted_drop was.of.settings was.front now.front s t b.conn b d r (ap (λ (k : Knowledge). k.front) turns.0) turns.2

-- and the calls after it
pub counted_calls : (g : Settings) (past mid new : List Entry) (s t : Shown) (c : ℕ) (b d : Between) (full : Bool) (r : Turned) → AsksMore mid new → HasCounted g past mid s t c b d full r → HasCounted g past new s t c b d full r
counted_calls g past mid new s t c b d full r asks h = record {
  fell = h.fell;
  lulled = h.lulled;
  dropped = λ is few x. on few (h.dropped is few x);
  ticked = λ few x. on (few + 1) (h.ticked few x);
  moved = λ off going sure few x. on few (h.moved off going sure few x);
  sure = λ off late. still (h.sure off late);
}
  where
    same : ticks_on new c ≡ ticks_on mid c
    same = ap (λ (l : List Entry). ticks_on l c) asks.on ∙ calls_tick c asks.more mid asks.all

    on : (few : ℕ) → HasFewTicks few mid t c → HasFewTicks few new t c
    on few x given taken = subst (λ n. (n ≤ moved t + few) ⊎ IsAtTop t) (sym same) (x given taken)

    still : IsSureToMove g mid d → IsSureToMove g new d
    still (inl emptied) = inl emptied
    still (inr some) = inr (subst (λ (l : List Entry). HasQueued g l d.conn) (sym asks.on) (calls_queue g d.conn asks.more mid asks.all some))

-- ---- what was counted before it goes on

pub record Goes-on (base faults first : ℕ) (g : Settings) (new : List Entry) (t : Shown) (c : ℕ) (k : Calling) (d : Between) (links : List Shown) (r : Turned) : Type 0 where
  pub tried : HaveTried k.tried base faults links
  pub met : HaveLulled k.met (links ++ t ∷ [])
  pub lulled : r ≡ turned.Lull → (n : ℕ) → n ≤ k.met + 1 → HaveLulled n (links ++ t ∷ [])
  pub timely : AreTimely new first links
  pub few : HasFewTicks 1 new t c
  pub going : is_last r ≡ false → HasFewTicks (one_if k.full) new t c
  pub sure : is_early r ≡ false → k.full ≡ false → IsSureToMove g new d
  pub short : d.max_in < 2 ^ 24

pub goes_on : (base faults first : ℕ) (g : Settings) (past new more : List Entry) (s t : Shown) (c : ℕ) (k : Calling) (d : Between) (links : List Shown) (r : Turned) → new ≡ more ++ past → c ≡ first + length links → openings past ≡ c → d.max_in ≡ k.pump.max_in → IsCounted base faults first g past c s k links
    → HasCounted g past new s t c k.pump d k.full r → Goes-on base faults first g new t c k d links r
goes_on base faults first g past new more s t c k d links r on at last limit u h = record {
  tried = u.tried;
  met = lulled_on k.met links s t h.fell.lulls u.met;
  lulled = λ lull n one. lulled_once k.met n links s t one h.fell.lulls (h.lulled lull) u.met;
  timely = subst (λ (l : List Entry). AreTimely l first links) (sym on) (are_timely_more more past c first links (omega (arith, at)) (omega (arith, last)) u.timely);
  few = once k.full refl u.ticks;
  going = λ goes. keeps k.full refl goes u.ticks;
  sure = λ late off. h.sure off late;
  short = (let less = u.short in omega (arith, limit, less));
}
  where
    once : (f : Bool) → k.full ≡ f → HasFewTicks (one_if k.full) past s c → HasFewTicks 1 new t c
    once true is x = h.dropped is 1 (subst (λ b. HasFewTicks (one_if b) past s c) is x)
    once false is x = h.ticked 0 (subst (λ b. HasFewTicks (one_if b) past s c) is x)

    keeps : (f : Bool) → k.full ≡ f → is_last r ≡ false → HasFewTicks (one_if k.full) past s c → HasFewTicks (one_if k.full) new t c
    keeps true is goes x = h.dropped is (one_if k.full) x
    keeps false is goes x = h.moved is goes (u.sure is) (one_if k.full) x

-- its links, where it ends here
pub all_timely : (base faults first : ℕ) (g : Settings) (new : List Entry) (t : Shown) (c : ℕ) (k : Calling) (d : Between) (links : List Shown) (r : Turned) → c ≡ first + length links → Goes-on base faults first g new t c k d links r → AreTimely new first (links ++ t ∷ [])
all_timely base faults first g new t c k d links r at h = timely_and_one new first links t h.timely (subst (λ n. HasFewTicks 2 new t n) at (few_later 1 2 new t c (omega arith) h.few))
