-- Takes of a caller that is alone.
use Rattle.std.proofs.lemmas.Bool.Decides.{nat_tests}
use Rattle.std.proofs.lemmas.List.{length-append}
use Rattle.std.proofs.Common.{◌≡◌, ◌<◌, ◌≤◌, ◌+◌, ◌^◌, ◌==◌, ◌⊎◌, inl, inr, ◌∙◌, ℕ, true, false, true≢false, List, [], ◌∷◌, ◌++◌, length, Option, Some, None, refl, sym, ap, subst, arith, append-nil, append_assoc}
use Rattle.rs_wire.specs.Calls.{is_streamed}
use Rattle.rs_wire.specs.declared.words.Kind.{Kind}
use Rattle.rs_wire.specs.declared.settings.Settings.{Settings}
use Rattle.rs_wire.specs.declared.delivery.Delivery.{Delivery}
use Rattle.rs_wire.specs.declared.call.Call.TheVariants as asks
use Rattle.rs_wire.specs.declared.fault.Refusal.{Refusal}
use Rattle.tape.specs.Answers.{leaves}
use Rattle.tape.specs.Told.{entry_of}
use Rattle.tape.specs.declared.event.Event.{Event}
use Rattle.tape.specs.declared.event.Event.TheVariants as event
use Rattle.tape.specs.declared.answer.Answer.{Answer}
use Rattle.tape.specs.declared.answer.Answer.TheVariants as answer
use Rattle.tape.specs.declared.entry.Entry.{Entry}
use Rattle.stream_model.specs.Known.{front_of, known as known_after, waiting_of}
use Rattle.stream_model.specs.Turns.{Turn, taken}
use Rattle.session_core.specs.Seen.{IsOrOutOfMemory}
use Rattle.session_model.specs.Answers.{Facts, answer_to, facts, refused_call, to_call}
use Rattle.session_model.specs.Legal.{Legal}
use Rattle.session_model.proofs.Meaning.{last_means}
use Rattle.session_laws.proofs.Lawful.{laws_of}
use Rattle.session_laws.specs.Streams.{IsLawful, stream}
use Rattle.conn_shared.specs.Members.{Knowledge}
use Rattle.call_model.specs.Order.{Asking, is_taken}
use Rattle.call_model.specs.Ran.{HasPlace}
use Rattle.call_model.specs.Saying.{GetsNothing, delivered_of, delivered_on, got_in, got_on, has_end, is_end, line_of, lines_of, started}
use Rattle.call_model.specs.Standing.{IsUnended, Stands}
use Rattle.call_model.proofs.Ending.{delivered_same, refused_says_none}
use Rattle.call_model.proofs.Ordering.{got_same, started_on}
use Rattle.call_model.proofs.Standing.{end_on, grant_on, item_on, last_full, take_none, took_end, took_more, unended_on}
use Rattle.call_model.proofs.Takes.{taken_of, taken_whole, takes_are}
use Rattle.client.specs.Takes.{AddsRefused, AsksMore, Grants, HasTaken, HasTakenAll, HasTakenEnd, IsWhole, Prints, is_call, is_refused}
use Rattle.client.specs.declared.calls.Took.{Took}
use Rattle.client.specs.declared.calls.Took.TheVariants as tooks
use Rattle.client.specs.Answered.{Came, took_by}
use Rattle.client.specs.Alone.{IsOwn}
use Rattle.client.proofs.Alone.{Adds, IsSame, own_before, own_call, own_lawful, rest_lawful}

-- ---- what was added

pub asks_none : (was : List Entry) → AsksMore was was
asks_none was = record { more = []; on = refl; all = tt; place = inl refl }

pub asks_one : (was mid : List Entry) (x : Entry) → is_call x.event ≡ true → HasPlace mid → AsksMore was mid → AsksMore was (x ∷ mid)
asks_one was mid x call place h = record {
  more = x ∷ h.more;
  on = ap (λ (l : List Entry). x ∷ l) h.on;
  all = (call, h.all);
  place = inr (let sum = ap length h.on ∙ length-append h.more was in omega (arith, place, sum));
}

pub asks_adds : (was : List Entry) (me : Knowledge) (e : Event) (a : Answer) (new : List Entry) → is_call e ≡ true → Adds me e a new → AsksMore was me.front → AsksMore was new
asks_adds was me e a new call adds h = elim adds.came [
  | inl none ↦ subst (AsksMore was) (sym none.1) h
  | inr some ↦ subst (AsksMore was) (sym some.1) (asks_one was me.front (entry_of me.number e a) call some.2 h)
]

-- ---- lines

pub lines_more : (xs ys : List Delivery) → lines_of (xs ++ ys) ≡ lines_of xs ++ lines_of ys
lines_more [] ys = refl
lines_more (d ∷ xs) ys = ap (λ (l : List ℕ). line_of d ++ l) (lines_more xs ys) ∙ sym (append_assoc (line_of d) (lines_of xs) (lines_of ys))

pub prints_none : (s : ℕ) (was : List Entry) (out : List ℕ) → Prints s was was out out
prints_none s was out = record { more = []; printed = sym (append-nil out); got = sym (append-nil (lines_of (got_on was s))) }

pub prints_same : (s : ℕ) (was mid new : List Entry) (out out' : List ℕ) → got_on new s ≡ got_on mid s → Prints s was mid out out' → Prints s was new out out'
prints_same s was mid new out out' same p = record { more = p.more; printed = p.printed; got = ap lines_of same ∙ p.got }

pub prints_one : (s : ℕ) (was mid new : List Entry) (out mid_out new_out : List ℕ) (d : Delivery) → got_on new s ≡ got_on mid s ++ d ∷ [] → new_out ≡ mid_out ++ line_of d → Prints s was mid out mid_out → Prints s was new out new_out
prints_one s was mid new out mid_out new_out d got is p = record {
  more = p.more ++ line_of d;
  printed = is ∙ (ap (λ (l : List ℕ). l ++ line_of d) p.printed ∙ append_assoc out p.more (line_of d));
  got = ap lines_of got ∙ (lines_more (got_on mid s) (d ∷ []) ∙ (ap (λ (l : List ℕ). lines_of (got_on mid s) ++ l) (append-nil (line_of d)) ∙ (ap (λ (l : List ℕ). l ++ line_of d) p.got ∙ append_assoc (lines_of (got_on was s)) p.more (line_of d))));
}

-- ---- what a Take is answered

take_is : (g : Settings) (t : Facts) (s : ℕ) → ((d : Delivery) × (to_call g t (asks.Take s) ≡ answer.Got d) × (front_of (t.streams.waits s) ≡ Some d)) ⊎ GetsNothing (to_call g t (asks.Take s))
take_is g t s = by (refused_call g t (asks.Take s)) refl
  where
    some : (o : Option Delivery) → front_of (t.streams.waits s) ≡ o → refused_call g t (asks.Take s) ≡ None → ((d : Delivery) × (to_call g t (asks.Take s) ≡ answer.Got d) × (front_of (t.streams.waits s) ≡ Some d)) ⊎ GetsNothing (to_call g t (asks.Take s))
    some (Some d) first free = inl (d, rw (free, first) refl, first)
    some None first free = inr (rw (free, first) tt)

    by : (o : Option Refusal) → refused_call g t (asks.Take s) ≡ o → ((d : Delivery) × (to_call g t (asks.Take s) ≡ answer.Got d) × (front_of (t.streams.waits s) ≡ Some d)) ⊎ GetsNothing (to_call g t (asks.Take s))
    by (Some why) is = inr (rw is tt)
    by None is = some (front_of (t.streams.waits s)) refl is

-- by what it came to
took_got : (a : Answer) (d : Delivery) → tooks.Got d ≡ took_by a → a ≡ answer.Got d
took_got (answer.Got e) d is = (let same : d ≡ e = cc in ap answer.Got (sym same))
took_got answer.OutOfMemory d is = absurd (cc)
took_got _ d is = absurd (cc)

-- one that came to nothing got nothing
got_nothing : (a : Answer) (s q : ℕ) → tooks.Nothing ≡ took_by a → (got_in q a (event.Asked (asks.Take s)) ≡ []) × (is_taken (event.Asked (asks.Take s)) a ≡ false)
got_nothing (answer.Got d) s q is = absurd (cc)
got_nothing _ s q is = (refl, refl)

gets_nothing : (g : Settings) (past : List Entry) (s : ℕ) (a : Answer) → tooks.Nothing ≡ took_by a → IsOrOutOfMemory a (answer_to g past (event.Asked (asks.Take s))) → (a ≡ answer.TapeFull → ⊥) → GetsNothing (answer_to g past (event.Asked (asks.Take s))) × (a ≡ answer_to g past (event.Asked (asks.Take s)))
gets_nothing g past s answer.TapeFull is right place = absurd (place refl)
gets_nothing g past s answer.OutOfMemory is right place = absurd (cc)
gets_nothing g past s a is right place = elim (take_is g (facts g past) s) [
  | inr nothing ↦ (nothing, right)
  | inl some ↦ absurd (not_got a some.0 is (right ∙ some.1))
]
  where
    not_got : (a : Answer) (d : Delivery) → tooks.Nothing ≡ took_by a → a ≡ answer.Got d → ⊥
    not_got a d is got = (let no : tooks.Nothing ≡ tooks.Got d = is ∙ ap took_by got in cc)

refused_leaves : (a : Answer) → GetsNothing a → leaves a ≡ true → is_refused a ≡ true
refused_leaves (answer.Refused why) gets some = refl
refused_leaves answer.NotYet gets some = absurd (true≢false (sym some))
refused_leaves _ gets some = absurd gets

-- where all was taken nothing is got
none_waits : (g : Settings) (past : List Entry) (s : ℕ) (d : Delivery) (o : Option Turn) → IsLawful g past → stream g past s ≡ o → taken_of o ≡ delivered_of o → front_of (waiting_of o) ≡ Some d → ⊥
none_waits g past s d None lawful is whole first = absurd (cc)
none_waits g past s d (Some t) lawful is whole first =
    let law = (laws_of g past s t (record { lawful = lawful; there = is })).taken in
    let sum = sym (length-append (taken t.words) (waiting_of (Some t))) ∙ ap length law in
    let same = ap length whole in
    let none : waiting_of (Some t) ≡ [] = nothing_in (waiting_of (Some t)) (omega (arith, sum, same)) in
    (let no : None ≡ Some d = ap front_of (sym none) ∙ first in cc)
  where
    nothing_in : (xs : List Delivery) → length xs ≡ 0 → xs ≡ []
    nothing_in [] is = refl
    nothing_in (y ∷ ys) is = absurd (omega arith)

pub whole_gets_none : (g : Settings) (past : List Entry) (n s : ℕ) (d : Delivery) → IsLawful g (entry_of n (event.Asked (asks.Take s)) (answer.Got d) ∷ past) → IsWhole g past s → ⊥
unfolding facts known_after
whole_gets_none g past n s d lawful whole =
    let x = entry_of n (event.Asked (asks.Take s)) (answer.Got d) in
    let before = rest_lawful g (x ∷ []) past lawful in
    let first : front_of (waiting_of (stream g past s)) ≡ Some d = last_means g x past lawful.legal in
    none_waits g past s d (stream g past s) before refl (takes_are g past s before ∙ whole) first

-- ---- one Take more

-- an item was taken and printed, and then, where that is due, a grant was asked
pub record Granted (kind : Kind) (count s : ℕ) (me : Knowledge) (new : List Entry) (fresh fresh' : ℕ) : Type 0 where
  pub how : ((is_streamed kind ≡ false) × (fresh' ≡ fresh) × (new ≡ me.front))
      ⊎ ((is_streamed kind ≡ true) × (fresh + 1 < count) × (fresh' ≡ fresh + 1) × (new ≡ me.front))
      ⊎ ((is_streamed kind ≡ true) × (count ≤ fresh + 1) × (fresh' ≡ 0) × ((a : Answer) × Adds me (event.Asked (asks.Grant s count)) a new × (a ≡ answer.OutOfMemory → ⊥)))

got_here : (s : ℕ) (past : List Entry) (n : ℕ) (d : Delivery) → got_on (entry_of n (event.Asked (asks.Take s)) (answer.Got d) ∷ past) s ≡ got_on past s ++ d ∷ []
unfolding got_on
got_here s past n d = let same : (s == s) ≡ true = grind (arith, nat_tests) in rw same refl

got_adds : (me : Knowledge) (s : ℕ) (d : Delivery) (new : List Entry) → Adds me (event.Asked (asks.Take s)) (answer.Got d) new → (new ≡ entry_of me.number (event.Asked (asks.Take s)) (answer.Got d) ∷ me.front) × HasPlace me.front
got_adds me s d new adds = elim adds.came [
  | inl none ↦ absurd (true≢false none.0)
  | inr some ↦ (some.1, some.2)
]

grant_gets : (a : Answer) (e : Event) (s k q : ℕ) → e ≡ event.Asked (asks.Grant s k) → got_in q a e ≡ []
grant_gets (answer.Got d) e s k q is = rw is refl
grant_gets _ e s k q is = refl

-- a grant gets nothing
granted_same : (me : Knowledge) (s k q : ℕ) (a : Answer) (new : List Entry) → Adds me (event.Asked (asks.Grant s k)) a new → got_on new q ≡ got_on me.front q
granted_same me s k q a new adds = elim adds.came [
  | inl none ↦ ap (λ (l : List Entry). got_on l q) none.1
  | inr some ↦ ap (λ (l : List Entry). got_on l q) some.1 ∙ got_same me.front (entry_of me.number (event.Asked (asks.Grant s k)) a) q (grant_gets a (event.Asked (asks.Grant s k)) s k q refl)
]

how_got : (kind : Kind) (count s q : ℕ) (me : Knowledge) (new : List Entry) (fresh fresh' : ℕ) → Granted kind count s me new fresh fresh' → got_on new q ≡ got_on me.front q
how_got kind count s q me new fresh fresh' g = elim g.how [
  | inl plain ↦ ap (λ (l : List Entry). got_on l q) plain.2
  | inr more ↦ elim more [
    | inl less ↦ ap (λ (l : List Entry). got_on l q) less.3
    | inr last ↦ granted_same me s count q last.3.0 new last.3.1
  ]
]

how_asks : (was : List Entry) (kind : Kind) (count s : ℕ) (me : Knowledge) (new : List Entry) (fresh fresh' : ℕ) → Granted kind count s me new fresh fresh' → AsksMore was me.front → AsksMore was new
how_asks was kind count s me new fresh fresh' g h = elim g.how [
  | inl plain ↦ subst (AsksMore was) (sym plain.2) h
  | inr more ↦ elim more [
    | inl less ↦ subst (AsksMore was) (sym less.3) h
    | inr last ↦ asks_adds was me (event.Asked (asks.Grant s count)) last.3.0 new refl last.3.1 h
  ]
]

-- a grant leaves no entry where the tape is full alone
grant_full : (me : Knowledge) (s k : ℕ) (a : Answer) (new : List Entry) → Adds me (event.Asked (asks.Grant s k)) a new → leaves a ≡ false → (a ≡ answer.OutOfMemory → ⊥) → HasPlace me.front → ⊥
grant_full me s k a new adds none want place = by a adds.step.answered (λ is. adds.step.full.0 is) none want
  where
    g : Settings
    g = me.of.settings

    right : (o : Option Refusal) → refused_call g (facts g me.front) (asks.Grant s k) ≡ o → leaves (answer_to g me.front (event.Asked (asks.Grant s k))) ≡ true
    right None is = rw is refl
    right (Some why) is = rw is refl

    by : (a : Answer) → IsOrOutOfMemory a (answer_to g me.front (event.Asked (asks.Grant s k))) → (a ≡ answer.TapeFull → 2 ^ 63 ≤ length me.front) → leaves a ≡ false → (a ≡ answer.OutOfMemory → ⊥) → ⊥
    by answer.TapeFull is full none want = (let f = full refl in omega (arith, f, place))
    by answer.OutOfMemory is full none want = want refl
    by a is full none want = true≢false (sym (right (refused_call g (facts g me.front) (asks.Grant s k)) refl) ∙ (ap leaves (sym is) ∙ none))

pub taken_more : (kind : Kind) (count s : ℕ) (g : Settings) (was : List Entry) (k k2 : Knowledge) (new : List Entry) (d : Delivery) (fresh0 fresh fresh' : ℕ) (out mid_out new_out : List ℕ) → 0 < count → k2.of.settings ≡ g → IsLawful g k2.front → IsLawful g new
    → Adds k (event.Asked (asks.Take s)) (answer.Got d) k2.front → is_end d ≡ false → Granted kind count s k2 new fresh fresh' → new_out ≡ mid_out ++ line_of d
    → HasTaken kind count s g was k.front fresh0 fresh out mid_out → HasTaken kind count s g was new fresh0 fresh' out new_out
taken_more kind count s g was k k2 new d fresh0 fresh fresh' out mid_out new_out some same lawful2 lawful adds goes granted printed h =
    let one = got_adds k s d k2.front adds in
    record {
      asks = how_asks was kind count s k2 new fresh fresh' granted (asks_adds was k (event.Asked (asks.Take s)) (answer.Got d) k2.front refl adds h.asks);
      prints = prints_one s was k.front new out mid_out new_out d (how_got kind count s s k2 new fresh fresh' granted ∙ (ap (λ (l : List Entry). got_on l s) one.0 ∙ got_here s k.front k.number d)) printed h.prints;
      stands = λ w moments is_kind is_count st. next w moments is_kind is_count one (h.stands w moments is_kind is_count st) granted.how;
      knows = λ on. how_knows granted.how (subst (λ (l : List Entry). started l ≡ Some s) (sym one.0) (started_on k.front x s (h.knows on)));
      unended = λ on un. how_unended granted.how (subst IsUnended (sym one.0) (took_more k.front x s d (h.knows on) refl refl goes (h.unended on un)));
      idle = λ whole. absurd (whole_gets_none g k.front k.number s d (subst (IsLawful g) one.0 lawful2) (subst (λ (l : List Entry). IsWhole g l s) (sym (h.idle whole)) whole));
    }
  where
    x : Entry
    x = entry_of k.number (event.Asked (asks.Take s)) (answer.Got d)

    How : Type 0
    How = ((is_streamed kind ≡ false) × (fresh' ≡ fresh) × (new ≡ k2.front))
        ⊎ ((is_streamed kind ≡ true) × (fresh + 1 < count) × (fresh' ≡ fresh + 1) × (new ≡ k2.front))
        ⊎ ((is_streamed kind ≡ true) × (count ≤ fresh + 1) × (fresh' ≡ 0) × ((a : Answer) × Adds k2 (event.Asked (asks.Grant s count)) a new × (a ≡ answer.OutOfMemory → ⊥)))

    how_knows : How → started k2.front ≡ Some s → started new ≡ Some s
    how_knows (inl plain) on = subst (λ (l : List Entry). started l ≡ Some s) (sym plain.2) on
    how_knows (inr (inl less)) on = subst (λ (l : List Entry). started l ≡ Some s) (sym less.3) on
    how_knows (inr (inr last)) on = elim last.3.1.came [
      | inl none ↦ subst (λ (l : List Entry). started l ≡ Some s) (sym none.1) on
      | inr more ↦ subst (λ (l : List Entry). started l ≡ Some s) (sym more.1) (started_on k2.front (entry_of k2.number (event.Asked (asks.Grant s count)) last.3.0) s on)
    ]

    how_unended : How → IsUnended k2.front → IsUnended new
    how_unended (inl plain) un = subst IsUnended (sym plain.2) un
    how_unended (inr (inl less)) un = subst IsUnended (sym less.3) un
    how_unended (inr (inr last)) un = elim last.3.1.came [
      | inl none ↦ subst IsUnended (sym none.1) un
      | inr more ↦
          let y = entry_of k2.number (event.Asked (asks.Grant s count)) last.3.0 in
          subst IsUnended (sym more.1) (unended_on g k2.front y (subst (Legal g) more.1 lawful.legal) refl (λ q. grant_gets last.3.0 (event.Asked (asks.Grant s count)) s count q refl) un)
    ]

    next : (w : Asking) (moments : Option (List ℕ)) → w.kind ≡ kind → w.count ≡ count → (k2.front ≡ x ∷ k.front) × HasPlace k.front → Stands w moments k.front (Some s) fresh → How → Stands w moments new (Some s) fresh'
    next w moments is_kind is_count one st (inl plain) =
        subst (λ (l : List Entry). Stands w moments l (Some s) fresh') (sym (plain.2 ∙ one.0))
        (subst (λ f. Stands w moments (x ∷ k.front) (Some s) f) (sym plain.1) (item_on w moments k.front x s fresh fresh d one.1 (subst (λ n. 0 < n) (sym is_count) some) refl refl goes (inl (ap is_streamed is_kind ∙ plain.0)) st))
    next w moments is_kind is_count one st (inr (inl less)) =
        subst (λ (l : List Entry). Stands w moments l (Some s) fresh') (sym (less.3 ∙ one.0))
        (item_on w moments k.front x s fresh fresh' d one.1 (subst (λ n. 0 < n) (sym is_count) some) refl refl goes (inr (subst (λ n. fresh + 1 < n) (sym is_count) less.1, less.2)) st)
    next w moments is_kind is_count one st (inr (inr last)) = subst (λ f. Stands w moments new (Some s) f) (sym last.2) (elim last.3.1.came [
      | inl none ↦
          let full : HasPlace (x ∷ k.front) → ⊥ = λ place. grant_full k2 s count last.3.0 new last.3.1 none.0 last.3.2 (subst HasPlace (sym one.0) place) in
          subst (λ (l : List Entry). Stands w moments l (Some s) 0) (sym (none.1 ∙ one.0))
          (last_full w moments k.front x s fresh d one.1 (subst (λ n. 0 < n) (sym is_count) some) refl refl goes (ap is_streamed is_kind ∙ last.0) (subst (λ n. n ≤ fresh + 1) (sym is_count) last.1) full st)
      | inr more ↦
          let y = entry_of k2.number (event.Asked (asks.Grant s count)) last.3.0 in
          let at : new ≡ y ∷ (x ∷ k.front) = more.1 ∙ ap (λ (l : List Entry). y ∷ l) one.0 in
          subst (λ (l : List Entry). Stands w moments l (Some s) 0) (sym at)
          (grant_on g w moments k.front x y s fresh d one.1 (subst (λ n. 0 < n) (sym is_count) some) refl refl goes (ap is_streamed is_kind ∙ last.0) (subst (λ n. n ≤ fresh + 1) (sym is_count) last.1) (subst (Legal g) at lawful.legal) (ap (λ n. event.Asked (asks.Grant s n)) (sym is_count)) st)
    ])

pub taken_end : (kind : Kind) (count s : ℕ) (g : Settings) (was : List Entry) (k : Knowledge) (new : List Entry) (d : Delivery) (fresh0 fresh : ℕ) (out mid_out new_out : List ℕ)
    → Adds k (event.Asked (asks.Take s)) (answer.Got d) new → is_end d ≡ true → new_out ≡ mid_out ++ line_of d
    → HasTaken kind count s g was k.front fresh0 fresh out mid_out → HasTakenEnd kind count s g was new fresh0 fresh out new_out
taken_end kind count s g was k new d fresh0 fresh out mid_out new_out adds ends printed h =
    let one = got_adds k s d new adds in
    let x = entry_of k.number (event.Asked (asks.Take s)) (answer.Got d) in
    record {
      asks = asks_adds was k (event.Asked (asks.Take s)) (answer.Got d) new refl adds h.asks;
      prints = prints_one s was k.front new out mid_out new_out d (ap (λ (l : List Entry). got_on l s) one.0 ∙ got_here s k.front k.number d) printed h.prints;
      stands = λ w moments is_kind is_count st. subst (λ (l : List Entry). Stands w moments l (Some s) fresh) (sym one.0) (end_on w moments k.front x s fresh d one.1 refl refl ends (h.stands w moments is_kind is_count st));
      knows = λ on. subst (λ (l : List Entry). started l ≡ Some s) (sym one.0) (started_on k.front x s (h.knows on));
      ended = subst (λ (l : List Entry). has_end (got_on l s) ≡ true) (sym one.0) (took_end k.front x s d refl refl ends);
    }

refused_none : (g : Settings) (past : List Entry) (x : Entry) (s : ℕ) (a : Answer) → x.answer ≡ a → is_refused a ≡ true → delivered_on g (x ∷ past) s ≡ delivered_on g past s
refused_none g past x s (answer.Refused why) is refused = delivered_same g past x s (rw is (refused_says_none why x.event))
refused_none g past x s _ is refused = absurd (true≢false (sym refused))

pub taken_all : (kind : Kind) (count s : ℕ) (g : Settings) (was : List Entry) (k : Knowledge) (new : List Entry) (a : Answer) (fresh0 fresh : ℕ) (out mid_out : List ℕ) → k.of.settings ≡ g → IsLawful g k.front → IsLawful g new
    → Adds k (event.Asked (asks.Take s)) a new → tooks.Nothing ≡ took_by a
    → HasTaken kind count s g was k.front fresh0 fresh out mid_out → HasTakenAll kind count s g was new fresh0 fresh out mid_out
taken_all kind count s g was k new a fresh0 fresh out mid_out same lawful_k lawful adds nothing h = record {
  asks = asks_adds was k (event.Asked (asks.Take s)) a new refl adds h.asks;
  prints = prints_same s was k.front new out mid_out (got_is s) h.prints;
  stands = λ w moments is_kind is_count st. stands_by w moments (h.stands w moments is_kind is_count st) adds.came;
  knows = λ on. knows_by (h.knows on) adds.came;
  unended = λ on un. unended_by (h.unended on un) adds.came;
  whole = λ place. whole_by place adds.came;
  idle = λ whole. idle_by (h.idle whole) adds.came;
}
  where
    x : Entry
    x = entry_of k.number (event.Asked (asks.Take s)) a

    Came : Type 0
    Came = ((leaves a ≡ false) × (new ≡ k.front)) ⊎ ((leaves a ≡ true) × (new ≡ x ∷ k.front) × HasPlace k.front)

    gets : HasPlace k.front → GetsNothing (answer_to g k.front (event.Asked (asks.Take s))) × (a ≡ answer_to g k.front (event.Asked (asks.Take s)))
    gets place = gets_nothing g k.front s a nothing (subst (λ (t : Settings). IsOrOutOfMemory a (answer_to t k.front (event.Asked (asks.Take s)))) same adds.step.answered) (λ full. (let no = adds.step.full.0 full in omega (arith, no, place)))

    refused : HasPlace k.front → leaves a ≡ true → is_refused a ≡ true
    refused place some = (let both = gets place in refused_leaves a (subst GetsNothing (sym both.1) both.0) some)

    got_is : (q : ℕ) → got_on new q ≡ got_on k.front q
    got_is q = elim adds.came [
      | inl none ↦ ap (λ (l : List Entry). got_on l q) none.1
      | inr some ↦ ap (λ (l : List Entry). got_on l q) some.1 ∙ got_same k.front x q (got_nothing a s q nothing).0
    ]

    stands_by : (w : Asking) (moments : Option (List ℕ)) → Stands w moments k.front (Some s) fresh → Came → Stands w moments new (Some s) fresh
    stands_by w moments st (inl none) = subst (λ (l : List Entry). Stands w moments l (Some s) fresh) (sym none.1) st
    stands_by w moments st (inr some) = subst (λ (l : List Entry). Stands w moments l (Some s) fresh) (sym some.1) (take_none g w moments k.front x s fresh some.2 (subst (Legal g) some.1 lawful.legal) refl (λ q. (got_nothing a s q nothing).0) (got_nothing a s s nothing).1 st)

    knows_by : started k.front ≡ Some s → Came → started new ≡ Some s
    knows_by on (inl none) = subst (λ (l : List Entry). started l ≡ Some s) (sym none.1) on
    knows_by on (inr some) = subst (λ (l : List Entry). started l ≡ Some s) (sym some.1) (started_on k.front x s on)

    unended_by : IsUnended k.front → Came → IsUnended new
    unended_by un (inl none) = subst IsUnended (sym none.1) un
    unended_by un (inr some) = subst IsUnended (sym some.1) (unended_on g k.front x (subst (Legal g) some.1 lawful.legal) refl (λ q. (got_nothing a s q nothing).0) un)

    whole_by : HasPlace new → Came → IsWhole g new s
    whole_by place (inl none) = subst (λ (l : List Entry). IsWhole g l s) (sym none.1) (taken_whole g k.front s lawful_k (gets (subst HasPlace none.1 place)).0)
    whole_by place (inr some) = subst (λ (l : List Entry). IsWhole g l s) (sym some.1)
        (got_same k.front x s (got_nothing a s s nothing).0 ∙ (taken_whole g k.front s lawful_k (gets some.2).0 ∙ sym (refused_none g k.front x s a refl (refused some.2 some.0))))

    idle_by : k.front ≡ was → Came → AddsRefused was new
    idle_by at (inl none) = record { more = []; on = none.1 ∙ at; all = tt }
    idle_by at (inr some) = record { more = x ∷ []; on = some.1 ∙ ap (λ (l : List Entry). x ∷ l) at; all = ((refl, refused some.2 some.0), tt) }

pub taken_none : (kind : Kind) (count s : ℕ) (g : Settings) (was : List Entry) (fresh : ℕ) (out : List ℕ) → HasTaken kind count s g was was fresh fresh out out
taken_none kind count s g was fresh out = record {
  asks = asks_none was;
  prints = prints_none s was out;
  stands = λ w moments is_kind is_count st. st;
  knows = λ on. on;
  unended = λ on un. un;
  idle = λ whole. refl;
}

-- ---- by the calls

pub granted_by : (kind : Kind) (count s : ℕ) (was now : Knowledge) (fresh fresh' : ℕ) → IsSame was now → Grants kind count s was now.front fresh fresh' → IsOwn now → IsOwn was × Granted kind count s was now.front fresh fresh'
granted_by kind count s was now fresh fresh' same (inl plain) own = (own_before was now same ([], plain.2) own, record { how = inl plain })
granted_by kind count s was now fresh fresh' same (inr (inl less)) own = (own_before was now same ([], less.3) own, record { how = inr (inl less) })
granted_by kind count s was now fresh fresh' same (inr (inr last)) own =
    let h = own_call was.of.settings was now (event.Asked (asks.Grant s count)) last.3.0 refl same last.3.1 own in
    (h.0, record { how = inr (inr (last.0, last.1, last.2, (last.3.0, h.1, last.3.2))) })

-- ---- one round of Takes

pub same_both : (was k now : Knowledge) → IsSame was k → IsSame k now → IsSame was now
same_both was k now a b = b ∙ ap (λ (x : Knowledge). record x { front = now.front; note = now.note }) a

pub settings_of : (was k : Knowledge) → IsSame was k → k.of.settings ≡ was.of.settings
settings_of was k same = ap (λ (x : Knowledge). x.of.settings) same

-- what a Take of its own came to
take_own : (was k now : Knowledge) (s : ℕ) (x : Took) → IsSame was k → IsSame k now → Came took_by k (asks.Take s) x now.front → IsOwn now → IsOwn k × ((a : Answer) × (x ≡ took_by a) × Adds k (event.Asked (asks.Take s)) a now.front)
take_own was k now s x a b came own =
    let h = own_call k.of.settings k now (event.Asked (asks.Take s)) came.answer refl b came.called own in
    (h.0, (came.answer, came.is, h.1))

pub step_end : (kind : Kind) (count s : ℕ) (was k now : Knowledge) (x : Took) (d : Delivery) (fresh0 fresh : ℕ) (out mid_out new_out : List ℕ) → IsSame was k → IsSame k now → Came took_by k (asks.Take s) x now.front → x ≡ tooks.Got d → is_end d ≡ true → new_out ≡ mid_out ++ line_of d
    → (IsOwn k → IsOwn was × HasTaken kind count s was.of.settings was.front k.front fresh0 fresh out mid_out) → IsOwn now → IsOwn was × HasTakenEnd kind count s was.of.settings was.front now.front fresh0 fresh out new_out
step_end kind count s was k now x d fresh0 fresh out mid_out new_out a b came is ends printed h own =
    let t = take_own was k now s x a b came own in
    let g = h t.0 in
    let got = took_got t.1.0 d (sym is ∙ t.1.1) in
    (g.0, taken_end kind count s was.of.settings was.front k now.front d fresh0 fresh out mid_out new_out (subst (λ (z : Answer). Adds k (event.Asked (asks.Take s)) z now.front) got t.1.2) ends printed g.1)

pub step_all : (kind : Kind) (count s : ℕ) (was k now : Knowledge) (x : Took) (fresh0 fresh : ℕ) (out mid_out : List ℕ) → IsSame was k → IsSame k now → Came took_by k (asks.Take s) x now.front → x ≡ tooks.Nothing
    → (IsOwn k → IsOwn was × HasTaken kind count s was.of.settings was.front k.front fresh0 fresh out mid_out) → IsOwn now → IsOwn was × HasTakenAll kind count s was.of.settings was.front now.front fresh0 fresh out mid_out
step_all kind count s was k now x fresh0 fresh out mid_out a b came is h own =
    let t = take_own was k now s x a b came own in
    let g = h t.0 in
    (g.0, taken_all kind count s was.of.settings was.front k now.front t.1.0 fresh0 fresh out mid_out (settings_of was k a) (subst (λ (z : Settings). IsLawful z k.front) (settings_of was k a) t.0.lawful) (own_lawful was now (same_both was k now a b) own) t.1.2 (sym is ∙ t.1.1) g.1)

pub step_more : (kind : Kind) (count s : ℕ) (was k k2 now : Knowledge) (x : Took) (d : Delivery) (fresh0 fresh fresh' : ℕ) (out mid_out new_out : List ℕ) → IsSame was k → IsSame k k2 → IsSame k2 now → Came took_by k (asks.Take s) x k2.front → x ≡ tooks.Got d → is_end d ≡ false → new_out ≡ mid_out ++ line_of d
    → 0 < count → Grants kind count s k2 now.front fresh fresh'
    → (IsOwn k → IsOwn was × HasTaken kind count s was.of.settings was.front k.front fresh0 fresh out mid_out) → IsOwn now → IsOwn was × HasTaken kind count s was.of.settings was.front now.front fresh0 fresh' out new_out
step_more kind count s was k k2 now x d fresh0 fresh fresh' out mid_out new_out a b c came is goes printed some grants h own =
    let gr = granted_by kind count s k2 now fresh fresh' c grants own in
    let t = take_own was k k2 s x a b came gr.0 in
    let g = h t.0 in
    let got = took_got t.1.0 d (sym is ∙ t.1.1) in
    let both = same_both was k k2 a b in (
      g.0,
      taken_more kind count s was.of.settings was.front k k2 now.front d fresh0 fresh fresh' out mid_out new_out some (settings_of was k2 both) (subst (λ (z : Settings). IsLawful z k2.front) (settings_of was k2 both) gr.0.lawful) (own_lawful was now (same_both was k2 now both c) own)
          (subst (λ (z : Answer). Adds k (event.Asked (asks.Take s)) z k2.front) got t.1.2) goes gr.1 printed g.1,
    )
