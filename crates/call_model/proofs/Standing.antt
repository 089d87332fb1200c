-- How it goes on where a call stands.
use Rattle.std.proofs.lemmas.Bool.Decides.{nat_tests}
use Rattle.std.specs.List.{AllByRecursion}
use Rattle.std.proofs.Common.{◌≡◌, ◌==◌, ◌&&◌, ◌||◌, ◌%◌, ◌+◌, ◌<◌, ◌≤◌, ◌⊎◌, inl, inr, ◌∙◌, ℕ, Bool, true, false, true≢false, List, [], ◌∷◌, ◌++◌, Option, Some, None, IfSome, refl, sym, ap, subst, arith, if◌then◌else◌}
use Rattle.rs_wire.specs.Calls.{is_streamed}
use Rattle.rs_wire.specs.declared.settings.Settings.{Settings}
use Rattle.rs_wire.specs.declared.delivery.Delivery.{Delivery}
use Rattle.rs_wire.specs.declared.delivery.Delivery.TheVariants as delivery
use Rattle.rs_wire.specs.declared.call.Call.TheVariants as call
use Rattle.tape.specs.declared.event.Event.{Event}
use Rattle.tape.specs.declared.event.Event.TheVariants as event
use Rattle.tape.specs.declared.answer.Answer.{Answer}
use Rattle.tape.specs.declared.answer.Answer.TheVariants as answer
use Rattle.tape.specs.declared.entry.Entry.{Entry}
use Rattle.session_model.specs.Lists.{first_of}
use Rattle.session_model.specs.Life.{begun}
use Rattle.session_model.specs.Legal.{Legal}
use Rattle.call_model.specs.Saying.{got_in, got_on, has_end, is_end, started, started_in}
use Rattle.call_model.specs.Order.{Asking, InOrder, MayFollow, comes, is_request, is_taken, items_in, next_call, owes_request, request_of}
use Rattle.call_model.specs.Timing.{AreMoments, HasMoment}
use Rattle.call_model.specs.Ran.{HasPlace}
use Rattle.call_model.specs.Standing.{IsUnended, Stands}
use Rattle.call_model.proofs.Ordering.{arrivals_on, begun_on, got_none, got_same, is_item, items_more, next_none, next_taken, order_grant, order_on, order_request, order_take, request_takes_none, rest_on, started_on, started_same}
use Rattle.call_model.proofs.Ending.{end_last}

-- ---- an entry that neither asks for the stream nor takes of it

pub quiet_on : (g : Settings) (w : Asking) (moments : Option (List ℕ)) (past : List Entry) (x : Entry) (stream : Option ℕ) (fresh : ℕ) → InOrder w (x ∷ past) → HasMoment moments x.event → Legal g (x ∷ past) → is_request x.event ≡ false
    → ((s : ℕ) → got_in s x.answer x.event ≡ []) → is_taken x.event x.answer ≡ false → Stands w moments past stream fresh → Stands w moments (x ∷ past) stream fresh
quiet_on g w moments past x stream fresh order timed legal asks gets takes h =
    let same = started_same g past x legal asks in
    record {
      order = order;
      timed = (timed, h.timed);
      begins = begun_on past x h.begins;
      free = λ place. next_none w past x h.begins takes;
      knows = h.knows ∙ sym same;
      unused = λ none. h.unused (sym same ∙ none);
      counts = λ streams. subst (λ (o : Option ℕ). IfSome o (λ s. fresh ≡ items_in (got_on (x ∷ past) s) % w.count)) (sym same)
          (if_some (started past) (λ s is. is ∙ ap (λ (l : List Delivery). items_in l % w.count) (sym (got_same past x s (gets s)))) (h.counts streams));
    }
  where
    if_some : {P Q : ℕ → Type 0} (o : Option ℕ) → ((s : ℕ) → P s → Q s) → IfSome o P → IfSome o Q
    if_some None f h = h
    if_some (Some s) f h = f s h

pub unended_on : (g : Settings) (past : List Entry) (x : Entry) → Legal g (x ∷ past) → is_request x.event ≡ false → ((s : ℕ) → got_in s x.answer x.event ≡ []) → IsUnended past → IsUnended (x ∷ past)
unended_on g past x legal asks gets h =
    subst (λ (o : Option ℕ). IfSome o (λ s. has_end (got_on (x ∷ past) s) ≡ false)) (sym (started_same g past x legal asks)) (by (started past) h)
  where
    by : (o : Option ℕ) → IfSome o (λ s. has_end (got_on past s) ≡ false) → IfSome o (λ s. has_end (got_on (x ∷ past) s) ≡ false)
    by None h = h
    by (Some s) h = ap has_end (got_same past x s (gets s)) ∙ h

-- ---- requests

first_none : (o : Option ℕ) (a : Answer) → o ≡ None → first_of o (started_in a) ≡ started_in a
first_none None a is = refl
first_none (Some s) a is = absurd (cc)

started_now : (past : List Entry) (x : Entry) → started past ≡ None → started (x ∷ past) ≡ started_in x.answer
unfolding started
started_now past x none = first_none (started past) x.answer none

got_by_request : (w : Asking) (a : Answer) (e : Event) (s : ℕ) → e ≡ event.Asked (request_of w) → got_in s a e ≡ []
got_by_request w (answer.Got d) e s is = rw is refl
got_by_request w _ e s is = refl

-- a request, whatever is answered; its stream is known from its answer
pub request_on : (w : Asking) (moments : Option (List ℕ)) (past : List Entry) (x : Entry) (fresh : ℕ) → InOrder w past → AreMoments moments past → begun past ≡ true → started past ≡ None → (next_call w past ≡ None) ⊎ (next_call w past ≡ Some (request_of w)) → fresh ≡ 0 → 0 < w.count
    → x.event ≡ event.Asked (request_of w) → Stands w moments (x ∷ past) (started_in x.answer) fresh × IsUnended (x ∷ past) × (owes_request (x ∷ past) ≡ false)
request_on w moments past x fresh order timed on none next zero some is =
    let now = started_now past x none in
    let nothing : (s : ℕ) → got_on (x ∷ past) s ≡ [] = λ s. got_same past x s (got_by_request w x.answer x.event s is) ∙ got_none w past s order none in (
      record {
        order = order_request w past x order on none next is;
        timed = (rw is tt, timed);
        begins = begun_on past x on;
        free = λ place. next_none w past x on (request_takes_none w x.answer x.event is);
        knows = sym now;
        unused = λ n. zero;
        counts = λ streams. by (started (x ∷ past)) (λ s. zero ∙ sym (ap (λ (l : List Delivery). items_in l % w.count) (nothing s) ∙ zero_rest w.count));
      },
      by (started (x ∷ past)) (λ s. ap has_end (nothing s)),
      rw is refl,
    )
  where
    by : {P : ℕ → Type 0} (o : Option ℕ) → ((s : ℕ) → P s) → IfSome o P
    by None f = tt
    by (Some s) f = f s

    zero_rest : (m : ℕ) → 0 % m ≡ 0
    zero_rest m = grind arith

-- ---- takes

pub take_none : (g : Settings) (w : Asking) (moments : Option (List ℕ)) (past : List Entry) (x : Entry) (s fresh : ℕ) → HasPlace past → Legal g (x ∷ past) → x.event ≡ event.Asked (call.Take s) → ((q : ℕ) → got_in q x.answer (event.Asked (call.Take s)) ≡ []) → is_taken (event.Asked (call.Take s)) x.answer ≡ false
    → Stands w moments past (Some s) fresh → Stands w moments (x ∷ past) (Some s) fresh
take_none g w moments past x s fresh place legal is gets takes h =
    quiet_on g w moments past x (Some s) fresh (order_take w past x s h.order (h.free place) (sym h.knows) is) (rw is tt) legal (rw is refl) (λ q. rw is (gets q)) (rw is takes) h

-- an item or an end was taken
got_here : (past : List Entry) (x : Entry) (s : ℕ) (d : Delivery) → x.event ≡ event.Asked (call.Take s) → x.answer ≡ answer.Got d → got_on (x ∷ past) s ≡ got_on past s ++ d ∷ []
unfolding got_on
got_here past x s d is got = let same : (s == s) ≡ true = grind (arith, nat_tests) in rw (is, got, same) refl

pub took_end : (past : List Entry) (x : Entry) (s : ℕ) (d : Delivery) → x.event ≡ event.Asked (call.Take s) → x.answer ≡ answer.Got d → is_end d ≡ true → has_end (got_on (x ∷ past) s) ≡ true
took_end past x s d is got ends = ap has_end (got_here past x s d is got) ∙ (end_last (got_on past s) d ∙ rw ends (always (has_end (got_on past s))))
  where
    always : (b : Bool) → (b || true) ≡ true
    always true = refl
    always false = refl

pub took_more : (past : List Entry) (x : Entry) (s : ℕ) (d : Delivery) → started past ≡ Some s → x.event ≡ event.Asked (call.Take s) → x.answer ≡ answer.Got d → is_end d ≡ false → IsUnended past → IsUnended (x ∷ past)
took_more past x s d on is got goes h =
    subst (λ (o : Option ℕ). IfSome o (λ q. has_end (got_on (x ∷ past) q) ≡ false)) (sym (started_on past x s on))
    (ap has_end (got_here past x s d is got) ∙ (end_last (got_on past s) d ∙ rw (subst (λ (o : Option ℕ). IfSome o (λ q. has_end (got_on past q) ≡ false)) on h, goes) refl))

one_item : (d : Delivery) → is_end d ≡ false → (is_item d ≡ true) × (items_in (d ∷ []) ≡ 1)
one_item (delivery.Item message) goes = (refl, refl)
one_item _ goes = absurd (true≢false goes)

no_item : (d : Delivery) → is_end d ≡ true → (is_item d ≡ false) × (items_in (d ∷ []) ≡ 0)
no_item (delivery.Item message) ends = absurd (true≢false (sym ends))
no_item _ ends = (refl, refl)

-- after an end
pub end_on : (w : Asking) (moments : Option (List ℕ)) (past : List Entry) (x : Entry) (s fresh : ℕ) (d : Delivery) → HasPlace past → x.event ≡ event.Asked (call.Take s) → x.answer ≡ answer.Got d → is_end d ≡ true
    → Stands w moments past (Some s) fresh → Stands w moments (x ∷ past) (Some s) fresh
end_on w moments past x s fresh d place is got ends h = record {
  order = order_take w past x s h.order (h.free place) (sym h.knows) is;
  timed = (rw is tt, h.timed);
  begins = begun_on past x h.begins;
  free = λ p. next_taken w past x s d h.begins is got ∙ rw (no_item d ends).0 (never (is_streamed w.kind));
  knows = sym (started_on past x s (sym h.knows));
  unused = λ none. absurd (let on = started_on past x s (sym h.knows) in (let no : Some s ≡ None = sym on ∙ none in cc));
  counts = λ streams. subst (λ (o : Option ℕ). IfSome o (λ q. fresh ≡ items_in (got_on (x ∷ past) q) % w.count)) (sym (started_on past x s (sym h.knows)))
      (subst (λ (o : Option ℕ). IfSome o (λ q. fresh ≡ items_in (got_on past q) % w.count)) (sym h.knows) (h.counts streams)
      ∙ ap (λ k. k % w.count) (sym (ap items_in (got_here past x s d is got) ∙ (items_more (got_on past s) (d ∷ []) ∙ (let zero = (no_item d ends).1 in omega (arith, zero))))));
}
  where
    never : (b : Bool) → (if b && (false && ((items_in (got_on past s) + 1) % w.count == 0)) then Some (call.Grant s w.count) else None) ≡ None
    never true = refl
    never false = refl

-- after an item: where it is not the last that was let in, or nothing is counted, the call goes on
items_now : (w : Asking) (past : List Entry) (x : Entry) (s : ℕ) (d : Delivery) → x.event ≡ event.Asked (call.Take s) → x.answer ≡ answer.Got d → is_end d ≡ false → items_in (got_on (x ∷ past) s) ≡ items_in (got_on past s) + 1
items_now w past x s d is got goes = ap items_in (got_here past x s d is got) ∙ (items_more (got_on past s) (d ∷ []) ∙ (let one = (one_item d goes).1 in omega (arith, one)))

counted : (w : Asking) (past : List Entry) (s fresh : ℕ) (moments : Option (List ℕ)) → is_streamed w.kind ≡ true → Stands w moments past (Some s) fresh → fresh ≡ items_in (got_on past s) % w.count
counted w past s fresh moments streams h = subst (λ (o : Option ℕ). IfSome o (λ q. fresh ≡ items_in (got_on past q) % w.count)) (sym h.knows) (h.counts streams)

pub item_on : (w : Asking) (moments : Option (List ℕ)) (past : List Entry) (x : Entry) (s fresh next : ℕ) (d : Delivery) → HasPlace past → 0 < w.count → x.event ≡ event.Asked (call.Take s) → x.answer ≡ answer.Got d → is_end d ≡ false
    → (is_streamed w.kind ≡ false) ⊎ ((fresh + 1 < w.count) × (next ≡ fresh + 1)) → Stands w moments past (Some s) fresh → Stands w moments (x ∷ past) (Some s) next
item_on w moments past x s fresh next d place some is got goes few h =
    let on = started_on past x s (sym h.knows) in
    record {
      order = order_take w past x s h.order (h.free place) (sym h.knows) is;
      timed = (rw is tt, h.timed);
      begins = begun_on past x h.begins;
      free = λ p. next_taken w past x s d h.begins is got ∙ elim few [
        | inl plain ↦ rw plain refl
        | inr less ↦ by (is_streamed w.kind) refl less.0
      ];
      knows = sym on;
      unused = λ none. absurd (let no : Some s ≡ None = sym on ∙ none in cc);
      counts = λ streams. subst (λ (o : Option ℕ). IfSome o (λ q. next ≡ items_in (got_on (x ∷ past) q) % w.count)) (sym on) (elim few [
        | inl plain ↦ absurd (true≢false (sym streams ∙ plain))
        | inr less ↦ less.1 ∙ (sym (up streams less.0) ∙ ap (λ k. k % w.count) (sym (items_now w past x s d is got goes)))
      ]);
    }
  where
    up : is_streamed w.kind ≡ true → fresh + 1 < w.count → (items_in (got_on past s) + 1) % w.count ≡ fresh + 1
    up streams less = elim (rest_on (items_in (got_on past s)) w.count fresh (counted w past s fresh moments streams h) some) [
      | inl r ↦ r.1
      | inr r ↦ absurd (let same = r.0 in omega (arith, same, less))
    ]

    by : (b : Bool) → is_streamed w.kind ≡ b → fresh + 1 < w.count → (if is_streamed w.kind && (is_item d && ((items_in (got_on past s) + 1) % w.count == 0)) then Some (call.Grant s w.count) else None) ≡ None
    by false plain less = rw plain refl
    by true streams less = let k = up streams less in let apart : ((items_in (got_on past s) + 1) % w.count == 0) ≡ false = grind (arith, nat_tests) in rw (streams, (one_item d goes).0, apart) refl

-- where it is the last that was let in, a grant is due
pub item_last : (w : Asking) (moments : Option (List ℕ)) (past : List Entry) (x : Entry) (s fresh : ℕ) (d : Delivery) → HasPlace past → 0 < w.count → x.event ≡ event.Asked (call.Take s) → x.answer ≡ answer.Got d → is_end d ≡ false
    → is_streamed w.kind ≡ true → w.count ≤ fresh + 1 → Stands w moments past (Some s) fresh → InOrder w (x ∷ past) × (next_call w (x ∷ past) ≡ Some (call.Grant s w.count)) × (items_in (got_on (x ∷ past) s) % w.count ≡ 0)
item_last w moments past x s fresh d place some is got goes streams last h =
    let zero = down in (
      order_take w past x s h.order (h.free place) (sym h.knows) is,
      next_taken w past x s d h.begins is got ∙ (let same : ((items_in (got_on past s) + 1) % w.count == 0) ≡ true = grind (arith, nat_tests) in rw (streams, (one_item d goes).0, same) refl),
      ap (λ k. k % w.count) (items_now w past x s d is got goes) ∙ zero,
    )
  where
    down : (items_in (got_on past s) + 1) % w.count ≡ 0
    down = elim (rest_on (items_in (got_on past s)) w.count fresh (counted w past s fresh moments streams h) some) [
      | inl r ↦ absurd (let less = r.0 in omega (arith, last, less))
      | inr r ↦ r.1
    ]

-- and where it can't be asked, the tape being full, nothing else can
pub last_full : (w : Asking) (moments : Option (List ℕ)) (past : List Entry) (x : Entry) (s fresh : ℕ) (d : Delivery) → HasPlace past → 0 < w.count → x.event ≡ event.Asked (call.Take s) → x.answer ≡ answer.Got d → is_end d ≡ false
    → is_streamed w.kind ≡ true → w.count ≤ fresh + 1 → (HasPlace (x ∷ past) → ⊥) → Stands w moments past (Some s) fresh → Stands w moments (x ∷ past) (Some s) 0
last_full w moments past x s fresh d place some is got goes streams last full h =
    let l = item_last w moments past x s fresh d place some is got goes streams last h in
    let on = started_on past x s (sym h.knows) in
    record {
      order = l.0;
      timed = (rw is tt, h.timed);
      begins = begun_on past x h.begins;
      free = λ p. absurd (full p);
      knows = sym on;
      unused = λ none. refl;
      counts = λ k. subst (λ (o : Option ℕ). IfSome o (λ q. 0 ≡ items_in (got_on (x ∷ past) q) % w.count)) (sym on) (sym l.2);
    }

grant_gets : (a : Answer) (e : Event) (s k q : ℕ) → e ≡ event.Asked (call.Grant s k) → got_in q a e ≡ []
grant_gets (answer.Got d) e s k q is = rw is refl
grant_gets _ e s k q is = refl

-- the grant, whatever is answered
pub grant_on : (g : Settings) (w : Asking) (moments : Option (List ℕ)) (past : List Entry) (x y : Entry) (s fresh : ℕ) (d : Delivery) → HasPlace past → 0 < w.count → x.event ≡ event.Asked (call.Take s) → x.answer ≡ answer.Got d → is_end d ≡ false
    → is_streamed w.kind ≡ true → w.count ≤ fresh + 1 → Legal g (y ∷ (x ∷ past)) → y.event ≡ event.Asked (call.Grant s w.count) → Stands w moments past (Some s) fresh → Stands w moments (y ∷ (x ∷ past)) (Some s) 0
grant_on g w moments past x y s fresh d place some is got goes streams last legal grants h =
    let l = item_last w moments past x s fresh d place some is got goes streams last h in
    let on = started_on past x s (sym h.knows) in
    let on_y = started_on (x ∷ past) y s on in
    record {
      order = order_grant w (x ∷ past) y s l.0 l.1 on grants;
      timed = (rw grants tt, (rw is tt, h.timed));
      begins = begun_on (x ∷ past) y (begun_on past x h.begins);
      free = λ p. next_none w (x ∷ past) y (begun_on past x h.begins) (rw grants refl);
      knows = sym on_y;
      unused = λ none. refl;
      counts = λ k. subst (λ (o : Option ℕ). IfSome o (λ q. 0 ≡ items_in (got_on (y ∷ (x ∷ past)) q) % w.count)) (sym on_y) (sym (ap (λ (l : List Delivery). items_in l % w.count) (got_same (x ∷ past) y s (grant_gets y.answer y.event s w.count s grants)) ∙ l.2));
    }

-- ---- what comes

arrives_none : (a : Answer) (e : Event) (s : ℕ) → comes e ≡ true → got_in s a e ≡ []
arrives_none (answer.Got d) (event.Came conn f) s is = refl
arrives_none (answer.Got d) (event.Bad conn rule) s is = refl
arrives_none (answer.Got d) _ s is = absurd (true≢false (sym is))
arrives_none _ e s is = refl

arrives_asks : (e : Event) → comes e ≡ true → (is_request e ≡ false)
arrives_asks (event.Came conn f) is = refl
arrives_asks (event.Bad conn rule) is = refl
arrives_asks _ is = absurd (true≢false (sym is))

arrives_takes : (e : Event) (a : Answer) → comes e ≡ true → is_taken e a ≡ false
arrives_takes (event.Came conn f) a is = refl
arrives_takes (event.Bad conn rule) a is = refl
arrives_takes _ a is = absurd (true≢false (sym is))

arrives_timed : (moments : Option (List ℕ)) (e : Event) → comes e ≡ true → HasMoment moments e
arrives_timed moments (event.Came conn f) is = tt
arrives_timed moments (event.Bad conn rule) is = tt
arrives_timed moments _ is = absurd (true≢false (sym is))

arrives_may : (w : Asking) (past : List Entry) (e : Event) → comes e ≡ true → MayFollow w past e
arrives_may w past (event.Came conn f) is = tt
arrives_may w past (event.Bad conn rule) is = tt
arrives_may w past _ is = absurd (true≢false (sym is))

-- what came is added to a list with a place
short : (x : Entry) (past : List Entry) → HasPlace (x ∷ past) → HasPlace past
short x past place = omega arith

pub arrivals_stand : (g : Settings) (w : Asking) (moments : Option (List ℕ)) (more past : List Entry) (stream : Option ℕ) (fresh : ℕ) → AllByRecursion (λ (x : Entry). comes x.event ≡ true) more → Legal g (more ++ past) → next_call w past ≡ None
    → Stands w moments past stream fresh × IsUnended past → Stands w moments (more ++ past) stream fresh × IsUnended (more ++ past)
unfolding Legal
arrivals_stand g w moments [] past stream fresh come legal free h = h
arrivals_stand g w moments (x ∷ more) past stream fresh come legal free h =
    let before = arrivals_stand g w moments more past stream fresh come.1 legal.0 free h in
    let order = arrivals_on w more past come.1 h.0.begins free h.0.order in (
      quiet_on g w moments (more ++ past) x stream fresh (order_on w (more ++ past) x order.0 order.1 (arrives_may w (more ++ past) x.event come.0)) (arrives_timed moments x.event come.0) legal (arrives_asks x.event come.0)
          (λ s. arrives_none x.answer x.event s come.0) (arrives_takes x.event x.answer come.0) before.0,
      unended_on g (more ++ past) x legal (arrives_asks x.event come.0) (λ s. arrives_none x.answer x.event s come.0) before.1,
    )

-- ---- ticks, draws, cuts and openings

abbrev pub is_plain : Event → Bool
is_plain (event.Tick now) = true
is_plain (event.Draw conn room) = true
is_plain (event.Cut conn) = true
is_plain (event.Open first taken) = true
is_plain _ = false

plain_none : (a : Answer) (e : Event) (s : ℕ) → is_plain e ≡ true → got_in s a e ≡ []
plain_none (answer.Got d) (event.Asked c) s is = absurd (true≢false (sym is))
plain_none (answer.Got d) e s is = refl
plain_none _ e s is = refl

plain_asks : (e : Event) → is_plain e ≡ true → is_request e ≡ false
plain_asks (event.Asked c) is = absurd (true≢false (sym is))
plain_asks e is = refl

plain_takes : (e : Event) (a : Answer) → is_plain e ≡ true → is_taken e a ≡ false
plain_takes (event.Asked c) a is = absurd (true≢false (sym is))
plain_takes e a is = refl

pub plain_on : (g : Settings) (w : Asking) (moments : Option (List ℕ)) (past : List Entry) (x : Entry) (stream : Option ℕ) (fresh : ℕ) → HasPlace past → is_plain x.event ≡ true → MayFollow w past x.event → HasMoment moments x.event → Legal g (x ∷ past)
    → Stands w moments past stream fresh × IsUnended past → Stands w moments (x ∷ past) stream fresh × IsUnended (x ∷ past)
plain_on g w moments past x stream fresh place plain may timed legal h = (
  quiet_on g w moments past x stream fresh (order_on w past x h.0.order (h.0.free place) may) timed legal (plain_asks x.event plain) (λ s. plain_none x.answer x.event s plain) (plain_takes x.event x.answer plain) h.0,
  unended_on g past x legal (plain_asks x.event plain) (λ s. plain_none x.answer x.event s plain) h.1,
)
