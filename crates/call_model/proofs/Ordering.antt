-- How the order of a call goes on by one entry.
use Rattle.std.proofs.lemmas.Bool.{cases_lt}
use Rattle.std.proofs.Math.Nat.{mod-eq_of_lt, mod-lt, mod_self, suc-mod}
use Rattle.std.proofs.Math.Numerals.{suc-eq-add-one}
use Rattle.std.specs.List.{AllByRecursion}
use Rattle.std.proofs.Common.{◌≡◌, ◌==◌, ◌&&◌, ◌⊎◌, inl, inr, ◌∙◌, ◌+◌, ◌%◌, ◌<◌, ℕ, Bool, true, false, true≢false, if◌then◌else◌, List, [], ◌∷◌, ◌++◌, Option, Some, None, IfSome, refl, sym, ap, subst, arith, append-nil}
use Rattle.rs_wire.specs.declared.settings.Settings.{Settings}
use Rattle.rs_wire.specs.declared.delivery.Delivery.{Delivery}
use Rattle.rs_wire.specs.declared.delivery.Delivery.TheVariants as delivery
use Rattle.rs_wire.specs.Calls.{is_streamed}
use Rattle.rs_wire.specs.declared.call.Call.{Call}
use Rattle.rs_wire.specs.declared.call.Call.TheVariants as call
use Rattle.tape.specs.declared.event.Event.{Event}
use Rattle.tape.specs.declared.event.Event.TheVariants as event
use Rattle.tape.specs.declared.answer.Answer.{Answer}
use Rattle.tape.specs.declared.answer.Answer.TheVariants as answer
use Rattle.tape.specs.declared.entry.Entry.{Entry}
use Rattle.session_model.specs.Lists.{first_of}
use Rattle.session_model.specs.Life.{begun, is_opened}
use Rattle.session_model.specs.Answers.{facts}
use Rattle.session_model.specs.Legal.{Legal}
use Rattle.session_model.specs.Means.{Means}
use Rattle.session_model.proofs.Meaning.{last_means}
use Rattle.session_laws.proofs.Quiet.{first_none}
use Rattle.call_model.specs.Saying.{got_in, got_on, started, started_in}
use Rattle.call_model.specs.Order.{Asking, InOrder, MayAsk, MayFollow, comes, count_after, is_leased, is_request, is_taken, items_in, next_call, owes_request, request_of}

-- ---- one entry

abbrev pub is_item : Delivery → Bool
is_item (delivery.Item message) = true
is_item _ = false

pub begun_on : (past : List Entry) (x : Entry) → begun past ≡ true → begun (x ∷ past) ≡ true
unfolding begun
begun_on past x is = rw is refl

never : (b : Bool) → (b && false) ≡ false
never true = refl
never false = refl

-- once a session is begun, only an item that was taken asks for a call
pub next_none : (w : Asking) (past : List Entry) (x : Entry) → begun past ≡ true → is_taken x.event x.answer ≡ false → next_call w (x ∷ past) ≡ None
next_none w past x on none = rw (on, none, never (is_opened x.answer), never (is_streamed w.kind)) refl

pub order_on : (w : Asking) (past : List Entry) (x : Entry) → InOrder w past → next_call w past ≡ None → MayFollow w past x.event → InOrder w (x ∷ past)
unfolding InOrder
order_on w past x order free may = (order, record { must = subst (λ (o : Option Call). IfSome o (λ c. x.event ≡ event.Asked c)) (sym free) tt; may = may })

not_taken : (e : Event) (a : Answer) → comes e ≡ true → is_taken e a ≡ false
not_taken (event.Came conn f) a is = refl
not_taken (event.Bad conn rule) a is = refl
not_taken _ a is = absurd (true≢false (sym is))

may_come : (w : Asking) (past : List Entry) (e : Event) → comes e ≡ true → MayFollow w past e
may_come w past (event.Came conn f) is = tt
may_come w past (event.Bad conn rule) is = tt
may_come w past _ is = absurd (true≢false (sym is))

-- the order goes on over what comes
pub arrivals_on : (w : Asking) (more past : List Entry) → AllByRecursion (λ (x : Entry). comes x.event ≡ true) more → begun past ≡ true → next_call w past ≡ None → InOrder w past
    → InOrder w (more ++ past) × (next_call w (more ++ past) ≡ None) × (begun (more ++ past) ≡ true)
arrivals_on w [] past come on free order = (order, free, on)
arrivals_on w (x ∷ more) past come on free order =
    let h = arrivals_on w more past come.1 on free order in (
      order_on w (more ++ past) x h.0 h.1 (may_come w (more ++ past) x.event come.0),
      next_none w (more ++ past) x h.2 (not_taken x.event x.answer come.0),
      begun_on (more ++ past) x h.2,
    )

-- ---- requests

pub order_request : (w : Asking) (past : List Entry) (x : Entry) → InOrder w past → begun past ≡ true → started past ≡ None → (next_call w past ≡ None) ⊎ (next_call w past ≡ Some (request_of w)) → x.event ≡ event.Asked (request_of w) → InOrder w (x ∷ past)
unfolding InOrder
order_request w past x order on none next is = (
  order,
  record {
    must = elim next [
      | inl free ↦ subst (λ (o : Option Call). IfSome o (λ c. x.event ≡ event.Asked c)) (sym free) tt
      | inr one ↦ subst (λ (o : Option Call). IfSome o (λ c. x.event ≡ event.Asked c)) (sym one) is
    ];
    may = subst (λ (e : Event). MayFollow w past e) (sym is) (subst (λ (o : Option ℕ). MayAsk w past o (request_of w)) (sym none) (refl, on));
  },
)

request_pays : (w : Asking) (past : List Entry) (x : Entry) → x.event ≡ event.Asked (request_of w) → owes_request (x ∷ past) ≡ false
request_pays w past x is = rw is refl

pub request_takes_none : (w : Asking) (a : Answer) (e : Event) → e ≡ event.Asked (request_of w) → is_taken e a ≡ false
request_takes_none w a e is = rw is refl

-- ---- the stream

starts_none : (g : Settings) (past : List Entry) (a : Answer) (e : Event) → Means g (facts g past) e a → is_request e ≡ false → started_in a ≡ None
starts_none g past (answer.Started id) (event.Asked (call.Request kind initial message complete)) means is = absurd (true≢false is)
starts_none g past (answer.Started id) _ means is = absurd means
starts_none g past _ e means is = refl

pub started_on : (past : List Entry) (x : Entry) (s : ℕ) → started past ≡ Some s → started (x ∷ past) ≡ Some s
unfolding started
started_on past x s is = rw is refl

pub started_same : (g : Settings) (past : List Entry) (x : Entry) → Legal g (x ∷ past) → is_request x.event ≡ false → started (x ∷ past) ≡ started past
unfolding started
started_same g past x legal is = rw (starts_none g past x.answer x.event (last_means g x past legal) is) (nothing (started past))
  where
    nothing : (o : Option ℕ) → first_of o None ≡ o
    nothing None = refl
    nothing (Some s) = refl

pub got_same : (past : List Entry) (x : Entry) (s : ℕ) → got_in s x.answer x.event ≡ [] → got_on (x ∷ past) s ≡ got_on past s
unfolding got_on
got_same past x s none = rw none (append-nil (got_on past s))

-- before a request is started nothing is taken
gets_none : (w : Asking) (past : List Entry) (a : Answer) (e : Event) (s : ℕ) → started past ≡ None → MayFollow w past e → got_in s a e ≡ []
gets_none w past (answer.Got d) (event.Asked (call.Take q)) s none may =
    let h : MayAsk w past None (call.Take q) = subst (λ (o : Option ℕ). MayAsk w past o (call.Take q)) none may in absurd (cc)
gets_none w past (answer.Got d) e s none may = refl
gets_none w past _ e s none may = refl

pub got_none : (w : Asking) (past : List Entry) (s : ℕ) → InOrder w past → started past ≡ None → got_on past s ≡ []
unfolding InOrder got_on started
got_none w [] s order none = refl
got_none w (x ∷ past) s order none =
    let before : started past ≡ None = (first_none (started past) (started_in x.answer) none).0 in
    rw (got_none w past s order.0 before, gets_none w past x.answer x.event s before order.1.may) refl

-- ---- what is owed

pub owes_same : (past : List Entry) (x : Entry) → is_request x.event ≡ false → is_leased x.event x.answer ≡ false → owes_request (x ∷ past) ≡ owes_request past
owes_same past x asks leases = rw (asks, leases) refl

-- ---- takes and grants

pub order_take : (w : Asking) (past : List Entry) (x : Entry) (s : ℕ) → InOrder w past → next_call w past ≡ None → started past ≡ Some s → x.event ≡ event.Asked (call.Take s) → InOrder w (x ∷ past)
order_take w past x s order free is take =
    order_on w past x order free (subst (λ (e : Event). MayFollow w past e) (sym take) (subst (λ (o : Option ℕ). MayAsk w past o (call.Take s)) (sym is) refl))

pub order_grant : (w : Asking) (past : List Entry) (x : Entry) (s : ℕ) → InOrder w past → next_call w past ≡ Some (call.Grant s w.count) → started past ≡ Some s → x.event ≡ event.Asked (call.Grant s w.count) → InOrder w (x ∷ past)
unfolding InOrder
order_grant w past x s order next is grant = (
  order,
  record {
    must = subst (λ (o : Option Call). IfSome o (λ c. x.event ≡ event.Asked c)) (sym next) grant;
    may = subst (λ (e : Event). MayFollow w past e) (sym grant) (subst (λ (o : Option ℕ). MayAsk w past o (call.Grant s w.count)) (sym is) next);
  },
)

-- ---- how many items were taken

pub items_more : (xs ys : List Delivery) → items_in (xs ++ ys) ≡ items_in xs + items_in ys
items_more [] ys = omega arith
items_more (d ∷ xs) ys = let more = items_more xs ys in omega (arith, more)

-- one more, by so many: the rest goes up by one, or to 0
pub rest_on : (n m r : ℕ) → r ≡ n % m → 0 < m → ((r + 1 < m) × ((n + 1) % m ≡ r + 1)) ⊎ ((r + 1 ≡ m) × ((n + 1) % m ≡ 0))
rest_on n m r is some =
    let below : n % m < m = mod-lt n some in
    let one : (n + 1) % m ≡ (r + 1) % m = ap (λ k. k % m) (sym (suc-eq-add-one n)) ∙ (suc-mod n m ∙ ap (λ k. k % m) (suc-eq-add-one (n % m) ∙ ap (λ k. k + 1) (sym is))) in
    elim (cases_lt (r + 1) m) [
      | inl less ↦ inl (less, one ∙ mod-eq_of_lt less)
      | inr not ↦ (let same : r + 1 ≡ m = omega arith in inr (same, one ∙ (ap (λ k. k % m) same ∙ mod_self m)))
    ]

-- after an item was taken a grant is due exactly where it was the last that was let in
pub next_taken : (w : Asking) (past : List Entry) (x : Entry) (s : ℕ) (d : Delivery) → begun past ≡ true → x.event ≡ event.Asked (call.Take s) → x.answer ≡ answer.Got d
    → next_call w (x ∷ past) ≡ (if is_streamed w.kind && (is_item d && ((items_in (got_on past s) + 1) % w.count == 0)) then Some (call.Grant s w.count) else None)
next_taken w past x s d on take got = rw (on, take, got) (by d)
  where
    by : (d : Delivery) → (if is_streamed w.kind && (is_taken (event.Asked (call.Take s)) (answer.Got d) && (count_after (event.Asked (call.Take s)) (answer.Got d) past % w.count == 0)) then Some (call.Grant s w.count) else None) ≡ (if is_streamed w.kind && (is_item d && ((items_in (got_on past s) + 1) % w.count == 0)) then Some (call.Grant s w.count) else None)
    by (delivery.Item message) = refl
    by _ = refl
