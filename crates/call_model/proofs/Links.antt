-- What holds of links that were put back goes on, and is joined with what holds of the next one.
use Rattle.std.proofs.lemmas.Bool.Decides.{nat_tests}
use Rattle.std.specs.List.{AllByRecursion}
use Rattle.std.proofs.Common.{◌≡◌, ◌==◌, ◌&&◌, ◌||◌, ◌⊎◌, inl, inr, ◌+◌, ◌<◌, ◌≤◌, ◌-◌, ◌^◌, ℕ, Bool, true, false, nat_lt, List, [], ◌∷◌, ◌++◌, length, refl, sym, subst, arith}
use Rattle.rs_wire.specs.declared.settings.Settings.{Settings}
use Rattle.outside.specs.Causes.{Rose}
use Rattle.outside.specs.Links.{Shown}
use Rattle.tape.specs.declared.event.Event.{Event}
use Rattle.tape.specs.declared.event.Event.TheVariants as event
use Rattle.tape.specs.declared.entry.Entry.{Entry}
use Rattle.session_model.specs.Life.{openings}
use Rattle.session_model.specs.Frames.{was_opened}
use Rattle.session_model.specs.Legal.{Legal}
use Rattle.link_model.specs.Carrying.{Carried, is_of}
use Rattle.link_model.specs.Leaving.{IsBroken, Left}
use Rattle.link_laws.proofs.StaysGood.{carried_on}
use Rattle.link_laws.proofs.Leaving.{left_by_one}
use Rattle.call_model.specs.Order.{is_tick, moves_only}
use Rattle.call_model.specs.Timing.{HasFewTicks, IsAtTop, IsTimely, moved, ticks_on}
use Rattle.call_model.specs.Leaving.{AllButLastLeft, AreCarried, AreLeft, AreTimely, HaveLulled, HaveTried, IsEndless, NoTryLeft, broken_in, is_broken, lulls_in, one_if}
use Rattle.call_model.specs.Ran.{OfLast}

-- ---- one entry

apart_from : (conn c : ℕ) (e : Event) → moves_only conn e ≡ true → c < conn → is_of c e ≡ false
apart_from conn c (event.Draw k room) is lt = grind (arith, nat_tests)
apart_from conn c (event.Came k f) is lt = grind (arith, nat_tests)
apart_from conn c (event.Bad k rule) is lt = grind (arith, nat_tests)
apart_from conn c _ is lt = refl

was : (past : List Entry) (c : ℕ) → 0 < c → c ≤ openings past → was_opened past c ≡ true
was past c some le = grind (arith, nat_tests)

never : (b : Bool) → (b && false) ≡ false
never true = refl
never false = refl

pub ticks_later : (past : List Entry) (x : Entry) (c : ℕ) → c < openings past → ticks_on (x ∷ past) c ≡ ticks_on past c
unfolding ticks_on
ticks_later past x c lt =
    let other : (openings past == c) ≡ false = grind (arith, nat_tests) in
    rw (other, never (is_tick x.event)) (omega arith)

pub openings_on : (past : List Entry) (x : Entry) → openings past ≤ openings (x ∷ past)
unfolding openings
openings_on past x = omega arith

pub timely_on : (past : List Entry) (x : Entry) (link : Shown) (c : ℕ) → c < openings past → IsTimely past link c → IsTimely (x ∷ past) link c
timely_on past x link c lt timely given taken = subst (λ n. (n ≤ moved link + 2) ⊎ IsAtTop link) (sym (ticks_later past x c lt)) (timely given taken)

-- ---- all links before that of opening conn, which alone moves bytes

pub are_carried_on : (g : Settings) (past : List Entry) (x : Entry) (conn c : ℕ) (links : List Shown) → moves_only conn x.event ≡ true → 0 < c → c + length links ≤ conn → conn ≤ openings past → AreCarried g past c links → AreCarried g (x ∷ past) c links
are_carried_on g past x conn c [] only some fit le carried = tt
are_carried_on g past x conn c (link ∷ links) only some fit le carried = (
  carried_on g past x link c (apart_from conn c x.event only (omega (arith, fit))) (was past c some (omega (arith, fit, le))) carried.0,
  are_carried_on g past x conn (c + 1) links only (omega arith) (omega (arith, fit)) le carried.1,
)

pub are_timely_on : (past : List Entry) (x : Entry) (conn c : ℕ) (links : List Shown) → c + length links ≤ conn → conn ≤ openings past → AreTimely past c links → AreTimely (x ∷ past) c links
are_timely_on past x conn c [] fit le timely = tt
are_timely_on past x conn c (link ∷ links) fit le timely = (
  timely_on past x link c (omega (arith, fit, le)) timely.0,
  are_timely_on past x conn (c + 1) links (omega (arith, fit)) le timely.1,
)

pub are_left_on : (g : Settings) (past : List Entry) (x : Entry) (conn c : ℕ) (links : List Shown) → Legal g (x ∷ past) → moves_only conn x.event ≡ true → 0 < c → c + length links ≤ conn → conn ≤ openings past → AreLeft g past c links → AreLeft g (x ∷ past) c links
are_left_on g past x conn c [] legal only some fit le left = tt
are_left_on g past x conn c (link ∷ links) legal only some fit le left = (
  left_by_one g x past link c legal (was past c some (omega (arith, fit, le))) (apart_from conn c x.event only (omega (arith, fit))) left.0,
  are_left_on g past x conn (c + 1) links legal only (omega arith) (omega (arith, fit)) le left.1,
)

pub openings_more : (more past : List Entry) → openings past ≤ openings (more ++ past)
openings_more [] past = omega arith
openings_more (x ∷ more) past = let on = openings_on (more ++ past) x in let before = openings_more more past in omega (arith, on, before)

pub are_carried_more : (g : Settings) (more past : List Entry) (conn c : ℕ) (links : List Shown) → AllByRecursion (λ (x : Entry). moves_only conn x.event ≡ true) more → 0 < c → c + length links ≤ conn → conn ≤ openings past → AreCarried g past c links
    → AreCarried g (more ++ past) c links
are_carried_more g [] past conn c links only some fit le carried = carried
are_carried_more g (x ∷ more) past conn c links only some fit le carried =
    let on = openings_more more past in
    are_carried_on g (more ++ past) x conn c links only.0 some fit (omega (arith, on, le)) (are_carried_more g more past conn c links only.1 some fit le carried)

pub are_timely_more : (more past : List Entry) (conn c : ℕ) (links : List Shown) → c + length links ≤ conn → conn ≤ openings past → AreTimely past c links → AreTimely (more ++ past) c links
are_timely_more [] past conn c links fit le timely = timely
are_timely_more (x ∷ more) past conn c links fit le timely =
    let on = openings_more more past in
    are_timely_on (more ++ past) x conn c links fit (omega (arith, on, le)) (are_timely_more more past conn c links fit le timely)

pub are_left_more : (g : Settings) (more past : List Entry) (conn c : ℕ) (links : List Shown) → Legal g (more ++ past) → AllByRecursion (λ (x : Entry). moves_only conn x.event ≡ true) more → 0 < c → c + length links ≤ conn → conn ≤ openings past → AreLeft g past c links
    → AreLeft g (more ++ past) c links
unfolding Legal
are_left_more g [] past conn c links legal only some fit le left = left
are_left_more g (x ∷ more) past conn c links legal only some fit le left =
    let on = openings_more more past in
    are_left_on g (more ++ past) x conn c links legal only.0 some fit (omega (arith, on, le)) (are_left_more g more past conn c links legal.0 only.1 some fit le left)

-- ---- one link more

pub carried_and_one : (g : Settings) (past : List Entry) (c : ℕ) (links : List Shown) (link : Shown) → AreCarried g past c links → Carried g past link (c + length links) → AreCarried g past c (links ++ link ∷ [])
carried_and_one g past c [] link carried one = (subst (Carried g past link) (omega arith) one, tt)
carried_and_one g past c (l ∷ links) link carried one = (carried.0, carried_and_one g past (c + 1) links link carried.1 (subst (Carried g past link) (omega arith) one))

pub timely_and_one : (past : List Entry) (c : ℕ) (links : List Shown) (link : Shown) → AreTimely past c links → IsTimely past link (c + length links) → AreTimely past c (links ++ link ∷ [])
timely_and_one past c [] link timely one = (subst (IsTimely past link) (omega arith) one, tt)
timely_and_one past c (l ∷ links) link timely one = (timely.0, timely_and_one past (c + 1) links link timely.1 (subst (IsTimely past link) (omega arith) one))

pub left_and_one : (g : Settings) (past : List Entry) (c : ℕ) (links : List Shown) (link : Shown) → AreLeft g past c links → Left g past link (c + length links) → AreLeft g past c (links ++ link ∷ [])
left_and_one g past c [] link left one = (subst (Left g past link) (omega arith) one, tt)
left_and_one g past c (l ∷ links) link left one = (left.0, left_and_one g past (c + 1) links link left.1 (subst (Left g past link) (omega arith) one))

pub all_but_one : (g : Settings) (past : List Entry) (c : ℕ) (links : List Shown) (link : Shown) → AreLeft g past c links → AllButLastLeft g past c (links ++ link ∷ [])
all_but_one g past c [] link left = tt
all_but_one g past c (l ∷ []) link left = (left.0, tt)
all_but_one g past c (l ∷ (next ∷ links)) link left = (left.0, all_but_one g past (c + 1) (next ∷ links) link left.1)

pub last_is : (P : Shown → ℕ → Type 0) (none : Type 0) (c : ℕ) (links : List Shown) (link : Shown) → P link (c + length links) → OfLast P none c (links ++ link ∷ [])
last_is P none c [] link one = subst (P link) (omega arith) one
last_is P none c (l ∷ []) link one = subst (P link) (omega arith) one
last_is P none c (l ∷ (next ∷ links)) link one = last_is P none (c + 1) (next ∷ links) link (subst (P link) (omega arith) one)

-- ---- counts

pub lulls_more : (links : List Shown) (link : Shown) → lulls_in (links ++ link ∷ []) ≡ lulls_in links + link.counts.lulls
lulls_more [] link = omega arith
lulls_more (l ∷ links) link = let more = lulls_more links link in omega (arith, more)

pub broken_more : (links : List Shown) (link : Shown) → broken_in (links ++ link ∷ []) ≡ broken_in links + one_if (is_broken link)
broken_more [] link = omega arith
broken_more (l ∷ links) link = let more = broken_more links link in omega (arith, more)

endless_on : (links : List Shown) (s t : Shown) → s.counts.lulls ≤ t.counts.lulls → IsEndless (links ++ s ∷ []) → IsEndless (links ++ t ∷ [])
endless_on [] s t le (inl top) = inl (omega (arith, le, top))
endless_on [] s t le (inr none) = absurd none
endless_on (l ∷ links) s t le (inl top) = inl top
endless_on (l ∷ links) s t le (inr more) = inr (endless_on links s t le more)

endless_next : (links : List Shown) (link : Shown) → IsEndless links → IsEndless (links ++ link ∷ [])
endless_next [] link none = absurd none
endless_next (l ∷ links) link (inl top) = inl top
endless_next (l ∷ links) link (inr more) = inr (endless_next links link more)

endless_last : (links : List Shown) (link : Shown) → 2 ^ 64 - 1 ≤ link.counts.lulls → IsEndless (links ++ link ∷ [])
endless_last [] link top = inl top
endless_last (l ∷ links) link top = inr (endless_last links link top)

-- the last link goes on
pub lulled_on : (n : ℕ) (links : List Shown) (s t : Shown) → s.counts.lulls ≤ t.counts.lulls → HaveLulled n (links ++ s ∷ []) → HaveLulled n (links ++ t ∷ [])
lulled_on n links s t le (inl few) = let a = lulls_more links s in let b = lulls_more links t in inl (omega (arith, few, le, a, b))
lulled_on n links s t le (inr top) = inr (endless_on links s t le top)

-- and lulls once more
pub lulled_once : (m n : ℕ) (links : List Shown) (s t : Shown) → n ≤ m + 1 → s.counts.lulls ≤ t.counts.lulls → Rose s.counts.lulls t.counts.lulls → HaveLulled m (links ++ s ∷ []) → HaveLulled n (links ++ t ∷ [])
lulled_once m n links s t one le rose (inr top) = inr (endless_on links s t le top)
lulled_once m n links s t one le (inr top) (inl few) = inr (endless_last links t (omega (arith, top)))
lulled_once m n links s t one le (inl lt) (inl few) = let a = lulls_more links s in let b = lulls_more links t in inl (omega (arith, few, lt, one, a, b))

-- a link more
pub lulled_next : (n : ℕ) (links : List Shown) (link : Shown) → HaveLulled n links → HaveLulled n (links ++ link ∷ [])
lulled_next n links link (inl few) = let a = lulls_more links link in inl (omega (arith, few, a))
lulled_next n links link (inr top) = inr (endless_next links link top)

pub lulled_less : (m n : ℕ) (links : List Shown) → n ≤ m → HaveLulled m links → HaveLulled n links
lulled_less m n links le (inl few) = inl (omega (arith, few, le))
lulled_less m n links le (inr top) = inr top

broken_one : (link : Shown) → IsBroken link → one_if (is_broken link) ≡ 1
broken_one link (inl some) = let is : nat_lt 0 link.counts.faults ≡ true = grind (arith, nat_tests) in rw is refl
broken_one link (inr some) = let is : nat_lt 0 link.counts.ends ≡ true = grind (arith, nat_tests) in rw is (either (nat_lt 0 link.counts.faults))
  where
    either : (b : Bool) → one_if (b || true) ≡ 1
    either true = refl
    either false = refl

-- a link that broke pays for a try
pub tried_once : (tried tried' old mid new : ℕ) (links : List Shown) (link : Shown) → IsBroken link → mid ≤ new → (mid + tried' ≤ new + tried + 1) ⊎ (2 ^ 64 - 1 ≤ new) → HaveTried tried old mid links → HaveTried tried' old new (links ++ link ∷ [])
tried_once tried tried' old mid new links link broken le used (inr top) = inr (omega (arith, le, top))
tried_once tried tried' old mid new links link broken le (inr top) (inl few) = inr top
tried_once tried tried' old mid new links link broken le (inl used) (inl few) = let more = broken_more links link in let one = broken_one link broken in inl (omega (arith, used, few, more, one))

-- and where as many were made as there may be, none is left after it
pub tried_out : (tried tried' tries old mid new : ℕ) (links : List Shown) (link : Shown) → IsBroken link → tries ≤ tried' → mid ≤ new → (mid + tried' ≤ new + tried + 0) ⊎ (2 ^ 64 - 1 ≤ new) → HaveTried tried old mid links → NoTryLeft tries old new (links ++ link ∷ [])
tried_out tried tried' tries old mid new links link broken most le used (inr top) = inr (omega (arith, le, top))
tried_out tried tried' tries old mid new links link broken most le (inr top) (inl few) = inr top
tried_out tried tried' tries old mid new links link broken most le (inl used) (inl few) = let more = broken_more links link in let one = broken_one link broken in inl (omega (arith, used, few, more, one, most))

-- ---- ticks

-- a connection that was not opened has none
pub ticks_none : (past : List Entry) (c : ℕ) → openings past < c → ticks_on past c ≡ 0
unfolding ticks_on
ticks_none [] c lt = refl
ticks_none (x ∷ past) c lt =
    let on = openings_on past x in
    let before = ticks_none past c (omega (arith, on, lt)) in
    let other : (openings past == c) ≡ false = grind (arith, nat_tests) in
    rw (other, never (is_tick x.event)) (omega (arith, before))

pub few_later : (few more : ℕ) (past : List Entry) (link : Shown) (c : ℕ) → few ≤ more → HasFewTicks few past link c → HasFewTicks more past link c
few_later few more past link c le h given taken = by (h given taken)
  where
    by : (ticks_on past c ≤ moved link + few) ⊎ IsAtTop link → (ticks_on past c ≤ moved link + more) ⊎ IsAtTop link
    by (inl is) = inl (omega (arith, is, le))
    by (inr top) = inr top

-- entries with so many ticks on connection c
pub few_on : (few n : ℕ) (past new : List Entry) (link : Shown) (c : ℕ) → ticks_on new c ≤ ticks_on past c + n → HasFewTicks few past link c → HasFewTicks (few + n) new link c
few_on few n past new link c le h given taken = by (h given taken)
  where
    by : (ticks_on past c ≤ moved link + few) ⊎ IsAtTop link → (ticks_on new c ≤ moved link + (few + n)) ⊎ IsAtTop link
    by (inl is) = inl (omega (arith, is, le))
    by (inr top) = inr top
