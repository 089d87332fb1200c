-- Whoever handles a connection has opened it.
use Rattle.std.specs.List.{AllByRecursion}
use Rattle.std.proofs.Common.{◌≡◌, ◌<◌, ◌≤◌, ◌||◌, ℕ, true, false, List, ◌++◌, refl, sym, subst, arith}
use Rattle.tape.specs.declared.event.Event.{Event}
use Rattle.tape.specs.declared.event.Event.TheVariants as event
use Rattle.tape.specs.declared.entry.Entry.{Entry}
use Rattle.session_laws.specs.Openings.{times_opened}
use Rattle.link_model.specs.Carrying.{IsAlone, is_of}
use Rattle.link_laws.specs.Staying.{IsHeld, asks_close, ends}
use Rattle.serve_model.specs.Counts.{opened_by}
use Rattle.serve_model.specs.Names.{Under}
use Rattle.serve_model.specs.Order.{HasNoClose, IsHandledByOwner, IsOwn, is_cut_of}
use Rattle.serve_model.proofs.Counts.{one_opener, opened_more}
use Rattle.serve_model.proofs.Names.{all_as, all_two, under_as}

-- more entries take no opening away
pub handled_more : (old more new : List Entry) (x : Entry) → new ≡ more ++ old → IsHandledByOwner old x → IsHandledByOwner new x
handled_more old more new x on h c is = subst (λ l. 0 < opened_by x.who c l) (sym on) (let a = opened_more x.who c more old in let b = h c is in omega (arith, a, b))

pub own_grows : (names : List ℕ) (old more new past : List Entry) → new ≡ more ++ old → Under names (IsHandledByOwner old) past → Under names (IsHandledByOwner new) past
own_grows names old more new past on h = under_as names (IsHandledByOwner old) (IsHandledByOwner new) (λ x k. handled_more old more new x on k) past h

pub own_of_handled : (all : List Entry) (x : Entry) → IsHandledByOwner all x → IsOwn all x
own_of_handled all x h c is = h c (rw is refl)

-- ---- the caller that opened a connection alone handles it

pub opener_alone : (n c : ℕ) (all past : List Entry) → times_opened all c ≤ 1 → 0 < opened_by n c all → AllByRecursion (IsOwn all) past → IsAlone c n past
opener_alone n c all past once mine h = all_as (IsOwn all) (λ x. is_of c x.event ≡ true → x.who ≡ n) (λ x own is. one_opener x.who n c all once (own c is) mine) past h

held_by : (n c : ℕ) (all : List Entry) (x : Entry) → times_opened all c ≤ 1 → 0 < opened_by n c all → IsHandledByOwner all x → asks_close x.event ≡ false → (is_of c x.event || ends c x.event) ≡ true → x.who ≡ n
held_by n c all x once mine own none is = one_opener x.who n c all once (own c (ends_by x.event none is)) mine
  where
    ends_by : (e : Event) → asks_close e ≡ false → (is_of c e || ends c e) ≡ true → (is_of c e || is_cut_of c e) ≡ true
    ends_by (event.Cut conn) none is = is
    ends_by (event.Draw conn room) none is = rw none at is
    ends_by (event.Came conn f) none is = rw none at is
    ends_by (event.Bad conn rule) none is = rw none at is
    ends_by e none is = absurd (cc)

pub opener_holds : (n c : ℕ) (all past : List Entry) → times_opened all c ≤ 1 → 0 < opened_by n c all → AllByRecursion (IsHandledByOwner all) past → HasNoClose past → IsHeld c n past
opener_holds n c all past once mine own none = all_two (IsHandledByOwner all) (λ x. asks_close x.event ≡ false) (λ x. (is_of c x.event || ends c x.event) ≡ true → x.who ≡ n)
    (λ x h k is. held_by n c all x once mine h k is) past own none
