-- What callers know of their own entries goes on while they are taken in.
use Rattle.std.proofs.lemmas.Bool.Decides.{nat_tests}
use Rattle.std.proofs.Common.{◌≡◌, ◌<◌, ◌∙◌, ℕ, zero, suc, Bool, true, false, List, [], ◌∷◌, ◌++◌, Option, Some, refl, sym, ap, subst, arith}
use Rattle.rs_wire.specs.declared.call.Call.{Call}
use Rattle.rs_wire.specs.declared.settings.Settings.{Settings}
use Rattle.outside.specs.Links.{Shown}
use Rattle.tape.specs.Answers.{leaves}
use Rattle.tape.specs.Told.{entry_of}
use Rattle.tape.specs.declared.answer.Answer.{Answer}
use Rattle.tape.specs.declared.entry.Entry.{Entry}
use Rattle.tape.specs.declared.event.Event.{Event}
use Rattle.tape.specs.declared.event.Event.TheVariants as event
use Rattle.conn_lock.specs.Callers.{IsOthers, calls, times}
use Rattle.conn_shared.specs.Calls.{IsCalled}
use Rattle.conn_shared.specs.Lines.{who_of}
use Rattle.conn_shared.specs.Members.{Follows, Knowledge}
use Rattle.handlers.specs.Listed.{Listed}
use Rattle.workers.specs.Courses.{Asks, IsNoWork, IsWorkersCall, WorksOn}
use Rattle.workers.specs.Serving.{Serving}
use Rattle.workers.proofs.Calling.{not_mine}
use Rattle.workers.proofs.Waiting.{serving_waits}
use Rattle.link_laws.specs.Staying.{asks_close}
use Rattle.serve_model.specs.Names.{AreNamed, GoesOnBy, Under}
use Rattle.serve_model.specs.Order.{IsHandledByOwner, is_opening}
use Rattle.serve_model.proofs.Names.{goes_as, times_append, under_as, under_joined, under_on}
use Rattle.serve_model.proofs.Owners.{own_grows}
use Rattle.serve_laws.specs.Knowing.{IsEndingEvent, IsWorkersEvent, KnowsAt, KnowsOwn, KnowsWork}
use Rattle.serve_laws.specs.Tapes.{IsOfLink, IsServersEvent, number_at}
use Rattle.serve_laws.proofs.Events.{one_name, workers_end}

-- ---- entries of others

fewer : (names : List ℕ) (x : Entry) (others : List Entry) → IsOthers who_of names (x ∷ others) → IsOthers who_of names others
fewer names x others none n some = let h = none n some in omega (arith, h)

pub under_others : (P : Entry → Type 0) (names : List ℕ) (others : List Entry) → IsOthers who_of names others → Under names P others
under_others P names [] none = tt
under_others P names (x ∷ others) none = (λ some. absurd (not_mine names x others none some), under_others P names others (fewer names x others none))

pub others_go_on : (P : Entry → Type 0) (names : List ℕ) (old new : List Entry) → Follows names old new → GoesOnBy names P old new
others_go_on P names old new follows = record { more = follows.0; on = follows.1; own = under_others P names follows.0 follows.2 }

-- ---- an own call

pub call_goes : (P : Event → Type 0) (g : Settings) (me : Knowledge) (e : Event) (a : Answer) (new : List Entry) → P e → IsCalled g me e a new → GoesOnBy me.names (λ x. P x.event) me.front new
call_goes P g me e a new is called = by (leaves a) refl
  where
    more : List Entry
    more = called.follows.0

    others : Under me.names (λ x. P x.event) more
    others = under_others (λ x. P x.event) me.names more called.follows.2

    by : (b : Bool) → leaves a ≡ b → GoesOnBy me.names (λ x. P x.event) me.front new
    by true left = record {
      more = entry_of me.number e a ∷ more;
      on = called.step.after ∙ rw left (ap (λ (l : List Entry). entry_of me.number e a ∷ l) called.follows.1);
      own = (λ some. is, others);
    }
    by false left = record { more = more; on = called.step.after ∙ rw left called.follows.1; own = others }

asks_works : (e : Event) → Asks IsWorkersCall e → IsWorkersEvent e
asks_works (event.Asked asked) works = works
asks_works e works = absurd works

pub works_go : (names : List ℕ) (number : ℕ) (old new : List Entry) → WorksOn names number old new → GoesOnBy names (λ x. IsWorkersEvent x.event) old new
works_go names number old new works = record {
  more = works.more;
  on = works.on;
  own = under_as names (λ x. (x.who ≡ number) × Asks IsWorkersCall x.event) (λ x. IsWorkersEvent x.event) (λ x h. asks_works x.event h.1) works.more works.own;
}

pub works_end : (names : List ℕ) (number : ℕ) (old new : List Entry) → WorksOn names number old new → GoesOnBy names (λ x. IsEndingEvent x.event) old new
works_end names number old new works = goes_as names (λ x. IsWorkersEvent x.event) (λ x. IsEndingEvent x.event) old new (λ x h. workers_end x.event h) (works_go names number old new works)

-- ---- the callers of the links

pub own_follows : (moments : Option (List ℕ)) (lease : Option Call) (rows : List (List ℕ)) (i : ℕ) (names : List ℕ) (old new : List Entry) → Follows names old new
    → KnowsOwn moments lease rows i names old → KnowsOwn moments lease rows i names new
own_follows moments lease rows i names old new follows knows = record {
  kinds = under_on names (λ x. IsServersEvent moments lease x.event) old new (others_go_on (λ x. IsServersEvent moments lease x.event) names old new follows) knows.kinds;
  no_close = under_on names (λ x. asks_close x.event ≡ false) old new (others_go_on (λ x. asks_close x.event ≡ false) names old new follows) knows.no_close;
  handled = under_on names (IsHandledByOwner new) old new (others_go_on (IsHandledByOwner new) names old new follows) (own_grows names old follows.0 new old follows.1 knows.handled);
  opened = under_on names (λ x. is_opening x.event ≡ true → IsOfLink rows i x.who) old new (others_go_on (λ x. is_opening x.event ≡ true → IsOfLink rows i x.who) names old new follows) knows.opened;
}

pub own_joined : (moments : Option (List ℕ)) (lease : Option Call) (rows : List (List ℕ)) (i : ℕ) (a b : List ℕ) (x y list : List Entry) → Follows a x list → Follows b y list
    → KnowsOwn moments lease rows i a x → KnowsOwn moments lease rows i b y → KnowsOwn moments lease rows i (a ++ b) list
own_joined moments lease rows i a b x y list first second one two =
    let h = own_follows moments lease rows i a x list first one in
    let k = own_follows moments lease rows i b y list second two in
    record {
      kinds = under_joined a b (λ x. IsServersEvent moments lease x.event) list h.kinds k.kinds;
      no_close = under_joined a b (λ x. asks_close x.event ≡ false) list h.no_close k.no_close;
      handled = under_joined a b (IsHandledByOwner list) list h.handled k.handled;
      opened = under_joined a b (λ x. is_opening x.event ≡ true → IsOfLink rows i x.who) list h.opened k.opened;
    }

-- a caller that did nothing
pub own_new : (moments : Option (List ℕ)) (lease : Option Call) (rows : List (List ℕ)) (i : ℕ) (names : List ℕ) (front : List Entry) → IsOthers who_of names front → KnowsOwn moments lease rows i names front
own_new moments lease rows i names front none = record {
  kinds = under_others (λ x. IsServersEvent moments lease x.event) names front none;
  no_close = under_others (λ x. asks_close x.event ≡ false) names front none;
  handled = under_others (IsHandledByOwner front) names front none;
  opened = under_others (λ x. is_opening x.event ≡ true → IsOfLink rows i x.who) names front none;
}

-- a link's caller
pub own_of : (g : Settings) (moments : Option (List ℕ)) (lease : Option Call) (fronts : List (List Entry)) (rows : List (List ℕ)) (k i n : ℕ) (front : List Entry) (link : Shown) → number_at rows k i ≡ Some n
    → KnowsAt g moments lease fronts k i n front link → KnowsOwn moments lease rows i (n ∷ []) front
own_of g moments lease fronts rows k i n front link is knows = record {
  kinds = knows.kinds;
  no_close = knows.no_close;
  handled = knows.handled;
  opened = opened front;
}
  where
    opened : (past : List Entry) → Under (n ∷ []) (λ x. is_opening x.event ≡ true → IsOfLink rows i x.who) past
    opened [] = tt
    opened (x ∷ past) = (λ some opens. (k, is ∙ ap Some (sym (one_name n x.who some))), opened past)

-- ---- workers

pub work_none : (routes : List Listed) (front : List Entry) → KnowsWork routes [] front
work_none routes front = record { works = none front; served = λ m some. absurd (omega (arith, some)) }
  where
    none : (past : List Entry) → Under [] (λ x. IsWorkersEvent x.event) past
    none [] = tt
    none (x ∷ past) = (λ some. absurd (omega (arith, some)), none past)

work_follows : (routes : List Listed) (names : List ℕ) (old new : List Entry) → Follows names old new → KnowsWork routes names old → KnowsWork routes names new
work_follows routes names old new follows knows = record {
  works = under_on names (λ x. IsWorkersEvent x.event) old new (others_go_on (λ x. IsWorkersEvent x.event) names old new follows) knows.works;
  served = λ m some. subst (λ l. Serving (m ∷ []) l routes []) (sym follows.1)
      (serving_waits (m ∷ []) old follows.0 routes [] (under_others (λ x. IsNoWork x.event) (m ∷ []) follows.0 (λ n is. follows.2 n (rw (one_name m n is) some))) (knows.served m some));
}

pub work_joined : (routes : List Listed) (a b : List ℕ) (x y list : List Entry) → Follows a x list → Follows b y list → KnowsWork routes a x → KnowsWork routes b y → KnowsWork routes (a ++ b) list
work_joined routes a b x y list first second one two =
    let h = work_follows routes a x list first one in
    let k = work_follows routes b y list second two in
    record {
      works = under_joined a b (λ x. IsWorkersEvent x.event) list h.works k.works;
      served = λ m some. by m (times m a) refl some h k;
    }
  where
    by : (m n : ℕ) → times m a ≡ n → 0 < times m (a ++ b) → KnowsWork routes a list → KnowsWork routes b list → Serving (m ∷ []) list routes []
    by m zero none some h k = k.served m (let t = times_append m a b in omega (arith, t, none, some))
    by m (suc n) there some h k = h.served m (omega (arith, there))

-- ---- all of them

named_all : (names : List ℕ) (past : List Entry) → ((x : ℕ) → times x names ≡ 0 → calls who_of x past ≡ 0) → AreNamed names past
named_all names [] named = tt
named_all names (x ∷ past) named = (
  by (times x.who names) refl,
  named_all names past (λ n none. let h = named n none in omega (arith, h)),
)
  where
    by : (n : ℕ) → times x.who names ≡ n → 0 < times x.who names
    by zero none = absurd (let h = named x.who none in grind (arith, nat_tests))
    by (suc n) some = omega (arith, some)

pub are_named : (names : List ℕ) (past : List Entry) → ((x : ℕ) → times x names ≡ 0 → calls who_of x past ≡ 0) → AreNamed names past
are_named names past named = named_all names past named
