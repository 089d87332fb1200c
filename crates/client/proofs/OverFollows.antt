-- What follows from a step of a call, where its caller is alone.
use Rattle.std.proofs.lemmas.Bool.Decides.{nat_tests}
use Rattle.std.proofs.lemmas.Grind.{common_steps}
use Rattle.std.proofs.lemmas.List.{length-append}
use Rattle.std.proofs.Common.{◌≡◌, ◌≢◌, ◌<◌, ◌≤◌, ◌+◌, ◌-◌, ◌^◌, ◌⊎◌, inl, inr, ◌∙◌, ℕ, Bool, true, false, true≢false, List, [], ◌∷◌, ◌++◌, length, Option, Some, None, IsSome, append-nil, append_assoc, refl, sym, ap, subst, arith}
use Rattle.rs_wire.specs.declared.words.Kind.{Kind}
use Rattle.rs_wire.specs.declared.words.Kind.TheVariants as kind
use Rattle.rs_wire.specs.declared.fault.Cause.{Cause}
use Rattle.rs_wire.specs.declared.settings.Settings.{Settings}
use Rattle.outside.specs.Links.{Shown, and_then_one}
use Rattle.tape.specs.Answers.{leaves}
use Rattle.tape.specs.Told.{entry_of}
use Rattle.tape.specs.declared.event.Event.{Event}
use Rattle.tape.specs.declared.event.Event.TheVariants as event
use Rattle.tape.specs.declared.answer.Answer.{Answer}
use Rattle.tape.specs.declared.answer.Answer.TheVariants as answer
use Rattle.tape.specs.declared.entry.Entry.{Entry}
use Rattle.session_core.specs.Seen.{IsOrOutOfMemory}
use Rattle.session_model.specs.Answers.{answer_to, facts}
use Rattle.session_model.specs.Life.{closed, is_live, live, live_after, openings}
use Rattle.session_model.specs.Legal.{Legal}
use Rattle.session_laws.specs.Streams.{IsLawful}
use Rattle.conn_shared.specs.Members.{Continues, Knowledge}
use Rattle.link_model.specs.Carrying.{Between, Carried}
use Rattle.link_model.specs.Leaving.{IsBroken, Left}
use Rattle.pump.specs.declared.turned.Turned.{Turned}
use Rattle.pump.specs.declared.turned.Turned.TheVariants as turned
use Rattle.call_model.specs.Leaving.{AreCarried, AreLeft, AreTimely, HaveLulled, HaveTried, NoTryLeft, one_if}
use Rattle.call_model.specs.Timing.{HasFewTicks, ticks_on}
use Rattle.pump.specs.Turns.{IsEmptied, is_early, is_last}
use Rattle.call_model.specs.Order.{Asking, InOrder}
use Rattle.call_model.specs.Standing.{IsPaid, Stands}
use Rattle.call_model.specs.Present.{IsServed}
use Rattle.call_model.specs.Ran.{HasPlace, IsTakenWhole}
use Rattle.stream_model.specs.Turns.{is_fnf}
use Rattle.call_model.proofs.Fnf.{taken_fnf}
use Rattle.call_model.specs.Saying.{GoesOnOf, HasNotEnded, has_end, started}
use Rattle.call_model.proofs.Ending.{cut_says_none, delivered_same}
use Rattle.call_model.proofs.Links.{are_timely_more, carried_and_one, few_on, lulled_less, lulled_next, ticks_none, timely_and_one, tried_once, tried_out}
use Rattle.call_model.proofs.Ordering.{started_same}
use Rattle.client.specs.Alone.{IsOwn}
use Rattle.client.specs.Answered.{Cuts}
use Rattle.client.specs.Calling.{EndsBy, GoesFrom, GoesOn, HasEndedBy, IsUnderWay, Owns, StepsTo, StopsFrom, is_finished}
use Rattle.client.specs.Clients.{ClientSeen, PartsFrom, on, refused_for, and_back}
use Rattle.client.specs.Counting.{HasCounted, HasTried, HasUsedUp, IsCounted, IsSureToMove, tries_of}
use Rattle.client.specs.Elsewhere.{FollowsSo, GoesElsewhere, LeavesSo}
use Rattle.client.specs.Takes.{HasPrinted, IsTakenIn}
use Rattle.client.specs.Turning.{HasStepped, IsReady}
use Rattle.client.specs.declared.called.Called.{Called}
use Rattle.client.specs.declared.called.Called.TheVariants as called
use Rattle.client.specs.declared.calling.Calling.{Calling}
use Rattle.client.proofs.Alone.{Adds, IsSame, own_call, own_follows, own_lawful}
use Rattle.client.proofs.OverCounts.{Goes-on, adds_no_tick, adds_tick, all_timely, goes_on, none_long, none_whole}
use Rattle.client.proofs.OverLinks.{Parts, Reopened, adds_openings, cut_on, open_on, tick_on}
use Rattle.client.proofs.OverRuns.{closed_for, finished_here, goes_here, full_here, stepped_carried, stepped_left, still_goes, stops_here}

-- ---- the end of a call has not come over a cut

cut_is : (g : Settings) (past : List Entry) (c : ℕ) → (answer_to g past (event.Cut c) ≡ answer.Parted) ⊎ ((answer_to g past (event.Cut c) ≡ answer.Stale (live past)) × (is_live (live past) c ≡ false))
unfolding facts
cut_is g past c = by (is_live (live past) c) refl
  where
    by : (b : Bool) → is_live (live past) c ≡ b → (answer_to g past (event.Cut c) ≡ answer.Parted) ⊎ ((answer_to g past (event.Cut c) ≡ answer.Stale (live past)) × (is_live (live past) c ≡ false))
    by true is = inl (rw is refl)
    by false is = inr (rw is refl, is)

right_is : (a right : Answer) → leaves a ≡ true → IsOrOutOfMemory a right → a ≡ right
right_is answer.TapeFull right some is = absurd (true≢false (sym some))
right_is answer.OutOfMemory right some is = absurd (true≢false (sym some))
right_is _ right some is = is

-- after it the connection is not live
cut_off : (g : Settings) (past : List Entry) (n c : ℕ) (a : Answer) → 0 < c → leaves a ≡ true → IsOrOutOfMemory a (answer_to g past (event.Cut c)) → live (entry_of n (event.Cut c) a ∷ past) ≢ c
unfolding live
cut_off g past n c a some left right here = elim (cut_is g past c) [
  | inl parted ↦ (let is : a ≡ answer.Parted = right_is a (answer_to g past (event.Cut c)) left right ∙ parted in let zero : 0 ≡ c = sym (ap (λ x. live_after x (live past)) is) ∙ here in omega (arith, zero, some))
  | inr stale ↦ (let is : a ≡ answer.Stale (live past) = right_is a (answer_to g past (event.Cut c)) left right ∙ stale.0 in
      let same : live past ≡ c = sym (ap (λ x. live_after x (live past)) is) ∙ here in
      let on : is_live (live past) c ≡ true = grind (arith, nat_tests, common_steps) in true≢false (sym on ∙ stale.1))
]

cut_goes : (k : Kind) (g : Settings) (past : List Entry) (link : Shown) (n c : ℕ) (a : Answer) → 0 < c → Legal g (entry_of n (event.Cut c) a ∷ past) → leaves a ≡ true → IsOrOutOfMemory a (answer_to g past (event.Cut c)) → HasNotEnded k g past link c → HasNotEnded k g (entry_of n (event.Cut c) a ∷ past) link c
cut_goes k g past link n c a some legal left right h =
    subst (GoesOnOf k g x_past link c) (sym (started_same g past x legal refl)) (by (started past) h)
  where
    x : Entry
    x = entry_of n (event.Cut c) a

    x_past : List Entry
    x_past = x ∷ past

    one : (k : Kind) (s : ℕ) → GoesOnOf k g past link c (Some s) → GoesOnOf k g x_past link c (Some s)
    one kind.Fnf s h = inl (cut_off g past n c a some left right)
    one _ s h = ap has_end (delivered_same g past x s (cut_says_none a c)) ∙ h

    by : (o : Option ℕ) → GoesOnOf k g past link c o → GoesOnOf k g x_past link c o
    by None h = tt
    by (Some s) h = one k s h

-- ---- another link

parts_of : (w : Asking) (moments : Option (List ℕ)) (g : Settings) (past new : List Entry) (s t : Shown) (first conn : ℕ) (b d : Between) (stream : Option ℕ) (fresh : ℕ) (full : Bool) (r : Turned) (out out' : List ℕ) (links : List Shown)
    → 0 < first → conn ≡ first + length links → IsLawful g new → IsServed g past s conn b full → (HasPlace past → AreCarried g past first links) → (HasPlace past → AreLeft g past first links) → HasStepped w moments g past new t conn d stream fresh full r false out out' → (HasPlace new → Left g new t conn)
    → Parts w moments g new new first conn links t stream fresh
parts_of w moments g past new s t first conn b d stream fresh full r out out' links some at lawful served carried left h left_t =
    let last = h.served.joined.last in
    record {
      stands = h.stands;
      unended = h.ends.0;
      paid = h.paid;
      whole = λ place. (h.ends.1 place).1;
      same = refl;
      last = omega (arith, last);
      carried = λ place. both_of g new first conn links t at (stepped_carried w moments g past new s t first conn b d stream fresh full r false out out' links some at served carried h place);
      left = λ place. (stepped_left w moments g past new s t first conn b d stream fresh full r false out out' links some at lawful served left h place, left_t place);
    }
  where
    both_of : (g : Settings) (past : List Entry) (c conn : ℕ) (links : List Shown) (last : Shown) → conn ≡ c + length links → AreCarried g past c (links ++ last ∷ []) → AreCarried g past c links × Carried g past last conn
    both_of g past c conn [] last at h = (tt, subst (Carried g past last) (sym (at ∙ omega arith)) h.0)
    both_of g past c conn (l ∷ links) last at h = let rest = both_of g past (c + 1) conn links last (omega (arith, at)) h.1 in ((h.0, rest.0), rest.1)

adds_place : (me : Knowledge) (e : Event) (a : Answer) (new : List Entry) → Adds me e a new → HasPlace new → HasPlace me.front
adds_place me e a new adds place = elim adds.came [
  | inl none ↦ subst HasPlace none.1 place
  | inr some ↦ some.2
]

-- what was opened had a place before it
open_place : (me : Knowledge) (n : ℕ) (new : List Entry) → Adds me (event.Open None false) (answer.Opened n) new → HasPlace me.front
open_place me n new adds = elim adds.came [
  | inl none ↦ absurd (true≢false none.0)
  | inr some ↦ some.2
]

-- the cut, of its own
pub parted_own : (w : Asking) (moments : Option (List ℕ)) (was now : Knowledge) (start : List Entry) (t : Shown) (first conn : ℕ) (links : List Shown) (stream : Option ℕ) (fresh : ℕ) → IsSame was now → Cuts was conn now.front → IsOwn now → IsOwn was × ((a : Answer) × Adds was (event.Cut conn) a now.front)
    × (0 < first → first + length links ≡ conn → Parts w moments was.of.settings start was.front first conn links t stream fresh → Parts w moments was.of.settings start now.front first conn links t stream fresh)
parted_own w moments was now start t first conn links stream fresh same cuts own =
    let h = own_call was.of.settings was now (event.Cut conn) cuts.answer refl same cuts.called own in
    (h.0, (cuts.answer, h.1), λ some at p. cut_on w moments start was now.front first conn conn links t stream fresh cuts.answer some at (own_lawful was now same own) h.1 p)

adds_continues : (me : Knowledge) (e : Event) (a : Answer) (new : List Entry) → Adds me e a new → Continues me.front new
adds_continues me e a new adds = elim adds.came [
  | inl none ↦ ([], none.1)
  | inr some ↦ (entry_of me.number e a ∷ [], some.1)
]

continues_both : (old mid new : List Entry) → Continues old mid → Continues mid new → Continues old new
continues_both old mid new a b = (b.0 ++ a.0, b.1 ∙ (ap (λ (l : List Entry). b.0 ++ l) a.1 ∙ sym (append_assoc b.0 a.0 old)))

-- what a step over another link comes to
pub record Went (w : Asking) (moments : Option (List ℕ)) (was : Knowledge) (now : List Entry) (t : Shown) (first conn number : ℕ) (links : List Shown) (next : Shown) (most : ℕ) (stream : Option ℕ) (fresh : ℕ) : Type 0 where
  pub place : HasPlace was.front
  pub more : Continues was.front now
  pub ticks : ticks_on now conn ≤ ticks_on was.front conn + 1
  pub none : ticks_on now number ≡ 0
  pub again : Reopened w moments was.of.settings was.front now first conn number links t next most stream fresh

pub went : (w : Asking) (moments : Option (List ℕ)) (c1 c2 : ClientSeen) (pump : Between) (back back' : Option (List Shown)) (t : Shown) (first : ℕ) (links : List Shown) (stream : Option ℕ) (fresh most : ℕ) → IsSame c1.caller c2.caller → c1.link ≡ Some t → (x : GoesElsewhere moments c1 c2 pump back back') → IsOwn c2.caller
    → IsOwn c1.caller × (0 < first → first + length links ≡ c1.conn → openings c1.caller.front ≡ c1.conn → Parts w moments c1.caller.of.settings c1.caller.front c1.caller.front first c1.conn links t stream fresh
    → Went w moments c1.caller c2.caller.front t first c1.conn c2.conn links x.changes.link most stream fresh)
went w moments c1 c2 pump back back' t first links stream fresh most same has x own = (
  l.0,
  λ some at last p. (
      let p0 = subst (λ (e : List Entry). Parts w moments g start e first c1.conn links t stream fresh) (sym l.1) p in
      let p1 = cut.2 some at p0 in
      let p2 = tick_on w moments start kp x.changes.opens.ticked first c1.conn x.changes.opens.now links t stream fresh ticked.1.0 some at x.changes.opens.moment ticked.1.1 tk_own.lawful ticked.1.2 p1 in
      let o1 : openings kp.front ≡ openings kl.front = adds_openings kl (event.Cut c1.conn) cut.1.0 kp.front refl cut.1.1 in
      let o2 : openings kt.front ≡ openings kp.front = adds_openings kp (event.Tick x.changes.opens.now) ticked.1.0 kt.front refl ticked.1.2 in
      let o0 : openings kl.front ≡ openings start = ap openings l.1 in
      let opened = open_on w moments start kt c2.caller.front first c1.conn c2.conn links t x.changes.link most stream fresh some at x.changes.new_link (own_lawful kt c2.caller same own) opens.1 p2.1 (o2 ∙ (o1 ∙ (o0 ∙ last))) p2.0 in
      record {
        place = subst HasPlace l.1 (adds_place kl (event.Cut c1.conn) cut.1.0 kp.front cut.1.1 (adds_place kp (event.Tick x.changes.opens.now) ticked.1.0 kt.front ticked.1.2 (open_place kt c2.conn c2.caller.front opens.1)));
        more = continues_both start kl.front c2.caller.front ([], l.1)
            (continues_both kl.front kp.front c2.caller.front (adds_continues kl (event.Cut c1.conn) cut.1.0 kp.front cut.1.1)
            (continues_both kp.front kt.front c2.caller.front (adds_continues kp (event.Tick x.changes.opens.now) ticked.1.0 kt.front ticked.1.2) (adds_continues kt (event.Open None false) (answer.Opened c2.conn) c2.caller.front opens.1)));
        ticks = (
            let a = ap (λ (e : List Entry). ticks_on e c1.conn) l.1 in
            let b = adds_no_tick kl (event.Cut c1.conn) cut.1.0 kp.front c1.conn refl cut.1.1 in
            let d = adds_tick kp (event.Tick x.changes.opens.now) ticked.1.0 kt.front c1.conn ticked.1.2 in
            let e = adds_no_tick kt (event.Open None false) (answer.Opened c2.conn) c2.caller.front c1.conn refl opens.1 in
            omega (arith, a, b, d, e)
            );
        none = (
            let count = length-append links (t ∷ []) in
            let is = opened.number_is in
            let none = ticks_none kt.front c2.conn (omega (arith, count, is, at, o0, o1, o2, last)) in
            adds_no_tick kt (event.Open None false) (answer.Opened c2.conn) c2.caller.front c2.conn refl opens.1 ∙ none
            );
        again = opened;
      }),
)
  where
    g : Settings
    g = c1.caller.of.settings

    start : List Entry
    start = c1.caller.front

    kl : Knowledge
    kl = on c1.caller x.looked

    kp : Knowledge
    kp = on c1.caller x.changes.parted

    kt : Knowledge
    kt = on c1.caller x.changes.opens.ticked

    opens : IsOwn kt × Adds kt (event.Open None false) (answer.Opened c2.conn) c2.caller.front
    opens = own_call g kt c2.caller (event.Open None false) (answer.Opened c2.conn) refl same x.changes.opens.opens own

    tk_own : IsOwn kt
    tk_own = opens.0

    ticked : IsOwn kp × ((a : Answer) × (a ≢ answer.OutOfMemory) × Adds kp (event.Tick x.changes.opens.now) a kt.front)
    ticked = let h = own_call g kp kt (event.Tick x.changes.opens.now) x.changes.opens.tick.answer refl refl x.changes.opens.tick.called opens.0 in (h.0, (x.changes.opens.tick.answer, x.changes.opens.tick.had refl, h.1))

    cuts : Cuts kl c1.conn kp.front
    cuts = subst (λ (o : Option Shown). PartsFrom o c1.conn kl kp.front) has x.changes.parts

    cut : IsOwn kl × ((a : Answer) × Adds kl (event.Cut c1.conn) a kp.front) × (0 < first → first + length links ≡ c1.conn → Parts w moments g start kl.front first c1.conn links t stream fresh → Parts w moments g start kp.front first c1.conn links t stream fresh)
    cut = parted_own w moments kl kp start t first c1.conn links stream fresh refl cuts ticked.0

    l : IsOwn c1.caller × (kl.front ≡ c1.caller.front)
    l = own_follows c1.caller kl refl x.follows cut.0

-- the call goes on over it
goes_there : (w : Asking) (moments : Option (List ℕ)) (base faults faults' : ℕ) (past : List Entry) (was : Knowledge) (new : List Entry) (t next : Shown) (first conn number most : ℕ) (shown : Option Shown) (k k1 k2 : Calling) (r : Turned) (out out' : List ℕ) (links : List Shown) (back back' : Option (List Shown))
    → back' ≡ and_then_one back t → IsUnderWay w moments base faults first was.of.settings past conn shown k links → HasStepped w moments was.of.settings past was.front t conn k1.pump k1.stream k1.fresh k.full r false out out' → k1.request ≡ k.request → k1.full ≡ k.full → k2 ≡ record k1 { pump = k2.pump; tried = k2.tried }
    → k2.pump ≡ record { conn = number; left = []; rest = []; max_in = most; bad = false } → Went w moments was new t first conn number links next most k1.stream k1.fresh → IsCounted base faults' first was.of.settings new number next k2 (links ++ t ∷ [])
    → GoesFrom w moments base faults' first was.of.settings past new number (Some next) k2 links back back' out out'
goes_there w moments base faults faults' past was new t next first conn number most shown k k1 k2 r out out' links back back' got u h request full same pump v counted = by k.full refl h.served
  where
    g : Settings
    g = was.of.settings

    a : Reopened w moments g was.front new first conn number links t next most k1.stream k1.fresh
    a = v.again

    by : (f : Bool) → k.full ≡ f → IsServed g was.front t conn k1.pump k.full → GoesFrom w moments base faults' first g past new number (Some next) k2 links back back' out out'
    by true is served = absurd (let no = served.place is in let place = v.place in omega (arith, no, place))
    by false is served = record {
      more = t ∷ [];
      got = got;
      under_way = record {
        request = ap (λ (x : Calling). x.request) same ∙ (request ∙ u.request);
        link = next;
        has = refl;
        at = ap (λ (x : Between). x.conn) pump;
        ready = record {
          some = u.ready.some;
          stands = subst (λ (x : Calling). Stands w moments new x.stream x.fresh) (sym same) a.stands;
          unended = a.unended;
          paid = subst (λ (x : Calling). IsPaid new x.stream) (sym same) a.paid;
          served = subst (λ f. IsServed g new next number k2.pump f) (sym (ap (λ (x : Calling). x.full) same ∙ (full ∙ is))) (subst (λ (b : Between). IsServed g new next number b false) (sym pump) a.served);
          still = λ place. a.still;
          whole = a.whole;
        };
        some = u.some;
        number = a.number_is;
        carried = a.carried;
        left = a.left;
        counted = counted;
      };
      prints = record { more = h.prints.more; printed = h.prints.printed; says = a.same ∙ h.prints.says };
    }

-- or its link was put back, and no other is there
goes_nowhere : (w : Asking) (moments : Option (List ℕ)) (lulls tries base faults' : ℕ) (past : List Entry) (was now : Knowledge) (t : Shown) (first conn : ℕ) (stream : Option ℕ) (fresh : ℕ) (out out' : List ℕ) (links : List Shown) (back back' : Option (List Shown)) (a : Answer) → back' ≡ and_then_one back t → 0 < first → conn ≡ first + length links → IsLawful was.of.settings now.front
    → Adds was (event.Cut conn) a now.front → HasPrinted w.kind false past was.front out out' → (HasPlace was.front → HasNotEnded w.kind was.of.settings was.front t conn) → Parts w moments was.of.settings was.front now.front first conn links t stream fresh
    → openings was.front ≡ conn → AreTimely was.front first links → HasFewTicks 1 was.front t conn → NoTryLeft tries base faults' (links ++ t ∷ [])
    → StopsFrom called.Net w moments lulls tries base faults' first was.of.settings past now.front None links back back' out out'
goes_nowhere w moments lulls tries base faults' past was now t first conn stream fresh out out' links back back' a got some at lawful adds prints goes p last timely few used = record {
  more = [];
  last = t;
  got = inr (refl, got);
  number = conn;
  ended = subst (λ ls. HasEndedBy called.Net w moments lulls tries base faults' first conn g past now.front ls t out out') (sym (append-nil links)) (record {
    order = p.stands.order;
    timed = p.stands.timed;
    number = at;
    opened = adds_openings was (event.Cut conn) a now.front refl adds ∙ last;
    carried = λ place. (let c = p.carried place in carried_and_one g now.front first links t c.0 (subst (Carried g now.front t) at c.1));
    left = λ place. (p.left place).0;
    prints = record { more = prints.more; printed = prints.printed; says = p.same ∙ prints.says };
    why = (λ place. (p.left place).1, not_ended adds.came);
    timely = (
        let cut = adds_continues was (event.Cut conn) a now.front adds in
        let olds : AreTimely now.front first links = subst (λ (l : List Entry). AreTimely l first links) (sym cut.1) (are_timely_more cut.0 was.front conn first links (omega (arith, at)) (omega (arith, last)) timely) in
        let same = adds_no_tick was (event.Cut conn) a now.front conn refl adds in
        timely_and_one now.front first links t olds (subst (λ n. HasFewTicks 2 now.front t n) at (few_on 1 1 was.front now.front t conn (omega (arith, same)) few))
        );
    used_up = used;
  });
}
  where
    g : Settings
    g = was.of.settings

    not_ended : ((leaves a ≡ false) × (now.front ≡ was.front)) ⊎ ((leaves a ≡ true) × (now.front ≡ entry_of was.number (event.Cut conn) a ∷ was.front) × HasPlace was.front) → GoesOn w.kind g now.front t conn
    not_ended (inl none) place = subst (λ (e : List Entry). HasNotEnded w.kind g e t conn) (sym none.1) (goes (subst HasPlace none.1 place))
    not_ended (inr more) place = subst (λ (e : List Entry). HasNotEnded w.kind g e t conn) (sym more.1)
        (cut_goes w.kind g was.front t was.number conn a (omega (arith, at, some)) (subst (Legal g) more.1 lawful.legal) more.0 adds.step.answered (goes more.2))

-- what is taken in is taken whole
whole_of : (w : Asking) (g : Settings) (past : List Entry) → IsLawful g past → InOrder w past → IsTakenIn w.kind g past → IsTakenWhole g past (started past)
whole_of w g past lawful order h = by w.kind refl h (started past) refl
  where
    by : (k : Kind) → w.kind ≡ k → IsTakenIn k g past → (o : Option ℕ) → started past ≡ o → IsTakenWhole g past o
    by k is h None none = tt
    by kind.Fnf is h (Some s) on = taken_fnf g w past s lawful order (ap is_fnf is) on
    by _ is h (Some s) on = h s on

-- ---- by the result of the turn

same_goes : (w : Asking) (moments : Option (List ℕ)) (base faults' first : ℕ) (g : Settings) (past : List Entry) (c1 c2 : ClientSeen) (k1 k2 : Calling) (links : List Shown) (back back' : Option (List Shown)) (out out' : List ℕ) → c2 ≡ c1 → k2 ≡ k1 → back' ≡ back
    → GoesFrom w moments base faults' first g past c1.caller.front c1.conn c1.link k1 links back back out out' → GoesFrom w moments base faults' first g past c2.caller.front c2.conn c2.link k2 links back back' out out'
same_goes w moments base faults' first g past c1 c2 k1 k2 links back back' out out' a b d h =
    subst (λ (z : Option (List Shown)). GoesFrom w moments base faults' first g past c2.caller.front c2.conn c2.link k2 links back z out out') (sym d)
    (subst (λ (c : ClientSeen). GoesFrom w moments base faults' first g past c.caller.front c.conn c.link k2 links back back out out') (sym a)
    (subst (λ (k : Calling). GoesFrom w moments base faults' first g past c1.caller.front c1.conn c1.link k links back back out out') (sym b) h))

same_stops : (r : Called) (w : Asking) (moments : Option (List ℕ)) (lulls tries base faults' first : ℕ) (g : Settings) (past a b : List Entry) (p p' : Option Shown) (links : List Shown) (back back' : Option (List Shown)) (out out' : List ℕ) → b ≡ a → p' ≡ p → back' ≡ back → StopsFrom r w moments lulls tries base faults' first g past a p links back back out out' → StopsFrom r w moments lulls tries base faults' first g past b p' links back back' out out'
same_stops r w moments lulls tries base faults' first g past a b p p' links back back' out out' same q d h =
    subst (λ (z : Option (List Shown)). StopsFrom r w moments lulls tries base faults' first g past b p' links back z out out') (sym d)
    (subst (λ (z : Option Shown). StopsFrom r w moments lulls tries base faults' first g past b z links back back out out') (sym q)
    (subst (λ (e : List Entry). StopsFrom r w moments lulls tries base faults' first g past e p links back back out out') (sym same) h))

-- what a step leaves to be followed
pub record Left-over (w : Asking) (moments : Option (List ℕ)) (base faults first : ℕ) (past : List Entry) (shown : Option Shown) (c1 : ClientSeen) (k k1 : Calling) (r : Turned) (links : List Shown) (out out' : List ℕ) : Type 0 where
  pub t : Shown
  pub has : c1.link ≡ Some t
  pub under_way : IsUnderWay w moments base faults first c1.caller.of.settings past c1.conn shown k links
  pub stepped : HasStepped w moments c1.caller.of.settings past c1.caller.front t c1.conn k1.pump k1.stream k1.fresh k.full r false out out'
  pub request : k1.request ≡ k.request
  pub full : k1.full ≡ k.full
  pub at : k1.pump.conn ≡ c1.conn
  pub same_k : k1 ≡ record k { pump = k1.pump; stream = k1.stream; fresh = k1.fresh }
  pub counts : Goes-on base faults first c1.caller.of.settings c1.caller.front t c1.conn k k1.pump links r

module _ (w : Asking) (moments : Option (List ℕ)) (lulls plan tries base faults faults' first : ℕ) (past : List Entry) (shown : Option Shown) (c1 c2 : ClientSeen) (k k1 k2 : Calling) (links : List Shown) (back back' : Option (List Shown)) (out out' : List ℕ) where
  -- what is shown of a result, after a turn with this one
  abbrev pub Follow : Turned → Option Called → Type 0
  Follow r result = Owns result (IsOwn c1.caller × (Left-over w moments base faults first past shown c1 k k1 r links out out' → StepsTo result w moments lulls tries base faults' first c1.caller.of.settings past c2.caller.front c2.conn c2.link k2 links back back' out out'))

  own_back : c2 ≡ c1 → IsOwn c2.caller → IsOwn c1.caller
  own_back same own = subst (λ (c : ClientSeen). IsOwn c.caller) same own

  front_back : c2 ≡ c1 → c2.caller.front ≡ c1.caller.front
  front_back same = ap (λ (c : ClientSeen). c.caller.front) same

  goes_on_here : (r : Turned) (kn : Calling) → is_early r ≡ false → c2 ≡ c1 → k2 ≡ kn → back' ≡ back → kn.pump ≡ k1.pump → kn.stream ≡ k1.stream → kn.fresh ≡ k1.fresh → kn.request ≡ k1.request → kn.full ≡ k1.full → kn.tried ≡ k1.tried → is_last r ≡ false → faults' ≡ faults → ((l : Left-over w moments base faults first past shown c1 k k1 r links out out') → HaveLulled kn.met (links ++ l.t ∷ [])) → IsOwn c2.caller → Follow r None
  goes_on_here r kn late same same_k got pump stream fresh request full tried going calm met own = (
    own_back same own,
    λ l.
        let lawful = (own_back same own).lawful in
        same_goes w moments base faults' first c1.caller.of.settings past c1 c2 kn k2 links back back' out out' same same_k got
        (subst (λ (o : Option Shown). GoesFrom w moments base faults' first c1.caller.of.settings past c1.caller.front c1.conn o kn links back back out out') (sym l.has)
        (goes_here w moments base faults faults' c1.caller.of.settings past c1.caller.front l.t first c1.conn shown k kn r out out' links back lawful l.under_way
        (subst (λ (b : Between). HasStepped w moments c1.caller.of.settings past c1.caller.front l.t c1.conn b kn.stream kn.fresh k.full r false out out') (sym pump)
        (subst (λ (o : Option ℕ). HasStepped w moments c1.caller.of.settings past c1.caller.front l.t c1.conn k1.pump o kn.fresh k.full r false out out') (sym stream)
        (subst (λ f. HasStepped w moments c1.caller.of.settings past c1.caller.front l.t c1.conn k1.pump k1.stream f k.full r false out out') (sym fresh) l.stepped)))
        (request ∙ l.request) (ap (λ (b : Between). b.conn) pump ∙ l.at) (full ∙ l.full) late (record {
          tried = tried_as l kn.tried (tried ∙ ap (λ (z : Calling). z.tried) l.same_k) calm;
          met = met l;
          timely = l.counts.timely;
          ticks = subst (λ f. HasFewTicks (one_if f) c1.caller.front l.t c1.conn) (sym (full ∙ l.full)) (l.counts.going going);
          sure = λ off. subst (λ (b : Between). IsSureToMove c1.caller.of.settings c1.caller.front b) (sym pump) (l.counts.sure late (sym (full ∙ l.full) ∙ off));
          short = subst (λ (b : Between). b.max_in < 2 ^ 24) (sym pump) l.counts.short;
        }))),
  )
    where
      tried_as : (l : Left-over w moments base faults first past shown c1 k k1 r links out out') (n : ℕ) → n ≡ k.tried → faults' ≡ faults → HaveTried n base faults' links
      tried_as l n is calm = subst (λ f. HaveTried n base f links) (sym calm) (subst (λ m. HaveTried m base faults links) (sym is) l.counts.tried)

  timely_of : (r : Turned) (l : Left-over w moments base faults first past shown c1 k k1 r links out out') → AreTimely c1.caller.front first (links ++ l.t ∷ [])
  timely_of r l = all_timely base faults first c1.caller.of.settings c1.caller.front l.t c1.conn k k1.pump links r l.under_way.number l.counts

  stops_on_here : (r : Turned) (r' : Called) → c2 ≡ c1 → back' ≡ back → IsOwn c2.caller → is_finished r' ≡ false → ((l : Left-over w moments base faults first past shown c1 k k1 r links out out') → EndsBy r' w.kind lulls c1.caller.of.settings c1.caller.front l.t c1.conn) → ((l : Left-over w moments base faults first past shown c1 k k1 r links out out') → HasUsedUp r' tries base faults' (links ++ l.t ∷ []))
      → IsOwn c1.caller × (Left-over w moments base faults first past shown c1 k k1 r links out out' → StopsFrom r' w moments lulls tries base faults' first c1.caller.of.settings past c2.caller.front c2.link links back back' out out')
  stops_on_here r r' same got own off why used = (
    own_back same own,
    λ l.
        same_stops r' w moments lulls tries base faults' first c1.caller.of.settings past c1.caller.front c2.caller.front (Some l.t) c2.link links back back' out out' (front_back same) (ap (λ (c : ClientSeen). c.link) same ∙ l.has) got
        (stops_here r' w moments lulls tries base faults faults' c1.caller.of.settings past c1.caller.front l.t first c1.conn shown k k1.pump k1.stream k1.fresh r false out out' links back (own_back same own).lawful l.under_way l.stepped (sym off) (why l) (timely_of r l) (used l)),
  )

  goes_still : (r : Turned) → (l : Left-over w moments base faults first past shown c1 k k1 r links out out') → GoesOn w.kind c1.caller.of.settings c1.caller.front l.t c1.conn
  goes_still r l = still_goes w moments c1.caller.of.settings past c1.caller.front l.t c1.conn k1.pump k1.stream k1.fresh k.full r out out' l.stepped

  -- by the cause of a closed session
  refused : (r : Turned) (why : Cause) (result : Option Called) → result ≡ Some (refused_for why) → c2 ≡ c1 → back' ≡ back → IsOwn c2.caller → ((l : Left-over w moments base faults first past shown c1 k k1 r links out out') → closed c1.caller.of.settings c1.caller.front ≡ Some why) → Follow r result
  refused r why result is same got own shut = elim (closed_for why (refused_for why) refl) [
    | inl none ↦ subst (Follow r) (sym (is ∙ ap Some none)) tt
    | inr some ↦ subst (Follow r) (sym (is ∙ ap Some some.0)) (stops_on_here r (called.Refused why) same got own refl (λ l. (shut l, some.1, goes_still r l)) (λ l. tt))
  ]

  -- ---- another link

  left-of : (r : Turned) → ((l : Left-over w moments base faults first past shown c1 k k1 r links out out') → HasPlace c1.caller.front → Left c1.caller.of.settings c1.caller.front l.t c1.conn)
      → IsLawful c1.caller.of.settings c1.caller.front → (l : Left-over w moments base faults first past shown c1 k k1 r links out out') → Parts w moments c1.caller.of.settings c1.caller.front c1.caller.front first c1.conn links l.t k1.stream k1.fresh
  left-of r left lawful l = parts_of w moments c1.caller.of.settings past c1.caller.front l.under_way.link l.t first c1.conn k.pump k1.pump k1.stream k1.fresh k.full r out out' links l.under_way.some l.under_way.number lawful l.under_way.ready.served l.under_way.carried l.under_way.left l.stepped (left l)

  used_up : (r : Turned) → ((l : Left-over w moments base faults first past shown c1 k k1 r links out out') → IsBroken l.t) → tries_of c1.of.settings plan ≡ tries → (called.Net ≡ called.Net → HasTried 0 k1.tried k2.tried faults faults' × (tries_of c1.of.settings plan ≤ k2.tried)) → (l : Left-over w moments base faults first past shown c1 k k1 r links out out') → NoTryLeft tries base faults' (links ++ l.t ∷ [])
  used_up r broken used spent l =
      let h = spent refl in
      let most = h.1 in
      let tried : k1.tried ≡ k.tried = ap (λ (z : Calling). z.tried) l.same_k in
      tried_out k.tried k2.tried tries base faults faults' links l.t (broken l) (omega (arith, most, used)) h.0.rose (subst (λ n. (faults + k2.tried ≤ faults' + n + 0) ⊎ (2 ^ 64 - 1 ≤ faults')) tried h.0.used) l.counts.tried

  leaves_so : (r : Turned) (result : Option Called) → IsSame c1.caller c2.caller → ((l : Left-over w moments base faults first past shown c1 k k1 r links out out') → HasPlace c1.caller.front → Left c1.caller.of.settings c1.caller.front l.t c1.conn) → ((l : Left-over w moments base faults first past shown c1 k k1 r links out out') → IsBroken l.t) → tries_of c1.of.settings plan ≡ tries → k1.pump.max_in ≡ c1.of.settings.max_in → LeavesSo moments plan c1 c2 k1 k2 back back' faults faults' result → IsSome c1.link → IsOwn c2.caller → Follow r result
  leaves_so r None same left broken used limit x linked own = there c1.link refl linked
    where
      there : (o : Option Shown) → c1.link ≡ o → IsSome o → Follow r None
      there None is some = absurd (true≢false (sym some))
      there (Some t) is some =
          let v = went w moments c1 c2 k2.pump back back' t first links k1.stream k1.fresh c1.of.settings.max_in same is x.0 own in (
            v.0,
            λ l.
                let same_t : l.t ≡ t = (let e : Some l.t ≡ Some t = sym l.has ∙ is in cc) in
                let p = subst (λ (z : Shown). Parts w moments c1.caller.of.settings c1.caller.front c1.caller.front first c1.conn links z k1.stream k1.fresh) same_t (left-of r left v.0.lawful l) in
                let y = v.1 l.under_way.some (sym l.under_way.number) l.stepped.served.joined.last p in
                subst (λ (o : Option Shown). GoesFrom w moments base faults' first c1.caller.of.settings past c2.caller.front c2.conn o k2 links back back' out out') (sym x.0.changes.has)
                (goes_there w moments base faults faults' past c1.caller c2.caller.front t x.0.changes.link first c1.conn c2.conn c1.of.settings.max_in shown k k1 k2 r out out' links back back' (subst (λ (o : Option Shown). back' ≡ and_back o back) is x.0.changes.got) l.under_way
                (subst (λ (z : Shown). HasStepped w moments c1.caller.of.settings past c1.caller.front z c1.conn k1.pump k1.stream k1.fresh k.full r false out out') same_t l.stepped) l.request l.full x.1 x.0.changes.pump_is y (counted l same_t y)),
          )
        where
          pump_is : k2.pump ≡ record { conn = c2.conn; left = []; rest = []; max_in = c1.of.settings.max_in; bad = false }
          pump_is = x.0.changes.pump_is

          counted : (l : Left-over w moments base faults first past shown c1 k k1 r links out out') → l.t ≡ t → Went w moments c1.caller c2.caller.front t first c1.conn c2.conn links x.0.changes.link c1.of.settings.max_in k1.stream k1.fresh → IsCounted base faults' first c1.caller.of.settings c2.caller.front c2.conn x.0.changes.link k2 (links ++ t ∷ [])
          counted l same_t y =
              let last = l.stepped.served.joined.last in
              let number = l.under_way.number in
              let ticks = y.ticks in
              let zero = y.none in
              let few : HasFewTicks 1 c1.caller.front t c1.conn = subst (λ (z : Shown). HasFewTicks 1 c1.caller.front z c1.conn) same_t l.counts.few in
              let olds : AreTimely c2.caller.front first links = subst (λ (e : List Entry). AreTimely e first links) (sym y.more.1) (are_timely_more y.more.0 c1.caller.front c1.conn first links (omega (arith, number)) (omega (arith, last)) l.counts.timely) in
              let met : k2.met ≡ k.met = ap (λ (z : Calling). z.met) x.1 ∙ ap (λ (z : Calling). z.met) l.same_k in
              let tried : k1.tried ≡ k.tried = ap (λ (z : Calling). z.tried) l.same_k in
              let b : IsBroken t = subst IsBroken same_t (broken l) in
              let h = x.2 in
              let less = l.counts.short in
              record {
                tried = tried_once k.tried k2.tried base faults faults' links t b h.rose (subst (λ n. (faults + k2.tried ≤ faults' + n + 1) ⊎ (2 ^ 64 - 1 ≤ faults')) tried h.used) l.counts.tried;
                met = subst (λ n. HaveLulled n ((links ++ t ∷ []) ++ x.0.changes.link ∷ [])) (sym met) (lulled_next k.met (links ++ t ∷ []) x.0.changes.link (subst (λ (z : Shown). HaveLulled k.met (links ++ z ∷ [])) same_t l.counts.met));
                timely = timely_and_one c2.caller.front first links t olds (subst (λ n. HasFewTicks 2 c2.caller.front t n) number (few_on 1 1 c1.caller.front c2.caller.front t c1.conn (omega (arith, ticks)) few));
                ticks = λ given taken. inl (omega (arith, zero));
                sure = λ off. inl (subst IsEmptied (sym pump_is) (inr (none_whole c1.of.settings.max_in, none_long c1.of.settings.max_in)));
                short = subst (λ (z : Between). z.max_in < 2 ^ 24) (sym pump_is) (omega (arith, less, limit));
              }
  leaves_so r (Some (called.Refused why)) same left broken used limit x linked own =
      let o = own_follows c1.caller c2.caller same x.0.0.follows own in (
        o.0,
        λ l.
            same_stops (called.Refused why) w moments lulls tries base faults' first c1.caller.of.settings past c1.caller.front c2.caller.front (Some l.t) c2.link links back back' out out' o.1 (x.0.0.link ∙ l.has) x.0.0.same
            (stops_here (called.Refused why) w moments lulls tries base faults faults' c1.caller.of.settings past c1.caller.front l.t first c1.conn shown k k1.pump k1.stream k1.fresh r false out out' links back o.0.lawful l.under_way l.stepped refl (
              shut o.1 x.0.1,
              (elim (closed_for why (called.Refused why) (sym x.0.2)) [
                | inl none ↦ absurd (let no : called.Refused why ≡ called.OutOfMemory = none in cc)
                | inr some ↦ some.1
              ]),
              goes_still r l,
            ) (timely_of r l) tt),
      )
    where
      shut : c2.caller.front ≡ c1.caller.front → closed c1.caller.of.settings c2.caller.front ≡ Some why → closed c1.caller.of.settings c1.caller.front ≡ Some why
      shut at is = ap (closed c1.caller.of.settings) (sym at) ∙ is
  leaves_so r (Some called.Net) same left broken used limit (inl stays, spent) linked own =
      let o = own_follows c1.caller c2.caller same stays.follows own in (
        o.0,
        λ l.
            same_stops called.Net w moments lulls tries base faults' first c1.caller.of.settings past c1.caller.front c2.caller.front (Some l.t) c2.link links back back' out out' o.1 (stays.link ∙ l.has) stays.same
            (stops_here called.Net w moments lulls tries base faults faults' c1.caller.of.settings past c1.caller.front l.t first c1.conn shown k k1.pump k1.stream k1.fresh r false out out' links back o.0.lawful l.under_way l.stepped refl (left l, goes_still r l) (timely_of r l) (used_up r broken used spent l)),
      )
  leaves_so r (Some called.Net) same left broken used limit (inr parted, spent) linked own = there c1.link refl linked
    where
      kl : Knowledge
      kl = on c1.caller parted.looked

      there : (o : Option Shown) → c1.link ≡ o → IsSome o → Follow r (Some called.Net)
      there None is some = absurd (true≢false (sym some))
      there (Some t) is some =
          let cuts : Cuts kl c1.conn c2.caller.front = subst (λ (o : Option Shown). PartsFrom o c1.conn kl c2.caller.front) is parted.parted.parts in
          let c = parted_own w moments kl c2.caller c1.caller.front t first c1.conn links k1.stream k1.fresh same cuts own in
          let o = own_follows c1.caller kl refl parted.follows c.0 in (
            o.0,
            λ l.
                let same_t : l.t ≡ t = (let e : Some l.t ≡ Some t = sym l.has ∙ is in cc) in
                let p = subst (λ (z : Shown). Parts w moments c1.caller.of.settings c1.caller.front c1.caller.front first c1.conn links z k1.stream k1.fresh) same_t (left-of r left o.0.lawful l) in
                let p1 = c.2 l.under_way.some (sym l.under_way.number) (subst (λ (e : List Entry). Parts w moments c1.caller.of.settings c1.caller.front e first c1.conn links t k1.stream k1.fresh) (sym o.1) p) in
                let goes : HasPlace kl.front → HasNotEnded w.kind c1.caller.of.settings kl.front t c1.conn = λ place. subst (λ (e : List Entry). HasNotEnded w.kind c1.caller.of.settings e t c1.conn) (sym o.1) (subst (λ (z : Shown). HasNotEnded w.kind c1.caller.of.settings c1.caller.front z c1.conn) same_t (goes_still r l (subst HasPlace o.1 place))) in
                subst (λ (o : Option Shown). StopsFrom called.Net w moments lulls tries base faults' first c1.caller.of.settings past c2.caller.front o links back back' out out') (sym parted.parted.link)
                (goes_nowhere w moments lulls tries base faults' past kl c2.caller t first c1.conn k1.stream k1.fresh out out' links back back' c.1.0 (subst (λ (o : Option Shown). back' ≡ and_back o back) is parted.parted.got) l.under_way.some l.under_way.number (own_lawful kl c2.caller same own) c.1.1
                (subst (λ (e : List Entry). HasPrinted w.kind false past e out out') (sym o.1) l.stepped.prints) goes (subst (λ (e : List Entry). Parts w moments c1.caller.of.settings e c2.caller.front first c1.conn links t k1.stream k1.fresh) (sym o.1) p1)
                (ap openings o.1 ∙ l.stepped.served.joined.last)
                (subst (λ (e : List Entry). AreTimely e first links) (sym o.1) l.counts.timely)
                (subst (λ (e : List Entry). HasFewTicks 1 e t c1.conn) (sym o.1) (subst (λ (z : Shown). HasFewTicks 1 c1.caller.front z c1.conn) same_t l.counts.few))
                (subst (λ (z : Shown). NoTryLeft tries base faults' (links ++ z ∷ [])) same_t (used_up r broken used spent l))),
          )
  leaves_so r (Some called.OutOfMemory) same left broken used limit x linked own = tt
  leaves_so r (Some called.Finished) same left broken used limit x linked own = absurd x.0
  leaves_so r (Some (called.Dead last)) same left broken used limit x linked own = absurd x.0
  leaves_so r (Some (called.Idle n)) same left broken used limit x linked own = absurd x.0

  -- ---- by the result of the turn

  met_as : (r : Turned) (n : ℕ) → n ≡ k1.met → (l : Left-over w moments base faults first past shown c1 k k1 r links out out') → HaveLulled n (links ++ l.t ∷ [])
  met_as r n is l = subst (λ m. HaveLulled m (links ++ l.t ∷ [])) (sym (is ∙ ap (λ (z : Calling). z.met) l.same_k)) l.counts.met

  lulled_as : k2.met ≤ k1.met + 1 → (l : Left-over w moments base faults first past shown c1 k k1 turned.Lull links out out') → HaveLulled k2.met (links ++ l.t ∷ [])
  lulled_as one l = l.counts.lulled refl k2.met (subst (λ m. k2.met ≤ m + 1) (ap (λ (z : Calling). z.met) l.same_k) one)

  pub followed : (r : Turned) (result : Option Called) → tries_of c1.of.settings plan ≡ tries → k1.pump.max_in ≡ c1.of.settings.max_in → IsSame c1.caller c2.caller → FollowsSo r moments lulls plan c1 c2 k1 k2 back back' faults faults' result → IsSome c1.link → IsOwn c2.caller → Follow r result
  followed (turned.Moved given taken) result used limit same f linked own = subst (Follow (turned.Moved given taken)) (sym f.0) (goes_on_here (turned.Moved given taken) k1 refl f.1 f.2 f.3 refl refl refl refl refl refl refl f.4 (λ l. met_as (turned.Moved given taken) k1.met refl l) own)
  followed (turned.Busy q) result used limit same f linked own = subst (Follow (turned.Busy q)) (sym f.0) (goes_on_here (turned.Busy q) k1 refl f.1 f.2 f.3 refl refl refl refl refl refl refl f.4 (λ l. met_as (turned.Busy q) k1.met refl l) own)
  followed turned.Lull result used limit same f linked own = elim f.0 [
    | inl none ↦ subst (Follow turned.Lull) (sym none) (goes_on_here turned.Lull (record k1 { met = k2.met }) refl f.1 f.2 f.3 refl refl refl refl refl refl refl f.4 (λ l. lulled_as f.5 l) own)
    | inr idle ↦ subst (Follow turned.Lull) (sym idle.0) (stops_on_here turned.Lull (called.Idle lulls) f.1 f.3 own refl (λ l. (
      refl,
      (λ place. (let s = l.stepped.says refl place in record { heard = s.0; given = s.1; taken = whole_of w c1.caller.of.settings c1.caller.front (own_back f.1 own).lawful l.stepped.stands.order (l.stepped.ends.1 place).1 })),
      goes_still turned.Lull l,
    )) (λ l. lulled_less k2.met lulls (links ++ l.t ∷ []) idle.1 (lulled_as f.5 l)))
  ]
  followed turned.End result used limit same f linked own = leaves_so turned.End result same (λ l. (l.stepped.says refl).1) (λ l. (l.stepped.says refl).0) used limit f linked own
  followed turned.LinkFault result used limit same f linked own = leaves_so turned.LinkFault result same (λ l. (l.stepped.says refl).1) (λ l. (l.stepped.says refl).0) used limit f linked own
  followed (turned.Over why) result used limit same f linked own = refused (turned.Over why) why result f.0 f.1 f.2 own (λ l. l.stepped.says refl)
  followed (turned.Dead last) result used limit same f linked own = subst (Follow (turned.Dead last)) (sym f.0) (stops_on_here (turned.Dead last) (called.Dead last) f.1 f.2 own refl (λ l. (l.stepped.says refl, goes_still (turned.Dead last) l)) (λ l. tt))
  followed turned.TapeFull result used limit same f linked own = subst (Follow turned.TapeFull) (sym f.0) (
    own_back f.1 own,
    λ l.
        same_goes w moments base faults' first c1.caller.of.settings past c1 c2 (record k1 { full = true }) k2 links back back' out out' f.1 f.2 f.3
        (subst (λ (o : Option Shown). GoesFrom w moments base faults' first c1.caller.of.settings past c1.caller.front c1.conn o (record k1 { full = true }) links back back out out') (sym l.has)
        (full_here w moments base faults faults' c1.caller.of.settings past c1.caller.front l.t first c1.conn shown k (record k1 { full = true }) out out' links back (own_back f.1 own).lawful l.under_way l.stepped l.request l.at refl (record {
          tried = subst (λ n. HaveTried k1.tried base n links) (sym f.4) (subst (λ n. HaveTried n base faults links) (sym (ap (λ (z : Calling). z.tried) l.same_k)) l.counts.tried);
          met = met_as turned.TapeFull k1.met refl l;
          timely = l.counts.timely;
          ticks = l.counts.few;
          sure = λ off. absurd (true≢false off);
          short = l.counts.short;
        }))),
  )
  followed (turned.Displaced n) result used limit same f linked own = subst (Follow (turned.Displaced n)) (sym f.0) tt
  followed turned.OutOfMemory result used limit same f linked own = subst (Follow turned.OutOfMemory) (sym f.0) tt

-- ---- a step and what follows

same_link : (o : Option Shown) (s t : Shown) → o ≡ Some s → o ≡ Some t → s ≡ t
same_link o s t a b = (let e : Some s ≡ Some t = sym a ∙ b in cc)

-- a step that did not end the call, and what follows from it
pub go_by : (w : Asking) (moments : Option (List ℕ)) (lulls plan tries faults faults' : ℕ) (c c1 c2 : ClientSeen) (k k1 k2 : Calling) (r : Turned) (e : Bool) (result : Option Called) (back back' : Option (List Shown)) (out out' : List ℕ) (s : Shown) → e ≡ false → c1.caller.of.settings ≡ c.caller.of.settings → c1.conn ≡ c.conn → k1.request ≡ k.request → k1.full ≡ k.full → k1.pump.conn ≡ c1.conn → IsSome c1.link → c.link ≡ Some s → tries_of c1.of.settings plan ≡ tries → k1.pump.max_in ≡ c1.of.settings.max_in → k1 ≡ record k { pump = k1.pump; stream = k1.stream; fresh = k1.fresh } → k1.pump.max_in ≡ k.pump.max_in → IsSame c1.caller c2.caller → FollowsSo r moments lulls plan c1 c2 k1 k2 back back' faults faults' result
    → (IsOwn c1.caller → IsOwn c.caller × (IsReady w moments c.caller.of.settings c.caller.front s c.conn k.pump k.stream k.fresh k.full → (t : Shown) × (c1.link ≡ Some t) × HasStepped w moments c.caller.of.settings c.caller.front c1.caller.front t c.conn k1.pump k1.stream k1.fresh k.full r e out out' × (k.pump.max_in < 2 ^ 24 → HasCounted c.caller.of.settings c.caller.front c1.caller.front s t c.conn k.pump k1.pump k.full r)))
    → IsOwn c2.caller → Owns result (IsOwn c.caller × ((base first : ℕ) (links : List Shown) → IsUnderWay w moments base faults first c.caller.of.settings c.caller.front c.conn c.link k links → StepsTo result w moments lulls tries base faults' first c.caller.of.settings c.caller.front c2.caller.front c2.conn c2.link k2 links back back' out out'))
go_by w moments lulls plan tries faults faults' c c1 c2 k k1 k2 r e result back back' out out' s goes st cn request full at linked link used limit same_k limits same follows stepped own = by result refl
  where
    g : Settings
    g = c.caller.of.settings

    past : List Entry
    past = c.caller.front

    by : (res : Option Called) → result ≡ res → Owns result (IsOwn c.caller × ((base first : ℕ) (links : List Shown) → IsUnderWay w moments base faults first g past c.conn c.link k links → StepsTo result w moments lulls tries base faults' first g past c2.caller.front c2.conn c2.link k2 links back back' out out'))
    by (Some called.OutOfMemory) is = subst (λ x. Owns x (IsOwn c.caller × ((base first : ℕ) (links : List Shown) → IsUnderWay w moments base faults first g past c.conn c.link k links → StepsTo x w moments lulls tries base faults' first g past c2.caller.front c2.conn c2.link k2 links back back' out out'))) (sym is) tt
    by _ is = owns_with result (λ base first links. followed w moments lulls plan tries base faults faults' first past c.link c1 c2 k k1 k2 links back back' out out' r result used limit same follows linked own)
      where
        left_over : IsOwn c1.caller → (base first : ℕ) (links : List Shown) → IsUnderWay w moments base faults first g past c.conn c.link k links → Left-over w moments base faults first past c.link c1 k k1 r links out out'
        left_over own1 base first links u =
            let one : u.link ≡ s = same_link c.link u.link s u.has link in
            let v = (stepped own1).1 (subst (λ (z : Shown). IsReady w moments g past z c.conn k.pump k.stream k.fresh k.full) one u.ready) in
            record {
              t = v.0;
              has = v.1;
              under_way = subst (λ (z : Settings). IsUnderWay w moments base faults first z past c1.conn c.link k links) (sym st) (subst (λ n. IsUnderWay w moments base faults first g past n c.link k links) (sym cn) u);
              stepped = subst (λ (z : Settings). HasStepped w moments z past c1.caller.front v.0 c1.conn k1.pump k1.stream k1.fresh k.full r false out out') (sym st) (subst (λ n. HasStepped w moments g past c1.caller.front v.0 n k1.pump k1.stream k1.fresh k.full r false out out') (sym cn) (subst (λ b. HasStepped w moments g past c1.caller.front v.0 c.conn k1.pump k1.stream k1.fresh k.full r b out out') goes v.2));
              request = request;
              full = full;
              at = at;
              same_k = same_k;
              counts =
                  let before : IsCounted base faults first g past c.conn s k links = subst (λ (z : Shown). IsCounted base faults first g past c.conn z k links) one u.counted in
                  let now : Goes-on base faults first g c1.caller.front v.0 c.conn k k1.pump links r = goes_on base faults first g past c1.caller.front v.2.more s v.0 c.conn k k1.pump links r v.2.on u.number u.ready.served.joined.last limits before (v.3 before.short) in
                  subst (λ (z : Settings). Goes-on base faults first z c1.caller.front v.0 c1.conn k k1.pump links r) (sym st) (subst (λ n. Goes-on base faults first g c1.caller.front v.0 n k k1.pump links r) (sym cn) now);
            }

        joins : IsOwn c1.caller → (res : Option Called) → ((base first : ℕ) (links : List Shown) → Left-over w moments base faults first past c.link c1 k k1 r links out out' → StepsTo res w moments lulls tries base faults' first c1.caller.of.settings past c2.caller.front c2.conn c2.link k2 links back back' out out')
            → IsOwn c.caller × ((base first : ℕ) (links : List Shown) → IsUnderWay w moments base faults first g past c.conn c.link k links → StepsTo res w moments lulls tries base faults' first g past c2.caller.front c2.conn c2.link k2 links back back' out out')
        joins own1 res f = ((stepped own1).0, λ base first links u. subst (λ (z : Settings). StepsTo res w moments lulls tries base faults' first z past c2.caller.front c2.conn c2.link k2 links back back' out out') st (f base first links (left_over own1 base first links u)))

        owns_with : (res : Option Called) → ((base first : ℕ) (links : List Shown) → Owns res (IsOwn c1.caller × (Left-over w moments base faults first past c.link c1 k k1 r links out out' → StepsTo res w moments lulls tries base faults' first c1.caller.of.settings past c2.caller.front c2.conn c2.link k2 links back back' out out')))
            → Owns res (IsOwn c.caller × ((base first : ℕ) (links : List Shown) → IsUnderWay w moments base faults first g past c.conn c.link k links → StepsTo res w moments lulls tries base faults' first g past c2.caller.front c2.conn c2.link k2 links back back' out out'))
        owns_with None f = joins (f 0 0 []).0 None (λ base first links. (f base first links).1)
        owns_with (Some called.OutOfMemory) f = tt
        owns_with (Some called.Finished) f = joins (f 0 0 []).0 (Some called.Finished) (λ base first links. (f base first links).1)
        owns_with (Some called.Net) f = joins (f 0 0 []).0 (Some called.Net) (λ base first links. (f base first links).1)
        owns_with (Some (called.Dead last)) f = joins (f 0 0 []).0 (Some (called.Dead last)) (λ base first links. (f base first links).1)
        owns_with (Some (called.Idle n)) f = joins (f 0 0 []).0 (Some (called.Idle n)) (λ base first links. (f base first links).1)
        owns_with (Some (called.Refused why)) f = joins (f 0 0 []).0 (Some (called.Refused why)) (λ base first links. (f base first links).1)

pub some_of : (o : Option Shown) → IsSome o → (s : Shown) × (o ≡ Some s)
some_of None is = absurd (true≢false (sym is))
some_of (Some s) is = (s, refl)

-- a step that ended it
pub finish_by : (w : Asking) (moments : Option (List ℕ)) (lulls tries faults : ℕ) (c c1 : ClientSeen) (k k1 : Calling) (r : Turned) (e : Bool) (back : Option (List Shown)) (out out' : List ℕ) (s : Shown) → IsSame c.caller c1.caller → c.link ≡ Some s → e ≡ true → k1.pump.max_in ≡ k.pump.max_in
    → (IsOwn c1.caller → IsOwn c.caller × (IsReady w moments c.caller.of.settings c.caller.front s c.conn k.pump k.stream k.fresh k.full → (t : Shown) × (c1.link ≡ Some t) × HasStepped w moments c.caller.of.settings c.caller.front c1.caller.front t c.conn k1.pump k1.stream k1.fresh k.full r e out out' × (k.pump.max_in < 2 ^ 24 → HasCounted c.caller.of.settings c.caller.front c1.caller.front s t c.conn k.pump k1.pump k.full r)))
    → IsOwn c1.caller → IsOwn c.caller × ((base first : ℕ) (links : List Shown) → IsUnderWay w moments base faults first c.caller.of.settings c.caller.front c.conn c.link k links → StopsFrom called.Finished w moments lulls tries base faults first c.caller.of.settings c.caller.front c1.caller.front c1.link links back back out out')
finish_by w moments lulls tries faults c c1 k k1 r e back out out' s same link is limits stepped own =
    let st = stepped own in (
      st.0,
      λ base first links u.
          let one : u.link ≡ s = same_link c.link u.link s u.has link in
          let before : IsCounted base faults first c.caller.of.settings c.caller.front c.conn s k links = subst (λ (z : Shown). IsCounted base faults first c.caller.of.settings c.caller.front c.conn z k links) one u.counted in
          let v = st.1 (subst (λ (z : Shown). IsReady w moments c.caller.of.settings c.caller.front z c.conn k.pump k.stream k.fresh k.full) one u.ready) in
          subst (λ (o : Option Shown). StopsFrom called.Finished w moments lulls tries base faults first c.caller.of.settings c.caller.front c1.caller.front o links back back out out') (sym v.1)
          (finished_here w moments lulls tries base faults faults c.caller.of.settings c.caller.front c1.caller.front v.0 first c.conn c.link k k1.pump k1.stream k1.fresh r out out' links back (own_lawful c.caller c1.caller same own) u (subst (λ b. HasStepped w moments c.caller.of.settings c.caller.front c1.caller.front v.0 c.conn k1.pump k1.stream k1.fresh k.full r b out out') is v.2)
          (all_timely base faults first c.caller.of.settings c1.caller.front v.0 c.conn k k1.pump links r u.number (goes_on base faults first c.caller.of.settings c.caller.front c1.caller.front v.2.more s v.0 c.conn k k1.pump links r v.2.on u.number u.ready.served.joined.last limits before (v.3 before.short)))),
    )
