-- The first step of a call whose caller is alone: its request, right after the first opening.
use Rattle.std.proofs.Common.{◌≡◌, ◌<◌, ◌+◌, ◌^◌, ◌⊎◌, ◌||◌, inl, inr, ◌∙◌, ℕ, Bool, true, false, true≢false, cond, List, [], ◌∷◌, Option, Some, None, Ok, refl, sym, ap, subst, arith, ltb}
use Rattle.rs_wire.specs.declared.settings.Settings.{Settings}
use Rattle.rs_wire.specs.declared.words.Kind.{Kind}
use Rattle.rs_wire.specs.declared.words.Kind.TheVariants as kind
use Rattle.rs_wire.specs.declared.message.Message.{Message}
use Rattle.rs_wire.specs.declared.call.Call.TheVariants as asks
use Rattle.outside.specs.Links.{Shown}
use Rattle.tape.specs.Answers.{leaves}
use Rattle.tape.specs.Told.{entry_of}
use Rattle.tape.specs.declared.event.Event.{Event}
use Rattle.tape.specs.declared.event.Event.TheVariants as event
use Rattle.tape.specs.declared.answer.Answer.{Answer}
use Rattle.tape.specs.declared.answer.Answer.TheVariants as answer
use Rattle.tape.specs.declared.entry.Entry.{Entry}
use Rattle.stream_model.specs.Arriving.{ours}
use Rattle.stream_model.specs.Fair.{Fair as FairMarks}
use Rattle.stream_model.specs.Marks.{Opening}
use Rattle.stream_model.specs.Streams.{is_admitted, live as live_streams}
use Rattle.stream_model.specs.Turns.{delivered}
use Rattle.stream_model.proofs.Ids.{turn_opened}
use Rattle.session_model.specs.Life.{begun, is_opened, openings}
use Rattle.session_model.specs.Answers.{facts}
use Rattle.session_model.specs.Means.{Means}
use Rattle.session_model.proofs.Meaning.{last_means}
use Rattle.session_model.specs.Legal.{Legal}
use Rattle.session_model.specs.Streams.{heard_in, words}
use Rattle.session_model.proofs.Fairness.{legal_fair}
use Rattle.session_laws.specs.Streams.{IsLawful}
use Rattle.conn_shared.specs.Members.{Knowledge}
use Rattle.link_model.specs.Carrying.{Between}
use Rattle.link_model.specs.Leaving.{displaced}
use Rattle.call_model.specs.Leaving.{HaveLulled, HaveTried}
use Rattle.call_model.specs.Order.{Asking, InOrder, MayAsk, MayFollow, is_tick, next_call, request_of}
use Rattle.call_model.specs.Timing.{ticks_on}
use Rattle.call_model.proofs.Links.{ticks_none}
use Rattle.pump.specs.Turns.{IsEmptied}
use Rattle.call_model.specs.Present.{IsServed}
use Rattle.call_model.specs.Ran.{HasPlace}
use Rattle.call_model.specs.Saying.{delivered_of, delivered_on, got_in, got_on, said, started, started_in}
use Rattle.call_model.proofs.Ordering.{got_none, got_same}
use Rattle.call_model.proofs.Present.{served_opened, still_opened}
use Rattle.client.specs.Alone.{IsOwn}
use Rattle.client.specs.Calling.{CanBegin, HasBegun, IsUnderWay}
use Rattle.client.specs.Clients.{HasAsked}
use Rattle.client.specs.Takes.{IsTakenIn}
use Rattle.client.specs.declared.calling.Calling.{Calling}
use Rattle.client.proofs.Alone.{Adds, IsSame, own_call, own_lawful}
use Rattle.client.proofs.OverCounts.{adds_no_tick, no_tick, none_long, none_whole}
use Rattle.client.proofs.OverSteps.{HasPaid, Waits, asked_so, asks_served, asks_still}

-- ---- before the first opening

both_false : (a b : Bool) → (a || b) ≡ false → (a ≡ false) × (b ≡ false)
both_false true b is = absurd (true≢false is)
both_false false b is = (refl, is)

starts_none : (g : Settings) (w : Asking) (past : List Entry) (a : Answer) (e : Event) → Means g (facts g past) e a → MayFollow w past e → begun past ≡ false → started past ≡ None → started_in a ≡ None
starts_none g w past (answer.Started id) (event.Asked c) means may closed none =
    let h : MayAsk w past None c = subst (λ (o : Option ℕ). MayAsk w past o c) none may in absurd (true≢false (sym h.1 ∙ closed))
starts_none g w past (answer.Started id) _ means may closed none = absurd means
starts_none g w past _ e means may closed none = refl

pub unstarted : (g : Settings) (w : Asking) (past : List Entry) → Legal g past → InOrder w past → begun past ≡ false → started past ≡ None
unfolding Legal InOrder started begun
unstarted g w [] legal order closed = refl
unstarted g w (x ∷ past) legal order closed =
    let both = both_false (begun past) (is_opened x.answer) closed in
    let before = unstarted g w past legal.0 order.0 both.0 in
    rw (before, starts_none g w past x.answer x.event (last_means g x past legal) order.1.may both.0 before) refl

legal_of : (g : Settings) (x : Entry) (past : List Entry) → Legal g (x ∷ past) → Legal g past
unfolding Legal
legal_of g x past h = h.0

order_of : (w : Asking) (x : Entry) (past : List Entry) → InOrder w (x ∷ past) → InOrder w past
unfolding InOrder
order_of w x past h = h.0

opens_some : (x : Entry) (past : List Entry) → x.event ≡ event.Open None false → 0 < openings (x ∷ past)
unfolding openings
opens_some x past is = rw is (omega arith)

-- no tick stands after the first opening
begun_ticks : (past : List Entry) (x : Entry) (c : ℕ) → x.event ≡ event.Open None false → openings (x ∷ past) ≡ c → ticks_on (x ∷ past) c ≡ 0
unfolding openings
begun_ticks past x c is last =
    let one : openings (x ∷ past) ≡ openings past + 1 = rw is (omega arith) in
    no_tick past x c (ap is_tick is) ∙ ticks_none past c (omega (arith, one, last))

-- ---- a stream that was just started

opens_none : (admitted : Bool) (o : Opening) → delivered o [] ≡ [] → delivered_of (cond admitted (Some (record { opening = o; words = [] })) None) ≡ []
opens_none true o is = is
opens_none false o is = refl

ours_none : (k : Kind) (initial : Option ℕ) (message : Message) (complete : Bool) → delivered (ours k initial message complete) [] ≡ []
unfolding delivered
ours_none k initial message complete = refl

pub request_delivers : (g : Settings) (past : List Entry) (n id : ℕ) (k : Kind) (initial : Option ℕ) (message : Message) (complete : Bool) → IsLawful g (entry_of n (event.Asked (asks.Request k initial message complete)) (answer.Started id) ∷ past)
    → delivered_on g (entry_of n (event.Asked (asks.Request k initial message complete)) (answer.Started id) ∷ past) id ≡ []
unfolding heard_in FairMarks
request_delivers g past n id k initial message complete lawful =
    let x = entry_of n (event.Asked (asks.Request k initial message complete)) (answer.Started id) in
    let fair = legal_fair g (x ∷ past) lawful.legal lawful.fair in
    let o = ours k initial message complete in
    ap delivered_of (turn_opened g.max_streams (words g past) id o fair.1.fresh) ∙ opens_none (is_admitted (ltb (live_streams g.max_streams (words g past)) g.max_streams) o) o (ours_none k initial message complete)

-- ---- the start

started_now : (past : List Entry) (x : Entry) → started past ≡ None → started (x ∷ past) ≡ started_in x.answer
unfolding started
started_now past x none = rw none refl

-- what is taken in whole right after the request
whole_start : (w : Asking) (g : Settings) (me : Knowledge) (a : Answer) (new : List Entry) (s : ℕ) → IsLawful g new → Adds me (event.Asked (request_of w)) a new → started me.front ≡ None → started new ≡ Some s → got_on new s ≡ [] → got_on new s ≡ delivered_on g new s
whole_start w g me a new s lawful adds none on nothing = nothing ∙ sym (by adds.came)
  where
    entry : Answer → Entry
    entry z = entry_of me.number (event.Asked (request_of w)) z

    here : (z : Answer) → started_in z ≡ Some s → new ≡ entry z ∷ me.front → delivered_on g new s ≡ []
    here (answer.Started id) first at =
        let same_id : id ≡ s = (let e : Some id ≡ Some s = first in cc) in
        ap (λ (l : List Entry). delivered_on g l s) at ∙ (subst (λ n. delivered_on g (entry (answer.Started id) ∷ me.front) n ≡ []) same_id
        (request_delivers g me.front me.number id w.kind _ _ _ (subst (IsLawful g) at lawful)))
    here _ first at = absurd (cc)

    by : ((leaves a ≡ false) × (new ≡ me.front)) ⊎ ((leaves a ≡ true) × (new ≡ entry a ∷ me.front) × HasPlace me.front) → delivered_on g new s ≡ []
    by (inl same) = absurd (let no : None ≡ Some s = sym none ∙ (ap started (sym same.1) ∙ on) in cc)
    by (inr more) = here a (sym (started_now me.front (entry a) none) ∙ (ap started (sym more.1) ∙ on)) more.1

got_nothing : (w : Asking) (me : Knowledge) (a : Answer) (new : List Entry) (s : ℕ) → InOrder w me.front → started me.front ≡ None → Adds me (event.Asked (request_of w)) a new → got_on new s ≡ []
got_nothing w me a new s order none adds = elim adds.came [
  | inl same ↦ ap (λ (l : List Entry). got_on l s) same.1 ∙ got_none w me.front s order none
  | inr more ↦ ap (λ (l : List Entry). got_on l s) more.1 ∙ (got_same me.front (entry_of me.number (event.Asked (request_of w)) a) s (gets_none a) ∙ got_none w me.front s order none)
]
  where
    gets_none : (a : Answer) → got_in s a (event.Asked (request_of w)) ≡ []
    gets_none (answer.Got d) = refl
    gets_none _ = refl

-- the first opening is the last entry
begun_now : (x : Entry) (past : List Entry) (c : ℕ) → x.answer ≡ answer.Opened c → begun (x ∷ past) ≡ true
unfolding begun
begun_now x past c is = rw is (either (begun past))
  where
    either : (b : Bool) → (b || true) ≡ true
    either true = refl
    either false = refl

next_now : (w : Asking) (x : Entry) (past : List Entry) (c : ℕ) → x.answer ≡ answer.Opened c → begun past ≡ false → next_call w (x ∷ past) ≡ Some (request_of w)
next_now w x past c is closed = rw (is, closed) refl

pub starts : (w : Asking) (moments : Option (List ℕ)) (was now : Knowledge) (conn : ℕ) (present : Option Shown) (k : Calling) (most : ℕ) → IsSame was now → HasAsked was (request_of w) (Ok tt) None k.stream now.front
    → k.request ≡ request_of w → k.pump ≡ record { conn = conn; left = []; rest = []; max_in = most; bad = false } → k.fresh ≡ 0 → k.full ≡ false → k.met ≡ 0 → k.tried ≡ 0 → most < 2 ^ 24 → 0 < w.count → IsOwn now
    → IsOwn was × ((base : ℕ) → CanBegin w moments was.front conn present → IsUnderWay w moments base base conn was.of.settings now.front conn present k [] × (said w.kind false now.front ≡ said w.kind false was.front))
starts w moments was now conn present k most same asked request pump zero full none_met none_tried short some own = (h.0, by)
  where
    g : Settings
    g = was.of.settings

    h : IsOwn was × (0 < w.count → Waits w moments was.front k.fresh → (HasPlace was.front → (next_call w was.front ≡ None) ⊎ (next_call w was.front ≡ Some (request_of w))) → HasPaid w moments was.front now.front None k.stream k.fresh)
    h = asked_so w moments was now k.stream k.fresh same asked own

    lawful : IsLawful g now.front
    lawful = own_lawful was now same own

    adds : Adds was (event.Asked (request_of w)) asked.came.answer now.front
    adds = (own_call g was now (event.Asked (request_of w)) asked.came.answer refl same asked.came.called own).1

    by : (base : ℕ) → CanBegin w moments was.front conn present → IsUnderWay w moments base base conn g now.front conn present k [] × (said w.kind false now.front ≡ said w.kind false was.front)
    by base can =
        let b = can.begins in
        let link = can.link in
        let order = can.order in
        let timed = can.timed in
        let legal_x : Legal g (b.entry ∷ b.before) = subst (Legal g) b.is h.0.lawful.legal in
        let order_x : InOrder w (b.entry ∷ b.before) = subst (InOrder w) b.is order in
        let none_before : started b.before ≡ None = unstarted g w b.before (legal_of g b.entry b.before legal_x) (order_of w b.entry b.before order_x) b.first in
        let none : started was.front ≡ None = ap started b.is ∙ (started_now b.before b.entry none_before ∙ ap started_in b.answered) in
        let begins : begun was.front ≡ true = ap begun b.is ∙ begun_now b.entry b.before conn b.answered in
        let next : next_call w was.front ≡ Some (request_of w) = ap (next_call w) b.is ∙ next_now w b.entry b.before conn b.answered b.first in
        let waits : Waits w moments was.front k.fresh = record { order = order; timed = timed; begins = begins; none = none; zero = zero } in
        let p = h.1 some waits (λ place. inr next) in
        let served : IsServed g was.front link conn k.pump k.full = subst (λ f. IsServed g was.front link conn k.pump f) (sym full) (subst (λ (z : Between). IsServed g was.front link conn z false) (sym pump) (subst (λ (l : List Entry). IsServed g l link conn (record { conn = conn; left = []; rest = []; max_in = most; bad = false }) false) (sym b.is)
        (served_opened g b.before b.entry link conn most legal_x b.event b.answered can.new_link))) in
        let still : displaced was.front conn ≡ false = subst (λ (l : List Entry). displaced l conn ≡ false) (sym b.is) (still_opened g b.before b.entry conn legal_x b.event b.answered) in
        let last : openings was.front ≡ conn = served.joined.last in
        let above : 0 < conn = some_opening was.front b last in
        let no_ticks : ticks_on now.front conn ≡ 0 = adds_no_tick was (event.Asked (request_of w)) asked.came.answer now.front conn refl adds ∙ (ap (λ (l : List Entry). ticks_on l conn) b.is ∙ begun_ticks b.before b.entry conn b.event (sym (ap openings b.is) ∙ last)) in (
          record {
            request = request;
            link = link;
            has = can.has;
            at = ap (λ (z : Between). z.conn) pump;
            ready = record {
              some = some;
              stands = p.stands;
              unended = p.unended;
              paid = p.paid;
              served = asks_served g was.front now.front link conn k.pump k.full p.asks served;
              still = λ place. asks_still g was.front now.front conn lawful.legal p.asks still;
              whole = λ place. taken_in w.kind (λ s on. whole_start w g was asked.came.answer now.front s lawful adds none on (got_nothing w was asked.came.answer now.front s order none adds));
            };
            some = above;
            number = omega arith;
            carried = λ place. tt;
            left = λ place. tt;
            counted = record {
              tried = subst (λ n. HaveTried n base base []) (sym none_tried) (inl (omega arith));
              met = subst (λ n. HaveLulled n (link ∷ [])) (sym none_met) (inl (omega arith));
              timely = tt;
              ticks = λ given taken. inl (let zero = no_ticks in omega (arith, zero));
              sure = λ off. inl (subst IsEmptied (sym pump) (inr (none_whole most, none_long most)));
              short = subst (λ (z : Between). z.max_in < 2 ^ 24) (sym pump) short;
            };
          },
          p.same w.kind,
        )
      where
        taken_in : (k : Kind) → ((s : ℕ) → started now.front ≡ Some s → got_on now.front s ≡ delivered_on g now.front s) → IsTakenIn k g now.front
        taken_in kind.Fnf whole = tt
        taken_in _ whole = whole

        some_opening : (past : List Entry) → HasBegun past conn → openings past ≡ conn → 0 < conn
        some_opening past b last = subst (λ n. 0 < n) (sym (ap openings b.is) ∙ last) (opens_some b.entry b.before b.event)
