-- What a link's callers know of it, when it was served.
use Rattle.std.specs.List.{AllByRecursion}
use Rattle.std.specs.Option.{option_map}
use Rattle.std.proofs.lemmas.Bool.Decides.{nat_tests}
use Rattle.std.proofs.lemmas.Option.{slice_get-map}
use Rattle.std.proofs.Common.{◌≡◌, ◌≢◌, ◌<◌, ◌≤◌, ◌^◌, ◌||◌, ◌==◌, ◌∙◌, ◌⊎◌, inl, inr, ℕ, zero, suc, Bool, true, false, true≢false, if◌then◌else◌, List, [], ◌∷◌, ◌++◌, length, slice_get, Option, Some, None, IfSome, refl, sym, ap, subst, arith, append-nil, append_assoc}
use Rattle.rs_wire.specs.declared.call.Call.{Call}
use Rattle.rs_wire.specs.declared.call.Call.TheVariants as call
use Rattle.rs_wire.specs.declared.fault.Refusal.{Refusal}
use Rattle.rs_wire.specs.declared.settings.Settings.{Settings}
use Rattle.rs_frame.specs.declared.frame.Frame.{Frame}
use Rattle.rs_frame.specs.declared.frame.Frame.TheVariants as frame
use Rattle.rs_frame.specs.declared.frame.Resume.{Resume}
use Rattle.outside.specs.Links.{Shown}
use Rattle.tape.specs.Answers.{leaves}
use Rattle.tape.specs.Told.{entry_of}
use Rattle.tape.specs.declared.answer.Answer.{Answer}
use Rattle.tape.specs.declared.answer.Answer.TheVariants as answer
use Rattle.tape.specs.declared.entry.Entry.{Entry}
use Rattle.tape.specs.declared.event.Event.{Event}
use Rattle.tape.specs.declared.event.Event.TheVariants as event
use Rattle.stream_model.specs.Streams.{one_if}
use Rattle.session_model.specs.Answers.{answer_to, facts, refused_call, refused_or}
use Rattle.session_model.specs.Joined.{opens_as}
use Rattle.session_model.specs.Legal.{Legal}
use Rattle.session_laws.proofs.OpenedOnce.{resumes_none}
use Rattle.conn_lock.specs.Callers.{times}
use Rattle.conn_shared.specs.Calls.{IsStep}
use Rattle.conn_shared.specs.Members.{Follows, Knowledge}
use Rattle.link_model.specs.Carrying.{Carried, IsAlone, is_of}
use Rattle.link_model.specs.Leaving.{Left}
use Rattle.link_laws.specs.Staying.{IsHeld, asks_close}
use Rattle.link_laws.specs.Unopened.{Unopened}
use Rattle.pump.specs.Turns.{GoesOn, Ticks}
use Rattle.workers.specs.Courses.{IsNoWork}
use Rattle.server.specs.declared.served.Served.{Served}
use Rattle.server.specs.declared.served.Served.TheVariants as served
use Rattle.server.specs.Attending.{AreFewTicks, Attends, Grants, IsHelpersCall, IsServed, ticks_by}
use Rattle.server.specs.Opening.{AreBack, IsTakenBeside, StayBeside, TriesToOpen, fronts, resumes}
use Rattle.server.specs.Serving.{Adds, At, IsCarried, IsLeft, IsUnopened, NoneOpened, Opened}
use Rattle.serve_model.specs.Counts.{accepted_by, first_by, opened_by, opens_by, since_open}
use Rattle.serve_model.specs.Links.{AsksFor, KnowsLink, LeasesNext}
use Rattle.serve_model.specs.Names.{GoesOnBy, Under}
use Rattle.serve_model.specs.Order.{IsHandledByOwner, is_cut_of, is_opening}
use Rattle.serve_model.proofs.Counts.{accepted_on, leases_on, opened_more, opened_on, opens_on, since_on}
use Rattle.serve_model.proofs.Names.{all_both, goes_as, under_as, under_on}
use Rattle.serve_laws.specs.Knowing.{KnowsAt, KnowsRow}
use Rattle.serve_links.specs.Callers.{IsNewCaller, lease_ms, lease_of, numbers}
use Rattle.serve_laws.specs.Links.{IsTakenIn, MayOpen, OpensBy, accepted_in, opens_in}
use Rattle.serve_laws.specs.Tapes.{IsServersEvent}
use Rattle.serve_links.proofs.Added.{IsIdle, Tried, TriedOnce, accepted_last, idle_opened, idle_opens, idle_ticks, opening_counts, since_opening, ticks_since, tried_once}
use Rattle.serve_laws.proofs.Events.{one_name, workers_call}
use Rattle.serve_laws.proofs.Taking.{call_goes, under_others}

-- ---- a caller that did nothing

pub idle_knows : (g : Settings) (moments : Option (List ℕ)) (lease : Option Call) (all : List (List Entry)) (k i n : ℕ) (front : List Entry) (link : Shown) → IsIdle n front → KnowsAt g moments lease all k i n front link
idle_knows g moments lease all k i n front link idle = record {
  kinds = none (λ x. IsServersEvent moments lease x.event);
  no_close = none (λ x. asks_close x.event ≡ false);
  handled = none (IsHandledByOwner front);
  opens = none (λ x. OpensBy (MayOpen g all k i link) x.event);
  linked = λ c some. absurd (let h = idle_opened n c front idle in omega (arith, h, some));
  ticks = λ alone given taken. inl (let h = idle_ticks n front idle in let s = ticks_since n front in omega (arith, h, s));
}
  where
    none : (P : Entry → Type 0) → Under (n ∷ []) P front
    none P = under_as (n ∷ []) (λ x. ⊥) P (λ x no. absurd no) front idle

-- ---- a caller that tried to open

ticks_kind : (moments : Option (List ℕ)) (lease : Option Call) (e : Event) → Ticks moments e → IsServersEvent moments lease e
ticks_kind moments lease (event.Tick now) ticks = ticks
ticks_kind moments lease e ticks = absurd ticks

ticks_open : (moments : Option (List ℕ)) (e : Event) → Ticks moments e → asks_close e ≡ false
ticks_open moments (event.Tick now) ticks = refl
ticks_open moments e ticks = absurd ticks

ticks_handle : (moments : Option (List ℕ)) (c : ℕ) (e : Event) → Ticks moments e → (is_of c e || is_cut_of c e) ≡ true → ⊥
ticks_handle moments c (event.Tick now) ticks is = absurd (cc)
ticks_handle moments c e ticks is = absurd ticks

ticks_opens : (moments : Option (List ℕ)) (P : Frame → Bool → Type 0) (e : Event) → Ticks moments e → OpensBy P e
ticks_opens moments P (event.Tick now) ticks = tt
ticks_opens moments P e ticks = absurd ticks

module _ (g : Settings) (moments : Option (List ℕ)) (lease : Option Call) (all : List (List Entry)) (k i : ℕ) (link : Shown) (first : Frame) (taken : Bool) (may : MayOpen g all k i link first taken) where
  tried_kind : (e : Event) → Tried moments first taken e → IsServersEvent moments lease e
  tried_kind e (inl ticks) = ticks_kind moments lease e ticks
  tried_kind e (inr is) = subst (IsServersEvent moments lease) (sym is) tt

  tried_open : (e : Event) → Tried moments first taken e → asks_close e ≡ false
  tried_open e (inl ticks) = ticks_open moments e ticks
  tried_open e (inr is) = rw is refl

  tried_handle : (c : ℕ) (e : Event) → Tried moments first taken e → (is_of c e || is_cut_of c e) ≡ true → ⊥
  tried_handle c e (inl ticks) is = ticks_handle moments c e ticks is
  tried_handle c e (inr opens) is = absurd (let h : false ≡ true = subst (λ v. (is_of c v || is_cut_of c v) ≡ true) opens is in cc)

  tried_opens : (e : Event) → Tried moments first taken e → OpensBy (MayOpen g all k i link) e
  tried_opens e (inl ticks) = ticks_opens moments (MayOpen g all k i link) e ticks
  tried_opens e (inr is) = subst (OpensBy (MayOpen g all k i link)) (sym is) may

  pub tried_knows : (n : ℕ) (front : List Entry) → Under (n ∷ []) (λ x. Tried moments first taken x.event) front → ((c : ℕ) → opened_by n c front ≡ 0) → ticks_by (n ∷ []) front ≤ 1 → KnowsAt g moments lease all k i n front link
  tried_knows n front tried none few = record {
    kinds = under_as (n ∷ []) (λ x. Tried moments first taken x.event) (λ x. IsServersEvent moments lease x.event) (λ x h. tried_kind x.event h) front tried;
    no_close = under_as (n ∷ []) (λ x. Tried moments first taken x.event) (λ x. asks_close x.event ≡ false) (λ x h. tried_open x.event h) front tried;
    handled = under_as (n ∷ []) (λ x. Tried moments first taken x.event) (IsHandledByOwner front) (λ x h c is. absurd (tried_handle c x.event h is)) front tried;
    opens = under_as (n ∷ []) (λ x. Tried moments first taken x.event) (λ x. OpensBy (MayOpen g all k i link) x.event) (λ x h. tried_opens x.event h) front tried;
    linked = λ c some. absurd (let h = none c in omega (arith, h, some));
    ticks = λ alone given shown. inl (let s = ticks_since n front in omega (arith, few, s));
  }

-- ---- what attends a connection

attends_kind : (moments : Option (List ℕ)) (lease : Option Call) (helps : Bool) (c : ℕ) (e : Event) → IsServed moments helps c e → IsServersEvent moments lease e
attends_kind moments lease true c (event.Asked asked) is = workers_call lease asked is
attends_kind moments lease false c (event.Asked asked) is = absurd is
attends_kind moments lease helps c (event.Tick now) (inl ticks) = ticks
attends_kind moments lease helps c (event.Tick now) (inr names) = absurd (cc)
attends_kind moments lease helps c e is = tt

no_close_helped : (helps : Bool) (asked : Call) → IsHelpersCall helps asked → asks_close (event.Asked asked) ≡ false
no_close_helped true call.Close is = absurd is
no_close_helped true asked is = refl
no_close_helped false asked is = absurd is

attends_open : (moments : Option (List ℕ)) (helps : Bool) (c : ℕ) (e : Event) → IsServed moments helps c e → asks_close e ≡ false
attends_open moments helps c (event.Asked asked) is = no_close_helped helps asked is
attends_open moments helps c e is = refl

same_conn : (a b c : ℕ) → (a == b) ≡ true → (a == c) ≡ true → c ≡ b
same_conn a b c one two = grind (arith, nat_tests)

-- the connection that it handles is this one
attends_conn : (moments : Option (List ℕ)) (helps : Bool) (c d : ℕ) (e : Event) → IsServed moments helps c e → (is_of d e || is_cut_of d e) ≡ true → d ≡ c
attends_conn moments helps c d (event.Cut conn) is at = same_conn conn c d (rw is (grind (arith, nat_tests))) at
attends_conn moments helps c d (event.Draw conn room) (inl ticks) at = absurd ticks
attends_conn moments helps c d (event.Draw conn room) (inr names) at = same_conn conn c d names (by (conn == d) at)
  where
    by : (b : Bool) → (b || false) ≡ true → b ≡ true
    by true h = refl
    by false h = h
attends_conn moments helps c d (event.Came conn f) (inl ticks) at = absurd ticks
attends_conn moments helps c d (event.Came conn f) (inr names) at = same_conn conn c d names (by (conn == d) at)
  where
    by : (b : Bool) → (b || false) ≡ true → b ≡ true
    by true h = refl
    by false h = h
attends_conn moments helps c d (event.Bad conn rule) (inl ticks) at = absurd ticks
attends_conn moments helps c d (event.Bad conn rule) (inr names) at = same_conn conn c d names (by (conn == d) at)
  where
    by : (b : Bool) → (b || false) ≡ true → b ≡ true
    by true h = refl
    by false h = h
attends_conn moments helps c d e is at = absurd (cc)

attends_none : (moments : Option (List ℕ)) (helps : Bool) (c : ℕ) (e : Event) → IsServed moments helps c e → is_opening e ≡ false
attends_none moments helps c (event.Open first taken) (inl ticks) = absurd ticks
attends_none moments helps c (event.Open first taken) (inr names) = absurd (cc)
attends_none moments helps c e is = refl

none_opens_by : (P : Frame → Bool → Type 0) (e : Event) → is_opening e ≡ false → OpensBy P e
none_opens_by P (event.Open first taken) none = absurd (cc)
none_opens_by P e none = tt

-- ---- the lease

-- the event asks for the lease that is granted
abbrev pub AsksLease : Option Call → Event → Type 0
AsksLease lease e = (asked : Call) × (lease ≡ Some asked) × (e ≡ event.Asked asked)

lease_kind : (moments : Option (List ℕ)) (lease : Option Call) (e : Event) → AsksLease lease e → IsServersEvent moments lease e
lease_kind moments lease e (asked, granted, is) = subst (IsServersEvent moments lease) (sym is) (by asked granted)
  where
    by : (asked : Call) → lease ≡ Some asked → IsServersEvent moments lease (event.Asked asked)
    by call.Close same = tt
    by other same = inl same

lease_none : (grant : Option ℕ) (e : Event) → AsksLease (lease_of grant) e → asks_close e ≡ false
lease_none None e (asked, granted, is) = absurd (cc)
lease_none (Some count) e (asked, granted, is) = let same : call.Lease lease_ms count None ≡ asked = cc in rw (is, sym same) refl

lease_quiet : (lease : Option Call) (e : Event) → AsksLease lease e → is_opening e ≡ false
lease_quiet lease e asks = rw asks.2 refl

lease_handles : (lease : Option Call) (c : ℕ) (e : Event) → AsksLease lease e → (is_of c e || is_cut_of c e) ≡ true → ⊥
lease_handles lease c e asks is = absurd (let h : false ≡ true = subst (λ v. (is_of c v || is_cut_of c v) ≡ true) asks.2 is in cc)

lease_goes : (g : Settings) (grant : Option ℕ) (n : ℕ) (me : Knowledge) (a : Answer) (leased : List Entry) → me.names ≡ n ∷ [] → Grants g grant me a leased → GoesOnBy (n ∷ []) (λ x. AsksLease (lease_of grant) x.event) me.front leased
lease_goes g None n me a leased names grants = record { more = []; on = grants.1; own = tt }
lease_goes g (Some count) n me a leased names grants =
    subst (λ ns. GoesOnBy ns (λ x. AsksLease (lease_of (Some count)) x.event) me.front leased) names
    (call_goes (AsksLease (lease_of (Some count))) g me (event.Asked (call.Lease lease_ms count None)) a leased (call.Lease lease_ms count None, refl, refl) grants)

first_none : (n : ℕ) (past : List Entry) → IsIdle n past → first_by n past ≡ None
unfolding first_by
first_none n [] idle = refl
first_none n (x ∷ past) idle = rw (first_none n past idle.1) (by (x.who == n) refl)
  where
    by : (b : Bool) → (x.who == n) ≡ b → (if b then Some x else None) ≡ None
    by true is = absurd (idle.0 (grind (arith, nat_tests, is)))
    by false is = refl

first_here : (n : ℕ) (x : Entry) (past : List Entry) → x.who ≡ n → IsIdle n past → first_by n (x ∷ past) ≡ Some x
unfolding first_by
first_here n x past mine idle = rw (first_none n past idle) (let same : (x.who == n) ≡ true = grind (arith, nat_tests, mine) in rw same refl)

refused_leaves : (o : Option Refusal) → leaves (refused_or o answer.Done) ≡ true
refused_leaves None = refl
refused_leaves (Some why) = refl

-- a lease is granted or refused, and leaves an entry
lease_leaves : (g : Settings) (before : List Entry) (count : ℕ) (a : Answer) → a ≡ answer_to g before (event.Asked (call.Lease lease_ms count None)) → leaves a ≡ true
lease_leaves g before count a is = ap leaves is ∙ refused_leaves (refused_call g (facts g before) (call.Lease lease_ms count None))

lease_next : (g : Settings) (grant : Option ℕ) (n : ℕ) (me : Knowledge) (a : Answer) (leased : List Entry) → me.names ≡ n ∷ [] → me.number ≡ n → (a ≡ answer.OutOfMemory → ⊥) → since_open n me.front ≡ [] → Grants g grant me a leased → LeasesNext (lease_of grant) n leased
lease_next g None n me a leased names number memory fresh grants = tt
lease_next g (Some count) n me a leased names number memory fresh called = by (leaves a) refl
  where
    lease : Call
    lease = call.Lease lease_ms count None

    x : Entry
    x = entry_of me.number (event.Asked lease) a

    others : List Entry
    others = called.follows.0

    idle : IsIdle n others
    idle = subst (λ ns. Under ns (λ y. ⊥) others) names (under_others (λ y. ⊥) me.names others called.follows.2)

    since : since_open n (x ∷ (others ++ me.front)) ≡ x ∷ (others ++ [])
    since = since_on n (x ∷ others) me.front (λ some. refl, under_as (n ∷ []) (λ y. ⊥) (λ y. is_opening y.event ≡ false) (λ y no. absurd no) others idle) ∙ ap (λ (l : List Entry). x ∷ (others ++ l)) fresh

    right : (b : Answer) → (b ≡ answer.OutOfMemory → ⊥) → leaves b ≡ false → IsStep g me.number called.before (event.Asked lease) b leased → LeasesNext (Some lease) n leased
    right answer.TapeFull out none step = inl (let full = step.full.0 refl in subst (λ l. 2 ^ 63 ≤ length l) (sym step.after) full)
    right answer.OutOfMemory out none step = absurd (out refl)
    right answer.NotYet out none step = absurd (true≢false (sym (lease_leaves g called.before count answer.NotYet step.answered) ∙ none))
    right (answer.OutBusy q) out none step = absurd (true≢false (sym (lease_leaves g called.before count (answer.OutBusy q) step.answered) ∙ none))
    right b out none step = absurd (cc)

    by : (b : Bool) → leaves a ≡ b → LeasesNext (Some lease) n leased
    by true left =
        let on : leased ≡ x ∷ (others ++ me.front) = called.step.after ∙ rw left (ap (λ (l : List Entry). x ∷ l) called.follows.1) in
        inr (subst (λ (l : List Entry). AsksFor lease (first_by n l)) (sym (ap (since_open n) on ∙ since))
        (subst (AsksFor lease) (sym (first_here n x (others ++ []) number (subst (IsIdle n) (sym (append-nil others)) idle))) refl))
    by false none = right a memory none called.step

-- ---- a caller whose opening was accepted

tried_idle : (moments : Option (List ℕ)) (first : Frame) (taken : Bool) (e : Event) → Tried moments first taken e → IsNoWork e
tried_idle moments first taken (event.Asked asked) (inl ticks) = absurd ticks
tried_idle moments first taken (event.Asked asked) (inr is) = absurd (cc)
tried_idle moments first taken e tried = tt

lease_idle : (grant : Option ℕ) (e : Event) → AsksLease (lease_of grant) e → IsNoWork e
lease_idle None e (asked, granted, is) = absurd (cc)
lease_idle (Some count) e (asked, granted, is) = let same : call.Lease lease_ms count None ≡ asked = cc in subst IsNoWork (sym (is ∙ ap event.Asked (sym same))) (λ works. works)

attends_idle : (moments : Option (List ℕ)) (c : ℕ) (e : Event) → IsServed moments false c e → IsNoWork e
attends_idle moments c (event.Asked asked) is = absurd is
attends_idle moments c e is = tt

rest_goes : (moments : Option (List ℕ)) (helps : Bool) (c n : ℕ) (me : Knowledge) (new : List Entry) → me.names ≡ n ∷ [] → GoesOn (IsServed moments helps c) me new → GoesOnBy (n ∷ []) (λ x. IsServed moments helps c x.event) me.front new
rest_goes moments helps c n me new names goes = record {
  more = goes.more;
  on = goes.on;
  own = subst (λ ns. Under ns (λ x. IsServed moments helps c x.event) goes.more) names (under_as me.names (λ x. (x.who ≡ me.number) × IsServed moments helps c x.event) (λ x. IsServed moments helps c x.event) (λ x h. h.1) goes.more goes.own);
}

one_conn : (c d : ℕ) → 0 < one_if (c == d) → d ≡ c
one_conn c d some = by (c == d) refl some
  where
    by : (b : Bool) → (c == d) ≡ b → 0 < one_if b → d ≡ c
    by true is some = grind (arith, nat_tests)
    by false is some = absurd (omega (arith, some))

-- it handles the connection that it opened, and no other
handles_own : (n c : ℕ) (all past : List Entry) → 0 < opened_by n c all → Under (n ∷ []) (λ x. (d : ℕ) → (is_of d x.event || is_cut_of d x.event) ≡ true → d ≡ c) past → Under (n ∷ []) (IsHandledByOwner all) past
handles_own n c all [] opened h = tt
handles_own n c all (x ∷ past) opened h = (
  λ some d is. subst (λ m. 0 < opened_by m d all) (sym (one_name n x.who some)) (subst (λ m. 0 < opened_by n m all) (sym (h.0 some d is)) opened),
  handles_own n c all past opened h.1,
)

module _ (g : Settings) (moments : Option (List ℕ)) (helps : Bool) (grant : Option ℕ) (all : List (List Entry)) (k i n c : ℕ) (link : Shown) (first : Frame) (taken : Bool) (old mid : Knowledge) (lease : Answer) (new : List Entry)
    (names : old.names ≡ n ∷ []) (number : old.number ≡ n) (on : mid ≡ record old { front = mid.front; note = mid.note }) (idle : IsIdle n old.front)
    (tries : TriesToOpen g moments old first taken (answer.Opened c) mid.front) (attends : Attends g moments helps grant c mid lease new) (memory : lease ≡ answer.OutOfMemory → ⊥) where
  names_mid : mid.names ≡ n ∷ []
  names_mid = ap (λ (x : Knowledge). x.names) on ∙ names

  number_mid : mid.number ≡ n
  number_mid = ap (λ (x : Knowledge). x.number) on ∙ number

  tried : TriedOnce moments n old.front mid.front first taken (answer.Opened c)
  tried = tried_once g moments n old first taken (answer.Opened c) mid.front names tries

  opening : (before : List Entry) × (mid.front ≡ entry_of n (event.Open (Some first) taken) (answer.Opened c) ∷ before)
  opening = let h = accepted_last g moments old first taken c mid.front tries in (h.0, h.1 ∙ ap (λ m. entry_of m (event.Open (Some first) taken) (answer.Opened c) ∷ h.0) number)

  leasing : GoesOnBy (n ∷ []) (λ x. AsksLease (lease_of grant) x.event) mid.front attends.leased
  leasing = lease_goes g grant n mid lease attends.leased names_mid attends.lease

  rest : GoesOnBy (n ∷ []) (λ x. IsServed moments helps c x.event) attends.leased new
  rest = rest_goes moments helps c n (record mid { front = attends.leased; note = None }) new names_mid attends.rest

  -- all that it added since its opening
  since : List Entry
  since = rest.more ++ leasing.more

  since_is : new ≡ since ++ mid.front
  unfolding since
  since_is = rest.on ∙ (ap (λ (l : List Entry). rest.more ++ l) leasing.on ∙ sym (append_assoc rest.more leasing.more mid.front))

  none_rest : Under (n ∷ []) (λ x. is_opening x.event ≡ false) rest.more
  none_rest = under_as (n ∷ []) (λ x. IsServed moments helps c x.event) (λ x. is_opening x.event ≡ false) (λ x h. attends_none moments helps c x.event h) rest.more rest.own

  none_since : Under (n ∷ []) (λ x. is_opening x.event ≡ false) since
  unfolding since
  none_since = all_both (λ x. 0 < times x.who (n ∷ []) → is_opening x.event ≡ false) rest.more leasing.more none_rest
      (under_as (n ∷ []) (λ x. AsksLease (lease_of grant) x.event) (λ x. is_opening x.event ≡ false) (λ x h. lease_quiet (lease_of grant) x.event h) leasing.more leasing.own)

  -- what is said of each kind of its entries holds of all
  each : (P : Entry → Type 0) → ((x : Entry) → Tried moments first taken x.event → P x) → ((x : Entry) → AsksLease (lease_of grant) x.event → P x) → ((x : Entry) → IsServed moments helps c x.event → P x) → Under (n ∷ []) P new
  each P a b d = under_on (n ∷ []) P attends.leased new (goes_as (n ∷ []) (λ x. IsServed moments helps c x.event) P attends.leased new d rest)
      (under_on (n ∷ []) P mid.front attends.leased (goes_as (n ∷ []) (λ x. AsksLease (lease_of grant) x.event) P mid.front attends.leased b leasing)
      (under_on (n ∷ []) P old.front mid.front (goes_as (n ∷ []) (λ x. Tried moments first taken x.event) P old.front mid.front a tried.goes)
      (under_as (n ∷ []) (λ x. ⊥) P (λ x no. absurd no) old.front idle)))

  opened_c : 0 < opened_by n c new
  opened_c =
      let h : 0 < opened_by n c mid.front = subst (λ l. 0 < opened_by n c l) (sym opening.1) (opening_counts n c first taken opening.0).0 in
      let m = opened_more n c since mid.front in
      subst (λ l. 0 < opened_by n c l) (sym since_is) (omega (arith, h, m))

  pub opened_accepts : 0 < accepted_by n new
  opened_accepts =
      let h : 0 < accepted_by n mid.front = subst (λ l. 0 < accepted_by n l) (sym opening.1) (opening_counts n c first taken opening.0).1 in
      subst (λ l. 0 < accepted_by n l) (sym since_is) (subst (λ m. 0 < m) (sym (accepted_on n since mid.front none_since)) h)

  pub opened_opens : opens_by n new ≤ 1
  opened_opens =
      let h = tried.opens in
      let z = idle_opens n old.front idle in
      let m = ap (opens_by n) since_is ∙ opens_on n since mid.front none_since in
      omega (arith, h, z, m)

  only_c : (d : ℕ) → 0 < opened_by n d new → d ≡ c
  only_c d some =
      let h = tried.opened d in
      let z = idle_opened n d old.front idle in
      let m = ap (opened_by n d) since_is ∙ opened_on n d since mid.front none_since in
      one_conn c d (omega (arith, h, z, m, some))

  fresh : since_open n mid.front ≡ []
  fresh = ap (since_open n) opening.1 ∙ since_opening n first taken (answer.Opened c) opening.0

  since_all : since_open n new ≡ since
  since_all = ap (since_open n) since_is ∙ (since_on n since mid.front none_since ∙ (ap (λ (l : List Entry). since ++ l) fresh ∙ append-nil since))

  leased : LeasesNext (lease_of grant) n new
  leased = subst (LeasesNext (lease_of grant) n) (sym rest.on) (leases_on (lease_of grant) n rest.more attends.leased none_rest (lease_next g grant n mid lease attends.leased names_mid number_mid memory fresh attends.lease))

  -- without a work of its own it makes no call of a worker
  pub opened_idle : helps ≡ false → Under (n ∷ []) (λ x. IsNoWork x.event) new
  opened_idle none = each (λ x. IsNoWork x.event) (λ x h. tried_idle moments first taken x.event h) (λ x h. lease_idle grant x.event h) (λ x h. attends_idle moments c x.event (subst (λ b. IsServed moments b c x.event) none h))

  pub opened_knows : MayOpen g all k i link first taken → (IsAlone c n new → Carried g new link c) → (IsHeld c n new → Left g new link c) → (IsAlone c n new → (more : List Entry) → new ≡ more ++ mid.front → AreFewTicks (n ∷ []) more link)
      → KnowsAt g moments (lease_of grant) all k i n new link
  opened_knows may carried left ticks = record {
    kinds = each (λ x. IsServersEvent moments (lease_of grant) x.event) (λ x h. tried_kind g moments (lease_of grant) all k i link first taken may x.event h) (λ x h. lease_kind moments (lease_of grant) x.event h) (λ x h. attends_kind moments (lease_of grant) helps c x.event h);
    no_close = each (λ x. asks_close x.event ≡ false) (λ x h. tried_open g moments (lease_of grant) all k i link first taken may x.event h) (λ x h. lease_none grant x.event h) (λ x h. attends_open moments helps c x.event h);
    handled = handled;
    opens = each (λ x. OpensBy (MayOpen g all k i link) x.event) (λ x h. tried_opens g moments (lease_of grant) all k i link first taken may x.event h) (λ x h. none_opens_by (MayOpen g all k i link) x.event (lease_quiet (lease_of grant) x.event h))
        (λ x h. none_opens_by (MayOpen g all k i link) x.event (attends_none moments helps c x.event h));
    linked = λ d some. subst (λ m. KnowsLink g (lease_of grant) n m new link) (sym (only_c d some)) (record { carried = carried; left = left; leased = leased });
    ticks = λ alone. subst (λ l. AreFewTicks (n ∷ []) l link) (sym since_all) (ticks (alone c opened_c) since since_is);
  }
    where
      handled : Under (n ∷ []) (IsHandledByOwner new) new
      handled = handles_own n c new new opened_c (each (λ x. (d : ℕ) → (is_of d x.event || is_cut_of d x.event) ≡ true → d ≡ c)
          (λ x h d is. absurd (tried_handle g moments (lease_of grant) all k i link first taken may d x.event h is))
          (λ x h d is. absurd (lease_handles (lease_of grant) d x.event h is))
          (λ x h d is. attends_conn moments helps c d x.event h is))

-- ---- the callers of a link

number_is : (callers : List Knowledge) (i n : ℕ) (front : List Entry) → slice_get (numbers callers) i ≡ Some n → slice_get (fronts callers) i ≡ Some front → (me : Knowledge) × (slice_get callers i ≡ Some me) × (me.number ≡ n) × (me.front ≡ front)
number_is [] i n front is at = absurd (cc)
number_is (k ∷ callers) zero n front is at = (k, refl, cc, cc)
number_is (k ∷ callers) (suc i) n front is at = number_is callers i n front is at

back_is : (olds news : List Knowledge) (i : ℕ) (new : Knowledge) → AreBack olds news → slice_get news i ≡ Some new → (old : Knowledge) × (slice_get olds i ≡ Some old) × (new ≡ record old { front = new.front; note = new.note })
back_is [] [] i new back is = absurd (cc)
back_is [] (k ∷ news) i new back is = absurd back
back_is (k ∷ olds) [] i new back is = absurd (cc)
back_is (k ∷ olds) (m ∷ news) zero new back is = (k, refl, by (cc) back.0)
  where
    by : m ≡ new → m ≡ record k { front = m.front; note = m.note } → new ≡ record k { front = new.front; note = new.note }
    by same h = subst (λ (x : Knowledge). x ≡ record k { front = x.front; note = x.note }) same h
back_is (k ∷ olds) (m ∷ news) (suc i) new back is = back_is olds news i new back.1 is

all_at : {A : Type 0} (P : A → Type 0) (xs : List A) (i : ℕ) (x : A) → AllByRecursion P xs → slice_get xs i ≡ Some x → P x
all_at P [] i x all is = absurd (cc)
all_at P (y ∷ xs) zero x all is = subst P (cc) all.0
all_at P (y ∷ xs) (suc i) x all is = all_at P xs i x all.1 is

length_back : (callers : List Knowledge) → length (numbers callers) ≡ length (fronts callers)
length_back [] = refl
length_back (k ∷ callers) = ap suc (length_back callers)

-- a caller that only followed has made no entry
idle_follows : (n : ℕ) (old : Knowledge) (front : List Entry) → IsNewCaller old → old.number ≡ n → Follows old.names old.front front → IsIdle n front
idle_follows n old front fresh number follows =
    let names : old.names ≡ n ∷ [] = fresh.0 ∙ ap (λ m. m ∷ []) number in
    let was = under_others (λ x. ⊥) old.names old.front fresh.1 in
    let more = under_others (λ x. ⊥) old.names follows.0 follows.2 in
    subst (IsIdle n) (sym follows.1) (subst (λ ns. Under ns (λ x. ⊥) (follows.0 ++ old.front)) names (all_both (λ x. 0 < times x.who old.names → ⊥) follows.0 old.front more was))

-- one place of a list counts, and the others have nothing

opens_none : (row : List ℕ) (all : List (List Entry)) → ((i n : ℕ) (front : List Entry) → slice_get row i ≡ Some n → slice_get all i ≡ Some front → opens_by n front ≡ 0) → opens_in row all ≡ 0
opens_none [] all each = refl
opens_none (n ∷ row) [] each = refl
opens_none (n ∷ row) (front ∷ all) each =
    let here = each 0 n front refl refl in
    let rest = opens_none row all (λ i m f is fs. each (suc i) m f is fs) in
    omega (arith, here, rest)

opens_at : (at : ℕ) (row : List ℕ) (all : List (List Entry)) → ((i n : ℕ) (front : List Entry) → slice_get row i ≡ Some n → slice_get all i ≡ Some front → (i ≡ at → opens_by n front ≤ 1) × (i ≢ at → opens_by n front ≡ 0)) → opens_in row all ≤ 1
opens_at at [] all each = omega arith
opens_at at (n ∷ row) [] each = omega arith
opens_at zero (n ∷ row) (front ∷ all) each =
    let here = (each 0 n front refl refl).0 refl in
    let rest = opens_none row all (λ i m f is fs. (each (suc i) m f is fs).1 (λ same. absurd (cc))) in
    omega (arith, here, rest)
opens_at (suc at) (n ∷ row) (front ∷ all) each =
    let here = (each 0 n front refl refl).1 (λ same. absurd (cc)) in
    let rest = opens_at at row all (λ i m f is fs. let h = each (suc i) m f is fs in (λ same. h.0 (ap suc same), λ apart. h.1 (λ same. apart (omega (arith, same))))) in
    omega (arith, here, rest)

accepted_at : (at n : ℕ) (row : List ℕ) (all : List (List Entry)) (front : List Entry) → slice_get row at ≡ Some n → slice_get all at ≡ Some front → 0 < accepted_by n front → 0 < accepted_in row all
accepted_at at n [] all front is here some = absurd (cc)
accepted_at at n (m ∷ row) [] front is here some = absurd (cc)
accepted_at zero n (m ∷ row) (f ∷ all) front is here some =
    let same : m ≡ n = cc in
    let also : f ≡ front = cc in
    let h : 0 < accepted_by m f = subst (λ j. 0 < accepted_by j f) (sym same) (subst (λ l. 0 < accepted_by n l) (sym also) some) in
    omega (arith, h)
accepted_at (suc at) n (m ∷ row) (f ∷ all) front is here some = let h = accepted_at at n row all front is here some in omega (arith, h)

same_got : (a b : Knowledge) (o : Option Knowledge) → o ≡ Some a → o ≡ Some b → a ≡ b
same_got a b o is also = (let both : Some a ≡ Some b = sym is ∙ also in cc)

-- a caller of a link before and after, by its place
record Placed (olds news : List Knowledge) (i n : ℕ) (front : List Entry) : Type 0 where
  old : Knowledge
  new : Knowledge
  was : slice_get olds i ≡ Some old
  is : slice_get news i ≡ Some new
  on : new ≡ record old { front = new.front; note = new.note }
  fresh : IsNewCaller old
  number : old.number ≡ n
  has : new.front ≡ front

placed : (olds news : List Knowledge) (i n : ℕ) (front : List Entry) → AllByRecursion IsNewCaller olds → AreBack olds news → slice_get (numbers news) i ≡ Some n → slice_get (fronts news) i ≡ Some front → Placed olds news i n front
placed olds news i n front fresh back is has =
    let me = number_is news i n front is has in
    let was = back_is olds news i me.0 back me.1 in
    record {
      old = was.0;
      new = me.0;
      was = was.1;
      is = me.1;
      on = was.2;
      fresh = all_at IsNewCaller olds i was.0 fresh was.1;
      number = sym (ap (λ (x : Knowledge). x.number) was.2) ∙ me.2;
      has = me.3;
    }

names_of : (me : Knowledge) (n : ℕ) → IsNewCaller me → me.number ≡ n → me.names ≡ n ∷ []
names_of me n fresh number = fresh.0 ∙ ap (λ m. m ∷ []) number

idle_new : (n : ℕ) (me : Knowledge) → IsNewCaller me → me.number ≡ n → IsIdle n me.front
idle_new n me fresh number = idle_follows n me me.front fresh number ([], refl, λ m some. refl)

front_at : (callers : List Knowledge) (j : ℕ) (k : Knowledge) → slice_get callers j ≡ Some k → slice_get (fronts callers) j ≡ Some k.front
front_at callers j k is = slice_get-map (λ (x : Knowledge). x.front) callers j ∙ ap (option_map (λ (x : Knowledge). x.front)) is

number_at_place : (callers : List Knowledge) (j : ℕ) (k : Knowledge) → slice_get callers j ≡ Some k → slice_get (numbers callers) j ≡ Some k.number
number_at_place callers j k is = slice_get-map (λ (x : Knowledge). x.number) callers j ∙ ap (option_map (λ (x : Knowledge). x.number)) is

taken_in : (at : ℕ) (callers : List Knowledge) (f : Frame) → IsTakenBeside at callers f → IsTakenIn at (fronts callers) f
taken_in at callers (frame.Setup s) (token, place, asked, (apart, (k, is, has))) = (token, place, k.front, asked, apart, front_at callers place k is, has)
taken_in at callers f beside = absurd beside

beside_stays : (at : ℕ) (mids news : List Knowledge) (f : Frame) → StayBeside at mids news → IsTakenBeside at mids f → IsTakenBeside at news f
beside_stays at mids news (frame.Setup s) stays (token, place, asked, (apart, (k, is, has))) = (token, place, asked, (apart, (k, stays place apart ∙ is, has)))
beside_stays at mids news f stays beside = absurd beside

-- ---- no opening was accepted

not_opened : (c : ℕ) (a : Answer) → ((d : ℕ) → a ≢ answer.Opened d) → opens_as c a ≡ false
not_opened c (answer.Opened d) none = absurd (none d refl)
not_opened c a none = refl

unopened_at : (g : Settings) (moments : Option (List ℕ)) (callers : List Knowledge) (link : Shown) (s : Served) → (s ≡ served.OutOfMemory → ⊥) → IsUnopened g moments callers link (s, None) → Unopened g moments (fronts callers) link
unopened_at g moments callers link served.OutOfMemory out is = absurd (out refl)
unopened_at g moments callers link s out is = is

left_at : (g : Settings) (callers : List Knowledge) (link : Shown) (s : Served) (at c : ℕ) → (s ≡ served.OutOfMemory → ⊥) → IsLeft g callers link (s, Some (at, c)) → At callers at (λ me. IsHeld c me.number me.front → Left g me.front link c)
left_at g callers link served.OutOfMemory at c out left = absurd (out refl)
left_at g callers link s at c out left = left

here_or_not : (i at : ℕ) → (i ≡ at) ⊎ (i ≢ at)
here_or_not i at = elim (i == at) as (λ v. (i == at) ≡ v → (i ≡ at) ⊎ (i ≢ at)) [
  | true ↦ λ is. inl (grind (arith, nat_tests))
  | false ↦ λ is. inr (grind (arith, nat_tests))
] refl

none_known : (g : Settings) (moments : Option (List ℕ)) (lease : Option Call) (k : ℕ) (olds news : List Knowledge) (link : Shown) → AllByRecursion IsNewCaller olds → AreBack olds news → news ≡ olds → Unopened g moments (fronts news) link
    → KnowsRow g moments lease k (numbers news) (fronts news) link
none_known g moments lease k olds news link fresh back same unopened = record {
  each = length_back news;
  at = λ i n front is has. idle_knows g moments lease (fronts news) k i n front link (idle i n front is has);
  once = let none = opens_none (numbers news) (fronts news) (λ i n front is has. idle_opens n front (idle i n front is has)) in omega (arith, none);
  unopened = λ none. unopened;
}
  where
    idle : (i n : ℕ) (front : List Entry) → slice_get (numbers news) i ≡ Some n → slice_get (fronts news) i ≡ Some front → IsIdle n front
    idle i n front is has =
        let p = placed olds news i n front fresh back is has in
        let stays : p.old ≡ p.new = same_got p.old p.new (slice_get olds i) p.was (subst (λ (l : List Knowledge). slice_get l i ≡ Some p.new) same p.is) in
        subst (IsIdle n) (ap (λ (x : Knowledge). x.front) stays ∙ p.has) (idle_new n p.old p.fresh p.number)

module _ (g : Settings) (moments : Option (List ℕ)) (lease : Option Call) (k : ℕ) (olds news : List Knowledge) (link : Shown) (fresh : AllByRecursion IsNewCaller olds) (back : AreBack olds news) (o : NoneOpened g moments k olds news link) where
  place : (i n : ℕ) (front : List Entry) → slice_get (numbers news) i ≡ Some n → slice_get (fronts news) i ≡ Some front → Placed olds news i n front
  place i n front is has = placed olds news i n front fresh back is has

  beside_idle : (i n : ℕ) (front : List Entry) → i ≢ o.at → slice_get (numbers news) i ≡ Some n → slice_get (fronts news) i ≡ Some front → IsIdle n front
  beside_idle i n front apart is has =
      let p = place i n front is has in
      let f = o.opens.others i p.old apart p.was in
      let one : f.old ≡ p.old = same_got f.old p.old (slice_get olds i) f.was p.was in
      let two : f.new ≡ p.new = same_got f.new p.new (slice_get news i) f.is p.is in
      let follows : Follows p.old.names p.old.front p.new.front = subst (λ (x : Knowledge). Follows p.old.names p.old.front x.front) two (subst (λ (x : Knowledge). Follows x.names x.front f.new.front) one f.follows) in
      subst (IsIdle n) p.has (idle_follows n p.old p.new.front p.fresh p.number follows)

  tries_here : (n : ℕ) (front : List Entry) → slice_get (numbers news) o.at ≡ Some n → slice_get (fronts news) o.at ≡ Some front → (was : List Entry) × IsIdle n was × TriedOnce moments n was front o.first o.opens.taken o.met
  tries_here n front is has =
      let p = place o.at n front is has in
      let one : o.opens.old ≡ p.old = same_got o.opens.old p.old (slice_get olds o.at) o.opens.was p.was in
      let two : o.opens.new ≡ p.new = same_got o.opens.new p.new (slice_get news o.at) o.opens.is p.is in
      let tries : TriesToOpen g moments p.old o.first o.opens.taken o.met p.new.front = subst (λ (x : Knowledge). TriesToOpen g moments p.old o.first o.opens.taken o.met x.front) two (subst (λ (x : Knowledge). TriesToOpen g moments x o.first o.opens.taken o.met o.opens.new.front) one o.opens.tries) in
      (p.old.front, idle_new n p.old p.fresh p.number, subst (λ l. TriedOnce moments n p.old.front l o.first o.opens.taken o.met) p.has (tried_once g moments n p.old o.first o.opens.taken o.met p.new.front (names_of p.old n p.fresh p.number) tries))

  may_here : MayOpen g (fronts news) k o.at link o.first o.opens.taken
  may_here = record { first = o.is_first; place = o.opens.place; taken = λ in_use. taken_in o.at news o.first (o.opens.beside in_use) }

  refused_at : (i n : ℕ) (front : List Entry) → (i ≡ o.at) ⊎ (i ≢ o.at) → slice_get (numbers news) i ≡ Some n → slice_get (fronts news) i ≡ Some front → KnowsAt g moments lease (fronts news) k i n front link
  refused_at i n front (inr apart) is has = idle_knows g moments lease (fronts news) k i n front link (beside_idle i n front apart is has)
  refused_at i n front (inl here) is has =
      let t = tries_here n front (subst (λ j. slice_get (numbers news) j ≡ Some n) here is) (subst (λ j. slice_get (fronts news) j ≡ Some front) here has) in
      let tried = under_on (n ∷ []) (λ x. Tried moments o.first o.opens.taken x.event) t.0 front t.2.goes (under_as (n ∷ []) (λ x. ⊥) (λ x. Tried moments o.first o.opens.taken x.event) (λ x no. absurd no) t.0 t.1) in
      let few = t.2.ticks in
      let none = idle_ticks n t.0 t.1 in
      tried_knows g moments lease (fronts news) k i link o.first o.opens.taken (subst (λ j. MayOpen g (fronts news) k j link o.first o.opens.taken) (sym here) may_here) n front tried
      (λ c. let h = t.2.opened c in let z = idle_opened n c t.0 t.1 in let m = ap one_if (not_opened c o.met o.refused) in omega (arith, h, z, m)) (omega (arith, few, none))

  pub refused_known : Unopened g moments (fronts news) link → KnowsRow g moments lease k (numbers news) (fronts news) link
  refused_known unopened = record {
    each = length_back news;
    at = λ i n front is has. refused_at i n front (here_or_not i o.at) is has;
    once = opens_at o.at (numbers news) (fronts news) (λ i n front is has. (
      λ here. (let t = tries_here n front (subst (λ j. slice_get (numbers news) j ≡ Some n) here is) (subst (λ j. slice_get (fronts news) j ≡ Some front) here has) in
          let h = t.2.opens in
          let z = idle_opens n t.0 t.1 in
          omega (arith, h, z)),
      λ apart. idle_opens n front (beside_idle i n front apart is has),
    ));
    unopened = λ none. unopened;
  }

-- ---- an opening was accepted

at_is : (callers : List Knowledge) (at : ℕ) (me : Knowledge) (P : Knowledge → Type 0) → slice_get callers at ≡ Some me → At callers at P → P me
at_is callers at me P is h = subst (λ (o : Option Knowledge). IfSome o P) is h

module _ (g : Settings) (moments : Option (List ℕ)) (helps : Bool) (grant : Option ℕ) (k : ℕ) (olds news : List Knowledge) (link : Shown) (s : Served) (at c : ℕ) (fresh : AllByRecursion IsNewCaller olds) (back : AreBack olds news)
    (out : s ≡ served.OutOfMemory → ⊥) (o : Opened g moments helps grant k at c olds news link s) where
  beside_quiet : (i n : ℕ) (front : List Entry) → i ≢ at → slice_get (numbers news) i ≡ Some n → slice_get (fronts news) i ≡ Some front → IsIdle n front
  beside_quiet i n front apart is has =
      let p = placed olds news i n front fresh back is has in
      let f = o.opens.others i p.old apart p.was in
      let one : f.old ≡ p.old = same_got f.old p.old (slice_get olds i) f.was p.was in
      let two : f.new ≡ p.new = same_got f.new p.new (slice_get news i) (o.others i apart ∙ f.is) p.is in
      let follows : Follows p.old.names p.old.front p.new.front = subst (λ (x : Knowledge). Follows p.old.names p.old.front x.front) two (subst (λ (x : Knowledge). Follows x.names x.front f.new.front) one f.follows) in
      subst (IsIdle n) p.has (idle_follows n p.old p.new.front p.fresh p.number follows)

  -- the caller whose opening was accepted, before, just after, and now
  record Attended (n : ℕ) (front : List Entry) : Type 0 where
    old : Knowledge
    names : old.names ≡ n ∷ []
    number : old.number ≡ n
    on : o.old ≡ record old { front = o.old.front; note = o.old.note }
    idle : IsIdle n old.front
    tries : TriesToOpen g moments old o.first o.opens.taken (answer.Opened c) o.old.front
    attends : Attends g moments helps grant c o.old o.lease front
    new_number : o.new.number ≡ n
    new_names : o.new.names ≡ n ∷ []
    new_front : o.new.front ≡ front

  attended : (n : ℕ) (front : List Entry) → slice_get (numbers news) at ≡ Some n → slice_get (fronts news) at ≡ Some front → Attended n front
  attended n front is has =
      let p = placed olds news at n front fresh back is has in
      let b = back_is olds o.mid at o.old o.same o.was in
      let one : o.opens.old ≡ p.old = same_got o.opens.old p.old (slice_get olds at) o.opens.was p.was in
      let mid : o.opens.new ≡ o.old = same_got o.opens.new o.old (slice_get o.mid at) o.opens.is o.was in
      let two : o.new ≡ p.new = same_got o.new p.new (slice_get news at) o.is p.is in
      let three : b.0 ≡ p.old = same_got b.0 p.old (slice_get olds at) b.1 p.was in
      let has_it : o.new.front ≡ front = ap (λ (x : Knowledge). x.front) two ∙ p.has in
      let names = names_of p.old n p.fresh p.number in
      record {
        old = p.old;
        names = names;
        number = p.number;
        on = subst (λ (x : Knowledge). o.old ≡ record x { front = o.old.front; note = o.old.note }) three b.2;
        idle = idle_new n p.old p.fresh p.number;
        tries = subst (λ (x : Knowledge). TriesToOpen g moments p.old o.first o.opens.taken (answer.Opened c) x.front) mid (subst (λ (x : Knowledge). TriesToOpen g moments x o.first o.opens.taken (answer.Opened c) o.opens.new.front) one o.opens.tries);
        attends = subst (Attends g moments helps grant c o.old o.lease) has_it o.attends;
        new_number = ap (λ (x : Knowledge). x.number) two ∙ (ap (λ (x : Knowledge). x.number) p.on ∙ p.number);
        new_names = ap (λ (x : Knowledge). x.names) two ∙ (ap (λ (x : Knowledge). x.names) p.on ∙ names);
        new_front = has_it;
      }

  no_want : o.lease ≡ answer.OutOfMemory → ⊥
  no_want is = out (o.memory is)

  may_at : MayOpen g (fronts news) k at link o.first o.opens.taken
  may_at = record { first = o.is_first; place = o.opens.place; taken = λ in_use. taken_in at news o.first (beside_stays at o.mid news o.first o.others (o.opens.beside in_use)) }

  opened_at : IsCarried g news link (s, Some (at, c)) → IsLeft g news link (s, Some (at, c)) → (i n : ℕ) (front : List Entry) → (i ≡ at) ⊎ (i ≢ at) → slice_get (numbers news) i ≡ Some n → slice_get (fronts news) i ≡ Some front
      → KnowsAt g moments (lease_of grant) (fronts news) k i n front link
  opened_at carried left i n front (inr apart) is has = idle_knows g moments (lease_of grant) (fronts news) k i n front link (beside_quiet i n front apart is has)
  opened_at carried left i n front (inl here) is has =
      let a = attended n front (subst (λ j. slice_get (numbers news) j ≡ Some n) here is) (subst (λ j. slice_get (fronts news) j ≡ Some front) here has) in
      let carries : IsAlone c o.new.number o.new.front → Carried g o.new.front link c = at_is news at o.new (λ me. IsAlone c me.number me.front → Carried g me.front link c) o.is carried in
      let leaves_it : IsHeld c o.new.number o.new.front → Left g o.new.front link c = at_is news at o.new (λ me. IsHeld c me.number me.front → Left g me.front link c) o.is (left_at g news link s at c out left) in
      opened_knows g moments helps grant (fronts news) k i n c link o.first o.opens.taken a.old o.old o.lease front a.names a.number a.on a.idle a.tries a.attends no_want
      (subst (λ j. MayOpen g (fronts news) k j link o.first o.opens.taken) (sym here) may_at)
      (subst (λ l. IsAlone c n l → Carried g l link c) a.new_front (subst (λ m. IsAlone c m o.new.front → Carried g o.new.front link c) a.new_number carries))
      (subst (λ l. IsHeld c n l → Left g l link c) a.new_front (subst (λ m. IsHeld c m o.new.front → Left g o.new.front link c) a.new_number leaves_it))
      (subst (λ l. IsAlone c n l → (more : List Entry) → l ≡ more ++ o.old.front → AreFewTicks (n ∷ []) more link) a.new_front
      (subst (λ ns. IsAlone c n o.new.front → (more : List Entry) → o.new.front ≡ more ++ o.old.front → AreFewTicks ns more link) a.new_names
      (subst (λ m. IsAlone c m o.new.front → (more : List Entry) → o.new.front ≡ more ++ o.old.front → AreFewTicks o.new.names more link) a.new_number o.ticks)))

  accepts_at : (n : ℕ) (front : List Entry) → slice_get (numbers news) at ≡ Some n → slice_get (fronts news) at ≡ Some front → (0 < accepted_by n front) × (opens_by n front ≤ 1)
  accepts_at n front is has =
      let a = attended n front is has in (
        opened_accepts g moments helps grant (fronts news) k at n c link o.first o.opens.taken a.old o.old o.lease front a.names a.number a.on a.idle a.tries a.attends no_want,
        opened_opens g moments helps grant (fronts news) k at n c link o.first o.opens.taken a.old o.old o.lease front a.names a.number a.on a.idle a.tries a.attends no_want,
      )

  pub opened_known : IsCarried g news link (s, Some (at, c)) → IsLeft g news link (s, Some (at, c)) → KnowsRow g moments (lease_of grant) k (numbers news) (fronts news) link
  opened_known carried left = record {
    each = length_back news;
    at = λ i n front is has. opened_at carried left i n front (here_or_not i at) is has;
    once = opens_at at (numbers news) (fronts news) (λ i n front is has. (
      λ here. (accepts_at n front (subst (λ j. slice_get (numbers news) j ≡ Some n) here is) (subst (λ j. slice_get (fronts news) j ≡ Some front) here has)).1,
      λ apart. idle_opens n front (beside_quiet i n front apart is has),
    ));
    unopened = λ none. absurd (
        let is = number_at_place news at o.new o.is in
        let has = front_at news at o.new o.is in
        let some = accepted_at at o.new.number (numbers news) (fronts news) o.new.front is has (accepts_at o.new.number o.new.front is has).0 in
        omega (arith, none, some)
        );
  }

-- ---- calls of workers at another slot than its own

resume_is : (f : Frame) → resumes f ≡ true → (r : Resume) × (f ≡ frame.Resume r)
resume_is (frame.Resume r) is = (r, refl)
resume_is f is = absurd (cc)

not_false : (b : Bool) → (b ≡ false → ⊥) → b ≡ true
not_false true never = refl
not_false false never = absurd (never refl)

legal_earlier : (g : Settings) (more past : List Entry) → Legal g (more ++ past) → Legal g past
unfolding Legal
legal_earlier g [] past legal = legal
legal_earlier g (x ∷ more) past legal = legal_earlier g more past legal.0

-- no RESUME was accepted where there is no resumption
none_resumed : (g : Settings) (before : List Entry) (x : Entry) (r : Resume) (taken : Bool) (c : ℕ) → Legal g (x ∷ before) → g.resume ≡ false → x.event ≡ event.Open (Some (frame.Resume r)) taken → x.answer ≡ answer.Opened c → ⊥
unfolding Legal
none_resumed g before x r taken c legal off is answered =
    resumes_none g before r taken c legal.0 off (subst (λ e. answer_to g before e ≡ answer.Opened c) is (sym legal.1.answered ∙ answered))

IsIdleBeside : Bool → ℕ → List Knowledge → Type 0
IsIdleBeside helps k callers = (i n : ℕ) (front : List Entry) → (helps ≡ true → i ≢ k) → slice_get (numbers callers) i ≡ Some n → slice_get (fronts callers) i ≡ Some front → Under (n ∷ []) (λ x. IsNoWork x.event) front

idle_quiet : (n : ℕ) (front : List Entry) → IsIdle n front → Under (n ∷ []) (λ x. IsNoWork x.event) front
idle_quiet n front idle = under_as (n ∷ []) (λ x. ⊥) (λ x. IsNoWork x.event) (λ x no. absurd no) front idle

module _ (g : Settings) (moments : Option (List ℕ)) (helps : Bool) (grant : Option ℕ) (k : ℕ) (olds news : List Knowledge) (link : Shown) (s : Served) (fresh : AllByRecursion IsNewCaller olds) (back : AreBack olds news)
    (legal : AllByRecursion (λ (me : Knowledge). Legal g me.front) news) (off : helps ≡ true → g.resume ≡ false) (out : s ≡ served.OutOfMemory → ⊥) where
  refused_beside : (o : NoneOpened g moments k olds news link) → IsIdleBeside helps k news
  unfolding IsIdleBeside
  refused_beside o i n front apart is has = by (here_or_not i o.at)
    where
      by : (i ≡ o.at) ⊎ (i ≢ o.at) → Under (n ∷ []) (λ x. IsNoWork x.event) front
      by (inr beside) = idle_quiet n front (beside_idle g moments None k olds news link fresh back o i n front beside is has)
      by (inl here) =
          let t = tries_here g moments None k olds news link fresh back o n front (subst (λ j. slice_get (numbers news) j ≡ Some n) here is) (subst (λ j. slice_get (fronts news) j ≡ Some front) here has) in
          under_on (n ∷ []) (λ x. IsNoWork x.event) t.0 front (goes_as (n ∷ []) (λ x. Tried moments o.first o.opens.taken x.event) (λ x. IsNoWork x.event) t.0 front (λ x h. tried_idle moments o.first o.opens.taken x.event h) t.2.goes) (idle_quiet n t.0 t.1)

  opened_beside : (at c : ℕ) → Opened g moments helps grant k at c olds news link s → IsIdleBeside helps k news
  unfolding IsIdleBeside
  opened_beside at c o i n front apart is has = by (here_or_not i at)
    where
      here_is : i ≡ at → Attended g moments helps grant k olds news link s at c fresh back out o n front
      here_is here = attended g moments helps grant k olds news link s at c fresh back out o n front (subst (λ j. slice_get (numbers news) j ≡ Some n) here is) (subst (λ j. slice_get (fronts news) j ≡ Some front) here has)

      quiet : i ≡ at → helps ≡ false → Under (n ∷ []) (λ x. IsNoWork x.event) front
      quiet here none = let a = here_is here in opened_idle g moments helps grant (fronts news) k at n c link o.first o.opens.taken a.old o.old o.lease front a.names a.number a.on a.idle a.tries a.attends (no_want g moments helps grant k olds news link s at c fresh back out o) none

      -- with one it would be a RESUME
      resumed : i ≡ at → helps ≡ true → ⊥
      resumed here works =
          let a = here_is here in
          let r = resume_is o.first (not_false (resumes o.first) (λ none. apart works (here ∙ o.opens.place none))) in
          let last = accepted_last g moments a.old o.first o.opens.taken c o.old.front a.tries in
          let p = placed olds news i n front fresh back is has in
          let whole : Legal g front = subst (Legal g) p.has (all_at (λ (me : Knowledge). Legal g me.front) news i p.new legal p.is) in
          let more = since_is g moments helps grant (fronts news) k at n c link o.first o.opens.taken a.old o.old o.lease front a.names a.number a.on a.idle a.tries a.attends (no_want g moments helps grant k olds news link s at c fresh back out o) in
          let early : Legal g o.old.front = legal_earlier g _ o.old.front (subst (Legal g) more whole) in
          none_resumed g last.0 _ r.0 o.opens.taken c (subst (Legal g) last.1 early) (off works) (ap (λ f. event.Open (Some f) o.opens.taken) r.1) refl

      works_or_not : (b : Bool) → helps ≡ b → i ≡ at → Under (n ∷ []) (λ x. IsNoWork x.event) front
      works_or_not true works here = absurd (resumed here works)
      works_or_not false none here = quiet here none

      by : (i ≡ at) ⊎ (i ≢ at) → Under (n ∷ []) (λ x. IsNoWork x.event) front
      by (inr beside) = idle_quiet n front (beside_quiet g moments helps grant k olds news link s at c fresh back out o i n front beside is has)
      by (inl here) = works_or_not helps refl here

  none_beside : news ≡ olds → IsIdleBeside helps k news
  unfolding IsIdleBeside
  none_beside same i n front apart is has =
      let p = placed olds news i n front fresh back is has in
      let stays : p.old ≡ p.new = same_got p.old p.new (slice_get olds i) p.was (subst (λ (l : List Knowledge). slice_get l i ≡ Some p.new) same p.is) in
      idle_quiet n front (subst (IsIdle n) (ap (λ (x : Knowledge). x.front) stays ∙ p.has) (idle_new n p.old p.fresh p.number))

  pub works_at_home : (opened : Option (ℕ × ℕ)) → Adds g moments helps grant k olds news link (s, opened) → (i n : ℕ) (front : List Entry) → (helps ≡ true → i ≢ k) → slice_get (numbers news) i ≡ Some n → slice_get (fronts news) i ≡ Some front → Under (n ∷ []) (λ x. IsNoWork x.event) front
  unfolding IsIdleBeside
  works_at_home None (inl same) = none_beside same
  works_at_home None (inr refused) = refused_beside refused
  works_at_home (Some (at, c)) adds = opened_beside at c adds

-- ---- the law

pub link_known : (g : Settings) (moments : Option (List ℕ)) (helps : Bool) (grant : Option ℕ) (k : ℕ) (olds news : List Knowledge) (link : Shown) (s : Served) (opened : Option (ℕ × ℕ)) → AllByRecursion IsNewCaller olds → AreBack olds news → s ≢ served.OutOfMemory
    → Adds g moments helps grant k olds news link (s, opened) → IsCarried g news link (s, opened) → IsLeft g news link (s, opened) → IsUnopened g moments news link (s, opened) → KnowsRow g moments (lease_of grant) k (numbers news) (fronts news) link
link_known g moments helps grant k olds news link s None fresh back out (inl same) carried left unopened = none_known g moments (lease_of grant) k olds news link fresh back same (unopened_at g moments news link s out unopened)
link_known g moments helps grant k olds news link s None fresh back out (inr refused) carried left unopened = refused_known g moments (lease_of grant) k olds news link fresh back refused (unopened_at g moments news link s out unopened)
link_known g moments helps grant k olds news link s (Some (at, c)) fresh back out adds carried left unopened = opened_known g moments helps grant k olds news link s at c fresh back out adds carried left
