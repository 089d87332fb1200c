-- What is known of a slot once its last caller has taken in all others.
use Rattle.std.specs.List.{AllByRecursion}
use Rattle.std.proofs.Common.{◌≡◌, ◌<◌, ◌∙◌, ◌⊎◌, inl, inr, ℕ, Bool, true, false, List, [], ◌∷◌, ◌++◌, slice_get, Option, Some, None, IfSome, is_some, refl, sym, ap, subst}
use Rattle.rs_wire.specs.declared.call.Call.{Call}
use Rattle.rs_wire.specs.declared.call.Call.TheVariants as call
use Rattle.rs_wire.specs.declared.settings.Settings.{Settings}
use Rattle.tape.specs.declared.event.Event.{Event}
use Rattle.tape.specs.declared.event.Event.TheVariants as event
use Rattle.tape.specs.declared.entry.Entry.{Entry}
use Rattle.session_model.specs.Legal.{Fair, Legal}
use Rattle.conn_lock.specs.Callers.{calls, times}
use Rattle.conn_shared.specs.Lines.{who_of}
use Rattle.conn_shared.specs.Members.{Knowledge}
use Rattle.pump.specs.Turns.{GoesOn}
use Rattle.handlers.specs.Listed.{Listed}
use Rattle.workers.specs.declared.job.OpenJob.{OpenJob}
use Rattle.workers.specs.Courses.{IsNoWork}
use Rattle.workers.specs.Serving.{Serving}
use Rattle.workers.proofs.Fronts.{answered_between}
use Rattle.workers.proofs.Waiting.{serving_waits}
use Rattle.server.specs.Attending.{IsHelped, KeepsWork}
use Rattle.serve_model.specs.Names.{AreNamed, GoesOnBy, Under}
use Rattle.serve_model.proofs.Names.{goes_as, goes_both, under_as, under_joined, under_on}
use Rattle.serve_slots.specs.Callers.{JoinedAll}
use Rattle.serve_laws.specs.Knowing.{HasNoMore, IsEndingEvent, IsWorkersEvent, KnowsJobs, KnowsOwn, KnowsSlot, KnowsWork}
use Rattle.serve_laws.specs.Tapes.{number_at}
use Rattle.serve_laws.proofs.Events.{name_here, one_name, workers_end}
use Rattle.serve_laws.proofs.Taking.{are_named, others_go_on, under_others}
use Rattle.serve_fold.specs.Slots.{EndsSlot, IsClosing, jobs_in, names_in}
use Rattle.serve_fold.proofs.Joined.{in_first, joined_each, joined_first, joined_names, joined_number, own_all_joined, serving_all_joined, work_all_joined}

-- ---- kinds of events

closing_ends : (e : Event) → IsClosing e → IsEndingEvent e
closing_ends (event.Asked asked) is = subst (λ (c : Call). IsEndingEvent (event.Asked c)) (sym is) tt
closing_ends (event.Cut conn) is = tt
closing_ends e is = absurd is

closing_idle : (e : Event) → IsClosing e → IsNoWork e
closing_idle (event.Asked asked) is = subst (λ (c : Call). IsNoWork (event.Asked c)) (sym is) (λ works. works)
closing_idle (event.Cut conn) is = tt
closing_idle e is = absurd is

helped_works : (helps : Bool) (e : Event) → IsHelped helps e → IsWorkersEvent e
helped_works true (event.Asked asked) is = is
helped_works false (event.Asked asked) is = absurd is
helped_works true e is = absurd is
helped_works false e is = absurd is

helped_none : (e : Event) → IsHelped false e → ⊥
helped_none (event.Asked asked) is = is
helped_none e is = is

-- ---- how the list goes on

goes_by : (P : Event → Type 0) (me : Knowledge) (new : List Entry) → GoesOn P me new → GoesOnBy me.names (λ x. (x.who ≡ me.number) × P x.event) me.front new
goes_by P me new goes = record { more = goes.more; on = goes.on; own = goes.own }

-- what holds of the first caller's entries and of all others' holds of all
under_all_joined : (P : Entry → Type 0) (m : Knowledge) (ks : List Knowledge) (n : Knowledge) → JoinedAll m ks n → Under m.names P m.front → AllByRecursion (λ (k : Knowledge). Under k.names P k.front) ks → Under n.names P n.front
under_all_joined P m [] n same own all = subst (λ (x : Knowledge). Under x.names P x.front) (sym same) own
under_all_joined P m (k ∷ ks) n (mid, one, rest) own all =
    under_all_joined P mid ks n rest
    (subst (λ ns. Under ns P mid.front) (sym one.names) (under_joined m.names k.names P mid.front
    (under_on m.names P m.front mid.front (others_go_on P m.names m.front mid.front one.first) own)
    (under_on k.names P k.front mid.front (others_go_on P k.names k.front mid.front one.second) all.0))) all.1

all_idle : (n : ℕ) (ks : List Knowledge) → AllByRecursion (λ (k : Knowledge). Under k.names (λ x. IsNoWork x.event) k.front) ks → AllByRecursion (λ (k : Knowledge). Under k.names (λ x. IsNoWork x.event ⊎ (x.who ≡ n)) k.front) ks
all_idle n [] all = tt
all_idle n (k ∷ ks) all = (under_as k.names (λ x. IsNoWork x.event) (λ x. IsNoWork x.event ⊎ (x.who ≡ n)) (λ x h. inl h) k.front all.0, all_idle n ks all.1)

-- the entries of a caller of one name carry it
own_name : (n : ℕ) (past : List Entry) → Under (n ∷ []) (λ x. IsNoWork x.event ⊎ (x.who ≡ n)) past
own_name n [] = tt
own_name n (x ∷ past) = (λ some. inr (one_name n x.who some), own_name n past)

-- ---- the slot

module _ (helps : Bool) (own : Knowledge) (others workers : List Knowledge) (mid closed rest last : Knowledge) (e : EndsSlot helps own others workers mid closed rest last) where
  names_closed : closed.names ≡ mid.names
  names_closed = ap (λ (x : Knowledge). x.names) e.closed_is

  names_rest : rest.names ≡ mid.names
  names_rest = ap (λ (x : Knowledge). x.names) e.rest_is ∙ names_closed

  number_mid : mid.number ≡ own.number
  number_mid = (joined_number own others mid e.took).0

  number_closed : closed.number ≡ own.number
  number_closed = ap (λ (x : Knowledge). x.number) e.closed_is ∙ number_mid

  -- under the names of the links' callers there are calls of the last one alone, of these kinds
  goes_after : (P : Entry → Type 0) → ((x : Entry) → x.who ≡ own.number → IsClosing x.event → P x) → ((x : Entry) → x.who ≡ own.number → IsHelped helps x.event → P x) → GoesOnBy mid.names P mid.front last.front
  goes_after P closing serving = goes_both mid.names P mid.front closed.front last.front
      (goes_as mid.names (λ x. (x.who ≡ mid.number) × IsClosing x.event) P mid.front closed.front (λ x h. closing x (h.0 ∙ number_mid) h.1) (goes_by IsClosing mid closed.front e.closes))
      (goes_both mid.names P closed.front rest.front last.front
      (subst (λ ns. GoesOnBy ns P closed.front rest.front) names_closed
      (goes_as closed.names (λ x. (x.who ≡ closed.number) × IsHelped helps x.event) P closed.front rest.front (λ x h. serving x (h.0 ∙ number_closed) h.1) (goes_by (IsHelped helps) closed rest.front e.serves)))
      (subst (λ ns. GoesOnBy ns P rest.front last.front) names_rest (others_go_on P rest.names rest.front last.front (joined_first rest workers last e.worked))))

  last_names : last.names ≡ mid.names ++ names_in workers
  last_names = joined_names rest workers last e.worked ∙ ap (λ (l : List ℕ). l ++ names_in workers) names_rest

  pub all_named : ((x : ℕ) → times x last.names ≡ 0 → calls who_of x last.front ≡ 0) → AreNamed (mid.names ++ names_in workers) last.front
  all_named named = subst (λ ns. AreNamed ns last.front) last_names (are_named last.names last.front named)

  pub slot_known : (g : Settings) (moments : Option (List ℕ)) (lease : Option Call) (rows : List (List ℕ)) (i : ℕ) (routes : List Listed) → Legal g last.front → Fair g last.front → ((x : ℕ) → times x last.names ≡ 0 → calls who_of x last.front ≡ 0)
      → KnowsOwn moments lease rows i own.names own.front → AllByRecursion (λ (k : Knowledge). KnowsOwn moments lease rows i k.names k.front) others → AllByRecursion (λ (k : Knowledge). KnowsWork routes k.names k.front) workers
      → ((k l n : ℕ) → number_at rows k i ≡ Some n → number_at rows l i ≡ Some n → k ≡ l) → KnowsSlot g moments lease rows i mid.names (names_in workers) mid.front last.front
  slot_known g moments lease rows i routes legal fair named knows all work apart = record {
    legal = legal;
    fair = fair;
    named = all_named named;
    own = own_all_joined moments lease rows i own others mid e.took knows all;
    ends = goes_after (λ x. IsEndingEvent x.event) (λ x mine is. closing_ends x.event is) (λ x mine is. workers_end x.event (helped_works helps x.event is));
    works = (work_all_joined routes rest workers last e.worked work).works;
    apart = apart;
  }

  -- ---- its jobs

  rest_serving : (routes : List Listed) (was now : Option (List OpenJob)) → helps ≡ is_some was → KeepsWork closed.names routes closed.front rest.front was now → IfSome now (λ work. work ≡ []) → Serving closed.names closed.front routes (jobs_in was) → Serving closed.names rest.front routes []
  rest_serving routes None now none keeps empty serving =
      let goes = goes_by (IsHelped helps) closed rest.front e.serves in
      subst (λ l. Serving closed.names l routes []) (sym goes.on)
      (serving_waits closed.names closed.front goes.more routes [] (under_as closed.names (λ x. (x.who ≡ closed.number) × IsHelped helps x.event) (λ x. IsNoWork x.event) (λ x h. absurd (helped_none x.event (subst (λ b. IsHelped b x.event) none h.1))) goes.more goes.own) serving)
  rest_serving routes (Some was) None some keeps empty serving = absurd keeps
  rest_serving routes (Some was) (Some now) some keeps empty serving = subst (Serving closed.names rest.front routes) empty (keeps serving)

  all_serving : (routes : List Listed) (was now : Option (List OpenJob)) → helps ≡ is_some was → KeepsWork closed.names routes closed.front rest.front was now → IfSome now (λ work. work ≡ []) → Serving own.names own.front routes (jobs_in was)
      → AllByRecursion (λ (k : Knowledge). Under k.names (λ x. IsNoWork x.event) k.front) others → Serving mid.names last.front routes []
  all_serving routes was now works keeps empty serving idle =
      let at_mid : Serving mid.names mid.front routes (jobs_in was) = serving_all_joined routes (jobs_in was) own others mid e.took serving idle in
      let closing = goes_by IsClosing mid closed.front e.closes in
      let at_close : Serving mid.names closed.front routes (jobs_in was) = subst (λ l. Serving mid.names l routes (jobs_in was)) (sym closing.on)
      (serving_waits mid.names mid.front closing.more routes (jobs_in was) (under_as mid.names (λ x. (x.who ≡ mid.number) × IsClosing x.event) (λ x. IsNoWork x.event) (λ x h. closing_idle x.event h.1) closing.more closing.own) at_mid) in
      let at_rest : Serving closed.names rest.front routes [] = rest_serving routes was now works keeps empty (subst (λ ns. Serving ns closed.front routes (jobs_in was)) (sym names_closed) at_close) in
      let last_on = joined_first rest workers last e.worked in
      subst (λ l. Serving mid.names l routes []) (sym last_on.1)
      (serving_waits mid.names rest.front last_on.0 routes [] (subst (λ ns. Under ns (λ x. IsNoWork x.event) last_on.0) names_rest (under_others (λ x. IsNoWork x.event) rest.names last_on.0 last_on.2))
      (subst (λ ns. Serving ns rest.front routes []) names_closed at_rest))

  no_more_on : (g : Settings) (j : ℕ) (k : Knowledge) → slice_get workers j ≡ Some k → HasNoMore g k.front → HasNoMore g last.front
  no_more_on g j k is (n, old, a, ended) =
      let on = joined_each rest workers last j k e.worked is in
      (n, old, a, (answered_between g n old old k.front last.front call.TakeJob a ([], refl) (on.0, on.1) ended.0, ended.1))

  pub jobs_known : (g : Settings) (routes : List Listed) (was now : Option (List OpenJob)) (j : ℕ) (k : Knowledge) → own.names ≡ own.number ∷ [] → helps ≡ is_some was → KeepsWork closed.names routes closed.front rest.front was now → IfSome now (λ work. work ≡ [])
      → Serving own.names own.front routes (jobs_in was) → AllByRecursion (λ (k : Knowledge). Under k.names (λ x. IsNoWork x.event) k.front) others → AllByRecursion (λ (k : Knowledge). KnowsWork routes k.names k.front) workers
      → slice_get workers j ≡ Some k → HasNoMore g k.front → KnowsJobs g routes mid.names (names_in workers) own.number last.front
  jobs_known g routes was now j k one works keeps empty serving idle work is no_more = record {
    there = subst (λ ns. 0 < times own.number ns) (sym (joined_names own others mid e.took)) (in_first own.number own.names (names_in others) (subst (λ ns. 0 < times own.number ns) (sym one) (name_here own.number)));
    one = under_on mid.names (λ x. IsNoWork x.event ⊎ (x.who ≡ own.number)) mid.front last.front (goes_after (λ x. IsNoWork x.event ⊎ (x.who ≡ own.number)) (λ x mine is. inr mine) (λ x mine is. inr mine))
        (under_all_joined (λ x. IsNoWork x.event ⊎ (x.who ≡ own.number)) own others mid e.took (subst (λ ns. Under ns (λ x. IsNoWork x.event ⊎ (x.who ≡ own.number)) own.front) (sym one) (own_name own.number own.front)) (all_idle own.number others idle));
    served = all_serving routes was now works keeps empty serving idle;
    work = work_all_joined routes rest workers last e.worked work;
    no_more = no_more_on g j k is no_more;
  }
