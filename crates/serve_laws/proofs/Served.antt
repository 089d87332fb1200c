-- What a link's callers did holds of the tapes, once all callers are taken in.
use Rattle.std.specs.List.{AllByRecursion}
use Rattle.std.proofs.lemmas.Bool.Decides.{nat_tests}
use Rattle.std.proofs.Common.{◌≡◌, ◌<◌, ◌&&◌, ◌∙◌, ℕ, Bool, true, false, nat_lt, List, [], ◌∷◌, ◌++◌, length, slice_get, Option, Some, None, refl, sym, ap, subst, arith}
use Rattle.rs_wire.specs.declared.call.Call.{Call}
use Rattle.rs_wire.specs.declared.settings.Settings.{Settings}
use Rattle.rs_frame.specs.declared.frame.Frame.{Frame}
use Rattle.rs_frame.specs.declared.frame.Frame.TheVariants as frame
use Rattle.rs_frame.specs.declared.frame.Setup.{Setup}
use Rattle.outside.specs.Links.{Shown}
use Rattle.tape.specs.declared.entry.Entry.{Entry}
use Rattle.tape.specs.declared.event.Event.{Event}
use Rattle.tape.specs.declared.event.Event.TheVariants as event
use Rattle.session_model.specs.Life.{asked_token, setup}
use Rattle.session_laws.proofs.OpenedOnce.{opened_once, setup_stays}
use Rattle.conn_lock.specs.Callers.{times}
use Rattle.link_model.specs.Carrying.{IsAlone}
use Rattle.link_laws.specs.Staying.{asks_close}
use Rattle.link_laws.specs.Unopened.{AreEarlier}
use Rattle.link_laws.proofs.Unopened.{unopened_later}
use Rattle.server.specs.Attending.{AreFewTicks, is_tick, ticks_by}
use Rattle.serve_model.specs.Counts.{accepted_by, opened_by, opens_by, since_open}
use Rattle.serve_model.specs.Names.{GoesOnBy, Under}
use Rattle.serve_model.specs.Order.{HasNoClose, IsHandledByOwner, IsOwn, IsQuiet, is_opening}
use Rattle.serve_model.proofs.Counts.{accepted_on, if_zero, opened_more, opened_on, opens_on, since_on}
use Rattle.serve_model.proofs.Linked.{is_linked}
use Rattle.serve_model.proofs.Names.{all_earlier, goes_as, goes_both, goes_fewer, under_as, under_on}
use Rattle.serve_model.proofs.Owners.{opener_alone}
use Rattle.serve_laws.specs.Knowing.{IsEndingEvent, KnowsAt, KnowsRow, WasTakenIn}
use Rattle.serve_laws.specs.Links.{DidAt, IsServedLink, IsTakenIn, MayOpen, OpensBy}
use Rattle.serve_laws.proofs.Events.{ending_quiet, one_name, quiet_opens, quiet_opens_by, quiet_ticks}
use Rattle.serve_laws.proofs.Rows.{accepted_stay, earlier_at, earlier_of, opens_stay, there_too}
use Rattle.serve_laws.proofs.Tape.{handled_until, no_close_until, own_all}

-- ---- a caller that was taken in

-- it added calls and cuts alone
pub goes_quietly : (g : Settings) (moments : Option (List ℕ)) (lease : Option Call) (rows : List (List ℕ)) (i n : ℕ) (front past : List Entry) → WasTakenIn g moments lease rows i n front past → GoesOnBy (n ∷ []) (λ x. IsQuiet x.event) front past
goes_quietly g moments lease rows i n front past taken =
    goes_both (n ∷ []) (λ x. IsQuiet x.event) front taken.mid past
    (goes_as (n ∷ []) (λ x. ⊥) (λ x. IsQuiet x.event) front taken.mid (λ x no. absurd no) taken.goes)
    (goes_as (n ∷ []) (λ x. IsEndingEvent x.event) (λ x. IsQuiet x.event) taken.mid past (λ x ends. ending_quiet x.event ends)
    (goes_fewer taken.names (n ∷ []) (λ x. IsEndingEvent x.event) taken.mid past (λ m some. subst (λ k. 0 < times k taken.names) (sym (one_name n m some)) taken.there) taken.slot.ends))

none_opens : (n : ℕ) (front past : List Entry) (goes : GoesOnBy (n ∷ []) (λ x. IsQuiet x.event) front past) → Under (n ∷ []) (λ x. is_opening x.event ≡ false) goes.more
none_opens n front past goes = under_as (n ∷ []) (λ x. IsQuiet x.event) (λ x. is_opening x.event ≡ false) (λ x quiet. quiet_opens x.event quiet) goes.more goes.own

-- ---- a token that is taken

token_stays : (more front : List Entry) (token : List ℕ) (o : Option Setup) → setup front ≡ o → asked_token o ≡ Some token → asked_token (setup (more ++ front)) ≡ Some token
token_stays more front token (Some accepted) was is = rw (setup_stays more front accepted was) is
token_stays more front token None was is = absurd (cc)

taken_later : (i : ℕ) (fronts tapes : List (List Entry)) (first : Frame) → AreEarlier fronts tapes → IsTakenIn i fronts first → IsTakenIn i tapes first
taken_later i fronts tapes (frame.Setup s) earlier (token, j, front, asked, apart, is, has) =
    let at = earlier_at fronts tapes j front earlier is in
    (token, j, at.0, asked, apart, at.1, subst (λ (l : List Entry). asked_token (setup l) ≡ Some token) (sym at.2.1) (token_stays at.2.0 front token (setup front) refl has))
taken_later i fronts tapes first earlier is = absurd is

may_later : (g : Settings) (fronts tapes : List (List Entry)) (k i : ℕ) (link : Shown) (first : Frame) (taken : Bool) → AreEarlier fronts tapes → MayOpen g fronts k i link first taken → MayOpen g tapes k i link first taken
may_later g fronts tapes k i link first taken earlier may = record {
  first = may.first;
  place = may.place;
  taken = λ is. taken_later i fronts tapes first earlier (may.taken is);
}

opens_later : (g : Settings) (fronts tapes : List (List Entry)) (k i : ℕ) (link : Shown) (e : Event) → AreEarlier fronts tapes → OpensBy (MayOpen g fronts k i link) e → OpensBy (MayOpen g tapes k i link) e
opens_later g fronts tapes k i link (event.Open (Some first) taken) earlier opens = may_later g fronts tapes k i link first taken earlier opens
opens_later g fronts tapes k i link (event.Open None taken) earlier opens = absurd opens
opens_later g fronts tapes k i link e earlier opens = tt

-- ---- ticks

ticks_not : (n : ℕ) (x : Entry) → (0 < times x.who (n ∷ []) → IsQuiet x.event) → (is_tick x.event && nat_lt 0 (times x.who (n ∷ []))) ≡ true → ⊥
ticks_not n x quiet is = by (is_tick x.event) (nat_lt 0 (times x.who (n ∷ []))) refl refl is
  where
    by : (a b : Bool) → is_tick x.event ≡ a → nat_lt 0 (times x.who (n ∷ [])) ≡ b → (a && b) ≡ true → ⊥
    by true true ticks named is = let h = quiet_ticks x.event (quiet (grind (arith, nat_tests, named))) in absurd (cc)
    by true false ticks named is = absurd (cc)
    by false b ticks named is = absurd (cc)

ticks_stay : (n : ℕ) (more past : List Entry) → Under (n ∷ []) (λ x. IsQuiet x.event) more → ticks_by (n ∷ []) (more ++ past) ≡ ticks_by (n ∷ []) past
unfolding ticks_by
ticks_stay n [] past quiet = refl
ticks_stay n (x ∷ more) past quiet =
    let rest = ticks_stay n more past quiet.1 in
    let here = if_zero (is_tick x.event && nat_lt 0 (times x.who (n ∷ []))) 1 (λ is. absurd (ticks_not n x quiet.0 is)) in
    omega (arith, rest, here)

few_later : (n : ℕ) (front past : List Entry) (link : Shown) → GoesOnBy (n ∷ []) (λ x. IsQuiet x.event) front past → AreFewTicks (n ∷ []) (since_open n front) link → AreFewTicks (n ∷ []) (since_open n past) link
few_later n front past link goes few given taken =
    let since : since_open n past ≡ goes.more ++ since_open n front = ap (since_open n) goes.on ∙ since_on n goes.more front (none_opens n front past goes) in
    rw since (rw (ticks_stay n goes.more (since_open n front) goes.own) (few given taken))

-- ---- one slot

did_at : (g : Settings) (moments : Option (List ℕ)) (lease : Option Call) (fronts tapes : List (List Entry)) (rows : List (List ℕ)) (k i n : ℕ) (front past : List Entry) (link : Shown) → AreEarlier fronts tapes
    → WasTakenIn g moments lease rows i n front past → KnowsAt g moments lease fronts k i n front link → DidAt g lease tapes k i n past link
did_at g moments lease fronts tapes rows k i n front past link earlier taken knows = record {
  opens = under_on (n ∷ []) (λ x. OpensBy (MayOpen g tapes k i link) x.event) front past
      (goes_as (n ∷ []) (λ x. IsQuiet x.event) (λ x. OpensBy (MayOpen g tapes k i link) x.event) front past (λ x quiet. quiet_opens_by (MayOpen g tapes k i link) x.event quiet) goes)
      (under_as (n ∷ []) (λ x. OpensBy (MayOpen g fronts k i link) x.event) (λ x. OpensBy (MayOpen g tapes k i link) x.event) (λ x opens. opens_later g fronts tapes k i link x.event earlier opens) front knows.opens);
  linked = λ c opened. is_linked g lease n c front past link taken.slot.legal own handled none (before c opened) goes (knows.linked c (before c opened));
  ticks = few_later n front past link goes (knows.ticks alone);
}
  where
    goes : GoesOnBy (n ∷ []) (λ x. IsQuiet x.event) front past
    goes = goes_quietly g moments lease rows i n front past taken

    own : AllByRecursion (IsOwn past) past
    own = own_all g moments lease rows i taken.names taken.workers taken.mid past taken.slot

    handled : AllByRecursion (IsHandledByOwner past) front
    handled = all_earlier (IsHandledByOwner past) front taken.goes.more taken.mid taken.goes.on (handled_until g moments lease rows i taken.names taken.workers taken.mid past taken.slot)

    none : HasNoClose front
    none = all_earlier (λ (x : Entry). asks_close x.event ≡ false) front taken.goes.more taken.mid taken.goes.on (no_close_until g moments lease rows i taken.names taken.workers taken.mid past taken.slot)

    before : (c : ℕ) → 0 < opened_by n c past → 0 < opened_by n c front
    before c opened =
        let same = opened_on n c goes.more front (none_opens n front past goes) in
        subst (λ m. 0 < m) (ap (opened_by n c) goes.on ∙ same) opened

    alone : (c : ℕ) → 0 < opened_by n c front → IsAlone c n front
    alone c opened =
        let mine : 0 < opened_by n c past = subst (λ l. 0 < opened_by n c l) (sym goes.on) (let a = opened_more n c goes.more front in omega (arith, a, opened)) in
        opener_alone n c past front (opened_once g past c taken.slot.legal) mine (all_earlier (IsOwn past) front goes.more past goes.on own)

-- ---- the link

pub link_is : (g : Settings) (moments : Option (List ℕ)) (lease : Option Call) (rows : List (List ℕ)) (k : ℕ) (row : List ℕ) (fronts tapes : List (List Entry)) (link : Shown) → length fronts ≡ length tapes
    → ((i n : ℕ) (front past : List Entry) → slice_get row i ≡ Some n → slice_get fronts i ≡ Some front → slice_get tapes i ≡ Some past → WasTakenIn g moments lease rows i n front past)
    → KnowsRow g moments lease k row fronts link → IsServedLink g moments lease tapes k row link
link_is g moments lease rows k row fronts tapes link same taken knows = record {
  each = knows.each ∙ same;
  did = λ i n past is tape.
      let f = there_too row fronts i n knows.each is in
      did_at g moments lease fronts tapes rows k i n f.0 past link earlier (taken i n f.0 past is f.1 tape) (knows.at i n f.0 is f.1);
  once = rw (opens_stay row fronts tapes knows.each same (λ i n front past is at tape. opens i n front past (taken i n front past is at tape))) knows.once;
  unopened = λ none. unopened_later g moments fronts tapes link earlier
      (knows.unopened (sym (accepted_stay row fronts tapes knows.each same (λ i n front past is at tape. accepts i n front past (taken i n front past is at tape))) ∙ none));
}
  where
    goes : (i n : ℕ) (front past : List Entry) → WasTakenIn g moments lease rows i n front past → GoesOnBy (n ∷ []) (λ x. IsQuiet x.event) front past
    goes i n front past was = goes_quietly g moments lease rows i n front past was

    earlier : AreEarlier fronts tapes
    earlier = earlier_of row fronts tapes knows.each same (λ i n front past is at tape. let on = goes i n front past (taken i n front past is at tape) in (on.more, on.on))

    opens : (i n : ℕ) (front past : List Entry) → WasTakenIn g moments lease rows i n front past → opens_by n past ≡ opens_by n front
    opens i n front past was =
        let on = goes i n front past was in
        ap (opens_by n) on.on ∙ opens_on n on.more front (none_opens n front past on)

    accepts : (i n : ℕ) (front past : List Entry) → WasTakenIn g moments lease rows i n front past → accepted_by n past ≡ accepted_by n front
    accepts i n front past was =
        let on = goes i n front past was in
        ap (accepted_by n) on.on ∙ accepted_on n on.more front (none_opens n front past on)
