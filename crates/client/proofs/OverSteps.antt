-- A step of a call whose caller is alone: a turn, the request, and what waits.
use Rattle.std.proofs.lemmas.List.{length-append}
use Rattle.std.specs.List.{AllByRecursion}
use Rattle.std.proofs.Common.{◌≡◌, ◌≢◌, ◌<◌, ◌≤◌, ◌%◌, ◌^◌, ◌⊎◌, inl, inr, ◌∙◌, ℕ, Bool, true, false, true≢false, List, [], ◌∷◌, ◌++◌, length, Option, Some, None, IfSome, Ok, refl, sym, ap, subst, arith, append-nil, append_assoc, if◌then◌else◌}
use Rattle.rs_wire.specs.declared.words.Kind.{Kind}
use Rattle.rs_wire.specs.declared.settings.Settings.{Settings}
use Rattle.rs_wire.specs.declared.call.Call.TheVariants as asks
use Rattle.rs_frame.specs.declared.frame.Frame.{Frame}
use Rattle.rs_frame.specs.Framed.{framed_all}
use Rattle.outside.specs.Links.{Shown}
use Rattle.tape.specs.declared.event.Event.{Event}
use Rattle.tape.specs.declared.event.Event.TheVariants as event
use Rattle.tape.specs.declared.answer.Answer.{Answer}
use Rattle.tape.specs.declared.answer.Answer.TheVariants as answer
use Rattle.tape.specs.declared.entry.Entry.{Entry}
use Rattle.session_model.specs.Frames.{due, owes, was_opened}
use Rattle.session_model.specs.Life.{closed, is_live, live, openings_in, carrying}
use Rattle.session_model.specs.Legal.{Legal}
use Rattle.session_model.specs.Means.{Means}
use Rattle.session_model.proofs.Meaning.{last_means}
use Rattle.session_laws.proofs.Growth.{stays_closed}
use Rattle.session_laws.specs.Streams.{IsLawful}
use Rattle.link_model.specs.Carrying.{Between, Keeps, is_of}
use Rattle.link_model.specs.Leaving.{Heard, IsAllGiven, Left, displaced, takes_place}
use Rattle.link_model.proofs.Bytes.{if_some}
use Rattle.link_model.proofs.Kept.{keeps_other}
use Rattle.link_model.proofs.Same.{opened_on}
use Rattle.link_laws.specs.Staying.{ends}
use Rattle.link_laws.proofs.Ending.{left_later}
use Rattle.link_laws.proofs.StaysGood.{heard_on}
use Rattle.conn_shared.specs.Members.{Knowledge}
use Rattle.session_core.specs.Seen.{IsOrOutOfMemory}
use Rattle.session_model.specs.Answers.{answer_to, facts, refused_call}
use Rattle.session_model.specs.Life.{begun}
use Rattle.rs_wire.specs.declared.fault.Refusal.{Refusal}
use Rattle.rs_wire.specs.declared.words.Side.TheVariants.{Client}
use Rattle.tape.specs.Answers.{leaves}
use Rattle.tape.specs.Told.{entry_of}
use Rattle.link_model.specs.Giving.{HasGiven}
use Rattle.call_model.specs.Order.{Asking, InOrder, items_in, moves_only, next_call, owes_request, request_of}
use Rattle.call_model.specs.Timing.{AreMoments}
use Rattle.call_model.specs.Present.{HasDrawnAll, HasJoined, IsServed}
use Rattle.call_model.specs.Saying.{end_line, got_in, got_of, got_on, has_end, lines_of, said, started, started_in}
use Rattle.call_model.specs.Standing.{IsPaid, IsUnended, Stands}
use Rattle.call_model.proofs.Ordering.{got_none, got_same}
use Rattle.call_model.proofs.Standing.{request_on}
use Rattle.call_model.proofs.Present.{joined_on, served_drawn, still_on}
use Rattle.client.specs.Alone.{IsOwn}
use Rattle.client.specs.Answered.{asked_by}
use Rattle.client.specs.Clients.{AsksSo, HasAsked, IsNoted, stream_after}
use Rattle.client.specs.declared.calls.Asked.{Asked}
use Rattle.client.specs.Counting.{HasCounted}
use Rattle.client.specs.Takes.{AddsRefused, AsksMore, EndsNow, EndsSo, IsTakenIn, TakesFor, is_call, is_refused}
use Rattle.client.specs.Turning.{Drops, DropsFor, HasStepped, HasTurned, IsReady, SaysOf, TurnsSo}
use Rattle.client.proofs.OverCounts.{counted_calls, counted_so}
use Rattle.client.proofs.Alone.{Adds, IsSame, own_before, own_call, own_lawful}
use Rattle.client.proofs.OverTakes.{asks_adds, asks_none, same_both, settings_of}
use Rattle.client.proofs.OverTurns.{all_both, has_turned, rose_some}
use Rattle.pump.specs.declared.turned.Turned.{Turned}
use Rattle.pump.specs.declared.turned.Turned.TheVariants as turned
use Rattle.call_model.specs.Ran.{HasDied, HasPlace}
use Rattle.call_model.proofs.Ending.{died_more}

-- ---- one call

call_quiet : (c : ℕ) (e : Event) → is_call e ≡ true → (is_of c e ≡ false) × (ends c e ≡ false) × (openings_in e ≡ 0) × (moves_only c e ≡ true)
call_quiet c (event.Asked asks.Close) is = absurd (true≢false (sym is))
call_quiet c (event.Asked asked) is = (refl, refl, refl, refl)
call_quiet c _ is = absurd (true≢false (sym is))

call_takes : (g : Settings) (past : List Entry) (a : Answer) (e : Event) → Means g (facts g past) e a → is_call e ≡ true → takes_place a ≡ false
call_takes g past (answer.Opened n) (event.Asked asked) means is = absurd means
call_takes g past (answer.Opened n) _ means is = absurd (true≢false (sym is))
call_takes g past (answer.Dead last) (event.Asked asked) means is = absurd means
call_takes g past (answer.Dead last) _ means is = absurd (true≢false (sym is))
call_takes g past _ e means is = refl

-- ---- several

calls_only : (c : ℕ) (more : List Entry) → AllByRecursion (λ (x : Entry). is_call x.event ≡ true) more → AllByRecursion (λ (x : Entry). moves_only c x.event ≡ true) more
calls_only c [] all = tt
calls_only c (x ∷ more) all = ((call_quiet c x.event all.0).3, calls_only c more all.1)

calls_apart : (c : ℕ) (more : List Entry) → AllByRecursion (λ (x : Entry). is_call x.event ≡ true) more → AllByRecursion (λ (x : Entry). is_of c x.event ≡ false) more
calls_apart c [] all = tt
calls_apart c (x ∷ more) all = ((call_quiet c x.event all.0).0, calls_apart c more all.1)

calls_joined : (g : Settings) (c : ℕ) (more past : List Entry) → AllByRecursion (λ (x : Entry). is_call x.event ≡ true) more → HasJoined g past c → HasJoined g (more ++ past) c
calls_joined g c [] past all h = h
calls_joined g c (x ∷ more) past all h = let q = call_quiet c x.event all.0 in joined_on g (more ++ past) x c q.1 q.2 (calls_joined g c more past all.1 h)

calls_still : (g : Settings) (c : ℕ) (more past : List Entry) → Legal g (more ++ past) → AllByRecursion (λ (x : Entry). is_call x.event ≡ true) more → displaced past c ≡ false → displaced (more ++ past) c ≡ false
unfolding Legal
calls_still g c [] past legal all h = h
calls_still g c (x ∷ more) past legal all h = still_on (more ++ past) x c (call_takes g (more ++ past) x.answer x.event (last_means g x (more ++ past) legal) all.0) (calls_still g c more past legal.0 all.1 h)

calls_kept : (g : Settings) (link : Shown) (b : Between) (more past : List Entry) → AllByRecursion (λ (x : Entry). is_call x.event ≡ true) more → Keeps g past link b → Keeps g (more ++ past) link b
calls_kept g link b [] past all h = h
calls_kept g link b (x ∷ more) past all h = keeps_other g (more ++ past) x link b (call_quiet b.conn x.event all.0).0 (calls_kept g link b more past all.1 h)

opened_more : (c : ℕ) (more past : List Entry) → was_opened past c ≡ true → was_opened (more ++ past) c ≡ true
opened_more c [] past o = o
opened_more c (x ∷ more) past o = opened_on (more ++ past) x c (opened_more c more past o)

calls_heard : (g : Settings) (link : Shown) (c : ℕ) (more past : List Entry) → AllByRecursion (λ (x : Entry). is_call x.event ≡ true) more → was_opened past c ≡ true → Heard g past link c → Heard g (more ++ past) link c
calls_heard g link c [] past all opened h = h
calls_heard g link c (x ∷ more) past all opened h = heard_on g (more ++ past) x link c (call_quiet c x.event all.0).0 (opened_more c more past opened) (calls_heard g link c more past all.1 opened h)

-- a call that is refused owes nothing
refused_owes : (g : Settings) (past : List Entry) (c : ℕ) (a : Answer) (e : Event) → is_refused a ≡ true → owes g past c a e ≡ []
refused_owes g past c (answer.Refused why) e is = by (is_live (live past) c) (carrying g past)
  where
    nothing : List Frame
    nothing = []

    by : (here carries : Bool) → (if here then nothing ++ (if carries then nothing else nothing) else nothing) ≡ nothing
    by true true = refl
    by true false = refl
    by false carries = refl
refused_owes g past c _ e is = absurd (true≢false (sym is))

refused_due : (g : Settings) (c : ℕ) (more past : List Entry) → AllByRecursion (λ (x : Entry). (is_call x.event ≡ true) × (is_refused x.answer ≡ true)) more → due g (more ++ past) c ≡ due g past c
unfolding due
refused_due g c [] past all = refl
refused_due g c (x ∷ more) past all = ap (λ (fs : List Frame). due g (more ++ past) c ++ fs) (refused_owes g (more ++ past) c x.answer x.event all.0.1) ∙ (append-nil (due g (more ++ past) c) ∙ refused_due g c more past all.1)

pub refused_given : (g : Settings) (link : Shown) (c : ℕ) (past new : List Entry) → AddsRefused past new → IsAllGiven g past link c → IsAllGiven g new link c
refused_given g link c past new r h = if_some link.given (λ (bytes : List ℕ) is. is ∙ ap framed_all (sym (ap (λ (l : List Entry). due g l c) r.on ∙ refused_due g c r.more past r.all))) h

-- ---- what goes on over calls

pub asks_only : (c : ℕ) (past new : List Entry) → (a : AsksMore past new) → AllByRecursion (λ (x : Entry). moves_only c x.event ≡ true) a.more
asks_only c past new a = calls_only c a.more a.all

pub asks_served : (g : Settings) (past new : List Entry) (link : Shown) (c : ℕ) (b : Between) (full : Bool) → AsksMore past new → IsServed g past link c b full → IsServed g new link c b full
asks_served g past new link c b full a h = by a.place
  where
    same : a.more ≡ [] → past ≡ new
    same none = sym (a.on ∙ ap (λ (l : List Entry). l ++ past) none)

    by : (a.more ≡ []) ⊎ HasPlace past → IsServed g new link c b full
    by (inl none) = subst (λ (l : List Entry). IsServed g l link c b full) (same none) h
    by (inr place) = subst (λ (l : List Entry). IsServed g l link c b full) (sym a.on) (record {
      joined = calls_joined g c a.more past a.all h.joined;
      conn = h.conn;
      kept = λ on. calls_kept g link b a.more past a.all (h.kept on);
      given = λ is. absurd (let no = h.place is in omega (arith, no, place));
      place = λ is. absurd (let no = h.place is in omega (arith, no, place));
    })

pub asks_still : (g : Settings) (past new : List Entry) (c : ℕ) → Legal g new → AsksMore past new → displaced past c ≡ false → displaced new c ≡ false
asks_still g past new c legal a still = subst (λ (l : List Entry). displaced l c ≡ false) (sym a.on) (calls_still g c a.more past (subst (Legal g) a.on legal) a.all still)

pub place_before : (past new : List Entry) → AsksMore past new → HasPlace new → HasPlace past
place_before past new a place = let sum = ap length a.on ∙ length-append a.more past in omega (arith, place, sum)

opened_here : (g : Settings) (past : List Entry) (link : Shown) (c : ℕ) (b : Between) (full : Bool) → IsServed g past link c b full → HasPlace past → was_opened past c ≡ true
opened_here g past link c b false h place = subst (λ n. was_opened past n ≡ true) h.conn (h.kept refl).opened
opened_here g past link c b true h place = absurd (let no = h.place refl in omega (arith, no, place))

pub says_on : (g : Settings) (past new : List Entry) (link : Shown) (c : ℕ) (b : Between) (full : Bool) (r : Turned) → Legal g new → IsServed g past link c b full → AsksMore past new → (r ≡ turned.Lull → HasPlace past → AddsRefused past new) → SaysOf g past link c r → SaysOf g new link c r
says_on g past new link c b full turned.Lull legal served a refused says = λ place.
    let before = place_before past new a place in
    let s = says before in (
      subst (λ (l : List Entry). Heard g l link c) (sym a.on) (calls_heard g link c a.more past a.all (opened_here g past link c b full served before) s.0),
      elim s.1 [
        | inl all ↦ inl (refused_given g link c past new (refused refl before) all)
        | inr stalls ↦ inr stalls
      ],
    )
says_on g past new link c b full turned.End legal served a refused says = (
  says.0,
  λ place.
      let before = place_before past new a place in
      subst (λ (l : List Entry). Left g l link c) (sym a.on) (left_later g link c a.more past (subst (Legal g) a.on legal) (opened_here g past link c b full served before) (calls_apart c a.more a.all) (says.1 before)),
)
says_on g past new link c b full turned.LinkFault legal served a refused says = (
  says.0,
  λ place.
      let before = place_before past new a place in
      subst (λ (l : List Entry). Left g l link c) (sym a.on) (left_later g link c a.more past (subst (Legal g) a.on legal) (opened_here g past link c b full served before) (calls_apart c a.more a.all) (says.1 before)),
)
says_on g past new link c b full (turned.Over why) legal served a refused says = subst (λ (l : List Entry). closed g l ≡ Some why) (sym a.on) (stays_closed g a.more past why says)
says_on g past new link c b full (turned.Dead last) legal served a refused says = subst (λ (l : List Entry). HasDied g l last) (sym a.on) (died_more g a.more past last says)
says_on g past new link c b full (turned.Moved given taken) legal served a refused says = tt
says_on g past new link c b full (turned.Busy q) legal served a refused says = tt
says_on g past new link c b full (turned.Displaced n) legal served a refused says = tt
says_on g past new link c b full turned.TapeFull legal served a refused says = (let sum = ap length a.on ∙ length-append a.more past in omega (arith, says, sum))
says_on g past new link c b full turned.OutOfMemory legal served a refused says = tt

asks_both : (a b c : List Entry) → AsksMore a b → AsksMore b c → AsksMore a c
asks_both a b c x y = record {
  more = y.more ++ x.more;
  on = y.on ∙ (ap (λ (l : List Entry). y.more ++ l) x.on ∙ sym (append_assoc y.more x.more a));
  all = all_both (λ (e : Entry). is_call e.event ≡ true) y.more x.more y.all x.all;
  place = by x.place y.place;
}
  where
    by : (x.more ≡ []) ⊎ HasPlace a → (y.more ≡ []) ⊎ HasPlace b → (y.more ++ x.more ≡ []) ⊎ HasPlace a
    by (inr place) two = inr place
    by (inl none) (inl nothing) = inl (ap (λ (l : List Entry). l ++ x.more) nothing ∙ none)
    by (inl none) (inr place) = inr (subst HasPlace (x.on ∙ ap (λ (l : List Entry). l ++ a) none) place)

-- ---- once the tape is full

drops_say : (g : Settings) (past : List Entry) (s t : Shown) (c : ℕ) (r : Turned) → (HasPlace past → ⊥) → DropsFor s t r → SaysOf g past t c r
drops_say g past s t c turned.Lull full cause = λ place. absurd (full place)
drops_say g past s t c turned.End full cause = (inr (rose_some s.counts.ends t.counts.ends cause), λ place. absurd (full place))
drops_say g past s t c turned.LinkFault full cause = (inl (rose_some s.counts.faults t.counts.faults cause), λ place. absurd (full place))
drops_say g past s t c (turned.Moved given taken) full cause = tt
drops_say g past s t c _ full cause = absurd cause

dropped : (w : Asking) (moments : Option (List ℕ)) (g : Settings) (past : List Entry) (s t : Shown) (c : ℕ) (b : Between) (stream : Option ℕ) (fresh : ℕ) (r : Turned) → Drops s t r
    → Stands w moments past stream fresh → IsUnended past → IsPaid past stream → IsServed g past s c b true → HasTurned w moments g past past t c b stream fresh true r
dropped w moments g past s t c b stream fresh r d stands unended paid served =
    let full : HasPlace past → ⊥ = λ place. (let no = served.place refl in omega (arith, no, place)) in
    record {
      more = [];
      on = refl;
      only = tt;
      stands = stands;
      unended = unended;
      served = record {
        joined = served.joined;
        conn = served.conn;
        kept = λ on. absurd (true≢false on);
        given = λ is. record { within = (served.given refl).within; given = subst (λ (o : Option (List ℕ)). IfSome o (λ bytes. HasGiven g past c b.left bytes)) (sym d.given) (served.given refl).given };
        place = served.place;
      };
      still = λ late place. absurd (full place);
      paid = λ lull. paid;
      takes = λ lull k whole. whole;
      same = λ k. refl;
      says = drops_say g past s t c r full d.cause;
    }

pub turned_so : (w : Asking) (moments : Option (List ℕ)) (was now : Knowledge) (s t : Shown) (b d : Between) (stream : Option ℕ) (fresh : ℕ) (full : Bool) (r : Turned) → was.of.settings.side ≡ Client → IsSame was now → b.max_in ≡ was.of.settings.max_in → TurnsSo full moments was now s t b d r → IsOwn now
    → IsOwn was × (Stands w moments was.front stream fresh → IsUnended was.front → IsPaid was.front stream → IsServed was.of.settings was.front s b.conn b full → (HasPlace was.front → displaced was.front b.conn ≡ false)
    → HasTurned w moments was.of.settings was.front now.front t b.conn d stream fresh full r)
turned_so w moments was now s t b d stream fresh false r client same limit p own = has_turned w moments was now s t b d stream fresh r client same limit own p
turned_so w moments was now s t b d stream fresh true r client same limit p own =
    let here : now.front ≡ was.front = ap (λ (k : Knowledge). k.front) p.0 in (
      subst IsOwn p.0 own,
      λ stands unended paid served still.
          subst (λ (l : List Entry). HasTurned w moments was.of.settings was.front l t b.conn d stream fresh true r) (sym here)
          (subst (λ (z : Between). HasTurned w moments was.of.settings was.front was.front t b.conn z stream fresh true r) (sym p.1)
          (dropped w moments was.of.settings was.front s t b.conn b stream fresh r p.2 stands unended paid served)),
    )

-- ---- the request

-- where a call stands once the request was asked, if it had to be
pub record HasPaid (w : Asking) (moments : Option (List ℕ)) (past new : List Entry) (stream stream' : Option ℕ) (fresh : ℕ) : Type 0 where
  pub asks : AsksMore past new
  pub stands : Stands w moments new stream' fresh
  pub unended : IsUnended new
  pub paid : IsPaid new stream'
  pub same : (k : Kind) → said k false new ≡ said k false past

noted : (a : Answer) → stream_after (asked_by a) None ≡ started_in a
noted (answer.Started id) = refl
noted answer.OutOfMemory = refl
noted _ = refl

ok_noted : (a : Answer) → IsNoted (asked_by a) (Ok tt) → a ≢ answer.OutOfMemory
ok_noted answer.OutOfMemory is same = true≢false (sym is)
ok_noted (answer.Started id) is same = (cc)
ok_noted _ is same = (cc)

-- a request leaves no entry where the tape is full alone
request_full : (me : Knowledge) (w : Asking) (a : Answer) (new : List Entry) → Adds me (event.Asked (request_of w)) a new → leaves a ≡ false → a ≢ answer.OutOfMemory → HasPlace me.front → ⊥
request_full me w a new adds none want place = by a adds.step.answered (λ is. adds.step.full.0 is) none want
  where
    g : Settings
    g = me.of.settings

    right : (o : Option Refusal) → refused_call g (facts g me.front) (request_of w) ≡ o → leaves (answer_to g me.front (event.Asked (request_of w))) ≡ true
    right None is = rw is refl
    right (Some why) is = rw is refl

    by : (a : Answer) → IsOrOutOfMemory a (answer_to g me.front (event.Asked (request_of w))) → (a ≡ answer.TapeFull → 2 ^ 63 ≤ length me.front) → leaves a ≡ false → a ≢ answer.OutOfMemory → ⊥
    by answer.TapeFull is full none want = (let f = full refl in omega (arith, f, place))
    by answer.OutOfMemory is full none want = want refl
    by a is full none want = true≢false (sym (right (refused_call g (facts g me.front) (request_of w)) refl) ∙ (ap leaves (sym is) ∙ none))

got_by_request : (w : Asking) (a : Answer) (s : ℕ) → got_in s a (event.Asked (request_of w)) ≡ []
got_by_request w (answer.Got d) s = refl
got_by_request w _ s = refl

said_nothing : (k : Kind) (past : List Entry) → ((s : ℕ) → got_on past s ≡ []) → said k false past ≡ end_line k false
said_nothing k past none = ap (λ (l : List ℕ). l ++ end_line k false) (by (started past))
  where
    by : (o : Option ℕ) → lines_of (got_of past o) ≡ []
    by None = refl
    by (Some s) = ap lines_of (none s)

-- no request is started yet
pub record Waits (w : Asking) (moments : Option (List ℕ)) (past : List Entry) (fresh : ℕ) : Type 0 where
  pub order : InOrder w past
  pub timed : AreMoments moments past
  pub begins : begun past ≡ true
  pub none : started past ≡ None
  pub zero : fresh ≡ 0

pub waits_of : (w : Asking) (moments : Option (List ℕ)) (past : List Entry) (fresh : ℕ) → Stands w moments past None fresh → Waits w moments past fresh
waits_of w moments past fresh h = record { order = h.order; timed = h.timed; begins = h.begins; none = sym h.knows; zero = h.unused (sym h.knows) }

unended_none : (past : List Entry) → started past ≡ None → IsUnended past
unended_none past none = subst (λ (o : Option ℕ). IfSome o (λ s. has_end (got_on past s) ≡ false)) (sym none) tt

pub asked_so : (w : Asking) (moments : Option (List ℕ)) (was now : Knowledge) (stream' : Option ℕ) (fresh : ℕ) → IsSame was now → HasAsked was (request_of w) (Ok tt) None stream' now.front → IsOwn now → IsOwn was
    × (0 < w.count → Waits w moments was.front fresh → (HasPlace was.front → (next_call w was.front ≡ None) ⊎ (next_call w was.front ≡ Some (request_of w))) → HasPaid w moments was.front now.front None stream' fresh)
asked_so w moments was now stream' fresh same asked own =
    let a : Answer = asked.came.answer in
    let h = own_call was.of.settings was now (event.Asked (request_of w)) a refl same asked.came.called own in
    let want : a ≢ answer.OutOfMemory = ok_noted a (subst (λ (z : Asked). IsNoted z (Ok tt)) asked.came.is asked.is) in
    let is : stream' ≡ started_in a = asked.noted ∙ (ap (λ (z : Asked). stream_after z None) asked.came.is ∙ noted a) in
    (h.0, λ some waits next. by a h.1 want is some waits next h.1.came)
  where
    by : (a : Answer) → Adds was (event.Asked (request_of w)) a now.front → a ≢ answer.OutOfMemory → stream' ≡ started_in a → 0 < w.count → Waits w moments was.front fresh → (HasPlace was.front → (next_call w was.front ≡ None) ⊎ (next_call w was.front ≡ Some (request_of w)))
        → ((leaves a ≡ false) × (now.front ≡ was.front)) ⊎ ((leaves a ≡ true) × (now.front ≡ entry_of was.number (event.Asked (request_of w)) a ∷ was.front) × HasPlace was.front) → HasPaid w moments was.front now.front None stream' fresh
    by a adds want is some waits next (inl none) =
        let full : HasPlace was.front → ⊥ = request_full was w a now.front adds none.0 want in
        let same_stream : stream' ≡ None = is ∙ not_started a none.0 in
        subst (λ (l : List Entry). HasPaid w moments was.front l None stream' fresh) (sym none.1)
        (subst (λ (o : Option ℕ). HasPaid w moments was.front was.front None o fresh) (sym same_stream) (record {
          asks = asks_none was.front;
          stands = record {
            order = waits.order;
            timed = waits.timed;
            begins = waits.begins;
            free = λ place. absurd (full place);
            knows = sym waits.none;
            unused = λ on. waits.zero;
            counts = λ on. subst (λ (o : Option ℕ). IfSome o (λ s. fresh ≡ items_in (got_on was.front s) % w.count)) (sym waits.none) tt;
          };
          unended = unended_none was.front waits.none;
          paid = λ place. absurd (full place);
          same = λ k. refl;
        }))
      where
        not_started : (a : Answer) → leaves a ≡ false → started_in a ≡ None
        not_started (answer.Started id) none = absurd (true≢false none)
        not_started _ none = refl
    by a adds want is some waits next (inr more) =
        let x = entry_of was.number (event.Asked (request_of w)) a in
        let none : started was.front ≡ None = waits.none in
        let r = request_on w moments was.front x fresh waits.order waits.timed waits.begins none (next more.2) waits.zero some refl in
        let nothing : (l : List Entry) → l ≡ x ∷ was.front → (s : ℕ) → got_on l s ≡ [] = λ l at s. ap (λ (z : List Entry). got_on z s) at ∙ (got_same was.front x s (got_by_request w a s) ∙ got_none w was.front s waits.order none) in
        record {
          asks = asks_adds was.front was (event.Asked (request_of w)) a now.front refl adds (asks_none was.front);
          stands = subst (λ (l : List Entry). Stands w moments l stream' fresh) (sym more.1) (subst (λ (o : Option ℕ). Stands w moments (x ∷ was.front) o fresh) (sym is) r.0);
          unended = subst IsUnended (sym more.1) r.1;
          paid = λ place on. ap owes_request more.1 ∙ r.2;
          same = λ k. said_nothing k now.front (nothing now.front more.1) ∙ sym (said_nothing k was.front (λ s. got_none w was.front s waits.order none));
        }

-- ---- a whole step

asks_so : (w : Asking) (moments : Option (List ℕ)) (g : Settings) (past : List Entry) (was now : Knowledge) (t : Shown) (c : ℕ) (d : Between) (stream stream' : Option ℕ) (fresh : ℕ) (full : Bool) (r : Turned) → IsSame was now → AsksSo r (request_of w) was stream stream' now.front → IsOwn now → IsOwn was
    × (0 < w.count → HasTurned w moments g past was.front t c d stream fresh full r → HasPaid w moments was.front now.front stream stream' fresh × (r ≡ turned.Lull → now.front ≡ was.front))
asks_so w moments g past was now t c d None stream' fresh full r same (inl asked) own =
    let h = asked_so w moments was now stream' fresh same asked.2 own in
    (h.0, λ some turned. (h.1 some (waits_of w moments was.front fresh turned.stands) (λ place. inl (turned.stands.free place)), λ lull. absurd (asked.1 lull)))
asks_so w moments g past was now t c d (Some s) stream' fresh full r same (inl asked) own = absurd (let no = asked.0 in cc)
asks_so w moments g past was now t c d stream stream' fresh full r same (inr none) own = (
  own_before was now same ([], none.1) own,
  λ some turned. (
    subst (λ (l : List Entry). HasPaid w moments was.front l stream stream' fresh) (sym none.1)
        (subst (λ (o : Option ℕ). HasPaid w moments was.front was.front stream o fresh) (sym none.0) (record {
          asks = asks_none was.front;
          stands = turned.stands;
          unended = turned.unended;
          paid = λ place is. elim none.2 [
            | inl some_stream ↦ absurd (some_stream is)
            | inr lull ↦ turned.paid lull place is
          ];
          same = λ k. refl;
        })),
    λ lull. none.1,
  ),
)

legal_of : (g : Settings) (past : List Entry) → IsLawful g past → Legal g past
legal_of g past h = h.legal

pub has_stepped : (w : Asking) (moments : Option (List ℕ)) (kind : Kind) (count : ℕ) (was k1 k2 now : Knowledge) (s t : Shown) (c : ℕ) (b d : Between) (stream stream' : Option ℕ) (fresh fresh' : ℕ) (full : Bool) (r : Turned) (ended : Bool) (out out' : List ℕ)
    → was.of.settings.side ≡ Client → IsSame was k1 → IsSame k1 k2 → IsSame k2 now → b.conn ≡ c → b.max_in ≡ was.of.settings.max_in → w.kind ≡ kind → w.count ≡ count
    → TurnsSo full moments was k1 s t b d r → AsksSo r (request_of w) k1 stream stream' k2.front
    → (IsOwn now → IsOwn k2 × ((link : Shown) → HasDrawnAll k2.of.settings k2.front link c d.left → TakesFor ended kind count k2.of.settings link c stream' k2.front now.front fresh fresh' out out'))
    → IsOwn now → IsOwn was × (IsReady w moments was.of.settings was.front s c b stream fresh full → HasStepped w moments was.of.settings was.front now.front t c d stream' fresh' full r ended out out' × (b.max_in < 2 ^ 24 → HasCounted was.of.settings was.front now.front s t c b d full r))
has_stepped w moments kind count was k1 k2 now s t c b d stream stream' fresh fresh' full r ended out out' client same1 same2 same3 at limit is_kind is_count turns asks takes own =
    let taken = takes own in
    let asked = asks_so w moments was.of.settings was.front k1 k2 t b.conn d stream stream' fresh full r same2 asks taken.0 in
    let turned = turned_so w moments was k1 s t b d stream fresh full r client same1 limit turns asked.0 in (
      turned.0,
      λ ready. by taken.0 asked.0 taken.1 (asked.1 ready.some)
          (turned.1 ready.stands ready.unended ready.paid (subst (λ n. IsServed was.of.settings was.front s n b full) (sym at) ready.served) (λ place. subst (λ n. displaced was.front n ≡ false) (sym at) (ready.still place)))
          (λ place. subst (λ z. IsTakenIn z was.of.settings was.front) is_kind (ready.whole place)),
    )
  where
    g : Settings
    g = was.of.settings

    same12 : IsSame was k2
    same12 = same_both was k1 k2 same1 same2

    by : IsOwn k2 → IsOwn k1 → ((link : Shown) → HasDrawnAll k2.of.settings k2.front link c d.left → TakesFor ended kind count k2.of.settings link c stream' k2.front now.front fresh fresh' out out')
        → (HasTurned w moments g was.front k1.front t b.conn d stream fresh full r → HasPaid w moments k1.front k2.front stream stream' fresh × (r ≡ turned.Lull → k2.front ≡ k1.front))
        → HasTurned w moments g was.front k1.front t b.conn d stream fresh full r → (HasPlace was.front → IsTakenIn kind g was.front) → HasStepped w moments g was.front now.front t c d stream' fresh' full r ended out out' × (b.max_in < 2 ^ 24 → HasCounted g was.front now.front s t c b d full r)
    by own2 own1 takes asks turned whole =
        let a = asks turned in
        let p = a.0 in
        let st : k2.of.settings ≡ g = settings_of was k2 same12 in
        let lawful : IsLawful g now.front = own_lawful was now (same_both was k2 now same12 same3) own in
        let served2 : IsServed g k2.front t c d full = subst (λ n. IsServed g k2.front t n d full) at (asks_served g k1.front k2.front t b.conn d full p.asks turned.served) in
        let drawn2 = served_drawn g k2.front t c d full served2 in
        let k : TakesFor ended kind count g t c stream' k2.front now.front fresh fresh' out out' = subst (λ (z : Settings). TakesFor ended kind count z t c stream' k2.front now.front fresh fresh' out out') st (takes t (subst (λ (z : Settings). HasDrawnAll z k2.front t c d.left) (sym st) drawn2)) in
        let knows = p.stands.knows in
        let both = asks_both k1.front k2.front now.front p.asks k.asks in
        let on1 : k1.front ≡ turned.more ++ was.front = turned.on in (
          record {
            more = both.more ++ turned.more;
            on = both.on ∙ (ap (λ (l : List Entry). both.more ++ l) on1 ∙ sym (append_assoc both.more turned.more was.front));
            only = all_both (λ x. moves_only c x.event ≡ true) both.more turned.more (asks_only c k1.front now.front both) (subst (λ n. AllByRecursion (λ x. moves_only n x.event ≡ true) turned.more) at turned.only);
            stands = k.stands w moments is_kind is_count p.stands;
            served = asks_served g k2.front now.front t c d full k.asks served2;
            still = λ late place. asks_still g k1.front now.front c lawful.legal both (subst (λ n. displaced k1.front n ≡ false) at (turned.still late (place_before k1.front now.front both place)));
            paid = λ place none. ap owes_request (k.none none) ∙ p.paid (place_before k2.front now.front k.asks place) none;
            says = λ goes. says_on g k1.front now.front t c d full r lawful.legal (subst (λ n. IsServed g k1.front t n d full) at turned.served) both
                (λ lull place.
                let one = a.1 lull in
                let before : HasPlace was.front = before_more was.front k1.front turned.more on1 place in
                let in_whole : IsTakenIn kind g k2.front = subst (IsTakenIn kind g) (sym one) (turned.takes lull kind (whole before)) in
                subst (λ (l : List Entry). AddsRefused l now.front) one (k.idle goes knows in_whole))
                (subst (λ n. SaysOf g k1.front t n r) at turned.says);
            prints = (let q = k.prints knows in record {
              more = q.more;
              printed = q.printed;
              says = subst (λ (z : Kind). said z ended now.front ≡ said z false was.front ++ q.more) (sym is_kind) (q.says ∙ ap (λ (l : List ℕ). l ++ q.more) (p.same kind ∙ turned.same kind));
            });
            ends = subst (λ (z : Kind). EndsNow ended z g now.front t c) (sym is_kind) (ends_now ended p.unended (k.ends knows));
          },
          λ short. counted_calls g was.front k1.front now.front s t c b d full r both (subst (λ n. HasCounted g was.front k1.front s t n b d full r) at (counted_so moments was k1 s t b d full r same1 short own1 turns)),
        )
      where
        before_more : (past new more : List Entry) → new ≡ more ++ past → HasPlace new → HasPlace past
        before_more past new more on place = let sum = ap length on ∙ length-append more past in omega (arith, place, sum)

        ends_now : (e : Bool) → IsUnended k2.front → EndsSo e kind g k2.front now.front t c → EndsNow e kind g now.front t c
        ends_now true un ends = ends
        ends_now false un ends = ends un

-- ---- the same, with each part as it comes from the calls

takes_as : (ended : Bool) (kind : Kind) (count : ℕ) (k2 now : Knowledge) (conn2 c : ℕ) (left2 left : List ℕ) (stream2 stream : Option ℕ) (fresh2 fresh fresh' : ℕ) (out2 out out' : List ℕ) → conn2 ≡ c → left2 ≡ left → stream2 ≡ stream → fresh2 ≡ fresh → out2 ≡ out
    → (IsOwn now → IsOwn k2 × ((link : Shown) → HasDrawnAll k2.of.settings k2.front link conn2 left2 → TakesFor ended kind count k2.of.settings link conn2 stream2 k2.front now.front fresh2 fresh' out2 out'))
    → IsOwn now → IsOwn k2 × ((link : Shown) → HasDrawnAll k2.of.settings k2.front link c left → TakesFor ended kind count k2.of.settings link c stream k2.front now.front fresh fresh' out out')
takes_as ended kind count k2 now conn2 c left2 left stream2 stream fresh2 fresh fresh' out2 out out' a b d e f h own =
    let g = k2.of.settings in
    let t = h own in (
      t.0,
      λ link drawn.
          subst (λ (x : ℕ). TakesFor ended kind count g link x stream k2.front now.front fresh fresh' out out') a
          (subst (λ (x : Option ℕ). TakesFor ended kind count g link conn2 x k2.front now.front fresh fresh' out out') d
          (subst (λ (x : ℕ). TakesFor ended kind count g link conn2 stream2 k2.front now.front x fresh' out out') e
          (subst (λ (x : List ℕ). TakesFor ended kind count g link conn2 stream2 k2.front now.front fresh2 fresh' x out') f
          (t.1 link (subst (λ (x : ℕ). HasDrawnAll g k2.front link x left2) (sym a) (subst (λ (x : List ℕ). HasDrawnAll g k2.front link c x) (sym b) drawn)))))),
    )

pub stepped_by : (w : Asking) (moments : Option (List ℕ)) (kind : Kind) (count : ℕ) (was k1 k2 now : Knowledge) (s t : Shown) (c conn2 : ℕ) (b d d3 : Between) (left2 : List ℕ) (stream stream1 stream2 stream3 : Option ℕ) (fresh fresh2 fresh' : ℕ) (full : Bool) (r : Turned) (ended : Bool) (out out2 out' : List ℕ)
    → was.of.settings.side ≡ Client → IsSame was k1 → IsSame k1 k2 → IsSame k2 now → b.conn ≡ c → b.max_in ≡ was.of.settings.max_in → w.kind ≡ kind → w.count ≡ count
    → conn2 ≡ c → left2 ≡ d.left → stream1 ≡ stream → fresh2 ≡ fresh → out2 ≡ out → d3 ≡ d → stream3 ≡ stream2
    → TurnsSo full moments was k1 s t b d r → AsksSo r (request_of w) k1 stream1 stream2 k2.front
    → (IsOwn now → IsOwn k2 × ((link : Shown) → HasDrawnAll k2.of.settings k2.front link conn2 left2 → TakesFor ended kind count k2.of.settings link conn2 stream2 k2.front now.front fresh2 fresh' out2 out'))
    → IsOwn now → IsOwn was × (IsReady w moments was.of.settings was.front s c b stream fresh full → HasStepped w moments was.of.settings was.front now.front t c d3 stream3 fresh' full r ended out out' × (b.max_in < 2 ^ 24 → HasCounted was.of.settings was.front now.front s t c b d3 full r))
stepped_by w moments kind count was k1 k2 now s t c conn2 b d d3 left2 stream stream1 stream2 stream3 fresh fresh2 fresh' full r ended out out2 out' client same1 same2 same3 at limit is_kind is_count e_conn e_left e_stream e_fresh e_out e_pump e_stream3 turns asks takes own =
    let h = has_stepped w moments kind count was k1 k2 now s t c b d stream stream2 fresh fresh' full r ended out out' client same1 same2 same3 at limit is_kind is_count turns
    (subst (λ (o : Option ℕ). AsksSo r (request_of w) k1 o stream2 k2.front) e_stream asks)
    (takes_as ended kind count k2 now conn2 c left2 d.left stream2 stream2 fresh2 fresh fresh' out2 out out' e_conn e_left refl e_fresh e_out takes) own in (
      h.0,
      λ ready. (let both = h.1 ready in (
        subst (λ (z : Between). HasStepped w moments was.of.settings was.front now.front t c z stream3 fresh' full r ended out out') (sym e_pump)
            (subst (λ (o : Option ℕ). HasStepped w moments was.of.settings was.front now.front t c d o fresh' full r ended out out') (sym e_stream3) both.0),
        λ short. subst (λ (z : Between). HasCounted was.of.settings was.front now.front s t c b z full r) (sym e_pump) (both.1 short),
      )),
    )
