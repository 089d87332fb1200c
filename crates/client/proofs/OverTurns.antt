-- A turn of a pump whose caller is alone.
use Rattle.std.proofs.lemmas.Bool.{cases_lt}
use Rattle.std.proofs.lemmas.Bool.Decides.{nat_tests}
use Rattle.std.proofs.lemmas.List.{length-append, length-take}
use Rattle.std.specs.List.{AllByRecursion}
use Rattle.std.proofs.Common.{◌≡◌, ◌<◌, ◌≤◌, ◌+◌, ◌^◌, ◌==◌, ◌&&◌, ◌⊎◌, inl, inr, ◌∙◌, ℕ, Bool, true, false, true≢false, List, [], ◌∷◌, ◌++◌, length, Option, Some, None, IfSome, is_none, is_some, refl, sym, ap, subst, arith, append-nil, append_assoc}
use Rattle.rs_wire.specs.declared.settings.Settings.{Settings}
use Rattle.rs_wire.specs.declared.words.Kind.{Kind}
use Rattle.rs_wire.specs.declared.words.Kind.TheVariants as kind
use Rattle.rs_wire.specs.declared.words.Side.TheVariants.{Client}
use Rattle.outside.specs.Causes.{IsMoment, Rose}
use Rattle.outside.specs.Links.{Shown}
use Rattle.tape.specs.Answers.{leaves}
use Rattle.tape.specs.Told.{entry_of}
use Rattle.tape.specs.declared.event.Event.{Event}
use Rattle.tape.specs.declared.event.Event.TheVariants as event
use Rattle.tape.specs.declared.answer.Answer.{Answer}
use Rattle.tape.specs.declared.answer.Answer.TheVariants as answer
use Rattle.tape.specs.declared.entry.Entry.{Entry}
use Rattle.session_model.specs.Answers.{facts}
use Rattle.rs_frame.specs.Framed.{framed_all}
use Rattle.session_model.specs.Frames.{came, drawn, draws, due, first_bad, queued}
use Rattle.session_model.specs.Life.{live, openings_in}
use Rattle.session_model.specs.Legal.{Legal}
use Rattle.session_model.specs.Means.{Means}
use Rattle.session_model.proofs.Meaning.{last_means}
use Rattle.session_laws.specs.Streams.{IsLawful}
use Rattle.conn_lock.specs.Callers.{times}
use Rattle.conn_shared.specs.Members.{Follows, Knowledge}
use Rattle.link_model.specs.Carrying.{Between, Keeps}
use Rattle.link_model.specs.Leaving.{Heard, IsAllGiven, IsBroken, IsReadOut as HasReadOut, Left, displaced, takes_place}
use Rattle.link_model.specs.Giving.{HasGiven, count_drawn}
use Rattle.link_model.specs.Reading.{IsInFront, IsPart}
use Rattle.link_laws.specs.Staying.{ends}
use Rattle.pump.specs.declared.numbers.TheConstants.{PIECE}
use Rattle.pump.specs.declared.turned.Turned.{Turned}
use Rattle.pump.specs.declared.turned.Turned.TheVariants as turned
use Rattle.pump.specs.Turns.{Arrives, DrawsWhere, GoesOn, IsReadOut, IsTurn, TurnedFor, WasNoted, goes_on_after, goes_on_from, is_early, is_empty, Ticks}
use Rattle.call_model.specs.Order.{Asking, MayFollow, comes, is_leased, is_request, is_taken, moves_only, next_call, owes_request}
use Rattle.call_model.specs.Timing.{HasMoment}
use Rattle.call_model.specs.Ran.{HasDied, HasPlace}
use Rattle.call_model.specs.Saying.{end_line, got_in, got_of, lines_of, said, started}
use Rattle.call_model.specs.Standing.{IsPaid, IsUnended, Stands}
use Rattle.call_model.specs.Present.{HasDrawnAll, HasJoined, IsServed}
use Rattle.call_model.proofs.Ending.{dead_late, delivered_same, died_here, died_more, says_none, tick_says_none}
use Rattle.call_model.proofs.Ordering.{got_same, next_none, owes_same, started_same}
use Rattle.call_model.proofs.Present.{all_given, heard_here, joined_on, left_here, nothing_in, served_drawn, still_on}
use Rattle.call_model.proofs.Standing.{arrivals_stand, is_plain, plain_on}
use Rattle.client.specs.Alone.{AreNamed, IsOwn}
use Rattle.client.specs.Takes.{IsTakenIn}
use Rattle.client.specs.Turning.{HasTurned, Pumps, SaysOf}
use Rattle.client.proofs.Alone.{Adds, IsSame, all_rest, follows_alone, own_before, own_call, own_lawful, own_named, rest_lawful}

-- ---- what comes

arrives : (c : ℕ) (names : List ℕ) (number : ℕ) (more : List Entry) → AreNamed names more → AllByRecursion (λ (x : Entry). 0 < times x.who names → (x.who ≡ number) × Arrives c x.event) more → AllByRecursion (λ (x : Entry). Arrives c x.event) more
arrives c names number [] all own = tt
arrives c names number (x ∷ more) all own = ((own.0 all.0).1, arrives c names number more all.1 own.1)

-- of a caller that is alone
pub come_alone : (was now : Knowledge) (c : ℕ) (begun : List Entry) → IsSame was now → IsOwn now → (goes : GoesOn (Arrives c) (record was { front = begun; note = None }) now.front) → AllByRecursion (λ (x : Entry). Arrives c x.event) goes.more
come_alone was now c begun same own goes = arrives c was.names was.number goes.more (all_rest (λ (x : Entry). 0 < times x.who was.names) goes.more begun (subst (AreNamed was.names) goes.on (own_named was now same own))).0 goes.own

comes_by : (c : ℕ) (e : Event) → Arrives c e → comes e ≡ true
comes_by c (event.Came conn f) is = refl
comes_by c (event.Bad conn rule) is = refl
comes_by c _ is = absurd is

only_by : (c : ℕ) (e : Event) → Arrives c e → moves_only c e ≡ true
only_by c (event.Came conn f) is = grind (arith, nat_tests)
only_by c (event.Bad conn rule) is = grind (arith, nat_tests)
only_by c _ is = absurd is

stays_by : (c n : ℕ) (e : Event) → Arrives c e → (ends n e ≡ false) × (openings_in e ≡ 0)
stays_by c n (event.Came conn f) is = (refl, refl)
stays_by c n (event.Bad conn rule) is = (refl, refl)
stays_by c n _ is = absurd is

takes_none : (g : Settings) (past : List Entry) (c : ℕ) (a : Answer) (e : Event) → Means g (facts g past) e a → Arrives c e → takes_place a ≡ false
takes_none g past c (answer.Opened n) (event.Came conn f) means is = absurd means
takes_none g past c (answer.Opened n) (event.Bad conn rule) means is = absurd means
takes_none g past c (answer.Opened n) _ means is = absurd is
takes_none g past c (answer.Dead last) (event.Came conn f) means is = absurd means
takes_none g past c (answer.Dead last) (event.Bad conn rule) means is = absurd means
takes_none g past c (answer.Dead last) _ means is = absurd is
takes_none g past c _ e means is = refl

all_as : {P Q : Entry → Type 0} → ((x : Entry) → P x → Q x) → (xs : List Entry) → AllByRecursion P xs → AllByRecursion Q xs
all_as f [] h = tt
all_as f (x ∷ xs) h = (f x h.0, all_as f xs h.1)

pub all_both : (P : Entry → Type 0) (xs ys : List Entry) → AllByRecursion P xs → AllByRecursion P ys → AllByRecursion P (xs ++ ys)
all_both P [] ys a b = b
all_both P (x ∷ xs) ys a b = (a.0, all_both P xs ys a.1 b)

joined_more : (g : Settings) (c n : ℕ) (more past : List Entry) → AllByRecursion (λ (x : Entry). Arrives c x.event) more → HasJoined g past n → HasJoined g (more ++ past) n
joined_more g c n [] past all h = h
joined_more g c n (x ∷ more) past all h = let s = stays_by c n x.event all.0 in joined_on g (more ++ past) x n s.0 s.1 (joined_more g c n more past all.1 h)

still_more : (g : Settings) (c n : ℕ) (more past : List Entry) → Legal g (more ++ past) → AllByRecursion (λ (x : Entry). Arrives c x.event) more → displaced past n ≡ false → displaced (more ++ past) n ≡ false
unfolding Legal
still_more g c n [] past legal all h = h
still_more g c n (x ∷ more) past legal all h = still_on (more ++ past) x n (takes_none g (more ++ past) c x.answer x.event (last_means g x (more ++ past) legal) all.0) (still_more g c n more past legal.0 all.1 h)

-- ---- a tick and a draw

-- what holds between the parts of a turn
record At (w : Asking) (moments : Option (List ℕ)) (g : Settings) (past new : List Entry) (c : ℕ) (stream : Option ℕ) (fresh : ℕ) (still : Type 0) : Type 0 where
  more : List Entry
  on : new ≡ more ++ past
  only : AllByRecursion (λ (x : Entry). moves_only c x.event ≡ true) more
  stands : Stands w moments new stream fresh
  unended : IsUnended new
  joined : HasJoined g new c
  calm : still → displaced new c ≡ false
  next : next_call w new ≡ None
  owes : owes_request new ≡ owes_request past
  takes : (k : Kind) → IsTakenIn k g past → IsTakenIn k g new
  same : (k : Kind) → said k false new ≡ said k false past

here : (w : Asking) (moments : Option (List ℕ)) (g : Settings) (past : List Entry) (c : ℕ) (stream : Option ℕ) (fresh : ℕ) → HasPlace past → Stands w moments past stream fresh → IsUnended past → HasJoined g past c → displaced past c ≡ false → At w moments g past past c stream fresh (Unit {0})
here w moments g past c stream fresh place stands unended joined still = record {
  more = [];
  on = refl;
  only = tt;
  stands = stands;
  unended = unended;
  joined = joined;
  calm = λ u. still;
  next = stands.free place;
  owes = refl;
  takes = λ k whole. whole;
  same = λ k. refl;
}

-- what is said is the same, where an entry neither asks for the stream nor takes of it
pub said_still : (g : Settings) (past : List Entry) (x : Entry) (k : Kind) → Legal g (x ∷ past) → is_request x.event ≡ false → ((s : ℕ) → got_in s x.answer x.event ≡ []) → said k false (x ∷ past) ≡ said k false past
said_still g past x k legal asks gets = ap (λ (l : List ℕ). l ++ end_line k false) (ap (λ (o : Option ℕ). lines_of (got_of (x ∷ past) o)) (started_same g past x legal asks) ∙ by (started past))
  where
    by : (o : Option ℕ) → lines_of (got_of (x ∷ past) o) ≡ lines_of (got_of past o)
    by None = refl
    by (Some s) = ap lines_of (got_same past x s (gets s))

arrives_gets : (c : ℕ) (a : Answer) (e : Event) (s : ℕ) → Arrives c e → got_in s a e ≡ []
arrives_gets c (answer.Got d) (event.Came conn f) s is = refl
arrives_gets c (answer.Got d) (event.Bad conn rule) s is = refl
arrives_gets c (answer.Got d) _ s is = absurd is
arrives_gets c _ e s is = refl

arrives_asks : (c : ℕ) (e : Event) → Arrives c e → is_request e ≡ false
arrives_asks c (event.Came conn f) is = refl
arrives_asks c (event.Bad conn rule) is = refl
arrives_asks c _ is = absurd is

arrivals_said : (g : Settings) (k : Kind) (more past : List Entry) (c : ℕ) → Legal g (more ++ past) → AllByRecursion (λ (x : Entry). Arrives c x.event) more → said k false (more ++ past) ≡ said k false past
unfolding Legal
arrivals_said g k [] past c legal all = refl
arrivals_said g k (x ∷ more) past c legal all = said_still g (more ++ past) x k legal (arrives_asks c x.event all.0) (λ s. arrives_gets c x.answer x.event s all.0) ∙ arrivals_said g k more past c legal.0 all.1

-- what was taken in whole is so still, where an entry says nothing of a stream
pub taken_still : (g : Settings) (past : List Entry) (x : Entry) (k : Kind) → Legal g (x ∷ past) → is_request x.event ≡ false → ((s : ℕ) → got_in s x.answer x.event ≡ []) → says_none x.answer x.event → IsTakenIn k g past → IsTakenIn k g (x ∷ past)
taken_still g past x kind.Fnf legal asks gets silent whole = tt
taken_still g past x _ legal asks gets silent whole =
    λ s on. got_same past x s (gets s) ∙ (whole s (sym (started_same g past x legal asks) ∙ on) ∙ sym (delivered_same g past x s silent))

plain_gets : (a : Answer) (e : Event) (s : ℕ) → is_plain e ≡ true → got_in s a e ≡ []
plain_gets (answer.Got d) (event.Asked c) s is = absurd (true≢false (sym is))
plain_gets (answer.Got d) e s is = refl
plain_gets _ e s is = refl

draw_says_none : (a : Answer) (c room : ℕ) → says_none a (event.Draw c room)
draw_says_none answer.Handled c room covered held = refl
draw_says_none (answer.Started id) c room covered held = refl
draw_says_none answer.Done c room covered held = refl
draw_says_none (answer.Got d) c room covered held = refl
draw_says_none (answer.GotJob j) c room covered held = refl
draw_says_none _ c room covered held = refl

-- a plain entry more, that moves no other bytes
plain_more : (w : Asking) (moments : Option (List ℕ)) (g : Settings) (past mid : List Entry) (x : Entry) (c : ℕ) (stream : Option ℕ) (fresh : ℕ) (P Q : Type 0) → HasPlace mid → Legal g (x ∷ mid) → is_plain x.event ≡ true → MayFollow w mid x.event → HasMoment moments x.event
    → moves_only c x.event ≡ true → ends c x.event ≡ false → openings_in x.event ≡ 0 → is_request x.event ≡ false → is_leased x.event x.answer ≡ false → is_taken x.event x.answer ≡ false → says_none x.answer x.event → (Q → P × (takes_place x.answer ≡ false)) → At w moments g past mid c stream fresh P → At w moments g past (x ∷ mid) c stream fresh Q
plain_more w moments g past mid x c stream fresh P Q place legal plain may timed only stays none asks leases takes silent calm h =
    let s = plain_on g w moments mid x stream fresh place plain may timed legal (h.stands, h.unended) in
    record {
      more = x ∷ h.more;
      on = ap (λ (l : List Entry). x ∷ l) h.on;
      only = (only, h.only);
      stands = s.0;
      unended = s.1;
      joined = joined_on g mid x c stays none h.joined;
      calm = λ q. still_on mid x c (calm q).1 (h.calm (calm q).0);
      next = next_none w mid x h.stands.begins takes;
      owes = owes_same mid x asks leases ∙ h.owes;
      takes = λ k whole. taken_still g mid x k legal asks (λ s. plain_gets x.answer x.event s plain) silent (h.takes k whole);
      same = λ k. said_still g mid x k legal asks (λ s. plain_gets x.answer x.event s plain) ∙ h.same k;
    }

tick_calm : (g : Settings) (past : List Entry) (a : Answer) (now : ℕ) → Means g (facts g past) (event.Tick now) a → goes_on_after a ≡ true → takes_place a ≡ false
tick_calm g past (answer.Opened n) now means on = absurd means
tick_calm g past (answer.Dead last) now means on = absurd (true≢false (sym on))
tick_calm g past _ now means on = refl

draw_calm : (g : Settings) (past : List Entry) (a : Answer) (c room : ℕ) → Means g (facts g past) (event.Draw c room) a → takes_place a ≡ false
draw_calm g past (answer.Opened n) c room means = absurd means
draw_calm g past (answer.Dead last) c room means = absurd means
draw_calm g past _ c room means = refl

quiet_tick : (a : Answer) (now : ℕ) → (is_leased (event.Tick now) a ≡ false) × (is_taken (event.Tick now) a ≡ false)
quiet_tick (answer.Got d) now = (refl, refl)
quiet_tick answer.Handled now = (refl, refl)
quiet_tick _ now = (refl, refl)

quiet_draw : (a : Answer) (c room : ℕ) → (is_leased (event.Draw c room) a ≡ false) × (is_taken (event.Draw c room) a ≡ false)
quiet_draw (answer.Got d) c room = (refl, refl)
quiet_draw answer.Handled c room = (refl, refl)
quiet_draw _ c room = (refl, refl)

pub may_tick : (w : Asking) (past : List Entry) (moments : Option (List ℕ)) (stream : Option ℕ) (fresh now : ℕ) → HasPlace past → Stands w moments past stream fresh → IsPaid past stream → MayFollow w past (event.Tick now)
may_tick w past moments stream fresh now place stands paid = by (started past) refl
  where
    by : (o : Option ℕ) → started past ≡ o → (is_none (started past) && owes_request past) ≡ false
    by None is = rw (is, paid place (stands.knows ∙ is)) refl
    by (Some s) is = rw is refl

tick_at : (w : Asking) (moments : Option (List ℕ)) (was : Knowledge) (c : ℕ) (stream : Option ℕ) (fresh now : ℕ) (a : Answer) (ticked : List Entry) → HasPlace was.front → IsMoment moments now → IsLawful was.of.settings ticked → IsPaid was.front stream → Adds was (event.Tick now) a ticked
    → At w moments was.of.settings was.front was.front c stream fresh (Unit {0}) → At w moments was.of.settings was.front ticked c stream fresh (goes_on_after a ≡ true)
tick_at w moments was c stream fresh now a ticked place moment lawful paid adds h = by adds.came
  where
    g : Settings
    g = was.of.settings

    x : Entry
    x = entry_of was.number (event.Tick now) a

    by : ((leaves a ≡ false) × (ticked ≡ was.front)) ⊎ ((leaves a ≡ true) × (ticked ≡ x ∷ was.front) × HasPlace was.front) → At w moments g was.front ticked c stream fresh (goes_on_after a ≡ true)
    by (inl none) = subst (λ (l : List Entry). At w moments g was.front l c stream fresh (goes_on_after a ≡ true)) (sym none.1) (record {
      more = h.more;
      on = h.on;
      only = h.only;
      stands = h.stands;
      unended = h.unended;
      joined = h.joined;
      calm = λ on. h.calm tt;
      next = h.next;
      owes = h.owes;
      takes = h.takes;
      same = h.same;
    })
    by (inr some) =
        let legal : Legal g (x ∷ was.front) = subst (Legal g) some.1 lawful.legal in
        let quiet = quiet_tick a now in
        subst (λ (l : List Entry). At w moments g was.front l c stream fresh (goes_on_after a ≡ true)) (sym some.1)
        (plain_more w moments g was.front was.front x c stream fresh (Unit {0}) (goes_on_after a ≡ true) place legal refl (may_tick w was.front moments stream fresh now place h.stands paid) moment
        refl refl refl refl quiet.0 quiet.1 (tick_says_none a now) (λ on. (tt, tick_calm g was.front a now (last_means g x was.front legal) on)) h)

draw_at : (w : Asking) (moments : Option (List ℕ)) (g : Settings) (past : List Entry) (was : Knowledge) (c : ℕ) (stream : Option ℕ) (fresh : ℕ) (a : Answer) (begun : List Entry) (P : Type 0) → was.of.settings ≡ g → IsLawful g begun → Adds was (event.Draw c PIECE) a begun
    → At w moments g past was.front c stream fresh P → At w moments g past begun c stream fresh P
draw_at w moments g past was c stream fresh a begun P same lawful adds h = by adds.came
  where
    x : Entry
    x = entry_of was.number (event.Draw c PIECE) a

    by : ((leaves a ≡ false) × (begun ≡ was.front)) ⊎ ((leaves a ≡ true) × (begun ≡ x ∷ was.front) × HasPlace was.front) → At w moments g past begun c stream fresh P
    by (inl none) = subst (λ (l : List Entry). At w moments g past l c stream fresh P) (sym none.1) h
    by (inr some) =
        let legal : Legal g (x ∷ was.front) = subst (Legal g) some.1 lawful.legal in
        let quiet = quiet_draw a c PIECE in
        let mine : (c == c) ≡ true = grind (arith, nat_tests) in
        subst (λ (l : List Entry). At w moments g past l c stream fresh P) (sym some.1)
        (plain_more w moments g past was.front x c stream fresh P P some.2 legal refl tt tt mine refl refl refl quiet.0 quiet.1 (draw_says_none a c PIECE) (λ p. (p, draw_calm g was.front a c PIECE (last_means g x was.front legal))) h)

-- ---- a whole turn

arrive_at : (w : Asking) (moments : Option (List ℕ)) (g : Settings) (past begun more : List Entry) (c : ℕ) (stream : Option ℕ) (fresh : ℕ) (P : Type 0) → IsLawful g (more ++ begun) → AllByRecursion (λ (x : Entry). Arrives c x.event) more → At w moments g past begun c stream fresh P
    → (Stands w moments (more ++ begun) stream fresh × IsUnended (more ++ begun)) × HasJoined g (more ++ begun) c × (P → displaced (more ++ begun) c ≡ false)
arrive_at w moments g past begun more c stream fresh P lawful all h = (
  arrivals_stand g w moments more begun stream fresh (all_as (λ x. comes_by c x.event) more all) lawful.legal h.next (h.stands, h.unended),
  joined_more g c c more begun all h.joined,
  λ p. still_more g c c more begun lawful.legal all (h.calm p),
)

-- all that was taken has come, as far as it can
read_out : (g : Settings) (was : Knowledge) (new : List Entry) (t : Shown) (c : ℕ) (d : Between) → AreNamed was.names new → d.conn ≡ c → d.max_in ≡ g.max_in → Keeps g new t d → IsReadOut g was d new → HasReadOut g new c d.rest
read_out g was new t c d all at limit k (inl (inl bad)) = inr (inl (λ none. true≢false (sym bad ∙ (k.bad ∙ ap is_some (ap (first_bad new) at ∙ none)))))
read_out g was new t c d all at limit k (inl (inr part)) = inl (subst (λ m. IsPart d.rest m) limit part)
read_out g was new t c d all at limit k (inr (q, busy)) =
    let same : new ≡ busy.before = follows_alone was.names busy.before new busy.follows all in
    inr (inr (record {
      event = busy.busy.event;
      before = busy.before;
      later = [];
      queued = q;
      since = same;
      all = ap (λ (l : List Entry). came l c) (sym same);
      front = subst (λ n. IsInFront n d.rest g.max_in busy.busy.event) at (subst (λ m. IsInFront d.conn d.rest m busy.busy.event) limit busy.busy.front);
      busy = sym busy.busy.answered;
    }))

-- a Tick that found the peer dead stands
died : (moments : Option (List ℕ)) (was : Knowledge) (new : List Entry) (last : ℕ) → was.of.settings.side ≡ Client → IsLawful was.of.settings new → WasNoted (Ticks moments) was.of.settings was new (answer.Dead last) → HasDied was.of.settings new last
died moments was new last client lawful n = by n.entry.event refl n.is
  where
    g : Settings
    g = was.of.settings

    by : (e : Event) → n.entry.event ≡ e → Ticks moments e → HasDied g new last
    by (event.Tick now) is tick =
        let lawful_there : IsLawful g (n.entry ∷ n.before) = rest_lawful g n.until.0 (n.entry ∷ n.before) (subst (IsLawful g) n.until.1 lawful) in
        subst (λ (l : List Entry). HasDied g l last) (sym n.until.1)
        (died_more g n.until.0 (n.entry ∷ n.before) last (died_here g n.before n.entry last (dead_late g n.before n.entry now last client lawful_there is n.answered)))
    by _ is tick = absurd tick

pub rose_some : (old new : ℕ) → Rose old new → 0 < new
rose_some old new (inl lt) = omega arith
rose_some old new (inr is) = omega arith

-- a turn draws nothing where no byte is left after its draw
was_empty : (g : Settings) (me : Knowledge) (c room : ℕ) (goes : Bool) (drew : Option Answer) (old left : List ℕ) (new : List Entry) → DrawsWhere (goes && is_empty old) g me c room drew old left new → left ≡ [] → old ≡ []
was_empty g me c room goes drew [] left new d none = refl
was_empty g me c room true None (x ∷ old) left new d none = absurd (true≢false (ap is_empty (sym none ∙ d.0)))
was_empty g me c room false None (x ∷ old) left new d none = absurd (true≢false (ap is_empty (sym none ∙ d.0)))
was_empty g me c room true (Some a) (x ∷ old) left new d none = absurd d
was_empty g me c room false (Some a) (x ∷ old) left new d none = absurd d

adds_drawn : (was : Knowledge) (e : Event) (a : Answer) (new : List Entry) (c : ℕ) → draws c a e ≡ 0 → Adds was e a new → drawn new c ≡ drawn was.front c
unfolding drawn
adds_drawn was e a new c none adds = by adds.came
  where
    by : ((leaves a ≡ false) × (new ≡ was.front)) ⊎ ((leaves a ≡ true) × (new ≡ entry_of was.number e a ∷ was.front) × HasPlace was.front) → drawn new c ≡ drawn was.front c
    by (inl same) = ap (λ (l : List Entry). drawn l c) same.1
    by (inr more) = ap (λ (l : List Entry). drawn l c) more.1 ∙ (rw none (omega arith))

draws_count : (a : Answer) (c room : ℕ) → count_drawn a ≡ 0 → draws c a (event.Draw c room) ≡ 0
draws_count (answer.Drawn n) c room none = let mine : (c == c) ≡ true = grind (arith, nat_tests) in rw mine none
draws_count _ c room none = refl

draws_tick : (a : Answer) (c now : ℕ) → draws c a (event.Tick now) ≡ 0
draws_tick (answer.Drawn n) c now = refl
draws_tick _ c now = refl

-- all that is due was given where nothing was drawn, and nothing is queued
given_still : (g : Settings) (past new : List Entry) (s t : Shown) (c : ℕ) (left : List ℕ) → HasDrawnAll g past s c [] → HasDrawnAll g new t c left → t.given ≡ s.given → drawn new c ≡ drawn past c → live new ≡ c → queued g new ≡ 0 → IsAllGiven g new t c
given_still g past new s t c left was now same drawn_is live_is empty = by s.given t.given same was.given now.given
  where
    by : (x y : Option (List ℕ)) → y ≡ x → IfSome x (λ bytes. HasGiven g past c [] bytes) → IfSome y (λ bytes. HasGiven g new c left bytes) → IfSome y (λ bytes. bytes ≡ framed_all (due g new c))
    by x None is a b = tt
    by None (Some ys) is a b = absurd (cc)
    by (Some xs) (Some ys) is a b =
        let bytes : ys ≡ xs = cc in
        let le = was.within in
        let le' = now.within in
        let count : length xs ≡ drawn past c = sym (ap length (append-nil xs)) ∙ (ap length a.all ∙ (length-take (drawn past c) (framed_all (due g past c)) ∙ omega (arith, le))) in
        let sum : length ys + length left ≡ drawn new c = sym (length-append ys left) ∙ (ap length b.all ∙ (length-take (drawn new c) (framed_all (due g new c)) ∙ omega (arith, le'))) in
        let same_length = ap length bytes in
        let none : left ≡ [] = nothing_in left (omega (arith, count, sum, same_length, drawn_is)) in
        let one : IfSome (Some ys) (λ bytes. HasGiven g new c left bytes) = b in
        all_given g new (record { given = Some ys; taken = None; counts = t.counts }) c left (record { within = now.within; given = one }) none live_is empty

-- what is full takes no entry more
full_tick : (was : Knowledge) (e : Event) (a : Answer) (new : List Entry) → 2 ^ 63 ≤ length was.front → Adds was e a new → (a ≡ answer.TapeFull) × (new ≡ was.front)
full_tick was e a new full adds = (
  adds.step.full.1 full,
  elim adds.came [
    | inl none ↦ none.1
    | inr some ↦ absurd (let place = some.2 in omega (arith, place, full))
  ],
)

-- where the draw leads
drawn_to : (w : Asking) (moments : Option (List ℕ)) (was : Knowledge) (ticked begun : List Entry) (c : ℕ) (due : Bool) (drew : Option Answer) (old left : List ℕ) (stream : Option ℕ) (fresh : ℕ) (P : Type 0)
    → IsOwn (record was { front = begun; note = None }) → DrawsWhere due was.of.settings (record was { front = ticked; note = None }) c PIECE drew old left begun
    → IsOwn (record was { front = ticked; note = None }) × (At w moments was.of.settings was.front ticked c stream fresh P → At w moments was.of.settings was.front begun c stream fresh P) × (left ≡ [] → drawn begun c ≡ drawn ticked c)
drawn_to w moments was ticked begun c true (Some a) old left stream fresh P own d =
    let k : Knowledge = record was { front = ticked; note = None } in
    let h = own_call was.of.settings k (record was { front = begun; note = None }) (event.Draw c PIECE) a refl refl d.called own in (
      h.0,
      draw_at w moments was.of.settings was.front k c stream fresh a begun P refl own.lawful h.1,
      λ none. adds_drawn k (event.Draw c PIECE) a begun c (draws_count a c PIECE (sym d.count ∙ ap length none)) h.1,
    )
drawn_to w moments was ticked begun c false None old left stream fresh P own d = (
  subst (λ (l : List Entry). IsOwn (record was { front = l; note = None })) d.1 own,
  subst (λ (l : List Entry). At w moments was.of.settings was.front l c stream fresh P) (sym d.1),
  λ none. ap (λ (l : List Entry). drawn l c) d.1,
)
drawn_to w moments was ticked begun c true None old left stream fresh P own d = absurd d
drawn_to w moments was ticked begun c false (Some a) old left stream fresh P own d = absurd d

-- ---- what the result says

says_by : (moments : Option (List ℕ)) (was now : Knowledge) (s t : Shown) (c : ℕ) (d : Between) (r : Turned) → was.of.settings.side ≡ Client → IsLawful was.of.settings now.front → TurnedFor was.of.settings moments was now.front s t d r
    → (r ≡ turned.Lull → HasPlace now.front → Heard was.of.settings now.front t c × (IsAllGiven was.of.settings now.front t c ⊎ (0 < t.counts.stalls)))
    → (is_early r ≡ false → IsBroken t → HasPlace now.front → Left was.of.settings now.front t c) → SaysOf was.of.settings now.front t c r
says_by moments was now s t c d turned.Lull client lawful cause lull left = lull refl
says_by moments was now s t c d turned.End client lawful cause lull left =
    let broken : IsBroken t = inr (rose_some s.counts.ends t.counts.ends cause) in (broken, left refl broken)
says_by moments was now s t c d turned.LinkFault client lawful cause lull left =
    let broken : IsBroken t = inl (rose_some s.counts.faults t.counts.faults cause) in (broken, left refl broken)
says_by moments was now s t c d (turned.Over why) client lawful cause lull left = cause.0
says_by moments was now s t c d (turned.Dead last) client lawful cause lull left = died moments was now.front last client lawful cause
says_by moments was now s t c d (turned.Moved given taken) client lawful cause lull left = tt
says_by moments was now s t c d (turned.Busy q) client lawful cause lull left = tt
says_by moments was now s t c d (turned.Displaced n) client lawful cause lull left = tt
says_by moments was now s t c d turned.TapeFull client lawful cause lull left = cause
says_by moments was now s t c d turned.OutOfMemory client lawful cause lull left = tt

-- ---- all of it

kept_now : (moments : Option (List ℕ)) (was now : Knowledge) (s t : Shown) (b d : Between) (r : Turned) → IsSame was now → IsOwn now → Pumps moments was now s t b d r → Keeps was.of.settings was.front s b → Keeps was.of.settings now.front t d
kept_now moments was now s t b d r same own p k =
    subst (λ (n : Knowledge). Keeps n.of.settings now.front t d) same (p.kept (λ alone. k) (record { named = own.sole.named; alone = own.sole.alone d.conn }))

served_now : (g : Settings) (new : List Entry) (t : Shown) (c : ℕ) (d : Between) → HasJoined g new c → d.conn ≡ c → Keeps g new t d → IsServed g new t c d false
served_now g new t c d joined at k = record {
  joined = joined;
  conn = at;
  kept = λ on. k;
  given = λ full. absurd (true≢false (sym full));
  place = λ full. absurd (true≢false (sym full));
}

pub has_turned : (w : Asking) (moments : Option (List ℕ)) (was now : Knowledge) (s t : Shown) (b d : Between) (stream : Option ℕ) (fresh : ℕ) (r : Turned) → was.of.settings.side ≡ Client → IsSame was now → b.max_in ≡ was.of.settings.max_in → IsOwn now → Pumps moments was now s t b d r
    → IsOwn was × (Stands w moments was.front stream fresh → IsUnended was.front → IsPaid was.front stream → IsServed was.of.settings was.front s b.conn b false → (HasPlace was.front → displaced was.front b.conn ≡ false)
    → HasTurned w moments was.of.settings was.front now.front t b.conn d stream fresh false r)
has_turned w moments was now s t b d stream fresh r client same limit own p = (tick.0, λ stands unended paid served still. by stands unended paid served still (cases_lt (length was.front) (2 ^ 63)))
  where
    g : Settings
    g = was.of.settings

    c : ℕ
    c = b.conn

    turn : IsTurn g moments was c b.left p.turned.left now.front
    turn = p.turned.turn

    begun : List Entry
    begun = turn.begun

    arrivals : GoesOn (Arrives c) (record was { front = begun; note = None }) now.front
    arrivals = turn.arrivals

    bk : Knowledge
    bk = record was { front = begun; note = None }

    tk : Knowledge
    tk = record was { front = turn.begins.ticked; note = None }

    own_begun : IsOwn bk
    own_begun = own_before bk now same (arrivals.more, arrivals.on) own

    come : AllByRecursion (λ (x : Entry). Arrives c x.event) arrivals.more
    come = come_alone was now c begun same own arrivals

    draws_to : (P : Type 0) → IsOwn tk × (At w moments g was.front turn.begins.ticked c stream fresh P → At w moments g was.front begun c stream fresh P) × (p.turned.left ≡ [] → drawn begun c ≡ drawn turn.begins.ticked c)
    draws_to P = drawn_to w moments was turn.begins.ticked begun c (goes_on_after turn.begins.answer && is_empty b.left) turn.begins.drew b.left p.turned.left stream fresh P own_begun turn.begins.draw

    tick : IsOwn was × Adds was (event.Tick turn.begins.now) turn.begins.answer turn.begins.ticked
    tick = own_call g was tk (event.Tick turn.begins.now) turn.begins.answer refl refl turn.begins.tick (draws_to (Unit {0})).0

    lawful : IsLawful g now.front
    lawful = own_lawful was now same own

    limit_d : d.max_in ≡ g.max_in
    limit_d = p.limit ∙ limit

    -- the tape is full: nothing was added
    stopped : 2 ^ 63 ≤ length was.front → now.front ≡ was.front
    stopped full =
        let t = full_tick was (event.Tick turn.begins.now) turn.begins.answer turn.begins.ticked full tick.1 in
        let off : goes_on_after turn.begins.answer ≡ false = ap goes_on_after t.0 in
        let d = not_drawn turn.begins.drew (subst (λ b. DrawsWhere b g tk c PIECE turn.begins.drew old_left new_left begun) (ap (λ b. b && is_empty old_left) off) turn.begins.draw) in
        turn.ended (d.1 off) ∙ (d.0 ∙ t.1)
      where
        old_left : List ℕ
        old_left = b.left

        new_left : List ℕ
        new_left = p.turned.left

        not_drawn : (drew : Option Answer) → DrawsWhere false g tk c PIECE drew old_left new_left begun → (begun ≡ turn.begins.ticked) × (goes_on_after turn.begins.answer ≡ false → goes_on_from turn.begins.answer drew ≡ false)
        not_drawn None d = (d.1, λ off. off)
        not_drawn (Some a) d = absurd d

    by : Stands w moments was.front stream fresh → IsUnended was.front → IsPaid was.front stream → IsServed g was.front s c b false → (HasPlace was.front → displaced was.front c ≡ false) → (length was.front < 2 ^ 63) ⊎ (2 ^ 63 ≤ length was.front) → HasTurned w moments g was.front now.front t c d stream fresh false r
    by stands unended paid served still (inr full) =
        let none = stopped full in
        let k = kept_now moments was now s t b d r same own p (served.kept refl) in
        let off : HasPlace now.front → ⊥ = λ place. (let there = subst HasPlace none place in omega (arith, full, there)) in
        record {
          more = [];
          on = none;
          only = tt;
          stands = subst (λ (l : List Entry). Stands w moments l stream fresh) (sym none) stands;
          unended = subst IsUnended (sym none) unended;
          served = served_now g now.front t c d (subst (λ (l : List Entry). HasJoined g l c) (sym none) served.joined) p.conn k;
          still = λ late place. absurd (off place);
          paid = λ lull place. absurd (off place);
          takes = λ lull k whole. subst (IsTakenIn k g) (sym none) whole;
          same = λ k. ap (said k false) none;
          says = says_by moments was now s t c d r client lawful p.cause (λ lull place. absurd (off place)) (λ late broken place. absurd (off place));
        }
    by stands unended paid served still (inl place) =
        let start = here w moments g was.front c stream fresh place stands unended served.joined (still place) in
        let ticked = tick_at w moments was c stream fresh turn.begins.now turn.begins.answer turn.begins.ticked place turn.begins.moment (draws_to (Unit {0})).0.lawful paid tick.1 start in
        let drew = (draws_to (goes_on_after turn.begins.answer ≡ true)).1 ticked in
        let end = arrive_at w moments g was.front begun arrivals.more c stream fresh (goes_on_after turn.begins.answer ≡ true) (subst (IsLawful g) arrivals.on lawful) come drew in
        let back : now.front ≡ arrivals.more ++ begun = arrivals.on in
        let k = kept_now moments was now s t b d r same own p (served.kept refl) in
        let joined = subst (λ (l : List Entry). HasJoined g l c) (sym back) end.1 in
        let calm : is_early r ≡ false → displaced now.front c ≡ false = λ late. subst (λ (l : List Entry). displaced l c ≡ false) (sym back) (end.2 (p.turned.ticked late)) in
        let out : is_early r ≡ false → HasReadOut g now.front c d.rest = λ late. read_out g was now.front t c d (own_named was now same own) p.conn limit_d k (p.read late) in
        record {
          more = arrivals.more ++ drew.more;
          on = back ∙ (ap (λ (l : List Entry). arrivals.more ++ l) drew.on ∙ sym (append_assoc arrivals.more drew.more was.front));
          only = all_both (λ x. moves_only c x.event ≡ true) arrivals.more drew.more (all_as (λ x. only_by c x.event) arrivals.more come) drew.only;
          stands = subst (λ (l : List Entry). Stands w moments l stream fresh) (sym back) end.0.0;
          unended = subst IsUnended (sym back) end.0.1;
          served = served_now g now.front t c d joined p.conn k;
          still = λ late room. calm late;
          paid = λ lull. lulled_paid stands paid drew (p.turned.still lull).0;
          takes = λ lull k whole. subst (IsTakenIn k g) (sym (follows_alone was.names begun now.front (p.turned.still lull).0 (own_named was now same own))) (drew.takes k whole);
          same = λ k. ap (said k false) back ∙ (arrivals_said g k arrivals.more begun c (subst (IsLawful g) arrivals.on lawful).legal come ∙ drew.same k);
          says = says_by moments was now s t c d r client lawful p.cause
              (λ lull room. (let late : is_early r ≡ false = ap is_early lull in (
                heard_here g now.front t c d lawful.legal joined (calm late) p.conn k (out late),
                lulled_given lull served joined k (p.turned.still lull),
              )))
              (λ late broken room. left_here g now.front t c d lawful.legal joined p.conn k (out late) broken);
        }
      where
        lulled_paid : Stands w moments was.front stream fresh → IsPaid was.front stream → At w moments g was.front begun c stream fresh (goes_on_after turn.begins.answer ≡ true) → Follows was.names begun now.front → IsPaid now.front stream
        lulled_paid stands paid drew f room none =
            let one : now.front ≡ begun = follows_alone was.names begun now.front f (own_named was now same own) in
            ap owes_request one ∙ (drew.owes ∙ paid place none)

        lulled_given : r ≡ turned.Lull → IsServed g was.front s c b false → HasJoined g now.front c → Keeps g now.front t d → Follows was.names begun now.front × ((p.turned.left ≡ []) ⊎ Rose s.counts.stalls t.counts.stalls) → IsAllGiven g now.front t c ⊎ (0 < t.counts.stalls)
        lulled_given lull served joined k (f, inr rose) = inr (rose_some s.counts.stalls t.counts.stalls rose)
        lulled_given lull served joined k (f, inl none) =
            let one : now.front ≡ begun = follows_alone was.names begun now.front f (own_named was now same own) in
            let late : is_early r ≡ false = ap is_early lull in
            let dry = p.turned.dry late none in
            let empty : b.left ≡ [] = was_empty g tk c PIECE (goes_on_after turn.begins.answer) turn.begins.drew b.left p.turned.left begun turn.begins.draw none in
            let cause : TurnedFor g moments was now.front s t d turned.Lull = subst (TurnedFor g moments was now.front s t d) lull p.cause in
            let before = subst (HasDrawnAll g was.front s c) empty (served_drawn g was.front s c b false served) in
            let now_drawn = served_drawn g now.front t c d false (served_now g now.front t c d joined p.conn k) in
            let ticks = adds_drawn was (event.Tick turn.begins.now) turn.begins.answer turn.begins.ticked c (draws_tick turn.begins.answer c turn.begins.now) tick.1 in
            inl (given_still g was.front now.front s t c d.left before now_drawn cause.1
            (ap (λ (l : List Entry). drawn l c) one ∙ ((draws_to (Unit {0})).2 none ∙ ticks))
            (ap live one ∙ dry.0)
            (ap (queued g) one ∙ dry.1))
