-- A call goes on over another link, and its caller is alone: a cut, a tick and an opening.
use Rattle.std.proofs.lemmas.Bool.Decides.{nat_tests}
use Rattle.std.proofs.lemmas.Grind.{common_steps}
use Rattle.std.proofs.lemmas.List.{length-append}
use Rattle.std.proofs.Common.{◌≡◌, ◌≢◌, ◌<◌, ◌≤◌, ◌+◌, ◌^◌, ◌⊎◌, inl, inr, ◌∙◌, ℕ, Bool, true, false, true≢false, List, [], ◌∷◌, ◌++◌, length, Option, None, refl, sym, ap, subst, arith}
use Rattle.rs_wire.specs.declared.settings.Settings.{Settings}
use Rattle.outside.specs.Causes.{IsMoment}
use Rattle.outside.specs.Links.{IsNew, Shown}
use Rattle.tape.specs.Answers.{leaves}
use Rattle.tape.specs.Told.{entry_of}
use Rattle.tape.specs.declared.event.Event.{Event}
use Rattle.tape.specs.declared.event.Event.TheVariants as event
use Rattle.tape.specs.declared.answer.Answer.{Answer}
use Rattle.tape.specs.declared.answer.Answer.TheVariants as answer
use Rattle.tape.specs.declared.entry.Entry.{Entry}
use Rattle.session_core.specs.Seen.{IsOrOutOfMemory}
use Rattle.session_model.specs.Answers.{answer_to, facts}
use Rattle.session_model.specs.Frames.{was_opened}
use Rattle.session_model.specs.Life.{openings, openings_in}
use Rattle.session_model.specs.Legal.{Legal}
use Rattle.session_model.specs.Means.{Means}
use Rattle.session_model.proofs.Meaning.{last_means}
use Rattle.session_laws.specs.Streams.{IsLawful}
use Rattle.conn_shared.specs.Members.{Knowledge}
use Rattle.link_model.specs.Carrying.{Carried, is_of}
use Rattle.link_model.specs.Leaving.{Left, displaced}
use Rattle.link_laws.proofs.Leaving.{left_by_one}
use Rattle.link_laws.proofs.StaysGood.{carried_on}
use Rattle.call_model.specs.Leaving.{AreCarried, AreLeft}
use Rattle.call_model.specs.Order.{Asking, MayFollow, is_leased, is_request, is_ticked, moves_only}
use Rattle.call_model.specs.Present.{IsServed}
use Rattle.call_model.specs.Ran.{HasPlace}
use Rattle.call_model.specs.Saying.{got_in, said}
use Rattle.call_model.specs.Standing.{IsPaid, IsUnended, Stands}
use Rattle.call_model.specs.Timing.{HasMoment}
use Rattle.call_model.proofs.Ending.{cut_says_none, says_none, tick_says_none}
use Rattle.call_model.proofs.Links.{are_carried_on, are_left_on, carried_and_one, left_and_one}
use Rattle.call_model.proofs.Ordering.{owes_same}
use Rattle.call_model.proofs.Present.{served_opened, still_opened}
use Rattle.call_model.proofs.Standing.{is_plain, plain_on}
use Rattle.client.specs.Takes.{IsTakenIn}
use Rattle.client.proofs.Alone.{Adds}
use Rattle.client.proofs.OverTurns.{may_tick, said_still, taken_still}

-- ---- what goes on over a cut, a tick and an opening

-- where a call stands, with the links up to that of opening c, which moves no more bytes
pub record Parts (w : Asking) (moments : Option (List ℕ)) (g : Settings) (start past : List Entry) (first c : ℕ) (links : List Shown) (link : Shown) (stream : Option ℕ) (fresh : ℕ) : Type 0 where
  pub stands : Stands w moments past stream fresh
  pub unended : IsUnended past
  pub paid : IsPaid past stream
  pub whole : HasPlace past → IsTakenIn w.kind g past
  pub same : said w.kind false past ≡ said w.kind false start
  pub last : c ≤ openings past
  pub carried : HasPlace past → AreCarried g past first links × Carried g past link c
  pub left : HasPlace past → AreLeft g past first links × Left g past link c

-- an event that neither moves bytes nor asks
abbrev pub is_mute : Event → Bool
is_mute (event.Tick now) = true
is_mute (event.Cut conn) = true
is_mute (event.Open first taken) = true
is_mute _ = false

mute_plain : (e : Event) → is_mute e ≡ true → is_plain e ≡ true
mute_plain (event.Tick now) is = refl
mute_plain (event.Cut conn) is = refl
mute_plain (event.Open first taken) is = refl
mute_plain _ is = absurd (true≢false (sym is))

mute_apart : (c : ℕ) (e : Event) → is_mute e ≡ true → (is_of c e ≡ false) × (moves_only c e ≡ true) × (is_request e ≡ false)
mute_apart c (event.Tick now) is = (refl, refl, refl)
mute_apart c (event.Cut conn) is = (refl, refl, refl)
mute_apart c (event.Open first taken) is = (refl, refl, refl)
mute_apart c _ is = absurd (true≢false (sym is))

mute_leased : (a : Answer) (e : Event) → is_mute e ≡ true → is_leased e a ≡ false
mute_leased answer.Handled (event.Came conn f) is = absurd (true≢false (sym is))
mute_leased answer.Handled e is = refl
mute_leased a (event.Came conn f) is = absurd (true≢false (sym is))
mute_leased a e is = refl

mute_gets : (a : Answer) (e : Event) (s : ℕ) → is_mute e ≡ true → got_in s a e ≡ []
mute_gets (answer.Got d) (event.Asked c) s is = absurd (true≢false (sym is))
mute_gets (answer.Got d) e s is = refl
mute_gets _ e s is = refl

was : (past : List Entry) (c : ℕ) → 0 < c → c ≤ openings past → was_opened past c ≡ true
was past c some le = grind (arith, nat_tests)

openings_on : (past : List Entry) (x : Entry) → openings past ≤ openings (x ∷ past)
unfolding openings
openings_on past x = omega arith

pub mute_on : (w : Asking) (moments : Option (List ℕ)) (g : Settings) (start past : List Entry) (x : Entry) (first c : ℕ) (links : List Shown) (link : Shown) (stream : Option ℕ) (fresh : ℕ) → HasPlace past → 0 < first → first + length links ≡ c → Legal g (x ∷ past) → is_mute x.event ≡ true → MayFollow w past x.event → HasMoment moments x.event → says_none x.answer x.event
    → Parts w moments g start past first c links link stream fresh → Parts w moments g start (x ∷ past) first c links link stream fresh
mute_on w moments g start past x first c links link stream fresh place some at legal mute may timed silent h =
    let s = plain_on g w moments past x stream fresh place (mute_plain x.event mute) may timed legal (h.stands, h.unended) in
    let apart = mute_apart c x.event mute in
    let le = h.last in
    let on = openings_on past x in
    let carried = h.carried place in
    let left = h.left place in
    let opened = was past c (omega (arith, at, some)) le in
    record {
      stands = s.0;
      unended = s.1;
      paid = λ p none. owes_same past x apart.2 (mute_leased x.answer x.event mute) ∙ h.paid place none;
      whole = λ p. taken_still g past x w.kind legal apart.2 (λ q. mute_gets x.answer x.event q mute) silent (h.whole place);
      same = said_still g past x w.kind legal apart.2 (λ q. mute_gets x.answer x.event q mute) ∙ h.same;
      last = omega (arith, le, on);
      carried = λ p. (are_carried_on g past x c first links apart.1 some (omega (arith, at)) le carried.0, carried_on g past x link c apart.0 opened carried.1);
      left = λ p. (are_left_on g past x c first links legal apart.1 some (omega (arith, at)) le left.0, left_by_one g x past link c legal opened apart.0 left.1);
    }

open_says_none : (a : Answer) (first : _) (taken : Bool) → says_none a (event.Open first taken)
open_says_none answer.Handled first taken covered held = refl
open_says_none (answer.Started id) first taken covered held = refl
open_says_none answer.Done first taken covered held = refl
open_says_none (answer.Got d) first taken covered held = refl
open_says_none (answer.GotJob j) first taken covered held = refl
open_says_none _ first taken covered held = refl

pub adds_openings : (me : Knowledge) (e : Event) (a : Answer) (new : List Entry) → openings_in e ≡ 0 → Adds me e a new → openings new ≡ openings me.front
unfolding openings
adds_openings me e a new none adds = elim adds.came [
  | inl same ↦ ap openings same.1
  | inr more ↦ ap openings more.1 ∙ rw none (omega arith)
]

-- ---- the three

pub cut_on : (w : Asking) (moments : Option (List ℕ)) (start : List Entry) (me : Knowledge) (new : List Entry) (first c conn : ℕ) (links : List Shown) (link : Shown) (stream : Option ℕ) (fresh : ℕ) (a : Answer) → 0 < first → first + length links ≡ c → IsLawful me.of.settings new → Adds me (event.Cut conn) a new
    → Parts w moments me.of.settings start me.front first c links link stream fresh → Parts w moments me.of.settings start new first c links link stream fresh
cut_on w moments start me new first c conn links link stream fresh a some at lawful adds h = elim adds.came [
  | inl none ↦ subst (λ (l : List Entry). Parts w moments me.of.settings start l first c links link stream fresh) (sym none.1) h
  | inr more ↦
      let x = entry_of me.number (event.Cut conn) a in
      subst (λ (l : List Entry). Parts w moments me.of.settings start l first c links link stream fresh) (sym more.1)
      (mute_on w moments me.of.settings start me.front x first c links link stream fresh more.2 some at (subst (Legal me.of.settings) more.1 lawful.legal) refl tt tt (cut_says_none a conn) h)
]

-- a tick leaves no entry where the tape is full alone
tick_full : (me : Knowledge) (now : ℕ) (a : Answer) (new : List Entry) → Adds me (event.Tick now) a new → leaves a ≡ false → a ≢ answer.OutOfMemory → HasPlace me.front → ⊥
tick_full me now a new adds none want place = by a adds.step.answered (λ is. adds.step.full.0 is) none want
  where
    g : Settings
    g = me.of.settings

    right : leaves (answer_to g me.front (event.Tick now)) ≡ true
    right = grind (arith, common_steps)

    by : (a : Answer) → IsOrOutOfMemory a (answer_to g me.front (event.Tick now)) → (a ≡ answer.TapeFull → 2 ^ 63 ≤ length me.front) → leaves a ≡ false → a ≢ answer.OutOfMemory → ⊥
    by answer.TapeFull is full none want = (let f = full refl in omega (arith, f, place))
    by answer.OutOfMemory is full none want = want refl
    by a is full none want = true≢false (sym right ∙ (ap leaves (sym is) ∙ none))

pub tick_on : (w : Asking) (moments : Option (List ℕ)) (start : List Entry) (me : Knowledge) (new : List Entry) (first c now : ℕ) (links : List Shown) (link : Shown) (stream : Option ℕ) (fresh : ℕ) (a : Answer) → 0 < first → first + length links ≡ c → IsMoment moments now → a ≢ answer.OutOfMemory → IsLawful me.of.settings new → Adds me (event.Tick now) a new
    → Parts w moments me.of.settings start me.front first c links link stream fresh → Parts w moments me.of.settings start new first c links link stream fresh × (HasPlace new → is_ticked new ≡ true)
tick_on w moments start me new first c now links link stream fresh a some at moment want lawful adds h = by adds.came
  where
    x : Entry
    x = entry_of me.number (event.Tick now) a

    by : ((leaves a ≡ false) × (new ≡ me.front)) ⊎ ((leaves a ≡ true) × (new ≡ x ∷ me.front) × HasPlace me.front) → Parts w moments me.of.settings start new first c links link stream fresh × (HasPlace new → is_ticked new ≡ true)
    by (inl none) = (
      subst (λ (l : List Entry). Parts w moments me.of.settings start l first c links link stream fresh) (sym none.1) h,
      λ place. absurd (tick_full me now a new adds none.0 want (subst HasPlace none.1 place)),
    )
    by (inr more) = (
      subst (λ (l : List Entry). Parts w moments me.of.settings start l first c links link stream fresh) (sym more.1)
          (mute_on w moments me.of.settings start me.front x first c links link stream fresh more.2 some at (subst (Legal me.of.settings) more.1 lawful.legal) refl (may_tick w me.front moments stream fresh now more.2 h.stands h.paid) moment (tick_says_none a now) h),
      λ place. ap is_ticked more.1,
    )

opened_is : (g : Settings) (past : List Entry) (n : ℕ) (number : ℕ) → Legal g (entry_of n (event.Open None false) (answer.Opened number) ∷ past) → number ≡ openings past + 1
unfolding facts
opened_is g past n number legal =
    let m : Means g (facts g past) (event.Open None false) (answer.Opened number) = last_means g (entry_of n (event.Open None false) (answer.Opened number)) past legal in
    m.next

-- where a call stands over the new link
pub record Reopened (w : Asking) (moments : Option (List ℕ)) (g : Settings) (start new : List Entry) (first c number : ℕ) (links : List Shown) (link next : Shown) (most : ℕ) (stream : Option ℕ) (fresh : ℕ) : Type 0 where
  pub stands : Stands w moments new stream fresh
  pub unended : IsUnended new
  pub paid : IsPaid new stream
  pub whole : HasPlace new → IsTakenIn w.kind g new
  pub same : said w.kind false new ≡ said w.kind false start
  pub number_is : number ≡ first + length (links ++ link ∷ [])
  pub served : IsServed g new next number (record { conn = number; left = []; rest = []; max_in = most; bad = false }) false
  pub still : displaced new number ≡ false
  pub carried : HasPlace new → AreCarried g new first (links ++ link ∷ [])
  pub left : HasPlace new → AreLeft g new first (links ++ link ∷ [])

pub open_on : (w : Asking) (moments : Option (List ℕ)) (start : List Entry) (me : Knowledge) (new : List Entry) (first c number : ℕ) (links : List Shown) (link next : Shown) (most : ℕ) (stream : Option ℕ) (fresh : ℕ) → 0 < first → first + length links ≡ c → IsNew next → IsLawful me.of.settings new → Adds me (event.Open None false) (answer.Opened number) new
    → (HasPlace me.front → is_ticked me.front ≡ true) → openings me.front ≡ c → Parts w moments me.of.settings start me.front first c links link stream fresh → Reopened w moments me.of.settings start new first c number links link next most stream fresh
open_on w moments start me new first c number links link next most stream fresh some at fresh_link lawful adds ticked last h = by adds.came
  where
    g : Settings
    g = me.of.settings

    x : Entry
    x = entry_of me.number (event.Open None false) (answer.Opened number)

    by : ((leaves (answer.Opened number) ≡ false) × (new ≡ me.front)) ⊎ ((leaves (answer.Opened number) ≡ true) × (new ≡ x ∷ me.front) × HasPlace me.front) → Reopened w moments g start new first c number links link next most stream fresh
    by (inl none) = absurd (true≢false none.0)
    by (inr more) =
        let place = more.2 in
        let t = ticked place in
        let legal : Legal g (x ∷ me.front) = subst (Legal g) more.1 lawful.legal in
        let p = mute_on w moments g start me.front x first c links link stream fresh place some at legal refl t tt (open_says_none (answer.Opened number) None false) h in
        let is : number ≡ openings me.front + 1 = opened_is g me.front me.number number legal in
        let count = length-append links (link ∷ []) in
        subst (λ (l : List Entry). Reopened w moments g start l first c number links link next most stream fresh) (sym more.1) (record {
          stands = p.stands;
          unended = p.unended;
          paid = p.paid;
          whole = p.whole;
          same = p.same;
          number_is = omega (arith, is, last, at, count);
          served = served_opened g me.front x next number most legal refl refl fresh_link;
          still = still_opened g me.front x number legal refl refl;
          carried = λ room. (let k = p.carried room in carried_and_one g (x ∷ me.front) first links link k.0 (subst (Carried g (x ∷ me.front) link) (sym at) k.1));
          left = λ room. (let k = p.left room in left_and_one g (x ∷ me.front) first links link k.0 (subst (Left g (x ∷ me.front) link) (sym at) k.1));
        })
