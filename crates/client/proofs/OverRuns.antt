-- A step of a call and what follows from it, where its caller is alone.
use Rattle.std.proofs.lemmas.List.{length-append}
use Rattle.std.proofs.Common.{◌≡◌, ◌<◌, ◌≤◌, ◌+◌, ◌^◌, ◌⊎◌, inl, inr, ◌∙◌, ℕ, Bool, true, false, true≢false, List, [], ◌∷◌, ◌++◌, length, Option, Some, IsSome, append-nil, refl, sym, ap, subst, arith, None}
use Rattle.rs_wire.specs.declared.fault.Cause.{Cause}
use Rattle.rs_wire.specs.declared.fault.Cause.TheVariants as cause
use Rattle.rs_wire.specs.declared.settings.Settings.{Settings}
use Rattle.outside.specs.Links.{Shown}
use Rattle.tape.specs.declared.entry.Entry.{Entry}
use Rattle.session_model.specs.Legal.{Legal}
use Rattle.link_model.specs.Carrying.{Between, Carried}
use Rattle.link_model.proofs.Fresh.{is_carried}
use Rattle.pump.specs.declared.turned.Turned.{Turned}
use Rattle.pump.specs.declared.turned.Turned.TheVariants as turned
use Rattle.pump.specs.Turns.{is_early}
use Rattle.call_model.specs.Leaving.{AreCarried, AreLeft, AreTimely, GotBack}
use Rattle.call_model.specs.Order.{Asking}
use Rattle.call_model.specs.Present.{IsServed}
use Rattle.call_model.specs.Ran.{HasPlace, cause_line}
use Rattle.call_model.proofs.Links.{are_carried_more, are_left_more, carried_and_one}
use Rattle.call_model.proofs.Present.{served_drawn}
use Rattle.session_laws.specs.Streams.{IsLawful}
use Rattle.client.specs.Calling.{EndsBy, GoesFrom, GoesOn, HasEndedBy, IsUnderWay, StopsFrom, is_finished}
use Rattle.client.specs.Clients.{refused_for}
use Rattle.client.specs.Counting.{HasUsedUp, IsCounted}
use Rattle.client.specs.Turning.{HasStepped}
use Rattle.client.specs.Takes.{HasPrinted}
use Rattle.client.specs.declared.called.Called.{Called}
use Rattle.client.specs.declared.called.Called.TheVariants as called
use Rattle.client.specs.declared.calling.Calling.{Calling}

-- ---- the links after a step

place_before : (past new more : List Entry) → new ≡ more ++ past → HasPlace new → HasPlace past
place_before past new more on place = let sum = ap length on ∙ length-append more past in omega (arith, place, sum)

carried_here : (g : Settings) (past : List Entry) (link : Shown) (c : ℕ) (b : Between) (full : Bool) → IsServed g past link c b full → HasPlace past → Carried g past link c
carried_here g past link c b true h place = absurd (let no = h.place refl in omega (arith, no, place))
carried_here g past link c b false h place = subst (Carried g past link) h.conn (is_carried g past link b (h.kept refl))

pub stepped_carried : (w : Asking) (moments : Option (List ℕ)) (g : Settings) (past new : List Entry) (s t : Shown) (first c : ℕ) (b d : Between) (stream : Option ℕ) (fresh : ℕ) (full : Bool) (r : Turned) (ended : Bool) (out out' : List ℕ) (links : List Shown)
    → 0 < first → c ≡ first + length links → IsServed g past s c b full → (HasPlace past → AreCarried g past first links) → HasStepped w moments g past new t c d stream fresh full r ended out out'
    → HasPlace new → AreCarried g new first (links ++ t ∷ [])
stepped_carried w moments g past new s t first c b d stream fresh full r ended out out' links some at served carried h place =
    let last = served.joined.last in
    let olds : AreCarried g new first links = subst (λ (l : List Entry). AreCarried g l first links) (sym h.on) (are_carried_more g h.more past c first links h.only some (omega (arith, at)) (omega (arith, last)) (carried (place_before past new h.more h.on place))) in
    carried_and_one g new first links t olds (subst (Carried g new t) at (carried_here g new t c d full h.served place))

pub stepped_left : (w : Asking) (moments : Option (List ℕ)) (g : Settings) (past new : List Entry) (s t : Shown) (first c : ℕ) (b d : Between) (stream : Option ℕ) (fresh : ℕ) (full : Bool) (r : Turned) (ended : Bool) (out out' : List ℕ) (links : List Shown)
    → 0 < first → c ≡ first + length links → IsLawful g new → IsServed g past s c b full → (HasPlace past → AreLeft g past first links) → HasStepped w moments g past new t c d stream fresh full r ended out out'
    → HasPlace new → AreLeft g new first links
stepped_left w moments g past new s t first c b d stream fresh full r ended out out' links some at lawful served left h place =
    let last = served.joined.last in
    subst (λ (l : List Entry). AreLeft g l first links) (sym h.on) (are_left_more g h.more past c first links (subst (Legal g) h.on lawful.legal) h.only some (omega (arith, at)) (omega (arith, last)) (left (place_before past new h.more h.on place)))

-- ---- the call goes on here

pub got_none : (back : Option (List Shown)) → GotBack [] back back
got_none None = refl
got_none (Some links) = ap Some (sym (append-nil links))

-- over the same link, with this call
pub goes_here : (w : Asking) (moments : Option (List ℕ)) (base faults faults' : ℕ) (g : Settings) (past new : List Entry) (t : Shown) (first conn : ℕ) (shown : Option Shown) (k k1 : Calling) (r : Turned) (out out' : List ℕ) (links : List Shown) (back : Option (List Shown))
    → IsLawful g new → IsUnderWay w moments base faults first g past conn shown k links → HasStepped w moments g past new t conn k1.pump k1.stream k1.fresh k.full r false out out' → k1.request ≡ k.request → k1.pump.conn ≡ conn → k1.full ≡ k.full → is_early r ≡ false → IsCounted base faults' first g new conn t k1 links
    → GoesFrom w moments base faults' first g past new conn (Some t) k1 links back back out out'
goes_here w moments base faults faults' g past new t first conn shown k k1 r out out' links back lawful u h request at full late counted = record {
  more = [];
  got = got_none back;
  under_way = subst (IsUnderWay w moments base faults' first g new conn (Some t) k1) (sym (append-nil links)) (record {
    request = request ∙ u.request;
    link = t;
    has = refl;
    at = at;
    ready = record {
      some = u.ready.some;
      stands = h.stands;
      unended = h.ends.0;
      paid = h.paid;
      served = subst (λ f. IsServed g new t conn k1.pump f) (sym full) h.served;
      still = h.still late;
      whole = λ place. (h.ends.1 place).1;
    };
    some = u.some;
    number = u.number;
    carried = λ place. are_firsts new first links t (stepped_carried w moments g past new u.link t first conn k.pump k1.pump k1.stream k1.fresh k.full r false out out' links u.some u.number u.ready.served u.carried h place);
    left = stepped_left w moments g past new u.link t first conn k.pump k1.pump k1.stream k1.fresh k.full r false out out' links u.some u.number lawful u.ready.served u.left h;
    counted = counted;
  });
  prints = h.prints;
}
  where
    are_firsts : (past : List Entry) (c : ℕ) (links : List Shown) (last : Shown) → AreCarried g past c (links ++ last ∷ []) → AreCarried g past c links
    are_firsts past c [] last h = tt
    are_firsts past c (l ∷ links) last h = (h.0, are_firsts past (c + 1) links last h.1)

-- what is taken is dropped from now on
pub full_here : (w : Asking) (moments : Option (List ℕ)) (base faults faults' : ℕ) (g : Settings) (past new : List Entry) (t : Shown) (first conn : ℕ) (shown : Option Shown) (k k1 : Calling) (out out' : List ℕ) (links : List Shown) (back : Option (List Shown))
    → IsLawful g new → IsUnderWay w moments base faults first g past conn shown k links → HasStepped w moments g past new t conn k1.pump k1.stream k1.fresh k.full turned.TapeFull false out out' → k1.request ≡ k.request → k1.pump.conn ≡ conn → k1.full ≡ true → IsCounted base faults' first g new conn t k1 links
    → GoesFrom w moments base faults' first g past new conn (Some t) k1 links back back out out'
full_here w moments base faults faults' g past new t first conn shown k k1 out out' links back lawful u h request at full counted =
    let most : 2 ^ 63 ≤ length new = h.says refl in
    let off : HasPlace new → ⊥ = λ place. omega (arith, most, place) in
    record {
      more = [];
      got = got_none back;
      under_way = subst (IsUnderWay w moments base faults' first g new conn (Some t) k1) (sym (append-nil links)) (record {
        request = request ∙ u.request;
        link = t;
        has = refl;
        at = at;
        ready = record {
          some = u.ready.some;
          stands = h.stands;
          unended = h.ends.0;
          paid = h.paid;
          served = subst (λ f. IsServed g new t conn k1.pump f) (sym full) (record {
            joined = h.served.joined;
            conn = h.served.conn;
            kept = λ on. absurd (true≢false on);
            given = λ on. served_drawn g new t conn k1.pump k.full h.served;
            place = λ on. most;
          });
          still = λ place. absurd (off place);
          whole = λ place. absurd (off place);
        };
        some = u.some;
        number = u.number;
        carried = λ place. absurd (off place);
        left = λ place. absurd (off place);
        counted = counted;
      });
      prints = h.prints;
    }

-- ---- the call has come to something here

pub stops_here : (r' : Called) (w : Asking) (moments : Option (List ℕ)) (lulls tries base faults faults' : ℕ) (g : Settings) (past new : List Entry) (t : Shown) (first conn : ℕ) (shown : Option Shown) (k : Calling) (d : Between) (stream : Option ℕ) (fresh : ℕ) (r : Turned) (ended : Bool) (out out' : List ℕ) (links : List Shown) (back : Option (List Shown))
    → IsLawful g new → IsUnderWay w moments base faults first g past conn shown k links → HasStepped w moments g past new t conn d stream fresh k.full r ended out out' → ended ≡ is_finished r' → EndsBy r' w.kind lulls g new t conn
    → AreTimely new first (links ++ t ∷ []) → HasUsedUp r' tries base faults' (links ++ t ∷ [])
    → StopsFrom r' w moments lulls tries base faults' first g past new (Some t) links back back out out'
stops_here r' w moments lulls tries base faults faults' g past new t first conn shown k d stream fresh r ended out out' links back lawful u h same why timely used = record {
  more = [];
  last = t;
  got = inl (refl, got_none back);
  number = conn;
  ended = subst (λ ls. HasEndedBy r' w moments lulls tries base faults' first conn g past new ls t out out') (sym (append-nil links)) (record {
    order = h.stands.order;
    timed = h.stands.timed;
    number = u.number;
    opened = h.served.joined.last;
    carried = stepped_carried w moments g past new u.link t first conn k.pump d stream fresh k.full r ended out out' links u.some u.number u.ready.served u.carried h;
    left = stepped_left w moments g past new u.link t first conn k.pump d stream fresh k.full r ended out out' links u.some u.number lawful u.ready.served u.left h;
    prints = subst (λ e. HasPrinted w.kind e past new out out') same h.prints;
    why = why;
    timely = timely;
    used_up = used;
  });
}

pub finished_here : (w : Asking) (moments : Option (List ℕ)) (lulls tries base faults faults' : ℕ) (g : Settings) (past new : List Entry) (t : Shown) (first conn : ℕ) (shown : Option Shown) (k : Calling) (d : Between) (stream : Option ℕ) (fresh : ℕ) (r : Turned) (out out' : List ℕ) (links : List Shown) (back : Option (List Shown))
    → IsLawful g new → IsUnderWay w moments base faults first g past conn shown k links → HasStepped w moments g past new t conn d stream fresh k.full r true out out' → AreTimely new first (links ++ t ∷ [])
    → StopsFrom called.Finished w moments lulls tries base faults' first g past new (Some t) links back back out out'
finished_here w moments lulls tries base faults faults' g past new t first conn shown k d stream fresh r out out' links back lawful u h timely =
    stops_here called.Finished w moments lulls tries base faults faults' g past new t first conn shown k d stream fresh r true out out' links back lawful u h refl h.ends timely tt

-- the end has not come
pub still_goes : (w : Asking) (moments : Option (List ℕ)) (g : Settings) (past new : List Entry) (t : Shown) (conn : ℕ) (d : Between) (stream : Option ℕ) (fresh : ℕ) (full : Bool) (r : Turned) (out out' : List ℕ) → HasStepped w moments g past new t conn d stream fresh full r false out out' → GoesOn w.kind g new t conn
still_goes w moments g past new t conn d stream fresh full r out out' h place = (h.ends.1 place).0

pub closed_for : (why : Cause) (r' : Called) → refused_for why ≡ r' → (r' ≡ called.OutOfMemory) ⊎ ((r' ≡ called.Refused why) × IsSome (cause_line why))
closed_for (cause.Peer code) r' is = inr (sym is, refl)
closed_for (cause.Broken rule) r' is = inr (sym is, refl)
closed_for (cause.Resume gone) r' is = inr (sym is, refl)
closed_for _ r' is = inl (sym is)
