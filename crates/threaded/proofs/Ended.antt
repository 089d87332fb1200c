-- What the threads of an end handed back, once its callers are joined and nothing is left to cross. Entries stand newest first.
use Rattle.std.proofs.lemmas.Bool.Decides.{nat_tests}
use Rattle.std.proofs.Common.{◌≡◌, ◌≢◌, ◌<◌, ◌+◌, ◌∙◌, ℕ, false, List, [], ◌∷◌, ◌++◌, Option, Result, Ok, Err, IfErr, IfOk, OnOk, refl, ap, sym, subst, arith}
use Rattle.std.specs.List.{AllByRecursion}
use Rattle.rs_wire.specs.declared.settings.Settings.{Settings}
use Rattle.rs_wire.specs.declared.words.Side.TheVariants.{Client, Server}
use Rattle.rs_wire.specs.declared.call.Call.{Call}
use Rattle.tape.specs.declared.entry.Entry.{Entry}
use Rattle.tape.specs.declared.event.Event.{Event}
use Rattle.session_model.specs.Legal.{Legal}
use Rattle.conn_lock.specs.Callers.{calls, once, times}
use Rattle.conn_shared.specs.Lines.{who_of}
use Rattle.conn_shared.specs.Members.{Follows, Knowledge, SharedId, first_member}
use Rattle.link_model.specs.Carrying.{Between}
use Rattle.pump.specs.Turns.{GoesOn}
use Rattle.cable_script.specs.declared.line.Line.{Line}
use Rattle.cable_script.specs.declared.line.Line.TheVariants as line
use Rattle.ring.specs.declared.item.Item.{Item}
use Rattle.ring.specs.Parts.{IsEnded, IsFinished, cuts}
use Rattle.session_laws.specs.Ends.{AreEnds}
use Rattle.threaded_model.specs.Threaded.{AreCalls, ButTakes, Threaded, calls_of, is_asked}
use Rattle.carriers.specs.Alone.{NeverAsks, OthersAsk}
use Rattle.threaded_asker.specs.Asking.{Adds, HasAsked, asked_by}
use Rattle.threaded_client.specs.Carrying.{IsSound as IsSoundNear}
use Rattle.threaded_client.specs.Handing.{ClientHands}
use Rattle.threaded_client.proofs.Carrying.{carrying_hands, client_joined}
use Rattle.threaded_server.specs.declared.knows.Knows.{Knows}
use Rattle.threaded_server.specs.Carrying.{IsSound, ServerHands}
use Rattle.threaded_server.proofs.Kept.{server_hands, server_joined}
use Rattle.threaded_drain.specs.Ending.{FarEnds, NearEnds}
use Rattle.threaded_drain.specs.Resting.{IsAtRest}
use Rattle.threaded_drain.proofs.Drained.{played_by}
use Rattle.threaded.specs.Threads.{AreParts, AreShared, FarHands, IsOn, NearHands}
use Rattle.threaded.proofs.Callers.{AreNamed, AreWhose, are_calls, are_named, carries_rest, whose}

-- an asker was joined into a carrier
pub record IsJoined (carrier asker joined : Knowledge) : Type 0 where
  pub of : joined.of ≡ carrier.of
  pub number : joined.number ≡ carrier.number
  pub names : joined.names ≡ carrier.names ++ asker.names
  pub own : Follows carrier.names carrier.front joined.front
  pub theirs : Follows asker.names asker.front joined.front
  pub apart : (x : ℕ) → 0 < times x carrier.names → times x asker.names ≡ 0

-- it went on alone, up to all entries
pub record IsAll (P : Event → Type 0) (joined now : Knowledge) : Type 0 where
  pub on : IsOn joined now
  pub goes : GoesOn P joined now.front
  pub named : (x : ℕ) → times x now.names ≡ 0 → calls who_of x now.front ≡ 0

-- the entries are the carrier's, and these calls of the asker
pub record IsWhole (of : SharedId) (carrier now : Knowledge) (made : List Call) : Type 0 where
  pub of_is : now.of ≡ of
  pub named : 0 < times carrier.number carrier.names
  pub others : OthersAsk now
  pub calls_are : NeverAsks now.number now.front → AreCalls made now.front

same_once : (n : ℕ) → once n n ≡ 1
same_once n = grind (arith, nat_tests)

nothing_yet : (n : ℕ) → asked_by n [] ≡ []
unfolding asked_by
nothing_yet n = refl

own_calls : (n : ℕ) (mine : List Call) (front : List Entry) → asked_by n front ≡ asked_by n [] ++ mine → asked_by n front ≡ mine
own_calls n mine front is = is ∙ ap (λ (l : List Call). l ++ mine) (nothing_yet n)

pub is_whole : (P : Event → Type 0) (of : SharedId) (first second carrier asker joined now : Knowledge) (made : List Call) → AreShared of first second → IsOn first carrier → IsOn second asker → HasAsked second made asker.front → IsJoined carrier asker joined → IsAll P joined now → IsWhole of carrier now made
is_whole P of first second carrier asker joined now made shared carried asks did j all =
    let c = first.number in
    let a = second.number in
    let carrier_number : carrier.number ≡ c = ap (λ (k : Knowledge). k.number) carried in
    let carrier_names : carrier.names ≡ c ∷ [] = ap (λ (k : Knowledge). k.names) carried ∙ shared.carrier_names in
    let asker_names : asker.names ≡ a ∷ [] = ap (λ (k : Knowledge). k.names) asks ∙ shared.asker_names in
    let joined_names : joined.names ≡ c ∷ a ∷ [] = j.names ∙ (ap (λ (l : List ℕ). l ++ asker.names) carrier_names ∙ ap (λ (l : List ℕ). c ∷ l) asker_names) in
    let now_names : now.names ≡ c ∷ a ∷ [] = ap (λ (k : Knowledge). k.names) all.on ∙ joined_names in
    let joined_number : joined.number ≡ c = j.number ∙ carrier_number in
    let now_number : now.number ≡ c = ap (λ (k : Knowledge). k.number) all.on ∙ joined_number in
    let one_c = same_once c in
    let one_a = same_once a in
    let named : 0 < times carrier.number carrier.names = subst (λ (n : ℕ). 0 < times n carrier.names) (sym carrier_number) (subst (λ (l : List ℕ). 0 < times c l) (sym carrier_names) (omega (arith, one_c))) in
    let none : times c (a ∷ []) ≡ 0 = subst (λ (l : List ℕ). times c l ≡ 0) asker_names (j.apart c (subst (λ (l : List ℕ). 0 < times c l) (sym carrier_names) (omega (arith, one_c)))) in
    let apart : c ≢ a = λ same. (let zero : once a a + 0 ≡ 0 = subst (λ (n : ℕ). times n (a ∷ []) ≡ 0) same none in absurd (omega (arith, zero, one_a))) in
    let free : calls who_of a j.theirs.0 ≡ 0 = j.theirs.2 a (subst (λ (l : List ℕ). 0 < times a l) (sym asker_names) (omega (arith, one_a))) in
    let adds : Adds a made second.front asker.front = did (subst (λ (l : List ℕ). 0 < times a l) (sym shared.asker_names) (omega (arith, one_a))) in
    let new : Adds a made [] asker.front = subst (λ (l : List Entry). Adds a made l asker.front) shared.asker_new adds in
    let own : AllByRecursion (λ (x : Entry). 0 < times x.who (c ∷ a ∷ []) → (x.who ≡ c) × P x.event) all.goes.more =
    subst (λ (l : List ℕ). AllByRecursion (λ (x : Entry). 0 < times x.who l → (x.who ≡ c) × P x.event) all.goes.more) joined_names
    (subst (λ (n : ℕ). AllByRecursion (λ (x : Entry). 0 < times x.who joined.names → (x.who ≡ n) × P x.event) all.goes.more) joined_number all.goes.own) in
    let are : AreNamed (c ∷ a ∷ []) now.front = subst (λ (l : List ℕ). AreNamed l now.front) now_names (are_named now.names now.front all.named) in
    let w : AreWhose c a asker.front now.front = whose P c a asker.front j.theirs.0 all.goes.more now.front joined.front apart j.theirs.1 free all.goes.on own are (new.only tt) in
    record {
      of_is = ap (λ (k : Knowledge). k.of) all.on ∙ (j.of ∙ (ap (λ (k : Knowledge). k.of) carried ∙ shared.carrier_of));
      named = named;
      others = record {
        named = subst (λ (n : ℕ). 0 < times n now.names) (sym now_number) (subst (λ (l : List ℕ). 0 < times c l) (sym now_names) (omega (arith, one_c)));
        ask = subst (λ (n : ℕ). AllByRecursion (λ (x : Entry). is_asked x.event ≡ false → x.who ≡ n) now.front) (sym now_number) (carries_rest c a now.front w.named w.only);
      };
      calls_are = λ never. are_calls c a asker.front now.front made w (subst (λ (n : ℕ). NeverAsks n now.front) now_number never) (subst (ButTakes made) (sym (own_calls a new.own asker.front new.noted)) new.each);
    }

-- ---- the client

pub record NearIs (g : Settings) (lines : List Line) (C : List Entry) (number : ℕ) (p : Option Between) (up down : List Item) : Type 0 where
  pub hands : ClientHands g C number (line.Open ∷ lines) p up down
  pub calls_are : AreCalls (calls_of Client lines) C

pub near_is : (P : Event → Type 0) (lines : List Line) (of : SharedId) (asker carrier joined now : Knowledge) (p p' : Option Between) (s s' r r' : List Item) → NearHands lines of asker false carrier p s r → IsJoined carrier asker joined → IsAll P joined now → NearEnds joined now p p' s s' r r'
    → NearIs of.settings lines now.front now.number p' s' r'
near_is P lines of asker carrier joined now p p' s s' r r' h j all e =
    let w = is_whole P of h.first h.second carrier asker joined now (calls_of Client lines) h.shared h.carried h.made.same (h.made.made refl) j all in
    let carrying = e.goes (line.Open ∷ lines) (client_joined carrier joined (line.Open ∷ lines) p s r j.of j.number w.named j.own h.carrying) in
    let hands = carrying_hands now (line.Open ∷ lines) p' e.sent e.received s' r' w.others e.sent_all e.received_all carrying in
    record {
      hands = subst (λ (i : SharedId). ClientHands i.settings now.front now.number (line.Open ∷ lines) p' s' r') w.of_is hands;
      calls_are = w.calls_are hands.never_asks;
    }

-- ---- the server

pub record FarIs (h : Settings) (lines : List Line) (S : List Entry) (number : ℕ) (k : Knows) (n : ℕ) (down up : List Item) : Type 0 where
  pub hands : ServerHands h S number lines k n down up
  pub calls_are : AreCalls (calls_of Server lines) S

pub far_is : (P : Event → Type 0) (lines : List Line) (of : SharedId) (asker carrier joined now : Knowledge) (k k' : Knows) (s s' r r' : List Item) → FarHands lines of asker false carrier k s r → IsJoined carrier asker joined → IsAll P joined now → Legal of.settings now.front
    → (e : FarEnds joined now k k' s s' r r') → FarIs of.settings lines now.front now.number k' (cuts e.sent) s' r'
far_is P lines of asker carrier joined now k k' s s' r r' h j all legal e =
    let w = is_whole P of h.first h.second carrier asker joined now (calls_of Server lines) h.shared h.carried h.made.same (h.made.made refl) j all in
    let carrying = e.goes lines (server_joined carrier joined lines k s r j.of j.number w.named j.own h.carrying) in
    let hands = server_hands now lines k' e.sent e.received s' r' w.others (subst (λ (i : SharedId). Legal i.settings now.front) (sym w.of_is) legal) e.sent_all e.received_all carrying in
    record {
      hands = subst (λ (i : SharedId). ServerHands i.settings now.front now.number lines k' (cuts e.sent) s' r') w.of_is hands;
      calls_are = w.calls_are hands.unasked;
    }

-- ---- both

pub gathered : (g h : Settings) (lines : List Line) (C S : List Entry) (near_number far_number conn n : ℕ) (p : Option Between) (k : Knows) (up read_up down read_down : List Item) → AreEnds g h C S → NearIs g lines C near_number p up read_down → FarIs h lines S far_number k n down read_up
    → IsSoundNear g conn p → IsSound h k → (IsEnded up → IsFinished read_up → read_up ≡ up) → (IsEnded down → IsFinished read_down → read_down ≡ down) → IsFinished read_up → IsAtRest g h C S p k → Threaded g h lines C S
gathered g h lines C S near_number far_number conn n p k up read_up down read_down e near far near_sound far_sound all_up all_down finished rest =
    played_by g h lines C S near_number far_number conn n p k up read_up down read_down e near.hands far.hands near_sound far_sound (all_up near.hands.ended finished) (all_down far.hands.ended near.hands.finished) rest near.calls_are far.calls_are

pub all_crossed : (P Q : Event → Type 0) (lines : List Line) (client server : SharedId) (near_asker near_carrier near_joined near far_asker far_carrier far_joined far : Knowledge) (conn : ℕ) (p p' : Option Between) (k k' : Knows) (s s' r r' t t' u u' : List Item)
    → AreEnds client.settings server.settings near.front far.front → NearHands lines client near_asker false near_carrier p s r → FarHands lines server far_asker false far_carrier k t u → IsJoined near_carrier near_asker near_joined → IsJoined far_carrier far_asker far_joined → IsAll P near_joined near → IsAll Q far_joined far
    → NearEnds near_joined near p p' s s' r r' → FarEnds far_joined far k k' t t' u u' → IsSoundNear client.settings conn p' → IsSound server.settings k' → (IsEnded s' → IsFinished u' → u' ≡ s') → (IsEnded t' → IsFinished r' → r' ≡ t') → IsAtRest client.settings server.settings near.front far.front p' k'
    → Threaded client.settings server.settings lines near.front far.front
all_crossed P Q lines client server near_asker near_carrier near_joined near far_asker far_carrier far_joined far conn p p' k k' s s' r r' t t' u u' e nh fh nj fj na fa ne fe ns fs up down rest =
    gathered client.settings server.settings lines near.front far.front near.number far.number conn (cuts fe.sent) p' k' s' u' t' r' e
    (near_is P lines client near_asker near_carrier near_joined near p p' s s' r r' nh nj na ne) (far_is Q lines server far_asker far_carrier far_joined far k k' t t' u u' fh fj fa e.server_legal fe) ns fs up down (fe.received, fe.received_all) rest

pub on_ok : {X E : Type 0} (r : Result X E) (x : X) (P : Type 0) → r ≡ Ok x → OnOk r P → P
on_ok (Ok y) x P is h = h
on_ok (Err e) x P is h = absurd (cc is)

pub ok_map : {X E : Type 0} (r : Result X E) (P Q : X → Type 0) → ((x : X) → P x → Q x) → IfOk r P → IfOk r Q
ok_map (Ok x) P Q f h = f x h
ok_map (Err e) P Q f h = tt

-- an asker was joined into a carrier
pub joined_by : (carrier asker joined : Knowledge) (parts found : ℕ) (front : List Entry) → joined ≡ record carrier { names = carrier.names ++ asker.names; parts = parts; front = front; found = found } → Follows carrier.names carrier.front joined.front × Follows asker.names asker.front joined.front → ((x : ℕ) → 0 < times x carrier.names → times x asker.names ≡ 0) → IsJoined carrier asker joined
joined_by carrier asker joined parts found front is own apart = record {
  of = ap (λ (k : Knowledge). k.of) is;
  number = ap (λ (k : Knowledge). k.number) is;
  names = ap (λ (k : Knowledge). k.names) is;
  own = own.0;
  theirs = own.1;
  apart = apart;
}

-- two callers of a new connection
pub shared_by : (of : SharedId) (first carrier asker : Knowledge) (parts found : ℕ) → first ≡ first_member of → carrier ≡ record first { parts = carrier.parts; found = carrier.found } → asker ≡ record (first_member of) { number = asker.number; names = asker.number ∷ []; parts = parts; front = first.front; found = found } → carrier.parts + asker.parts ≡ first.parts → AreShared of carrier asker
shared_by of first carrier asker part found new same split parts = record {
  carrier_of = ap (λ (k : Knowledge). k.of) same ∙ ap (λ (k : Knowledge). k.of) new;
  asker_of = ap (λ (k : Knowledge). k.of) split;
  carrier_names = ap (λ (k : Knowledge). k.names) same ∙ (ap (λ (k : Knowledge). k.names) new ∙ ap (λ (n : ℕ). n ∷ []) (sym (ap (λ (k : Knowledge). k.number) same ∙ ap (λ (k : Knowledge). k.number) new)));
  asker_names = ap (λ (k : Knowledge). k.names) split;
  carrier_new = ap (λ (k : Knowledge). k.front) same ∙ ap (λ (k : Knowledge). k.front) new;
  asker_new = ap (λ (k : Knowledge). k.front) split ∙ ap (λ (k : Knowledge). k.front) new;
  parts = parts ∙ ap (λ (k : Knowledge). k.parts) new;
}

pub if_ok_at : {X E : Type 0} (r : Result X E) (x : X) (P : X → Type 0) → r ≡ Ok x → IfOk r P → P x
if_ok_at (Ok y) x P is h = subst P (cc is) h
if_ok_at (Err e) x P is h = absurd (cc is)

pub ok_both : {X E : Type 0} (r : Result X E) (P Q R : X → Type 0) → ((x : X) → P x → Q x → R x) → IfOk r P → IfOk r Q → IfOk r R
ok_both (Ok x) P Q R f h k = f x h k
ok_both (Err e) P Q R f h k = tt

pub err_map : {X E : Type 0} (r : Result X E) (P Q : E → Type 0) → ((e : E) → P e → Q e) → IfErr r P → IfErr r Q
err_map (Ok x) P Q f h = tt
err_map (Err e) P Q f h = f e h

-- they have all parts still
pub parts_on : (of : SharedId) (first second carrier asker : Knowledge) → AreShared of first second → IsOn first carrier → IsOn second asker → AreParts of carrier asker
parts_on of first second carrier asker shared on also = record {
  carrier_of = ap (λ (k : Knowledge). k.of) on ∙ shared.carrier_of;
  asker_of = ap (λ (k : Knowledge). k.of) also ∙ shared.asker_of;
  all = ap (λ (n : ℕ). n + asker.parts) (ap (λ (k : Knowledge). k.parts) on) ∙ (ap (λ (n : ℕ). first.parts + n) (ap (λ (k : Knowledge). k.parts) also) ∙ shared.parts);
}
