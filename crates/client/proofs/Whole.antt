-- A whole call, over all its links, and a caller that closed its connection.
use Rattle.std.proofs.lemmas.Bool.{cases_lt}
use Rattle.std.proofs.lemmas.Bool.Decides.{nat_tests}
use Rattle.std.proofs.lemmas.List.{length-append}
use Rattle.std.proofs.Common.{◌≡◌, ◌<◌, ◌≤◌, ◌+◌, ◌⊎◌, ◌∙◌, inl, inr, ℕ, List, [], ◌∷◌, ◌++◌, length, Option, Some, None, refl, sym, ap, subst, arith}
use Rattle.std.specs.Option.{option_map}
use Rattle.rs_wire.specs.declared.settings.Settings.{Settings}
use Rattle.outside.specs.Links.{Shown, and_then_one}
use Rattle.tape.specs.declared.entry.Entry.{Entry}
use Rattle.session_laws.specs.Streams.{IsLawful}
use Rattle.conn_lock.specs.Callers.{calls, times}
use Rattle.conn_shared.specs.Lines.{who_of}
use Rattle.conn_shared.specs.Members.{Knowledge}
use Rattle.link_model.specs.Carrying.{IsAlone}
use Rattle.link_model.specs.Leaving.{Left}
use Rattle.call_model.specs.Leaving.{GotBack, LastLeft}
use Rattle.call_model.specs.Order.{Asking}
use Rattle.call_model.specs.Ran.{HasPlace, IsCall, IsStill, OfLast}
use Rattle.call_model.specs.Saying.{HasEnded, HasNotEnded}
use Rattle.call_model.proofs.Links.{all_but_one, last_is}
use Rattle.client.specs.Alone.{AreNamed, IsOwn}
use Rattle.client.specs.Calling.{EndsBy, GoesOn, IsLast, StopsFrom}
use Rattle.client.specs.Clients.{and_back, PutsBack}
use Rattle.client.specs.Counting.{HasUsedUp}
use Rattle.client.specs.Whole.{CameTo, IsWholeCall}
use Rattle.client.specs.declared.called.Called.{Called}
use Rattle.client.specs.declared.called.Called.TheVariants as called
use Rattle.client.proofs.Alone.{counted}

-- ---- a caller of one name

all_named : (names : List ℕ) (past : List Entry) → ((x : ℕ) → times x names ≡ 0 → calls who_of x past ≡ 0) → AreNamed names past
all_named names [] h = tt
all_named names (e ∷ past) h = (by (cases_lt 0 (times e.who names)), all_named names past (λ x none. (let all = h x none in omega (arith, all))))
  where
    by : (0 < times e.who names) ⊎ (times e.who names ≤ 0) → 0 < times e.who names
    by (inl some) = some
    by (inr none) = (let zero = h e.who (omega (arith, none)) in let some = counted e past in absurd (omega (arith, zero, some)))

one_name : (n m : ℕ) → 0 < times m (n ∷ []) → m ≡ n
one_name n m some = grind (arith, nat_tests)

own_name : (n : ℕ) → 0 < times n (n ∷ [])
own_name n = grind (arith, nat_tests)

alone_of : (c n : ℕ) (past : List Entry) → AreNamed (n ∷ []) past → IsAlone c n past
alone_of c n [] all = tt
alone_of c n (x ∷ past) all = (λ is. one_name n x.who all.0, alone_of c n past all.1)

pub closed_own : (me : Knowledge) → me.names ≡ me.number ∷ [] → ((x : ℕ) → times x me.names ≡ 0 → calls who_of x me.front ≡ 0) → IsLawful me.of.settings me.front → IsOwn me
closed_own me one named lawful =
    let all = all_named me.names me.front named in
    record {
      sole = record {
        named = subst (λ ns. 0 < times me.number ns) (sym one) (own_name me.number);
        all = all;
        alone = λ c. alone_of c me.number me.front (subst (λ ns. AreNamed ns me.front) one all);
      };
      lawful = lawful;
    }

-- ---- all links of a call

last_left : (g : Settings) (past : List Entry) (c : ℕ) (links : List Shown) (link : Shown) → Left g past link (c + length links) → LastLeft g past c (links ++ link ∷ [])
last_left g past c [] link left = subst (Left g past link) (omega arith) left
last_left g past c (l ∷ []) link left = subst (Left g past link) (omega arith) left
last_left g past c (l ∷ (next ∷ links)) link left = last_left g past (c + 1) (next ∷ links) link (subst (Left g past link) (omega arith) left)

pub call_of : (r : Called) (w : Asking) (moments : Option (List ℕ)) (lulls tries base faults : ℕ) (g : Settings) (past new : List Entry) (present : Option Shown) (back back' : Option (List Shown)) (out out' : List ℕ)
    → (s : StopsFrom r w moments lulls tries base faults 1 g past new present [] back back' out out') → IsCall g w moments new (s.more ++ s.last ∷ [])
call_of r w moments lulls tries base faults g past new present back back' out out' s = record {
  order = s.ended.order;
  timed = s.ended.timed;
  each = λ place. record {
    each = (let all = length-append s.more (s.last ∷ []) in let opened = s.ended.opened in let number = s.ended.number in omega (arith, all, opened, number));
    carried = s.ended.carried place;
    timely = s.ended.timely;
    left = all_but_one g new 1 s.more s.last (s.ended.left place);
  };
}

pub came_to : (r : Called) (w : Asking) (moments : Option (List ℕ)) (lulls tries base faults : ℕ) (g : Settings) (past new : List Entry) (present : Option Shown) (back back' : Option (List Shown)) (out out' : List ℕ)
    → (s : StopsFrom r w moments lulls tries base faults 1 g past new present [] back back' out out') → CameTo r w.kind lulls tries base faults g new (s.more ++ s.last ∷ [])
came_to r w moments lulls tries base faults g past new present back back' out out' s = by r s.ended.why s.ended.used_up
  where
    links : List Shown
    links = s.more ++ s.last ∷ []

    at : s.number ≡ 1 + length s.more
    at = s.ended.number

    last : (P : Shown → ℕ → Type 0) (none : Type 0) → P s.last s.number → OfLast P none 1 links
    last P none h = last_is P none 1 s.more s.last (subst (P s.last) at h)

    goes : GoesOn w.kind g new s.last s.number → HasPlace new → OfLast (HasNotEnded w.kind g new) (Unit {0}) 1 links
    goes h place = last (HasNotEnded w.kind g new) (Unit {0}) (h place)

    by : (r : Called) → EndsBy r w.kind lulls g new s.last s.number → HasUsedUp r tries base faults links → CameTo r w.kind lulls tries base faults g new links
    by called.Finished why used = last (HasEnded w.kind g new) ⊥ why
    by (called.Refused cause) why used = (why.0, why.1, goes why.2)
    by called.Net why used = (inr (used, λ place. last_left g new 1 s.more s.last (subst (Left g new s.last) at (why.0 place))), goes why.1)
    by (called.Dead moment) why used = (why.0, goes why.1)
    by (called.Idle n) why used = (why.0, (used, λ place. last (IsStill g new) ⊥ (why.1 place)), goes why.2)
    by called.OutOfMemory why used = tt

-- what came back once the present link is put back, too
pub got_all : (last : Shown) (present : Option Shown) (more : List Shown) (back back' all : Option (List Shown)) → IsLast last present more back back' → PutsBack present back' all → GotBack (more ++ last ∷ []) back all
got_all last present more back back' all (inl here) puts = subst (λ (o : Option Shown). all ≡ and_back o back' → GotBack (more ++ last ∷ []) back all) (sym here.0) (λ is. is ∙ one back here.1) puts
  where
    append : (xs ys : List Shown) (x : Shown) → (xs ++ ys) ++ x ∷ [] ≡ xs ++ (ys ++ x ∷ [])
    append [] ys x = refl
    append (z ∷ xs) ys x = ap (λ (l : List Shown). z ∷ l) (append xs ys x)

    one : (was : Option (List Shown)) → back' ≡ option_map (λ (l : List Shown). l ++ more) was → and_then_one back' last ≡ option_map (λ (l : List Shown). l ++ (more ++ last ∷ [])) was
    one None is = ap (λ o. and_then_one o last) is
    one (Some l) is = ap (λ o. and_then_one o last) is ∙ ap Some (append l more last)
got_all last present more back back' all (inr gone) puts = subst (λ (o : Option Shown). all ≡ and_back o back' → GotBack (more ++ last ∷ []) back all) (sym gone.0) (λ is. is ∙ gone.1) puts

pub whole_call : (r : Called) (w : Asking) (moments : Option (List ℕ)) (lulls tries base faults c : ℕ) (g : Settings) (past new : List Entry) (present : Option Shown) (back back' : Option (List Shown)) (out out' : List ℕ)
    → c ≡ 1 → StopsFrom r w moments lulls tries base faults c g past new present [] back back' out out' → IsWholeCall r w moments lulls tries base faults g past new present back back' out out'
whole_call r w moments lulls tries base faults c g past new present back back' out out' one stops =
    let s = subst (λ n. StopsFrom r w moments lulls tries base faults n g past new present [] back back' out out') one stops in
    record {
      links = s.more ++ s.last ∷ [];
      call = call_of r w moments lulls tries base faults g past new present back back' out out' s;
      why = came_to r w moments lulls tries base faults g past new present back back' out out' s;
      got = λ all puts. got_all s.last present s.more back back' all s.got puts;
      prints = s.ended.prints;
    }
