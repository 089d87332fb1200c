-- The tapes and the links of a server that has ended.
use Rattle.std.specs.List.{AllByRecursion}
use Rattle.std.specs.Option.{option_map}
use Rattle.std.proofs.lemmas.Bool.Decides.{nat_tests}
use Rattle.std.proofs.lemmas.Option.{slice_get-map}
use Rattle.std.proofs.Common.{◌≡◌, ◌≢◌, ◌<◌, ◌≤◌, ◌==◌, ◌∙◌, ◌⊎◌, inl, inr, ℕ, zero, suc, true, false, nat_lt, List, [], ◌∷◌, ◌++◌, length, slice_get, Option, Some, None, refl, sym, ap, subst, arith}
use Rattle.rs_wire.specs.declared.call.Call.{Call}
use Rattle.rs_wire.specs.declared.settings.Settings.{Settings}
use Rattle.outside.specs.Links.{Shown}
use Rattle.tape.specs.declared.entry.Entry.{Entry}
use Rattle.conn_lock.specs.Callers.{times}
use Rattle.conn_shared.specs.Members.{Follows, Knowledge}
use Rattle.handlers.specs.Listed.{Listed}
use Rattle.workers.specs.Courses.{IsNoWork}
use Rattle.server.specs.Opening.{fronts}
use Rattle.serve_model.specs.Names.{GoesOnBy, Under}
use Rattle.serve_laws.specs.Knowing.{KnowsOwn, KnowsSlot, WasTakenIn}
use Rattle.serve_laws.specs.Links.{AreServedLinks, IsServedLink}
use Rattle.serve_laws.specs.Tapes.{AreServed, AreServersTapes, IsServersTape, number_at, number_in}
use Rattle.serve_laws.proofs.Events.{name_here}
use Rattle.serve_laws.proofs.Served.{link_is}
use Rattle.serve_laws.proofs.Taking.{others_go_on, own_new, own_of, under_others}
use Rattle.serve_laws.proofs.Tape.{tape_is}
use Rattle.serve_laws.proofs.Work.{jobs_are}
use Rattle.serve_links.specs.Callers.{IsNewCaller, numbers}
use Rattle.serve_fold.proofs.Joined.{each_named, in_first, in_second, joined_apart, joined_each, joined_first, joined_names, others_apart}
use Rattle.serve_fold.proofs.Slots.{all_named, jobs_known, slot_known}
use Rattle.serve_fold.specs.Slots.{names_in}
use Rattle.serve_ended.specs.Ended.{IsAt, LinksEnded, SlotEnded, rows_of}

-- ---- by places

all_from : {A : Type 0} (P : A → Type 0) (xs : List A) → ((j : ℕ) (x : A) → slice_get xs j ≡ Some x → P x) → AllByRecursion P xs
all_from P [] each = tt
all_from P (x ∷ xs) each = (each 0 x refl, all_from P xs (λ j y is. each (suc j) y is))

all_at : {A : Type 0} (P : A → Type 0) (xs : List A) (i : ℕ) (x : A) → AllByRecursion P xs → slice_get xs i ≡ Some x → P x
all_at P [] i x all is = absurd (cc)
all_at P (y ∷ xs) zero x all is = subst P (cc) all.0
all_at P (y ∷ xs) (suc i) x all is = all_at P xs i x all.1 is

same_in : {A : Type 0} (a b : A) (o : Option A) → o ≡ Some a → o ≡ Some b → a ≡ b
same_in a b o is also = (let both : Some a ≡ Some b = sym is ∙ also in cc)

-- a row of the links is that of the callers at its place
row_is : (links : List Shown) (places : List (List Knowledge)) (k : ℕ) (row : List ℕ) → slice_get (rows_of links places) k ≡ Some row
    → (link : Shown) × (callers : List Knowledge) × (slice_get links k ≡ Some link) × (slice_get places k ≡ Some callers) × (numbers callers ≡ row)
row_is [] places k row is = absurd (cc)
row_is (link ∷ links) [] k row is = absurd (cc)
row_is (link ∷ links) (r ∷ places) zero row is = (link, r, refl, refl, cc)
row_is (link ∷ links) (r ∷ places) (suc k) row is = row_is links places k row is

pub is_row : (links : List Shown) (places : List (List Knowledge)) (k : ℕ) (link : Shown) (callers : List Knowledge) → slice_get links k ≡ Some link → slice_get places k ≡ Some callers → slice_get (rows_of links places) k ≡ Some (numbers callers)
is_row [] places k link callers is at = absurd (cc)
is_row (l ∷ links) [] k link callers is at = absurd (cc)
is_row (l ∷ links) (r ∷ places) zero link callers is at = ap (λ (x : List Knowledge). Some (numbers x)) (cc)
is_row (l ∷ links) (r ∷ places) (suc k) link callers is at = is_row links places k link callers is at

rows_long : (links : List Shown) (places : List (List Knowledge)) → length links ≤ length places → length (rows_of links places) ≡ length links
rows_long [] places le = refl
rows_long (l ∷ links) [] le = absurd (omega (arith, le))
rows_long (l ∷ links) (r ∷ places) le = ap suc (rows_long links places (omega (arith, le)))

-- the caller that has a number in a row
caller_is : (callers : List Knowledge) (i n : ℕ) → slice_get (numbers callers) i ≡ Some n → (c : Knowledge) × (slice_get callers i ≡ Some c) × (c.number ≡ n)
caller_is [] i n is = absurd (cc)
caller_is (k ∷ callers) zero n is = (k, refl, cc)
caller_is (k ∷ callers) (suc i) n is = caller_is callers i n is

number_of : (callers : List Knowledge) (i : ℕ) (c : Knowledge) → slice_get callers i ≡ Some c → slice_get (numbers callers) i ≡ Some c.number
number_of callers i c is = slice_get-map (λ (x : Knowledge). x.number) callers i ∙ ap (option_map (λ (x : Knowledge). x.number)) is

front_of : (callers : List Knowledge) (i : ℕ) (c : Knowledge) → slice_get callers i ≡ Some c → slice_get (fronts callers) i ≡ Some c.front
front_of callers i c is = slice_get-map (λ (x : Knowledge). x.front) callers i ∙ ap (option_map (λ (x : Knowledge). x.front)) is

front_is : (callers : List Knowledge) (i : ℕ) (front : List Entry) → slice_get (fronts callers) i ≡ Some front → (c : Knowledge) × (slice_get callers i ≡ Some c) × (c.front ≡ front)
front_is [] i front is = absurd (cc)
front_is (k ∷ callers) zero front is = (k, refl, cc)
front_is (k ∷ callers) (suc i) front is = front_is callers i front is

fronts_long : (callers : List Knowledge) → length (fronts callers) ≡ length callers
fronts_long [] = refl
fronts_long (k ∷ callers) = ap suc (fronts_long callers)

number_row : (links : List Shown) (places : List (List Knowledge)) (k i n : ℕ) (o : Option (List ℕ)) → slice_get (rows_of links places) k ≡ o → number_in o i ≡ Some n → (c : Knowledge) × IsAt places k i c × (c.number ≡ n)
number_row links places k i n None none is = absurd (cc)
number_row links places k i n (Some row) there is =
    let r = row_is links places k row there in
    let c = caller_is r.1 i n (subst (λ l. slice_get l i ≡ Some n) (sym r.4) is) in
    (c.0, (r.1, r.3, c.1), c.2)

same_or_not : (i j : ℕ) → (i ≡ j) ⊎ (i ≢ j)
same_or_not i j = elim (i == j) as (λ v. (i == j) ≡ v → (i ≡ j) ⊎ (i ≢ j)) [
  | true ↦ λ is. inl (grind (arith, nat_tests))
  | false ↦ λ is. inr (grind (arith, nat_tests))
] refl

below : (i j : ℕ) → i ≢ j → (i < j) ⊎ (j < i)
below i j apart = elim (nat_lt i j) as (λ v. nat_lt i j ≡ v → (i < j) ⊎ (j < i)) [
  | true ↦ λ is. inl (grind (arith, nat_tests))
  | false ↦ λ is. inr (grind (arith, nat_tests))
] refl

same_at : (places : List (List Knowledge)) (k i : ℕ) (a b : Knowledge) → IsAt places k i a → IsAt places k i b → a ≡ b
same_at places k i a b (row, is, at) (other, also, there) = same_in a b (slice_get row i) at (subst (λ (r : List Knowledge). slice_get r i ≡ Some b) (sym (same_in row other (slice_get places k) is also)) there)

-- ---- a server that has ended

module _ (g : Settings) (moments : Option (List ℕ)) (lease : Option Call) (routes : List Listed) (many : ℕ) (places : List (List Knowledge)) (links : List Shown) (lasts : List Knowledge)
    (ended : LinksEnded g moments lease many places links) (each : length lasts ≡ many) (slots : (i : ℕ) (last : Knowledge) → slice_get lasts i ≡ Some last → SlotEnded g routes places i last) where
  abbrev pub rows : List (List ℕ)
  rows = rows_of links places

  -- what a caller of a place knows of its own entries
  known_by_link : (k i : ℕ) (c : Knowledge) (row : List Knowledge) (o : Option Shown) → slice_get links k ≡ o → slice_get places k ≡ Some row → slice_get row i ≡ Some c → c.names ≡ c.number ∷ [] → KnowsOwn moments lease rows i c.names c.front
  known_by_link k i c row (Some link) came is at one =
      let knows = ended.served k row link is came in
      let number : number_at (rows_of links places) k i ≡ Some c.number = ap (λ (o : Option (List ℕ)). number_in o i) (is_row links places k link row came is) ∙ number_of row i c at in
      subst (λ ns. KnowsOwn moments lease (rows_of links places) i ns c.front) (sym one)
      (own_of g moments lease (fronts row) (rows_of links places) k i c.number c.front link number (knows.at i c.number c.front (number_of row i c at) (front_of row i c at)))
  known_by_link k i c row None none is at one = own_new moments lease (rows_of links places) i c.names c.front (all_at IsNewCaller row i c (ended.vacant k row is none) at).1

  known : (k i : ℕ) (c : Knowledge) → IsAt places k i c → KnowsOwn moments lease rows i c.names c.front
  known k i c at = known_by_link k i c at.0 (slice_get links k) refl at.1 at.2 (ended.named k i c at)

  module _ (i : ℕ) (last : Knowledge) (s : SlotEnded g routes places i last) where
    others_known : AllByRecursion (λ (c : Knowledge). KnowsOwn moments lease rows i c.names c.front) s.others
    others_known = all_from (λ (c : Knowledge). KnowsOwn moments lease rows i c.names c.front) s.others (λ k c is. by k c (s.others_are k c is))
      where
        by : (k : ℕ) (c : Knowledge) → ((k ≡ i) × (c ≡ s.main)) ⊎ ((k ≢ i) × IsAt places k i c) → KnowsOwn moments lease rows i c.names c.front
        by k c (inl main) = subst (λ (x : Knowledge). KnowsOwn moments lease rows i x.names x.front) (sym main.1) (own_new moments lease rows i s.main.names s.main.front s.new.1)
        by k c (inr other) = known k i c other.1

    others_idle : AllByRecursion (λ (c : Knowledge). Under c.names (λ x. IsNoWork x.event) c.front) s.others
    others_idle = all_from (λ (c : Knowledge). Under c.names (λ x. IsNoWork x.event) c.front) s.others (λ k c is. by k c (s.others_are k c is))
      where
        by : (k : ℕ) (c : Knowledge) → ((k ≡ i) × (c ≡ s.main)) ⊎ ((k ≢ i) × IsAt places k i c) → Under c.names (λ x. IsNoWork x.event) c.front
        by k c (inl main) = subst (λ (x : Knowledge). Under x.names (λ y. IsNoWork y.event) x.front) (sym main.1) (under_others (λ x. IsNoWork x.event) s.main.names s.main.front s.new.1)
        by k c (inr other) = ended.idle k i c other.0 other.1

    has_name : (k : ℕ) (c : Knowledge) → IsAt places k i c → 0 < times c.number c.names
    has_name k c at = subst (λ ns. 0 < times c.number ns) (sym (ended.named k i c at)) (name_here c.number)

    -- no two places have one number
    never_two : (k l : ℕ) (c d : Knowledge) → k ≢ l → IsAt places k i c → IsAt places l i d → c.number ≡ d.number → ⊥
    never_two k l c d apart a b same = by (same_or_not k i) (same_or_not l i)
      where
        name_d : 0 < times c.number d.names
        name_d = subst (λ n. 0 < times n d.names) (sym same) (has_name l d b)

        by : (k ≡ i) ⊎ (k ≢ i) → (l ≡ i) ⊎ (l ≢ i) → ⊥
        by (inl here) (inl there) = apart (here ∙ sym there)
        by (inl here) (inr there) =
            let own : c ≡ s.own = same_at places i i c s.own (subst (λ j. IsAt places j i c) here a) s.own_is in
            joined_apart s.own s.others s.mid l d c.number s.ends.took (s.all_in l d there b) (subst (λ (x : Knowledge). 0 < times c.number x.names) own (has_name k c a)) name_d
        by (inr here) (inl there) =
            let own : d ≡ s.own = same_at places i i d s.own (subst (λ j. IsAt places j i d) there b) s.own_is in
            joined_apart s.own s.others s.mid k c c.number s.ends.took (s.all_in k c here a) (subst (λ (x : Knowledge). 0 < times c.number x.names) own name_d) (has_name k c a)
        by (inr here) (inr there) = order (below k l apart)
          where
            order : (k < l) ⊎ (l < k) → ⊥
            order (inl lt) = others_apart s.own s.others s.mid k l c d c.number s.ends.took lt (s.all_in k c here a) (s.all_in l d there b) (has_name k c a) name_d
            order (inr lt) = others_apart s.own s.others s.mid l k d c c.number s.ends.took lt (s.all_in l d there b) (s.all_in k c here a) name_d (has_name k c a)

    apart : (k l n : ℕ) → number_at rows k i ≡ Some n → number_at rows l i ≡ Some n → k ≡ l
    apart k l n one two = by (same_or_not k l)
      where
        by : (k ≡ l) ⊎ (k ≢ l) → k ≡ l
        by (inl same) = same
        by (inr other) =
            let c = number_row links places k i n (slice_get (rows_of links places) k) refl one in
            let d = number_row links places l i n (slice_get (rows_of links places) l) refl two in
            absurd (never_two k l c.0 d.0 other c.1 d.1 (c.2 ∙ sym d.2))

    slot : KnowsSlot g moments lease rows i s.mid.names (names_in s.workers) s.mid.front last.front
    slot = slot_known s.helps s.own s.others s.workers s.mid s.closed s.rest last s.ends g moments lease rows i routes s.legal s.fair s.named (known i i s.own s.own_is) others_known s.work apart

    tape : IsServersTape g moments lease rows i last.front
    tape = tape_is g moments lease rows i s.mid.names (names_in s.workers) s.mid.front last.front slot

    jobs : AreServed g routes last.front
    jobs = jobs_are g routes s.mid.names (names_in s.workers) s.own.number last.front (all_named s.helps s.own s.others s.workers s.mid s.closed s.rest last s.ends s.named)
        (jobs_known s.helps s.own s.others s.workers s.mid s.closed s.rest last s.ends g routes s.was s.now s.place s.worker (ended.named i i s.own s.own_is) s.helped s.keeps s.empty s.begun others_idle s.work s.is s.no_more)
        (record { legal = s.legal; fair = s.fair })

    -- a caller of a place was taken in
    taken_in : (k : ℕ) (c : Knowledge) → IsAt places k i c → WasTakenIn g moments lease rows i c.number c.front last.front
    taken_in k c at = by (same_or_not k i)
      where
        names_mid : s.mid.names ≡ s.own.names ++ names_in s.others
        names_mid = joined_names s.own s.others s.mid s.ends.took

        taken : 0 < times c.number s.mid.names → Follows c.names c.front s.mid.front → WasTakenIn g moments lease rows i c.number c.front last.front
        taken there follows = record {
          names = s.mid.names;
          workers = names_in s.workers;
          mid = s.mid.front;
          slot = slot;
          there = there;
          goes = subst (λ ns. GoesOnBy ns (λ x. ⊥) c.front s.mid.front) (ended.named k i c at) (others_go_on (λ x. ⊥) c.names c.front s.mid.front follows);
        }

        by : (k ≡ i) ⊎ (k ≢ i) → WasTakenIn g moments lease rows i c.number c.front last.front
        by (inl here) =
            let own : c ≡ s.own = same_at places i i c s.own (subst (λ j. IsAt places j i c) here at) s.own_is in
            taken (subst (λ ns. 0 < times c.number ns) (sym names_mid) (in_first c.number s.own.names (names_in s.others) (subst (λ (x : Knowledge). 0 < times c.number x.names) own (has_name k c at))))
            (subst (λ (x : Knowledge). Follows x.names x.front s.mid.front) (sym own) (joined_first s.own s.others s.mid s.ends.took))
        by (inr there) =
            let is = s.all_in k c there at in
            taken (subst (λ ns. 0 < times c.number ns) (sym names_mid) (in_second c.number s.own.names (names_in s.others) (each_named s.others k c c.number is (has_name k c at))))
            (joined_each s.own s.others s.mid k c s.ends.took is)

  -- ---- all of it

  pub tapes_are : AreServersTapes g moments lease routes rows (fronts lasts)
  tapes_are i past is =
      let l = front_is lasts i past is in
      let s = slots i l.0 l.1 in
      (subst (IsServersTape g moments lease rows i) l.2 (tape i l.0 s), subst (AreServed g routes) l.2 (jobs i l.0 s))

  pub links_are : AreServedLinks g moments lease (fronts lasts) rows links
  links_are = record {
    each = rows_long links places (subst (λ n. length links ≤ n) (sym ended.each) ended.few);
    served = served;
  }
    where
      taken : (k : ℕ) (callers : List Knowledge) → slice_get places k ≡ Some callers → (i n : ℕ) (front past : List Entry) → slice_get (numbers callers) i ≡ Some n → slice_get (fronts callers) i ≡ Some front → slice_get (fronts lasts) i ≡ Some past → WasTakenIn g moments lease (rows_of links places) i n front past
      taken k callers there i n front past number front_there tape_there =
          let c = caller_is callers i n number in
          let f = front_is callers i front front_there in
          let same : c.0 ≡ f.0 = same_in c.0 f.0 (slice_get callers i) c.1 f.1 in
          let l = front_is lasts i past tape_there in
          let s = slots i l.0 l.1 in
          subst (λ p. WasTakenIn g moments lease (rows_of links places) i n front p) l.2
          (subst (λ q. WasTakenIn g moments lease (rows_of links places) i n q l.0.front) (ap (λ (x : Knowledge). x.front) same ∙ f.2)
          (subst (λ m. WasTakenIn g moments lease (rows_of links places) i m c.0.front l.0.front) c.2 (taken_in i l.0 s k c.0 (callers, there, c.1))))

      served : (k : ℕ) (row : List ℕ) (link : Shown) → slice_get (rows_of links places) k ≡ Some row → slice_get links k ≡ Some link → IsServedLink g moments lease (fronts lasts) k row link
      served k row link is came =
          let r = row_is links places k row is in
          let long : length (fronts r.1) ≡ length (fronts lasts) = fronts_long r.1 ∙ (ended.rows k r.1 r.3 ∙ sym (fronts_long lasts ∙ each)) in
          subst (λ ns. IsServedLink g moments lease (fronts lasts) k ns link) r.4
          (link_is g moments lease (rows_of links places) k (numbers r.1) (fronts r.1) (fronts lasts) link long
          (λ i n front past number front_there tape_there. taken k r.1 r.3 i n front past number front_there tape_there)
          (ended.served k r.1 link r.3 came))
