-- How the places are left once links came to them.
use Rattle.std.specs.List.{AllByRecursion}
use Rattle.std.proofs.Common.{◌≡◌, ◌≤◌, ◌+◌, ◌∙◌, inl, inr, ◌||◌, ℕ, zero, suc, Bool, true, false, List, [], ◌∷◌, ◌++◌, length, if◌then◌else◌, Option, Some, None, Err, refl, sym, ap, subst, arith, append_assoc, append-nil, length-append}
use Rattle.std.specs.Option.{option_map}
use Rattle.rs_wire.specs.declared.settings.Settings.{Settings}
use Rattle.outside.specs.Causes.{Rose}
use Rattle.outside.specs.Links.{Shown, and_then_one}
use Rattle.outside.specs.Nets.{asked_after}
use Rattle.outside.specs.declared.net.Ask.{Ask}
use Rattle.outside.specs.declared.net.Ask.TheVariants as ask
use Rattle.outside.specs.declared.net.NetFault.{NetFault}
use Rattle.outside.specs.declared.net.NetFault.TheVariants as net_fault
use Rattle.conn_shared.specs.Members.{Knowledge, SharedId}
use Rattle.crew.specs.Places.{AreAllServed, AreServed, AreServedUntil, Pairwise}
use Rattle.handlers.specs.Listed.{Listed}
use Rattle.server.specs.Opening.{AreBack}
use Rattle.server.specs.Serving.{Outcome}
use Rattle.serve_slots.specs.Callers.{all_placed, held, parts_at, placed}
use Rattle.serve_slots.proofs.Lists.{all_first, all_second, pair_long}
use Rattle.serve_slots.proofs.Parts.{held_append, held_row}
use Rattle.serve_threads.specs.Asking.{AreAccepted, out_after, repeated}
use Rattle.serve_threads.specs.Ending.{rows_of}
use Rattle.serve_told.specs.Links.{answer_in, answers_of, is_memory, lacks_memory, link_in, links_of, ran_out, some_lack}
use Rattle.serve.specs.Links.{fault_of, is_failed, some_failed}
use Rattle.serve_threads.specs.Threads.{IsMissed, IsServed, IsVacant}
use Rattle.serve_threads.specs.declared.guest.Guest.{Guest}
use Rattle.serve.specs.declared.plan.ServeFault.TheVariants as serve_fault
use Rattle.serve.proofs.Counting.{asked_more}

-- ---- two lists of places

pub links_append : {L T : Type 0} (shown : L → Shown) (ps qs : List (Guest L T)) → links_of shown (ps ++ qs) ≡ links_of shown ps ++ links_of shown qs
links_append shown [] qs = refl
links_append shown (p ∷ ps) qs = ap (λ (l : List Shown). link_in shown p.link ++ l) (links_append shown ps qs) ∙ sym (append_assoc (link_in shown p.link) (links_of shown ps) (links_of shown qs))

pub failed_append : {L T : Type 0} (ps qs : List (Guest L T)) → some_failed (ps ++ qs) ≡ some_failed ps || some_failed qs
failed_append [] qs = refl
failed_append (p ∷ ps) qs = by (is_failed p.missed) (some_failed (ps ++ qs)) (some_failed ps) (some_failed qs) (failed_append ps qs)
  where
    by : (b x y z : Bool) → x ≡ y || z → (b || x) ≡ (b || y) || z
    by true x y z e = refl
    by false x y z e = e

-- at one place memory ran out
lack_at : {L T : Type 0} (ps : List (Guest L T)) (p : Guest L T) (qs : List (Guest L T)) → lacks_memory p ≡ true → some_lack (ps ++ p ∷ qs) ≡ true
lack_at [] p qs is = ap (λ (b : Bool). b || some_lack qs) is
lack_at (x ∷ ps) p qs is = by (lacks_memory x) (lack_at ps p qs is)
  where
    by : (b : Bool) {c : Bool} → c ≡ true → (b || c) ≡ true
    by true e = refl
    by false e = e

-- without a fault memory did not run out, and the net did not fail
pub no_fault : {L T : Type 0} (places : List (Guest L T)) → fault_of places ≡ None → (some_lack places ≡ false) × (some_failed places ≡ false)
no_fault places none = by (some_lack places) (some_failed places) none
  where
    by : (a b : Bool) → (if a then Some serve_fault.OutOfMemory else (if b then Some serve_fault.Net else None)) ≡ None → (a ≡ false) × (b ≡ false)
    by true b e = absurd (cc)
    by false true e = absurd (cc)
    by false false e = (refl, refl)

rows_append : {L T : Type 0} (i : ℕ) (ps qs : List (Guest L T)) → held i (all_placed (rows_of (ps ++ qs))) ≡ held i (all_placed (rows_of ps)) + held i (all_placed (rows_of qs))
rows_append i [] qs = omega arith
rows_append i (p ∷ ps) qs =
    let a = rows_append i ps qs in
    let b = held_append i (placed 0 p.row.items) (all_placed (rows_of (ps ++ qs))) in
    let c = held_append i (placed 0 p.row.items) (all_placed (rows_of ps)) in
    omega arith

back_parts : (i : ℕ) (olds news : List Knowledge) → AreBack olds news → parts_at i news ≡ parts_at i olds
back_parts i [] [] back = refl
back_parts i [] (n ∷ news) back = absurd back
back_parts i (m ∷ olds) [] back = absurd back
back_parts zero (m ∷ olds) (n ∷ news) back = ap (λ (k : Knowledge). k.parts) back.0
back_parts (suc i) (m ∷ olds) (n ∷ news) back = back_parts i olds news back.1

-- what came
pub record HasCome {N L T : Type 0} (shown : L → Shown) (asked : N → Option (List Ask)) (back : N → Option (List Shown)) (out faults : N → ℕ) (ws : Bool) (many : ℕ) (n m : N) (left : List (Guest L T)) : Type 0 where
  pub came : ℕ
  pub accepts : ℕ
  pub links : length (links_of shown left) ≡ came
  pub few : (came ≤ accepts) × (accepts ≤ many)
  pub asks : asked m ≡ option_map (λ (was : List Ask). was ++ repeated accepts (ask.Accept ws)) (asked n)
  pub back_is : back m ≡ back n
  pub out_is : out m ≡ out_after came (out n)
  pub counted : faults n ≤ faults m
  pub cause : some_failed left ≡ true → Rose (faults n) (faults m)
  pub whole : fault_of left ≡ None → (came ≡ many) × (length (answers_of left) ≡ many)

module _ {L T : Type 0} (shown : L → Shown) (g : Settings) (ids : List SharedId) (moments : Option (List ℕ)) (grant : Option ℕ) (routes : List Listed) where
  abbrev pub Vacant : Guest L T → Type 0
  Vacant p = IsVacant g ids p

  abbrev pub Done : Guest L T → Guest L T → Type 0
  Done p q = IsServed shown g moments grant routes p q

  vacant_links : (ps : List (Guest L T)) → AllByRecursion Vacant ps → links_of shown ps ≡ []
  vacant_links [] v = refl
  vacant_links (p ∷ ps) v = ap (λ (o : Option L). link_in shown o ++ links_of shown ps) v.0.none ∙ vacant_links ps v.1

  vacant_failed : (ps : List (Guest L T)) → AllByRecursion Vacant ps → some_failed ps ≡ false
  vacant_failed [] v = refl
  vacant_failed (p ∷ ps) v = ap (λ (o : Option NetFault). is_failed o || some_failed ps) v.0.unmissed ∙ vacant_failed ps v.1

  served_links : (ps qs : List (Guest L T)) → Pairwise Done ps qs → length (links_of shown qs) ≡ length ps
  served_links [] [] d = refl
  served_links [] (q ∷ qs) d = absurd d
  served_links (p ∷ ps) [] d = absurd d
  served_links (p ∷ ps) (q ∷ qs) d = ap (λ (o : Option L). length (link_in shown o ++ links_of shown qs)) d.0.link_is ∙ ap suc (served_links ps qs d.1)

  pub served_answers : (ps qs : List (Guest L T)) → Pairwise Done ps qs → length (answers_of qs) ≡ length ps
  served_answers [] [] d = refl
  served_answers [] (q ∷ qs) d = absurd d
  served_answers (p ∷ ps) [] d = absurd d
  served_answers (p ∷ ps) (q ∷ qs) d = ap (λ (o : Option Outcome). length (answer_in o ++ answers_of qs)) d.0.answer_is ∙ ap suc (served_answers ps qs d.1)

  served_failed : (ps qs : List (Guest L T)) → AllByRecursion Vacant ps → Pairwise Done ps qs → some_failed qs ≡ false
  served_failed [] [] v d = refl
  served_failed [] (q ∷ qs) v d = absurd d
  served_failed (p ∷ ps) [] v d = absurd d
  served_failed (p ∷ ps) (q ∷ qs) v d = ap (λ (o : Option NetFault). is_failed o || some_failed qs) (d.0.unmissed ∙ v.0.unmissed) ∙ served_failed ps qs v.1 d.1

  served_parts : (i : ℕ) (ps qs : List (Guest L T)) → Pairwise Done ps qs → held i (all_placed (rows_of qs)) ≡ held i (all_placed (rows_of ps))
  served_parts i [] [] d = refl
  served_parts i [] (q ∷ qs) d = absurd d
  served_parts i (p ∷ ps) [] d = absurd d
  served_parts i (p ∷ ps) (q ∷ qs) d =
      let a = served_parts i ps qs d.1 in
      let b = held_append i (placed 0 p.row.items) (all_placed (rows_of ps)) in
      let c = held_append i (placed 0 q.row.items) (all_placed (rows_of qs)) in
      let e = held_row i p.row.items in
      let f = held_row i q.row.items in
      let h = back_parts i p.row.items q.row.items d.0.back in
      omega arith

  module _ {N : Type 0} (asked : N → Option (List Ask)) (back : N → Option (List Shown)) (out faults : N → ℕ) (ws : Bool) where
    abbrev pub Vain : N → N → Guest L T → Guest L T → Type 0
    Vain n m p q = IsMissed asked back out faults ws n m p q

    until : (places left : List (Guest L T)) (n m : N) → AllByRecursion Vacant places → AreServedUntil (AreAccepted asked back out faults ws) Done Vain n m places left → HasCome shown asked back out faults ws (length places) n m left
    until places left n m v u = by u.misses.fault refl
      where
        vacant : AllByRecursion Vacant (u.before ++ u.place ∷ u.rest)
        vacant = subst (AllByRecursion Vacant) u.were v

        before : AllByRecursion Vacant u.before
        before = all_first Vacant u.before (u.place ∷ u.rest) vacant

        after : AllByRecursion Vacant (u.place ∷ u.rest)
        after = all_second Vacant u.before (u.place ∷ u.rest) vacant

        missed_is : u.place'.missed ≡ Some u.misses.fault
        missed_is = ap (λ (p : Guest L T). p.missed) u.misses.missed

        no_link : u.place'.link ≡ None
        no_link = ap (λ (p : Guest L T). p.link) u.misses.missed ∙ after.0.none

        linked : links_of shown left ≡ links_of shown u.before'
        linked = ap (links_of shown) u.are ∙ (links_append shown u.before' (u.place' ∷ u.rest)
            ∙ (ap (λ (l : List Shown). links_of shown u.before' ++ l) (ap (λ (o : Option L). link_in shown o ++ links_of shown u.rest) no_link ∙ vacant_links u.rest after.1)
            ∙ append-nil (links_of shown u.before')))

        long : length (links_of shown left) ≡ length u.before
        long = ap length linked ∙ served_links u.before u.before' u.each

        failed : some_failed left ≡ is_failed (Some u.misses.fault)
        failed = ap some_failed u.are ∙ (failed_append u.before' (u.place' ∷ u.rest)
            ∙ (ap (λ (b : Bool). b || some_failed (u.place' ∷ u.rest)) (served_failed u.before u.before' before u.each)
            ∙ (ap (λ (o : Option NetFault). is_failed o || some_failed u.rest) missed_is ∙ or_none (is_failed (Some u.misses.fault)) (vacant_failed u.rest after.1))))
          where
            or_none : (b : Bool) {c : Bool} → c ≡ false → (b || c) ≡ b
            or_none true e = refl
            or_none false e = e

        lacking : u.misses.fault ≡ net_fault.OutOfMemory → some_lack left ≡ true
        lacking is = ap some_lack u.are ∙ lack_at u.before' u.place' u.rest (ap (λ (o : Option NetFault). is_memory o || ran_out u.place'.answer) (missed_is ∙ ap Some is))

        few : length u.before + 1 ≤ length places
        few = let a = ap length u.were in let b = length-append u.before (u.place ∷ u.rest) in omega arith

        by : (f : NetFault) → u.misses.fault ≡ f → HasCome shown asked back out faults ws (length places) n m left
        by net_fault.Failed is = record {
          came = length u.before;
          accepts = suc (length u.before);
          links = long;
          few = (omega arith, omega (arith, few));
          asks = (subst (λ (f : NetFault). asked m ≡ asked_after {X = L} (Err f) (asked u.mid) (ask.Accept ws)) is u.misses.wait.asked_is)
              ∙ (ap (λ (o : Option (List Ask)). and_then_one o (ask.Accept ws)) u.accepts.asked_is ∙ asked_more (length u.before) (ask.Accept ws) (asked n));
          back_is = u.misses.wait.back_is ∙ u.accepts.back_is;
          out_is = u.misses.wait.out_is ∙ u.accepts.out_is;
          counted = let a = u.misses.wait.counted in let b = u.accepts.faults_is in omega arith;
          cause = λ b. subst (λ (x : ℕ). Rose x (faults m)) u.accepts.faults_is (u.misses.wait.cause is);
          whole = λ none. absurd (let h = (no_fault left none).1 in let e : is_failed (Some u.misses.fault) ≡ false = sym failed ∙ h in let e2 : is_failed (Some net_fault.Failed) ≡ false = subst (λ (f : NetFault). is_failed (Some f) ≡ false) is e in cc);
        }
        by net_fault.OutOfMemory is = record {
          came = length u.before;
          accepts = length u.before;
          links = long;
          few = (omega arith, omega (arith, few));
          asks = (subst (λ (f : NetFault). asked m ≡ asked_after {X = L} (Err f) (asked u.mid) (ask.Accept ws)) is u.misses.wait.asked_is) ∙ u.accepts.asked_is;
          back_is = u.misses.wait.back_is ∙ u.accepts.back_is;
          out_is = u.misses.wait.out_is ∙ u.accepts.out_is;
          counted = let a = u.misses.wait.counted in let b = u.accepts.faults_is in omega arith;
          cause = λ b. absurd (let e : is_failed (Some u.misses.fault) ≡ true = sym failed ∙ b in let e2 : is_failed (Some net_fault.OutOfMemory) ≡ true = subst (λ (f : NetFault). is_failed (Some f) ≡ true) is e in cc);
          whole = λ none. absurd (let h = (no_fault left none).0 in let e = lacking is in cc);
        }

    all_served : (places left : List (Guest L T)) (n m : N) → AllByRecursion Vacant places → AreAllServed (AreAccepted asked back out faults ws) Done n m places left → HasCome shown asked back out faults ws (length places) n m left
    all_served places left n m v a = record {
      came = length places;
      accepts = length places;
      links = served_links places left a.each;
      few = (omega arith, omega arith);
      asks = a.accepts.asked_is;
      back_is = a.accepts.back_is;
      out_is = a.accepts.out_is;
      counted = let b = a.accepts.faults_is in omega arith;
      cause = λ b. absurd (let h = served_failed places left v a.each in cc);
      whole = λ none. (refl, served_answers places left a.each);
    }

    pub has_come : (places left : List (Guest L T)) (n m : N) → AllByRecursion Vacant places → AreServed (AreAccepted asked back out faults ws) Done Vain n m places left → HasCome shown asked back out faults ws (length places) n m left
    has_come places left n m v (inl a) = all_served places left n m v a
    has_come places left n m v (inr u) = until places left n m v u

    -- as many places are left
    pub left_long : (places left : List (Guest L T)) (n m : N) → AreServed (AreAccepted asked back out faults ws) Done Vain n m places left → length left ≡ length places
    left_long places left n m (inl a) = sym (pair_long Done places left a.each)
    left_long places left n m (inr u) =
        let a = ap length u.were in
        let b = ap length u.are in
        let c = length-append u.before (u.place ∷ u.rest) in
        let d = length-append u.before' (u.place' ∷ u.rest) in
        let e = pair_long Done u.before u.before' u.each in
        omega arith

    -- no part is lost
    pub come_parts : (i : ℕ) (places left : List (Guest L T)) (n m : N) → AreServed (AreAccepted asked back out faults ws) Done Vain n m places left → held i (all_placed (rows_of left)) ≡ held i (all_placed (rows_of places))
    come_parts i places left n m (inl a) = served_parts i places left a.each
    come_parts i places left n m (inr u) =
        let a = served_parts i u.before u.before' u.each in
        let b = rows_append i u.before (u.place ∷ u.rest) in
        let c = rows_append i u.before' (u.place' ∷ u.rest) in
        let d : u.place'.row ≡ u.place.row = ap (λ (p : Guest L T). p.row) u.misses.missed in
        let e : held i (all_placed (rows_of (u.place' ∷ u.rest))) ≡ held i (all_placed (rows_of (u.place ∷ u.rest))) = ap (λ r. held i (placed 0 r.items ++ all_placed (rows_of u.rest))) d in
        let f : held i (all_placed (rows_of places)) ≡ held i (all_placed (rows_of (u.before ++ u.place ∷ u.rest))) = ap (λ (l : List (Guest L T)). held i (all_placed (rows_of l))) u.were in
        let h : held i (all_placed (rows_of left)) ≡ held i (all_placed (rows_of (u.before' ++ u.place' ∷ u.rest))) = ap (λ (l : List (Guest L T)). held i (all_placed (rows_of l))) u.are in
        omega arith
