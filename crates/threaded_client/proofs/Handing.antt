-- What the carrier of the client hands back, by what it keeps. Entries stand newest first.
use Rattle.std.proofs.lemmas.Bool.Decides.{nat_tests}
use Rattle.std.proofs.Common.{◌≡◌, ◌≢◌, ◌<◌, ◌≤◌, ◌==◌, ◌⊎◌, inl, inr, ◌∙◌, ℕ, true, false, cond, nat_lt, List, [], ◌∷◌, ◌++◌, Option, Some, None, IfSome, refl, ap, sym, subst, arith, append-nil}
use Rattle.rs_wire.specs.declared.settings.Settings.{Settings}
use Rattle.tape.specs.declared.entry.Entry.{Entry}
use Rattle.session_model.specs.Frames.{came, first_bad, given, was_opened}
use Rattle.session_model.specs.Joined.{is_accepted}
use Rattle.link_model.specs.Carrying.{Between, Keeps}
use Rattle.link_model.specs.Reading.{HasRead}
use Rattle.cable_script.specs.declared.line.Line.{Line}
use Rattle.ring.specs.declared.item.Item.{Item}
use Rattle.ring.specs.declared.item.Item.TheVariants as item
use Rattle.ring.specs.declared.item.Mark.TheVariants as mark
use Rattle.ring.specs.Parts.{cuts, part}
use Rattle.threaded_model.specs.Handed.{ClientKeeps, IsReadOn}
use Rattle.threaded_model.specs.Threaded.{acts, has_cut}
use Rattle.carriers.specs.Alone.{linked}
use Rattle.threaded_client.specs.Carrying.{ClientCarries, Joins, conn_of}
use Rattle.threaded_client.specs.Handing.{ClientHands, IsPresent}
use Rattle.carriers.proofs.Items.{cuts_both, part_later, part_marked}
use Rattle.threaded_client.proofs.Following.{acts_of}
use Rattle.threaded_client.proofs.Acting.{with_at, with_before, with_here}

-- the number of the connection that joins the ends, 0 where none does
abbrev pub now_of : Option Between → ℕ
now_of None = 0
now_of (Some b) = b.conn

-- the number of the connection after k cuts, of which there are n
abbrev pub conns_with : ℕ → Option Between → (ℕ → ℕ) → ℕ → ℕ
conns_with n p conn = with_at n (now_of p) (λ k. cond (nat_lt k n) (conn k) 0)

is_before : (n : ℕ) (p : Option Between) (conn : ℕ → ℕ) (k : ℕ) → k < n → conns_with n p conn k ≡ conn k
is_before n p conn k lt = with_before n (now_of p) (λ j. cond (nat_lt j n) (conn j) 0) k lt ∙ (let less : nat_lt k n ≡ true = grind (arith, nat_tests) in rw less refl)

is_here : (n : ℕ) (p : Option Between) (conn : ℕ → ℕ) → conns_with n p conn n ≡ now_of p
is_here n p conn = with_here n (now_of p) (λ j. cond (nat_lt j n) (conn j) 0)

is_later : (n : ℕ) (p : Option Between) (conn : ℕ → ℕ) (k : ℕ) → n < k → conns_with n p conn k ≡ 0
is_later n p conn k lt =
    let apart : (k == n) ≡ false = grind (arith, nat_tests) in
    let more : nat_lt k n ≡ false = grind (arith, nat_tests) in
    rw apart (rw more refl)

-- these bytes were pushed and read on connection c
record IsOn (g : Settings) (past : List Entry) (c : ℕ) (gave took : List ℕ) : Type 0 where
  pub accepted : is_accepted past c ≡ true
  pub between : Between
  pub is : between.conn ≡ c
  pub left : between.left ≡ []
  pub keeps : Keeps g past (linked gave took) between

-- it is one, or there is none and nothing was pushed
abbrev IsAny : Settings → List Entry → ℕ → List ℕ → List ℕ → Type 0
IsAny g past c gave took = IsOn g past c gave took ⊎ ((c ≡ 0) × (gave ≡ []))

above : (past : List Entry) (c : ℕ) → was_opened past c ≡ true → 0 < c
above past c h = grind (arith, nat_tests)

gave_all : (g : Settings) (past : List Entry) (c : ℕ) (gave took : List ℕ) → IsOn g past c gave took → gave ≡ given g past c
gave_all g past c gave took h = sym (append-nil gave) ∙ (ap (λ (l : List ℕ). gave ++ l) (sym h.left) ∙ (h.keeps.given.all ∙ ap (given g past) h.is))

took_all : (g : Settings) (past : List Entry) (c : ℕ) (gave took : List ℕ) → IsOn g past c gave took → IsReadOn g past c took
took_all g past c gave took h = record {
  rest = h.between.rest;
  read = subst (λ (d : ℕ). HasRead (came past d) (first_bad past d) g.max_in h.between.rest took) h.is h.keeps.taken;
}

some_above : (g : Settings) (past : List Entry) (c : ℕ) (gave took : List ℕ) → IsOn g past c gave took → 0 < c
some_above g past c gave took h = subst (λ (d : ℕ). 0 < d) h.is (above past h.between.conn h.keeps.opened)

-- k is less, n, or more
three_ways : (k n : ℕ) → (k < n) ⊎ (k ≡ n) ⊎ (n < k)
three_ways k n = elim (k == n) as (λ v. (k == n) ≡ v → (k < n) ⊎ (k ≡ n) ⊎ (n < k)) [
  | true ↦ λ is. inr (inl (grind (arith, nat_tests)))
  | false ↦ λ is. elim (nat_lt k n) as (λ v. (nat_lt k n) ≡ v → (k < n) ⊎ (k ≡ n) ⊎ (n < k)) [
    | true ↦ λ less. inl (grind (arith, nat_tests))
    | false ↦ λ more. inr (inr (let apart : k ≢ n = grind (arith, nat_tests) in let le : n ≤ k = grind (arith, nat_tests) in omega (arith, apart, le)))
  ] refl
] refl

here_is : (g : Settings) (past : List Entry) (p : Option Between) (gave took : List ℕ) → Joins g past p gave took → IsAny g past (now_of p) gave took
here_is g past None gave took j = inr (refl, j.0)
here_is g past (Some b) gave took j = inl (record { accepted = j.accepted; between = b; is = refl; left = j.left; keeps = j.keeps })

any_at : (g : Settings) (past : List Entry) (n : ℕ) (lines : List Line) (p : Option Between) (sent received : List Item) → (c : ClientCarries g past n lines p sent received) → (k : ℕ) → IsAny g past (conns_with (cuts sent) p c.conn k) (part k sent) (part k received)
any_at g past n lines p sent received c k = elim (three_ways k (cuts sent)) [
  | inl less ↦
      let f = c.former k less in
      subst (λ (d : ℕ). IsAny g past d (part k sent) (part k received)) (sym (is_before (cuts sent) p c.conn k less)) (inl (record { accepted = f.accepted; between = f.between; is = f.is; left = f.left; keeps = f.keeps }))
  | inr more ↦ elim more [
    | inl same ↦ subst (λ (j : ℕ). IsAny g past (conns_with (cuts sent) p c.conn j) (part j sent) (part j received)) (sym same)
        (subst (λ (d : ℕ). IsAny g past d (part (cuts sent) sent) (part (cuts sent) received)) (sym (is_here (cuts sent) p c.conn)) (here_is g past p (part (cuts sent) sent) (part (cuts sent) received) c.here))
    | inr later ↦ inr (is_later (cuts sent) p c.conn k later, part_later k sent later)
  ]
]

newest_now : (p : Option Between) (d : ℕ) → IfSome (conn_of p) (λ c. d < c) → 0 < now_of p → d < now_of p
newest_now None d h some = absurd (omega (arith, some))
newest_now (Some b) d h some = h

rises : (g : Settings) (past : List Entry) (n : ℕ) (lines : List Line) (p : Option Between) (sent received : List Item) → (c : ClientCarries g past n lines p sent received) → (j k : ℕ) → j < k → 0 < conns_with (cuts sent) p c.conn k → conns_with (cuts sent) p c.conn j < conns_with (cuts sent) p c.conn k
rises g past n lines p sent received c j k lt some = elim (three_ways k (cuts sent)) [
  | inl less ↦
      let a = is_before (cuts sent) p c.conn j (omega (arith, lt, less)) in
      let b = is_before (cuts sent) p c.conn k less in
      let r = c.rising j k lt less in
      omega (arith, a, b, r)
  | inr more ↦ elim more [
    | inl same ↦
        let a = is_before (cuts sent) p c.conn j (omega (arith, lt, same)) in
        let b : conns_with (cuts sent) p c.conn k ≡ now_of p = ap (conns_with (cuts sent) p c.conn) same ∙ is_here (cuts sent) p c.conn in
        let r : c.conn j < now_of p = newest_now p (c.conn j) (c.newest j (omega (arith, lt, same))) (omega (arith, b, some)) in
        omega (arith, a, b, r)
    | inr later ↦ let none = is_later (cuts sent) p c.conn k later in absurd (omega (arith, none, some))
  ]
]

apart_are : (g : Settings) (past : List Entry) (n : ℕ) (lines : List Line) (p : Option Between) (sent received : List Item) → (c : ClientCarries g past n lines p sent received) → (j k : ℕ) → 0 < conns_with (cuts sent) p c.conn j → conns_with (cuts sent) p c.conn j ≡ conns_with (cuts sent) p c.conn k → j ≡ k
apart_are g past n lines p sent received c j k some same = elim (three_ways j k) [
  | inl less ↦ let r = rises g past n lines p sent received c j k less (omega (arith, some, same)) in absurd (omega (arith, r, same))
  | inr more ↦ elim more [
    | inl is ↦ is
    | inr later ↦ let r = rises g past n lines p sent received c k j later some in absurd (omega (arith, r, same))
  ]
]

any_of : (g : Settings) (past : List Entry) (c : ℕ) (gave took : List ℕ) → 0 < c → IsAny g past c gave took → IsOn g past c gave took
any_of g past c gave took some (inl h) = h
any_of g past c gave took some (inr h) = absurd (omega (arith, some, h.0))

none_of : (g : Settings) (past : List Entry) (c : ℕ) (gave took : List ℕ) → c ≡ 0 → IsAny g past c gave took → gave ≡ []
none_of g past c gave took none (inl h) = let some = some_above g past c gave took h in absurd (omega (arith, none, some))
none_of g past c gave took none (inr h) = h.1

now_is : (p : Option Between) (d : ℕ) → conn_of p ≡ Some d → now_of p ≡ d
now_is None d h = absurd (cc h)
now_is (Some b) d h = cc h

-- what it keeps of its own end, over items that have the same parts
pub client_keeps : (g : Settings) (past : List Entry) (n : ℕ) (lines : List Line) (p : Option Between) (sent received up down : List Item) → ((k : ℕ) → part k up ≡ part k sent) → ((k : ℕ) → part k down ≡ part k received)
    → (c : ClientCarries g past n lines p sent received) → ClientKeeps g past (conns_with (cuts sent) p c.conn) up down
client_keeps g past n lines p sent received up down ups downs c =
    let conns = conns_with (cuts sent) p c.conn in
    let on = λ (k : ℕ) (some : 0 < conns k). any_of g past (conns k) (part k sent) (part k received) some (any_at g past n lines p sent received c k) in
    record {
      accepted = λ k some. (on k some).accepted;
      apart = apart_are g past n lines p sent received c;
      gave = λ k some. ups k ∙ gave_all g past (conns k) (part k sent) (part k received) (on k some);
      silent = λ k none. ups k ∙ none_of g past (conns k) (part k sent) (part k received) none (any_at g past n lines p sent received c k);
      read = λ k some. subst (λ (l : List ℕ). IsReadOn g past (conns k) l) (sym (downs k)) (took_all g past (conns k) (part k sent) (part k received) (on k some));
      others = λ d. elim (c.others d) [
        | inl known ↦ elim known [
          | inl before ↦
              let k = before.0 in
              let is : conns k ≡ d = is_before (cuts sent) p c.conn k before.1 ∙ before.2 in
              let f = c.former k before.1 in
              inl (k, is, subst (λ (e : ℕ). 0 < e) (f.is ∙ before.2) (above past f.between.conn f.keeps.opened))
          | inr here ↦
              let k = cuts sent in
              let is : conns k ≡ d = is_here (cuts sent) p c.conn ∙ now_is p d here in
              inl (k, is, subst (λ (e : ℕ). 0 < e) (now_is p d here) (now_above g past p d (part k sent) (part k received) here c.here))
        ]
        | inr still ↦ inr still
      ];
    }
  where
    now_above : (g : Settings) (past : List Entry) (p : Option Between) (d : ℕ) (gave took : List ℕ) → conn_of p ≡ Some d → Joins g past p gave took → 0 < now_of p
    now_above g past None d gave took here j = absurd (cc here)
    now_above g past (Some b) d gave took here j = above past b.conn j.keeps.opened

no_cut : cuts (item.Mark mark.End ∷ []) ≡ 0
unfolding cuts
no_cut = refl

one_mark : (xs : List Item) → cuts (xs ++ item.Mark mark.End ∷ []) ≡ cuts xs
one_mark xs = let a = cuts_both xs (item.Mark mark.End ∷ []) in omega (arith, a, no_cut)

present_is : (g : Settings) (past : List Entry) (p : Option Between) (conns : ℕ → ℕ) (m : ℕ) (gave took : List ℕ) (up down : List Item) → conns m ≡ now_of p → part m up ≡ gave → part m down ≡ took → Joins g past p gave took → IfSome p (λ b. IsPresent g past conns m b up down)
present_is g past None conns m gave took up down is same also j = tt
present_is g past (Some b) conns m gave took up down is same also j = record {
  is = is;
  some = above past b.conn j.keeps.opened;
  left = j.left;
  keeps = subst (λ (l : List ℕ). Keeps g past (linked l (part m down)) b) (sym same) (subst (λ (l : List ℕ). Keeps g past (linked gave l) b) (sym also) j.keeps);
}

-- all that it hands back, once the end was pushed and read
pub client_hands : (g : Settings) (past : List Entry) (n : ℕ) (lines : List Line) (p : Option Between) (sent received : List Item) → ClientCarries g past n lines p sent received → ClientHands g past n lines p (sent ++ item.Mark mark.End ∷ []) (received ++ item.Mark mark.End ∷ [])
client_hands g past n lines p sent received c =
    let up = sent ++ item.Mark mark.End ∷ [] in
    let down = received ++ item.Mark mark.End ∷ [] in
    let m = cuts sent in
    let same : cuts up ≡ m = one_mark sent in
    let conns = conns_with m p c.conn in
    record {
      conn = conns;
      keeps = client_keeps g past n lines p sent received up down (λ k. part_marked k sent mark.End) (λ k. part_marked k received mark.End) c;
      acts = acts_of None lines (acts past) (conn_of p) c.follows;
      cut = λ k lt. let less : k < m = omega (arith, lt, same) in subst (λ (d : ℕ). has_cut past d ≡ true) (sym (is_before m p c.conn k less)) (c.former k less).cut;
      never_asks = c.never_asks;
      present = subst (λ (j : ℕ). IfSome p (λ b. IsPresent g past conns j b up down)) (sym same) (present_is g past p conns m (part m sent) (part m received) up down (is_here m p c.conn) (part_marked m sent mark.End) (part_marked m received mark.End) c.here);
      both = one_mark received ∙ (c.both ∙ sym same);
      none = λ is. ap conns same ∙ (is_here m p c.conn ∙ ap now_of is);
      ended = (sent, refl, c.not_ended);
      finished = (received, refl);
    }
