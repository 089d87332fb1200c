-- What the carrier of the client keeps where it opens, cuts and ticks. Entries stand newest first.
use Rattle.std.proofs.lemmas.Bool.Decides.{nat_tests}
use Rattle.std.proofs.Common.{◌≡◌, ◌≢◌, ◌<◌, ◌≤◌, ◌+◌, ◌==◌, ◌⊎◌, ◌||◌, inl, inr, ◌∙◌, ℕ, Bool, true, false, cond, List, [], ◌∷◌, ◌++◌, Option, Some, None, refl, ap, sym, subst, arith}
use Rattle.rs_wire.specs.declared.settings.Settings.{Settings}
use Rattle.tape.specs.declared.entry.Entry.{Entry}
use Rattle.tape.specs.declared.event.Event.{Event}
use Rattle.tape.specs.declared.event.Event.TheVariants as event
use Rattle.tape.specs.declared.answer.Answer.{Answer}
use Rattle.tape.specs.declared.answer.Answer.TheVariants as answer
use Rattle.session_model.specs.Answers.{facts}
use Rattle.session_model.specs.Life.{openings}
use Rattle.session_model.specs.Frames.{came, first_bad, was_opened}
use Rattle.session_model.specs.Joined.{is_accepted}
use Rattle.session_model.specs.Legal.{Legal}
use Rattle.session_model.specs.Means.{Means}
use Rattle.session_model.proofs.Meaning.{last_means}
use Rattle.link_model.specs.Carrying.{Between, Keeps, is_of}
use Rattle.link_model.proofs.Fresh.{fresh_keeps}
use Rattle.link_laws.proofs.Fresh.{opened_fresh}
use Rattle.cable_script.specs.declared.line.Line.{Line}
use Rattle.cable_script.specs.declared.line.Line.TheVariants as line
use Rattle.ring.specs.declared.item.Item.{Item}
use Rattle.ring.specs.Parts.{cuts, ends, part}
use Rattle.threaded_model.specs.Threaded.{act, acts, has_cut, is_act, is_asked, joins_after}
use Rattle.carriers.specs.Alone.{NeverAsks, linked}
use Rattle.threaded_client.specs.Following.{ActsTo}
use Rattle.threaded_client.specs.Carrying.{ClientCarries, Former, IsStill, Joins, conn_of}
use Rattle.carriers.proofs.Items.{Cuts}
use Rattle.threaded_client.proofs.Following.{acts_more, acts_one}
use Rattle.carriers.proofs.Blocks.{is_first, keeps_block, accepted_block}
use Rattle.threaded_client.proofs.Client.{former_block, still_block}

-- ---- one entry that moves no bytes and acts

-- an opening, a cut or a moment of the client
pub record Acting (n : ℕ) (x : Entry) : Type 0 where
  pub own : x.who ≡ n
  pub spares : (d : ℕ) → is_of d x.event ≡ false
  pub plain : is_first x.event ≡ false
  pub asks_not : is_asked x.event ≡ false
  pub acts : is_act x.event ≡ true

pub tick_acts : (n : ℕ) (x : Entry) (now : ℕ) → x.who ≡ n → x.event ≡ event.Tick now → Acting n x
tick_acts n x now own is = record { own = own; spares = λ d. rw is refl; plain = rw is refl; asks_not = rw is refl; acts = rw is refl }

pub cut_acts : (n : ℕ) (x : Entry) (c : ℕ) → x.who ≡ n → x.event ≡ event.Cut c → Acting n x
cut_acts n x c own is = record { own = own; spares = λ d. rw is refl; plain = rw is refl; asks_not = rw is refl; acts = rw is refl }

pub open_acts : (n : ℕ) (x : Entry) → x.who ≡ n → x.event ≡ event.Open None false → Acting n x
open_acts n x own is = record { own = own; spares = λ d. rw is refl; plain = rw is refl; asks_not = rw is refl; acts = rw is refl }

former_one : (g : Settings) (n : ℕ) (x : Entry) (past : List Entry) (c : ℕ) (given taken given' taken' : List ℕ) → Acting n x → given' ≡ given → taken' ≡ taken → Former g past c given taken → Former g (x ∷ past) c given' taken'
former_one g n x past c given taken given' taken' a same also f = former_block g (x ∷ []) past c given taken given' taken' (a.spares c, tt) same also f

still_one : (n : ℕ) (x : Entry) (past : List Entry) (c : ℕ) → Acting n x → IsStill past c → IsStill (x ∷ past) c
still_one n x past c a h = still_block (x ∷ []) past c (a.spares c, tt) (a.plain, tt) h

keeps_one : (g : Settings) (n : ℕ) (x : Entry) (past : List Entry) (given taken : List ℕ) (b : Between) → Acting n x → Keeps g past (linked given taken) b → Keeps g (x ∷ past) (linked given taken) b
keeps_one g n x past given taken b a k = keeps_block g (x ∷ []) past (linked given taken) b (a.spares b.conn, tt) k

never_asks_one : (n : ℕ) (x : Entry) (past : List Entry) → Acting n x → NeverAsks n past → NeverAsks n (x ∷ past)
never_asks_one n x past a h = ((λ own. a.asks_not), h)

follows_one : (n : ℕ) (x : Entry) (past : List Entry) (lines : List Line) (to : Option ℕ) (l : Line) → Acting n x → act to l ≡ Some x.event → ActsTo None lines (acts past) to → ActsTo None (lines ++ l ∷ []) (acts (x ∷ past)) (joins_after to l x.answer)
follows_one n x past lines to l a some k = subst (λ (es : List Entry). ActsTo None (lines ++ l ∷ []) es (joins_after to l x.answer)) (sym (acts_one x past a.acts)) (acts_more None lines (acts past) to l x some k)

joins_one : (g : Settings) (n : ℕ) (x : Entry) (past : List Entry) (p : Option Between) (given taken : List ℕ) → Acting n x → Joins g past p given taken → Joins g (x ∷ past) p given taken
joins_one g n x past None given taken a j = j
joins_one g n x past (Some b) given taken a j = record {
  accepted = accepted_block (x ∷ []) past b.conn j.accepted;
  left = j.left;
  keeps = keeps_one g n x past given taken b a j.keeps;
}

act_tick : (o : Option ℕ) (now : ℕ) → act o (line.Tick now) ≡ Some (event.Tick now)
act_tick None now = refl
act_tick (Some c) now = refl

-- a moment
pub client_tick : (g : Settings) (past : List Entry) (n : ℕ) (lines : List Line) (p : Option Between) (sent received : List Item) (x : Entry) (now : ℕ) → x.who ≡ n → x.event ≡ event.Tick now → ClientCarries g past n lines p sent received → ClientCarries g (x ∷ past) n (lines ++ line.Tick now ∷ []) p sent received
client_tick g past n lines p sent received x now own is k =
    let a = tick_acts n x now own is in
    record {
      conn = k.conn;
      both = k.both;
      former = λ j lt. former_one g n x past (k.conn j) (part j sent) (part j received) (part j sent) (part j received) a refl refl (k.former j lt);
      rising = k.rising;
      newest = k.newest;
      here = joins_one g n x past p (part (cuts sent) sent) (part (cuts sent) received) a k.here;
      others = λ c. elim (k.others c) [ inl known ↦ inl known | inr still ↦ inr (still_one n x past c a still) ];
      never_asks = never_asks_one n x past a k.never_asks;
      follows = follows_one n x past lines (conn_of p) (line.Tick now) a (act_tick (conn_of p) now ∙ ap Some (sym is)) k.follows;
      not_ended = k.not_ended;
    }

-- nothing was done yet
pub client_begun : (g : Settings) (n : ℕ) → ClientCarries g [] n [] None [] []
unfolding cuts part ends came first_bad acts ActsTo
client_begun g n = record {
  conn = λ k. 0;
  both = refl;
  former = λ k lt. absurd (omega (arith, lt));
  rising = λ j k lt le. absurd (omega (arith, le));
  newest = λ k lt. tt;
  here = (refl, refl);
  others = λ c. inr (refl, refl);
  never_asks = tt;
  follows = (refl, refl);
  not_ended = refl;
}

-- ---- an opening

-- the number of an opening
number_is : (g : Settings) (past : List Entry) (x : Entry) (c : ℕ) → Legal g (x ∷ past) → x.event ≡ event.Open None false → x.answer ≡ answer.Opened c → c ≡ openings past + 1
unfolding facts
number_is g past x c legal is opened =
    let m : Means g (facts g past) (event.Open None false) (answer.Opened c) = subst (λ (a : Answer). Means g (facts g past) (event.Open None false) a) opened (subst (λ (e : Event). Means g (facts g past) e x.answer) is (last_means g x past legal)) in
    m.next

accepted_now : (x : Entry) (past : List Entry) (c : ℕ) → x.answer ≡ answer.Opened c → is_accepted (x ∷ past) c ≡ true
unfolding is_accepted
accepted_now x past c is = rw is (opened_as (is_accepted past c))
  where
    opened_as : (b : Bool) → (b || (c == c)) ≡ true
    opened_as b = grind (arith, nat_tests)

within_openings : (past : List Entry) (c : ℕ) → was_opened past c ≡ true → c ≤ openings past
within_openings past c h = grind (arith, nat_tests)

-- the pump of a connection on which nothing came
abbrev pub new_pump : Settings → ℕ → Between
new_pump g c = record { conn = c; left = []; rest = []; max_in = g.max_in; bad = false }

-- it was accepted
pub client_open : (g : Settings) (past : List Entry) (n : ℕ) (lines : List Line) (sent received : List Item) (x : Entry) (c : ℕ) → Legal g (x ∷ past) → x.who ≡ n → x.event ≡ event.Open None false → x.answer ≡ answer.Opened c
    → ClientCarries g past n lines None sent received → ClientCarries g (x ∷ past) n (lines ++ line.Open ∷ []) (Some (new_pump g c)) sent received
client_open g past n lines sent received x c legal own is opened k =
    let a = open_acts n x own is in
    let number = number_is g past x c legal is opened in
    let nothing = fresh_keeps g (x ∷ past) (linked [] []) c g.max_in [] (opened_fresh g past x (linked [] []) false c legal is opened (record { taken = refl; given = refl; counts = refl })) in
    record {
      conn = k.conn;
      both = k.both;
      former = λ j lt. former_one g n x past (k.conn j) (part j sent) (part j received) (part j sent) (part j received) a refl refl (k.former j lt);
      rising = k.rising;
      newest = λ j lt.
          let f = k.former j lt in
          let there : k.conn j ≤ openings past = subst (λ (d : ℕ). d ≤ openings past) f.is (within_openings past f.between.conn f.keeps.opened) in
          omega (arith, there, number);
      here = record {
        accepted = accepted_now x past c opened;
        left = refl;
        keeps = subst (λ (l : List ℕ). Keeps g (x ∷ past) (linked l (part (cuts sent) received)) (new_pump g c)) (sym k.here.0) (subst (λ (l : List ℕ). Keeps g (x ∷ past) (linked [] l) (new_pump g c)) (sym k.here.1) nothing);
      };
      others = λ d. elim (k.others d) [
        | inl known ↦ elim known [
          | inl before ↦ inl (inl before)
          | inr here ↦ absurd (cc here)
        ]
        | inr still ↦ inr (still_one n x past d a still)
      ];
      never_asks = never_asks_one n x past a k.never_asks;
      follows = subst (λ (r : Answer). ActsTo None (lines ++ line.Open ∷ []) (acts (x ∷ past)) (joins_after None line.Open r)) opened (follows_one n x past lines None line.Open a (ap Some (sym is)) k.follows);
      not_ended = k.not_ended;
    }

-- it was refused
pub client_refused : (g : Settings) (past : List Entry) (n : ℕ) (lines : List Line) (sent received : List Item) (x : Entry) → x.who ≡ n → x.event ≡ event.Open None false → joins_after None line.Open x.answer ≡ None
    → ClientCarries g past n lines None sent received → ClientCarries g (x ∷ past) n (lines ++ line.Open ∷ []) None sent received
client_refused g past n lines sent received x own is none k =
    let a = open_acts n x own is in
    record {
      conn = k.conn;
      both = k.both;
      former = λ j lt. former_one g n x past (k.conn j) (part j sent) (part j received) (part j sent) (part j received) a refl refl (k.former j lt);
      rising = k.rising;
      newest = k.newest;
      here = k.here;
      others = λ d. elim (k.others d) [ inl known ↦ inl known | inr still ↦ inr (still_one n x past d a still) ];
      never_asks = never_asks_one n x past a k.never_asks;
      follows = subst (λ (o : Option ℕ). ActsTo None (lines ++ line.Open ∷ []) (acts (x ∷ past)) o) none (follows_one n x past lines None line.Open a (ap Some (sym is)) k.follows);
      not_ended = k.not_ended;
    }

-- ---- a cut

-- the function that is c at n, and else as it was
abbrev pub with_at : ℕ → ℕ → (ℕ → ℕ) → ℕ → ℕ
with_at n c f k = cond (k == n) c (f k)

pub with_here : (n c : ℕ) (f : ℕ → ℕ) → with_at n c f n ≡ c
with_here n c f = let same : (n == n) ≡ true = grind (arith, nat_tests) in rw same refl

pub with_before : (n c : ℕ) (f : ℕ → ℕ) (k : ℕ) → k < n → with_at n c f k ≡ f k
with_before n c f k lt = let apart : (k == n) ≡ false = grind (arith, nat_tests) in rw apart refl

cut_now : (x : Entry) (past : List Entry) (c : ℕ) → x.event ≡ event.Cut c → has_cut (x ∷ past) c ≡ true
unfolding has_cut
cut_now x past c is = rw is (cut_as (has_cut past c))
  where
    cut_as : (b : Bool) → (b || (c == c)) ≡ true
    cut_as b = grind (arith, nat_tests)

-- k is n, or comes before it
at_or_before : (k n : ℕ) → k < n + 1 → (k ≡ n) ⊎ (k < n)
at_or_before k n lt = elim (k == n) as (λ v. (k == n) ≡ v → (k ≡ n) ⊎ (k < n)) [
  | true ↦ λ is. inl (grind (arith, nat_tests))
  | false ↦ λ is. inr (let apart : k ≢ n = grind (arith, nat_tests) in omega (arith, lt, apart))
] refl

-- the connection that joined the ends is one of the former ones; what was read before the cut is part of its rest
pub client_cut : (g : Settings) (past : List Entry) (n : ℕ) (lines : List Line) (b b' : Between) (given taken : List ℕ) (sent sent' received received' : List Item) (x : Entry)
    → x.who ≡ n → x.event ≡ event.Cut b.conn → Cuts given sent sent' → Cuts taken received received' → b'.conn ≡ b.conn → b'.left ≡ []
    → ((s t : List ℕ) → Keeps g (x ∷ past) (linked s t) b → Keeps g (x ∷ past) (linked (s ++ given) (t ++ taken)) b')
    → ClientCarries g past n lines (Some b) sent received → ClientCarries g (x ∷ past) n (lines ++ line.Cut ∷ []) None sent' received'
client_cut g past n lines b b' given taken sent sent' received received' x own is up down conn left keeps k =
    let a = cut_acts n x b.conn own is in
    let m = cuts sent in
    let conns = with_at m b.conn k.conn in
    let last : part m received' ≡ part m received ++ taken = ap (λ (j : ℕ). part j received') (sym k.both) ∙ (down.last ∙ ap (λ (j : ℕ). part j received ++ taken) k.both) in
    let here : Former g (x ∷ past) b.conn (part m sent') (part m received') = record {
      accepted = accepted_block (x ∷ []) past b.conn k.here.accepted;
      cut = cut_now x past b.conn is;
      between = b';
      is = conn;
      left = left;
      keeps = subst (λ (l : List ℕ). Keeps g (x ∷ past) (linked l (part m received')) b') (sym up.last) (subst (λ (l : List ℕ). Keeps g (x ∷ past) (linked (part m sent ++ given) l) b') (sym last)
          (keeps (part m sent) (part m received) (keeps_one g n x past (part m sent) (part m received) b a k.here.keeps)));
    } in
    let before = λ (j : ℕ) (lt : j < m). former_one g n x past (k.conn j) (part j sent) (part j received) (part j sent') (part j received') a (up.before j lt) (down.before j (omega (arith, lt, k.both))) (k.former j lt) in
    record {
      conn = conns;
      both = omega (arith, up.one_more, down.one_more, k.both);
      former = λ j lt. elim (at_or_before j m (omega (arith, lt, up.one_more))) [
        | inl same ↦ subst (λ (i : ℕ). Former g (x ∷ past) (conns i) (part i sent') (part i received')) (sym same)
            (subst (λ (c : ℕ). Former g (x ∷ past) c (part m sent') (part m received')) (sym (with_here m b.conn k.conn)) here)
        | inr less ↦ subst (λ (c : ℕ). Former g (x ∷ past) c (part j sent') (part j received')) (sym (with_before m b.conn k.conn j less)) (before j less)
      ];
      rising = λ i j lt le.
          let first : conns i ≡ k.conn i = with_before m b.conn k.conn i (omega (arith, lt, le, up.one_more)) in
          elim (at_or_before j m (omega (arith, le, up.one_more))) [
            | inl same ↦
                let second : conns j ≡ b.conn = ap conns same ∙ with_here m b.conn k.conn in
                let less : k.conn i < b.conn = k.newest i (omega (arith, lt, same)) in
                omega (arith, first, second, less)
            | inr less ↦
                let second : conns j ≡ k.conn j = with_before m b.conn k.conn j less in
                let rises : k.conn i < k.conn j = k.rising i j lt less in
                omega (arith, first, second, rises)
          ];
      newest = λ j lt. tt;
      here = (
        ap (λ (j : ℕ). part j sent') up.one_more ∙ up.empty,
        ap (λ (j : ℕ). part j received') (up.one_more ∙ ap (λ (j : ℕ). j + 1) (sym k.both)) ∙ down.empty,
      );
      others = λ d. elim (k.others d) [
        | inl known ↦ elim known [
          | inl former ↦ inl (inl (former.0, omega (arith, former.1, up.one_more), with_before m b.conn k.conn former.0 former.1 ∙ former.2))
          | inr there ↦ let same : b.conn ≡ d = cc there in inl (inl (m, omega (arith, up.one_more), with_here m b.conn k.conn ∙ same))
        ]
        | inr still ↦ inr (still_one n x past d a still)
      ];
      never_asks = never_asks_one n x past a k.never_asks;
      follows = follows_one n x past lines (Some b.conn) line.Cut a (ap Some (sym is)) k.follows;
      not_ended = up.same_ends ∙ k.not_ended;
    }
