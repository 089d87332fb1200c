-- What the carrier of the client keeps, as entries are added and items follow. Entries stand newest first.
use Rattle.std.proofs.lemmas.Bool.Decides.{nat_tests}
use Rattle.std.proofs.Common.{◌≡◌, ◌<◌, ◌==◌, ◌⊎◌, inl, inr, ◌∙◌, ℕ, true, false, List, [], ◌∷◌, ◌++◌, Option, Some, None, IfSome, refl, ap, sym, subst, arith}
use Rattle.std.specs.List.{AllByRecursion}
use Rattle.rs_wire.specs.declared.settings.Settings.{Settings}
use Rattle.tape.specs.declared.entry.Entry.{Entry}
use Rattle.tape.specs.declared.event.Event.{Event}
use Rattle.link_model.specs.Carrying.{Between, Keeps, is_of}
use Rattle.cable_script.specs.declared.line.Line.{Line}
use Rattle.ring.specs.declared.item.Item.{Item}
use Rattle.ring.specs.Parts.{cuts, part}
use Rattle.threaded_model.specs.Threaded.{act, acts, is_act, is_asked}
use Rattle.carriers.specs.Alone.{IsOurs, linked}
use Rattle.threaded_client.specs.Following.{ActsTo}
use Rattle.threaded_client.specs.Carrying.{ClientCarries, Former, IsStill, Joins, conn_of}
use Rattle.carriers.proofs.Items.{Grows}
use Rattle.threaded_client.proofs.Following.{acts_block, acts_idle}
use Rattle.carriers.proofs.Blocks.{accepted_block, asked_acts, asked_first, asked_spares, bad_block, came_block, cut_block, is_first, keeps_block, moves_acts, moves_asked, moves_first, never_asks_block, of_one, ours_are}

-- the event moves bytes of the connection that joins the ends
abbrev pub IsWithin : Option ℕ → Event → Type 0
IsWithin None e = ⊥
IsWithin (Some c) e = is_of c e ≡ true

-- ---- several entries

within_spares : (o : Option ℕ) (d : ℕ) → (o ≡ Some d → ⊥) → (e : Event) → IsWithin o e → is_of d e ≡ false
within_spares None d apart e h = absurd h
within_spares (Some c) d apart e h = of_one c d e (λ same. apart (ap Some same)) h

within_first : (o : Option ℕ) (e : Event) → IsWithin o e → is_first e ≡ false
within_first None e h = absurd h
within_first (Some c) e h = moves_first c e h

within_acts : (o : Option ℕ) (e : Event) → IsWithin o e → is_act e ≡ false
within_acts None e h = absurd h
within_acts (Some c) e h = moves_acts c e h

within_asked : (o : Option ℕ) (e : Event) → IsWithin o e → is_asked e ≡ false
within_asked None e h = absurd h
within_asked (Some c) e h = moves_asked c e h

-- a former connection over entries that move no bytes of it
pub former_block : (g : Settings) (more past : List Entry) (c : ℕ) (given taken given' taken' : List ℕ) → AllByRecursion (λ (x : Entry). is_of c x.event ≡ false) more → given' ≡ given → taken' ≡ taken → Former g past c given taken → Former g (more ++ past) c given' taken'
former_block g more past c given taken given' taken' spared same also f = record {
  accepted = accepted_block more past c f.accepted;
  cut = cut_block more past c f.cut;
  between = f.between;
  is = f.is;
  left = f.left;
  keeps = subst (λ (l : List ℕ). Keeps g (more ++ past) (linked l taken') f.between) (sym same) (subst (λ (l : List ℕ). Keeps g (more ++ past) (linked given l) f.between) (sym also)
      (keeps_block g more past (linked given taken) f.between (subst (λ (n : ℕ). AllByRecursion (λ (x : Entry). is_of n x.event ≡ false) more) (sym f.is) spared) f.keeps));
}

pub still_block : (more past : List Entry) (c : ℕ) → AllByRecursion (λ (x : Entry). is_of c x.event ≡ false) more → AllByRecursion (λ (x : Entry). is_first x.event ≡ false) more → IsStill past c → IsStill (more ++ past) c
still_block more past c spared plain h = (came_block more past c spared plain ∙ h.0, bad_block more past c spared ∙ h.1)

-- whether a connection is the one that joins the ends
is_here : (o : Option ℕ) (c : ℕ) → (o ≡ Some c) ⊎ (o ≡ Some c → ⊥)
is_here None c = inr (λ e. absurd (cc e))
is_here (Some d) c = elim (d == c) as (λ v. (d == c) ≡ v → (Some d ≡ Some c) ⊎ (Some d ≡ Some c → ⊥)) [
  | true ↦ λ is. inl (let same : d ≡ c = grind (arith, nat_tests) in ap Some same)
  | false ↦ λ is. inr (λ e. let same : d ≡ c = cc e in absurd (grind (arith, nat_tests)))
] refl

not_newest : (o : Option ℕ) (n : ℕ) → IfSome o (λ c. n < c) → o ≡ Some n → ⊥
not_newest None n h e = absurd (cc e)
not_newest (Some c) n h e = let same : c ≡ n = cc e in absurd (omega (arith, h, same))

-- entries of the connection that joins the ends, and of those who ask, while bytes go through the rings
pub client_adds : (g : Settings) (past more : List Entry) (n : ℕ) (lines : List Line) (p p' : Option Between) (P : Event → Type 0) (a b : List ℕ) (sent sent' received received' : List Item)
    → Grows a sent sent' → Grows b received received' → conn_of p' ≡ conn_of p
    → AllByRecursion (IsOurs P n) more → ((e : Event) → P e → IsWithin (conn_of p) e)
    → ((given taken : List ℕ) → Joins g past p given taken → Joins g (more ++ past) p' (given ++ a) (taken ++ b))
    → ClientCarries g past n lines p sent received → ClientCarries g (more ++ past) n lines p' sent' received'
client_adds g past more n lines p p' P a b sent sent' received received' up down conn ours within joins k =
    let o = conn_of p in
    let cuts_now : cuts sent' ≡ cuts sent = up.same_cuts in
    let plain : AllByRecursion (λ (x : Entry). is_first x.event ≡ false) more = ours_are P (λ e. is_first e ≡ false) n (λ e h. within_first o e (within e h)) asked_first more ours in
    let idle : AllByRecursion (λ (x : Entry). is_act x.event ≡ false) more = ours_are P (λ e. is_act e ≡ false) n (λ e h. within_acts o e (within e h)) asked_acts more ours in
    let spared = λ (d : ℕ) (apart : o ≡ Some d → ⊥). ours_are P (λ e. is_of d e ≡ false) n (λ e h. within_spares o d apart e (within e h)) (asked_spares d) more ours in
    record {
      conn = k.conn;
      both = down.same_cuts ∙ (k.both ∙ sym cuts_now);
      former = λ j lt.
          let before : j < cuts sent = omega (arith, lt, cuts_now) in
          former_block g more past (k.conn j) (part j sent) (part j received) (part j sent') (part j received') (spared (k.conn j) (not_newest o (k.conn j) (k.newest j before)))
          (up.before j before) (down.before j (omega (arith, before, k.both))) (k.former j before);
      rising = λ i j lt before. k.rising i j lt (omega (arith, before, cuts_now));
      newest = λ j lt. subst (λ (q : Option ℕ). IfSome q (λ c. k.conn j < c)) (sym conn) (k.newest j (omega (arith, lt, cuts_now)));
      here =
          let there : Joins g (more ++ past) p' (part (cuts sent) sent ++ a) (part (cuts sent) received ++ b) = joins (part (cuts sent) sent) (part (cuts sent) received) k.here in
          let last : part (cuts sent) received' ≡ part (cuts sent) received ++ b = ap (λ (m : ℕ). part m received') (sym k.both) ∙ (down.last ∙ ap (λ (m : ℕ). part m received ++ b) k.both) in
          subst (λ (m : ℕ). Joins g (more ++ past) p' (part m sent') (part m received')) (sym cuts_now)
          (subst (λ (l : List ℕ). Joins g (more ++ past) p' l (part (cuts sent) received')) (sym up.last) (subst (λ (l : List ℕ). Joins g (more ++ past) p' (part (cuts sent) sent ++ a) l) (sym last) there));
      others = λ c. elim (is_here o c) [
        | inl here ↦ inl (inr (conn ∙ here))
        | inr apart ↦ elim (k.others c) [
          | inl known ↦ elim known [
            | inl before ↦ inl (inl (before.0, omega (arith, before.1, cuts_now), before.2))
            | inr here ↦ absurd (apart here)
          ]
          | inr still ↦ inr (still_block more past c (spared c apart) plain still)
        ]
      ];
      never_asks = never_asks_block P n (λ e h. within_asked o e (within e h)) more past ours k.never_asks;
      follows = subst (λ (q : Option ℕ). ActsTo None lines (acts (more ++ past)) q) (sym conn) (subst (λ (es : List Entry). ActsTo None lines es o) (sym (acts_block more past idle)) k.follows);
      not_ended = up.same_ends ∙ k.not_ended;
    }

-- a line that does nothing
pub client_idle : (g : Settings) (past : List Entry) (n : ℕ) (lines : List Line) (p : Option Between) (sent received : List Item) (l : Line) → act (conn_of p) l ≡ None → ClientCarries g past n lines p sent received → ClientCarries g past n (lines ++ l ∷ []) p sent received
client_idle g past n lines p sent received l none k = record {
  conn = k.conn;
  both = k.both;
  former = k.former;
  rising = k.rising;
  newest = k.newest;
  here = k.here;
  others = k.others;
  never_asks = k.never_asks;
  follows = acts_idle None lines (acts past) (conn_of p) l none k.follows;
  not_ended = k.not_ended;
}
