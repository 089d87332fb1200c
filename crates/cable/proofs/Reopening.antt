-- The client opens a connection.
use Rattle.std.proofs.Common.{◌≡◌, ◌<◌, ◌+◌, ℕ, true, false, cond, map, is_some, List, [], ◌∷◌, ◌++◌, take, Option, Some, None, refl, ap, subst, sym, ◌∙◌, arith}
use Rattle.rs_wire.specs.declared.words.Side.TheVariants.{Client}
use Rattle.rs_wire.specs.declared.settings.Settings.{Settings}
use Rattle.rs_wire.specs.Settings.{IsChecked}
use Rattle.rs_frame.specs.declared.frame.Frame.{Frame}
use Rattle.rs_frame.specs.Framed.{framed_all}
use Rattle.tape.specs.Answers.{leaves}
use Rattle.tape.specs.declared.event.Event.TheVariants as event
use Rattle.tape.specs.declared.answer.Answer.{Answer}
use Rattle.tape.specs.declared.answer.Answer.TheVariants as answer
use Rattle.tape.specs.declared.entry.Entry.{Entry}
use Rattle.session_model.specs.Life.{openings}
use Rattle.session_model.specs.Frames.{came, drawn, due, first_bad}
use Rattle.session_model.specs.Legal.{Fair, Legal}
use Rattle.session_model.specs.Joined.{IsOpening}
use Rattle.session_model.specs.Answers.{answer_to}
use Rattle.session_model.proofs.Openings.{drawn_later}
use Rattle.session_core.specs.Seen.{Seen}
use Rattle.session_laws.proofs.Spelled.{due_spelled}
use Rattle.cable.specs.declared.arrival.Arrival.TheVariants as arrival
use Rattle.cable.specs.declared.wire.Wire.{Wire}
use Rattle.cable.specs.declared.hearing.Known.TheVariants as known
use Rattle.cable.specs.Played.{Ends, Link, There, adds, crossed, link_of, opens, unless_linked}
use Rattle.cable.specs.Hearing.{CrossedTo, Nears}
use Rattle.cable.specs.Wires.{At, LinkAt, Reaches, ServerAt, WireAt, Wires, sides_of, wire_of}
use Rattle.cable.proofs.Followed.{end_on, fair_there, legal_there}
use Rattle.cable.proofs.Grows.{same_step}
use Rattle.cable.proofs.Lost.{lost_as, lost_opened}
use Rattle.cable.proofs.Opening.{number_is, unheard}
use Rattle.cable.proofs.Pairing.{opened_is}
use Rattle.cable.proofs.Wiring.{settings_of}

-- ---- a connection joins the ends

joined_by : (o : Option Wire) (v : Wires) (r : Ends) → is_some o ≡ true → WireAt o v r → (l : Link) × (r.link ≡ Some l)
joined_by None v r some h = absurd (cc)
joined_by (Some w) v r some h = (record { client = w.client; there = h.there }, h.up.link)

-- it stays
pub stays_open : (v : Wires) (r : Ends) → is_some v.wire ≡ true → At v r → Reaches v (λ r'. r' ≡ unless_linked r.link r (opens (sides_of v) r))
stays_open v r some at =
    let l = joined_by v.wire v r some at.wire in
    record { ends = r; at = at; holds = ap (λ (o : Option Link). unless_linked o r (opens (sides_of v) r)) (sym l.1) }

-- ---- none does

alone_by : (o : Option Wire) (v : Wires) (r : Ends) → is_some o ≡ false → WireAt o v r → r.link ≡ None
alone_by None v r none h = h
alone_by (Some w) v r none h = absurd (cc)

abbrev opening_as : ℕ → Entry
opening_as n = record { who = 0; event = event.Open None false; answer = answer.Opened n }

-- the connection, where the client takes frames of so many bytes, and the server of as many as `most`
abbrev fresh_wire : ℕ → ℕ → ℕ → Wire
fresh_wire n most here = record {
  client = n;
  known = known.Nothing;
  up = record { rest = record { bytes = []; max_in = most }; over = false };
  down = record { rest = record { bytes = []; max_in = here }; over = false };
}

wire_opened : (a : Answer) (most here : ℕ) (v : Wires) (r : Ends) → r.link ≡ link_of a → ((n : ℕ) → a ≡ answer.Opened n → LinkAt (fresh_wire n most here) v r) → WireAt (wire_of a most here) v r
wire_opened (answer.Opened n) most here v r is h = h n refl
wire_opened _ most here v r is h = is

added : (g : Settings) (past : List Entry) (n : ℕ) → answer_to g past (event.Open None false) ≡ answer.Opened n → adds g past (event.Open None false) ≡ opening_as n ∷ past
added g past n is = ap (λ (a : Answer). cond (leaves a) (record { who = 0; event = event.Open None false; answer = a } ∷ past) past) is

-- nothing was drawn on it
fresh_drawn : (g : Settings) (past : List Entry) (n : ℕ) → Legal g past → openings past < n → drawn (opening_as n ∷ past) n ≡ 0
unfolding drawn
fresh_drawn g past n legal later = let none = drawn_later g past n legal later in omega (arith, none)

-- nothing came on it
fresh_silent : (past : List Entry) (n : ℕ) → openings past < n → (came (opening_as n ∷ past) n ≡ []) × (first_bad (opening_as n ∷ past) n ≡ None)
fresh_silent past n later =
    let same = same_step n (opening_as n) past refl refl in
    let none = unheard past n later in
    (same.came_is ∙ none.0, same.bad_is ∙ none.1)

fresh_opening : (past : List Entry) (n : ℕ) → n ≡ openings past + 1 → IsOpening (opening_as n ∷ past) n
unfolding openings
fresh_opening past n new = record { above = omega (arith, new); within = omega (arith, new) }

-- what crossed to the client
fresh_crossed : (g : Settings) (past : List Entry) (n here : ℕ) → n ≡ openings past + 1 → here ≡ g.max_in → IsChecked g → CrossedTo g n 0 [] (opening_as n ∷ past) (record { bytes = []; max_in = here }) false
unfolding crossed
fresh_crossed g past n here new longest checked =
    let silent = fresh_silent past n (omega (arith, new)) in
    record {
      ahead = record { longest = longest; below = omega (arith, checked.max_in.below); spellable = tt };
      opened = opened_is (opening_as n ∷ past) n (fresh_opening past n new);
      bytes = ap (λ (l : List Frame). framed_all l ++ []) (sym silent.0);
      bad = ap is_some (sym silent.1);
      parts = λ none. ([], ap (λ (l : List Frame). map (λ f. arrival.Whole f) l ++ []) silent.0);
    }

-- what crossed to the server
fresh_nears : (g : Settings) (past : List Entry) (n most : ℕ) (v : Seen) (w : Wire) → n ≡ openings past + 1 → w.up ≡ record { rest = record { bytes = []; max_in = most }; over = false } → IsChecked g → Legal g past → Legal g (opening_as n ∷ past) → Fair g (opening_as n ∷ past) → most ≡ v.settings.max_in → IsChecked v.settings
    → Nears (drawn (opening_as n ∷ past) n) (due g (opening_as n ∷ past) n) v w.up
fresh_nears g past n most v w new is own before legal fair longest checked =
    let C = opening_as n ∷ past in
    let none = fresh_drawn g past n before (omega (arith, new)) in
    subst (Nears (drawn C n) (due g C n) v) (sym is) (record {
      ahead = record { longest = longest; below = omega (arith, checked.max_in.below); spellable = due_spelled g C n own legal fair };
      bytes = ap (λ (k : ℕ). take k (framed_all (due g C n))) none;
      goes_on = refl;
    })

-- the client's answer and its entries after it
pub record Opens (v : Wires) (u' : Seen) (a : Answer) : Type 0 where
  pub legal : Legal u'.settings u'.entries
  pub fair : Fair u'.settings u'.entries
  pub same : u' ≡ record v.client { entries = u'.entries; spare = u'.spare }
  pub now : u'.entries ≡ adds v.client.settings v.client.entries (event.Open None false)
  pub right : a ≡ answer_to v.client.settings v.client.entries (event.Open None false)

-- and the longest frames of either end
pub record Longest (v : Wires) (u' : Seen) (most here : ℕ) : Type 0 where
  pub most_is : most ≡ v.server.settings.max_in
  pub here_is : here ≡ u'.settings.max_in
  pub server : IsChecked v.server.settings
  pub client : IsChecked u'.settings

client_now : (v : Wires) (r : Ends) (u' : Seen) (a : Answer) → At v r → Opens v u' a → (opens (sides_of v) r).client ≡ u'.entries
client_now v r u' a at o = ap (λ (l : List Entry). adds v.client.settings l (event.Open None false)) at.client ∙ sym o.now

link_now : (v : Wires) (r : Ends) (u' : Seen) (a : Answer) → At v r → Opens v u' a → (opens (sides_of v) r).link ≡ link_of a
link_now v r u' a at o = ap (λ (l : List Entry). link_of (answer_to v.client.settings l (event.Open None false))) at.client ∙ ap link_of (sym o.right)

-- the two ends of the new connection
fresh_link_at : (v v' : Wires) (r : Ends) (u' : Seen) (a : Answer) (n most here : ℕ) → At v r → Opens v u' a → Longest v u' most here → v'.client ≡ u' → v'.server ≡ v.server → a ≡ answer.Opened n → LinkAt (fresh_wire n most here) v' (opens (sides_of v) r)
fresh_link_at v v' r u' a n most here at o l client server is =
    let g = v.client.settings in
    let past = v.client.entries in
    let w = fresh_wire n most here in
    let r' = opens (sides_of v) r in
    let gs : u'.settings ≡ g = settings_of v.client u' o.same in
    let opened : answer_to g past (event.Open None false) ≡ answer.Opened n = sym o.right ∙ is in
    let new : n ≡ openings past + 1 = number_is g past None n (sym opened) in
    let C : u'.entries ≡ opening_as n ∷ past = o.now ∙ added g past n opened in
    let after = end_on Client v.client u' o.same o.legal o.fair at.client_is in
    let legal : Legal g (opening_as n ∷ past) = subst (Legal g) C (legal_there Client v.client u' o.same after) in
    let fair : Fair g (opening_as n ∷ past) = subst (Fair g) C (fair_there Client v.client u' o.same after) in
    let nears0 = fresh_nears g past n most v.server w new refl at.client_is.checked at.client_is.legal legal fair l.most_is l.server in
    let nears1 : Nears (drawn r'.client n) (due g r'.client n) v.server w.up = subst (λ (h : List Entry). Nears (drawn h n) (due g h n) v.server w.up) (sym (client_now v r u' a at o ∙ C)) nears0 in
    let up : ServerAt g r' There.Nowhere v.server w = record { server = at.server; link = link_now v r u' a at o ∙ ap link_of is; number = omega (arith, new); knows = nears1 } in
    let crossed0 = fresh_crossed u'.settings past n here new l.here_is l.client in
    let down : CrossedTo u'.settings n 0 [] u'.entries w.down.rest w.down.over = subst (λ (h : List Entry). CrossedTo u'.settings n 0 [] h w.down.rest w.down.over) (sym C) crossed0 in
    record {
      there = There.Nowhere;
      up = subst (λ (s : Seen). ServerAt v'.client.settings r' There.Nowhere s w) (sym server) (subst (λ (c : Seen). ServerAt c.settings r' There.Nowhere v.server w) (sym client) (subst (λ (k : Settings). ServerAt k r' There.Nowhere v.server w) (sym gs) up));
      down = subst (λ (c : Seen). CrossedTo c.settings n 0 [] c.entries w.down.rest w.down.over) (sym client) down;
    }

opened_here : (v : Wires) (r : Ends) (u' : Seen) (a : Answer) (o : Option Wire) (most here : ℕ) → r.link ≡ None → At v r → Opens v u' a → Longest v u' most here → o ≡ wire_of a most here
    → Reaches (record { client = u'; server = v.server; wire = o; dropped = v.dropped }) (λ r'. r' ≡ unless_linked r.link r (opens (sides_of v) r))
opened_here v r u' a o most here none at b l wire =
    let v' : Wires = record { client = u'; server = v.server; wire = o; dropped = v.dropped } in
    let r' = opens (sides_of v) r in
    record {
      ends = r';
      at = record {
        client_is = end_on Client v.client u' b.same b.legal b.fair at.client_is;
        server_is = at.server_is;
        client = client_now v r u' a at b;
        server = at.server;
        wire = subst (λ (x : Option Wire). WireAt x v' r') (sym wire) (wire_opened a most here v' r' (link_now v r u' a at b) (λ n is. fresh_link_at v v' r u' a n most here at b l refl refl is));
        dropped = at.dropped;
        lost = lost_as v.dropped r.server r.server r.link r'.link (λ d. lost_opened (answer_to v.client.settings r.client (event.Open None false)) r.server r.link d) at.lost;
      };
      holds = ap (λ (x : Option Link). unless_linked x r r') (sym none);
    }

-- the client opened a connection, at the value that a cable shows
pub opened_again : (v v0 : Wires) (r : Ends) (u' : Seen) (a : Answer) (o : Option Wire) (most here : ℕ) → v ≡ v0 → is_some v.wire ≡ false → At v0 r → Opens v u' a → Longest v u' most here → o ≡ wire_of a most here
    → Reaches (record { client = u'; server = v.server; wire = o; dropped = v.dropped }) (λ r'. r' ≡ unless_linked r.link r (opens (sides_of v0) r))
opened_again v v0 r u' a o most here shown alone at0 b l wire =
    let at = subst (λ (x : Wires). At x r) (sym shown) at0 in
    subst (λ (x : Wires). Reaches (record { client = u'; server = v.server; wire = o; dropped = v.dropped }) (λ r'. r' ≡ unless_linked r.link r (opens (sides_of x) r))) shown
    (opened_here v r u' a o most here (alone_by v.wire v r alone at.wire) at b l wire)
