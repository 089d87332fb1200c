-- From line to line, and what one line does many times.
use Rattle.std.proofs.Common.{◌≡◌, ◌≤◌, ◌<◌, ◌+◌, ◌-◌, ◌||◌, inl, inr, ℕ, suc, Bool, true, false, refl, ap, subst, sym, ◌∙◌, arith}
use Rattle.rs_wire.specs.declared.words.Side.{Side}
use Rattle.rs_wire.specs.declared.settings.Settings.{Settings}
use Rattle.rs_wire.specs.declared.call.Call.{Call}
use Rattle.session_core.specs.Seen.{Seen}
use Rattle.cable.specs.declared.TheConstants.{MOST_ROUNDS}
use Rattle.cable.specs.declared.carrying.Most.TheVariants as most
use Rattle.cable.specs.Played.{Downs, Drains, Ends, Round, Sides, Ups, asks, asks_often, moved}
use Rattle.cable.specs.Wires.{At, IsAt, IsMoved, Keeps, Reaches, Wires, sides_of}
use Rattle.cable.proofs.Drawing.{same_trans}
use Rattle.cable.proofs.Moving.{grew_twice}

pub keeps_none : (v : Wires) → Keeps v v
keeps_none v = record { client = refl; server = refl }

pub keeps_on : (u v w : Wires) → Keeps u v → Keeps v w → Keeps u w
keeps_on u v w h k = record { client = same_trans u.client v.client w.client h.client k.client; server = same_trans u.server v.server w.server h.server k.server }

pub sides_kept : (v w : Wires) → Keeps v w → sides_of w ≡ sides_of v
sides_kept v w k =
    ap (λ (g : Settings). record { client = g; server = w.server.settings }) (ap (λ (u : Seen). u.settings) k.client) ∙ ap (λ (h : Settings). record { client = v.client.settings; server = h }) (ap (λ (u : Seen). u.settings) k.server)

pub first_holds : (w : Wires) (P Q : Ends → Type 0) → Reaches w (λ r. P r × Q r) → Reaches w P
first_holds w P Q b = record { ends = b.ends; at = b.at; holds = b.holds.0 }

-- ---- a call that is made often

-- the calls that are left make of these what all make of those at first
abbrev pub AreCallsLeft : ℕ → ℕ → Sides → Side → Call → Ends → Ends → Type 0
AreCallsLeft n i s side c r now = asks_often (n - i) s side c now ≡ asks_often n s side c r

pub often_begins : (n : ℕ) (s : Sides) (side : Side) (c : Call) (v : Wires) (r : Ends) → At v r → Reaches v (AreCallsLeft n 0 s side c r)
often_begins n s side c v r at =
    let all : n - 0 ≡ n = omega arith in
    record { ends = r; at = at; holds = ap (λ (k : ℕ). asks_often k s side c r) all }

asked_once : (n : ℕ) (s : Sides) (side : Side) (c : Call) (r : Ends) → asks_often (suc n) s side c r ≡ asks_often n s side c (asks s side c r)
unfolding asks_often
asked_once n s side c r = refl

pub often_on : (n i : ℕ) (s : Sides) (side : Side) (c : Call) (v w : Wires) (r : Ends) → i < n → (b : Reaches v (AreCallsLeft n i s side c r)) → Reaches w (λ r'. r' ≡ asks s side c b.ends) → Reaches w (AreCallsLeft n (i + 1) s side c r)
often_on n i s side c v w r below b one =
    let step : n - i ≡ suc (n - (i + 1)) = omega (arith, below) in
    let more : asks_often (n - i) s side c b.ends ≡ asks_often (n - (i + 1)) s side c (asks s side c b.ends) = ap (λ (k : ℕ). asks_often k s side c b.ends) step ∙ asked_once (n - (i + 1)) s side c b.ends in
    record { ends = one.ends; at = one.at; holds = ap (asks_often (n - (i + 1)) s side c) one.holds ∙ (sym more ∙ b.holds) }

asked_none : (s : Sides) (side : Side) (c : Call) (r : Ends) → asks_often 0 s side c r ≡ r
unfolding asks_often
asked_none s side c r = refl

pub often_ends : (n i : ℕ) (s : Sides) (side : Side) (c : Call) (v : Wires) (r : Ends) → n ≤ i → Reaches v (AreCallsLeft n i s side c r) → Reaches v (λ r'. r' ≡ asks_often n s side c r)
often_ends n i s side c v r past b =
    let none : n - i ≡ 0 = omega (arith, past) in
    record { ends = b.ends; at = b.at; holds = sym (asked_none s side c b.ends) ∙ (ap (λ (k : ℕ). asks_often k s side c b.ends) (sym none) ∙ b.holds) }

-- ---- a round, and a drain

pub still_at : (v w : Wires) (Holds : Ends → Ends → Type 0) → IsAt v → ((r : Ends) → At v r → Reaches w (Holds r)) → IsAt w
still_at v w Holds i h = let b = h i.0 i.1 in (b.ends, b.at)

pub round_played : (s : Sides) (v w : Wires) (r : Ends) (a b : Bool) → Reaches v (λ r'. Ups s most.All r r' × IsMoved a r r') → ((between : Ends) → At v between → Reaches w (λ r'. Downs s most.All between r' × IsMoved b between r')) → Reaches w (λ r'. Round s r r' × IsMoved (a || b) r r')
round_played s v w r a b up down =
    let d = down up.ends up.at in
    record { ends = d.ends; at = d.at; holds = ((up.ends, up.holds.0, d.holds.0), grew_twice a b (moved r) (moved up.ends) (moved d.ends) up.holds.1 d.holds.1) }

-- what the rounds that are left make of these, all rounds make of those at first
abbrev pub IsLeft : ℕ → Sides → Ends → Ends → Type 0
IsLeft i s r now = (r' : Ends) → Drains (MOST_ROUNDS - i) s now r' → Drains MOST_ROUNDS s r r'

pub drain_begins : (s : Sides) (v : Wires) (r : Ends) → At v r → Reaches v (IsLeft 0 s r)
drain_begins s v r at = record { ends = r; at = at; holds = λ r' d. d }

drains_more : (n : ℕ) (s : Sides) (r between r' : Ends) → Round s r between → moved r < moved between → Drains n s between r' → Drains (suc n) s r r'
unfolding Drains
drains_more n s r between r' round more d = (between, round, inr (λ same. absurd (omega (arith, same, more)), d))

drains_last : (n : ℕ) (s : Sides) (r between : Ends) → Round s r between → moved between ≡ moved r → Drains (suc n) s r between
unfolding Drains
drains_last n s r between round same = (between, round, inl (same, refl))

drains_none : (s : Sides) (r : Ends) → Drains 0 s r r
unfolding Drains
drains_none s r = refl

pub drain_on : (s : Sides) (v w : Wires) (r : Ends) (i : ℕ) → i < MOST_ROUNDS → Reaches v (IsLeft i s r) → ((now : Ends) → At v now → Reaches w (λ r'. Round s now r' × IsMoved true now r')) → Reaches w (IsLeft (i + 1) s r)
drain_on s v w r i below b round =
    let d = round b.ends b.at in
    let step : suc (MOST_ROUNDS - (i + 1)) ≡ MOST_ROUNDS - i = omega (arith, below) in
    record { ends = d.ends; at = d.at; holds = λ r' more. b.holds r' (subst (λ (k : ℕ). Drains k s b.ends r') step (drains_more (MOST_ROUNDS - (i + 1)) s b.ends d.ends r' d.holds.0 d.holds.1 more)) }

pub drain_stops : (s : Sides) (v w : Wires) (r : Ends) (i : ℕ) → i < MOST_ROUNDS → Reaches v (IsLeft i s r) → ((now : Ends) → At v now → Reaches w (λ r'. Round s now r' × IsMoved false now r')) → Reaches w (Drains MOST_ROUNDS s r)
drain_stops s v w r i below b round =
    let d = round b.ends b.at in
    let step : suc (MOST_ROUNDS - (i + 1)) ≡ MOST_ROUNDS - i = omega (arith, below) in
    record { ends = d.ends; at = d.at; holds = b.holds d.ends (subst (λ (k : ℕ). Drains k s b.ends d.ends) step (drains_last (MOST_ROUNDS - (i + 1)) s b.ends d.ends d.holds.0 d.holds.1)) }

pub drain_ends : (s : Sides) (v : Wires) (r : Ends) (i : ℕ) → MOST_ROUNDS ≤ i → Reaches v (IsLeft i s r) → Reaches v (Drains MOST_ROUNDS s r)
drain_ends s v r i past b =
    let none : 0 ≡ MOST_ROUNDS - i = omega (arith, past) in
    record { ends = b.ends; at = b.at; holds = b.holds b.ends (subst (λ (k : ℕ). Drains k s b.ends b.ends) none (drains_none s b.ends)) }
