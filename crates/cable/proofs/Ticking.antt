-- A moment, at both ends.
use Rattle.std.proofs.lemmas.Grind.{common_steps}
use Rattle.std.proofs.Common.{◌≡◌, ℕ, Bool, cond, List, ◌∷◌, ap, subst, sym, ◌∙◌, arith}
use Rattle.rs_wire.specs.declared.words.Side.TheVariants.{Client, Server}
use Rattle.rs_wire.specs.declared.settings.Settings.{Settings}
use Rattle.tape.specs.Answers.{leaves}
use Rattle.tape.specs.declared.event.Event.TheVariants as event
use Rattle.tape.specs.declared.entry.Entry.{Entry}
use Rattle.session_model.specs.Frames.{drawn}
use Rattle.session_model.specs.Legal.{Fair, Legal}
use Rattle.session_model.specs.Answers.{answer_to}
use Rattle.session_core.specs.Seen.{Seen}
use Rattle.cable.specs.Played.{Ends, adds, answered, ticks, with_client, with_server}
use Rattle.cable.specs.Wires.{At, Reaches, Wires, sides_of}
use Rattle.cable.proofs.Followed.{StandsBy, client_at, end_on, server_at, stays_by}
use Rattle.cable.proofs.Grows.{tick_quiet}

no_draws : (g : Settings) (past : List Entry) (now c : ℕ) (b : Bool) → drawn (cond b (answered g past (event.Tick now) ∷ past) past) c ≡ drawn past c
unfolding drawn
no_draws g past now c b = grind (arith, common_steps)

ticked_by : (v v' : Seen) (now : ℕ) → v'.entries ≡ adds v.settings v.entries (event.Tick now) → StandsBy v.settings v.entries v'.entries
ticked_by v v' now is =
    let b = leaves (answer_to v.settings v.entries (event.Tick now)) in
    let q = tick_quiet v.settings v.entries now b in
    subst (StandsBy v.settings v.entries) (sym is) (record { quiet = q.0; goes = q.1; drawn_are = λ c. no_draws v.settings v.entries now c b })

ticked_here : (v : Wires) (r : Ends) (now : ℕ) (u' s' : Seen) → At v r → Legal u'.settings u'.entries → Fair u'.settings u'.entries → Legal s'.settings s'.entries → Fair s'.settings s'.entries → u' ≡ record v.client { entries = u'.entries; spare = u'.spare } → s' ≡ record v.server { entries = s'.entries; spare = s'.spare }
    → u'.entries ≡ adds v.client.settings v.client.entries (event.Tick now) → s'.entries ≡ adds v.server.settings v.server.entries (event.Tick now) → Reaches (record v { client = u'; server = s' }) (λ r'. r' ≡ ticks (sides_of v) now r)
ticked_here v r now u' s' at legal fair slegal sfair same kept is there =
    let between = with_client r u'.entries in
    let first = client_at v r u' at (end_on Client v.client u' same legal fair at.client_is) same (ticked_by v.client u' now is) in
    record {
      ends = with_server between s'.entries;
      at = server_at (record v { client = u' }) between s' first (end_on Server v.server s' kept slegal sfair at.server_is) kept (stays_by between v.server s' (ticked_by v.server s' now there));
      holds = ap (λ (C : List Entry). with_server (with_client r C) s'.entries) (is ∙ ap (λ (C : List Entry). adds v.client.settings C (event.Tick now)) (sym at.client))
          ∙ ap (λ (S : List Entry). with_server (with_client r (adds v.client.settings r.client (event.Tick now))) S) (there ∙ ap (λ (S : List Entry). adds v.server.settings S (event.Tick now)) (sym at.server));
    }

-- at the value that a cable shows
pub ticked : (v v0 : Wires) (r : Ends) (now : ℕ) (u' s' : Seen) → v ≡ v0 → At v0 r → Legal u'.settings u'.entries → Fair u'.settings u'.entries → Legal s'.settings s'.entries → Fair s'.settings s'.entries → u' ≡ record v.client { entries = u'.entries; spare = u'.spare } → s' ≡ record v.server { entries = s'.entries; spare = s'.spare }
    → u'.entries ≡ adds v.client.settings v.client.entries (event.Tick now) → s'.entries ≡ adds v.server.settings v.server.entries (event.Tick now) → Reaches (record v { client = u'; server = s' }) (λ r'. r' ≡ ticks (sides_of v0) now r)
ticked v v0 r now u' s' shown at0 legal fair slegal sfair same kept is there =
    subst (λ (x : Wires). Reaches (record v { client = u'; server = s' }) (λ r'. r' ≡ ticks (sides_of x) now r)) shown (ticked_here v r now u' s' (subst (λ (x : Wires). At x r) (sym shown) at0) legal fair slegal sfair same kept is there)
