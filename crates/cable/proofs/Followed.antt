-- The ends that a cable follows, line by line.
use Rattle.std.proofs.lemmas.Grind.{common_steps}
use Rattle.std.proofs.Common.{◌≡◌, ◌≤◌, ◌+◌, ◌-◌, ◌||◌, ℕ, Bool, false, cond, List, [], ◌∷◌, ◌++◌, length, take, Option, Some, None, refl, ap, subst, sym, ◌∙◌, arith, append-nil}
use Rattle.rs_wire.specs.declared.words.Side.{Side}
use Rattle.rs_wire.specs.declared.words.Side.TheVariants.{Client, Server}
use Rattle.rs_wire.specs.declared.settings.Settings.{Settings}
use Rattle.rs_wire.specs.declared.call.Call.{Call}
use Rattle.rs_wire.specs.declared.call.Call.TheVariants as call
use Rattle.rs_wire.specs.Calls.{CanBeAsked}
use Rattle.rs_wire.specs.Settings.{IsChecked}
use Rattle.rs_frame.specs.Framed.{framed_all}
use Rattle.rs_chunk.specs.Rest.{Rest}
use Rattle.tape.specs.declared.event.Event.TheVariants as event
use Rattle.tape.specs.declared.entry.Entry.{Entry}
use Rattle.tape.specs.Answers.{leaves}
use Rattle.session_model.specs.Life.{is_live, live, openings}
use Rattle.session_model.specs.Frames.{drawn, due, given}
use Rattle.session_model.specs.Legal.{Fair, Legal}
use Rattle.session_model.specs.Joined.{refused}
use Rattle.session_model.specs.Answers.{answer_to}
use Rattle.session_core.specs.Seen.{Seen}
use Rattle.session_model.proofs.Queue.{drawn_le}
use Rattle.session_laws.proofs.Spelled.{due_spelled}
use Rattle.cable.specs.declared.wire.Wire.{Wire}
use Rattle.cable.specs.declared.carrying.Most.{Most}
use Rattle.cable.specs.declared.hearing.Crossing.{Crossing}
use Rattle.cable.specs.Played.{CarriesDown, CarriesUp, Downs, Draws, Ends, Link, OnLink, Sides, There, Ups, adds, answered, arrivals, arrives_up, asks, at_most, bytes_down, frames_down, gave, hears, hears_down, moved, with_client, with_server}
use Rattle.cable.specs.Played.{Gives as GivesDown}
use Rattle.cable.specs.Hearing.{Carried, CrossedTo, Crosses, IsHearer}
use Rattle.cable_script.specs.Line.{IsSayable}
use Rattle.cable.specs.Wires.{Arrives, At, ClientAt, Gave, IsLost, IsMoved, IsCheckedEnd, LinkAt, Reaches, ServerAt, WireAt, Wires, sides_of}
use Rattle.cable.proofs.Grows.{Goes, Quiet, added_quiet, drew_where, hears_on}
use Rattle.cable.proofs.Lost.{arrives_dropped, lost_arrives, lost_as, lost_gave, lost_more}
use Rattle.cable.proofs.Moving.{Gives, Keeps as KeepsDown, arrives_keeps, gives_crosses, grew_or, kept_on, moved_on_link, nothing_fed}
use Rattle.cable.proofs.Sending.{crosses_quiet, drew_arrivals, hears_drawn, still_given}
use Rattle.cable.proofs.Wiring.{Sent, fed, knows_quiet, server_more, settings_of}

-- ---- an end

pub end_on : (side : Side) (v v' : Seen) → v' ≡ record v { entries = v'.entries; spare = v'.spare } → Legal v'.settings v'.entries → Fair v'.settings v'.entries → IsCheckedEnd side v → IsCheckedEnd side v'
end_on side v v' same legal fair h = record {
  side_is = ap (λ (g : Settings). g.side) (settings_of v v' same) ∙ h.side_is;
  checked = subst IsChecked (sym (settings_of v v' same)) h.checked;
  legal = legal;
  fair = fair;
}

-- under the settings from before
pub legal_there : (side : Side) (v v' : Seen) → v' ≡ record v { entries = v'.entries; spare = v'.spare } → IsCheckedEnd side v' → Legal v.settings v'.entries
legal_there side v v' same h = subst (λ (g : Settings). Legal g v'.entries) (settings_of v v' same) h.legal

pub fair_there : (side : Side) (v v' : Seen) → v' ≡ record v { entries = v'.entries; spare = v'.spare } → IsCheckedEnd side v' → Fair v.settings v'.entries
fair_there side v v' same h = subst (λ (g : Settings). Fair g v'.entries) (settings_of v v' same) h.fair

-- what is due at the client went on, and it gave this piece
sent_by : (v u' : Seen) (c : ℕ) (piece : List ℕ) → u' ≡ record v { entries = u'.entries; spare = u'.spare } → IsCheckedEnd Client v → IsCheckedEnd Client u' → Goes v.settings v.entries u'.entries → given v.settings u'.entries c ≡ given v.settings v.entries c ++ piece → Sent v.settings c v.entries u'.entries piece
sent_by v u' c piece same before after goes gave = record {
  sends = goes.sends c;
  spelled = due_spelled v.settings u'.entries c before.checked (legal_there Client v u' same after) (fair_there Client v u' same after);
  gave = gave;
}

-- ---- an end goes on, and nothing comes at it or is drawn

pub record StandsBy (g : Settings) (past past' : List Entry) : Type 0 where
  pub quiet : Quiet past past'
  pub goes : Goes g past past'
  pub drawn_are : (c : ℕ) → drawn past' c ≡ drawn past c

client_link : (v : Wires) (r : Ends) (w : Wire) (u' : Seen) → u' ≡ record v.client { entries = u'.entries; spare = u'.spare } → r.client ≡ v.client.entries → IsCheckedEnd Client v.client → IsCheckedEnd Client u' → StandsBy v.client.settings v.client.entries u'.entries → LinkAt w v r → LinkAt w (record v { client = u' }) (with_client r u'.entries)
client_link v r w u' same client before after q h =
    let g = v.client.settings in
    let gs : u'.settings ≡ g = settings_of v.client u' same in
    let sent : Sent g w.client r.client u'.entries [] = subst (λ (l : List Entry). Sent g w.client l u'.entries []) (sym client)
    (sent_by v.client u' w.client [] same before after q.goes (still_given g w.client v.client.entries u'.entries (q.goes.sends w.client) (q.drawn_are w.client) (drawn_le g v.client.entries w.client before.legal))) in
    record {
      there = h.there;
      up = subst (λ (k : Settings). ServerAt k (with_client r u'.entries) h.there v.server w) (sym gs) (server_more g r u'.entries h.there v.server w w.up.rest [] sent (nothing_fed w.up.rest) h.up);
      down = subst (λ (k : Settings). CrossedTo k w.client (bytes_down h.there v.server.entries) (frames_down v.server.settings h.there v.server.entries) u'.entries w.down.rest w.down.over) (sym gs)
          (crosses_quiet g w.client (bytes_down h.there v.server.entries) (frames_down v.server.settings h.there v.server.entries) v.client.entries u'.entries w.down.rest w.down.over q.quiet h.down);
    }

client_wire : (o : Option Wire) (v : Wires) (r : Ends) (u' : Seen) → u' ≡ record v.client { entries = u'.entries; spare = u'.spare } → r.client ≡ v.client.entries → IsCheckedEnd Client v.client → IsCheckedEnd Client u' → StandsBy v.client.settings v.client.entries u'.entries → WireAt o v r → WireAt o (record v { client = u' }) (with_client r u'.entries)
client_wire None v r u' same client before after q h = h
client_wire (Some w) v r u' same client before after q h = client_link v r w u' same client before after q h

pub client_at : (v : Wires) (r : Ends) (u' : Seen) → At v r → IsCheckedEnd Client u' → u' ≡ record v.client { entries = u'.entries; spare = u'.spare } → StandsBy v.client.settings v.client.entries u'.entries → At (record v { client = u' }) (with_client r u'.entries)
client_at v r u' at after same q = record { client_is = after; server_is = at.server_is; client = refl; server = at.server; wire = client_wire v.wire v r u' same at.client at.client_is after q at.wire; dropped = at.dropped; lost = at.lost }

-- nothing comes at the server, and it gives nothing on the connection that joins the ends
pub record StaysBy (r : Ends) (v s' : Seen) : Type 0 where
  pub quiet : Quiet v.entries s'.entries
  pub goes : Goes v.settings v.entries s'.entries
  pub still : (c : ℕ) (t : There) → r.link ≡ Some (record { client = c; there = t }) → bytes_down t s'.entries ≡ bytes_down t v.entries

bytes_still : (t : There) (S S' : List Entry) → ((c : ℕ) → drawn S' c ≡ drawn S c) → bytes_down t S' ≡ bytes_down t S
bytes_still There.Nowhere S S' same = refl
bytes_still (There.Accepted d) S S' same = same d
bytes_still (There.Refused d n) S S' same = refl

pub stays_by : (r : Ends) (v s' : Seen) → StandsBy v.settings v.entries s'.entries → StaysBy r v s'
stays_by r v s' q = record { quiet = q.quiet; goes = q.goes; still = λ c t is. bytes_still t v.entries s'.entries q.drawn_are }

server_link : (v : Wires) (r : Ends) (w : Wire) (s' : Seen) → s' ≡ record v.server { entries = s'.entries; spare = s'.spare } → IsCheckedEnd Server v.server → IsCheckedEnd Server s' → StaysBy r v.server s' → LinkAt w v r → LinkAt w (record v { server = s' }) (with_server r s'.entries)
server_link v r w s' same before after q h =
    let k = v.server.settings in
    let ks : s'.settings ≡ k = settings_of v.server s' same in
    let kept = kept_on k h.there v.server.entries s'.entries before.legal q.goes q.quiet.refused_are (q.still w.client h.there h.up.link) in
    record {
      there = h.there;
      up = record { server = refl; link = h.up.link; number = h.up.number; knows = knows_quiet h.there w.known (drawn r.client w.client) (due v.client.settings r.client w.client) v.server s' w.up ks q.quiet h.up.knows };
      down = subst (λ (g : Settings). CrossedTo v.client.settings w.client (bytes_down h.there s'.entries) (frames_down g h.there s'.entries) v.client.entries w.down.rest w.down.over) (sym ks)
          (gives_crosses v.client.settings k w.client h.there h.there v.client.entries v.server.entries s'.entries w.down.rest w.down.rest w.down.over [] before.checked (legal_there Server v.server s' same after) (fair_there Server v.server s' same after) kept.gives (nothing_fed w.down.rest) h.down);
    }

server_wire : (o : Option Wire) (v : Wires) (r : Ends) (s' : Seen) → s' ≡ record v.server { entries = s'.entries; spare = s'.spare } → IsCheckedEnd Server v.server → IsCheckedEnd Server s' → StaysBy r v.server s' → WireAt o v r → WireAt o (record v { server = s' }) (with_server r s'.entries)
server_wire None v r s' same before after q h = h
server_wire (Some w) v r s' same before after q h = server_link v r w s' same before after q h

pub server_at : (v : Wires) (r : Ends) (s' : Seen) → At v r → IsCheckedEnd Server s' → s' ≡ record v.server { entries = s'.entries; spare = s'.spare } → StaysBy r v.server s' → At (record v { server = s' }) (with_server r s'.entries)
server_at v r s' at after same q =
    let most : openings r.server ≤ openings s'.entries = omega (arith, q.quiet.openings_are, ap openings at.server) in
    record {
      client_is = at.client_is;
      server_is = after;
      client = at.client;
      server = refl;
      wire = server_wire v.wire v r s' same at.server_is after q at.wire;
      dropped = at.dropped;
      lost = lost_as v.dropped r.server s'.entries r.link r.link (λ d. lost_more r.server s'.entries r.link d most) at.lost;
    }

-- ---- a call

no_draws : (g : Settings) (past : List Entry) (asked : Call) (c : ℕ) (b : Bool) → drawn (cond b (answered g past (event.Asked asked) ∷ past) past) c ≡ drawn past c
unfolding drawn
no_draws g past asked c b = grind (arith, common_steps)

asked_by : (v u' : Seen) (asked : Call) → u'.entries ≡ adds v.settings v.entries (event.Asked asked) → StandsBy v.settings v.entries u'.entries
asked_by v u' asked now =
    let b = leaves (answer_to v.settings v.entries (event.Asked asked)) in
    let q = added_quiet v.settings v.entries asked b in
    subst (StandsBy v.settings v.entries) (sym now) (record { quiet = q.0; goes = q.1; drawn_are = λ c. no_draws v.settings v.entries asked c b })

-- what a script says can be asked
pub askable : (c : Call) → IsSayable c → CanBeAsked c
askable (call.Request k i m x) h = (h.0, h.2)
askable (call.Next stream m x) h = tt
askable (call.Done stream) h = tt
askable (call.Grant stream n) h = tt
askable (call.Cancel stream) h = tt
askable (call.Fail stream code content) h = h.1
askable (call.Push metadata) h = tt
askable (call.Lease ttl count metadata) h = tt
askable (call.Take stream) h = tt
askable call.TakeJob h = tt
askable call.Close h = tt

-- a call, at the value that a cable shows
pub client_called : (v v0 : Wires) (r : Ends) (u' : Seen) (side : Side) (asked : Call) → v ≡ v0 → side ≡ Client → At v0 r → Legal u'.settings u'.entries → Fair u'.settings u'.entries → u' ≡ record v.client { entries = u'.entries; spare = u'.spare } → u'.entries ≡ adds v.client.settings v.client.entries (event.Asked asked)
    → Reaches (record v { client = u' }) (λ r'. r' ≡ asks (sides_of v0) side asked r)
client_called v v0 r u' side asked shown is at0 legal fair same now =
    let at = subst (λ (x : Wires). At x r) (sym shown) at0 in
    subst (λ (x : Wires). Reaches (record v { client = u' }) (λ r'. r' ≡ asks (sides_of x) side asked r)) shown
    (subst (λ (y : Side). Reaches (record v { client = u' }) (λ r'. r' ≡ asks (sides_of v) y asked r)) (sym is)
    (record {
      ends = with_client r u'.entries;
      at = client_at v r u' at (end_on Client v.client u' same legal fair at.client_is) same (asked_by v.client u' asked now);
      holds = ap (with_client r) (now ∙ ap (λ (l : List Entry). adds v.client.settings l (event.Asked asked)) (sym at.client));
    }))

pub server_called : (v v0 : Wires) (r : Ends) (s' : Seen) (side : Side) (asked : Call) → v ≡ v0 → side ≡ Server → At v0 r → Legal s'.settings s'.entries → Fair s'.settings s'.entries → s' ≡ record v.server { entries = s'.entries; spare = s'.spare } → s'.entries ≡ adds v.server.settings v.server.entries (event.Asked asked)
    → Reaches (record v { server = s' }) (λ r'. r' ≡ asks (sides_of v0) side asked r)
server_called v v0 r s' side asked shown is at0 legal fair same now =
    let at = subst (λ (x : Wires). At x r) (sym shown) at0 in
    subst (λ (x : Wires). Reaches (record v { server = s' }) (λ r'. r' ≡ asks (sides_of x) side asked r)) shown
    (subst (λ (y : Side). Reaches (record v { server = s' }) (λ r'. r' ≡ asks (sides_of v) y asked r)) (sym is)
    (record {
      ends = with_server r s'.entries;
      at = server_at v r s' at (end_on Server v.server s' same legal fair at.server_is) same (stays_by r v.server s' (asked_by v.server s' asked now));
      holds = ap (with_server r) (now ∙ ap (λ (l : List Entry). adds v.server.settings l (event.Asked asked)) (sym at.server));
    }))

-- ---- up

pub link_at : (v : Wires) (r : Ends) (w : Wire) → v.wire ≡ Some w → At v r → LinkAt w v r
link_at v r w is at = subst (λ (o : Option Wire). WireAt o v r) is at.wire

-- a line that looks for a connection finds none, and leaves all as it was
pub still_alone : (v v0 : Wires) (r : Ends) (o : Option Wire) → v ≡ v0 → v.wire ≡ None → o ≡ None → At v0 r → At (record v { wire = o }) r × (r.link ≡ None)
still_alone v v0 r o shown is gone at0 =
    let at = subst (λ (x : Wires). At x r) (sym shown) at0 in
    let none : r.link ≡ None = subst (λ (x : Option Wire). WireAt x v r) is at.wire in (
      record {
        client_is = at.client_is;
        server_is = at.server_is;
        client = at.client;
        server = at.server;
        wire = subst (λ (x : Option Wire). WireAt x (record v { wire = o }) r) (sym gone) none;
        dropped = at.dropped;
        lost = at.lost;
      },
      none,
    )

-- the server before it hears, after the client carried
pub carried_at : (v : Wires) (r : Ends) (m : Most) (w : Wire) (u' : Seen) (rest : Rest) (some : Bool) → (is : v.wire ≡ Some w) → (at : At v r) → Legal u'.settings u'.entries → Fair u'.settings u'.entries → u' ≡ record v.client { entries = u'.entries; spare = u'.spare } → Carried w.client m v.client u' w.up.rest rest some
    → ServerAt v.client.settings (with_client r u'.entries) (link_at v r w is at).there v.server (fed w rest)
carried_at v r m w u' rest some is at legal fair same k =
    let here = link_at v r w is at in
    let g = v.client.settings in
    let went = (drew_where (is_live (live v.client.entries) w.client) g w.client m v.client.entries u'.entries k.draws).1 in
    let after = end_on Client v.client u' same legal fair at.client_is in
    let sent : Sent g w.client r.client u'.entries k.piece = subst (λ (l : List Entry). Sent g w.client l u'.entries k.piece) (sym at.client) (sent_by v.client u' w.client k.piece same at.client_is after went k.gave) in
    server_more g r u'.entries here.there v.server w rest k.piece sent k.crossed here.up

arrives_client : (s : Sides) (c : ℕ) (t : There) (r : Ends) → (arrives_up s c t r).client ≡ r.client
arrives_client s c t r = grind (arith, common_steps)

up_here : (v : Wires) (r : Ends) (m : Most) (w w' : Wire) (u' s' : Seen) (rest : Rest) (a b : Bool) → (is : v.wire ≡ Some w) → (at : At v r) → Legal u'.settings u'.entries → Fair u'.settings u'.entries → Legal s'.settings s'.entries → Fair s'.settings s'.entries → u' ≡ record v.client { entries = u'.entries; spare = u'.spare } → s' ≡ record v.server { entries = s'.entries; spare = s'.spare }
    → Carried w.client m v.client u' w.up.rest rest a → Arrives v.client.settings (with_client r u'.entries) (link_at v r w is at).there v.server s' (fed w rest) w' b → Reaches (record { client = u'; server = s'; wire = Some w'; dropped = v.dropped }) (λ r'. Ups (sides_of v) m r r' × IsMoved (a || b) r r')
up_here v r m w w' u' s' rest a b is at legal fair slegal sfair same kept k h =
    let here = link_at v r w is at in
    let s = sides_of v in
    let c = w.client in
    let r1 = with_client r u'.entries in
    let r' = arrives_up s c here.there r1 in
    let gs : u'.settings ≡ v.client.settings = settings_of v.client u' same in
    let ks : s'.settings ≡ v.server.settings = settings_of v.server s' kept in
    let client_after = end_on Client v.client u' same legal fair at.client_is in
    let server_after = end_on Server v.server s' kept slegal sfair at.server_is in
    let number : w'.client ≡ c = ap (λ (x : Wire). x.client) h.same in
    let down_same : w'.down ≡ w.down = ap (λ (x : Wire). x.down) h.same in
    let link1 : r1.link ≡ Some (record { client = c; there = here.there }) = here.up.link in
    let link2 : r'.link ≡ Some (record { client = c; there = h.there }) = h.at.link ∙ ap (λ (n : ℕ). Some (record { client = n; there = h.there })) number in
    let server_legal : Legal v.server.settings r1.server = subst (Legal v.server.settings) (sym at.server) at.server_is.legal in
    let keeps0 = arrives_keeps s c here.there h.there r1 server_legal link1 link2 in
    let keeps : KeepsDown v.server.settings here.there h.there v.server.entries s'.entries = subst (λ (l : List Entry). KeepsDown v.server.settings here.there h.there l s'.entries) at.server (subst (λ (l : List Entry). KeepsDown v.server.settings here.there h.there r1.server l) h.at.server keeps0) in
    let drew = drew_where (is_live (live v.client.entries) c) v.client.settings c m v.client.entries u'.entries k.draws in
    let quiet_down = crosses_quiet v.client.settings c (bytes_down here.there v.server.entries) (frames_down v.server.settings here.there v.server.entries) v.client.entries u'.entries w.down.rest w.down.over drew.0 here.down in
    let down0 = gives_crosses v.client.settings v.server.settings c here.there h.there u'.entries v.server.entries s'.entries w.down.rest w.down.rest w.down.over [] at.server_is.checked (legal_there Server v.server s' kept server_after) (fair_there Server v.server s' kept server_after) keeps.gives (nothing_fed w.down.rest) quiet_down in
    let down1 : CrossedTo v.client.settings c (bytes_down h.there s'.entries) (frames_down s'.settings h.there s'.entries) u'.entries w.down.rest w.down.over = subst (λ (g : Settings). CrossedTo v.client.settings c (bytes_down h.there s'.entries) (frames_down g h.there s'.entries) u'.entries w.down.rest w.down.over) (sym ks) down0 in
    let down2 : CrossedTo u'.settings c (bytes_down h.there s'.entries) (frames_down s'.settings h.there s'.entries) u'.entries w.down.rest w.down.over = subst (λ (g : Settings). CrossedTo g c (bytes_down h.there s'.entries) (frames_down s'.settings h.there s'.entries) u'.entries w.down.rest w.down.over) (sym gs) down1 in
    let down3 : ClientAt c h.there u' s' w'.down = subst (λ (x : Crossing). ClientAt c h.there u' s' x) (sym down_same) down2 in
    let quiet = drew_arrivals (is_live (live v.client.entries) c) v.client.settings c m v.client.entries u'.entries k.draws in
    let client_is : r'.client ≡ u'.entries = arrives_client s c here.there r1 in
    let before : moved r ≡ (drawn v.client.entries c + bytes_down here.there v.server.entries) + (arrivals v.client.entries + arrivals v.server.entries) =
    moved_on_link r c here.there here.up.link ∙ (ap (λ (l : List Entry). (drawn l c + bytes_down here.there r.server) + (arrivals l + arrivals r.server)) at.client ∙ ap (λ (l : List Entry). (drawn v.client.entries c + bytes_down here.there l) + (arrivals v.client.entries + arrivals l)) at.server) in
    let after : moved r' ≡ (drawn u'.entries c + bytes_down h.there s'.entries) + (arrivals u'.entries + arrivals s'.entries) =
    moved_on_link r' c h.there link2 ∙ (ap (λ (l : List Entry). (drawn l c + bytes_down h.there r'.server) + (arrivals l + arrivals r'.server)) client_is ∙ ap (λ (l : List Entry). (drawn u'.entries c + bytes_down h.there l) + (arrivals u'.entries + arrivals l)) h.at.server) in
    record {
      ends = r';
      at = record {
        client_is = client_after;
        server_is = server_after;
        client = client_is;
        server = h.at.server;
        wire = record {
          there = h.there;
          up = subst (λ (g : Settings). ServerAt g r' h.there s' w') (sym gs) h.at;
          down = subst (λ (n : ℕ). ClientAt n h.there u' s' w'.down) (sym number) down3;
        };
        dropped = arrives_dropped s c here.there r1 ∙ at.dropped;
        lost = lost_as v.dropped r.server r'.server r.link r'.link (λ d. lost_arrives s c here.there r1 d) at.lost;
      };
      holds = (
        subst (λ (o : Option Link). OnLink o r r' (λ l. CarriesUp s m l r r')) (sym here.up.link) (u'.entries, subst (λ (C : List Entry). Draws v.client.settings c m C u'.entries) (sym at.client) k.draws, refl),
        grew_or a b (drawn v.client.entries c) (drawn u'.entries c) (arrivals v.server.entries) (arrivals s'.entries) (bytes_down here.there v.server.entries + arrivals v.client.entries) (moved r) (moved r') k.grew h.grew (omega (arith, before)) (omega (arith, after, keeps.same, quiet)),
      );
    }

abbrev UpTo : Wires → Wires → Most → Ends → Bool → Type 0
UpTo w v m r some = Reaches w (λ r'. Ups (sides_of v) m r r' × IsMoved some r r')

-- a carrying line was played, at the value that a cable shows
pub up_played : (v v0 : Wires) (r : Ends) (m : Most) (w w' : Wire) (u' s' : Seen) (rest : Rest) (a b some : Bool) → v ≡ v0 → some ≡ (a || b) → (is : v.wire ≡ Some w) → (at : At v r) → Legal u'.settings u'.entries → Fair u'.settings u'.entries → Legal s'.settings s'.entries → Fair s'.settings s'.entries → u' ≡ record v.client { entries = u'.entries; spare = u'.spare } → s' ≡ record v.server { entries = s'.entries; spare = s'.spare }
    → Carried w.client m v.client u' w.up.rest rest a → Arrives v.client.settings (with_client r u'.entries) (link_at v r w is at).there v.server s' (fed w rest) w' b → Reaches (record { client = u'; server = s'; wire = Some w'; dropped = v.dropped }) (λ r'. Ups (sides_of v0) m r r' × IsMoved some r r')
up_played v v0 r m w w' u' s' rest a b some shown flag is at legal fair slegal sfair same kept k h =
    subst (λ (x : Wires). UpTo (record { client = u'; server = s'; wire = Some w'; dropped = v.dropped }) x m r some) shown (subst (λ (y : Bool). UpTo (record { client = u'; server = s'; wire = Some w'; dropped = v.dropped }) v m r y) (sym flag) (up_here v r m w w' u' s' rest a b is at legal fair slegal sfair same kept k h))

pub up_nowhere : (v v0 : Wires) (r : Ends) (m : Most) (o : Option Wire) → v ≡ v0 → v.wire ≡ None → o ≡ None → At v0 r → Reaches (record v { wire = o }) (λ r'. Ups (sides_of v0) m r r' × IsMoved false r r')
up_nowhere v v0 r m o shown is gone at0 =
    let k = still_alone v v0 r o shown is gone at0 in
    record { ends = r; at = k.0; holds = (subst (λ (x : Option Link). OnLink x r r (λ l. CarriesUp (sides_of v0) m l r r)) (sym k.1) refl, refl) }

-- ---- down

pub down_nowhere : (v v0 : Wires) (r : Ends) (m : Most) (o : Option Wire) → v ≡ v0 → v.wire ≡ None → o ≡ None → At v0 r → Reaches (record v { wire = o }) (λ r'. Downs (sides_of v0) m r r' × IsMoved false r r')
down_nowhere v v0 r m o shown is gone at0 =
    let k = still_alone v v0 r o shown is gone at0 in
    record { ends = r; at = k.0; holds = (subst (λ (x : Option Link). OnLink x r r (λ l. CarriesDown (sides_of v0) m l r r)) (sym k.1) refl, refl) }

-- the frames of a connection go on as the server gives
gave_gives : (h : Settings) (m : Most) (t t' : There) (S S' : List Entry) (piece : List ℕ) → GivesDown h m t t' S S' → take (bytes_down t' S') (framed_all (frames_down h t' S')) ≡ take (bytes_down t S) (framed_all (frames_down h t S)) ++ piece → Gives h t t' S S' piece
gave_gives h m There.Nowhere t' S S' piece u is =
    subst (λ (x : There). Gives h There.Nowhere x S S' piece) (sym u.0) (record { more = []; frames_are = refl; most = omega arith; gave = subst (λ (x : There). take (bytes_down x S') (framed_all (frames_down h x S')) ≡ [] ++ piece) u.0 is })
gave_gives h m (There.Accepted d) t' S S' piece u is =
    let z = (drew_where _ h d m S S' u.1).1.sends d in
    subst (λ (x : There). Gives h (There.Accepted d) x S S' piece) (sym u.0) (record { more = z.more; frames_are = z.due_is; most = z.drawn_most; gave = subst (λ (x : There). take (bytes_down x S') (framed_all (frames_down h x S')) ≡ take (drawn S d) (framed_all (due h S d)) ++ piece) u.0 is })
gave_gives h m (There.Refused d n) t' S S' piece u is =
    let k = n + at_most m (length (framed_all (refused S d)) - n) in
    subst (λ (x : There). Gives h (There.Refused d n) x S S' piece) (sym u.0) (record { more = []; frames_are = ap (λ (l : List Entry). refused l d) u.1 ∙ sym (append-nil (refused S d)); most = omega arith; gave = subst (λ (x : There). take (bytes_down x S') (framed_all (frames_down h x S')) ≡ take n (framed_all (refused S d)) ++ piece) u.0 is })

gave_arrivals : (h : Settings) (m : Most) (t t' : There) (S S' : List Entry) → GivesDown h m t t' S S' → arrivals S' ≡ arrivals S
gave_arrivals h m There.Nowhere t' S S' u = ap arrivals u.1
gave_arrivals h m (There.Accepted d) t' S S' u = drew_arrivals _ h d m S S' u.1
gave_arrivals h m (There.Refused d n) t' S S' u = ap arrivals u.1

gave_legal : (v v' : Seen) → v' ≡ record v { entries = v'.entries; spare = v'.spare } → IsCheckedEnd Server v' → Legal v.settings v'.entries × Fair v.settings v'.entries
gave_legal v v' same h = (legal_there Server v v' same h, fair_there Server v v' same h)

-- what crossed to the client, after the server gave
pub gave_crosses : (v : Wires) (r : Ends) (m : Most) (w w' : Wire) (s' : Seen) (a : Bool) → (is : v.wire ≡ Some w) → (at : At v r) → Legal s'.settings s'.entries → Fair s'.settings s'.entries → s' ≡ record v.server { entries = s'.entries; spare = s'.spare }
    → (k : Gave m v.client.settings r (link_at v r w is at).there v.server s' w w' a) → Crosses w'.client (bytes_down k.there s'.entries) (frames_down v.server.settings k.there s'.entries) v.client w'.down
gave_crosses v r m w w' s' a is at slegal sfair kept k =
    let here = link_at v r w is at in
    let after = end_on Server v.server s' kept slegal sfair at.server_is in
    let gives = gave_gives v.server.settings m here.there k.there v.server.entries s'.entries k.piece k.gives k.bytes in
    let fed_down : w'.down.rest ≡ record w.down.rest { bytes = w.down.rest.bytes ++ k.piece } = ap (λ (x : Wire). x.down.rest) k.crossed in
    let over : w'.down.over ≡ w.down.over = ap (λ (x : Wire). x.down.over) k.crossed in
    let number : w'.client ≡ w.client = ap (λ (x : Wire). x.client) k.crossed in
    let x = gives_crosses v.client.settings v.server.settings w.client here.there k.there v.client.entries v.server.entries s'.entries w.down.rest w'.down.rest w.down.over k.piece at.server_is.checked (legal_there Server v.server s' kept after) (fair_there Server v.server s' kept after) gives fed_down here.down in
    subst (λ (n : ℕ). CrossedTo v.client.settings n (bytes_down k.there s'.entries) (frames_down v.server.settings k.there s'.entries) v.client.entries w'.down.rest w'.down.over) (sym number)
    (subst (λ (b : Bool). CrossedTo v.client.settings w.client (bytes_down k.there s'.entries) (frames_down v.server.settings k.there s'.entries) v.client.entries w'.down.rest b) (sym over) x)

-- the server knows no more of what the client sends
heard_more : (g : Settings) (r : Ends) (C' : List Entry) (t : There) (v : Seen) (w : Wire) (x : Crossing) → Sent g w.client r.client C' [] → ServerAt g r t v w → ServerAt g (with_client r C') t v (record w { down = x })
heard_more g r C' t v w x sent h =
    let y = server_more g r C' t v w w.up.rest [] sent (nothing_fed w.up.rest) h in
    record { server = y.server; link = y.link; number = y.number; knows = y.knows }

down_here : (v : Wires) (r : Ends) (m : Most) (w w' : Wire) (u' s' : Seen) (x : Crossing) (a b : Bool) → (is : v.wire ≡ Some w) → (at : At v r) → Legal u'.settings u'.entries → Fair u'.settings u'.entries → Legal s'.settings s'.entries → Fair s'.settings s'.entries → u' ≡ record v.client { entries = u'.entries; spare = u'.spare } → s' ≡ record v.server { entries = s'.entries; spare = s'.spare }
    → (k : Gave m v.client.settings r (link_at v r w is at).there v.server s' w w' a) → IsHearer w'.client (bytes_down k.there s'.entries) (frames_down v.server.settings k.there s'.entries) v.client u' x b → Reaches (record { client = u'; server = s'; wire = Some (record w' { down = x }); dropped = v.dropped }) (λ r'. Downs (sides_of v) m r r' × IsMoved (a || b) r r')
down_here v r m w w' u' s' x a b is at legal fair slegal sfair same kept k h =
    let here = link_at v r w is at in
    let s = sides_of v in
    let g = v.client.settings in
    let c = w.client in
    let number : w'.client ≡ c = ap (λ (y : Wire). y.client) k.crossed in
    let n = bytes_down k.there s'.entries in
    let frames = frames_down v.server.settings k.there s'.entries in
    let r1 = gave c k.there s'.entries r in
    let r' = hears_down s c k.there r1 in
    let gs : u'.settings ≡ g = settings_of v.client u' same in
    let ks : s'.settings ≡ v.server.settings = settings_of v.server s' kept in
    let client_after = end_on Client v.client u' same legal fair at.client_is in
    let server_after = end_on Server v.server s' kept slegal sfair at.server_is in
    let heard : u'.entries ≡ hears g c n frames v.client.entries = h.entries ∙ ap (λ (i : ℕ). hears g i n frames v.client.entries) number in
    let client_is : r'.client ≡ u'.entries = ap (λ (l : List Entry). hears g c n frames l) at.client ∙ sym heard in
    let goes = (hears_on g c n frames v.client.entries).goes in
    let went : Goes g v.client.entries u'.entries = subst (Goes g v.client.entries) (sym heard) goes in
    let undrawn : (e : ℕ) → drawn u'.entries e ≡ drawn v.client.entries e = λ e. ap (λ (l : List Entry). drawn l e) heard ∙ hears_drawn g c e n frames v.client.entries in
    let sent0 = sent_by v.client u' w'.client [] same at.client_is client_after went (still_given g w'.client v.client.entries u'.entries (went.sends w'.client) (undrawn w'.client) (drawn_le g v.client.entries w'.client at.client_is.legal)) in
    let sent : Sent g w'.client r1.client u'.entries [] = subst (λ (l : List Entry). Sent g w'.client l u'.entries []) (sym at.client) sent0 in
    let up0 = heard_more g r1 u'.entries k.there s' w' x sent k.at in
    let up1 : ServerAt g r' k.there s' (record w' { down = x }) = subst (λ (l : List Entry). ServerAt g (with_client r1 l) k.there s' (record w' { down = x })) (sym client_is) up0 in
    let up2 : ServerAt u'.settings r' k.there s' (record w' { down = x }) = subst (λ (q : Settings). ServerAt q r' k.there s' (record w' { down = x })) (sym gs) up1 in
    let down0 : CrossedTo g w'.client n (frames_down s'.settings k.there s'.entries) u'.entries x.rest x.over = subst (λ (q : Settings). CrossedTo g w'.client n (frames_down q k.there s'.entries) u'.entries x.rest x.over) (sym ks) h.crosses in
    let down1 : ClientAt w'.client k.there u' s' x = subst (λ (q : Settings). CrossedTo q w'.client n (frames_down s'.settings k.there s'.entries) u'.entries x.rest x.over) (sym gs) down0 in
    let given : GivesDown v.server.settings m here.there k.there r.server s'.entries = subst (λ (S : List Entry). GivesDown v.server.settings m here.there k.there S s'.entries) (sym at.server) k.gives in
    let quiet = gave_arrivals v.server.settings m here.there k.there v.server.entries s'.entries k.gives in
    let before : moved r ≡ (drawn v.client.entries c + bytes_down here.there v.server.entries) + (arrivals v.client.entries + arrivals v.server.entries) =
    moved_on_link r c here.there here.up.link ∙ (ap (λ (l : List Entry). (drawn l c + bytes_down here.there r.server) + (arrivals l + arrivals r.server)) at.client ∙ ap (λ (l : List Entry). (drawn v.client.entries c + bytes_down here.there l) + (arrivals v.client.entries + arrivals l)) at.server) in
    let after : moved r' ≡ (drawn u'.entries c + n) + (arrivals u'.entries + arrivals s'.entries) =
    moved_on_link r' c k.there refl ∙ ap (λ (l : List Entry). (drawn l c + n) + (arrivals l + arrivals s'.entries)) client_is in
    record {
      ends = r';
      at = record {
        client_is = client_after;
        server_is = server_after;
        client = client_is;
        server = refl;
        wire = record { there = k.there; up = up2; down = down1 };
        dropped = at.dropped;
        lost = lost_as v.dropped r.server s'.entries r.link r'.link (λ d l. lost_gave v.server.settings m here.there k.there r.server s'.entries c d given (subst (λ (o : Option Link). IsLost r.server o d) here.up.link l)) at.lost;
      };
      holds = (
        subst (λ (o : Option Link). OnLink o r r' (λ l. CarriesDown s m l r r')) (sym here.up.link)
            (k.there, s'.entries, given, refl),
        grew_or a b (bytes_down here.there v.server.entries) n (arrivals v.client.entries) (arrivals u'.entries) (drawn v.client.entries c + arrivals v.server.entries) (moved r) (moved r') k.grew h.grew (omega (arith, before)) (omega (arith, after, undrawn c, quiet)),
      );
    }

abbrev DownTo : Wires → Wires → Most → Ends → Bool → Type 0
DownTo w v m r some = Reaches w (λ r'. Downs (sides_of v) m r r' × IsMoved some r r')

pub down_played : (v v0 : Wires) (r : Ends) (m : Most) (w w' : Wire) (u' s' : Seen) (x : Crossing) (a b some : Bool) → v ≡ v0 → some ≡ (a || b) → (is : v.wire ≡ Some w) → (at : At v r) → Legal u'.settings u'.entries → Fair u'.settings u'.entries → Legal s'.settings s'.entries → Fair s'.settings s'.entries → u' ≡ record v.client { entries = u'.entries; spare = u'.spare } → s' ≡ record v.server { entries = s'.entries; spare = s'.spare }
    → (k : Gave m v.client.settings r (link_at v r w is at).there v.server s' w w' a) → IsHearer w'.client (bytes_down k.there s'.entries) (frames_down v.server.settings k.there s'.entries) v.client u' x b → Reaches (record { client = u'; server = s'; wire = Some (record w' { down = x }); dropped = v.dropped }) (λ r'. Downs (sides_of v0) m r r' × IsMoved some r r')
down_played v v0 r m w w' u' s' x a b some shown flag is at legal fair slegal sfair same kept k h =
    subst (λ (y : Wires). DownTo (record { client = u'; server = s'; wire = Some (record w' { down = x }); dropped = v.dropped }) y m r some) shown (subst (λ (y : Bool). DownTo (record { client = u'; server = s'; wire = Some (record w' { down = x }); dropped = v.dropped }) v m r y) (sym flag) (down_here v r m w w' u' s' x a b is at legal fair slegal sfair same kept k h))
