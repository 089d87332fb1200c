-- The connection is gone: at both ends, or at the client alone; and what the server draws on it then.
use Rattle.std.proofs.Common.{◌≡◌, ◌≤◌, ◌<◌, ◌&&◌, ℕ, Bool, true, nat_lt, nat_le, List, Option, Some, None, IfSome, refl, ap, subst, sym, ◌∙◌, arith}
use Rattle.std.proofs.lemmas.Bool.Decides.{nat_tests}
use Rattle.rs_wire.specs.declared.words.Side.TheVariants.{Client, Server}
use Rattle.rs_frame.specs.declared.frame.Frame.{Frame}
use Rattle.rs_chunk.specs.Rest.{Rest}
use Rattle.tape.specs.declared.event.Event.TheVariants as event
use Rattle.tape.specs.declared.entry.Entry.{Entry}
use Rattle.session_model.specs.Life.{openings}
use Rattle.session_model.specs.Frames.{drawn, due, was_opened}
use Rattle.session_model.specs.Legal.{Fair, Legal}
use Rattle.session_model.specs.Joined.{IsOpening}
use Rattle.session_core.specs.Seen.{Seen}
use Rattle.cable.specs.declared.wire.Wire.{Wire}
use Rattle.cable.specs.declared.carrying.Most.{Most}
use Rattle.cable.specs.declared.hearing.Crossing.{Crossing}
use Rattle.cable.specs.declared.hearing.Known.{Known}
use Rattle.cable.specs.declared.hearing.Known.TheVariants as known
use Rattle.cable.specs.Played.{Draws, Ends, Lates, LatesOn, Link, There, adds, bytes_down, dropped_after, drops, drops_on, with_server, cuts, cuts_on, cuts_there}
use Rattle.cable.specs.Hearing.{Carried}
use Rattle.cable.specs.Wires.{At, IsLost, Knows, Reaches, Wires, dropped_by, sides_of}
use Rattle.cable.proofs.Followed.{StaysBy, end_on, link_at, server_at, still_alone}
use Rattle.cable.proofs.Grows.{drew_where}
use Rattle.cable.proofs.Lost.{lost_alone, lost_as, no_link}
use Rattle.cable.proofs.Sending.{drew_elsewhere}
use Rattle.std.proofs.lemmas.Grind.{common_steps}
use Rattle.rs_wire.specs.declared.settings.Settings.{Settings}

-- ---- a cut

pub cut_nowhere : (v v0 : Wires) (r : Ends) (o : Option Wire) → v ≡ v0 → v.wire ≡ None → o ≡ None → At v0 r → Reaches (record v { wire = o }) (λ r'. r' ≡ cuts (sides_of v0) r)
cut_nowhere v v0 r o shown is gone at0 =
    let k = still_alone v v0 r o shown is gone at0 in
    record { ends = r; at = k.0; holds = ap (λ (x : Option Link). cuts_on x (sides_of v0) r) (sym k.1) }

cut_openings : (h : Settings) (t : There) (S : List Entry) → openings S ≤ openings (cuts_there h t S)
unfolding openings
cut_openings h t S = grind (arith, common_steps)

cut_here : (v : Wires) (r : Ends) (w : Wire) (u' s' : Seen) → (is : v.wire ≡ Some w) → (at : At v r) → Legal u'.settings u'.entries → Fair u'.settings u'.entries → Legal s'.settings s'.entries → Fair s'.settings s'.entries → u' ≡ record v.client { entries = u'.entries; spare = u'.spare } → s' ≡ record v.server { entries = s'.entries; spare = s'.spare }
    → u'.entries ≡ adds v.client.settings v.client.entries (event.Cut w.client) → s'.entries ≡ cuts_there v.server.settings (link_at v r w is at).there v.server.entries → Reaches (record { client = u'; server = s'; wire = None; dropped = v.dropped }) (λ r'. r' ≡ cuts (sides_of v) r)
cut_here v r w u' s' is at legal fair slegal sfair same kept now there =
    let here = link_at v r w is at in
    record {
      ends = cuts_on (Some (record { client = w.client; there = here.there })) (sides_of v) r;
      at = record {
        client_is = end_on Client v.client u' same legal fair at.client_is;
        server_is = end_on Server v.server s' kept slegal sfair at.server_is;
        client = ap (λ (l : List Entry). adds v.client.settings l (event.Cut w.client)) at.client ∙ sym now;
        server = ap (λ (l : List Entry). cuts_there v.server.settings here.there l) at.server ∙ sym there;
        wire = refl;
        dropped = at.dropped;
        lost = lost_as v.dropped r.server (cuts_there v.server.settings here.there r.server) r.link None (λ d. lost_alone r.server _ r.link d (cut_openings v.server.settings here.there r.server)) at.lost;
      };
      holds = ap (λ (o : Option Link). cuts_on o (sides_of v) r) (sym here.up.link);
    }

pub cut_played : (v v0 : Wires) (r : Ends) (w : Wire) (o : Option Wire) (u' s' : Seen) → v ≡ v0 → o ≡ None → (is : v.wire ≡ Some w) → (at : At v r) → Legal u'.settings u'.entries → Fair u'.settings u'.entries → Legal s'.settings s'.entries → Fair s'.settings s'.entries → u' ≡ record v.client { entries = u'.entries; spare = u'.spare } → s' ≡ record v.server { entries = s'.entries; spare = s'.spare }
    → u'.entries ≡ adds v.client.settings v.client.entries (event.Cut w.client) → s'.entries ≡ cuts_there v.server.settings (link_at v r w is at).there v.server.entries → Reaches (record { client = u'; server = s'; wire = o; dropped = v.dropped }) (λ r'. r' ≡ cuts (sides_of v0) r)
cut_played v v0 r w o u' s' shown gone is at legal fair slegal sfair same kept now there =
    subst (λ (x : Option Wire). Reaches (record { client = u'; server = s'; wire = x; dropped = v.dropped }) (λ r'. r' ≡ cuts (sides_of v0) r)) (sym gone)
    (subst (λ (x : Wires). Reaches (record { client = u'; server = s'; wire = None; dropped = v.dropped }) (λ r'. r' ≡ cuts (sides_of x) r)) shown (cut_here v r w u' s' is at legal fair slegal sfair same kept now there))

-- ---- drop

pub drop_nowhere : (v v0 : Wires) (r : Ends) (o : Option Wire) → v ≡ v0 → v.wire ≡ None → o ≡ None → At v0 r → Reaches (record v { wire = o }) (λ r'. r' ≡ drops (sides_of v0) r)
drop_nowhere v v0 r o shown is gone at0 =
    let k = still_alone v v0 r o shown is gone at0 in
    record { ends = r; at = k.0; holds = ap (λ (x : Option Link). drops_on x (sides_of v0) r) (sym k.1) }

above : (d n : ℕ) → (nat_lt 0 d && nat_le d n) ≡ true → 0 < d
above d n h1 = grind (arith, nat_tests)

within : (d n : ℕ) → (nat_lt 0 d && nat_le d n) ≡ true → d ≤ n
within d n h1 = grind (arith, nat_tests)

opening_is : (past : List Entry) (d : ℕ) → was_opened past d ≡ true → IsOpening past d
opening_is past d opened = record { above = above d (openings past) opened; within = within d (openings past) opened }

-- what the server knows of the connection says which one was dropped
drop_knows : (t : There) (k : Known) (n : ℕ) (frames : List Frame) (v : Seen) (x : Crossing) (o : Option ℕ) → Knows t k n frames v x → IfSome o (IsLost v.entries None) → (dropped_after t o ≡ dropped_by k o) × IfSome (dropped_by k o) (IsLost v.entries None)
drop_knows There.Nowhere known.Nothing n frames v x o h l = (refl, l)
drop_knows (There.Accepted d) (known.Accepted e) n frames v x o h l =
    let opening : IsOpening v.entries e = subst (IsOpening v.entries) (sym h.0) (opening_is v.entries d h.1.opened) in
    (ap Some (sym h.0), record { opening = opening; apart = λ c. no_link c e })
drop_knows (There.Refused d m) (known.Refused left) n frames v x o h l = (refl, l)
drop_knows _ _ n frames v x o h l = absurd h

drop_here : (v : Wires) (r : Ends) (w : Wire) (u' : Seen) (d : Option ℕ) → v.wire ≡ Some w → At v r → Legal u'.settings u'.entries → Fair u'.settings u'.entries → u' ≡ record v.client { entries = u'.entries; spare = u'.spare } → u'.entries ≡ adds v.client.settings v.client.entries (event.Cut w.client) → d ≡ dropped_by w.known v.dropped
    → Reaches (record { client = u'; server = v.server; wire = None; dropped = d }) (λ r'. r' ≡ drops (sides_of v) r)
drop_here v r w u' d is at legal fair same now next =
    let here = link_at v r w is at in
    let g = v.client.settings in
    let lost0 = lost_as v.dropped r.server v.server.entries r.link None (λ i. lost_alone r.server v.server.entries r.link i (omega (arith, ap openings at.server))) at.lost in
    let k = drop_knows here.there w.known (drawn r.client w.client) (due g r.client w.client) v.server w.up v.dropped here.up.knows lost0 in
    record {
      ends = drops_on (Some (record { client = w.client; there = here.there })) (sides_of v) r;
      at = record {
        client_is = end_on Client v.client u' same legal fair at.client_is;
        server_is = at.server_is;
        client = ap (λ (l : List Entry). adds g l (event.Cut w.client)) at.client ∙ sym now;
        server = at.server;
        wire = refl;
        dropped = ap (dropped_after here.there) at.dropped ∙ (k.0 ∙ sym next);
        lost = subst (λ (S : List Entry). IfSome d (IsLost S None)) (sym at.server) (subst (λ (o : Option ℕ). IfSome o (IsLost v.server.entries None)) (sym next) k.1);
      };
      holds = ap (λ (o : Option Link). drops_on o (sides_of v) r) (sym here.up.link);
    }

pub drop_played : (v v0 : Wires) (r : Ends) (w : Wire) (o : Option Wire) (u' : Seen) (d : Option ℕ) → v ≡ v0 → o ≡ None → v.wire ≡ Some w → At v0 r → Legal u'.settings u'.entries → Fair u'.settings u'.entries → u' ≡ record v.client { entries = u'.entries; spare = u'.spare } → u'.entries ≡ adds v.client.settings v.client.entries (event.Cut w.client)
    → d ≡ dropped_by w.known v.dropped → Reaches (record { client = u'; server = v.server; wire = o; dropped = d }) (λ r'. r' ≡ drops (sides_of v0) r)
drop_played v v0 r w o u' d shown gone is at0 legal fair same now next =
    let at = subst (λ (x : Wires). At x r) (sym shown) at0 in
    subst (λ (x : Option Wire). Reaches (record { client = u'; server = v.server; wire = x; dropped = d }) (λ r'. r' ≡ drops (sides_of v0) r)) (sym gone)
    (subst (λ (x : Wires). Reaches (record { client = u'; server = v.server; wire = None; dropped = d }) (λ r'. r' ≡ drops (sides_of x) r)) shown (drop_here v r w u' d is at legal fair same now next))

-- ---- late

pub late_nowhere : (v : Wires) (r : Ends) (m : Most) → v.dropped ≡ None → At v r → Reaches v (Lates (sides_of v) m r)
late_nowhere v r m none at = record { ends = r; at = at; holds = subst (λ (o : Option ℕ). LatesOn o (sides_of v) m r r) (sym (at.dropped ∙ none)) refl }

lost_at : (v : Wires) (r : Ends) (d : ℕ) → v.dropped ≡ Some d → At v r → IsLost r.server r.link d
lost_at v r d is at = subst (λ (o : Option ℕ). IfSome o (IsLost r.server r.link)) is at.lost

-- the connection has a number at the server
pub late_number : (v v0 : Wires) (r : Ends) (d : ℕ) → v ≡ v0 → v.dropped ≡ Some d → At v0 r → 0 < d
late_number v v0 r d shown is at0 = (lost_at v r d is (subst (λ (x : Wires). At x r) (sym shown) at0)).opening.above

-- it is not the one that joins the ends, of which as much was given as before
still_given : (t : There) (b : Bool) (v : Wires) (s' : Seen) (r : Ends) (m : Most) (c d : ℕ) (start rest : Rest) → IsLost r.server r.link d → Carried d m v.server s' start rest b → r.link ≡ Some (record { client = c; there = t }) → bytes_down t s'.entries ≡ bytes_down t v.server.entries
still_given There.Nowhere b v s' r m c d start rest l k is = refl
still_given (There.Accepted e) b v s' r m c d start rest l k is =
    drew_elsewhere _ v.server.settings d e m v.server.entries s'.entries (λ same. l.apart c (is ∙ ap (λ (i : ℕ). Some (record { client = c; there = There.Accepted i })) same)) k.draws
still_given (There.Refused e n) b v s' r m c d start rest l k is = refl

late_here : (v : Wires) (r : Ends) (m : Most) (d : ℕ) (s' : Seen) (start rest : Rest) (b : Bool) → v.dropped ≡ Some d → At v r → Legal s'.settings s'.entries → Fair s'.settings s'.entries → s' ≡ record v.server { entries = s'.entries; spare = s'.spare } → Carried d m v.server s' start rest b → Reaches (record v { server = s' }) (Lates (sides_of v) m r)
late_here v r m d s' start rest b is at legal fair same k =
    let h = v.server.settings in
    let drew = drew_where _ h d m v.server.entries s'.entries k.draws in
    let l = lost_at v r d is at in
    let stays : StaysBy r v.server s' = record { quiet = drew.0; goes = drew.1; still = λ c t joined. still_given t b v s' r m c d start rest l k joined } in
    record {
      ends = with_server r s'.entries;
      at = server_at v r s' at (end_on Server v.server s' same legal fair at.server_is) same stays;
      holds = subst (λ (o : Option ℕ). LatesOn o (sides_of v) m r (with_server r s'.entries)) (sym (at.dropped ∙ is)) (s'.entries, subst (λ (S : List Entry). Draws h d m S s'.entries) (sym at.server) k.draws, refl);
    }

pub late_played : (v v0 : Wires) (r : Ends) (m : Most) (d : ℕ) (s' : Seen) (start rest : Rest) (b : Bool) → v ≡ v0 → v.dropped ≡ Some d → At v0 r → Legal s'.settings s'.entries → Fair s'.settings s'.entries → s' ≡ record v.server { entries = s'.entries; spare = s'.spare } → Carried d m v.server s' start rest b
    → Reaches (record v { server = s' }) (Lates (sides_of v0) m r)
late_played v v0 r m d s' start rest b shown is at0 legal fair same k =
    subst (λ (x : Wires). Reaches (record v { server = s' }) (Lates (sides_of x) m r)) shown (late_here v r m d s' start rest b is (subst (λ (x : Wires). At x r) (sym shown) at0) legal fair same k)
