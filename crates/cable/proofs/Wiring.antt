-- The connection of a cable, and what the server knows of it.
use Rattle.std.proofs.lemmas.Grind.{common_steps}
use Rattle.std.proofs.lemmas.Bool.Decides.{nat_tests}
use Rattle.std.proofs.Common.{◌≡◌, ◌≤◌, ◌<◌, ◌+◌, ◌-◌, ◌&&◌, ℕ, Bool, true, false, cond, nat_lt, nat_le, List, [], ◌∷◌, ◌++◌, length, take, Some, refl, ap, subst, sym, ◌∙◌, arith, append-nil}
use Rattle.rs_wire.specs.declared.settings.Settings.{Settings}
use Rattle.rs_frame.specs.declared.frame.Frame.{Frame}
use Rattle.rs_frame.specs.Framed.{framed_all}
use Rattle.rs_chunk.specs.Rest.{Rest}
use Rattle.tape.specs.declared.event.Event.{Event}
use Rattle.tape.specs.declared.event.Event.TheVariants as event
use Rattle.tape.specs.declared.answer.Answer.{Answer}
use Rattle.tape.specs.declared.answer.Answer.TheVariants as answer
use Rattle.tape.specs.declared.entry.Entry.{Entry}
use Rattle.session_model.specs.Life.{is_live, live, openings}
use Rattle.session_model.specs.Frames.{drawn, due, given, refusal}
use Rattle.session_model.specs.Joined.{only, refused}
use Rattle.session_model.specs.Answers.{answer_to}
use Rattle.session_core.specs.Seen.{Seen}
use Rattle.session_laws.proofs.Framing.{AreSpellable}
use Rattle.cable.specs.declared.arrival.Arrival.{Arrival}
use Rattle.cable.specs.declared.arrival.Arrival.TheVariants as arrival
use Rattle.cable.specs.declared.wire.Wire.{Wire}
use Rattle.cable.specs.declared.carrying.Left.{Left}
use Rattle.cable.specs.declared.carrying.Most.{Most}
use Rattle.cable.specs.declared.hearing.Crossing.{Crossing}
use Rattle.cable.specs.declared.hearing.Known.{Known}
use Rattle.cable.specs.declared.hearing.Known.TheVariants as known
use Rattle.cable.specs.Played.{Ends, Sides, There, adds, answered, arrivals, arrives_up, at_most, crossed, cuts_there, hears_if_accepted, hears_up, meets, opened_by, there_of, with_client}
use Rattle.cable.specs.Hearing.{Ahead, Carried, CrossedTo, Crosses, Grew, IsHearer, IsMet, IsMetBy, Nears, Offered, known_of}
use Rattle.cable.specs.Wires.{Arrives, Gave, Knows, ServerAt}
use Rattle.cable.proofs.Grows.{Quiet, Sends, drew_where}
use Rattle.cable.proofs.Moving.{grew_twice}
use Rattle.cable.proofs.Opening.{number_is, refused_here}
use Rattle.cable.proofs.Sending.{crosses_more, crosses_quiet}

abbrev sides : Settings → Seen → Sides
sides g v = record { client = g; server = v.settings }

-- ---- the server hears

nowhere : (t : There) (k : Known) (n : ℕ) (frames : List Frame) (v : Seen) (x : Crossing) → k ≡ known.Nothing → Knows t k n frames v x → t ≡ There.Nowhere
nowhere t k n frames v x h1 h2 = grind (arith, common_steps)

-- the server knows nothing of the connection
pub is_nowhere : (g : Settings) (r : Ends) (t : There) (v : Seen) (w : Wire) → w.known ≡ known.Nothing → ServerAt g r t v w → t ≡ There.Nowhere
is_nowhere g r t v w is h = nowhere t w.known (drawn r.client w.client) (due g r.client w.client) v w.up is h.knows

near : (k : Known) (n : ℕ) (frames : List Frame) (v : Seen) (x : Crossing) → Knows There.Nowhere k n frames v x → Nears n frames v x
near k n frames v x h1 = grind (arith, common_steps)

pub nears_of : (g : Settings) (r : Ends) (v : Seen) (w : Wire) → ServerAt g r There.Nowhere v w → Nears (drawn r.client w.client) (due g r.client w.client) v w.up
nears_of g r v w h = near w.known (drawn r.client w.client) (due g r.client w.client) v w.up h.knows

accepted : (t : There) (k : Known) (e n : ℕ) (frames : List Frame) (v : Seen) (x : Crossing) → k ≡ known.Accepted e → Knows t k n frames v x → (t ≡ There.Accepted e) × Crosses e n frames v x
accepted t k e n frames v x h1 h2 = grind (arith, common_steps)

pub settings_of : (v v' : Seen) → v' ≡ record v { entries = v'.entries; spare = v'.spare } → v'.settings ≡ v.settings
settings_of v v' same = ap (λ (u : Seen). u.settings) same

hears_at : (g : Settings) (r : Ends) (v v' : Seen) (w : Wire) (x : Crossing) (e : ℕ) (some : Bool) → v' ≡ record v { entries = v'.entries; spare = v'.spare } → w.known ≡ known.Accepted e → ServerAt g r (There.Accepted e) v w → IsHearer e (drawn r.client w.client) (due g r.client w.client) v v' x some
    → ServerAt g (hears_up (sides g v) w.client e r) (There.Accepted e) v' (record w { up = x })
hears_at g r v v' w x e some h1 h2 h3 h4 = grind (arith, common_steps, settings_of)

-- it accepted it, and heard what crossed
pub arrives_heard : (g : Settings) (r : Ends) (t : There) (v v' : Seen) (w : Wire) (x : Crossing) (e : ℕ) (some : Bool) → v' ≡ record v { entries = v'.entries; spare = v'.spare } → w.known ≡ known.Accepted e → ServerAt g r t v w → IsHearer e (drawn r.client w.client) (due g r.client w.client) v v' x some
    → Arrives g r t v v' w (record w { up = x }) some
arrives_heard g r t v v' w x e some same is h heard =
    let k = accepted t w.known e (drawn r.client w.client) (due g r.client w.client) v w.up is h.knows in
    let here : ServerAt g r (There.Accepted e) v w = subst (λ (u : There). ServerAt g r u v w) k.0 h in
    subst (λ (u : There). Arrives g r u v v' w (record w { up = x }) some) (sym k.0)
    (record { there = There.Accepted e; at = hears_at g r v v' w x e some same is here heard; same = refl; grew = heard.grew })

pub accepted_crosses : (g : Settings) (r : Ends) (t : There) (v : Seen) (w : Wire) (e : ℕ) → w.known ≡ known.Accepted e → ServerAt g r t v w → Crosses e (drawn r.client w.client) (due g r.client w.client) v w.up
accepted_crosses g r t v w e is h = (accepted t w.known e (drawn r.client w.client) (due g r.client w.client) v w.up is h.knows).1

-- it refused it: what crosses is lost
pub arrives_refused : (g : Settings) (r : Ends) (t : There) (v : Seen) (w : Wire) (x : Crossing) (left : Left) → w.known ≡ known.Refused left → ServerAt g r t v w → Arrives g r t v v w (record w { up = x }) false
arrives_refused g r There.Nowhere v w x left is h = absurd (subst (λ (k : Known). Knows There.Nowhere k (drawn r.client w.client) (due g r.client w.client) v w.up) is h.knows)
arrives_refused g r (There.Accepted d) v w x left is h = absurd (subst (λ (k : Known). Knows (There.Accepted d) k (drawn r.client w.client) (due g r.client w.client) v w.up) is h.knows)
arrives_refused g r (There.Refused d m) v w x left is h = record {
  there = There.Refused d m;
  at = record {
    server = h.server;
    link = h.link;
    number = h.number;
    knows = let k = subst (λ (k : Known). Knows (There.Refused d m) k (drawn r.client w.client) (due g r.client w.client) v w.up) is h.knows in subst (λ (k : Known). Knows (There.Refused d m) k (drawn r.client w.client) (due g r.client w.client) v x) (sym is) k;
  };
  same = refl;
  grew = refl;
}

-- ---- the first frame

abbrev opening : Frame → Event
opening f = event.Open (Some f) false

-- the ends after the first frame of the connection
abbrev met_ends : Settings → Ends → Seen → Wire → Frame → Ends
met_ends g r v w f = opened_by (sides g v) w.client f r

known_as : (a : Answer) (e : ℕ) → known_of a ≡ known.Accepted e → a ≡ answer.Opened e
known_as a e h1 = grind (arith, common_steps)

-- where the server accepts it
pub record MetAs (n : ℕ) (frames : List Frame) (v v' : Seen) (x : Crossing) (e : ℕ) : Type 0 where
  pub f : Frame
  pub more : List Arrival
  pub front : crossed v.settings.max_in n frames ≡ arrival.Whole f ∷ more
  pub entries : v'.entries ≡ answered v.settings v.entries (opening f) ∷ v.entries
  pub answer_is : answer_to v.settings v.entries (opening f) ≡ answer.Opened e
  pub crosses : Crosses e n frames v' x

met_items : (n : ℕ) (frames : List Frame) (v v' : Seen) (x : Crossing) (k : Known) (e : ℕ) (items : List Arrival) → v' ≡ record v { entries = v'.entries; spare = v'.spare } → k ≡ known.Accepted e → crossed v.settings.max_in n frames ≡ items → IsMetBy items n frames v v' x k → MetAs n frames v v' x e
met_items n frames v v' x k e [] same is front h = let no : known.Nothing ≡ known.Accepted e = sym h.1 ∙ is in absurd (cc)
met_items n frames v v' x k e (arrival.TooLong ∷ more) same is front h = let no : known.Nothing ≡ known.Accepted e = sym h.1 ∙ is in absurd (cc)
met_items n frames v v' x k e (arrival.Whole f ∷ more) same is front h =
    let a = known_as (answer_to v.settings v.entries (opening f)) e (sym h.0.1 ∙ is) in
    let number : e ≡ openings v.entries + 1 = number_is v.settings v.entries (Some f) e (sym a) in
    record {
      f = f;
      more = more;
      front = front;
      entries = h.0.0;
      answer_is = a;
      crosses = subst (λ (k : Settings). CrossedTo k e n frames v'.entries x.rest x.over) (sym (settings_of v v' same)) (subst (λ (d : ℕ). CrossedTo v.settings d n frames v'.entries x.rest x.over) (sym number) h.1);
    }

pub met_accepted : (n : ℕ) (frames : List Frame) (v v' : Seen) (x : Crossing) (k : Known) (e : ℕ) → v' ≡ record v { entries = v'.entries; spare = v'.spare } → k ≡ known.Accepted e → IsMet n frames v v' x k → MetAs n frames v v' x e
met_accepted n frames v v' x k e same is h = met_items n frames v v' x k e (crossed v.settings.max_in n frames) same is refl h

known_known : (a : Answer) → known_of a ≡ known.Nothing → ⊥
known_known a h1 = grind (arith, common_steps)

not_both : (left : Left) (e : ℕ) → known.Refused left ≡ known.Accepted e → ⊥
not_both left e h1 = absurd (cc)

-- the server of the ends after the first frame
met_server : (g : Settings) (r : Ends) (v v' : Seen) (w : Wire) (x : Crossing) (k : Known) (f : Frame) (t : There) → ServerAt g r There.Nowhere v w → v'.entries ≡ answered v.settings v.entries (opening f) ∷ v.entries → there_of (answer_to v.settings v.entries (opening f)) (openings v.entries + 1) ≡ t → Knows t k (drawn r.client w.client) (due g r.client w.client) v' x
    → ServerAt g (met_ends g r v w f) t v' (record w { known = k; up = x })
met_server g r v v' w x k f t h1 h2 h3 h4 = grind (arith, common_steps)

met_meets : (g : Settings) (r : Ends) (v : Seen) (w : Wire) (f : Frame) (more : List Arrival) (t : There) → ServerAt g r There.Nowhere v w → crossed v.settings.max_in (drawn r.client w.client) (due g r.client w.client) ≡ arrival.Whole f ∷ more → there_of (answer_to v.settings v.entries (opening f)) (openings v.entries + 1) ≡ t
    → hears_if_accepted (sides g v) w.client t (met_ends g r v w f) ≡ arrives_up (sides g v) w.client There.Nowhere r
met_meets g r v w f more t h1 h2 h3 = grind (arith, common_steps)

met_came : (v v' : Seen) (f : Frame) → v'.entries ≡ answered v.settings v.entries (opening f) ∷ v.entries → arrivals v.entries < arrivals v'.entries
unfolding arrivals
met_came v v' f is = let more : arrivals v'.entries ≡ arrivals v.entries + 1 = ap arrivals is in omega (arith, more)

-- it accepts the connection, and hears what crossed after it
pub greets_heard : (g : Settings) (r : Ends) (v v' v'' : Seen) (w : Wire) (x x' : Crossing) (k : Known) (e : ℕ) (some : Bool) → v' ≡ record v { entries = v'.entries; spare = v'.spare } → v'' ≡ record v' { entries = v''.entries; spare = v''.spare } → k ≡ known.Accepted e → ServerAt g r There.Nowhere v w
    → MetAs (drawn r.client w.client) (due g r.client w.client) v v' x e → IsHearer e (drawn r.client w.client) (due g r.client w.client) v' v'' x' some → Arrives g r There.Nowhere v v'' w (record w { known = k; up = x' }) true
greets_heard g r v v' v'' w x x' k e some same same' is h met heard =
    let t_is = ap (λ (a : Answer). there_of a (openings v.entries + 1)) met.answer_is in
    let w1 : Wire = record w { known = k; up = x } in
    let knows : Knows (There.Accepted e) k (drawn r.client w.client) (due g r.client w.client) v' x = subst (λ (j : Known). Knows (There.Accepted e) j (drawn r.client w.client) (due g r.client w.client) v' x) (sym is) (refl, met.crosses) in
    let one = met_server g r v v' w x k met.f (There.Accepted e) h met.entries t_is knows in
    let two = hears_at g (met_ends g r v w met.f) v' v'' w1 x' e some same' is one heard in
    let came = met_came v v' met.f met.entries in
    let ends : hears_up (sides g v') w.client e (met_ends g r v w met.f) ≡ arrives_up (sides g v) w.client There.Nowhere r = ap (λ (q : Settings). hears_up (record { client = g; server = q }) w.client e (met_ends g r v w met.f)) (settings_of v v' same) ∙ met_meets g r v w met.f met.more (There.Accepted e) h met.front t_is in
    record {
      there = There.Accepted e;
      at = subst (λ (r' : Ends). ServerAt g r' (There.Accepted e) v'' (record w { known = k; up = x' })) ends two;
      same = refl;
      grew = grew_twice true some (arrivals v.entries) (arrivals v'.entries) (arrivals v''.entries) came heard.grew;
    }

refused_there : (a : Answer) (n : ℕ) → ((e : ℕ) → known_of a ≡ known.Accepted e → ⊥) → (there_of a n ≡ There.Refused n 0) × (known_of a ≡ known.Refused (record { bytes = framed_all (only (refusal a)); crossed = 0 }))
refused_there (answer.Opened d) n out = absurd (out d refl)
refused_there _ n out = (refl, refl)

-- it knows nothing of it yet
stays_out : (g : Settings) (r : Ends) (v v' : Seen) (w : Wire) (x : Crossing) (k : Known) → ServerAt g r There.Nowhere v w → arrives_up (sides g v) w.client There.Nowhere r ≡ r → (v' ≡ v) × (k ≡ known.Nothing) × Nears (drawn r.client w.client) (due g r.client w.client) v x → Arrives g r There.Nowhere v v' w (record w { known = k; up = x }) false
stays_out g r v v' w x k h stays met = record {
  there = There.Nowhere;
  at = subst (λ (r' : Ends). ServerAt g r' There.Nowhere v' (record w { known = k; up = x })) (sym stays) (subst (λ (u : Seen). ServerAt g r There.Nowhere u (record w { known = k; up = x })) (sym met.0) (record {
    server = h.server;
    link = h.link;
    number = h.number;
    knows = subst (λ (j : Known). Knows There.Nowhere j (drawn r.client w.client) (due g r.client w.client) v x) (sym met.1) met.2;
  }));
  same = refl;
  grew = ap (λ (u : Seen). arrivals u.entries) met.0;
}

nothing_met : (g : Settings) (r : Ends) (v v' : Seen) (w : Wire) (x : Crossing) (k : Known) (items : List Arrival) → k ≡ known.Nothing → ServerAt g r There.Nowhere v w → crossed v.settings.max_in (drawn r.client w.client) (due g r.client w.client) ≡ items
    → IsMetBy items (drawn r.client w.client) (due g r.client w.client) v v' x k → Arrives g r There.Nowhere v v' w (record w { known = k; up = x }) false
nothing_met g r v v' w x k [] is h front met = stays_out g r v v' w x k h (ap (λ (l : List Arrival). meets (sides g v) w.client l r) front) met
nothing_met g r v v' w x k (arrival.TooLong ∷ more) is h front met = stays_out g r v v' w x k h (ap (λ (l : List Arrival). meets (sides g v) w.client l r) front) met
nothing_met g r v v' w x k (arrival.Whole f ∷ more) is h front met = absurd (known_known (answer_to v.settings v.entries (opening f)) (sym met.0.1 ∙ is))

pub greets_nothing : (g : Settings) (r : Ends) (v v' : Seen) (w : Wire) (x : Crossing) (k : Known) → k ≡ known.Nothing → ServerAt g r There.Nowhere v w → IsMet (drawn r.client w.client) (due g r.client w.client) v v' x k → Arrives g r There.Nowhere v v' w (record w { known = k; up = x }) false
greets_nothing g r v v' w x k is h met = nothing_met g r v v' w x k (crossed v.settings.max_in (drawn r.client w.client) (due g r.client w.client)) is h refl met

-- it refuses it
refused_met : (g : Settings) (r : Ends) (v v' : Seen) (w : Wire) (x : Crossing) (k : Known) (left : Left) (items : List Arrival) → k ≡ known.Refused left → ServerAt g r There.Nowhere v w → crossed v.settings.max_in (drawn r.client w.client) (due g r.client w.client) ≡ items
    → IsMetBy items (drawn r.client w.client) (due g r.client w.client) v v' x k → Arrives g r There.Nowhere v v' w (record w { known = k; up = x }) true
refused_met g r v v' w x k left [] is h front met = let no : known.Nothing ≡ known.Refused left = sym met.1 ∙ is in absurd (cc)
refused_met g r v v' w x k left (arrival.TooLong ∷ more) is h front met = let no : known.Nothing ≡ known.Refused left = sym met.1 ∙ is in absurd (cc)
refused_met g r v v' w x k left (arrival.Whole f ∷ more) is h front met =
    let n = openings v.entries + 1 in
    let a = answer_to v.settings v.entries (opening f) in
    let out = refused_there a n (λ e same. not_both left e (sym is ∙ (met.0.1 ∙ same))) in
    let gives : refused v'.entries n ≡ only (refusal a) = ap (λ (l : List Entry). refused l n) met.0.0 ∙ refused_here (answered v.settings v.entries (opening f)) v.entries f refl in
    let knows : Knows (There.Refused n 0) k (drawn r.client w.client) (due g r.client w.client) v' x = subst (λ (j : Known). Knows (There.Refused n 0) j (drawn r.client w.client) (due g r.client w.client) v' x) (sym (met.0.1 ∙ out.1)) (ap framed_all (sym gives), refl, omega arith) in
    record {
      there = There.Refused n 0;
      at = subst (λ (r' : Ends). ServerAt g r' (There.Refused n 0) v' (record w { known = k; up = x })) (met_meets g r v w f more (There.Refused n 0) h front out.0) (met_server g r v v' w x k f (There.Refused n 0) h met.0.0 out.0 knows);
      same = refl;
      grew = met_came v v' f met.0.0;
    }

pub greets_refused : (g : Settings) (r : Ends) (v v' : Seen) (w : Wire) (x : Crossing) (k : Known) (left : Left) → k ≡ known.Refused left → ServerAt g r There.Nowhere v w → IsMet (drawn r.client w.client) (due g r.client w.client) v v' x k → Arrives g r There.Nowhere v v' w (record w { known = k; up = x }) true
greets_refused g r v v' w x k left is h met = refused_met g r v v' w x k left (crossed v.settings.max_in (drawn r.client w.client) (due g r.client w.client)) is h refl met

-- ---- the client sends

-- what is due at the client went on, and these bytes were drawn
pub record Sent (g : Settings) (c : ℕ) (C C' : List Entry) (piece : List ℕ) : Type 0 where
  pub sends : Sends g c C C'
  pub spelled : AreSpellable (due g C' c)
  pub gave : given g C' c ≡ given g C c ++ piece

knows_more : (t : There) (k : Known) (g : Settings) (c : ℕ) (C C' : List Entry) (v : Seen) (x : Crossing) (rest : Rest) (piece : List ℕ) → Sent g c C C' piece → rest ≡ record x.rest { bytes = x.rest.bytes ++ piece }
    → Knows t k (drawn C c) (due g C c) v x → Knows t k (drawn C' c) (due g C' c) v (record x { rest = rest })
knows_more There.Nowhere known.Nothing g c C C' v x rest piece s fed h = record {
  ahead = record { longest = ap (λ (r : Rest). r.max_in) fed ∙ h.ahead.longest; below = h.ahead.below; spellable = s.spelled };
  bytes = s.gave ∙ (ap (λ (l : List ℕ). l ++ piece) h.bytes ∙ sym (ap (λ (r : Rest). r.bytes) fed));
  goes_on = h.goes_on;
}
knows_more (There.Accepted d) (known.Accepted e) g c C C' v x rest piece s fed h = (h.0, crosses_more g v.settings c d C C' v.entries x.rest rest x.over piece s.sends s.spelled s.gave fed h.1)
knows_more (There.Refused d m) (known.Refused left) g c C C' v x rest piece s fed h = h
knows_more _ _ g c C C' v x rest piece s fed h = absurd h

abbrev pub fed : Wire → Rest → Wire
fed w rest = record w { up = record w.up { rest = rest } }

pub server_more : (g : Settings) (r : Ends) (C' : List Entry) (t : There) (v : Seen) (w : Wire) (rest : Rest) (piece : List ℕ) → Sent g w.client r.client C' piece → rest ≡ record w.up.rest { bytes = w.up.rest.bytes ++ piece } → ServerAt g r t v w → ServerAt g (with_client r C') t v (fed w rest)
server_more g r C' t v w rest piece s is h = record {
  server = h.server;
  link = h.link;
  number = h.number;
  knows = knows_more t w.known g w.client r.client C' v w.up rest piece s is h.knows;
}

-- ---- the server goes on, and nothing comes at it

pub knows_quiet : (t : There) (k : Known) (n : ℕ) (frames : List Frame) (v v' : Seen) (x : Crossing) → v'.settings ≡ v.settings → Quiet v.entries v'.entries → Knows t k n frames v x → Knows t k n frames v' x
knows_quiet There.Nowhere known.Nothing n frames v v' x same q h = record { ahead = subst (λ (g : Settings). Ahead g frames x.rest) (sym same) h.ahead; bytes = h.bytes; goes_on = h.goes_on }
knows_quiet (There.Accepted d) (known.Accepted e) n frames v v' x same q h = (h.0, subst (λ (g : Settings). CrossedTo g d n frames v'.entries x.rest x.over) (sym same) (crosses_quiet v.settings d n frames v.entries v'.entries x.rest x.over q h.1))
knows_quiet (There.Refused d m) (known.Refused left) n frames v v' x same q h = (h.0 ∙ ap framed_all (sym (q.refused_are d)), h.1, h.2)
knows_quiet _ _ n frames v v' x same q h = absurd h

-- ---- the server gives

numbered : (d n : ℕ) → (nat_lt 0 d && nat_le d n) ≡ true → 0 < d
numbered d n h1 = grind (arith, nat_tests)

-- it has a number there
pub accepted_number : (g : Settings) (r : Ends) (t : There) (v : Seen) (w : Wire) (e : ℕ) → w.known ≡ known.Accepted e → ServerAt g r t v w → 0 < e
accepted_number g r t v w e is h = numbered e (openings v.entries) (accepted_crosses g r t v w e is h).opened

-- nothing, before it knows of the connection
pub gave_nothing : (m : Most) (g : Settings) (r : Ends) (t : There) (v : Seen) (w : Wire) → w.known ≡ known.Nothing → ServerAt g r t v w → Gave m g r t v v w w false
gave_nothing m g r t v w is h =
    let none = is_nowhere g r t v w is h in
    let here : ServerAt g r There.Nowhere v w = subst (λ (u : There). ServerAt g r u v w) none h in
    subst (λ (u : There). Gave m g r u v v w w false) (sym none) (record {
      there = There.Nowhere;
      gives = (refl, refl);
      at = record { server = refl; link = refl; number = here.number; knows = here.knows };
      piece = [];
      bytes = refl;
      crossed = ap (λ (b : List ℕ). record w { down = record w.down { rest = record w.down.rest { bytes = b } } }) (sym (append-nil w.down.rest.bytes));
      grew = refl;
    })

-- what it draws
pub gave_draws : (m : Most) (g : Settings) (r : Ends) (t : There) (v v' : Seen) (w : Wire) (rest : Rest) (e : ℕ) (some : Bool) → v' ≡ record v { entries = v'.entries; spare = v'.spare } → w.known ≡ known.Accepted e → ServerAt g r t v w → Carried e m v v' w.down.rest rest some
    → Gave m g r t v v' w (record w { down = record w.down { rest = rest } }) some
gave_draws m g r t v v' w rest e some same is h k =
    let n = drawn r.client w.client in
    let frames = due g r.client w.client in
    let a = accepted t w.known e n frames v w.up is h.knows in
    let here : ServerAt g r (There.Accepted e) v w = subst (λ (u : There). ServerAt g r u v w) a.0 h in
    let q = drew_where (is_live (live v.entries) e) v.settings e m v.entries v'.entries k.draws in
    subst (λ (u : There). Gave m g r u v v' w (record w { down = record w.down { rest = rest } }) some) (sym a.0) (record {
      there = There.Accepted e;
      gives = (refl, k.draws);
      at = record { server = refl; link = refl; number = here.number; knows = knows_quiet (There.Accepted e) w.known n frames v v' w.up (settings_of v v' same) q.0 here.knows };
      piece = k.piece;
      bytes = k.gave;
      crossed = ap (λ (x : Rest). record w { down = record w.down { rest = x } }) k.crossed;
      grew = k.grew;
    })

refused_as : (t : There) (k : Known) (left : Left) (n : ℕ) (frames : List Frame) (v : Seen) (x : Crossing) → k ≡ known.Refused left → Knows t k n frames v x → (d : ℕ) × (t ≡ There.Refused d left.crossed) × (left.bytes ≡ framed_all (refused v.entries d)) × (left.crossed ≤ length left.bytes)
refused_as There.Nowhere k left n frames v x is h = absurd (subst (λ (j : Known). Knows There.Nowhere j n frames v x) is h)
refused_as (There.Accepted d) k left n frames v x is h = absurd (subst (λ (j : Known). Knows (There.Accepted d) j n frames v x) is h)
refused_as (There.Refused d m) k left n frames v x is h =
    let a = subst (λ (j : Known). Knows (There.Refused d m) j n frames v x) is h in
    (d, ap (λ (i : ℕ). There.Refused d i) (sym a.1), a.0, subst (λ (i : ℕ). i ≤ length left.bytes) (sym a.1) a.2)

pub left_within : (g : Settings) (r : Ends) (t : There) (v : Seen) (w : Wire) (left : Left) → w.known ≡ known.Refused left → ServerAt g r t v w → left.crossed ≤ length left.bytes
left_within g r t v w left is h = (refused_as t w.known left (drawn r.client w.client) (due g r.client w.client) v w.up is h.knows).3

-- what is left of the refusal
pub gave_refusal : (m : Most) (g : Settings) (r : Ends) (t : There) (v : Seen) (w : Wire) (left left' : Left) (rest : Rest) (some : Bool) → w.known ≡ known.Refused left → ServerAt g r t v w → Offered m left left' w.down.rest rest some
    → Gave m g r t v v w (record w { known = known.Refused left'; down = record w.down { rest = rest } }) some
gave_refusal m g r t v w left left' rest some is h k =
    let n = drawn r.client w.client in
    let frames = due g r.client w.client in
    let a = refused_as t w.known left n frames v w.up is h.knows in
    let d = a.0 in
    let next = left.crossed + at_most m (length (framed_all (refused v.entries d)) - left.crossed) in
    let crossed : left'.crossed ≡ next = k.crossed ∙ ap (λ (b : List ℕ). left.crossed + at_most m (length b - left.crossed)) a.2 in
    let whole : left'.bytes ≡ framed_all (refused v.entries d) = k.bytes ∙ a.2 in
    let here : ServerAt g r (There.Refused d left.crossed) v w = subst (λ (u : There). ServerAt g r u v w) a.1 h in
    subst (λ (u : There). Gave m g r u v v w (record w { known = known.Refused left'; down = record w.down { rest = rest } }) some) (sym a.1) (record {
      there = There.Refused d next;
      gives = (refl, refl);
      at = record { server = refl; link = refl; number = here.number; knows = (whole, crossed, subst (λ (i : ℕ). i ≤ length left'.bytes) crossed k.within) };
      piece = k.piece;
      bytes = ap (λ (i : ℕ). take i (framed_all (refused v.entries d))) (sym crossed) ∙ (ap (λ (b : List ℕ). take left'.crossed b) (sym a.2) ∙ (k.gave ∙ ap (λ (b : List ℕ). take left.crossed b ++ k.piece) a.2));
      crossed = ap (λ (x : Rest). record w { known = known.Refused left'; down = record w.down { rest = x } }) k.fed;
      grew = subst (λ (i : ℕ). Grew some left.crossed i) crossed k.grew;
    })

-- ---- the server cuts

pub cut_accepted : (g : Settings) (r : Ends) (t : There) (v : Seen) (w : Wire) (e : ℕ) → w.known ≡ known.Accepted e → ServerAt g r t v w → t ≡ There.Accepted e
cut_accepted g r t v w e is h = (accepted t w.known e (drawn r.client w.client) (due g r.client w.client) v w.up is h.knows).0

not_accepted : (t : There) (k : Known) (n : ℕ) (frames : List Frame) (v : Seen) (x : Crossing) → ((e : ℕ) → k ≡ known.Accepted e → is_live (live v.entries) e ≡ false) → Knows t k n frames v x → cuts_there v.settings t v.entries ≡ v.entries
not_accepted There.Nowhere k n frames v x out h = refl
not_accepted (There.Accepted d) (known.Accepted e) n frames v x out h =
    let off : is_live (live v.entries) d ≡ false = subst (λ (i : ℕ). is_live (live v.entries) i ≡ false) h.0 (out e refl) in
    ap (λ (b : Bool). cond b (adds v.settings v.entries (event.Cut d)) v.entries) off
not_accepted (There.Accepted d) known.Nothing n frames v x out h = absurd h
not_accepted (There.Accepted d) (known.Refused left) n frames v x out h = absurd h
not_accepted (There.Refused d m) k n frames v x out h = refl

pub not_cut : (g : Settings) (r : Ends) (t : There) (v : Seen) (w : Wire) → ((e : ℕ) → w.known ≡ known.Accepted e → is_live (live v.entries) e ≡ false) → ServerAt g r t v w → v.entries ≡ cuts_there v.settings t v.entries
not_cut g r t v w out h = sym (not_accepted t w.known (drawn r.client w.client) (due g r.client w.client) v w.up out h.knows)

is_here : (n e : ℕ) → n ≡ e → 0 < e → is_live n e ≡ true
is_here n e h1 h2 = grind (arith, nat_tests)

pub is_cut : (g : Settings) (r : Ends) (t : There) (v v' : Seen) (w : Wire) (e : ℕ) → w.known ≡ known.Accepted e → live v.entries ≡ e → ServerAt g r t v w → v'.entries ≡ adds v.settings v.entries (event.Cut e) → v'.entries ≡ cuts_there v.settings t v.entries
is_cut g r t v v' w e is here h now =
    let some = accepted_number g r t v w e is h in
    let on : is_live (live v.entries) e ≡ true = is_here (live v.entries) e here some in
    let at = cut_accepted g r t v w e is h in
    now ∙ (sym (ap (λ (b : Bool). cond b (adds v.settings v.entries (event.Cut e)) v.entries) on) ∙ ap (λ (u : There). cuts_there v.settings u v.entries) (sym at))
