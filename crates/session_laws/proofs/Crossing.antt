-- What crossed between the two ends of a session, from the frames that one end made to those that the other handled.
use Rattle.std.proofs.Common.{◌≡◌, ◌≢◌, ◌≤◌, ◌<◌, ◌==◌, ◌⊎◌, inl, inr, ℕ, Bool, true, false, zero, suc, List, [], ◌∷◌, ◌++◌, length, take, Option, refl, ap, subst, sym, ◌∙◌, append_assoc, append-nil, arith}
use Rattle.std.proofs.lemmas.Bool.{cases_lt}
use Rattle.std.proofs.lemmas.Bool.Decides.{nat_tests}
use Rattle.std.proofs.lemmas.List.{take_at}
use Rattle.rs_wire.specs.declared.words.Side.TheVariants.{Client, Server}
use Rattle.rs_wire.specs.declared.fault.Cause.{Cause}
use Rattle.rs_wire.specs.declared.settings.Settings.{Settings}
use Rattle.rs_frame.specs.declared.frame.Frame.{Frame}
use Rattle.rs_frame.specs.declared.frame.Frame.TheVariants as frame
use Rattle.rs_frame.specs.Spelling.{length_of}
use Rattle.tape.specs.declared.entry.Entry.{Entry}
use Rattle.position.specs.Boundaries.{pos, IsBoundary}
use Rattle.position.proofs.Held.{same_front}
use Rattle.session_model.specs.Lists.{IsPrefix}
use Rattle.session_model.specs.Life.{carrying, closed, is_live, live, openings}
use Rattle.session_model.specs.Frames.{came, drawn, due, first_bad, handled, made}
use Rattle.session_model.specs.Joined.{IsOpening, bytes_offered, frames_offered, refused, unless_refused}
use Rattle.session_laws.specs.Ends.{AreDrained, AreJoined}
use Rattle.session_laws.proofs.Counting.{counting, prefix_counting}
use Rattle.session_laws.proofs.Follows.{Answered, Asked, Begins, First, Greeted, Joins, Kept, kept}
use Rattle.session_laws.proofs.Framing.{frames_given}
use Rattle.session_laws.proofs.FromClient.{Begun, Flow, Nothing, Resumed, Waiting, flows}
use Rattle.session_laws.proofs.FromServer.{Begun as Opened, Flow as ServerFlow, Nothing as Unopened, Resumed as Reopened, flows as server_flows}
use Rattle.session_laws.proofs.Life.{came_some}
use Rattle.session_laws.proofs.Prefixes.{prefix_cons, prefix_of_none, prefix_refl, prefix_trans, prefix_under}
use Rattle.session_laws.proofs.Refused.{counted_offer, due_unrefused, offered_spelled, refused_spelled}
use Rattle.session_laws.proofs.Runs.{Runs}
use Rattle.session_laws.proofs.Spelled.{due_spelled, came_spelled}

-- ---- fronts

some_length : (f : Frame) → 0 < length_of f
some_length f = omega arith

-- of what was made, the front before what was sent and the one that was handled are one, where they have one position
one_front : (front sent base made : List Frame) (here : Bool) → Runs front sent made here → IsPrefix base made → pos front ≡ pos base → front ≡ base
one_front front sent base made here r old at =
    same_front length_of some_length front base (counting sent ++ r.part.0) old.0
    (sym (append_assoc front (counting sent) r.part.0) ∙ (r.part.1 ∙ sym old.1)) at

-- what counts of some first frames that were sent follows what was handled
follows_on : (front sent base part made : List Frame) (here : Bool) → Runs front sent made here → IsPrefix base made → pos front ≡ pos base
    → IsPrefix part (counting sent) → IsPrefix (base ++ part) made
follows_on front sent base part made here r old at p =
    subst (λ l. IsPrefix (l ++ part) made) (one_front front sent base made here r old at)
    (prefix_trans (front ++ part) (front ++ counting sent) made (prefix_under front part (counting sent) p) r.part)

-- the whole of it, where the connection is live
follows_whole : (front sent base made : List Frame) → Runs front sent made true → IsPrefix base made → pos front ≡ pos base → base ++ counting sent ≡ made
follows_whole front sent base made r old at =
    subst (λ l. l ++ counting sent ≡ made) (one_front front sent base made true r old at) (r.whole refl)

none_before : (base made : List Frame) → base ≡ [] → pos [] ≡ pos base
none_before base made none = sym (ap pos none)

-- ---- from client to server

-- the first frame that came at a server fits what was handled before it, and the RESUME_OK that came back
abbrev FitsBack : Frame → List Frame → List Frame → Type 0
FitsBack (frame.Setup s) base back = base ≡ []
FitsBack (frame.Resume r) base back = (k : Frame) (q : List Frame) → back ≡ k ∷ q → k ≡ frame.ResumeOk (pos base)
FitsBack f base back = ⊥

told_same : (p q : ℕ) → frame.ResumeOk p ≡ frame.ResumeOk q → p ≡ q
told_same p q same = cc

joins_up : (owed made back : List Frame) (bad : Option ℕ) (here flowing : Bool) (why : Option Cause) (first : Frame) (rest base : List Frame)
    → Flow owed made back bad here flowing why
    → IsPrefix (first ∷ rest) owed → FitsBack first base back → IsPrefix base made → IsPrefix (base ++ counting rest) made
joins_up owed made back bad here flowing why first rest base (Nothing e h) up fits old = absurd
    (cc (prefix_of_none (first ∷ rest) (subst (IsPrefix (first ∷ rest)) e up)))
joins_up owed made back bad here flowing why first rest base (Begun s sent e r h) up fits old =
    let t = prefix_cons first (frame.Setup s) rest sent (subst (IsPrefix (first ∷ rest)) e up) in
    let none : base ≡ [] = subst (λ f. FitsBack f base back) t.0 fits in
    follows_on [] sent base (counting rest) made here r old (none_before base made none) (prefix_counting rest sent t.1)
joins_up owed made back bad here flowing why first rest base (Waiting r sent e c h) up fits old =
    let t = prefix_cons first (frame.Resume r) rest sent (subst (IsPrefix (first ∷ rest)) e up) in
    let none = prefix_of_none (counting rest) (subst (IsPrefix (counting rest)) c (prefix_counting rest sent t.1)) in
    rw (none, append-nil base) old
joins_up owed made back bad here flowing why first rest base (Resumed r p front sent after e c at i h) up fits old =
    let t = prefix_cons first (frame.Resume r) rest sent (subst (IsPrefix (first ∷ rest)) e up) in
    let told = subst (λ f. FitsBack f base back) t.0 fits in
    let same : p ≡ pos base = told_same p (pos base) (told (frame.ResumeOk p) after c) in
    follows_on front sent base (counting rest) made here i old (at ∙ same) (prefix_counting rest sent t.1)

-- all that was due came there
whole_up : (owed made back : List Frame) (bad : Option ℕ) (flowing : Bool) (why : Option Cause) (first : Frame) (rest base : List Frame)
    → Flow owed made back bad true flowing why → flowing ≡ true
    → first ∷ rest ≡ owed → FitsBack first base back → IsPrefix base made → base ++ counting rest ≡ made
whole_up owed made back bad flowing why first rest base (Nothing e h) on all fits old = absurd (cc)
whole_up owed made back bad flowing why first rest base (Begun s sent e r h) on all fits old =
    let same = all ∙ e in
    let at : first ≡ frame.Setup s = cc in
    let tail : rest ≡ sent = cc in
    let none : base ≡ [] = subst (λ f. FitsBack f base back) at fits in
    ap (λ l. base ++ counting l) tail ∙ follows_whole [] sent base made r old (none_before base made none)
whole_up owed made back bad flowing why first rest base (Waiting r sent e c h) on all fits old = let off = (h refl).off in absurd (cc)
whole_up owed made back bad flowing why first rest base (Resumed r p front sent after e c q i h) on all fits old =
    let same = all ∙ e in
    let at : first ≡ frame.Resume r = cc in
    let tail : rest ≡ sent = cc in
    let told = subst (λ f. FitsBack f base back) at fits in
    let position : p ≡ pos base = told_same p (pos base) (told (frame.ResumeOk p) after c) in
    ap (λ l. base ++ counting l) tail ∙ follows_whole front sent base made i old (q ∙ position)

-- ---- from server to client

-- the first frame that is due at a client fits what was handled before it
abbrev FitsFirst : Frame → List Frame → Type 0
FitsFirst (frame.Setup s) base = base ≡ []
FitsFirst (frame.Resume r) base = r.server_position ≡ pos base
FitsFirst f base = ⊥

joins_down : (owed made back : List Frame) (here flowing : Bool) (first : Frame) (more part base : List Frame)
    → ServerFlow owed made back here flowing → IsPrefix back (first ∷ more) → FitsFirst first base
    → IsPrefix part (counting owed) → IsPrefix base made → IsPrefix (base ++ part) made
joins_down owed made back here flowing first more part base (Unopened e h) up fits p old =
    let none = prefix_of_none part (subst (λ l. IsPrefix part (counting l)) e p) in
    rw (none, append-nil base) old
joins_down owed made back here flowing first more part base (Opened s rest c r h) up fits p old =
    let t = prefix_cons (frame.Setup s) first rest more (subst (λ l. IsPrefix l (first ∷ more)) c up) in
    let none : base ≡ [] = subst (λ f. FitsFirst f base) (sym t.0) fits in
    follows_on [] owed base part made here r old (none_before base made none) p
joins_down owed made back here flowing first more part base (Reopened r told front sent rest c e at i h) up fits p old =
    let t = prefix_cons (frame.Resume r) first rest more (subst (λ l. IsPrefix l (first ∷ more)) c up) in
    let same : r.server_position ≡ pos base = subst (λ f. FitsFirst f base) (sym t.0) fits in
    follows_on front sent base part made here i old (at ∙ same) (subst (λ l. IsPrefix part (counting l)) e p)

whole_down : (owed made back : List Frame) (flowing : Bool) (first : Frame) (more base : List Frame) → ServerFlow owed made back true flowing
    → IsPrefix back (first ∷ more) → FitsFirst first base → IsPrefix base made
    → base ++ counting owed ≡ made
whole_down owed made back flowing first more base (Unopened e h) up fits old = absurd (cc)
whole_down owed made back flowing first more base (Opened s rest c r h) up fits old =
    let t = prefix_cons (frame.Setup s) first rest more (subst (λ l. IsPrefix l (first ∷ more)) c up) in
    let none : base ≡ [] = subst (λ f. FitsFirst f base) (sym t.0) fits in
    follows_whole [] owed base made r old (none_before base made none)
whole_down owed made back flowing first more base (Reopened r told front sent rest c e at i h) up fits old =
    let t = prefix_cons (frame.Resume r) first rest more (subst (λ l. IsPrefix l (first ∷ more)) c up) in
    let same : r.server_position ≡ pos base = subst (λ f. FitsFirst f base) (sym t.0) fits in
    ap (λ l. base ++ counting l) e ∙ follows_whole front sent base made i old (at ∙ same)

-- ---- the two ends

-- what came at the server on an opening is a prefix of what was due there at the client
pub crossed_up : (g h : Settings) (C S : List Entry) (pair : ℕ → ℕ) (d : ℕ) → AreJoined g h C S pair → IsOpening S d
    → IsPrefix (came S d) (due g C (pair d))
crossed_up g h C S pair d j is =
    let e = j.ends in
    let owed = due_spelled g C (pair d) e.client_checked e.client_legal e.client_fair in
    frames_given (drawn C (pair d)) (came S d) (due g C (pair d)) (came_spelled h S d e.server_fair) owed (j.joined.up d is).begins

-- what came at the client is a prefix of what the server offered there
pub crossed_down : (g h : Settings) (C S : List Entry) (pair : ℕ → ℕ) (d : ℕ) → AreJoined g h C S pair → IsOpening S d
    → IsPrefix (came C (pair d)) (frames_offered h S d)
crossed_down g h C S pair d j is =
    let e = j.ends in
    let owed = offered_spelled (refused S d) (due h S d) (due_spelled h S d e.server_checked e.server_legal e.server_fair) (refused_spelled S d) in
    frames_given (bytes_offered S d) (came C (pair d)) (frames_offered h S d) (came_spelled g C (pair d) e.client_fair) owed (j.joined.down d is).begins

-- where something is due at the server, the first frame that came back is the first that is due
first_back : (g h : Settings) (C S : List Entry) (pair : ℕ → ℕ) (d : ℕ) (o : Frame) (more : List Frame) → AreJoined g h C S pair → IsOpening S d
    → due h S d ≡ o ∷ more
    → (k : Frame) (q : List Frame) → came C (pair d) ≡ k ∷ q → k ≡ o
first_back g h C S pair d o more j is owed k q back =
    let none = due_unrefused h S d o more j.ends.server_legal owed in
    let offered = subst (λ l. IsPrefix (came C (pair d)) (unless_refused l (due h S d) l)) none (crossed_down g h C S pair d j is) in
    (prefix_cons k o q more (subst (λ l. IsPrefix (k ∷ q) l) owed (subst (λ l. IsPrefix l (due h S d)) back offered))).0

-- the first frame that came at the server, and all after it
record Opening (g h : Settings) (C S : List Entry) (pair : ℕ → ℕ) (d : ℕ) (base : List Frame) : Type 0 where
  first : Frame
  rest : List Frame
  is : IsOpening S d
  brought : came S d ≡ first ∷ rest
  fits : FitsBack first base (came C (pair d))
  uncounted : counting (first ∷ rest) ≡ counting rest

pub no_client : (h : Settings) → h.side ≡ Server → h.side ≡ Client → ⊥
no_client h is not = let same : Server ≡ Client = sym is ∙ not in absurd (cc)

begun_at : (g h : Settings) (C S : List Entry) (pair : ℕ → ℕ) (d : ℕ) (base : List Frame) → AreJoined g h C S pair
    → Begins h.side (came S d) (due h S d) base → Opening g h C S pair d base
begun_at g h C S pair d base j (First s rest at c b) =
    record { first = frame.Setup s; rest = rest; is = came_some S d (frame.Setup s) rest c; brought = c; fits = b; uncounted = refl }
begun_at g h C S pair d base j (Answered r rest more at c o) =
    let is = came_some S d (frame.Resume r) rest c in
    record {
      first = frame.Resume r;
      rest = rest;
      is = is;
      brought = c;
      fits = first_back g h C S pair d (frame.ResumeOk (pos base))
          more j is o;
      uncounted = refl;
    }
begun_at g h C S pair d base j (Greeted s more at o b) = absurd (no_client h j.ends.server at)
begun_at g h C S pair d base j (Asked r more at o b) = absurd (no_client h j.ends.server at)

-- what counts of some first frames, from what counts of all
fewer : (base part all made : List Frame) → IsPrefix part all → IsPrefix (base ++ counting all) made → IsPrefix (base ++ counting part) made
fewer base part all made p q =
    prefix_trans (base ++ counting part) (base ++ counting all) made (prefix_under base (counting part) (counting all) (prefix_counting part all p)) q

pub server_joins : (g h : Settings) (C S : List Entry) (pair : ℕ → ℕ) → AreJoined g h C S pair → Joins h (made g C) S
server_joins g h C S pair j d base part p begins old =
    let e = j.ends in
    let o = begun_at g h C S pair d base j begins in
    let c = pair d in
    let up = subst (λ l. IsPrefix l (due g C c)) o.brought (crossed_up g h C S pair d j o.is) in
    let all = joins_up (due g C c) (made g C) (came C c) (first_bad C c) (is_live (live C) c) (carrying g C) (closed g C) o.first o.rest base
    (flows g C c e.client_checked e.client_legal e.client_fair e.client) up o.fits old in
    fewer base part (came S d) (made g C) p (rw (o.brought, o.uncounted) all)

-- ---- the opening that is paired with a connection of the client

pub search : (n c : ℕ) (pair : ℕ → ℕ) → ((d : ℕ) × (0 < d) × (d ≤ n) × (pair d ≡ c)) ⊎ ((d : ℕ) → 0 < d → d ≤ n → pair d ≢ c)
search zero c pair = inr (λ d above within. absurd (omega arith))
search (suc n) c pair = elim (search n c pair) [
  | inl found ↦ inl (found.0, found.1, omega (arith, found.2), found.3)
  | inr none ↦ elim (pair (suc n) == c) as
      (λ v. (pair (suc n) == c) ≡ v → ((d : ℕ) × (0 < d) × (d ≤ suc n) × (pair d ≡ c)) ⊎ ((d : ℕ) → 0 < d → d ≤ suc n → pair d ≢ c)) [
        | true ↦ λ is. inl (suc n, omega arith, omega arith, grind (arith, nat_tests))
        | false ↦ λ is. inr (λ d above within. elim (cases_lt d (suc n)) [
          | inl less ↦ none d above (omega arith)
          | inr last ↦ λ same. let at : d ≡ suc n = omega arith in let paired : pair (suc n) ≡ c = ap pair (sym at) ∙ same in grind (arith, nat_tests)
        ])
      ] refl
]

-- the first frame that is due at the client
record Greeting (g : Settings) (C : List Entry) (c : ℕ) (base : List Frame) : Type 0 where
  first : Frame
  more : List Frame
  owed : due g C c ≡ first ∷ more
  fits : FitsFirst first base

pub no_server : (g : Settings) → g.side ≡ Client → g.side ≡ Server → ⊥
no_server g is not = let same : Client ≡ Server = sym is ∙ not in absurd (cc)

greeted_at : (g : Settings) (C : List Entry) (c : ℕ) (base : List Frame) → g.side ≡ Client → Begins g.side (came C c) (due g C c) base → Greeting g C c base
greeted_at g C c base side (First s rest at w b) = absurd (no_server g side at)
greeted_at g C c base side (Answered r rest more at w o) = absurd (no_server g side at)
greeted_at g C c base side (Greeted s more at o b) = record { first = frame.Setup s; more = more; owed = o; fits = b }
greeted_at g C c base side (Asked r more at o b) = record { first = frame.Resume r; more = more; owed = o; fits = b }

paired_joins : (g h : Settings) (C S : List Entry) (pair : ℕ → ℕ) (d : ℕ) (base : List Frame) → AreJoined g h C S pair → IsOpening S d
    → Begins g.side (came C (pair d)) (due g C (pair d)) base
    → IsPrefix base (made h S) → IsPrefix (base ++ counting (came C (pair d))) (made h S)
paired_joins g h C S pair d base j is begins old =
    let e = j.ends in
    let o = greeted_at g C (pair d) base e.client begins in
    joins_down (due h S d) (made h S) (came S d) (is_live (live S) d) (carrying h S) o.first o.more (counting (came C (pair d))) base
    (server_flows h S d e.server_checked e.server_legal e.server_fair e.server)
    (subst (λ l. IsPrefix (came S d) l) o.owed (crossed_up g h C S pair d j is)) o.fits
    (counted_offer S d (due h S d) (came C (pair d)) (crossed_down g h C S pair d j is)) old

pub client_joins : (g h : Settings) (C S : List Entry) (pair : ℕ → ℕ) → AreJoined g h C S pair → Joins g (made h S) C
client_joins g h C S pair j c base part p begins old = elim (search (openings S) c pair) [
  | inl found ↦
      let is : IsOpening S found.0 = record { above = found.1; within = found.2 } in
      let all : IsPrefix (base ++ counting (came C c)) (made h S) =
      subst (λ (n : ℕ). Begins g.side (came C n) (due g C n) base → IsPrefix (base ++ counting (came C n)) (made h S)) found.3
      (λ b. paired_joins g h C S pair found.0 base j is b old) begins in
      fewer base part (came C c) (made h S) p all
  | inr none ↦
      let nothing = (j.joined.unpaired c (λ d is. none d is.above is.within)).0 in
      let empty = prefix_of_none part (subst (IsPrefix part) nothing p) in
      rw (empty, append-nil base) old
]

-- ---- the prefix law

server_kept : (g h : Settings) (C S : List Entry) (pair : ℕ → ℕ) → AreJoined g h C S pair → Kept h (made g C) S
server_kept g h C S pair j = kept h (made g C) S j.ends.server_legal j.ends.server_fair (server_joins g h C S pair j)

client_kept : (g h : Settings) (C S : List Entry) (pair : ℕ → ℕ) → AreJoined g h C S pair → Kept g (made h S) C
client_kept g h C S pair j = kept g (made h S) C j.ends.client_legal j.ends.client_fair (client_joins g h C S pair j)

pub handled_up : (g h : Settings) (C S : List Entry) (pair : ℕ → ℕ) → AreJoined g h C S pair → IsPrefix (handled S) (made g C)
handled_up g h C S pair j = (server_kept g h C S pair j).all

pub handled_down : (g h : Settings) (C S : List Entry) (pair : ℕ → ℕ) → AreJoined g h C S pair → IsPrefix (handled C) (made h S)
handled_down g h C S pair j = (client_kept g h C S pair j).all

-- ---- boundaries

pub boundary : (xs ys : List Frame) → IsPrefix xs ys → IsBoundary ys (pos xs)
boundary xs ys p = (length xs, ap pos (ap (λ (l : List Frame). take (length xs) l) (sym p.1) ∙ take_at xs p.0 (length xs) refl))

-- ---- drained

live_at : (now c : ℕ) → is_live now c ≡ true → (now ≡ c) × (0 < now)
live_at now c is = (grind (arith, nat_tests), grind (arith, nat_tests))

pub drained_up : (g h : Settings) (C S : List Entry) (pair : ℕ → ℕ) (d : ℕ) → AreJoined g h C S pair → AreDrained g h C S (pair d) d → handled S ≡ made g C
drained_up g h C S pair d j all =
    let e = j.ends in
    let c = pair d in
    let here = live_at (live S) d all.at_server in
    let k = (server_kept g h C S pair j).here here.1 all.server_is_whole in
    let taken = subst (λ (n : ℕ). handled S ≡ k.base ++ counting (came S n)) here.0 k.taken in
    let begins = subst (λ (n : ℕ). Begins h.side (came S n) (due h S n) k.base) here.0 k.begins in
    let o = begun_at g h C S pair d k.base j begins in
    let flow = subst (λ b. Flow (due g C c) (made g C) (came C c) (first_bad C c) b (carrying g C) (closed g C)) all.at_client
    (flows g C c e.client_checked e.client_legal e.client_fair e.client) in
    let whole = whole_up (due g C c) (made g C) (came C c) (first_bad C c) (carrying g C) (closed g C) o.first o.rest k.base flow all.carries
    (sym o.brought ∙ all.up) o.fits k.old in
    taken ∙ (ap (λ l. k.base ++ counting l) o.brought ∙ (ap (λ l. k.base ++ l) o.uncounted ∙ whole))

pub drained_down : (g h : Settings) (C S : List Entry) (pair : ℕ → ℕ) (d : ℕ) → AreJoined g h C S pair → AreDrained g h C S (pair d) d → handled C ≡ made h S
drained_down g h C S pair d j all =
    let e = j.ends in
    let c = pair d in
    let here = live_at (live C) c all.at_client in
    let k = (client_kept g h C S pair j).here here.1 all.client_is_whole in
    let taken = subst (λ (n : ℕ). handled C ≡ k.base ++ counting (came C n)) here.0 k.taken in
    let begins = subst (λ (n : ℕ). Begins g.side (came C n) (due g C n) k.base) here.0 k.begins in
    let o = greeted_at g C c k.base e.client begins in
    let flow = subst (λ b. ServerFlow (due h S d) (made h S) (came S d) b (carrying h S)) all.at_server
    (server_flows h S d e.server_checked e.server_legal e.server_fair e.server) in
    let up : IsPrefix (came S d) (o.first ∷ o.more) = subst (IsPrefix (came S d)) (all.up ∙ o.owed) (prefix_refl (came S d)) in
    taken ∙ (ap (λ l. k.base ++ counting l) all.down ∙ whole_down (due h S d) (made h S) (came S d) (carrying h S) o.first o.more k.base flow up o.fits k.old)
