-- A frame that comes on the live connection of an end whose session is not closed: what it is, from what its peer made and owed.
use Rattle.std.proofs.Common.{◌≡◌, ◌≤◌, ◌<◌, ◌+◌, ◌==◌, inl, inr, ℕ, Bool, true, false, cond, List, [], ◌∷◌, ◌++◌, Option, Some, None, is_some, refl, ap, sym, subst, ◌∙◌, append_assoc, arith}
use Rattle.std.proofs.lemmas.Grind.{common_steps}
use Rattle.std.proofs.lemmas.Bool.Decides.{nat_tests}
use Rattle.std.proofs.lemmas.List.Elements.{filter-append}
use Rattle.std.specs.List.{AllByRecursion}
use Rattle.rs_wire.specs.Settings.{IsChecked}
use Rattle.rs_wire.specs.declared.fault.Cause.{Cause}
use Rattle.rs_wire.specs.declared.words.Side.{Side}
use Rattle.rs_wire.specs.declared.words.Side.TheVariants.{Client, Server}
use Rattle.rs_wire.specs.declared.settings.Settings.{Settings}
use Rattle.rs_frame.specs.declared.frame.Frame.{Frame}
use Rattle.rs_frame.specs.declared.frame.Frame.TheVariants as frame
use Rattle.rs_frame.specs.declared.frame.Setup.{Setup}
use Rattle.rs_frame.specs.declared.frame.Resume.{Resume}
use Rattle.rs_frame.specs.Spelling.{is_resumable, length_of}
use Rattle.position.specs.Boundaries.{pos}
use Rattle.position.proofs.Boundaries.{pos-append}
use Rattle.tape.specs.declared.event.Event.{Event}
use Rattle.tape.specs.declared.event.Event.TheVariants as event
use Rattle.tape.specs.declared.answer.Answer.{Answer}
use Rattle.tape.specs.declared.entry.Entry.{Entry}
use Rattle.stream_model.specs.Known.{other_side}
use Rattle.session_model.specs.Lists.{IsPrefix}
use Rattle.session_model.specs.Life.{carrying, closed, is_live, live, openings}
use Rattle.session_model.specs.Frames.{brings, came, due, first_bad, handled, made, owes, refusal}
use Rattle.session_model.specs.Joined.{IsOpening, frames_offered, only, refused, refuses, unless_refused}
use Rattle.session_model.specs.Legal.{Legal}
use Rattle.session_model.specs.Answers.{peer_error}
use Rattle.session_model.proofs.Openings.{live_le}
use Rattle.session_laws.specs.Ends.{AreJoined}
use Rattle.session_laws.specs.Streams.{IsLawful}
use Rattle.session_laws.proofs.Counting.{counting}
use Rattle.session_laws.proofs.Crossing.{client_joins, crossed_down, crossed_up, handled_down, handled_up, no_client, search, server_joins}
use Rattle.session_laws.proofs.Follows.{begins_more, Answered, Asked, Begins, First, FollowsAt, Greeted, Joins, kept}
use Rattle.session_laws.proofs.FromClient.{Begun, Flow, Nothing, Resumed, Waiting, flows}
use Rattle.session_laws.proofs.FromServer.{Begun as Opened, Flow as ServerFlow, Nothing as Unopened, Resumed as Reopened, flows as server_flows}
use Rattle.session_laws.proofs.Lawful.{before_lawful}
use Rattle.session_laws.proofs.Life.{came_some}
use Rattle.session_laws.proofs.Prefixes.{prefix_cons, prefix_more, prefix_refl, prefix_trans}
use Rattle.honest_laws.proofs.Plain.{Begun as Set, Greeted as Headed, IsPlain, Line, Silent, all_both, all_last, line_rest, lines}

-- ---- what an arrival is

-- where a connection carries, no frame that begins one; where it waits, RESUME_OK
abbrev pub ComesNow : Bool → ℕ → Frame → Type 0
ComesNow true top f = IsPlain top f
ComesNow false top f = (p : ℕ) × (f ≡ frame.ResumeOk p)

-- a frame that comes at an end under settings g after these entries, from a peer under settings h with those
pub record Arrives (g h : Settings) (before peer : List Entry) (f : Frame) : Type 0 where
  pub sides : h.side ≡ other_side g.side
  pub checked : IsChecked g
  pub peer_checked : IsChecked h
  pub lawful : IsLawful g before
  pub peer_lawful : IsLawful h peer
  -- what counts of it is what the peer made next, after what this end handled
  pub next : IsPrefix (handled before ++ counting (f ∷ [])) (made h peer)
  -- the peer handled nothing but what this end had made
  pub heard : IsPrefix (handled peer) (made g before)
  pub now : ComesNow (carrying g before) (pos (made g before)) f

-- ---- the entries before it

pub earlier_joins : (g : Settings) (made : List Frame) (newer past : List Entry) → Joins g made (newer ++ past) → Joins g made past
unfolding came due
earlier_joins g made [] past joins = joins
earlier_joins g made (x ∷ newer) past joins = earlier_joins g made newer past (λ c base part p begins old.
    joins c base part (prefix_more part (came (newer ++ past) c) (brings (newer ++ past) c x.event) p)
    (begins_more g.side (came (newer ++ past) c) (due g (newer ++ past) c) base (brings (newer ++ past) c x.event) (owes g (newer ++ past) c x.answer x.event) begins) old)

pub came_grows : (newer past : List Entry) (c : ℕ) → IsPrefix (came past c) (came (newer ++ past) c)
unfolding came
came_grows [] past c = prefix_refl (came past c)
came_grows (x ∷ newer) past c = prefix_more (came past c) (came (newer ++ past) c) (brings (newer ++ past) c x.event) (came_grows newer past c)

due_grows : (g : Settings) (newer past : List Entry) (c : ℕ) → IsPrefix (due g past c) (due g (newer ++ past) c)
unfolding due
due_grows g [] past c = prefix_refl (due g past c)
due_grows g (x ∷ newer) past c = prefix_more (due g past c) (due g (newer ++ past) c) (owes g (newer ++ past) c x.answer x.event) (due_grows g newer past c)

-- ---- one end

-- an entry at which a frame comes on the live connection of a session that is not closed
pub record IsArrival (g : Settings) (before : List Entry) (x : Entry) (conn : ℕ) (f : Frame) : Type 0 where
  pub is : x.event ≡ event.Came conn f
  pub here : is_live (live before) conn ≡ true
  pub free : closed g before ≡ None
  pub error : peer_error f ≡ None

-- it comes after all that came there before, and what counts of it follows what was handled
pub record Comes (g : Settings) (made : List Frame) (before : List Entry) (x : Entry) (conn : ℕ) (f : Frame) : Type 0 where
  pub base : List Frame
  pub begins : Begins g.side (came before conn) (due g before conn) base
  pub brought : came (x ∷ before) conn ≡ came before conn ++ f ∷ []
  pub next : IsPrefix (handled before ++ counting (f ∷ [])) made

pub live_at : (now c : ℕ) → is_live now c ≡ true → (now ≡ c) × (0 < now)
live_at now c is = (grind (arith, nat_tests), grind (arith, nat_tests))

brings_one : (g : Settings) (past : List Entry) (conn : ℕ) (f : Frame) → Legal g past → is_live (live past) conn ≡ true → first_bad past conn ≡ None → brings past conn (event.Came conn f) ≡ f ∷ []
brings_one g past conn f legal here clean = let within = live_le g past legal in grind (arith, common_steps)

pub comes : (g : Settings) (made : List Frame) (before : List Entry) (x : Entry) (conn : ℕ) (f : Frame) → IsLawful g before → Joins g made (x ∷ before) → IsArrival g before x conn f → Comes g made before x conn f
unfolding came due
comes g made before x conn f lawful joins is =
    let k = kept g made before lawful.legal lawful.fair (earlier_joins g made (x ∷ []) before joins) in
    let at = live_at (live before) conn is.here in
    let w : FollowsAt g made before conn = subst (FollowsAt g made before) at.0 (k.here at.1 is.free) in
    let one : brings before conn x.event ≡ f ∷ [] = rw is.is (brings_one g before conn f lawful.legal is.here w.clean) in
    let all = came before conn ++ f ∷ [] in
    let brought : came before conn ++ brings before conn x.event ≡ all = ap (λ l. came before conn ++ l) one in
    let part : IsPrefix all (came (x ∷ before) conn) = subst (IsPrefix all) (sym brought) (prefix_refl all) in
    let begins = begins_more g.side (came before conn) (due g before conn) w.base (brings before conn x.event) (owes g before conn x.answer x.event) w.begins in
    let whole : IsPrefix (w.base ++ counting all) made = joins conn w.base all part begins w.old in
    record {
      base = w.base;
      begins = w.begins;
      brought = brought;
      next = subst (λ l. IsPrefix l made) (ap (λ l. w.base ++ l) (filter-append is_resumable (came before conn) (f ∷ [])) ∙ (sym (append_assoc w.base (counting (came before conn)) (counting (f ∷ []))) ∙ ap (λ l. l ++ counting (f ∷ [])) (sym w.taken))) whole;
    }

-- ---- positions

prefix_pos : (xs ys : List Frame) → IsPrefix xs ys → pos xs ≤ pos ys
prefix_pos xs ys p = let whole = pos-append length_of xs p.0 in let same = ap pos p.1 in omega (arith, whole, same)

-- ---- a frame that comes at a server

set_apart : (s : Setup) (r : Resume) → frame.Setup s ≡ frame.Resume r → ⊥
set_apart s r same = cc

server_carries : (owed made came : List Frame) (flowing : Bool) → ServerFlow owed made came true flowing → flowing ≡ true
server_carries owed made came flowing (Unopened e h) = absurd (cc)
server_carries owed made came flowing (Opened s rest c r h) = h refl
server_carries owed made came flowing (Reopened r told front sent rest c e at i h) = h refl

-- something came there before it
record BeganBy (came : List Frame) : Type 0 where
  first : Frame
  rest : List Frame
  brought : came ≡ first ∷ rest

began : (h : Settings) (came owed base : List Frame) → h.side ≡ Server → Begins h.side came owed base → BeganBy came
began h came owed base side (First s rest at c b) = record { first = frame.Setup s; rest = rest; brought = c }
began h came owed base side (Answered r rest more at c o) = record { first = frame.Resume r; rest = rest; brought = c }
began h came owed base side (Greeted s more at o b) = absurd (no_client h side at)
began h came owed base side (Asked r more at o b) = absurd (no_client h side at)

-- what stands after the first of what came is plain
follows_plain : (side : Side) (top : ℕ) (owed came back : List Frame) (here : Bool) (f : Frame) → Line side top owed back here → BeganBy came → IsPrefix (came ++ f ∷ []) owed → IsPlain top f
follows_plain side top owed came back here f line b p =
    let q : IsPrefix (b.first ∷ (b.rest ++ f ∷ [])) owed = subst (λ l. IsPrefix (l ++ f ∷ []) owed) b.brought p in
    all_last (IsPlain top) b.rest ((b.rest ++ f ∷ []) ++ q.0) f (line_rest side top owed back here b.first ((b.rest ++ f ∷ []) ++ q.0) line (sym q.1)) (q.0, refl)

opened_there : (past : List Entry) (d : ℕ) → BeganBy (came past d) → IsOpening past d
opened_there past d b = came_some past d b.first b.rest b.brought

-- what was there is there later
still_began : (came more : List Frame) → IsPrefix came more → BeganBy came → BeganBy more
still_began came more p b = record { first = b.first; rest = b.rest ++ p.0; brought = sym p.1 ∙ ap (λ l. l ++ p.0) b.brought }

now_plain : (carries : Bool) (top : ℕ) (f : Frame) → carries ≡ true → IsPlain top f → ComesNow carries top f
now_plain true top f on plain = plain
now_plain false top f on plain = absurd (cc)

pub server_arrives : (g h : Settings) (C newer before : List Entry) (x : Entry) (pair : ℕ → ℕ) (d : ℕ) (f : Frame) → AreJoined g h C (newer ++ x ∷ before) pair → IsArrival h before x d f
    → made h (newer ++ x ∷ before) ≡ made h before → Arrives h g before C f
server_arrives g h C newer before x pair d f j is same =
    let S = newer ++ x ∷ before in
    let e = j.ends in
    let lawful_there = before_lawful h newer (x ∷ before) (record { legal = e.server_legal; fair = e.server_fair }) in
    let lawful = before_lawful h (x ∷ []) before lawful_there in
    let c = comes h (made g C) before x d f lawful (earlier_joins h (made g C) newer (x ∷ before) (server_joins g h C S pair j)) is in
    let b = began h (came before d) (due h before d) c.base e.server c.begins in
    let all : IsPrefix (came before d ++ f ∷ []) (came S d) = subst (λ l. IsPrefix l (came S d)) c.brought (came_grows newer (x ∷ before) d) in
    let first : IsPrefix (came before d) (came before d ++ f ∷ []) = (f ∷ [], refl) in
    let opening = opened_there S d (still_began (came before d) (came S d) (prefix_trans (came before d) (came before d ++ f ∷ []) (came S d) first all) b) in
    let up = prefix_trans (came before d ++ f ∷ []) (came S d) (due g C (pair d)) all (crossed_up g h C S pair d j opening) in
    let heard : IsPrefix (handled C) (made h before) = subst (IsPrefix (handled C)) same (handled_down g h C S pair j) in
    let top = pos (made h before) in
    let line = lines g C (pair d) top e.client_checked e.client_legal e.client_fair (prefix_pos (handled C) (made h before) heard) in
    let flow = subst (λ v. ServerFlow (due h before d) (made h before) (came before d) v (carrying h before)) is.here (server_flows h before d e.server_checked lawful.legal lawful.fair e.server) in
    record {
      sides = rw (e.client, e.server) refl;
      checked = e.server_checked;
      peer_checked = e.client_checked;
      lawful = lawful;
      peer_lawful = record { legal = e.client_legal; fair = e.client_fair };
      next = c.next;
      heard = heard;
      now = now_plain (carrying h before) top f (server_carries (due h before d) (made h before) (came before d) (carrying h before) flow)
          (follows_plain g.side top (due g C (pair d)) (came before d) (came C (pair d)) (is_live (live C) (pair d)) f line b up);
    }

-- ---- a frame that comes at a client

-- the refusal of a connection is an ERROR on stream 0
refusal_errs : (a : Answer) → AllByRecursion (λ (f : Frame). is_some (peer_error f) ≡ true) (only (refusal a))
refusal_errs a = grind (arith, common_steps)

refuses_errs : (past : List Entry) (d : ℕ) (a : Answer) (e : Event) → AllByRecursion (λ (f : Frame). is_some (peer_error f) ≡ true) (refuses past d a e)
refuses_errs past d a (event.Open (Some f) taken) = elim (openings past + 1 == d) as (λ v. AllByRecursion (λ (f : Frame). is_some (peer_error f) ≡ true) (cond v (only (refusal a)) [])) [ true ↦ refusal_errs a | false ↦ tt ]
refuses_errs past d a e = tt

refused_errs : (past : List Entry) (d : ℕ) → AllByRecursion (λ (f : Frame). is_some (peer_error f) ≡ true) (refused past d)
unfolding refused
refused_errs [] d = tt
refused_errs (x ∷ past) d = all_both (λ (f : Frame). is_some (peer_error f) ≡ true) (refused past d) (refuses past d x.answer x.event) (refused_errs past d) (refuses_errs past d x.answer x.event)

-- so what comes and is none was due
was_due : (refusals due came : List Frame) (f : Frame) → AllByRecursion (λ (q : Frame). is_some (peer_error q) ≡ true) refusals → peer_error f ≡ None → IsPrefix (came ++ f ∷ []) (unless_refused refusals due refusals)
    → IsPrefix (came ++ f ∷ []) due
was_due [] owed came f errs none p = p
was_due (q ∷ qs) owed came f errs none p = let err = all_last (λ (k : Frame). is_some (peer_error k) ≡ true) came (q ∷ qs) f errs p in let no : is_some (peer_error f) ≡ false = rw none refl in absurd (cc)

-- the first of what came at the server is the first that was due at the client
abbrev SameFirst : List Frame → List Frame → Type 0
SameFirst there owed = (k o : Frame) (q more : List Frame) → there ≡ k ∷ q → owed ≡ o ∷ more → k ≡ o

not_empty : (came : List Frame) (f : Frame) (owed : List Frame) → IsPrefix (came ++ f ∷ []) owed → owed ≡ [] → ⊥
not_empty [] f owed p none = cc (p.1)
not_empty (x ∷ came) f owed p none = cc (p.1)

-- after SETUP all is plain
begun_plain : (top : ℕ) (owed came there : List Frame) (here : Bool) (f : Frame) (s : Setup) (sent greeted : List Frame) → Line Server top owed there here → IsPrefix (came ++ f ∷ []) owed
    → greeted ≡ frame.Setup s ∷ sent → SameFirst there greeted → IsPlain top f
begun_plain top owed came there here f s sent greeted (Silent e off) p g same = absurd (not_empty came f owed p e)
begun_plain top owed came there here f s sent greeted (Set q rest c all) p g same = all_last (IsPlain top) came owed f all p
begun_plain top owed came there here f s sent greeted (Headed (frame.Setup q) more e fits all) p g same = let no : Server ≡ Client = fits in absurd (cc)
begun_plain top owed came there here f s sent greeted (Headed (frame.Resume q) more e fits all) p g same = let no : Server ≡ Client = fits in absurd (cc)
begun_plain top owed came there here f s sent greeted (Headed (frame.ResumeOk position) more e fits all) p g same =
    absurd (set_apart s fits.0 (sym (same (frame.Resume fits.0) (frame.Setup s) fits.1 sent fits.2 g)))
begun_plain top owed came there here f s sent greeted (Headed q more e fits all) p g same = absurd fits

-- the first frame after RESUME is RESUME_OK
waits_ok : (top : ℕ) (owed there : List Frame) (here : Bool) (f : Frame) (r : Resume) (sent greeted : List Frame) → Line Server top owed there here → IsPrefix (f ∷ []) owed
    → greeted ≡ frame.Resume r ∷ sent → SameFirst there greeted → (p : ℕ) × (f ≡ frame.ResumeOk p)
waits_ok top owed there here f r sent greeted (Silent e off) p g same = absurd (not_empty [] f owed p e)
waits_ok top owed there here f r sent greeted (Set q rest c all) p g same = absurd (set_apart q r (same (frame.Setup q) (frame.Resume r) rest sent c g))
waits_ok top owed there here f r sent greeted (Headed (frame.Setup q) more e fits all) p g same = let no : Server ≡ Client = fits in absurd (cc)
waits_ok top owed there here f r sent greeted (Headed (frame.Resume q) more e fits all) p g same = let no : Server ≡ Client = fits in absurd (cc)
waits_ok top owed there here f r sent greeted (Headed (frame.ResumeOk position) more e fits all) p g same =
    (position, (prefix_cons f (frame.ResumeOk position) [] more (subst (IsPrefix (f ∷ [])) e p)).0)
waits_ok top owed there here f r sent greeted (Headed q more e fits all) p g same = absurd fits

-- what comes at a client, by what was due there and what came before
client_now : (top : ℕ) (greeted made came owed there : List Frame) (bad : Option ℕ) (flowing here : Bool) (f : Frame) → Flow greeted made came bad true flowing None → Line Server top owed there here
    → IsPrefix (came ++ f ∷ []) owed → SameFirst there greeted → ComesNow flowing top f
client_now top greeted made came owed there bad flowing here f (Nothing e h) line p same = absurd (cc)
client_now top greeted made came owed there bad flowing here f (Begun s sent e r h) line p same =
    now_plain flowing top f (h refl) (begun_plain top owed came there here f s sent greeted line p e same)
client_now top greeted made came owed there bad flowing here f (Waiting r sent e c h) line p same =
    let w = h refl in
    let first : IsPrefix (f ∷ []) owed = subst (λ l. IsPrefix (l ++ f ∷ []) owed) (w.none refl) p in
    subst (λ b. ComesNow b top f) (sym w.off) (waits_ok top owed there here f r sent greeted line first e same)
client_now top greeted made came owed there bad flowing here f (Resumed r p front sent rest e c at i h) line q same =
    now_plain flowing top f (h refl)
    (follows_plain Server top owed came there here f line (record { first = frame.ResumeOk p; rest = rest; brought = c }) q)

same_first : (xs ys zs : List Frame) → IsPrefix ys zs → IsPrefix xs zs → SameFirst xs ys
same_first xs ys zs p q k o a b x y =
    let left : k ∷ (a ++ q.0) ≡ zs = ap (λ l. l ++ q.0) (sym x) ∙ q.1 in
    let right : o ∷ (b ++ p.0) ≡ zs = ap (λ l. l ++ p.0) (sym y) ∙ p.1 in
    cc

paired_now : (g h : Settings) (newer before S : List Entry) (x : Entry) (pair : ℕ → ℕ) (d c : ℕ) (f : Frame) → AreJoined g h (newer ++ x ∷ before) S pair → IsArrival g before x c f → IsLawful g before
    → came (x ∷ before) c ≡ came before c ++ f ∷ [] → pos (handled S) ≤ pos (made g before) → IsOpening S d → pair d ≡ c → ComesNow (carrying g before) (pos (made g before)) f
paired_now g h newer before S x pair d c f j is lawful brought below opening paired =
    let C = newer ++ x ∷ before in
    let e = j.ends in
    let top = pos (made g before) in
    let all : IsPrefix (came before c ++ f ∷ []) (came C c) = subst (λ l. IsPrefix l (came C c)) brought (came_grows newer (x ∷ before) c) in
    let offered : IsPrefix (came C c) (frames_offered h S d) = subst (λ (n : ℕ). IsPrefix (came C n) (frames_offered h S d)) paired (crossed_down g h C S pair d j opening) in
    let down = was_due (refused S d) (due h S d) (came before c) f (refused_errs S d) is.error (prefix_trans (came before c ++ f ∷ []) (came C c) (frames_offered h S d) all offered) in
    let line = subst (λ (side : Side). Line side top (due h S d) (came S d) (is_live (live S) d)) e.server (lines h S d top e.server_checked e.server_legal e.server_fair below) in
    let up : IsPrefix (came S d) (due g C c) = subst (λ (n : ℕ). IsPrefix (came S d) (due g C n)) paired (crossed_up g h C S pair d j opening) in
    let grown : IsPrefix (due g before c) (due g C c) = subst (λ l. IsPrefix (due g before c) (due g l c)) (append_assoc newer (x ∷ []) before) (due_grows g (newer ++ x ∷ []) before c) in
    let flow : Flow (due g before c) (made g before) (came before c) (first_bad before c) true (carrying g before) None =
    subst (λ (w : Option Cause). Flow (due g before c) (made g before) (came before c) (first_bad before c) true (carrying g before) w) is.free
    (subst (λ (b : Bool). Flow (due g before c) (made g before) (came before c) (first_bad before c) b (carrying g before) (closed g before)) is.here
    (flows g before c e.client_checked lawful.legal lawful.fair e.client)) in
    client_now top (due g before c) (made g before) (came before c) (due h S d) (came S d) (first_bad before c) (carrying g before) (is_live (live S) d) f flow line down
    (same_first (came S d) (due g before c) (due g C c) grown up)

pub client_arrives : (g h : Settings) (newer before S : List Entry) (x : Entry) (pair : ℕ → ℕ) (c : ℕ) (f : Frame) → AreJoined g h (newer ++ x ∷ before) S pair → IsArrival g before x c f
    → made g (newer ++ x ∷ before) ≡ made g before → Arrives g h before S f
client_arrives g h newer before S x pair c f j is same =
    let C = newer ++ x ∷ before in
    let e = j.ends in
    let lawful_there = before_lawful g newer (x ∷ before) (record { legal = e.client_legal; fair = e.client_fair }) in
    let lawful = before_lawful g (x ∷ []) before lawful_there in
    let k = comes g (made h S) before x c f lawful (earlier_joins g (made h S) newer (x ∷ before) (client_joins g h C S pair j)) is in
    let heard : IsPrefix (handled S) (made g before) = subst (IsPrefix (handled S)) same (handled_up g h C S pair j) in
    let all : IsPrefix (came before c ++ f ∷ []) (came C c) = subst (λ l. IsPrefix l (came C c)) k.brought (came_grows newer (x ∷ before) c) in
    record {
      sides = rw (e.client, e.server) refl;
      checked = e.client_checked;
      peer_checked = e.server_checked;
      lawful = lawful;
      peer_lawful = record { legal = e.server_legal; fair = e.server_fair };
      next = k.next;
      heard = heard;
      now = elim (search (openings S) c pair) [
        | inl found ↦ paired_now g h newer before S x pair found.0 c f j is lawful k.brought (prefix_pos (handled S) (made g before) heard) (record { above = found.1; within = found.2 }) found.3
        | inr none ↦ absurd (not_empty (came before c) f (came C c) all (j.joined.unpaired c (λ d is. none d is.above is.within)).0)
      ];
    }
