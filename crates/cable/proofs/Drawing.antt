-- Draws, one behind the other.
use Rattle.std.proofs.lemmas.Grind.{common_steps}
use Rattle.std.proofs.Common.{◌≡◌, ◌≤◌, ◌<◌, ◌+◌, ◌-◌, ◌==◌, ◌^◌, ℕ, Bool, true, false, cond, min, nat_lt, List, [], ◌∷◌, ◌++◌, length, take, drop, refl, ap, subst, sym, ◌∙◌, arith, append_assoc, append-nil}
use Rattle.std.proofs.lemmas.Bool.Decides.{nat_tests}
use Rattle.std.proofs.lemmas.Bool.{eq-eqb, ne_eqb}
use Rattle.std.proofs.Math.Seq.{take-add}
use Rattle.rs_wire.specs.declared.settings.Settings.{Settings}
use Rattle.rs_frame.specs.declared.frame.Frame.{Frame}
use Rattle.rs_frame.specs.Framed.{framed_all}
use Rattle.rs_chunk.specs.Rest.{Rest}
use Rattle.tape.specs.declared.event.Event.{Event}
use Rattle.tape.specs.declared.event.Event.TheVariants as event
use Rattle.tape.specs.declared.answer.Answer.{Answer}
use Rattle.tape.specs.declared.answer.Answer.TheVariants as answer
use Rattle.tape.specs.declared.entry.Entry.{Entry}
use Rattle.session_model.specs.Life.{is_live, live}
use Rattle.session_model.specs.Frames.{drawn, draws, due, given, queued}
use Rattle.session_model.specs.Answers.{answer_to, facts}
use Rattle.session_core.specs.Queued.{IfDrawn}
use Rattle.session_core.specs.Seen.{Seen, IsOrOutOfMemory, entries_after}
use Rattle.session_model.proofs.Queue.{drawn_owes}
use Rattle.cable.specs.declared.carrying.Most.{Most}
use Rattle.cable.specs.declared.carrying.Left.{Left}
use Rattle.cable.specs.Played.{DrawInSum, DrawsWhere, IsDraw, at_most}
use Rattle.cable.specs.Hearing.{Carried, Filled, Grew, IsNoWant, IsStale, Offered}
use Rattle.cable.proofs.Following.{noted}

-- ---- answers to draws

filling : (here : Bool) (room q m : ℕ) → here ≡ true → 0 < room → room ≤ q → cond here (cond (q == 0) answer.NotYet (answer.Drawn (min room q))) (answer.Stale m) ≡ answer.Drawn room
filling here room q m h1 h2 h3 = grind (arith, common_steps, ne_eqb)

fills : (g : Settings) (past : List Entry) (c room : ℕ) → is_live (live past) c ≡ true → 0 < room → room ≤ queued g past → answer_to g past (event.Draw c room) ≡ answer.Drawn room
unfolding facts
fills g past c room here some fits = filling (is_live (live past) c) room (queued g past) (live past) here some fits

pub filled : (v w : Seen) (c room : ℕ) (a : Answer) (buffer : List ℕ) → is_live (live v.entries) c ≡ true → 0 < room → room ≤ queued v.settings v.entries → IsNoWant a
    → IsOrOutOfMemory a (answer_to v.settings v.entries (event.Draw c room))
    → IfDrawn a (λ k. take k buffer ≡ take k (drop (drawn v.entries c) (framed_all (due v.settings v.entries c))))
    → w ≡ record v { entries = entries_after 0 (event.Draw c room) a v.entries; spare = w.spare }
    → Filled c v w room buffer
filled v w c room a buffer h1 h2 h3 h4 h5 h6 h7 = grind (arith, common_steps, fills)

pub staled : (v w : Seen) (c room : ℕ) (a : Answer) → is_live (live v.entries) c ≡ false → IsNoWant a
    → IsOrOutOfMemory a (answer_to v.settings v.entries (event.Draw c room))
    → w ≡ record v { entries = entries_after 0 (event.Draw c room) a v.entries; spare = w.spare }
    → IsStale c v w room
unfolding facts
staled v w c room a h1 h2 h3 h4 = grind (arith, common_steps)

-- ---- the entries of draws

more_front : (d n : ℕ) (fs more : List Frame) → more ≡ [] → take (d + n) (framed_all (fs ++ more)) ≡ take d (framed_all fs) ++ take n (drop d (framed_all fs))
more_front d n fs more none = ap (λ (m : List Frame). take (d + n) (framed_all (fs ++ m))) none ∙ (ap (λ (l : List Frame). take (d + n) (framed_all l)) (append-nil fs) ∙ take-add d n (framed_all fs))

here_draws : (c n : ℕ) (e : Event) (room : ℕ) → e ≡ event.Draw c room → draws c (answer.Drawn n) e ≡ n
here_draws c n e room is = ap (λ (v : Event). draws c (answer.Drawn n) v) is ∙ ap (λ (b : Bool). cond b n 0) (eq-eqb c c refl)

drawn_here : (past : List Entry) (c n : ℕ) → drawn (noted (event.Draw c n) (answer.Drawn n) ∷ past) c ≡ drawn past c + n
unfolding drawn
drawn_here past c n = ap (λ (k : ℕ). drawn past c + k) (here_draws c n (event.Draw c n) n refl)

given_here : (g : Settings) (past : List Entry) (c n : ℕ) → given g (noted (event.Draw c n) (answer.Drawn n) ∷ past) c ≡ given g past c ++ take n (drop (drawn past c) (framed_all (due g past c)))
unfolding due drawn
given_here g past c n = grind (arith, common_steps, here_draws, more_front, drawn_owes)

live_same : (past : List Entry) (c n : ℕ) → live (noted (event.Draw c n) (answer.Drawn n) ∷ past) ≡ live past
unfolding live
live_same past c n = refl

is_here : (n c : ℕ) → is_live n c ≡ true → n ≡ c
is_here n c h = grind (arith, nat_tests)

queued_on : (g : Settings) (past : List Entry) (c : ℕ) → live past ≡ c → queued g past ≡ length (framed_all (due g past c)) - drawn past c
unfolding queued
queued_on g past c is = ap (λ (k : ℕ). length (framed_all (due g past k)) - drawn past k) is

due_same : (g : Settings) (past : List Entry) (c n : ℕ) → due g (noted (event.Draw c n) (answer.Drawn n) ∷ past) c ≡ due g past c
unfolding due
due_same g past c n = ap (λ (l : List Frame). due g past c ++ l) (drawn_owes g past c n (event.Draw c n)) ∙ append-nil (due g past c)

queued_less : (g : Settings) (past : List Entry) (c n : ℕ) → is_live (live past) c ≡ true → n ≤ queued g past → queued g (noted (event.Draw c n) (answer.Drawn n) ∷ past) + n ≡ queued g past
queued_less g past c n here fits =
    let at : live past ≡ c = is_here (live past) c here in
    let now = queued_on g (noted (event.Draw c n) (answer.Drawn n) ∷ past) c (live_same past c n ∙ at) in
    let before = queued_on g past c at in
    let long : length (framed_all (due g (noted (event.Draw c n) (answer.Drawn n) ∷ past) c)) ≡ length (framed_all (due g past c)) = ap (λ (l : List Frame). length (framed_all l)) (due_same g past c n) in
    let more = drawn_here past c n in
    omega (arith, now, before, long, more, fits)

-- ---- draws so far

pub same_trans : (u v w : Seen) → v ≡ record u { entries = v.entries; spare = v.spare } → w ≡ record v { entries = w.entries; spare = w.spare } → w ≡ record u { entries = w.entries; spare = w.spare }
same_trans u v w h k = k ∙ ap (λ (x : Seen). record x { entries = w.entries; spare = w.spare }) h

pub record Drew (g : Settings) (c : ℕ) (past now : List Entry) (start rest : Rest) (n : ℕ) : Type 0 where
  pub drawing : List Entry
  pub now_is : now ≡ drawing ++ past
  pub sum : DrawInSum g c drawing past n
  pub here : is_live (live now) c ≡ true
  pub less : queued g now + n ≡ queued g past
  pub count : drawn now c ≡ drawn past c + n
  pub piece : List ℕ
  pub gave : given g now c ≡ given g past c ++ piece
  pub crossed : rest ≡ record start { bytes = start.bytes ++ piece }

pub none_drew : (g : Settings) (c : ℕ) (past : List Entry) (rest : Rest) → is_live (live past) c ≡ true → Drew g c past past rest rest 0
unfolding DrawInSum
none_drew g c past rest here = record {
  drawing = [];
  now_is = refl;
  sum = refl;
  here = here;
  less = omega arith;
  count = omega arith;
  piece = [];
  gave = sym (append-nil (given g past c));
  crossed = ap (λ (l : List ℕ). record rest { bytes = l }) (sym (append-nil rest.bytes));
}

drew_one : (g : Settings) (c : ℕ) (past now : List Entry) (start rest rest' : Rest) (n room : ℕ) (buffer : List ℕ) → Drew g c past now start rest n → 0 < room → room < 2 ^ 32 → room ≤ queued g now
    → take room buffer ≡ take room (drop (drawn now c) (framed_all (due g now c))) → rest' ≡ record rest { bytes = rest.bytes ++ take room buffer } → Drew g c past (noted (event.Draw c room) (answer.Drawn room) ∷ now) start rest' (n + room)
unfolding DrawInSum
drew_one g c past now start rest rest' n room buffer d some few fits bytes fed =
    let x : Entry = noted (event.Draw c room) (answer.Drawn room) in
    let one : IsDraw g c now x (answer.Drawn room) = record { room = room; some = some; few = few; entry = refl; right = sym (fills g now c room d.here some fits) } in
    let less : queued g (x ∷ now) + room ≡ queued g now = queued_less g now c room d.here fits in
    let count : drawn (x ∷ now) c ≡ drawn now c + room = drawn_here now c room in
    record {
      drawing = x ∷ d.drawing;
      now_is = ap (λ (l : List Entry). x ∷ l) d.now_is;
      sum = (room, n, d.sum, subst (λ (l : List Entry). IsDraw g c l x (answer.Drawn room)) d.now_is one, refl);
      here = ap (λ (k : ℕ). is_live k c) (live_same now c room) ∙ d.here;
      less = omega (arith, less, d.less);
      count = omega (arith, count, d.count);
      piece = d.piece ++ take room buffer;
      gave = given_here g now c room ∙ (ap (λ (l : List ℕ). given g now c ++ l) (sym bytes) ∙ (ap (λ (l : List ℕ). l ++ take room buffer) d.gave ∙ append_assoc (given g past c) d.piece (take room buffer)));
      crossed = fed ∙ (ap (λ (r : Rest). record r { bytes = r.bytes ++ take room buffer }) d.crossed ∙ ap (λ (l : List ℕ). record start { bytes = l }) (append_assoc start.bytes d.piece (take room buffer)));
    }

pub drew_more : (u v w : Seen) (c : ℕ) (start rest rest' : Rest) (n room : ℕ) (buffer : List ℕ) → v ≡ record u { entries = v.entries; spare = v.spare } → Drew u.settings c u.entries v.entries start rest n → 0 < room → room < 2 ^ 32 → room ≤ queued u.settings v.entries
    → Filled c v w room buffer → rest' ≡ record rest { bytes = rest.bytes ++ take room buffer } → Drew u.settings c u.entries w.entries start rest' (n + room)
drew_more u v w c start rest rest' n room buffer h1 h2 h3 h4 h5 h6 h7 = grind (arith, common_steps, drew_one)

pub carried_stale : (u v : Seen) (c : ℕ) (m : Most) (rest : Rest) (room : ℕ) → is_live (live u.entries) c ≡ false → 0 < room → room < 2 ^ 32 → IsStale c u v room → Carried c m u v rest rest false
unfolding drawn due facts
carried_stale u v c m rest room h1 h2 h3 h4 = grind (arith, common_steps)

grew_by : (m n k : ℕ) (some : Bool) → n ≡ m + k → some ≡ nat_lt 0 k → Grew some m n
grew_by m n k some h1 h2 = grind (arith, common_steps, nat_tests)

-- all of it was drawn
pub carried_all : (u v : Seen) (c : ℕ) (m : Most) (start rest : Rest) (n : ℕ) (some : Bool) → is_live (live u.entries) c ≡ true → n ≡ at_most m (queued u.settings u.entries) → some ≡ nat_lt 0 n → Drew u.settings c u.entries v.entries start rest n → Carried c m u v start rest some
carried_all u v c m start rest n some here total is d = record {
  draws = subst (λ (b : Bool). DrawsWhere b u.settings c m u.entries v.entries) (sym here) (d.drawing, subst (DrawInSum u.settings c d.drawing u.entries) total d.sum, d.now_is);
  piece = d.piece;
  gave = d.gave;
  crossed = d.crossed;
  grew = grew_by (drawn u.entries c) (drawn v.entries c) n some d.count is;
}

pub lesser_below : (m : Most) (n waits : ℕ) → n ≡ at_most m waits → n ≤ waits
lesser_below m n waits h1 = grind (arith, common_steps)

taken_more : (m n : ℕ) (bytes : List ℕ) → m ≤ n → take n bytes ≡ take m bytes ++ take (n - m) (drop m bytes)
taken_more m n bytes le =
    let sum : m + (n - m) ≡ n = omega (arith, le) in
    ap (λ (k : ℕ). take k bytes) (sym sum) ∙ take-add m (n - m) bytes

-- ---- what is left of a refusal

pub offered_more : (m : Most) (l k : Left) (start rest : Rest) (count end waits : ℕ) (some : Bool) (piece : List ℕ) → l.crossed ≤ length l.bytes → waits ≡ length l.bytes - l.crossed → count ≡ at_most m waits → end ≡ l.crossed + count → piece ≡ take (end - l.crossed) (drop l.crossed l.bytes) → some ≡ nat_lt 0 count
    → k ≡ record l { crossed = end } → rest ≡ record start { bytes = start.bytes ++ piece } → Offered m l k start rest some
offered_more m l k start rest count end waits some piece within waits_is count_is end_is piece_is is k_is fed =
    let bytes : k.bytes ≡ l.bytes = ap (λ (x : Left). x.bytes) k_is in
    let crossed : k.crossed ≡ end = ap (λ (x : Left). x.crossed) k_is in
    let below = lesser_below m count waits count_is in
    let most : end ≤ length l.bytes = omega (arith, within, waits_is, below, end_is) in
    record {
      bytes = bytes;
      crossed = crossed ∙ (end_is ∙ ap (λ (n : ℕ). l.crossed + n) (count_is ∙ ap (at_most m) waits_is));
      within = omega (arith, crossed, most, ap length bytes);
      piece = piece;
      gave = ap (λ (n : ℕ). take n l.bytes) crossed ∙ (taken_more l.crossed end l.bytes (omega (arith, end_is)) ∙ ap (λ (p : List ℕ). take l.crossed l.bytes ++ p) (sym piece_is));
      fed = fed;
      grew = grew_by l.crossed k.crossed count some (crossed ∙ end_is) is;
    }
