-- What crosses, while both ends go on.
use Rattle.std.proofs.lemmas.Grind.{common_steps}
use Rattle.std.proofs.Common.{◌≡◌, ◌≢◌, ◌≤◌, ℕ, Bool, true, false, is_none, is_some, List, [], ◌∷◌, ◌++◌, length, take, drop, refl, ap, sym, ◌∙◌, append_assoc, arith}
use Rattle.std.proofs.lemmas.Bool.{ne_eqb}
use Rattle.std.proofs.lemmas.List.{take-append-le}
use Rattle.rs_wire.specs.declared.settings.Settings.{Settings}
use Rattle.rs_frame.specs.declared.frame.Frame.{Frame}
use Rattle.rs_frame.specs.Framed.{framed_all}
use Rattle.rs_chunk.specs.Rest.{Rest}
use Rattle.tape.specs.declared.entry.Entry.{Entry}
use Rattle.tape.specs.declared.event.Event.TheVariants as event
use Rattle.tape.specs.declared.answer.Answer.{Answer}
use Rattle.tape.specs.declared.answer.Answer.TheVariants as answer
use Rattle.tape.specs.Answers.{leaves}
use Rattle.session_model.specs.Answers.{answer_to}
use Rattle.session_model.specs.Frames.{came, drawn, draws, due, first_bad, given}
use Rattle.session_laws.proofs.Framing.{AreSpellable}
use Rattle.session_model.proofs.Queue.{framed_all-append}
use Rattle.cable.specs.declared.arrival.Arrival.{Arrival}
use Rattle.cable.specs.declared.carrying.Most.{Most}
use Rattle.cable.specs.Played.{DrawInSum, DrawsWhere, IsDraw, answered, arrivals, arrivals_in, crossed, event_of, hears, takes}
use Rattle.cable.specs.Hearing.{CrossedTo}
use Rattle.cable.proofs.Crosses.{crossed_more, wholes}
use Rattle.cable.proofs.Grows.{Quiet, Sends, either, opened_still}

-- ---- the sender goes on

parts_more : (most n n' : ℕ) (frames frames' more came : List Frame) (items : List Arrival) → frames' ≡ frames ++ more → n ≤ n' → wholes came ++ items ≡ crossed most n frames → (items' : List Arrival) × (wholes came ++ items' ≡ crossed most n' frames')
parts_more most n n' frames frames' more came items is le e =
    let p = crossed_more most n n' frames more le in
    (items ++ p.0, sym (append_assoc (wholes came) items p.0) ∙ (ap (λ (l : List Arrival). l ++ p.0) e ∙ (p.1 ∙ ap (crossed most n') (sym is))))

-- more frames and more of their bytes crossed
pub crosses_on : (h : Settings) (d n n' : ℕ) (frames frames' more : List Frame) (S : List Entry) (rest rest' : Rest) (over : Bool) (piece : List ℕ) → frames' ≡ frames ++ more → n ≤ n' → AreSpellable frames' → take n' (framed_all frames') ≡ take n (framed_all frames) ++ piece → rest' ≡ record rest { bytes = rest.bytes ++ piece }
    → CrossedTo h d n frames S rest over → CrossedTo h d n' frames' S rest' over
crosses_on h d n n' frames frames' more S rest rest' over piece is le spelled gave fed x = record {
  ahead = record { longest = ap (λ (r : Rest). r.max_in) fed ∙ x.ahead.longest; below = x.ahead.below; spellable = spelled };
  opened = x.opened;
  bytes = gave ∙ (ap (λ (l : List ℕ). l ++ piece) x.bytes ∙ (append_assoc (framed_all (came S d)) rest.bytes piece ∙ ap (λ (r : Rest). framed_all (came S d) ++ r.bytes) (sym fed)));
  bad = x.bad;
  parts = λ none. let items = x.parts none in parts_more h.max_in n n' frames frames' more (came S d) items.0 is le items.1;
}

pub crosses_more : (g h : Settings) (c d : ℕ) (C C' S : List Entry) (rest rest' : Rest) (over : Bool) (piece : List ℕ) → Sends g c C C' → AreSpellable (due g C' c) → given g C' c ≡ given g C c ++ piece → rest' ≡ record rest { bytes = rest.bytes ++ piece } → CrossedTo h d (drawn C c) (due g C c) S rest over → CrossedTo h d (drawn C' c) (due g C' c) S rest' over
crosses_more g h c d C C' S rest rest' over piece z spelled gave fed x = crosses_on h d (drawn C c) (drawn C' c) (due g C c) (due g C' c) z.more S rest rest' over piece z.due_is z.drawn_most spelled gave fed x

-- it goes on, and draws nothing
pub still_given : (g : Settings) (c : ℕ) (C C' : List Entry) → Sends g c C C' → drawn C' c ≡ drawn C c → drawn C c ≤ length (framed_all (due g C c)) → given g C' c ≡ given g C c ++ []
still_given g c C C' h1 h2 h3 = grind (arith, common_steps, framed_all-append, take-append-le)

-- ---- the hearer goes on, and nothing comes

pub crosses_quiet : (g : Settings) (c n : ℕ) (frames : List Frame) (past past' : List Entry) (rest : Rest) (over : Bool) → Quiet past past' → CrossedTo g c n frames past rest over → CrossedTo g c n frames past' rest over
crosses_quiet g c n frames past past' rest over q x =
    let m = q.same c in
    record {
      ahead = x.ahead;
      opened = opened_still c past past' q.openings_are x.opened;
      bytes = x.bytes ∙ ap (λ (l : List Frame). framed_all l ++ rest.bytes) (sym m.came_is);
      bad = x.bad ∙ ap is_some (sym m.bad_is);
      parts = λ none. let items = x.parts (sym m.bad_is ∙ none) in (items.0, ap (λ (l : List Frame). wholes l ++ items.0) m.came_is ∙ items.1);
    }

-- ---- what comes draws nothing

no_draws : (e c : ℕ) (a : Answer) (x : Arrival) → draws e a (event_of c x) ≡ 0
no_draws e c a x = grind (arith, common_steps)

takes_drawn : (g : Settings) (c e : ℕ) (items : List Arrival) (past : List Entry) → drawn (takes g c items past) e ≡ drawn past e
unfolding takes drawn
takes_drawn g c e [] past = refl
takes_drawn g c e (x ∷ more) past =
    let none = no_draws e c (answer_to g past (event_of c x)) x in
    let next = answered g past (event_of c x) ∷ past in
    either (λ l. drawn l e ≡ drawn past e) (leaves (answer_to g past (event_of c x))) (takes g c more next) past
    (λ t. let rest = takes_drawn g c e more next in omega (arith, rest, none)) (λ f. refl)

pub hears_drawn : (g : Settings) (c e n : ℕ) (frames : List Frame) (past : List Entry) → drawn (hears g c n frames past) e ≡ drawn past e
hears_drawn g c e n frames past =
    either (λ l. drawn l e ≡ drawn past e) (is_none (first_bad past c)) (takes g c (drop (length (came past c)) (crossed g.max_in n frames)) past) past
    (λ t. takes_drawn g c e (drop (length (came past c)) (crossed g.max_in n frames)) past) (λ f. refl)

-- ---- draws bring nothing

draw_arrives : (g : Settings) (c : ℕ) (past : List Entry) (x : Entry) (a : Answer) → IsDraw g c past x a → arrivals (x ∷ past) ≡ arrivals past
unfolding arrivals
draw_arrives g c past x a d = let none : arrivals_in x.event ≡ 0 = ap (λ (y : Entry). arrivals_in y.event) d.entry in omega (arith, none)

draws_arrive : (g : Settings) (c : ℕ) (drawing past : List Entry) (n : ℕ) → DrawInSum g c drawing past n → arrivals (drawing ++ past) ≡ arrivals past
unfolding DrawInSum
draws_arrive g c [] past n d = refl
draws_arrive g c (x ∷ drawing) past n d = draw_arrives g c (drawing ++ past) x (answer.Drawn d.0) d.3 ∙ draws_arrive g c drawing past d.1 d.2

pub drew_arrivals : (here : Bool) (g : Settings) (c : ℕ) (m : Most) (past past' : List Entry) → DrawsWhere here g c m past past' → arrivals past' ≡ arrivals past
drew_arrivals true g c m past past' d = ap arrivals d.2 ∙ draws_arrive g c d.0 past _ d.1
drew_arrivals false g c m past past' d = ap arrivals d.2 ∙ draw_arrives g c past d.0 _ d.1

-- draws on another connection

draws_nothing : (e c : ℕ) (a : Answer) (room : ℕ) → e ≢ c → draws e a (event.Draw c room) ≡ 0
draws_nothing e c a room h1 = grind (arith, common_steps, ne_eqb)

draw_elsewhere : (g : Settings) (c e : ℕ) (past : List Entry) (x : Entry) (a : Answer) → e ≢ c → IsDraw g c past x a → drawn (x ∷ past) e ≡ drawn past e
unfolding drawn
draw_elsewhere g c e past x a far d =
    let none : draws e x.answer x.event ≡ 0 = ap (λ (y : Entry). draws e y.answer y.event) d.entry ∙ draws_nothing e c a d.room far in
    omega (arith, none)

draws_elsewhere : (g : Settings) (c e : ℕ) (drawing past : List Entry) (n : ℕ) → e ≢ c → DrawInSum g c drawing past n → drawn (drawing ++ past) e ≡ drawn past e
unfolding DrawInSum
draws_elsewhere g c e [] past n far d = refl
draws_elsewhere g c e (x ∷ drawing) past n far d = draw_elsewhere g c e (drawing ++ past) x (answer.Drawn d.0) far d.3 ∙ draws_elsewhere g c e drawing past d.1 far d.2

pub drew_elsewhere : (here : Bool) (g : Settings) (c e : ℕ) (m : Most) (past past' : List Entry) → e ≢ c → DrawsWhere here g c m past past' → drawn past' e ≡ drawn past e
drew_elsewhere true g c e m past past' far d = ap (λ (l : List Entry). drawn l e) d.2 ∙ draws_elsewhere g c e d.0 past _ far d.1
drew_elsewhere false g c e m past past' far d = ap (λ (l : List Entry). drawn l e) d.2 ∙ draw_elsewhere g c e past d.0 _ far d.1
