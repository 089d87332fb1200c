-- What more entries change of what an end sends, and of what it heard.
use Rattle.std.proofs.lemmas.Grind.{common_steps}
use Rattle.std.proofs.Common.{◌≡◌, ◌≢◌, ◌≤◌, ◌==◌, ◌&&◌, ◌||◌, ℕ, Bool, true, false, cond, nat_lt, nat_le, is_none, List, [], ◌∷◌, ◌++◌, length, drop, Option, Some, None, refl, ap, subst, sym, ◌∙◌, arith, append_assoc, append-nil}
use Rattle.std.proofs.lemmas.Bool.{eq-eqb, ne_eqb}
use Rattle.std.proofs.Math.Seq.{drop-append_seam}
use Rattle.rs_wire.specs.declared.settings.Settings.{Settings}
use Rattle.rs_wire.specs.declared.call.Call.{Call}
use Rattle.rs_frame.specs.declared.frame.Frame.{Frame}
use Rattle.tape.specs.declared.event.Event.{Event}
use Rattle.tape.specs.declared.event.Event.TheVariants as event
use Rattle.tape.specs.declared.answer.Answer.{Answer}
use Rattle.tape.specs.declared.answer.Answer.TheVariants as answer
use Rattle.tape.specs.declared.entry.Entry.{Entry}
use Rattle.session_model.specs.Life.{openings, openings_in}
use Rattle.session_model.specs.Frames.{came, brings, first_bad, bad_in, was_opened, due, owes, drawn}
use Rattle.session_model.specs.Answers.{answer_to}
use Rattle.session_model.specs.Joined.{is_accepted, opens_as, refused, refuses}
use Rattle.session_model.specs.declared.numbers.TheConstants.{LONG_FRAME}
use Rattle.cable.specs.declared.carrying.Most.{Most}
use Rattle.cable.specs.declared.arrival.Arrival.{Arrival}
use Rattle.cable.specs.declared.arrival.Arrival.TheVariants as arrival
use Rattle.cable.specs.Played.{DrawInSum, DrawsWhere, IsDraw, answered, crossed, event_of, hears, takes}
use Rattle.tape.specs.Answers.{leaves}
use Rattle.cable.proofs.Crosses.{Heard, last_is_too_long, wholes}

-- ---- what it sends

-- what is due on connection c went on, and no fewer bytes were drawn
pub record Sends (g : Settings) (c : ℕ) (past past' : List Entry) : Type 0 where
  pub more : List Frame
  pub due_is : due g past' c ≡ due g past c ++ more
  pub drawn_most : drawn past c ≤ drawn past' c

pub record Goes (g : Settings) (past past' : List Entry) : Type 0 where
  pub sends : (c : ℕ) → Sends g c past past'
  pub accepted : (c : ℕ) → is_accepted past c ≡ true → is_accepted past' c ≡ true
  pub openings_most : openings past ≤ openings past'

pub goes_not : (g : Settings) (past : List Entry) → Goes g past past
goes_not g past = grind (arith, common_steps)

or_true : (a b : Bool) → a ≡ true → (a || b) ≡ true
or_true a b h1 = grind (arith, common_steps)

pub goes_one : (g : Settings) (x : Entry) (past : List Entry) → Goes g past (x ∷ past)
unfolding due drawn is_accepted openings
goes_one g x past = record {
  sends = λ c. record { more = owes g past c x.answer x.event; due_is = refl; drawn_most = omega arith };
  accepted = λ c h. or_true (is_accepted past c) (opens_as c x.answer) h;
  openings_most = omega arith;
}

sends_on : (g : Settings) (c : ℕ) (a b d : List Entry) → Sends g c a b → Sends g c b d → Sends g c a d
sends_on g c a b d h1 h2 = grind (arith, common_steps)

pub goes_on : (g : Settings) (a b d : List Entry) → Goes g a b → Goes g b d → Goes g a d
goes_on g a b d h k = record {
  sends = λ c. sends_on g c a b d (h.sends c) (k.sends c);
  accepted = λ c e. k.accepted c (h.accepted c e);
  openings_most = omega (arith, h.openings_most, k.openings_most);
}

-- ---- what it heard

-- what came on connection c, and how often the end was opened, is as before
pub record Same (c : ℕ) (past past' : List Entry) : Type 0 where
  pub came_is : came past' c ≡ came past c
  pub bad_is : first_bad past' c ≡ first_bad past c

same_on : (c : ℕ) (a b d : List Entry) → Same c a b → Same c b d → Same c a d
same_on c a b d h k = record { came_is = k.came_is ∙ h.came_is; bad_is = k.bad_is ∙ h.bad_is }

-- nothing came, and nothing was refused
pub record Quiet (past past' : List Entry) : Type 0 where
  pub same : (c : ℕ) → Same c past past'
  pub openings_are : openings past' ≡ openings past
  pub refused_are : (d : ℕ) → refused past' d ≡ refused past d

pub quiet_not : (past : List Entry) → Quiet past past
quiet_not past = record { same = λ c. record { came_is = refl; bad_is = refl }; openings_are = refl; refused_are = λ d. refl }

quiet_on : (a b d : List Entry) → Quiet a b → Quiet b d → Quiet a d
quiet_on a b d h k = record { same = λ c. same_on c a b d (h.same c) (k.same c); openings_are = k.openings_are ∙ h.openings_are; refused_are = λ e. k.refused_are e ∙ h.refused_are e }

pub same_step : (c : ℕ) (x : Entry) (past : List Entry) → brings past c x.event ≡ [] → bad_in past c x.event ≡ None → Same c past (x ∷ past)
unfolding came first_bad
same_step c x past h1 h2 = grind (arith, common_steps)

refuses_none : (past : List Entry) (d : ℕ) (a : Answer) (e : Event) → openings_in e ≡ 0 → refuses past d a e ≡ []
refuses_none past d a e h1 = grind (arith, common_steps)

-- what opens nothing refuses nothing
pub refused_step : (x : Entry) (past : List Entry) (d : ℕ) → openings_in x.event ≡ 0 → refused (x ∷ past) d ≡ refused past d
unfolding refused
refused_step x past d o = ap (λ (l : List Frame). refused past d ++ l) (refuses_none past d x.answer x.event o) ∙ append-nil (refused past d)

-- an entry of a call, a draw, a cut or a moment
pub quiet_one : (x : Entry) (past : List Entry) → ((c : ℕ) → brings past c x.event ≡ []) → ((c : ℕ) → bad_in past c x.event ≡ None) → openings_in x.event ≡ 0 → Quiet past (x ∷ past)
unfolding openings
quiet_one x past b d o = record { same = λ c. same_step c x past (b c) (d c); openings_are = omega (arith, o); refused_are = λ e. refused_step x past e o }

-- a call
pub added_quiet : (g : Settings) (past : List Entry) (c : Call) (b : Bool) → Quiet past (cond b (answered g past (event.Asked c) ∷ past) past) × Goes g past (cond b (answered g past (event.Asked c) ∷ past) past)
added_quiet g past c true = (quiet_one (answered g past (event.Asked c)) past (λ k. refl) (λ k. refl) refl, goes_one g (answered g past (event.Asked c)) past)
added_quiet g past c false = (quiet_not past, goes_not g past)

-- a cut
pub cut_quiet : (g : Settings) (past : List Entry) (c : ℕ) (b : Bool) → Quiet past (cond b (answered g past (event.Cut c) ∷ past) past) × Goes g past (cond b (answered g past (event.Cut c) ∷ past) past)
cut_quiet g past c true = (quiet_one (answered g past (event.Cut c)) past (λ k. refl) (λ k. refl) refl, goes_one g (answered g past (event.Cut c)) past)
cut_quiet g past c false = (quiet_not past, goes_not g past)

-- a moment
pub tick_quiet : (g : Settings) (past : List Entry) (now : ℕ) (b : Bool) → Quiet past (cond b (answered g past (event.Tick now) ∷ past) past) × Goes g past (cond b (answered g past (event.Tick now) ∷ past) past)
tick_quiet g past now true = (quiet_one (answered g past (event.Tick now)) past (λ k. refl) (λ k. refl) refl, goes_one g (answered g past (event.Tick now)) past)
tick_quiet g past now false = (quiet_not past, goes_not g past)

pub draw_quiet : (g : Settings) (c : ℕ) (past : List Entry) (x : Entry) (a : Answer) → IsDraw g c past x a → Quiet past (x ∷ past)
draw_quiet g c past x a d =
    let e : x.event ≡ event.Draw c d.room = ap (λ (y : Entry). y.event) d.entry in
    quiet_one x past (λ k. ap (λ (v : Event). brings past k v) e) (λ k. ap (λ (v : Event). bad_in past k v) e) (ap openings_in e)

pub draws_quiet : (g : Settings) (c : ℕ) (drawing past : List Entry) (n : ℕ) → DrawInSum g c drawing past n → Quiet past (drawing ++ past) × Goes g past (drawing ++ past)
unfolding DrawInSum
draws_quiet g c [] past n d = (quiet_not past, goes_not g past)
draws_quiet g c (x ∷ drawing) past n d =
    let rest = draws_quiet g c drawing past d.1 d.2 in (
      quiet_on past (drawing ++ past) (x ∷ (drawing ++ past)) rest.0 (draw_quiet g c (drawing ++ past) x (answer.Drawn d.0) d.3),
      goes_on g past (drawing ++ past) (x ∷ (drawing ++ past)) rest.1 (goes_one g x (drawing ++ past)),
    )

abbrev pub DrewQuietly : Settings → List Entry → List Entry → Type 0
DrewQuietly g past past' = Quiet past past' × Goes g past past'

pub drew_where : (here : Bool) (g : Settings) (c : ℕ) (m : Most) (past past' : List Entry) → DrawsWhere here g c m past past' → Quiet past past' × Goes g past past'
drew_where true g c m past past' d = subst (DrewQuietly g past) (sym d.2) (draws_quiet g c d.0 past _ d.1)
drew_where false g c m past past' d = subst (DrewQuietly g past) (sym d.2) (draw_quiet g c past d.0 _ d.1, goes_one g d.0 past)

-- ---- what comes

here : (c : ℕ) (was : Bool) (bad : Option ℕ) (f : Frame) → was ≡ true → bad ≡ None → cond {A = List Frame} (((c == c) && was) && is_none bad) (f ∷ []) [] ≡ f ∷ []
here c was bad f h1 h2 = grind (arith, common_steps, eq-eqb)

pub came_here : (c : ℕ) (past : List Entry) (x : Entry) (f : Frame) → x.event ≡ event.Came c f → was_opened past c ≡ true → first_bad past c ≡ None → (came (x ∷ past) c ≡ came past c ++ f ∷ []) × (first_bad (x ∷ past) c ≡ None)
unfolding came first_bad
came_here c past x f h1 h2 h3 = grind (arith, common_steps, here)

pub bad_here : (c : ℕ) (past : List Entry) (x : Entry) → x.event ≡ event.Bad c LONG_FRAME → was_opened past c ≡ true → first_bad past c ≡ None → (came (x ∷ past) c ≡ came past c) × (first_bad (x ∷ past) c ≡ Some LONG_FRAME)
unfolding came first_bad
bad_here c past x h1 h2 h3 = grind (arith, common_steps, eq-eqb)

elsewhere : (c e : ℕ) (a : Arrival) (past : List Entry) → e ≢ c → (brings past e (event_of c a) ≡ []) × (bad_in past e (event_of c a) ≡ None)
elsewhere c e a past h1 = grind (arith, common_steps, ne_eqb)

no_opening : (c : ℕ) (a : Arrival) → openings_in (event_of c a) ≡ 0
no_opening c a = grind (arith, common_steps)

pub opened_still : (c : ℕ) (past past' : List Entry) → openings past' ≡ openings past → was_opened past c ≡ true → was_opened past' c ≡ true
opened_still c past past' same h = ap (λ (n : ℕ). nat_lt 0 c && nat_le c n) same ∙ h

-- what came is of connection c alone
pub record HeardOn (g : Settings) (c : ℕ) (past past' : List Entry) : Type 0 where
  pub same : (e : ℕ) → e ≢ c → Same e past past'
  pub openings_are : openings past' ≡ openings past
  pub refused_are : (d : ℕ) → refused past' d ≡ refused past d
  pub goes : Goes g past past'

heard_not : (g : Settings) (c : ℕ) (past : List Entry) → HeardOn g c past past
heard_not g c past = record { same = λ e far. record { came_is = refl; bad_is = refl }; openings_are = refl; refused_are = λ d. refl; goes = goes_not g past }

heard_on : (g : Settings) (c : ℕ) (a b d : List Entry) → HeardOn g c a b → HeardOn g c b d → HeardOn g c a d
heard_on g c a b d h k = record { same = λ e far. same_on e a b d (h.same e far) (k.same e far); openings_are = k.openings_are ∙ h.openings_are; refused_are = λ e. k.refused_are e ∙ h.refused_are e; goes = goes_on g a b d h.goes k.goes }

heard_one : (g : Settings) (c : ℕ) (a : Arrival) (past : List Entry) → HeardOn g c past (answered g past (event_of c a) ∷ past)
unfolding openings
heard_one g c a past = record {
  same = λ e far. let s = elsewhere c e a past far in same_step e (answered g past (event_of c a)) past s.0 s.1;
  openings_are = omega (arith, no_opening c a);
  refused_are = λ d. refused_step (answered g past (event_of c a)) past d (no_opening c a);
  goes = goes_one g (answered g past (event_of c a)) past;
}

pub either : (P : List Entry → Type 0) (b : Bool) (x y : List Entry) → (b ≡ true → P x) → (b ≡ false → P y) → P (cond b x y)
either P b x y h1 h2 = grind (arith, common_steps)

pub takes_on : (g : Settings) (c : ℕ) (items : List Arrival) (past : List Entry) → HeardOn g c past (takes g c items past)
unfolding takes
takes_on g c [] past = heard_not g c past
takes_on g c (a ∷ more) past =
    let next = answered g past (event_of c a) ∷ past in
    either (HeardOn g c past) (leaves (answer_to g past (event_of c a))) (takes g c more next) past
    (λ t. heard_on g c past next (takes g c more next) (heard_one g c a past) (takes_on g c more next)) (λ f. heard_not g c past)

pub whole_on : (xs : List Frame) (f : Frame) (rest : List Arrival) → wholes xs ++ (arrival.Whole f ∷ rest) ≡ wholes (xs ++ f ∷ []) ++ rest
whole_on xs f rest = grind (arith, common_steps)

takes_none : (g : Settings) (c : ℕ) (items : List Arrival) (past : List Entry) → items ≡ [] → takes g c items past ≡ past
unfolding takes
takes_none g c items past h1 = grind (arith, common_steps)

heard_so_far : (most n c : ℕ) (frames : List Frame) (past : List Entry) (rest : List Arrival) → first_bad past c ≡ None → wholes (came past c) ++ rest ≡ crossed most n frames → Heard most n frames (came past c) (first_bad past c)
heard_so_far most n c frames past rest b e =
    subst (λ (o : Option ℕ). Heard most n frames (came past c) o) (sym b) (record { rest = rest; parts = ap (λ (l : List Arrival). l ++ rest) (append-nil (wholes (came past c))) ∙ e; long = tt })

abbrev pub IsHeard : ℕ → ℕ → ℕ → List Frame → List Entry → Type 0
IsHeard most n c frames past = Heard most n frames (came past c) (first_bad past c)

too_long_heard : (most n c : ℕ) (frames : List Frame) (past : List Entry) (x : Entry) (rest : List Arrival) → x.event ≡ event.Bad c LONG_FRAME → was_opened past c ≡ true → first_bad past c ≡ None → wholes (came past c) ++ (arrival.TooLong ∷ rest) ≡ crossed most n frames → IsHeard most n c frames (x ∷ past)
too_long_heard most n c frames past x rest is o b e =
    let h = bad_here c past x is o b in
    subst (λ (l : List Frame). Heard most n frames l (first_bad (x ∷ past) c)) (sym h.0) (subst (λ (v : Option ℕ). Heard most n frames (came past c) v) (sym h.1)
    (record { rest = rest; parts = append_assoc (wholes (came past c)) (arrival.TooLong ∷ []) rest ∙ e; long = refl }))

pub takes_heard : (g : Settings) (most n c : ℕ) (frames : List Frame) (items : List Arrival) (past : List Entry) → was_opened past c ≡ true → first_bad past c ≡ None → wholes (came past c) ++ items ≡ crossed most n frames → IsHeard most n c frames (takes g c items past)
unfolding takes
takes_heard g most n c frames [] past o b e = heard_so_far most n c frames past [] b e
takes_heard g most n c frames (arrival.Whole f ∷ more) past o b e =
    let x = answered g past (event.Came c f) in
    let next = came_here c past x f refl o b in
    either (IsHeard most n c frames) (leaves (answer_to g past (event.Came c f))) (takes g c more (x ∷ past)) past
    (λ t. takes_heard g most n c frames more (x ∷ past) (opened_still c past (x ∷ past) (heard_one g c (arrival.Whole f) past).openings_are o) next.1
    (ap (λ (l : List Frame). wholes l ++ more) next.0 ∙ (sym (whole_on (came past c) f more) ∙ e)))
    (λ v. heard_so_far most n c frames past (arrival.Whole f ∷ more) b e)
takes_heard g most n c frames (arrival.TooLong ∷ more) past o b e =
    let x = answered g past (event.Bad c LONG_FRAME) in
    let none : more ≡ [] = last_is_too_long most n frames (came past c) more e in
    either (IsHeard most n c frames) (leaves (answer_to g past (event.Bad c LONG_FRAME))) (takes g c more (x ∷ past)) past
    (λ t. subst (IsHeard most n c frames) (sym (takes_none g c more (x ∷ past) none)) (too_long_heard most n c frames past x more refl o b e))
    (λ v. heard_so_far most n c frames past (arrival.TooLong ∷ more) b e)

-- all comes that can: what came by then crossed
pub hears_on : (g : Settings) (c n : ℕ) (frames : List Frame) (past : List Entry) → HeardOn g c past (hears g c n frames past)
hears_on g c n frames past =
    either (HeardOn g c past) (is_none (first_bad past c)) (takes g c (drop (length (came past c)) (crossed g.max_in n frames)) past) past
    (λ t. takes_on g c (drop (length (came past c)) (crossed g.max_in n frames)) past) (λ f. heard_not g c past)

left_of : (most n : ℕ) (frames came : List Frame) (bad : Option ℕ) → bad ≡ None → Heard most n frames came bad → wholes came ++ drop (length came) (crossed most n frames) ≡ crossed most n frames
left_of most n frames came bad h1 h2 = grind (arith, common_steps, drop-append_seam)

pub hears_heard : (g : Settings) (c n : ℕ) (frames : List Frame) (past : List Entry) → was_opened past c ≡ true → IsHeard g.max_in n c frames past → IsHeard g.max_in n c frames (hears g c n frames past)
unfolding takes
hears_heard g c n frames past h1 h2 = grind (arith, common_steps, either, takes_heard, left_of)
