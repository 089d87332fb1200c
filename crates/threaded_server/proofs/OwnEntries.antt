-- What is kept goes on where the carrier opens, cuts or ticks.
use Rattle.std.proofs.Common.{◌≡◌, ◌≢◌, ◌<◌, ◌≤◌, ◌+◌, ◌==◌, ◌||◌, ◌⊎◌, inl, inr, ℕ, Bool, true, false, if◌then◌else◌, List, [], ◌∷◌, ◌++◌, Option, Some, None, refl, ap, sym, ◌∙◌, subst, arith}
use Rattle.std.proofs.lemmas.Bool.{cases_lt}
use Rattle.std.proofs.lemmas.Bool.Decides.{nat_tests}
use Rattle.rs_wire.specs.declared.settings.Settings.{Settings}
use Rattle.rs_frame.specs.declared.frame.Frame.{Frame}
use Rattle.rs_frame.specs.Framed.{framed_all}
use Rattle.rs_frame.specs.Spelling.{Spells}
use Rattle.rs_chunk.specs.Stream.{first_frame}
use Rattle.tape.specs.declared.event.Event.{Event}
use Rattle.tape.specs.declared.event.Event.TheVariants as event
use Rattle.tape.specs.declared.answer.Answer.{Answer}
use Rattle.tape.specs.declared.answer.Answer.TheVariants as answer
use Rattle.tape.specs.declared.entry.Entry.{Entry}
use Rattle.session_model.specs.Answers.{facts}
use Rattle.session_model.specs.Legal.{Legal}
use Rattle.session_model.specs.Means.{Means}
use Rattle.session_model.specs.Life.{is_live, live, live_after, openings, openings_in}
use Rattle.session_model.specs.Frames.{bad_in, came, drawn, draws, first_bad, refusal}
use Rattle.session_model.specs.Joined.{IsOpening, only, refused, refuses}
use Rattle.session_model.proofs.Meaning.{last_means}
use Rattle.session_model.proofs.Openings.{drawn_later, live_le}
use Rattle.session_laws.proofs.Life.{bad_later, came_later}
use Rattle.link_model.specs.Carrying.{is_of}
use Rattle.link_model.specs.Reading.{HasRead}
use Rattle.link_model.proofs.Fresh.{fresh_keeps}
use Rattle.link_model.proofs.Same.{bad_same}
use Rattle.ring.specs.declared.item.Item.{Item}
use Rattle.ring.specs.Parts.{cuts, part}
use Rattle.threaded_model.specs.Threaded.{cuts_in, has_cut, is_asked, made_by, moment_in, moments}
use Rattle.threaded_server.specs.Begun.{Passes}
use Rattle.threaded_server.specs.Serving.{HasAccepted, HasRefused, HasServed, IsAt, IsServed, KnowsNothing}
use Rattle.carriers.specs.Alone.{linked}
use Rattle.threaded_server.proofs.Entries.{opened_by, opening_back, opening_on, served_on}
use Rattle.threaded_server.proofs.Adding.{IsSpare, legal_last, same_cuts, same_moments}

-- ---- the place of the new opening

-- opening c is the connection after k cuts, and the others as before
abbrev pub placed : (ℕ → ℕ) → ℕ → ℕ → ℕ → ℕ
placed place c k d = if d == c then k else place d

placed_new : (place : ℕ → ℕ) (c k d : ℕ) → d ≡ c → placed place c k d ≡ k
placed_new place c k d same = let is : (d == c) ≡ true = grind (arith, nat_tests, same) in rw is refl

placed_old : (place : ℕ → ℕ) (c k d : ℕ) → d ≢ c → placed place c k d ≡ place d
placed_old place c k d other = let is : (d == c) ≡ false = grind (arith, nat_tests, other) in rw is refl

old_is : (S : List Entry) (d : ℕ) → IsOpening S d → d ≢ openings S + 1
old_is S d o same = let w = o.within in absurd (omega (arith, w, same))

old_or_new : (S : List Entry) (x : Entry) (d : ℕ) → openings_in x.event ≡ 1 → IsOpening (x ∷ S) d → IsOpening S d ⊎ (d ≡ openings S + 1)
unfolding openings
old_or_new S x d one o = elim (cases_lt (openings S) d) [
  | inl later ↦ let w = o.within in inr (omega (arith, w, later, one))
  | inr within ↦ inl (record { above = o.above; within = within })
]

-- an opening
pub record IsFirst (x : Entry) (f : Frame) : Type 0 where
  pub taken : Bool
  pub event_is : x.event ≡ event.Open (Some f) taken

one_of : (x : Entry) (f : Frame) → IsFirst x f → openings_in x.event ≡ 1
one_of x f i = ap openings_in i.event_is

apart_of : (x : Entry) (f : Frame) (d : ℕ) → IsFirst x f → is_of d x.event ≡ false
apart_of x f d i = ap (is_of d) i.event_is

pub served_opened : (h : Settings) (S : List Entry) (x : Entry) (f : Frame) (number : ℕ) (place : ℕ → ℕ) (told : List ℕ) (sent received : List Item) → IsFirst x f → ((d : ℕ) → IsOpening S d → place d ≢ cuts sent) → HasServed h S number place told sent received
    → HasServed h (x ∷ S) number (placed place (openings S + 1) (cuts sent)) told sent received
served_opened h S x f number place told sent received i unopened s = record {
  apart = λ d e od oe same. one d e (old_or_new S x d (one_of x f i) od) (old_or_new S x e (one_of x f i) oe) same;
  within = λ d o. elim (old_or_new S x d (one_of x f i) o) [
    | inl old ↦ subst (λ (k : ℕ). k ≤ cuts sent) (sym (old_place d old)) (s.within d old)
    | inr new ↦ subst (λ (k : ℕ). k ≤ cuts sent) (sym (new_place d new)) (omega arith)
  ];
  served = λ d o lt. elim (old_or_new S x d (one_of x f i) o) [
    | inl old ↦ subst (λ (k : ℕ). IsServed h (x ∷ S) d k sent received) (sym (old_place d old)) (served_on h S x d (place d) sent received old (apart_of x f d i) (s.served d old (subst (λ (k : ℕ). k < cuts sent) (old_place d old) lt)))
    | inr new ↦ absurd (let same = new_place d new in omega (arith, lt, same))
  ];
  silent = λ k lt. elim (s.silent k lt) [
    | inl some ↦ inl (some.0, opening_on S x some.0 some.1, old_place some.0 some.1 ∙ some.2)
    | inr none ↦ inr none
  ];
  cut = λ d is. let was = s.cut d (same_cuts S x d (ap (cuts_in d) i.event_is) is) in (opening_on S x d was.0, subst (λ (k : ℕ). k < cuts received) (sym (old_place d was.0)) was.1);
  ticks = same_moments S x (ap moment_in i.event_is) ∙ s.ticks;
  unasked = (λ who. ap is_asked i.event_is, s.unasked);
}
  where
    old_place : (d : ℕ) → IsOpening S d → placed place (openings S + 1) (cuts sent) d ≡ place d
    old_place d old = placed_old place (openings S + 1) (cuts sent) d (old_is S d old)

    new_place : (d : ℕ) → d ≡ openings S + 1 → placed place (openings S + 1) (cuts sent) d ≡ cuts sent
    new_place d new = placed_new place (openings S + 1) (cuts sent) d new

    one : (d e : ℕ) → IsOpening S d ⊎ (d ≡ openings S + 1) → IsOpening S e ⊎ (e ≡ openings S + 1) → placed place (openings S + 1) (cuts sent) d ≡ placed place (openings S + 1) (cuts sent) e → d ≡ e
    one d e (inl od) (inl oe) same = s.apart d e od oe (sym (old_place d od) ∙ (same ∙ old_place e oe))
    one d e (inl od) (inr ne) same = absurd (unopened d od (sym (old_place d od) ∙ (same ∙ new_place e ne)))
    one d e (inr nd) (inl oe) same = absurd (unopened e oe (sym (old_place e oe) ∙ (sym same ∙ new_place d nd)))
    one d e (inr nd) (inr ne) same = nd ∙ sym ne

-- ---- what came and what is refused there

came_first : (S : List Entry) (x : Entry) (f : Frame) → IsFirst x f → came (x ∷ S) (openings S + 1) ≡ f ∷ []
unfolding came
came_first S x f i =
    let next : (openings S + 1 == openings S + 1) ≡ true = grind (arith, nat_tests) in
    rw (i.event_is, came_later S (openings S + 1) (omega arith), next) refl

bad_first : (S : List Entry) (x : Entry) (f : Frame) → IsFirst x f → first_bad (x ∷ S) (openings S + 1) ≡ None
bad_first S x f i = bad_same S x (openings S + 1) (ap (λ e. bad_in S (openings S + 1) e) i.event_is) ∙ bad_later S (openings S + 1) (omega arith)

refuses_later : (S : List Entry) (d : ℕ) (a : Answer) (e : Event) → openings S + openings_in e < d → refuses S d a e ≡ []
refuses_later S d a (event.Open (Some f) taken) lt = let is : (openings S + 1 == d) ≡ false = grind (arith, nat_tests, lt) in rw is refl
refuses_later S d a (event.Open None taken) lt = refl
refuses_later S d a e lt = refl

refused_later : (S : List Entry) (d : ℕ) → openings S < d → refused S d ≡ []
unfolding refused openings
refused_later [] d lt = refl
refused_later (x ∷ S) d lt = rw (refused_later S d (omega (arith, lt)), refuses_later S d x.answer x.event lt) refl

refused_first : (S : List Entry) (x : Entry) (f : Frame) → IsFirst x f → refused (x ∷ S) (openings S + 1) ≡ only (refusal x.answer)
unfolding refused
refused_first S x f i =
    let next : (openings S + 1 == openings S + 1) ≡ true = grind (arith, nat_tests) in
    rw (i.event_is, refused_later S (openings S + 1) (omega arith), next) refl

opening_first : (S : List Entry) (x : Entry) (f : Frame) → IsFirst x f → IsOpening (x ∷ S) (openings S + 1)
unfolding openings
opening_first S x f i = let one = one_of x f i in record { above = omega arith; within = omega (arith, one) }

pub at_first : (S : List Entry) (x : Entry) (f : Frame) (place : ℕ → ℕ) (k : ℕ) → IsFirst x f → IsAt (x ∷ S) (placed place (openings S + 1) k) k (openings S + 1)
at_first S x f place k i = record {
  opening = opening_first S x f i;
  place_is = placed_new place (openings S + 1) k (openings S + 1) refl;
  first = λ none. absurd (let some = came_first S x f i in cc (some, none));
}

-- the first frame stands in front of the bytes, and this rest follows it
pub record Begins (f : Frame) (bytes rest : List ℕ) : Type 0 where
  pub spells : Spells f (first_frame bytes)
  pub passes : Passes bytes rest

read_first : (most : ℕ) (f : Frame) (bytes rest : List ℕ) → Begins f bytes rest → HasRead (f ∷ []) None most rest bytes
read_first most f bytes rest b = record {
  spellings = first_frame bytes ∷ [];
  more = rest;
  spelled = (b.spells, tt);
  cut = b.passes bytes [] (record { whole = refl; fit = tt });
  after = refl;
}

read_at : (h : Settings) (S : List Entry) (x : Entry) (f : Frame) (bytes rest taken : List ℕ) → IsFirst x f → Begins f bytes rest → bytes ≡ taken → HasRead (came (x ∷ S) (openings S + 1)) None h.max_in rest taken
read_at h S x f bytes rest taken i b same = subst (λ (fs : List Frame). HasRead fs None h.max_in rest taken) (sym (came_first S x f i)) (subst (HasRead (f ∷ []) None h.max_in rest) same (read_first h.max_in f bytes rest b))

drawn_first : (h : Settings) (S : List Entry) (x : Entry) (f : Frame) → IsFirst x f → Legal h S → drawn (x ∷ S) (openings S + 1) ≡ 0
unfolding drawn
drawn_first h S x f i legal = let none = drawn_later h S (openings S + 1) legal (omega arith) in let no_draw = draws_none x.answer in rw i.event_is (omega (arith, none, no_draw))
  where
    draws_none : (a : Answer) → draws (openings S + 1) a (event.Open (Some f) i.taken) ≡ 0
    draws_none (answer.Drawn n) = refl
    draws_none a = refl

-- it was accepted
pub accepted_first : (h : Settings) (S : List Entry) (x : Entry) (f : Frame) (place : ℕ → ℕ) (k most : ℕ) (sent received : List Item) (bytes rest : List ℕ) → IsFirst x f → Legal h (x ∷ S) → x.answer ≡ answer.Opened (openings S + 1) → Begins f bytes rest → KnowsNothing S place k sent received bytes
    → HasAccepted h (x ∷ S) (placed place (openings S + 1) k) k sent received (record { conn = openings S + 1; left = []; rest = rest; max_in = most; bad = false })
accepted_first h S x f place k most sent received bytes rest i legal is b n = record {
  at = at_first S x f place k i;
  unrefused = refused_first S x f i ∙ ap (λ (a : Answer). only (refusal a)) is;
  none_left = refl;
  kept = fresh_keeps h (x ∷ S) (linked (part k sent) (part k received)) (openings S + 1) most rest (record {
    opened = opened_by (x ∷ S) (openings S + 1) (opening_first S x f i);
    good = bad_first S x f i;
    undrawn = drawn_first h S x f i (legal_last h x S legal);
    ungiven = n.silent;
    taken = read_at h S x f bytes rest (part k received) i b n.rest_is;
  });
}

stays : (h : Settings) (S : List Entry) (a : Answer) (f : Frame) (taken : Bool) → Means h (facts h S) (event.Open (Some f) taken) a → made_by a ≡ None → live_after a (live S) ≡ live S
unfolding facts
stays h S (answer.Opened n) f taken means none = absurd (cc (none))
stays h S answer.Parted f taken means none = absurd means
stays h S (answer.Dead last) f taken means none = absurd means
stays h S a f taken means none = refl

off_first : (h : Settings) (S : List Entry) (x : Entry) (f : Frame) → IsFirst x f → Legal h (x ∷ S) → made_by x.answer ≡ None → is_live (live (x ∷ S)) (openings S + 1) ≡ false
unfolding live
off_first h S x f i legal none =
    let same = stays h S x.answer f i.taken (subst (λ (e : Event). Means h (facts h S) e x.answer) i.event_is (last_means h x S legal)) none in
    let le = live_le h S (legal_last h x S legal) in
    rw same (grind (arith, nat_tests, le))

-- it was refused
pub refused_at : (h : Settings) (S : List Entry) (x : Entry) (f : Frame) (place : ℕ → ℕ) (k : ℕ) (sent received : List Item) (bytes rest answered : List ℕ) → IsFirst x f → Legal h (x ∷ S) → made_by x.answer ≡ None → answered ≡ framed_all (only (refusal x.answer)) → Begins f bytes rest → KnowsNothing S place k sent received bytes
    → HasRefused h (x ∷ S) (placed place (openings S + 1) k) k sent received answered 0
refused_at h S x f place k sent received bytes rest answered i legal none is b n = record {
  d = openings S + 1;
  at = at_first S x f place k i;
  never_live = off_first h S x f i legal none;
  bytes_are = is ∙ ap framed_all (sym (refused_first S x f i));
  sent_are = n.silent;
  read = record {
    rest = rest;
    read = subst (λ (o : Option ℕ). HasRead (came (x ∷ S) (openings S + 1)) o h.max_in rest (part k received)) (sym (bad_first S x f i)) (read_at h S x f bytes rest (part k received) i b n.rest_is);
  };
}

-- ---- a cut

either : (b c : Bool) → (b || c) ≡ true → (b ≡ true) ⊎ (c ≡ true)
either true c is = inl refl
either false c is = inr is

cut_or : (S : List Entry) (x : Entry) (d : ℕ) → has_cut (x ∷ S) d ≡ true → (has_cut S d ≡ true) ⊎ (cuts_in d x.event ≡ true)
unfolding has_cut
cut_or S x d is = either (has_cut S d) (cuts_in d x.event) is

named_is : (c d : ℕ) → (c == d) ≡ true → c ≡ d
named_is c d is = grind (arith, nat_tests, is)

pub served_cutting : (h : Settings) (S : List Entry) (x : Entry) (number c : ℕ) (place : ℕ → ℕ) (told : List ℕ) (sent received : List Item) → x.event ≡ event.Cut c → IsOpening S c → place c < cuts received → HasServed h S number place told sent received → HasServed h (x ∷ S) number place told sent received
served_cutting h S x number c place told sent received is o lt s = record {
  apart = λ d e od oe same. s.apart d e (back d od) (back e oe) same;
  within = λ d o. s.within d (back d o);
  served = λ d o lt. served_on h S x d (place d) sent received (back d o) (ap (is_of d) is) (s.served d (back d o) lt);
  silent = λ k lt. elim (s.silent k lt) [
    | inl some ↦ inl (some.0, opening_on S x some.0 some.1, some.2)
    | inr none ↦ inr none
  ];
  cut = λ d cut. elim (cut_or S x d cut) [
    | inl was ↦ let h = s.cut d was in (opening_on S x d h.0, h.1)
    | inr now ↦ let same : c ≡ d = named_is c d (sym (ap (cuts_in d) is) ∙ now) in (subst (IsOpening (x ∷ S)) same (opening_on S x c o), subst (λ (e : ℕ). place e < cuts received) same lt)
  ];
  ticks = same_moments S x (ap moment_in is) ∙ s.ticks;
  unasked = (λ who. ap is_asked is, s.unasked);
}
  where
    back : (d : ℕ) → IsOpening (x ∷ S) d → IsOpening S d
    back d o = opening_back S x d (ap openings_in is) o

pub spare_cut : (x : Entry) (c : ℕ) → x.event ≡ event.Cut c → IsSpare x
spare_cut x c is = record { no_opening = ap openings_in is; apart = λ d. ap (is_of d) is }

-- ---- a tick

pub spare_tick : (x : Entry) (now : ℕ) → x.event ≡ event.Tick now → IsSpare x
spare_tick x now is = record { no_opening = ap openings_in is; apart = λ d. ap (is_of d) is }

told_more : (S : List Entry) (x : Entry) (now : ℕ) → x.event ≡ event.Tick now → moments (x ∷ S) ≡ moments S ++ now ∷ []
unfolding moments
told_more S x now is = ap (λ (e : Event). moments S ++ moment_in e) is

pub served_ticking : (h : Settings) (S : List Entry) (x : Entry) (number now : ℕ) (place : ℕ → ℕ) (told : List ℕ) (sent received : List Item) → x.event ≡ event.Tick now → HasServed h S number place told sent received → HasServed h (x ∷ S) number place (told ++ now ∷ []) sent received
served_ticking h S x number now place told sent received is s = record {
  apart = λ d e od oe same. s.apart d e (back d od) (back e oe) same;
  within = λ d o. s.within d (back d o);
  served = λ d o lt. served_on h S x d (place d) sent received (back d o) (ap (is_of d) is) (s.served d (back d o) lt);
  silent = λ k lt. elim (s.silent k lt) [
    | inl some ↦ inl (some.0, opening_on S x some.0 some.1, some.2)
    | inr none ↦ inr none
  ];
  cut = λ d cut. let was = s.cut d (same_cuts S x d (ap (cuts_in d) is) cut) in (opening_on S x d was.0, was.1);
  ticks = told_more S x now is ∙ ap (λ (l : List ℕ). l ++ now ∷ []) s.ticks;
  unasked = (λ who. ap is_asked is, s.unasked);
}
  where
    back : (d : ℕ) → IsOpening (x ∷ S) d → IsOpening S d
    back d o = opening_back S x d (ap openings_in is) o
