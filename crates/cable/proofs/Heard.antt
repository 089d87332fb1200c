-- What an end hears, arrival by arrival.
use Rattle.std.proofs.lemmas.Grind.{common_steps}
use Rattle.std.proofs.Common.{◌≡◌, ◌<◌, ◌+◌, ◌-◌, ℕ, Bool, true, false, cond, is_none, is_some, List, [], ◌∷◌, ◌++◌, take, Option, Some, None, refl, ap, subst, sym, ◌∙◌, arith, append_assoc, append-nil}
use Rattle.std.proofs.Math.Seq.{drop-append_seam}
use Rattle.std.proofs.lemmas.List.{append_cancel_left}
use Rattle.std.proofs.lemmas.List.Concat.{flat_map-cons}
use Rattle.rs_wire.specs.declared.settings.Settings.{Settings}
use Rattle.rs_frame.specs.declared.frame.Frame.{Frame}
use Rattle.rs_frame.specs.Spelling.{Spells, canonical, length_of}
use Rattle.rs_frame.proofs.Whole.{canonical_spells}
use Rattle.rs_frame.specs.Framed.{framed, framed_all, framed_frame}
use Rattle.rs_chunk.specs.Rest.{Rest}
use Rattle.rs_chunk.specs.Stream.{IsTooLong, IsWhole, first_frame}
use Rattle.tape.specs.declared.event.Event.{Event}
use Rattle.tape.specs.declared.event.Event.TheVariants as event
use Rattle.tape.specs.declared.entry.Entry.{Entry}
use Rattle.session_model.specs.Life.{openings}
use Rattle.session_model.specs.Frames.{came, first_bad, was_opened}
use Rattle.session_model.specs.Answers.{answer_to}
use Rattle.session_core.specs.Seen.{Seen}
use Rattle.session_model.specs.declared.numbers.TheConstants.{LONG_FRAME}
use Rattle.session_laws.proofs.Framing.{AreSpellable}
use Rattle.session_model.proofs.Queue.{framed_all-append}
use Rattle.cable.specs.declared.arrival.Arrival.{Arrival}
use Rattle.cable.specs.declared.arrival.Arrival.TheVariants as arrival
use Rattle.cable.specs.Played.{adds, answered, arrivals, arrivals_in, crossed, event_of, hears, takes}
use Rattle.tape.specs.Answers.{leaves}
use Rattle.cable.proofs.Following.{adds_none}
use Rattle.cable.specs.declared.hearing.Crossing.{Crossing}
use Rattle.cable.specs.Hearing.{Ahead, CrossedTo, Grew, IsHearer, IsNextOf, IsOnly, IsSpelledInFront, too_long}
use Rattle.cable.proofs.Crosses.{behind, last_is_too_long, wholes}
use Rattle.cable.proofs.Fronts.{front_none, front_too_long, front_whole}
use Rattle.cable.proofs.Grows.{bad_here, came_here, opened_still, whole_on}

-- where nothing too long came, what crossed behind what came
pub record Left (g : Settings) (c n : ℕ) (frames : List Frame) (past : List Entry) (rest : Rest) : Type 0 where
  pub none_bad : first_bad past c ≡ None
  pub left : ℕ
  pub others : List Frame
  pub spellable : AreSpellable others
  pub parts : wholes (came past c) ++ crossed g.max_in left others ≡ crossed g.max_in n frames
  pub bytes : rest.bytes ≡ take left (framed_all others)

not_bad : (o : Option ℕ) → false ≡ is_some o → o ≡ None
not_bad o h1 = grind (arith, common_steps)

spelled_behind : (xs ys : List Frame) → AreSpellable (xs ++ ys) → AreSpellable ys
spelled_behind [] ys h = h
spelled_behind (x ∷ xs) ys h = spelled_behind xs ys h.1

pub left_now : (g : Settings) (c n : ℕ) (frames : List Frame) (past : List Entry) (rest : Rest) → CrossedTo g c n frames past rest false → Left g c n frames past rest
left_now g c n frames past rest h1 = grind (arith, common_steps, not_bad, behind, spelled_behind, append_cancel_left)

-- where nothing too long came, an end hears what is left
pub hears_left : (g : Settings) (c n : ℕ) (frames : List Frame) (past : List Entry) (items : List Arrival) → first_bad past c ≡ None → wholes (came past c) ++ items ≡ crossed g.max_in n frames → hears g c n frames past ≡ takes g c items past
hears_left g c n frames past items h1 h2 = grind (arith, common_steps, drop-append_seam)

takes_stays : (g : Settings) (c : ℕ) (a : Arrival) (more : List Arrival) (past : List Entry) → leaves (answer_to g past (event_of c a)) ≡ false → takes g c (a ∷ more) past ≡ past
unfolding takes
takes_stays g c a more past l = ap (λ (b : Bool). cond b (takes g c more (answered g past (event_of c a) ∷ past)) past) l

takes_nothing : (g : Settings) (c : ℕ) (past : List Entry) → takes g c [] past ≡ past
unfolding takes
takes_nothing g c past = refl

-- ---- nothing is in front

pub hears_nothing : (g : Settings) (c n : ℕ) (frames : List Frame) (past : List Entry) (rest : Rest) → CrossedTo g c n frames past rest false → (¬ (IsWhole rest.bytes rest.max_in)) → (¬ (IsTooLong rest.bytes rest.max_in)) → hears g c n frames past ≡ past
hears_nothing g c n frames past rest x w l =
    let b = left_now g c n frames past rest x in
    let none = front_none g.max_in b.left b.others b.spellable
    (λ k. w (subst (λ (m : ℕ). IsWhole rest.bytes m) (sym x.ahead.longest) (subst (λ (bs : List ℕ). IsWhole bs g.max_in) (sym b.bytes) k)))
    (λ k. l (subst (λ (m : ℕ). IsTooLong rest.bytes m) (sym x.ahead.longest) (subst (λ (bs : List ℕ). IsTooLong bs g.max_in) (sym b.bytes) k))) in
    hears_left g c n frames past (crossed g.max_in b.left b.others) b.none_bad b.parts ∙ (ap (λ (l : List Arrival). takes g c l past) none ∙ takes_nothing g c past)

over : (o : Option ℕ) → true ≡ is_some o → (more past : List Entry) → cond (is_none o) more past ≡ past
over o h1 more past = grind (arith, common_steps)

some_none : (r : ℕ) → Some r ≡ None → ⊥
some_none r e = absurd (cc)

-- ---- what is in front stays, or comes

pub record InFront (g : Settings) (c n : ℕ) (frames : List Frame) (past : List Entry) (rest : Rest) (a : Arrival) : Type 0 where
  pub none_bad : first_bad past c ≡ None
  pub more : List Arrival
  pub parts : wholes (came past c) ++ a ∷ more ≡ crossed g.max_in n frames

whole_in_front : (g : Settings) (c n : ℕ) (frames : List Frame) (past : List Entry) (rest : Rest) (f : Frame) → (x : CrossedTo g c n frames past rest false) → IsWhole rest.bytes rest.max_in → IsOnly (first_frame rest.bytes) f → InFront g c n frames past rest (arrival.Whole f) × (first_frame rest.bytes ≡ canonical f)
whole_in_front g c n frames past rest f x w only =
    let b = left_now g c n frames past rest x in
    let front = front_whole g.max_in b.left b.others b.spellable (subst (λ (bs : List ℕ). IsWhole bs g.max_in) b.bytes (subst (λ (m : ℕ). IsWhole rest.bytes m) x.ahead.longest w)) in
    let is : first_frame rest.bytes ≡ canonical front.f = ap first_frame b.bytes ∙ front.frame_is in
    let same : front.f ≡ f = only front.f (subst (Spells front.f) (sym is) (canonical_spells front.f front.spellable.fields)) in
    let more = crossed g.max_in (b.left - (3 + length_of front.f)) front.others in (
      record {
        none_bad = b.none_bad;
        more = more;
        parts = ap (λ (y : Frame). wholes (came past c) ++ arrival.Whole y ∷ more) (sym same) ∙ (ap (λ (l : List Arrival). wholes (came past c) ++ l) (sym front.crossed_is) ∙ b.parts);
      },
      is ∙ ap canonical same,
    )

too_long_in_front : (g : Settings) (c n : ℕ) (frames : List Frame) (past : List Entry) (rest : Rest) → (x : CrossedTo g c n frames past rest false) → IsTooLong rest.bytes rest.max_in → InFront g c n frames past rest arrival.TooLong
too_long_in_front g c n frames past rest x w =
    let b = left_now g c n frames past rest x in
    let front = front_too_long g.max_in b.left b.others b.spellable (subst (λ (bs : List ℕ). IsTooLong bs g.max_in) b.bytes (subst (λ (m : ℕ). IsTooLong rest.bytes m) x.ahead.longest w)) in
    record { none_bad = b.none_bad; more = []; parts = ap (λ (l : List Arrival). wholes (came past c) ++ l) (sym front) ∙ b.parts }

pub in_front : (g : Settings) (c n : ℕ) (frames : List Frame) (past : List Entry) (rest : Rest) (a : Arrival) → CrossedTo g c n frames past rest false → IsNextOf rest (Some a) → InFront g c n frames past rest a
in_front g c n frames past rest a h1 h2 = grind (arith, common_steps, whole_in_front, too_long_in_front)

pub hears_stays : (g : Settings) (c n : ℕ) (frames : List Frame) (past : List Entry) (rest : Rest) (a : Arrival) → InFront g c n frames past rest a → leaves (answer_to g past (event_of c a)) ≡ false → hears g c n frames past ≡ past
hears_stays g c n frames past rest a i l = hears_left g c n frames past (a ∷ i.more) i.none_bad i.parts ∙ takes_stays g c a i.more past l

abbrev pub next_past : Settings → ℕ → Arrival → List Entry → List Entry
next_past g c a past = answered g past (event_of c a) ∷ past

-- a whole frame came
pub hears_whole : (g : Settings) (c n : ℕ) (frames : List Frame) (past : List Entry) (rest rest' : Rest) (f : Frame) → CrossedTo g c n frames past rest false → IsNextOf rest (Some (arrival.Whole f)) → rest'.max_in ≡ rest.max_in → rest.bytes ≡ framed (first_frame rest.bytes) ++ rest'.bytes
    → CrossedTo g c n frames (next_past g c (arrival.Whole f) past) rest' false
unfolding openings
hears_whole g c n frames past rest rest' f x h most cut =
    let w = whole_in_front g c n frames past rest f x h.0 h.2 in
    let here = came_here c past (answered g past (event.Came c f)) f refl x.opened w.0.none_bad in
    record {
      ahead = record { longest = most ∙ x.ahead.longest; below = x.ahead.below; spellable = x.ahead.spellable };
      opened = opened_still c past (answered g past (event.Came c f) ∷ past) (omega arith) x.opened;
      bytes = x.bytes ∙ (ap (λ (l : List ℕ). framed_all (came past c) ++ l) (cut ∙ ap (λ (l : List ℕ). framed l ++ rest'.bytes) w.1)
          ∙ (sym (append_assoc (framed_all (came past c)) (framed (canonical f)) rest'.bytes)
          ∙ ap (λ (l : List ℕ). l ++ rest'.bytes) (ap (λ (l : List ℕ). framed_all (came past c) ++ l) (sym (append-nil (framed_frame f)) ∙ sym (flat_map-cons framed_frame f [])) ∙ (sym (framed_all-append (came past c) (f ∷ [])) ∙ ap framed_all (sym here.0)))));
      bad = ap is_some (sym here.1);
      parts = λ none. (w.0.more, ap (λ (l : List Frame). wholes l ++ w.0.more) here.0 ∙ (sym (whole_on (came past c) f w.0.more) ∙ w.0.parts));
    }

pub hears_same : (g : Settings) (c n : ℕ) (frames : List Frame) (past : List Entry) (rest rest' : Rest) (f : Frame) → InFront g c n frames past rest (arrival.Whole f) → CrossedTo g c n frames (next_past g c (arrival.Whole f) past) rest' false → was_opened past c ≡ true → leaves (answer_to g past (event.Came c f)) ≡ true → hears g c n frames past ≡ hears g c n frames (next_past g c (arrival.Whole f) past)
unfolding takes
hears_same g c n frames past rest rest' f h1 h2 h3 h4 = grind (arith, common_steps, came_here, hears_left, whole_on)

-- a length came that is too long
pub hears_too_long : (g : Settings) (c n : ℕ) (frames : List Frame) (past : List Entry) (rest : Rest) → CrossedTo g c n frames past rest false → InFront g c n frames past rest arrival.TooLong → CrossedTo g c n frames (next_past g c arrival.TooLong past) rest true
unfolding openings
hears_too_long g c n frames past rest x i =
    let here = bad_here c past (answered g past (event.Bad c LONG_FRAME)) refl x.opened i.none_bad in
    record {
      ahead = x.ahead;
      opened = opened_still c past (answered g past (event.Bad c LONG_FRAME) ∷ past) (omega arith) x.opened;
      bytes = x.bytes ∙ ap (λ (l : List Frame). framed_all l ++ rest.bytes) (sym here.0);
      bad = ap is_some (sym here.1);
      parts = λ none. absurd (some_none LONG_FRAME (sym here.1 ∙ none));
    }

pub hears_ends : (g : Settings) (c n : ℕ) (frames : List Frame) (past : List Entry) (rest : Rest) → InFront g c n frames past rest arrival.TooLong → leaves (answer_to g past (event.Bad c LONG_FRAME)) ≡ true → hears g c n frames past ≡ next_past g c arrival.TooLong past
unfolding takes
hears_ends g c n frames past rest h1 h2 = grind (arith, common_steps, last_is_too_long, hears_left, takes_nothing)

-- ---- so far

-- what was heard and whether it is something, and what is still to be heard from here is the same
pub record SoFar (g : Settings) (c n : ℕ) (frames : List Frame) (past now : List Entry) (rest : Rest) (some : Bool) : Type 0 where
  pub crosses : CrossedTo g c n frames now rest false
  pub same : hears g c n frames past ≡ hears g c n frames now
  pub grew : Grew some (arrivals past) (arrivals now)

finish : (c n : ℕ) (frames : List Frame) (u w : Seen) (x : Crossing) (rest : Rest) (over some : Bool) (end : List Entry) → x ≡ record { rest = rest; over = over } → hears u.settings c n frames u.entries ≡ end → w.entries ≡ end → CrossedTo u.settings c n frames end rest over → Grew some (arrivals u.entries) (arrivals end) → IsHearer c n frames u w x some
finish c n frames u w x rest over some end h1 h2 h3 h4 h5 = grind (arith, common_steps)

one_more : (c : ℕ) (a : Arrival) → arrivals_in (event_of c a) ≡ 1
one_more c a = grind (arith, common_steps)

grew_on : (some : Bool) (m n : ℕ) → Grew some m n → m < n + 1
grew_on some m n h1 = grind (arith, common_steps)

-- one more came
more_came : (g : Settings) (c : ℕ) (a : Arrival) (past now : List Entry) (some : Bool) → Grew some (arrivals past) (arrivals now) → Grew true (arrivals past) (arrivals (next_past g c a now))
unfolding arrivals
more_came g c a past now some f = let k = grew_on some (arrivals past) (arrivals now) f in omega (arith, k, one_more c a)

-- nothing is in front
pub none_now : (c n : ℕ) (frames : List Frame) (u w : Seen) (x : Crossing) (some : Bool) → x.over ≡ false → IsNextOf x.rest None → SoFar u.settings c n frames u.entries w.entries x.rest some → IsHearer c n frames u w x some
none_now c n frames u w x some h1 h2 h3 = grind (arith, common_steps, finish, over, hears_nothing)

-- nothing more comes
pub over_now : (c n : ℕ) (frames : List Frame) (u : Seen) (x : Crossing) → x.over ≡ true → CrossedTo u.settings c n frames u.entries x.rest x.over → IsHearer c n frames u u x false
over_now c n frames u x h1 h2 = grind (arith, common_steps, over)

-- nothing came yet
pub none_so_far : (c n : ℕ) (frames : List Frame) (u : Seen) (x : Crossing) → x.over ≡ false → CrossedTo u.settings c n frames u.entries x.rest x.over → SoFar u.settings c n frames u.entries u.entries x.rest false
none_so_far c n frames u x h1 h2 = grind (arith, common_steps)

-- what is in front stays
pub stays_now : (c n : ℕ) (frames : List Frame) (u v w : Seen) (x : Crossing) (some : Bool) (a : Arrival) → v ≡ record u { entries = v.entries; spare = v.spare } → x.over ≡ false → IsNextOf x.rest (Some a) → SoFar u.settings c n frames u.entries v.entries x.rest some → false ≡ leaves (answer_to v.settings v.entries (event_of c a)) → w.entries ≡ adds v.settings v.entries (event_of c a) → IsHearer c n frames u w x some
stays_now c n frames u v w x some a settled is h s l now =
    let g = u.settings in
    let same : v.settings ≡ g = ap (λ (y : Seen). y.settings) settled in
    let stays : leaves (answer_to g v.entries (event_of c a)) ≡ false = subst (λ (k : Settings). leaves (answer_to k v.entries (event_of c a)) ≡ false) same (sym l) in
    finish c n frames u w x x.rest false some v.entries (ap (λ (b : Bool). record { rest = x.rest; over = b }) is)
    (s.same ∙ hears_stays g c n frames v.entries x.rest a (in_front g c n frames v.entries x.rest a s.crosses h) stays)
    (now ∙ (ap (λ (k : Settings). adds k v.entries (event_of c a)) same ∙ adds_none g v.entries (event_of c a) stays)) s.crosses s.grew

added : (u v w : Seen) (e : Event) → v ≡ record u { entries = v.entries; spare = v.spare } → true ≡ leaves (answer_to v.settings v.entries e) → w.entries ≡ adds v.settings v.entries e → (leaves (answer_to u.settings v.entries e) ≡ true) × (w.entries ≡ answered u.settings v.entries e ∷ v.entries)
added u v w e h1 h2 h3 = grind (arith, common_steps)

-- what is in front is too long, and came
pub ends_now : (c n : ℕ) (frames : List Frame) (u v w : Seen) (x : Crossing) (some : Bool) (a : Arrival) → v ≡ record u { entries = v.entries; spare = v.spare } → true ≡ too_long a → IsNextOf x.rest (Some a) → SoFar u.settings c n frames u.entries v.entries x.rest some → true ≡ leaves (answer_to v.settings v.entries (event_of c a)) → w.entries ≡ adds v.settings v.entries (event_of c a) → IsHearer c n frames u w (record x { over = true }) true
ends_now c n frames u v w x some (arrival.Whole f) settled is h s l now = absurd (cc)
ends_now c n frames u v w x some arrival.TooLong settled is h s l now =
    let g = u.settings in
    let more = added u v w (event.Bad c LONG_FRAME) settled l now in
    let i = in_front g c n frames v.entries x.rest arrival.TooLong s.crosses h in
    finish c n frames u w (record x { over = true }) x.rest true true (next_past g c arrival.TooLong v.entries) refl (s.same ∙ hears_ends g c n frames v.entries x.rest i more.0) more.1 (hears_too_long g c n frames v.entries x.rest s.crosses i) (more_came g c arrival.TooLong u.entries v.entries some s.grew)

-- what is in front is a frame, and came
pub goes_now : (c n : ℕ) (frames : List Frame) (u v w : Seen) (rest rest' : Rest) (some : Bool) (a : Arrival) → v ≡ record u { entries = v.entries; spare = v.spare } → false ≡ too_long a → IsNextOf rest (Some a) → SoFar u.settings c n frames u.entries v.entries rest some → true ≡ leaves (answer_to v.settings v.entries (event_of c a)) → w.entries ≡ adds v.settings v.entries (event_of c a)
    → rest'.max_in ≡ rest.max_in → rest.bytes ≡ framed (first_frame rest.bytes) ++ rest'.bytes → SoFar u.settings c n frames u.entries w.entries rest' true
goes_now c n frames u v w rest rest' some arrival.TooLong settled is h s l now most cut = absurd (cc)
goes_now c n frames u v w rest rest' some (arrival.Whole f) settled is h s l now most cut =
    let g = u.settings in
    let more = added u v w (event.Came c f) settled l now in
    let next = hears_whole g c n frames v.entries rest rest' f s.crosses h most cut in
    subst (λ (p : List Entry). SoFar g c n frames u.entries p rest' true) (sym more.1)
    (record { crosses = next; same = s.same ∙ hears_same g c n frames v.entries rest rest' f (in_front g c n frames v.entries rest (arrival.Whole f) s.crosses h) next s.crosses.opened more.0; grew = more_came g c (arrival.Whole f) u.entries v.entries some s.grew })

-- ---- conditions

pub spelled : (g : Settings) (n : ℕ) (frames : List Frame) (rest : Rest) → Ahead g frames rest → rest.bytes ≡ take n (framed_all frames) → IsSpelledInFront rest
spelled g n frames rest a bytes = λ w.
    let front = front_whole g.max_in n frames a.spellable (subst (λ (bs : List ℕ). IsWhole bs g.max_in) bytes (subst (λ (m : ℕ). IsWhole rest.bytes m) a.longest w)) in
    let is : first_frame rest.bytes ≡ canonical front.f = ap first_frame bytes ∙ front.frame_is in
    (front.f, subst (Spells front.f) (sym is) (canonical_spells front.f front.spellable.fields))

pub spelled_now : (g : Settings) (c n : ℕ) (frames : List Frame) (past : List Entry) (rest : Rest) → CrossedTo g c n frames past rest false → IsSpelledInFront rest
spelled_now g c n frames past rest x =
    let b = left_now g c n frames past rest x in
    spelled g b.left b.others rest (record { longest = x.ahead.longest; below = x.ahead.below; spellable = b.spellable }) b.bytes

pub next_is : (rest : Rest) (o : Option Arrival) (a : Arrival) → o ≡ Some a → IsNextOf rest o → IsNextOf rest (Some a)
next_is rest o a e h = subst (IsNextOf rest) e h

pub next_none : (rest : Rest) (o : Option Arrival) → o ≡ None → IsNextOf rest o → IsNextOf rest None
next_none rest o e h = subst (IsNextOf rest) e h
