-- The first frame of a connection.
use Rattle.std.proofs.lemmas.Grind.{common_steps}
use Rattle.std.proofs.Common.{◌≡◌, ◌≤◌, ◌<◌, ◌+◌, ◌-◌, ◌&&◌, ℕ, Bool, true, false, is_some, nat_lt, nat_le, List, [], ◌∷◌, ◌++◌, take, Option, Some, None, Result, OnOk, IfOk, refl, ap, subst, sym, ◌∙◌, arith, append-nil}
use Rattle.std.proofs.lemmas.Bool.Decides.{nat_tests}
use Rattle.std.proofs.lemmas.List.Concat.{flat_map-cons}
use Rattle.rs_wire.specs.declared.settings.Settings.{Settings}
use Rattle.rs_frame.specs.declared.frame.Frame.{Frame}
use Rattle.rs_frame.specs.Spelling.{Spells, canonical, length_of}
use Rattle.rs_frame.proofs.Whole.{canonical_spells}
use Rattle.rs_frame.specs.Framed.{framed, framed_all, framed_frame}
use Rattle.rs_chunk.specs.Rest.{Rest}
use Rattle.rs_chunk.specs.Stream.{IsWhole, first_frame}
use Rattle.tape.specs.declared.event.Event.{Event}
use Rattle.tape.specs.declared.event.Event.TheVariants as event
use Rattle.tape.specs.declared.entry.Entry.{Entry}
use Rattle.session_model.specs.Life.{openings}
use Rattle.session_model.specs.Answers.{answer_to}
use Rattle.session_core.specs.Seen.{Seen}
use Rattle.cable.specs.declared.arrival.Arrival.{Arrival}
use Rattle.cable.specs.declared.arrival.Arrival.TheVariants as arrival
use Rattle.cable.specs.declared.hearing.Crossing.{Crossing}
use Rattle.cable.specs.declared.hearing.Known.{Known}
use Rattle.cable.specs.declared.hearing.Known.TheVariants as known
use Rattle.cable.specs.Played.{adds, answered, crossed}
use Rattle.cable.specs.Hearing.{Ahead, CrossedTo, IsMet, IsMetBy, IsNextOf, IsOnly, IsOpenedBy, Nears, known_of, whole_in}
use Rattle.cable.proofs.Crosses.{wholes}
use Rattle.cable.proofs.Following.{adds_one, open_leaves}
use Rattle.cable.proofs.Fronts.{front_none, front_too_long, front_whole}
use Rattle.cable.proofs.Opening.{first_here}

-- ---- its first frame

numbers : (d n : ℕ) → 0 < d → d ≤ n → (nat_lt 0 d && nat_le d n) ≡ true
numbers d n above within = grind (arith, nat_tests)

-- what is in front is the first of what crossed
pub record IsFirst (h : Settings) (n : ℕ) (frames : List Frame) (f : Frame) (rest : Rest) : Type 0 where
  pub more : List Arrival
  pub crossed_is : crossed h.max_in n frames ≡ arrival.Whole f ∷ more
  pub frame_is : first_frame rest.bytes ≡ canonical f

pub first_is : (h : Settings) (n : ℕ) (frames : List Frame) (f : Frame) (rest : Rest) → Ahead h frames rest → take n (framed_all frames) ≡ rest.bytes → IsWhole rest.bytes rest.max_in → IsOnly (first_frame rest.bytes) f → IsFirst h n frames f rest
first_is h n frames f rest ahead bytes whole only =
    let front = front_whole h.max_in n frames ahead.spellable (subst (λ (bs : List ℕ). IsWhole bs h.max_in) (sym bytes) (subst (λ (m : ℕ). IsWhole rest.bytes m) ahead.longest whole)) in
    let is : first_frame rest.bytes ≡ canonical front.f = ap first_frame (sym bytes) ∙ front.frame_is in
    let same : front.f ≡ f = only front.f (subst (Spells front.f) (sym is) (canonical_spells front.f front.spellable.fields)) in
    let more = crossed h.max_in (n - (3 + length_of front.f)) front.others in
    record { more = more; crossed_is = front.crossed_is ∙ ap (λ (y : Frame). arrival.Whole y ∷ more) same; frame_is = is ∙ ap canonical same }

-- it came: what crossed after it
pub opened_crosses : (h : Settings) (n : ℕ) (frames : List Frame) (S : List Entry) (x : Entry) (f : Frame) (rest rest' : Rest) → x.event ≡ event.Open (Some f) false
    → Ahead h frames rest → take n (framed_all frames) ≡ rest.bytes → IsFirst h n frames f rest
    → rest'.max_in ≡ rest.max_in → rest.bytes ≡ framed (first_frame rest.bytes) ++ rest'.bytes
    → CrossedTo h (openings S + 1) n frames (x ∷ S) rest' false
opened_crosses h n frames S x f rest rest' e ahead bytes first most cut =
    let here = first_here x S f e in
    record {
      ahead = record { longest = most ∙ ahead.longest; below = ahead.below; spellable = ahead.spellable };
      opened = numbers (openings S + 1) (openings (x ∷ S)) (omega arith) (omega (arith, here.2));
      bytes = bytes ∙ (cut ∙ (ap (λ (l : List ℕ). framed l ++ rest'.bytes) first.frame_is ∙ (ap (λ (l : List ℕ). l ++ rest'.bytes) (sym (append-nil (framed_frame f)) ∙ sym (flat_map-cons framed_frame f [])) ∙ ap (λ (l : List Frame). framed_all l ++ rest'.bytes) (sym here.0))));
      bad = ap is_some (sym here.1);
      parts = λ none. (first.more, ap (λ (l : List Frame). wholes l ++ first.more) here.0 ∙ sym first.crossed_is);
    }

-- ---- what comes of it

met_by : (most n : ℕ) (frames : List Frame) (v w : Seen) (x : Crossing) (k : Known) (items : List Arrival) → crossed most n frames ≡ items → IsMetBy items n frames v w x k → IsMetBy (crossed most n frames) n frames v w x k
met_by most n frames v w x k items e h = subst (λ (l : List Arrival). IsMetBy l n frames v w x k) (sym e) h

-- a whole frame is in front, and came
pub meets_whole : (n : ℕ) (frames : List Frame) (v w : Seen) (x x' : Crossing) (f : Frame) (k : Known) → Nears n frames v x → IsNextOf x.rest (Some (arrival.Whole f)) → IsOpenedBy f v w k
    → x'.over ≡ x.over → x'.rest.max_in ≡ x.rest.max_in → x.rest.bytes ≡ framed (first_frame x.rest.bytes) ++ x'.rest.bytes → IsMet n frames v w x' k
meets_whole n frames v w x x' f k h front opened over most cut =
    let g = v.settings in
    let e : Event = event.Open (Some f) false in
    let first = first_is g n frames f x.rest h.ahead h.bytes front.0 front.2 in
    let after = opened_crosses g n frames v.entries (answered g v.entries e) f x.rest x'.rest refl h.ahead h.bytes first most cut in
    met_by g.max_in n frames v w x' k (arrival.Whole f ∷ first.more) first.crossed_is
    (opened, subst (λ (b : Bool). CrossedTo g (openings v.entries + 1) n frames w.entries x'.rest b) (sym (over ∙ h.goes_on)) (subst (λ (l : List Entry). CrossedTo g (openings v.entries + 1) n frames l x'.rest false) (sym opened.0) after))

-- the frame in front
pub next_frame : (rest : Rest) (o : Option Arrival) (f : Frame) → Some f ≡ whole_in o → IsNextOf rest o → IsNextOf rest (Some (arrival.Whole f))
next_frame rest (Some (arrival.Whole x)) f e h = let same : x ≡ f = cc in subst (λ (y : Frame). IsNextOf rest (Some (arrival.Whole y))) same h
next_frame rest (Some arrival.TooLong) f e h = absurd (cc)
next_frame rest None f e h = absurd (cc)

-- no whole frame is in front
pub meets_none : (n : ℕ) (frames : List Frame) (v : Seen) (x : Crossing) (o : Option Arrival) → Nears n frames v x → IsNextOf x.rest o → None ≡ whole_in o → IsMet n frames v v x known.Nothing
meets_none n frames v x o h1 h2 h3 = grind (arith, common_steps, met_by, front_too_long, front_none)

-- an opening came
pub opened_so : {E : Type 0} (f : Frame) (v w : Seen) (e : Event) (r : Result Known E) → e ≡ event.Open (Some f) false → OnOk r (w.entries ≡ adds v.settings v.entries e) → IfOk r (λ k. k ≡ known_of (answer_to v.settings v.entries e)) → IfOk r (IsOpenedBy f v w)
opened_so f v w e r h1 h2 h3 = grind (arith, common_steps, adds_one, open_leaves)
