-- A draw, and what is kept over it.
use Rattle.std.proofs.lemmas.Bool.Decides.{nat_tests}
use Rattle.std.proofs.lemmas.List.{length-take-le, take-append-le}
use Rattle.std.proofs.Common.{◌≡◌, ◌<◌, ◌≤◌, ◌+◌, ◌∙◌, ◌==◌, ◌&&◌, arith, min, not, ℕ, Bool, true, false, true≢false, List, [], ◌∷◌, drop, take, length, Option, Some, None, refl, sym, ap, subst}
use Rattle.rs_wire.specs.declared.settings.Settings.{Settings}
use Rattle.rs_frame.specs.Framed.{framed_all}
use Rattle.outside.specs.Links.{Shown}
use Rattle.tape.specs.Answers.{leaves}
use Rattle.tape.specs.Told.{entry_of}
use Rattle.tape.specs.declared.entry.Entry.{Entry}
use Rattle.tape.specs.declared.event.Event.TheVariants as event
use Rattle.tape.specs.declared.answer.Answer.{Answer}
use Rattle.tape.specs.declared.answer.Answer.TheVariants as answer
use Rattle.session_model.specs.Answers.{answer_to, facts}
use Rattle.session_model.specs.Frames.{drawn, due, queued}
use Rattle.session_model.specs.Life.{is_live, live}
use Rattle.session_model.specs.Means.{Means}
use Rattle.session_core.specs.Seen.{IsOrOutOfMemory}
use Rattle.session_core.specs.Queued.{IfDrawn}
use Rattle.conn_shared.specs.Calls.{IsCalled}
use Rattle.conn_shared.specs.Members.{Knowledge}
use Rattle.link_model.specs.Carrying.{Between, Keeps}
use Rattle.link_model.specs.Giving.{count_drawn, next_drawn}
use Rattle.link_model.proofs.Kept.{keeps_draw}
use Rattle.link_model.proofs.Same.{drawable}
use Rattle.pump.specs.declared.bringing.Brought.{Brought}
use Rattle.pump.specs.declared.numbers.TheConstants.{PIECE}
use Rattle.pump.specs.Turns.{DrawsWhere, HasBrought, HasDrawn, HasDrawnInto, HasDrawnSo, IsKept, Names, drawn_by, goes_on_after, goes_on_from, is_empty, is_ended, leaves_by}
use Rattle.pump.proofs.Adding.{IsOn}
use Rattle.pump.proofs.Events.{leaves_is, means_of}
use Rattle.pump.proofs.Keeping.{kept_entry, kept_no_entry}

pub none_left : (xs : List ℕ) → length xs ≡ 0 → xs ≡ []
none_left [] h = refl
none_left (x ∷ xs) h = absurd (omega (arith, h))

pub is_empty_by : (xs : List ℕ) → length xs ≡ 0 → is_empty xs ≡ true
is_empty_by [] h = refl
is_empty_by (x ∷ xs) h = absurd (omega (arith, h))

pub is_some_by : (xs : List ℕ) → (length xs ≡ 0 → ⊥) → is_empty xs ≡ false
is_some_by [] h = absurd (h refl)
is_some_by (x ∷ xs) h = refl

-- a draw draws no more than is due
within_by : (g : Settings) (past : List Entry) (c room : ℕ) (a : Answer) → IsOrOutOfMemory a (answer_to g past (event.Draw c room)) → drawn past c ≤ length (framed_all (due g past c)) → drawn past c + count_drawn a ≤ length (framed_all (due g past c))
within_by g past c room (answer.Drawn n) is within = drawable g past c room n is within
within_by g past c room _ is within = omega (arith, within)

-- an answer that leaves no entry draws nothing
none_drawn : (a : Answer) → leaves a ≡ false → count_drawn a ≡ 0
none_drawn (answer.Drawn n) h = absurd (let t : true ≡ false = h in cc)
none_drawn _ h = refl

abbrev pub brought_draw : (g : Settings) (me : Knowledge) (c room : ℕ) (b : Brought) (left : List ℕ) (new : List Entry) → HasDrawnSo g me c room b left new → HasBrought g me (event.Draw c room) b new
brought_draw g me c room b left new d = record { answer = d.0; is = d.1; called = d.2.called }

pub kept_draw : (g : Settings) (was now : Knowledge) (b : Brought) (s : Shown) (p : Between) (room : ℕ) (left : List ℕ) → was.of.settings ≡ g → IsOn was now → p.left ≡ [] → HasDrawnSo g was p.conn room b left now.front → IsKept was s p → IsKept now s (record p { left = left })
kept_draw g was now b s p room left is on none d k =
    let h = brought_draw g was p.conn room b left now.front d in
    let before = d.2.called.before in
    let bytes : left ≡ next_drawn was.of.settings before p.conn d.0 = subst (λ t. left ≡ next_drawn t before p.conn d.0) (sym is) d.2.bytes in
    let answered : IsOrOutOfMemory d.0 (answer_to was.of.settings before (event.Draw p.conn room)) = subst (λ t. IsOrOutOfMemory d.0 (answer_to t before (event.Draw p.conn room))) (sym is) d.2.called.step.answered in
    elim (leaves_by b) as (λ v. (leaves_by b) ≡ v → IsKept now s (record p { left = left })) [
      | true ↦ λ some. kept_entry g was now (event.Draw p.conn room) b s p (record p { left = left }) on some refl h
          (λ (kept : Keeps was.of.settings before s p). subst (λ t. Keeps was.of.settings (entry_of was.number (event.Draw p.conn room) d.0 ∷ before) s (record p { left = t })) (sym bytes)
          (keeps_draw was.of.settings before was.number room d.0 s p none (within_by was.of.settings before p.conn room d.0 answered kept.within) kept)) k
      | false ↦ λ nothing.
          let zero : count_drawn d.0 ≡ 0 = none_drawn d.0 (leaves_is d.0 ∙ (ap leaves_by (sym d.1) ∙ nothing)) in
          let empty : left ≡ [] = bytes ∙ ap (λ n. take n (drop (drawn before p.conn) (framed_all (due was.of.settings before p.conn)))) zero in
          subst (λ t. IsKept now s (record p { left = t })) (none ∙ sym empty) (kept_no_entry g was now (event.Draw p.conn room) b s p on nothing h k)
    ] refl

pub names_draw : (c room : ℕ) → Names c (event.Draw c room)
names_draw c room = grind (arith, nat_tests)

-- ---- a draw that found nothing

-- what a draw may be answered: it draws some where it has room and bytes are queued
draw_is : (g : Settings) (past : List Entry) (c room : ℕ) (P : Answer → Type 0) → P answer.NotYet → ((n : ℕ) → (0 < room → 0 < n) → P (answer.Drawn n)) → ((n : ℕ) → P (answer.Stale n)) → P (answer_to g past (event.Draw c room))
draw_is g past c room P none some stale = elim (is_live (facts g past).live c) as (λ v. (is_live (facts g past).live c) ≡ v → P (answer_to g past (event.Draw c room))) [
  | true ↦ λ here. elim ((facts g past).queued == 0) as (λ v. ((facts g past).queued == 0) ≡ v → P (answer_to g past (event.Draw c room))) [
    | true ↦ λ empty. let e : answer_to g past (event.Draw c room) ≡ answer.NotYet = rw here (rw empty refl) in subst P (sym e) none
    | false ↦ λ more.
        let e : answer_to g past (event.Draw c room) ≡ answer.Drawn (min room (facts g past).queued) = rw here (rw more refl) in
        let waits : 0 < (facts g past).queued = grind (arith, nat_tests) in
        subst P (sym e) (some (min room (facts g past).queued) (λ has_room. omega (arith, waits, has_room)))
  ] refl
  | false ↦ λ gone. let e : answer_to g past (event.Draw c room) ≡ answer.Stale (facts g past).live = rw gone refl in subst P (sym e) (stale (facts g past).live)
] refl

right_by : (a right : Answer) → goes_on_after a ≡ true → IsOrOutOfMemory a right → a ≡ right
right_by answer.TapeFull right on is = absurd (true≢false (sym on))
right_by answer.OutOfMemory right on is = absurd (true≢false (sym on))
right_by _ right on is = is

-- a draw that lets a turn go on, and drew nothing, found nothing queued
not_yet_by : (g : Settings) (past : List Entry) (c room : ℕ) → 0 < room → goes_on_after (answer_to g past (event.Draw c room)) ≡ true → count_drawn (answer_to g past (event.Draw c room)) ≡ 0 → answer_to g past (event.Draw c room) ≡ answer.NotYet
not_yet_by g past c room has_room = draw_is g past c room (λ a. goes_on_after a ≡ true → count_drawn a ≡ 0 → a ≡ answer.NotYet)
    (λ on none. refl)
    (λ n some on none. absurd (let more = some has_room in omega (arith, more, none)))
    (λ n on none. absurd (true≢false (sym on)))

pub drew_none : (g : Settings) (me : Knowledge) (c room : ℕ) (a : Answer) (new : List Entry) → 0 < room → IsCalled g me (event.Draw c room) a new → goes_on_after a ≡ true → count_drawn a ≡ 0 → IsCalled g me (event.Draw c room) answer.NotYet new
drew_none g me c room a new some d on none =
    let right = right_by a (answer_to g d.before (event.Draw c room)) on d.step.answered in
    let found = not_yet_by g d.before c room some (subst (λ x. goes_on_after x ≡ true) right on) (subst (λ x. count_drawn x ≡ 0) right none) in
    subst (λ x. IsCalled g me (event.Draw c room) x new) (right ∙ found) d

-- then the connection was live
pub idle_by : (g : Settings) (me : Knowledge) (c room : ℕ) (new : List Entry) → IsCalled g me (event.Draw c room) answer.NotYet new → (live new ≡ c) × (queued g new ≡ 0)
unfolding facts
idle_by g me c room new d =
    let m : Means g (facts g d.before) (event.Draw c room) answer.NotYet = means_of g d.before (event.Draw c room) answer.NotYet d.step.answered in
    let same : new ≡ d.before = d.step.after in
    let here : live d.before ≡ c = grind (arith, nat_tests, m.0) in (
      ap live same ∙ here,
      ap (queued g) same ∙ m.1,
    )

-- where no byte is left after a draw that let the turn go on, it was made and found nothing queued
pub found_none : (g : Settings) (me : Knowledge) (c : ℕ) (ticked : Answer) (drew : Option Answer) (old left : List ℕ) (new : List Entry) → DrawsWhere (goes_on_after ticked && is_empty old) g me c PIECE drew old left new → goes_on_from ticked drew ≡ true → left ≡ []
    → IsCalled g me (event.Draw c PIECE) answer.NotYet new
found_none g me c ticked drew old left new d on none = elim (goes_on_after ticked) as (λ v. (goes_on_after ticked) ≡ v → IsCalled g me (event.Draw c PIECE) answer.NotYet new) [
  | true ↦ λ let_on. by_draw drew (is_empty old) refl (subst (λ v. DrawsWhere (v && is_empty old) g me c PIECE drew old left new) let_on d) (on_draw drew let_on on)
  | false ↦ λ ended. absurd (true≢false (sym on ∙ ended_from drew ended))
] refl
  where
    on_draw : (drew : Option Answer) → goes_on_after ticked ≡ true → goes_on_from ticked drew ≡ true → not (is_ended (drawn_by drew)) ≡ true
    on_draw None is h = refl
    on_draw (Some a) is h = sym (ap (λ v. v && goes_on_after a) is) ∙ h

    ended_from : (drew : Option Answer) → goes_on_after ticked ≡ false → goes_on_from ticked drew ≡ false
    ended_from None is = is
    ended_from (Some a) is = ap (λ v. v && goes_on_after a) is

    by_draw : (drew : Option Answer) (due : Bool) → is_empty old ≡ due → DrawsWhere due g me c PIECE drew old left new → not (is_ended (drawn_by drew)) ≡ true → IsCalled g me (event.Draw c PIECE) answer.NotYet new
    by_draw (Some a) true is d go = drew_none g me c PIECE a new (omega arith) d.called go (sym d.count ∙ ap length none)
    by_draw None false is d go = absurd (true≢false (sym (ap is_empty (sym d.0 ∙ none)) ∙ is))
    by_draw None true is d go = absurd d
    by_draw (Some a) false is d go = absurd d

pub from_draw : (ticked : Answer) (drew : Option Answer) → goes_on_after ticked ≡ true → goes_on_from ticked drew ≡ not (is_ended (drawn_by drew))
from_draw ticked None is = is
from_draw ticked (Some a) is = ap (λ v. v && goes_on_after a) is

pub went_ticked : (ticked : Answer) (drew : Option Answer) → goes_on_from ticked drew ≡ true → goes_on_after ticked ≡ true
went_ticked ticked None is = is
went_ticked ticked (Some a) is = both (goes_on_after ticked) (goes_on_after a) is
  where
    both : (x y : Bool) → (x && y) ≡ true → x ≡ true
    both true y h = refl
    both false y h = absurd (true≢false (sym h))

-- where no byte is left after a draw, or where none was due, none was left before
pub was_empty : (g : Settings) (me : Knowledge) (c room : ℕ) (goes : Bool) (drew : Option Answer) (old left : List ℕ) (new : List Entry) → DrawsWhere (goes && is_empty old) g me c room drew old left new → left ≡ [] → old ≡ []
was_empty g me c room goes drew [] left new d none = refl
was_empty g me c room true None (x ∷ old) left new d none = absurd (true≢false (ap is_empty (sym none ∙ d.0)))
was_empty g me c room false None (x ∷ old) left new d none = absurd (true≢false (ap is_empty (sym none ∙ d.0)))
was_empty g me c room true (Some a) (x ∷ old) left new d none = absurd d
was_empty g me c room false (Some a) (x ∷ old) left new d none = absurd d

-- ---- a draw into a buffer

count_within : (g : Settings) (past : List Entry) (c room : ℕ) (a : Answer) → IsOrOutOfMemory a (answer_to g past (event.Draw c room)) → count_drawn a ≤ room
count_within g past c room (answer.Drawn n) is = (means_of g past (event.Draw c room) (answer.Drawn n) is).within
count_within g past c room _ is = omega arith

first_of : (a : Answer) (xs ys : List ℕ) → IfDrawn a (λ n. take n xs ≡ take n ys) → take (count_drawn a) xs ≡ take (count_drawn a) ys
first_of (answer.Drawn n) xs ys h = h
first_of _ xs ys h = refl

pub drawn_into : (g : Settings) (me : Knowledge) (c room : ℕ) (a : Answer) (old new left : List ℕ) (front : List Entry) → HasDrawnInto g me c room a old new front → left ≡ take (count_drawn a) new → HasDrawn g me c room a left front
drawn_into g me c room a old new left front d is =
    let call = d.call in
    let few : count_drawn a ≤ room = count_within g call.before c room a call.step.answered in
    let within : count_drawn a ≤ length d.piece = subst (λ n. count_drawn a ≤ n) (sym d.few) few in
    let left_is : left ≡ take (count_drawn a) d.piece = is ∙ (ap (λ xs. take (count_drawn a) xs) d.all ∙ take-append-le (count_drawn a) d.piece (drop room old) within) in
    let count : length left ≡ count_drawn a = ap length left_is ∙ length-take-le (count_drawn a) d.piece within in
    record {
      called = record { before = call.before; follows = call.follows; step = call.step };
      bytes = left_is ∙ first_of a d.piece (drop (drawn call.before c) (framed_all (due g call.before c))) call.bytes;
      count = count;
      within = subst (λ n. n ≤ room) (sym count) few;
    }
