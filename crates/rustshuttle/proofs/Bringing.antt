-- Frames that are brought one after another.
use Rattle.std.proofs.Common.{◌≡◌, ◌∙◌, ◌<◌, ◌≤◌, ap, sym, subst, refl, ℕ, List, [], ◌∷◌, ◌++◌, length, drop, Some, None, Option, arith, inl, inr}
use Rattle.std.proofs.lemmas.List.{append-nil, append_assoc, length-drop}
use Rattle.rs_wire.specs.declared.words.Side.{Side}
use Rattle.rs_wire.specs.declared.words.Side.TheVariants.{Client, Server}
use Rattle.rs_chunk.specs.Stream.{HasLength, IsTooLong, IsWhole, after_frame, first_length}
use Rattle.tape.specs.declared.event.Event.{Event}
use Rattle.tape.specs.declared.event.Event.TheVariants as event
use Rattle.tape.specs.declared.answer.Answer.{Answer}
use Rattle.link_model.specs.Reading.{BeginsBad}
use Rattle.rustshuttle.specs.Ends.{ComesAs, EndSeen, HasAppended, HasBrought, HasBroughtAll, IsNextOf, left_after}

brought_one_more : (xs : List Answer) (a : Answer) (old mid new : EndSeen) → HasBroughtAll xs old mid → HasBrought a mid new → HasBroughtAll (xs ++ a ∷ []) old new
unfolding HasBroughtAll
brought_one_more [] a old mid new same h = (new, subst (λ (s : EndSeen). HasBrought a s new) same h, refl)
brought_one_more (x ∷ xs) a old mid new all h = (all.0, all.1, brought_one_more xs a all.0 mid new all.2 h)

pub appended_none : (xs : List Answer) (s : EndSeen) → HasAppended xs xs s s
unfolding HasBroughtAll
appended_none xs s = record { more = []; is = sym (append-nil xs); brought = refl }

pub appended_more : (xs ys : List Answer) (a : Answer) (old mid new : EndSeen) → HasAppended xs ys old mid → HasBrought a mid new → HasAppended xs (ys ++ a ∷ []) old new
appended_more xs ys a old mid new h b = record {
  more = h.more ++ a ∷ [];
  is = ap (λ (l : List Answer). l ++ a ∷ []) h.is ∙ append_assoc xs h.more (a ∷ []);
  brought = brought_one_more h.more a old mid new h.brought b;
}

shorter_after : (rest : List ℕ) → HasLength rest → length (after_frame rest) < length rest
shorter_after rest h = let one = length-drop (first_length rest) (drop 3 rest) in let two = length-drop 3 rest in omega arith

shorter_none : (rest : List ℕ) → HasLength rest → length {A = ℕ} [] < length rest
shorter_none rest h = omega arith

length_of_bad : (rule most : ℕ) (rest : List ℕ) → BeginsBad rule most rest → HasLength rest
length_of_bad rule most rest (inl w) = w.0.0.0
length_of_bad rule most rest (inr l) = l.0.0

-- what is left is shorter
pub fewer_left : (side : Side) (c : Option ℕ) (rest : List ℕ) (most : ℕ) (e : Event) → ComesAs side c rest most e → length (left_after e rest) < length rest
fewer_left side (Some c) rest most (event.Came conn f) h = shorter_after rest h.1.0.0
fewer_left side (Some c) rest most (event.Bad conn rule) h = shorter_none rest (length_of_bad rule most rest h.1)
fewer_left Server None rest most (event.Open (Some f) taken) h = shorter_after rest h.0.0.0
fewer_left Client None rest most e h = elim h [ ]
fewer_left Server None rest most (event.Open None taken) h = elim h [ ]
fewer_left Server None rest most (event.Cut _) h = elim h [ ]
fewer_left Server None rest most (event.Draw _ _) h = elim h [ ]
fewer_left Server None rest most (event.Came conn f) h = elim h [ ]
fewer_left Server None rest most (event.Bad conn rule) h = elim h [ ]
fewer_left Server None rest most (event.Tick _) h = elim h [ ]
fewer_left Server None rest most (event.Asked _) h = elim h [ ]
fewer_left side (Some c) rest most (event.Open _ taken) h = elim h [ ]
fewer_left side (Some c) rest most (event.Cut _) h = elim h [ ]
fewer_left side (Some c) rest most (event.Draw _ _) h = elim h [ ]
fewer_left side (Some c) rest most (event.Tick _) h = elim h [ ]
fewer_left side (Some c) rest most (event.Asked _) h = elim h [ ]
