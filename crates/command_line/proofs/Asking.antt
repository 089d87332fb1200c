-- The words that ask for each task.
use Rattle.std.proofs.Common.{◌≡◌, ◌∙◌, ◌↔◌, ◌++◌, Bool, true, false, true≢false, List, [], ◌∷◌, Option, Some, sym, ap, drop, subst, refl, inl, inr}
use Rattle.std.specs.Prelude.{codes, slice_get}
use Rattle.std.specs.Option.{option_map_or}
use Rattle.std.specs.Str.{IsUtf8, bytes_eq, is_utf8}
use Rattle.std.specs.List.{All, list_all}
use Rattle.std.proofs.lemmas.List.Elements.{All-cons, All-nil}
use Rattle.std.proofs.lemmas.Str.{IsUtf8-from_is_utf8}
use Rattle.clap.proofs.WalkLemmas.{both}
use Rattle.clap.specs.Walk.{Text}
use Rattle.clap.proofs.OnLiterals.{clap_on_literals}
use Rattle.command_line.specs.declared.task.Task.{Task}
use Rattle.command_line.specs.declared.task.Task.TheVariants.{Cable, Frames}
use Rattle.clap.specs.Words.{App, fault_of}
use Rattle.command_line.specs.Words.{AreJust, Asks, Takes, cable_app, frames_app}
use Rattle.command_line.proofs.OneWord.{IsEnd}
use Rattle.command_line.proofs.Closed.{are_threads_read, back_reads, cable_words, forth_reads, frames_words, no_threads_read}

-- the first word, and then the others
named : (words rest : List Text) (first : Text) → slice_get words 0 ≡ Some first → drop 1 words ≡ rest → words ≡ first ∷ rest
named [] rest first is e = cc
named (word ∷ words) rest first is e = cc

pub one : (words : List Text) (a b : Task) → Asks words a → Asks words b → a ≡ b
one words (Cable a) (Cable b) p q = ap (λ threads. Cable threads) (sym p.1 ∙ q.1)
one words (Cable threads) (Frames back) p q = let same : Some (codes "cable") ≡ Some (codes "frames") = sym p.0.named ∙ q.0.named in cc
one words (Frames back) (Cable threads) p q = let same : Some (codes "cable") ≡ Some (codes "frames") = sym q.0.named ∙ p.0.named in cc
one words (Frames a) (Frames b) p q = ap (λ back. Frames back) (sym p.1 ∙ q.1)

-- ---- words that ask

are_texts : (words : List Text) → list_all is_utf8 words ≡ true → All IsUtf8 words
are_texts [] e = All-nil IsUtf8
are_texts (word ∷ rest) e =
    let each = both _ _ e in
    All-cons IsUtf8 word rest (IsUtf8-from_is_utf8 word each.0) (are_texts rest each.1)

takes : (app : App) (words : List Text) → slice_get words 0 ≡ Some app.top.name → list_all is_utf8 words ≡ true → fault_of app words ≡ [] → Takes app words
takes app words is texts taken = record { named = is; texts = are_texts words texts; taken = taken }

just_asks : (task : Task) (words these : List Text) → Asks these task → Asks (these ++ codes "--" ∷ []) task → AreJust words these → Asks words task
just_asks task words these asks to_end (inl is) = subst (λ ws. Asks ws task) (sym is) asks
just_asks task words these asks to_end (inr is) = subst (λ ws. Asks ws task) (sym is) to_end

-- ---- and no others do

just_first : (words : List Text) (first : Text) → slice_get words 0 ≡ Some first → IsEnd (drop 1 words) → AreJust words (first ∷ [])
just_first words first is (inl end) = inl (named words [] first is end)
just_first words first is (inr end) = inr (named words (codes "--" ∷ []) first is end)

just_second : (words rest : List Text) (first second : Text) → slice_get words 0 ≡ Some first → drop 1 words ≡ second ∷ rest → IsEnd rest → AreJust words (first ∷ second ∷ [])
just_second words rest first second is next (inl end) = inl (named words (second ∷ []) first is (next ∙ ap (λ r. second ∷ r) end))
just_second words rest first second is next (inr end) = inr (named words (second ∷ codes "--" ∷ []) first is (next ∙ ap (λ r. second ∷ r) end))

-- the flag's value, by its text
abbrev set_by : Option Text → Bool
set_by text = option_map_or (bytes_eq (codes "true")) text false

-- ---- task by task

pub cable_row : (words : List Text) → Asks words (Cable false) ↔ AreJust words (codes "cable" ∷ [])
unfolding clap_on_literals is_utf8
cable_row words = (
  λ asks. elim (cable_words words asks.0.taken) [
    | inl end ↦ just_first words (codes "cable") asks.0.named end
    | inr on ↦ absurd (true≢false (sym (ap set_by (are_threads_read (drop 1 words) on.0 on.1 on.2)) ∙ asks.1))
  ],
  just_asks (Cable false) words (codes "cable" ∷ []) (takes cable_app _ refl refl refl, refl) (takes cable_app _ refl refl refl, refl),
)

pub threads_row : (words : List Text) → Asks words (Cable true) ↔ AreJust words (codes "cable" ∷ codes "--threads" ∷ [])
unfolding clap_on_literals is_utf8
threads_row words = (
  λ asks. elim (cable_words words asks.0.taken) [
    | inl end ↦ absurd (true≢false (sym asks.1 ∙ ap set_by (no_threads_read (drop 1 words) end)))
    | inr on ↦ just_second words on.0 (codes "cable") (codes "--threads") asks.0.named on.1 on.2
  ],
  just_asks (Cable true) words (codes "cable" ∷ codes "--threads" ∷ []) (takes cable_app _ refl refl refl, refl) (takes cable_app _ refl refl refl, refl),
)

pub frames_row : (words : List Text) → Asks words (Frames false) ↔ AreJust words (codes "frames" ∷ [])
unfolding clap_on_literals is_utf8
frames_row words = (
  λ asks. elim (frames_words words asks.0.taken) [
    | inl end ↦ just_first words (codes "frames") asks.0.named end
    | inr back ↦ absurd (true≢false (sym (ap set_by (back_reads (drop 1 words) back.0 back.1 back.2)) ∙ asks.1))
  ],
  just_asks (Frames false) words (codes "frames" ∷ []) (takes frames_app _ refl refl refl, refl) (takes frames_app _ refl refl refl, refl),
)

pub frames_back_row : (words : List Text) → Asks words (Frames true) ↔ AreJust words (codes "frames" ∷ codes "--back" ∷ [])
unfolding clap_on_literals is_utf8
frames_back_row words = (
  λ asks. elim (frames_words words asks.0.taken) [
    | inl end ↦ absurd (true≢false (sym asks.1 ∙ ap set_by (forth_reads (drop 1 words) end)))
    | inr back ↦ just_second words back.0 (codes "frames") (codes "--back") asks.0.named back.1 back.2
  ],
  just_asks (Frames true) words (codes "frames" ∷ codes "--back" ∷ []) (takes frames_app _ refl refl refl, refl) (takes frames_app _ refl refl refl, refl),
)
