-- The words that clap takes by a command with one flag.
use Rattle.std.proofs.Common.{◌≡◌, ◌∙◌, ◌⊎◌, ◌||◌, Bool, true, false, cond, List, [], ◌∷◌, Option, Some, None, sym, ap, ap₂, drop, subst, refl, inl, inr}
use Rattle.std.specs.Prelude.{codes}
use Rattle.std.specs.Str.{bytes_eq}
use Rattle.std.proofs.lemmas.Slice.Eq.{bytes_eq-Decides}
use Rattle.clap.specs.Walk.{Row, Rule, Text, Walk, arg_by_long, first_of, rows_after, used, walked}
use Rattle.clap.specs.Simple.{Shape, built, filled, with_index}
use Rattle.clap.specs.Faults.{fault_of, long_fault, walk_fault}
use Rattle.clap.proofs.OnLiterals.{clap_on_literals}
use Rattle.command_line.specs.Words.{cable_app, flag_rule, frames_app}
use Rattle.command_line.proofs.OneWord.{IsBare, IsEnd, behind_end, first_empty, held, one_word, only_the_end, second_empty, start}
use Rattle.command_line.proofs.LongWords.{flag_word}

-- maybe the flag, and no other word
abbrev pub IsFlagged : Text → List Text → Type 0
IsFlagged word words = IsEnd words ⊎ ((rest : List Text) × (words ≡ word ∷ rest) × IsEnd rest)

-- a long flag that is taken is this one
abbrev IsOnly : Shape → Text → Type 0
IsOnly s flag = (p : Text × Option Text) (rows : List Row) → long_fault s.rules s.args_override_self (arg_by_long s.rules p.0) p.1 (held rows) ≡ [] → p ≡ (flag, None)

-- with these rows no long flag is taken any more
abbrev IsLast : Shape → List Row → Type 0
IsLast s rows = (p : Text × Option Text) → long_fault s.rules s.args_override_self (arg_by_long s.rules p.0) p.1 (held rows) ≡ [] → ⊥

flagged_walk : (s : Shape) → IsBare s → (flag : Text) (turned : List Row) → IsOnly s flag → IsLast s turned → walked s.rules [] (start []) (45 ∷ 45 ∷ flag) ≡ start turned
    → (words : List Text) → walk_fault s [] (start []) words ≡ [] → IsFlagged (45 ∷ 45 ∷ flag) words
unfolding walk_fault
flagged_walk s bare flag turned only last turns [] e = inl (inl refl)
flagged_walk s bare flag turned only last turns (word ∷ rest) e = elim (one_word s bare word [] (first_empty _ _ e)) [
  | inl end ↦ inl (inr (behind_end s bare word rest [] end e))
  | inr long ↦
      let is : word ≡ 45 ∷ 45 ∷ flag = flag_word word flag (long.1 ∙ ap (λ p. Some p) (only long.0 [] long.2)) in
      let next = subst (λ (w : Walk). walk_fault s [] w rest ≡ []) (ap (walked s.rules [] (start [])) is ∙ turns) (second_empty _ _ e) in
      inr (rest, ap (λ w. w ∷ rest) is, only_the_end s bare turned last rest next)
]

-- ---- `cable`

abbrev cable_shape : Shape
cable_shape = (built cable_app).top

cable_is_bare : IsBare cable_shape
cable_is_bare = record { no_positional = λ i. refl; no_short = λ x. refl; is_leaf = refl }

abbrev threads : Rule
threads = with_index 1 (filled (flag_rule (codes "threads")))

-- the rows once `--threads` was read
abbrev by_threads : List Row
by_threads = used threads [] []

only_threads : IsOnly cable_shape (codes "threads")
only_threads p rows e = go (bytes_eq (codes "threads") p.0) refl p.1 refl e
  where
    go : (b : Bool) → bytes_eq (codes "threads") p.0 ≡ b → (v : Option Text) → p.1 ≡ v
        → long_fault cable_shape.rules false (cond (b || false) (Some threads) None) v (held rows) ≡ [] → p ≡ (codes "threads", None)
    go true is None bare f = ap₂ (λ t o. (t, o)) (sym ((bytes_eq-Decides (codes "threads") p.0).0 is)) bare
    go true is (Some v) bare f = cc
    go false is v bare f = cc

threads_once : IsLast cable_shape by_threads
threads_once p e =
    let again = subst (λ (q : Text × Option Text). long_fault cable_shape.rules false (arg_by_long cable_shape.rules q.0) q.1 (held by_threads) ≡ []) (only_threads p by_threads e) e in
    cc

pub cable_words : (words : List Text) → fault_of cable_app words ≡ [] → IsFlagged (codes "--threads") (drop 1 words)
unfolding clap_on_literals
cable_words words e = flagged_walk cable_shape cable_is_bare (codes "threads") by_threads only_threads threads_once refl (drop 1 words) (first_empty _ _ e)

-- ---- `frames`

abbrev frames_shape : Shape
frames_shape = (built frames_app).top

frames_is_bare : IsBare frames_shape
frames_is_bare = record { no_positional = λ i. refl; no_short = λ x. refl; is_leaf = refl }

abbrev back : Rule
back = with_index 1 (filled (flag_rule (codes "back")))

-- the rows once `--back` was read
abbrev by_back : List Row
by_back = used back [] []

only_back : IsOnly frames_shape (codes "back")
only_back p rows e = go (bytes_eq (codes "back") p.0) refl p.1 refl e
  where
    go : (b : Bool) → bytes_eq (codes "back") p.0 ≡ b → (v : Option Text) → p.1 ≡ v
        → long_fault frames_shape.rules false (cond (b || false) (Some back) None) v (held rows) ≡ [] → p ≡ (codes "back", None)
    go true is None bare f = ap₂ (λ t o. (t, o)) (sym ((bytes_eq-Decides (codes "back") p.0).0 is)) bare
    go true is (Some v) bare f = cc
    go false is v bare f = cc

back_once : IsLast frames_shape by_back
back_once p e =
    let again = subst (λ (q : Text × Option Text). long_fault frames_shape.rules false (arg_by_long frames_shape.rules q.0) q.1 (held by_back) ≡ []) (only_back p by_back e) e in
    cc

pub frames_words : (words : List Text) → fault_of frames_app words ≡ [] → IsFlagged (codes "--back") (drop 1 words)
unfolding clap_on_literals
frames_words words e = flagged_walk frames_shape frames_is_bare (codes "back") by_back only_back back_once refl (drop 1 words) (first_empty _ _ e)

-- ---- what the flags read

abbrev threads_read : List Text → Option Text
threads_read words = first_of (codes "threads") (rows_after cable_shape.rules [] words)

pub no_threads_read : (words : List Text) → IsEnd words → threads_read words ≡ Some (codes "false")
unfolding clap_on_literals
no_threads_read words (inl is) = ap threads_read is ∙ refl
no_threads_read words (inr is) = ap threads_read is ∙ refl

pub are_threads_read : (words rest : List Text) → words ≡ codes "--threads" ∷ rest → IsEnd rest → threads_read words ≡ Some (codes "true")
unfolding clap_on_literals
are_threads_read words rest is (inl end) = ap threads_read (is ∙ ap (λ r. codes "--threads" ∷ r) end) ∙ refl
are_threads_read words rest is (inr end) = ap threads_read (is ∙ ap (λ r. codes "--threads" ∷ r) end) ∙ refl

abbrev back_read : List Text → Option Text
back_read words = first_of (codes "back") (rows_after frames_shape.rules [] words)

pub forth_reads : (words : List Text) → IsEnd words → back_read words ≡ Some (codes "false")
unfolding clap_on_literals
forth_reads words (inl is) = ap back_read is ∙ refl
forth_reads words (inr is) = ap back_read is ∙ refl

pub back_reads : (words rest : List Text) → words ≡ codes "--back" ∷ rest → IsEnd rest → back_read words ≡ Some (codes "true")
unfolding clap_on_literals
back_reads words rest is (inl end) = ap back_read (is ∙ ap (λ r. codes "--back" ∷ r) end) ∙ refl
back_reads words rest is (inr end) = ap back_read (is ∙ ap (λ r. codes "--back" ∷ r) end) ∙ refl
