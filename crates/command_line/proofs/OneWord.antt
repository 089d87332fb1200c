-- What clap makes of one more word of a command that has no positional and no short flag, and of which nothing waits.
use Rattle.std.proofs.Common.{◌≡◌, ◌⊎◌, ℕ, arith, Bool, zero, suc, true, false, cond, List, [], ◌∷◌, Option, Some, None, length, ap₂, subst, refl, inl, inr}
use Rattle.std.specs.Prelude.{codes, slice_get}
use Rattle.std.specs.Option.{option_map_or}
use Rattle.std.specs.Str.{bytes_eq, chars}
use Rattle.std.proofs.lemmas.Slice.Eq.{bytes_eq-Decides}
use Rattle.clap.specs.Lexer.{long_of, short_of}
use Rattle.clap.specs.Walk.{Held, Row, Rule, Text, Walk, after_flag, arg_by_index, arg_by_long, arg_by_short, bundle_met, bundle_step, idle, long_or_other, plain, short_or_plain, trailing, value, walk_from, walked}
use Rattle.clap.specs.Simple.{Shape}
use Rattle.clap.specs.Kinds.{Kinds, or_else}
use Rattle.clap.specs.Faults.{bundle_fault, bundle_step_fault, flag_word_fault, flags_fault, long_fault, short_fault, step_fault, turn_fault, walk_fault}
use Rattle.clap.specs.declared.error.kind.ErrorKind.TheVariants as kind

pub first_empty : (a b : Kinds) → or_else a b ≡ [] → a ≡ []
first_empty [] b e = refl
first_empty (k ∷ ks) b e = e

pub second_empty : (a b : Kinds) → or_else a b ≡ [] → b ≡ []
second_empty [] b e = e
second_empty (k ∷ ks) b e = cc

-- nothing is held but these rows
abbrev pub held : List Row → Held
held rows = record { rows = rows; pending = None; skip = 0 }

abbrev pub start : List Row → Walk
start rows = walk_from (held rows)

abbrev pub behind_the_end : List Row → Walk
behind_the_end rows = record (start rows) { is_trailing = true }

-- a command with no positional, no short flag and no subcommand
pub record IsBare (s : Shape) : Type 0 where
  pub no_positional : (i : ℕ) → arg_by_index s.rules i ≡ None
  pub no_short : (x : ℕ) → arg_by_short s.rules x ≡ None
  pub is_leaf : s.is_leaf ≡ true

abbrev pub IsEnd : List Text → Type 0
IsEnd words = (words ≡ []) ⊎ (words ≡ codes "--" ∷ [])

module _ (s : Shape) (bare : IsBare s) where
  -- a word for a positional is refused
  stray : (h : Held) → step_fault s 1 h value ≡ [] → ⊥
  stray h e = let refused : step_fault s 1 h value ≡ kind.UnknownArgument ∷ [] = rw (bare.no_positional 1, bare.is_leaf) refl in cc

  short_refused : (found : Option Rule) (rest : Text) (h : Held) (next : Held → Kinds) → found ≡ None → short_fault s.rules s.args_override_self found rest h next ≡ [] → ⊥
  short_refused found rest h next none e = grind arith

  -- the flags of a bundle
  bundle_refused : (k : ℕ) (word flags : Text) (rows : List Row)
      → flags_fault s.rules s.args_override_self k flags 0 (held rows) ≡ []
      → step_fault s 1 (after_flag s.rules idle word (bundle_met s.rules k flags 0 plain (held rows)).0 (bundle_met s.rules k flags 0 plain (held rows)).1).0
      (after_flag s.rules idle word (bundle_met s.rules k flags 0 plain (held rows)).0 (bundle_met s.rules k flags 0 plain (held rows)).1).1 ≡ [] → ⊥
  unfolding flags_fault bundle_met
  bundle_refused zero word flags rows flag step = stray (held rows) step
  bundle_refused (suc k) word flags rows flag step = go (slice_get (chars flags) 0) flag step
    where
      go : (x : Option ℕ) → bundle_step_fault s.rules s.args_override_self x flags 0 (held rows) (flags_fault s.rules s.args_override_self k) ≡ []
          → step_fault s 1 (after_flag s.rules idle word (bundle_step s.rules x flags 0 plain (held rows) (bundle_met s.rules k)).0 (bundle_step s.rules x flags 0 plain (held rows) (bundle_met s.rules k)).1).0
          (after_flag s.rules idle word (bundle_step s.rules x flags 0 plain (held rows) (bundle_met s.rules k)).0 (bundle_step s.rules x flags 0 plain (held rows) (bundle_met s.rules k)).1).1 ≡ [] → ⊥
      go None f e = stray (held rows) e
      go (Some x) f e = short_refused _ _ _ _ (bare.no_short x) f

  not_long : (flags : Option Text) (word : Text) (rows : List Row)
      → option_map_or (λ t. bundle_fault s.rules s.args_override_self t (held rows)) flags [] ≡ []
      → step_fault s 1 (short_or_plain s.rules idle word flags (held rows)).0 (short_or_plain s.rules idle word flags (held rows)).1 ≡ [] → ⊥
  not_long None word rows flag step = stray (held rows) step
  not_long (Some flags) word rows flag step = bundle_refused (length flags) word flags rows flag step

  -- a word that is taken is `--`, or a long flag that is taken
  pub one_word : (word : Text) (rows : List Row) → turn_fault s [] (start rows) word ≡ []
      → (word ≡ codes "--") ⊎ ((p : Text × Option Text) × (long_of word ≡ Some p) × (long_fault s.rules s.args_override_self (arg_by_long s.rules p.0) p.1 (held rows) ≡ []))
  one_word word rows e = go (bytes_eq word (45 ∷ 45 ∷ [])) refl (long_of word) refl e
    where
      go : (end : Bool) → bytes_eq word (45 ∷ 45 ∷ []) ≡ end → (long : Option (Text × Option Text)) → long_of word ≡ long
          → or_else (cond end [] (flag_word_fault s.rules s.args_override_self long word (held rows)))
          (step_fault s 1 (cond end (held rows, trailing 1) (long_or_other s.rules idle word long (held rows))).0 (cond end (held rows, trailing 1) (long_or_other s.rules idle word long (held rows))).1) ≡ []
          → (word ≡ codes "--") ⊎ ((p : Text × Option Text) × (long_of word ≡ Some p) × (long_fault s.rules s.args_override_self (arg_by_long s.rules p.0) p.1 (held rows) ≡ []))
      go true is long found f = inl ((bytes_eq-Decides word (45 ∷ 45 ∷ [])).0 is)
      go false is (Some p) found f = inr (p, found, first_empty _ _ f)
      go false is None found f = absurd (not_long (short_of word) word rows (first_empty _ _ f) (second_empty _ _ f))

  -- no word stands after `--`
  pub end_is_last : (words : List Text) (rows : List Row) → walk_fault s [] (behind_the_end rows) words ≡ [] → words ≡ []
  unfolding walk_fault
  end_is_last [] rows e = refl
  end_is_last (word ∷ rest) rows e = absurd (stray (held rows) (first_empty _ _ e))

  pub behind_end : (word : Text) (rest : List Text) (rows : List Row) → word ≡ codes "--" → walk_fault s [] (start rows) (word ∷ rest) ≡ [] → word ∷ rest ≡ codes "--" ∷ []
  unfolding walk_fault walked
  behind_end word rest rows end e =
      let last = end_is_last rest rows (subst (λ (w : Text). walk_fault s [] (walked s.rules [] (start rows) w) rest ≡ []) end (second_empty _ _ e)) in
      ap₂ (λ w ws. w ∷ ws) end last

  -- where no flag is taken any more, only `--` is
  pub only_the_end : (rows : List Row) → ((p : Text × Option Text) → long_fault s.rules s.args_override_self (arg_by_long s.rules p.0) p.1 (held rows) ≡ [] → ⊥)
      → (words : List Text) → walk_fault s [] (start rows) words ≡ [] → IsEnd words
  unfolding walk_fault walked
  only_the_end rows refused [] e = inl refl
  only_the_end rows refused (word ∷ rest) e = elim (one_word word rows (first_empty _ _ e)) [
    | inl end ↦ inr (behind_end word rest rows end e)
    | inr long ↦ absurd (refused long.0 long.2)
  ]
