-- The words that ask for each task of the program: the first word is a command, and the others are
-- those that clap takes by this command.
use Rattle.std.specs.Prelude.{◌≡◌, ◌⊎◌, ◌++◌, ◌∷◌, ℕ, true, false, Bool, List, [], Some, codes, slice_get}
use Rattle.std.specs.List.{All}
use Rattle.std.specs.Option.{option_map_or}
use Rattle.std.specs.Str.{IsUtf8, bytes_eq}
use Rattle.clap.specs.Simple.{on_top}
use Rattle.clap.specs.Words.{App, Row, Rule, fault_of, first_of, matches_of, new_app, new_rule, with_rule}
use Rattle.clap.specs.declared.builder.action.ArgAction.TheVariants.{SetTrue}
use Rattle.command_line.specs.declared.task.Task.{Task}
use Rattle.command_line.specs.declared.task.Task.TheVariants.{Cable, Frames}

-- ---- the commands

-- a command with no argument, and with no flag that asks for help
abbrev pub bare : List ℕ → App
bare name = on_top (λ s. record s { disable_help_flag = true }) (new_app name)

-- the flag `--name`
abbrev pub flag_rule : List ℕ → Rule
flag_rule name = record (new_rule name) { long = Some name; action = Some SetTrue }

-- a command with one flag
abbrev pub flagged_app : List ℕ → List ℕ → App
flagged_app name flag = with_rule (bare name) (flag_rule flag)

abbrev pub cable_app : App
cable_app = flagged_app (codes "cable") (codes "threads")

abbrev pub frames_app : App
frames_app = flagged_app (codes "frames") (codes "back")

-- ---- what clap reads by them

-- the first word is the command's name, and the words are text that clap takes by it
pub record Takes (app : App) (words : List (List ℕ)) : Type 0 where
  pub named : slice_get words 0 ≡ Some app.top.name
  pub texts : All IsUtf8 words
  pub taken : fault_of app words ≡ []

-- the flag was given
abbrev pub is_on : List ℕ → List Row → Bool
is_on name rows = option_map_or (bytes_eq (codes "true")) (first_of name rows) false

-- ---- the tasks

abbrev pub Asks : List (List ℕ) → Task → Type 0
Asks words (Cable threads) =
    Takes cable_app words × (is_on (codes "threads") (matches_of cable_app words) ≡ threads)
Asks words (Frames back) =
    Takes frames_app words × (is_on (codes "back") (matches_of frames_app words) ≡ back)

-- ---- words of a law

-- the words are these, and maybe `--` after them
abbrev pub AreJust : List (List ℕ) → List (List ℕ) → Type 0
AreJust words these = (words ≡ these) ⊎ (words ≡ these ++ codes "--" ∷ [])
