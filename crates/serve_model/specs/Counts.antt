-- What the caller of one number did. Entries stand newest first.
use Rattle.std.specs.Prelude.{ℕ, ◌+◌, ◌==◌, ◌&&◌, Bool, nat_lt, if◌then◌else◌, List, [], ◌∷◌, Option, Some, None}
use Rattle.tape.specs.declared.answer.Answer.{Answer}
use Rattle.tape.specs.declared.entry.Entry.{Entry}
use Rattle.tape.specs.declared.event.Event.{Event}
use Rattle.tape.specs.declared.event.Event.TheVariants as event
use Rattle.stream_model.specs.Streams.{one_if}
use Rattle.session_model.specs.Joined.{opens_as}
use Rattle.session_model.specs.Life.{is_opened, openings_in}

-- how many openings, whatever was answered
unfoldable pub opens_by : ℕ → List Entry → ℕ
opens_by n [] = 0
opens_by n (x ∷ past) = opens_by n past + (if x.who == n then openings_in x.event else 0)

-- 1 for an opening that was accepted
abbrev pub accepts : Event → Answer → ℕ
accepts (event.Open first taken) a = one_if (is_opened a)
accepts _ a = 0

-- how many that were accepted
unfoldable pub accepted_by : ℕ → List Entry → ℕ
accepted_by n [] = 0
accepted_by n (x ∷ past) = accepted_by n past + (if x.who == n then accepts x.event x.answer else 0)

-- and as connection c
abbrev pub accepts_as : ℕ → Event → Answer → ℕ
accepts_as c (event.Open first taken) a = one_if (opens_as c a)
accepts_as c _ a = 0

-- how many that were accepted as connection c
unfoldable pub opened_by : ℕ → ℕ → List Entry → ℕ
opened_by n c [] = 0
opened_by n c (x ∷ past) = opened_by n c past + (if x.who == n then accepts_as c x.event x.answer else 0)

-- the entry is an opening of this caller
abbrev pub opens_here : ℕ → Entry → Bool
opens_here n x = (x.who == n) && nat_lt 0 (openings_in x.event)

-- the entries after its last opening, all of them where there is none
unfoldable pub since_open : ℕ → List Entry → List Entry
since_open n [] = []
since_open n (x ∷ past) = if opens_here n x then [] else x ∷ since_open n past

abbrev pub or_else : Option Entry → ℕ → Entry → Option Entry
or_else (Some y) n x = Some y
or_else None n x = if x.who == n then Some x else None

-- the oldest entry of this caller
unfoldable pub first_by : ℕ → List Entry → Option Entry
first_by n [] = None
first_by n (x ∷ past) = or_else (first_by n past) n x
