-- What an answer leaves and says.
use Rattle.std.specs.Prelude.{ℕ, Bool, true, false, Option, Some, None}
use Rattle.tape.specs.declared.answer.Answer.{Answer}
use Rattle.tape.specs.declared.answer.Answer.TheVariants as answer

-- an event so answered leaves an entry
abbrev pub leaves : Answer → Bool
leaves answer.NotYet = false
leaves (answer.OutBusy queued) = false
leaves answer.TapeFull = false
leaves answer.OutOfMemory = false
leaves _ = true

-- how many bytes were drawn, where some were
abbrev pub drawn_by : Answer → Option ℕ
drawn_by (answer.Drawn count) = Some count
drawn_by _ = None

-- out of memory, or of places on the tape
abbrev pub is_out_of_memory : Answer → Bool
is_out_of_memory answer.TapeFull = true
is_out_of_memory answer.OutOfMemory = true
is_out_of_memory _ = false
