-- The entries that a past represents, the newest first.
use Rattle.std.specs.Prelude.{List, [], ◌∷◌}
use Rattle.rs_wire.specs.declared.call.Call.TheVariants as call
use Rattle.tape.specs.Told.{entry_of}
use Rattle.tape.specs.declared.answer.Answer.TheVariants as answer
use Rattle.tape.specs.declared.entry.Entry.{Entry}
use Rattle.tape.specs.declared.event.Event.TheVariants as event
use Rattle.session_core.specs.declared.history.Past.{Past}
use Rattle.session_core.specs.declared.history.Past.TheVariants as past

abbrev pub entries_of : Past → List Entry
entries_of past.Nothing = []
entries_of (past.More' _ before who happened answered) = entry_of who.value happened.value answered.value ∷ entries_of before
entries_of (past.Called' _ before who asked answered) = entry_of who.value (event.Asked asked.value) answered.value ∷ entries_of before
entries_of (past.Taken' _ before who stream delivery) = entry_of who.value (event.Asked (call.Take stream.value)) (answer.Got delivery.value) ∷ entries_of before
entries_of (past.TakenJob' _ before who job) = entry_of who.value (event.Asked call.TakeJob) (answer.GotJob job.value) ∷ entries_of before
