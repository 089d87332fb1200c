-- The marks that a past represents, the newest first.
use Rattle.std.specs.Prelude.{List, [], ◌∷◌, ◌++◌}
use Rattle.stream_model.specs.Marks.{Mark, Took, TookJob}
use Rattle.stream_model.specs.Arriving.{heard, said}
use Rattle.interactions.specs.declared.history.Past.{Past}
use Rattle.interactions.specs.declared.history.Past.TheVariants as past

abbrev pub marks_of : Past → List Mark
marks_of past.Nothing = []
marks_of (past.Arrived' _ before what) = heard what.value ∷ marks_of before
marks_of (past.Acted' _ before stream call) = said stream.value call.value ++ marks_of before
marks_of (past.Took' _ before stream delivery) = Took stream.value delivery.value ∷ marks_of before
marks_of (past.TookJob' _ before) = TookJob ∷ marks_of before
