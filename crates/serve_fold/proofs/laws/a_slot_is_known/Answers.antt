use Rattle.serve_fold.proofs.Slots.{jobs_known, slot_known}
use Rattle.serve_fold.proofs.laws.a_slot_is_known.Goals as goal

pub returns : goal.returns
returns c = record {
  list = λ helps own others workers mid closed rest last g moments lease rows i routes e legal fair named knows all work apart. slot_known helps own others workers mid closed rest last e g moments lease rows i routes legal fair named knows all work apart;
  jobs = λ helps own others workers mid closed rest last g routes was now j worker e one works keeps empty serving idle work is no_more. jobs_known helps own others workers mid closed rest last e g routes was now j worker one works keeps empty serving idle work is no_more;
}
