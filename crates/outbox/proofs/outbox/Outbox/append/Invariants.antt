use Rattle.rs_frame.specs.Framed.{framed_all}
use Rattle.outbox.proofs.outbox.Outbox.append.Given as goal

abbrev pub ghost-append_with : goal.ghost-append_with
ghost-append_with a = framed_all a.write.0.now
