use Rattle.rs_frame.specs.Framed.{framed_frame}
use Rattle.outbox.proofs.outbox.Outbox.append_frame.Given as goal

abbrev pub ghost-append_with : goal.ghost-append_with
ghost-append_with a = framed_frame a.write.0.now
