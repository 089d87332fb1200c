use Rattle.std.specs.Prelude.{false, true}
use Rattle.rs_frame.specs.declared.frame.Frame.TheVariants as frame
use Rattle.rs_frame.specs.Framed.{framed_frame}
use Rattle.outbox.proofs.outbox.Outbox.append_item.Given as goal

abbrev pub ghost-append_with : goal.ghost-append_with
ghost-append_with a = framed_frame (frame.Payload a.write.0 false a.write.1 true a.write.2.now)
