use Rattle.rs_frame.specs.Requests.{request_frame}
use Rattle.rs_frame.specs.Framed.{framed_frame}
use Rattle.outbox.proofs.outbox.Outbox.append_request.Given as goal

abbrev pub ghost-append_with : goal.ghost-append_with
ghost-append_with a = framed_frame (request_frame a.write.0 a.write.1 a.write.2.now a.write.4.now a.write.3)
