use Rattle.ws_end.specs.Messages.{SendsAll}
use Rattle.ws_end.proofs.sending.send_whole.Given as goal

abbrev pub invariant-loop : goal.invariant-loop
invariant-loop g l = SendsAll g.S.Write.contents l.fn.socket l.socket l.fn.part.bytes l.part.bytes
