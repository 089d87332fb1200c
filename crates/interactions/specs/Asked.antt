-- What a call asks of a stream that is open.
use Rattle.std.specs.Prelude.{Option, None}
use Rattle.rs_wire.specs.declared.fault.Refusal.{Refusal}
use Rattle.stream_model.specs.declared.stream.Stream.{Stream as Kept}
use Rattle.stream_model.specs.Refused.{on_way, outbound_over, inbound_over, cancel_refused, take_refused}
use Rattle.interactions.specs.declared.judging.Asked.{Asked}
use Rattle.interactions.specs.declared.judging.Asked.TheVariants.{Send, Grant, Cancel, Fail, Take}

abbrev pub asked_refused : Asked → Kept → Option Refusal
asked_refused Send f = on_way (outbound_over f.role f.kind f)
asked_refused Grant f = on_way (inbound_over f.role f.kind f)
asked_refused Cancel f = cancel_refused f.role f.kind f
asked_refused Fail f = None
asked_refused Take f = take_refused f
