use Rattle.serve_model.proofs.Names.{goes_both}
use Rattle.serve_laws.specs.Knowing.{IsEndingEvent}
use Rattle.serve_laws.proofs.Taking.{call_goes, others_go_on, works_end, works_go}
use Rattle.serve_laws.proofs.laws.own_calls_end_a_slot.Goals as goal

pub returns : goal.returns
returns c = record {
  call = λ g me e a new is called. call_goes IsEndingEvent g me e a new is called;
  works = works_go;
  ends = works_end;
  others = λ names old new follows. others_go_on (λ x. IsEndingEvent x.event) names old new follows;
  both = λ names a b c first second. goes_both names (λ x. IsEndingEvent x.event) a b c first second;
}
