use Rattle.std.proofs.Common.{subst, sym}
use Rattle.stream_model.specs.declared.stream.Limits.{Limits}
use Rattle.stream_model.specs.Known.{known as known_after}
use Rattle.reassembly.specs.Gathering.{gathered_at}
use Rattle.session_core.specs.Gathering.{IsOfHeard}
use Rattle.session_core.proofs.Messages.{Goes, kept_parts, marks_said, still_heard}
use Rattle.session_core.proofs.gathering.speak.Goals as goal

pub returns-clause-marks : goal.returns-clause-marks
returns-clause-marks c =
    marks_said c.args.incoming.now.covered (gathered_at c.args.parts.now) c.args.answer.now c.args.event.now c.take_in-arrival.result c.args.streams.now.marks c.say.new.streams.marks c.take_in-arrival.ensures.arrival c.say.ensures.marks

pub returns-clause-unfinished : goal.returns-clause-unfinished
returns-clause-unfinished c s =
    let most = c.say.new.streams.limits.max_streams in
    let said = marks_said c.args.incoming.now.covered (gathered_at c.args.parts.now) c.args.answer.now c.args.event.now c.take_in-arrival.result c.args.streams.now.marks c.say.new.streams.marks c.take_in-arrival.ensures.arrival c.say.ensures.marks in
    let before = subst (λ (l : Limits). IsOfHeard (known_after l.max_streams c.args.streams.now.marks) c.args.parts.now) (sym c.say.ensures.limits) c.requires.heard in
    let goes : Goes most c.args.streams.now.marks c.say.new.streams.marks c.args.incoming.now.covered c.args.answer.now c.args.event.now c.args.parts.now c.take_in-arrival.new.parts c.let_go.new.parts = record {
      said = said;
      before = before;
      taken = c.take_in-arrival.ensures.gathered;
      others = c.take_in-arrival.ensures.others;
      let_go = record { heard = c.let_go.ensures.heard; over = c.let_go.ensures.over; others = c.let_go.ensures.others };
    } in
    kept_parts most c.args.streams.now.marks c.say.new.streams.marks c.args.incoming.now.covered c.args.answer.now c.args.event.now c.args.parts.now c.take_in-arrival.new.parts c.let_go.new.parts goes s

pub returns-clause-heard : goal.returns-clause-heard
returns-clause-heard c =
    let most = c.say.new.streams.limits.max_streams in
    let said = marks_said c.args.incoming.now.covered (gathered_at c.args.parts.now) c.args.answer.now c.args.event.now c.take_in-arrival.result c.args.streams.now.marks c.say.new.streams.marks c.take_in-arrival.ensures.arrival c.say.ensures.marks in
    let before = subst (λ (l : Limits). IsOfHeard (known_after l.max_streams c.args.streams.now.marks) c.args.parts.now) (sym c.say.ensures.limits) c.requires.heard in
    let goes : Goes most c.args.streams.now.marks c.say.new.streams.marks c.args.incoming.now.covered c.args.answer.now c.args.event.now c.args.parts.now c.take_in-arrival.new.parts c.let_go.new.parts = record {
      said = said;
      before = before;
      taken = c.take_in-arrival.ensures.gathered;
      others = c.take_in-arrival.ensures.others;
      let_go = record { heard = c.let_go.ensures.heard; over = c.let_go.ensures.over; others = c.let_go.ensures.others };
    } in
    still_heard most c.args.streams.now.marks c.say.new.streams.marks c.args.incoming.now.covered c.args.answer.now c.args.event.now c.args.parts.now c.take_in-arrival.new.parts c.let_go.new.parts goes
