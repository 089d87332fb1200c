use Rattle.rsocket_run.proofs.Telling.{done_back, done_cut_off, stop_bad_frame, stop_cut_off, stop_right, stop_wrong_line}
use Rattle.rsocket_run.proofs.program.run_task.Goals as goal

pub returns-clause-wrong_line : goal.returns-clause-wrong_line
returns-clause-wrong_line g c = λ three task text asks is.
    stop_wrong_line task text _ c.in-Err.stop _ _ _ _ (c.in-Err.ensures.stopped task text asks is) c.tell_stop.ensures three

pub returns-clause-bad_frame : goal.returns-clause-bad_frame
returns-clause-bad_frame g c = λ eleven task text asks is.
    stop_bad_frame task text _ c.in-Err.stop _ _ _ _ (c.in-Err.ensures.stopped task text asks is) c.tell_stop.ensures eleven

pub returns-clause-cut_off : goal.returns-clause-cut_off
returns-clause-cut_off g c = λ five task text asks is.
    stop_cut_off task text (g.I.Source.shown c.args.input.now) (g.I.Source.shown c.work.new.input) _ _ _ c.in-Err.stop _ _ _ _ c.in-Err.ensures.faults (c.in-Err.ensures.stopped task text asks is) c.tell_stop.ensures five

pub returns-clause-complete : goal.returns-clause-complete
returns-clause-complete g c = λ task text asks is right read_quiet write_quiet.
    stop_right task text _ c.in-Err.stop (g.I.Source.shown c.args.input.now).faults (g.I.Source.shown c.work.new.input).faults _ _ _ _ (c.in-Err.ensures.stopped task text asks is) c.in-Err.ensures.faults c.tell_stop.ensures right read_quiet

pub returns-in-Ok-clause-cut_off : goal.returns-in-Ok-clause-cut_off
returns-in-Ok-clause-cut_off g c = λ five task text asks is.
    done_cut_off task text (g.I.Source.shown c.args.input.now) (g.I.Source.shown c.work.new.input) _ _ _ _ _ _ _ _ _ (c.in-Ok.ensures.done task text asks is) c.deref.ensures.value c.tell_done.ensures five

pub returns-in-Ok-clause-back : goal.returns-in-Ok-clause-back
returns-in-Ok-clause-back g c = done_back _ _ _ _ _ _ _ c.in-Ok.ensures.back c.tell_done.ensures
