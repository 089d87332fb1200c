use Rattle.session_core.proofs.Lined.{lined_kept, lined_last, on_ok}
use Rattle.session_core.specs.Sending.{frame_on}
use Rattle.session_core.proofs.sending.line_frame.Goals as goal

pub returns-then-keeps-clause-ok : goal.returns-then-keeps-clause-ok
returns-then-keeps-clause-ok c =
    on_ok c.keep_frame.result _ _ (lined_kept c.args.keeps (frame_on c.args.on c.args.last c.args.call.now) c.args.outbox.now c.keep_frame.new.outbox c.if-keeps.true) c.keep_frame.ensures.ok

pub returns-clause-ok : goal.returns-clause-ok
returns-clause-ok c =
    on_ok c.append_frame.result _ _ (lined_last c.args.keeps (frame_on c.args.on c.args.last c.args.call.now) c.args.outbox.now c.append_frame.new.outbox c.if-keeps.false) c.append_frame.ensures.ok
