use Rattle.std.proofs.Common.{◌∙◌}
use Rattle.outbox.proofs.Kept.{is_kept, is_kept_after}
use Rattle.outbox.proofs.outbox.Outbox.keep_frame.Goals as goal

pub returns-then-keep_at_once-clause-ok : goal.returns-then-keep_at_once-clause-ok
returns-then-keep_at_once-clause-ok c =
    is_kept_after c.args.self.now c.reserve.new.self c.keep_at_once.new.self _ _ c.in_ok-reserve.ensures.ok (c.keep_at_once.ensures.kept c.if-keep_at_once.true)

pub returns-clause-ok : goal.returns-clause-ok
returns-clause-ok c =
    let mid = c.keep_at_once.ensures.same c.if-keep_at_once.false ∙ c.in_ok-reserve.ensures.ok in
    is_kept c.args.self.now c.keep_at_once.new.self c.append_frame.new.self c.keep_last.new.self _ _ c.length-count.result mid c.in_ok-append_frame.ensures.ok c.length-count.ensures.value c.keep_last.ensures.held c.keep_last.ensures.of_made c.keep_last.ensures.queue
