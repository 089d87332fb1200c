use Rattle.std.proofs.Common.{◌∙◌}
use Rattle.outbox.proofs.Kept.{is_kept, is_kept_after}
use Rattle.outbox.proofs.outbox.Outbox.keep_request.Goals as goal

pub returns-then-keep_in_line-clause-ok : goal.returns-then-keep_in_line-clause-ok
returns-then-keep_in_line-clause-ok c =
    is_kept_after c.args.self.now c.reserve.new.self c.keep_in_line.new.self _ _ c.in_ok-reserve.ensures.ok (c.keep_in_line.ensures.kept _ c.request_pieces-frame.ensures c.if-keep_in_line.true)

pub returns-clause-ok : goal.returns-clause-ok
returns-clause-ok c =
    let mid = c.keep_in_line.ensures.same c.if-keep_in_line.false ∙ c.in_ok-reserve.ensures.ok in
    is_kept c.args.self.now c.keep_in_line.new.self c.append_request.new.self c.keep_last.new.self _ _ c.request_length-count.result mid c.in_ok-append_request.ensures.ok c.request_length-count.ensures.value c.keep_last.ensures.held c.keep_last.ensures.of_made c.keep_last.ensures.queue
