use Rattle.std.proofs.Common.{rules, ap, ◌∙◌}
use Rattle.stream_model.specs.Marks.{Payload}
use Rattle.stream_model.specs.Turns.{message_ends}
use Rattle.stream_table.specs.Tables.{kept_at}
use Rattle.interactions.proofs.Credits.{credited}
use Rattle.interactions.proofs.Standing.{own_stands, send_credit, sent_stands}
use Rattle.interactions.proofs.parts.Parts.send.Goals as goal

pub after_message-after-requires-clause-credit : goal.after_message-after-requires-clause-credit
after_message-after-requires-clause-credit c = send_credit (kept_at c.args.self.now.table.kept c.args.stream) c.in-Some.kept c.args.next (search rules) c.requires.credit

pub returns-in-Some-clause-stands : goal.returns-in-Some-clause-stands
returns-in-Some-clause-stands c = λ message seen h.
    let f = c.in-Some.kept in
    let credit = send_credit (kept_at c.args.self.now.table.kept c.args.stream) f c.args.next (search rules) c.requires.credit in
    own_stands c.args.self.now c.own.new.self seen c.args.stream (Payload message c.args.complete c.args.next) f _ _ (search rules) c.own.ensures.limits (c.after_message-after.ensures.after message)
    (c.message_ends-ends.ensures ∙ ap (message_ends f.role f.kind c.args.complete) c.inbound.ensures) tt
    (credited f f.role message c.args.complete c.args.next credit) c.own.ensures.says h

pub returns-in_default-clause-stands : goal.returns-in_default-clause-stands
returns-in_default-clause-stands c = λ message seen h. sent_stands c.args.self.now seen c.args.stream (Payload message c.args.complete c.args.next) tt (search rules) h
