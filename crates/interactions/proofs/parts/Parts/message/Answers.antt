use Rattle.std.proofs.Common.{rules, ap, subst, sym, ◌≡◌, ◌∙◌, ◌++◌, ◌&&◌, None, option_to_list}
use Rattle.stream_model.specs.Marks.{Payload}
use Rattle.stream_model.specs.Turns.{Said, carries, inbound, is_fnf, message_ends, other}
use Rattle.stream_model.specs.Arriving.{over_credit}
use Rattle.stream_model.specs.Kept.{after}
use Rattle.stream_model.proofs.Fitting.{whole_credited}
use Rattle.interactions.specs.Credited.{HasCredit}
use Rattle.interactions.proofs.Credits.{peer_credit}
use Rattle.interactions.proofs.Standing.{got_stands, message_brings, peer_stands}
use Rattle.interactions.proofs.parts.Parts.message.Goals as goal

pub returns-in_default-clause-stands : goal.returns-in_default-clause-stands
returns-in_default-clause-stands c = λ seen h. got_stands c.args.self.now seen c.args.stream (Payload c.args.message c.args.complete c.args.next) tt (search rules) h

pub after_message-after-requires-clause-credit : goal.after_message-after-requires-clause-credit
after_message-after-requires-clause-credit c =
    let f = c.in-Some.kept in
    let none : over_credit f c.args.next ≡ None = search rules in
    subst (λ by. HasCredit f by c.args.next) (sym c.other-by.ensures) (peer_credit f c.args.next none)

pub returns-clause-stands : goal.returns-clause-stands
returns-clause-stands c = λ seen h.
    let f = c.in-Some.kept in
    let step = Payload c.args.message c.args.complete c.args.next in
    let none : over_credit f c.args.next ≡ None = search rules in
    peer_stands c.args.self.now c.peer.new.self seen c.args.stream step f _ (option_to_list c.placed-job.result.1 ++ option_to_list c.end_if-end.result) (search rules) c.peer.ensures.limits
    (c.after_message-after.ensures.after c.args.message ∙ ap (λ by. after f (Said by step)) c.other-by.ensures)
    (message_brings (is_fnf f.kind) (c.args.next && carries f.kind f.whole (inbound f.role) (other f.role)) (message_ends (other f.role) f.kind c.args.complete (inbound f.role)) c.args.message (option_to_list c.placed-job.result.1) (option_to_list c.end_if-end.result) (search rules) (search rules))
    tt (whole_credited f c.args.message c.args.complete c.args.next none) (search rules) h
