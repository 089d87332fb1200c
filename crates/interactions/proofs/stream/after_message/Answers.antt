use Rattle.std.proofs.Common.{rules, ◌≡◌, ◌||◌}
use Rattle.rs_wire.specs.declared.words.Way.TheVariants as way
use Rattle.stream_model.specs.Turns.{message_ends}
use Rattle.interactions.proofs.stream.after_message.Goals as goal

pub returns-clause-after : goal.returns-clause-after
returns-clause-after c = λ message.
    let f = c.args.kept in
    let r : c.if-kept.result ≡ (f.request_over || message_ends c.args.by f.kind c.args.complete way.Request) = search rules in
    let p : c.if-kept-2.result ≡ (f.reply_over || message_ends c.args.by f.kind c.args.complete way.Reply) = search rules in
    let w = c.is_whole_after.ensures message c.args.complete c.args.next in
    let q = c.credit_used.ensures.credit message c.args.complete in
    let u = c.credit_used-2.ensures.credit message c.args.complete in
    cc
