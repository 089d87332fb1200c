use Rattle.std.proofs.Common.{rules, ◌≡◌, take, length, subst}
use Rattle.std.proofs.lemmas.Slice.{overwrites}
use Rattle.conn_shared.specs.Calls.{IsDrawCall}
use Rattle.pump.proofs.outgoing.draw_first.Goals as goal

pub returns-clause-drawn : goal.returns-clause-drawn
returns-clause-drawn g c =
    let room : length (take c.args.room c.args.buffer.now) ≡ c.args.room = search (rules, overwrites) in
    record {
      piece = c.draw.new.buffer;
      all = search (rules, overwrites);
      few = search (rules, overwrites);
      call = subst (λ n. IsDrawCall c.args.connection.now.settings c.args.caller.now c.args.conn n c.draw.result c.draw.new.buffer c.draw.new.caller.front) room c.draw.ensures.drawn;
    }
