use Rattle.std.proofs.Common.{[], ◌∷◌, ◌++◌, refl}
use Rattle.rs_chunk.specs.Stream.{first_frame}
use Rattle.ws_end.specs.Messages.{Sends}
use Rattle.ws_end.proofs.Frames.{sends_one_more}
use Rattle.ws_end.proofs.sending.send_whole.Goals as goal

pub loop-init : goal.loop-init
unfolding Sends
loop-init g c = ([], record { whole = refl; fit = tt }, refl)

pub loop-preserved : goal.loop-preserved
loop-preserved g c =
    let so_far = c.loop.invariant in
    let frame = first_frame c.loop.part.bytes in (
      so_far.0 ++ frame ∷ [],
      c.pass.ensures.fed c.args.part.now.bytes so_far.0 so_far.1,
      sends_one_more g.S.Write.contents so_far.0 c.args.socket.now c.loop.socket c.send_frame.new.socket frame so_far.2 (rw c.in-Whole.ensures.front.1 at (c.if-not-send_frame.ensures.sent refl)),
    )
