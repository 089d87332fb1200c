use Rattle.std.proofs.Common.{◌+◌, ◌-◌, ℕ, List, take, drop, ap, refl}
use Rattle.cable.proofs.Drawing.{offered_more}
use Rattle.cable.proofs.carrying.offer.Goals as goal

pub returns : goal.returns
returns c =
    let left = c.args.left.now in
    let end = left.crossed + c.lesser-count.result in
    record {
      offered = offered_more c.args.most left (record left { crossed = end }) c.args.rest.now c.feed.new.self c.lesser-count.result end (c.len.result - left.crossed) _ (take (end - left.crossed) (drop left.crossed c.as_slice.result.now)) c.requires.within
          (ap (λ (n : ℕ). n - left.crossed) c.len.ensures.value) c.lesser-count.ensures refl (ap (λ (bytes : List ℕ). take (end - left.crossed) (drop left.crossed bytes)) c.as_slice.ensures) refl refl c.in_ok-feed.ensures.ok;
    }
