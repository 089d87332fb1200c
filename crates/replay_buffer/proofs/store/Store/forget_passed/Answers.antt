use Rattle.std.proofs.Common.{◌≡◌, length, sym, ap, ◌∙◌}
use Rattle.std.proofs.lemmas.List.{length-take-le}
use Rattle.replay_buffer.specs.Storage.{all_of}
use Rattle.replay_buffer.specs.Stored.{Stored}
use Rattle.replay_buffer.proofs.Dropped.{freed}
use Rattle.replay_buffer.proofs.Known.{known}
use Rattle.replay_buffer.proofs.store.Store.forget_passed.Goals as goal

pub returns : goal.returns
returns c =
    let r = c.self.inside in
    let v = c.args.self.now in
    let k = known _ _ c.self.invariant c.self.view_is in
    let many : length v.below ≡ r.oldest.index = sym (ap (λ (u : Stored). length u.below) c.self.view_is) ∙ length-take-le r.oldest.index (all_of r) c.self.invariant.oldest.within in
    freed v c.forget_before.new.self r.oldest k.longer k.within many (sym k.first) c.forget_before.ensures.forgotten c.forget_before.ensures.floor
