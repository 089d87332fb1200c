use Rattle.std.proofs.Common.{◌-◌, length, refl, arith}
use Rattle.replay_buffer.specs.Storage.{all_of}
use Rattle.replay_buffer.proofs.Appended.{Appended, Puts, appended, newest_at, with_frame}
use Rattle.replay_buffer.proofs.store.Store.append.Goals as goal

put : (c : goal.After-self-4-1) → Puts c.self.inside c.put_laid.new.self c.append.new.self c.args.frame.now
put c =
    let r = c.self.inside in
    let s = c.self.invariant in
    record {
      size = omega (arith, c.len.ensures.value, c.len.ensures.bound);
      bytes_are = c.put_laid.ensures;
      many = c.append.ensures.count;
      marked = c.append.ensures.marked r.floor r.base (all_of r) c.args.frame.now s.marked s.end (newest_at r s c.len.result c.len.ensures.value);
      room = c.append.ensures.room (r.spare_frames - 1);
    }

now : (c : goal.After-self-4-1) → Appended c.self.inside (with_frame c.self.inside c.put_laid.new.self c.append.new.self c.plain_after-self-inside.result (length c.args.frame.now)) c.args.frame.now
now c =
    appended c.self.inside c.args.self.now _ _ _ _ c.args.frame.now c.self.invariant c.self.view_is (put c) refl c.requires.spare c.requires.shortest c.requires.longest c.requires.top c.plain_after-self-inside.ensures

pub invariant_of-self : goal.invariant_of-self
invariant_of-self c = (now c).stored

pub returns : goal.returns
returns c = rw (← c.self.view_is) (now c).same
