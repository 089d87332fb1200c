use Rattle.std.proofs.Common.{sym, arith}
use Rattle.serve_threads.proofs.making.make_guests.Goals as goal

pub loop-slot-preserved : goal.loop-slot-preserved
loop-slot-preserved g c =
    let i = c.loop-slot.invariant in
    let e = c.make_guest.ensures in
    let f = c.in_ok-make_guest.ensures in
    record {
      of = e.of;
      made = λ others m. e.made others (i.made others m);
      fronts = λ h. e.fronts (i.fronts h);
      vacant = λ h side resume settings new. f.vacant h side resume settings (i.fronts new) (i.vacant h side resume settings new);
      each = let a = f.each in let b = i.each in omega arith;
      order = f.order i.order (sym i.each);
      room = let a = e.capacity in let b = i.room in omega arith;
    }
