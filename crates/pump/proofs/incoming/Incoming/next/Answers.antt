use Rattle.std.proofs.Common.{inl, refl, arith}
use Rattle.pump.proofs.Numbered.{is_number}
use Rattle.pump.proofs.incoming.Incoming.next.Goals as goal

pub returns-in-Wrong-clause-next : goal.returns-in-Wrong-clause-next
returns-in-Wrong-clause-next c =
    let broken = c.in-Wrong.ensures.1 in
    let number = is_number broken.0 c.in-Wrong.rule broken.2 in
    rw (← c.self.view_is) (refl, inl c.in-Wrong.ensures, number.0, omega (arith, number.1))
