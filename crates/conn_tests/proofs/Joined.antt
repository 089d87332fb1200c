-- What went on by entries of others has no more of these names.
use Rattle.std.proofs.Common.{◌≡◌, ◌<◌, ℕ, List, ap, arith}
use Rattle.tape.specs.declared.entry.Entry.{Entry}
use Rattle.conn_lock.specs.Callers.{calls, times}
use Rattle.conn_lock.proofs.Totals.{calls_append}
use Rattle.conn_shared.specs.Members.{Follows}
use Rattle.conn_shared.specs.Lines.{who_of}

pub no_more : (names : List ℕ) (old new : List Entry) → Follows names old new → (x : ℕ) → 0 < times x names → calls who_of x new ≡ calls who_of x old
no_more names old new follows x named =
    let is = ap (calls who_of x) follows.1 in
    let sum = calls_append who_of x follows.0 old in
    let none = follows.2 x named in
    omega arith
