use Rattle.std.proofs.Common.{rules, IsSome, ◌≡◌, ◌+◌, ◌++◌, ◌∙◌, arith, ap, sym, subst, length, nat_lt}
use Rattle.conn_lock.specs.Callers.{Fits, Follows, longer, times}
use Rattle.conn_lock.specs.Rule.{slot_list}
use Rattle.conn_lock.proofs.Totals.{times_append}
use Rattle.conn_lock.proofs.NumberSteps.{joins, owns, tells}
use Rattle.conn_lock.proofs.lock.Lock.join.Goals as goal

pub join_seat-requires : goal.join_seat-requires
join_seat-requires g c =
    let a = c.seat.inside in
    let b = c.other.inside in
    let u = c.seat.invariant in
    let w = c.other.invariant in
    (search rules, search rules, w.nothing_out, search rules, joins (slot_list g.S.Stands.list) IsSome g.S.Stands.number a.token.id a.token.me.0 b.token.id b.token.me.0 u.no_turn u.no_ticket (rw (sym u.parts_are) u.some_part) w.no_turn w.no_ticket)

pub load-requires : goal.load-requires
load-requires g c = (search rules, search rules, tells (slot_list g.S.Stands.list) IsSome g.S.Stands.number c.self.inside.table.shared.table_id.slots c.join_seat.new.seat.id c.join_seat.new.seat.me)

pub invariant_of-result : goal.invariant_of-result
invariant_of-result g c =
    let a = c.seat.inside in
    let b = c.other.inside in
    let u = c.seat.invariant in
    let w = c.other.invariant in
    let joined = c.join_seat.ensures.2 in
    let whole = c.load.ensures.2.0 ∙ joined in
    let names : c.load.new.seat.me.0.names ≡ a.token.me.0.names ++ b.token.me.0.names = ap (λ m. m.0.names) whole in
    let all = c.load.ensures.2.3 in
    let before : c.join_seat.new.seat.me.0.parts ≡ a.token.me.0.parts + b.token.me.0.parts = ap (λ m. m.0.parts) joined in
    let after : c.load.new.seat.me.0.parts ≡ a.token.me.0.parts + b.token.me.0.parts = ap (λ m. m.0.parts) whole in
    let p = u.parts_are in
    let q = w.parts_are in
    record {
      nothing_out = ap (λ m. m.1) whole ∙ u.nothing_out;
      no_ticket = ap (λ m. m.0.tickets) whole ∙ u.no_ticket;
      no_turn = ap (λ m. m.0.turn) whole ∙ u.no_turn;
      named = rw names (let t = times_append a.number a.token.me.0.names b.token.me.0.names in let n = u.named in omega arith);
      parts_are = omega arith;
      some_part = let s = u.some_part in omega arith;
      at_most_all = omega arith;
    }

pub returns-clause-apart : goal.returns-clause-apart
returns-clause-apart g c =
    let a = c.seat.inside.token.me.0.names in
    let b = c.other.inside.token.me.0.names in
    λ x some_name.
    let first : times x a ≡ times x c.args.seat.names = ap (λ k. times x k.names) c.seat.view_is in
    let second : times x b ≡ times x c.args.other.names = ap (λ k. times x k.names) c.other.view_is in
    let all : times x c.join_seat.new.seat.me.0.names ≡ times x (a ++ b) = ap (λ m. times x m.0.names) c.join_seat.ensures.2 in
    let most = c.load.ensures.2.2 x in
    let sum = times_append x a b in
    omega arith

pub returns-clause-own : goal.returns-clause-own
returns-clause-own g c =
    let a = c.seat.inside.token.me.0 in
    let b = c.other.inside.token.me.0 in
    let number = g.S.Stands.number in
    let joined = c.join_seat.ensures.2 in
    let fits = subst (λ m. Fits number m.0.front m.0.lesser m.0.shorter) joined c.load.ensures.2.1 in
    let both = owns number a.front b.front a.names b.names (nat_lt (length a.front) (length b.front)) fits in
    let front : c.load.new.seat.me.0.front ≡ longer a.front b.front = ap (λ m. m.0.front) (c.load.ensures.2.0 ∙ joined) in
    let first = subst (Follows number a.names a.front) (sym front) both.0 in
    let second = subst (Follows number b.names b.front) (sym front) both.1 in
    (subst (λ k. Follows number k.names k.front c.load.new.seat.me.0.front) c.seat.view_is first, subst (λ k. Follows number k.names k.front c.load.new.seat.me.0.front) c.other.view_is second)
