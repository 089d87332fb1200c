use Rattle.std.proofs.Common.{rules, Some, true≢false, is_some, IsSome, ◌≡◌, ◌∙◌, ap, sym}
use Rattle.conn_lock.specs.Callers.{all_parts, calls, times}
use Rattle.conn_lock.specs.Rule.{slot_list}
use Rattle.conn_lock.proofs.Closing.{shut, all_named}
use Rattle.conn_lock.proofs.lock.Lock.close.Goals as goal

pub unreachable-requires : goal.unreachable-requires
unreachable-requires g c =
    let v = c.seat.invariant in
    let all : c.seat.inside.parts ≡ all_parts = search rules in
    let fin = c.close_with-closed.ensures.values.2 in
    let held = shut (slot_list g.S.Stands.list) IsSome g.S.Stands.number _ _ _ fin.1 v.no_turn (sym v.parts_are ∙ all) _ fin.4 c.take-held.result c.take-held.ensures.value in
    true≢false (sym held.1 ∙ ap is_some c.in-None.is)

pub returns-clause-list : goal.returns-clause-list
returns-clause-list g c =
    let v = c.seat.invariant in
    let all : c.seat.inside.parts ≡ all_parts = search rules in
    let fin = c.close_with-closed.ensures.values.2 in
    let held = shut (slot_list g.S.Stands.list) IsSome g.S.Stands.number _ _ _ fin.1 v.no_turn (sym v.parts_are ∙ all) _ fin.4 c.take-held.result c.take-held.ensures.value in
    ap (slot_list g.S.Stands.list) (sym c.in-Some.is) ∙ (held.0 ∙ ap (λ k. k.front) c.seat.view_is)

pub returns-clause-named : goal.returns-clause-named
returns-clause-named g c =
    let v = c.seat.invariant in
    let all : c.seat.inside.parts ≡ all_parts = search rules in
    let fin = c.close_with-closed.ensures.values.2 in
    let held = shut (slot_list g.S.Stands.list) IsSome g.S.Stands.number _ _ _ fin.1 v.no_turn (sym v.parts_are ∙ all) _ fin.4 c.take-held.result c.take-held.ensures.value in
    let whole : slot_list g.S.Stands.list (Some c.in-Some.value) ≡ c.seat.inside.token.me.0.front = ap (slot_list g.S.Stands.list) (sym c.in-Some.is) ∙ held.0 in
    λ x none_of.
    ap (calls g.S.Stands.number x) whole
    ∙ all_named (slot_list g.S.Stands.list) IsSome g.S.Stands.number _ _ _ fin.1 (sym v.parts_are ∙ all) x (ap (λ k. times x k.names) c.seat.view_is ∙ none_of)
