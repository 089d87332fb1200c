use Rattle.std.proofs.Common.{◌∙◌, ap, subst}
use Rattle.session_model.specs.Legal.{Fair, Legal}
use Rattle.conn_lock.specs.Callers.{Follows, longer}
use Rattle.conn_shared.specs.Lines.{entries_in, number_of, settings_in, tells_in}
use Rattle.conn_shared.proofs.Lines.{entries-noted, follows_in, longer_fronts}
use Rattle.conn_shared.proofs.Seated.{fair_by, legal_by, of_longer, seated}
use Rattle.conn_shared.proofs.shared.SharedSession.join_seats.Goals as goal

pub returns-clause-front : goal.returns-clause-front
returns-clause-front g c =
    let a = c.requires.members.0 in
    let b = c.requires.members.1 in
    let s = c.requires.settings in
    let t = c.requires.tells in
    ap (λ k. entries_in k.front) c.join.ensures.both ∙ (ap entries_in (longer_fronts _ _ c.args.seat.front c.args.other.front a.lined b.lined s.0 s.1 t.0 t.1) ∙ entries-noted _)

pub returns-clause-settings : goal.returns-clause-settings
returns-clause-settings g c =
    let a = c.requires.members.0 in
    let b = c.requires.members.1 in
    let s = c.requires.settings in
    let t = c.requires.tells in
    ap (λ k. settings_in k.front) c.join.ensures.both ∙ ap settings_in (longer_fronts _ _ c.args.seat.front c.args.other.front a.lined b.lined s.0 s.1 t.0 t.1)

pub returns-clause-tells : goal.returns-clause-tells
returns-clause-tells g c =
    let a = c.requires.members.0 in
    let b = c.requires.members.1 in
    let s = c.requires.settings in
    let t = c.requires.tells in
    ap (λ k. tells_in k.front) c.join.ensures.both ∙ ap tells_in (longer_fronts _ _ c.args.seat.front c.args.other.front a.lined b.lined s.0 s.1 t.0 t.1)

pub returns-clause-member : goal.returns-clause-member
returns-clause-member g c =
    let a = c.requires.members.0 in
    let b = c.requires.members.1 in
    let s = c.requires.settings in
    let t = c.requires.tells in
    let h = c.args.self.now.settings in
    let xs = entries_in c.args.seat.front in
    let ys = entries_in c.args.other.front in
    seated h _ (longer xs ys) c.join.result
    (ap (λ k. k.front) c.join.ensures.both ∙ longer_fronts h _ c.args.seat.front c.args.other.front a.lined b.lined s.0 s.1 t.0 t.1)
    (of_longer (Legal h) xs ys (legal_by h c.args.seat s.0 a) (legal_by h c.args.other s.1 b))
    (of_longer (Fair h) xs ys (fair_by h c.args.seat s.0 a) (fair_by h c.args.other s.1 b))

pub returns-clause-own : goal.returns-clause-own
returns-clause-own g c =
    let a = c.args.seat in
    let b = c.args.other in
    let whole = c.join.result.front in (
      follows_in _ _ a.names _ whole (subst (λ f. Follows number_of a.names f whole) c.requires.members.0.lined c.join.ensures.own.0),
      follows_in _ _ b.names _ whole (subst (λ f. Follows number_of b.names f whole) c.requires.members.1.lined c.join.ensures.own.1),
    )
