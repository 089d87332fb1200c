use Rattle.std.specs.List.{AllByRecursion}
use Rattle.std.proofs.Common.{◌≡◌, ◌+◌, ◌∙◌, ◌++◌, List, None, length, refl, sym, ap, subst, arith}
use Rattle.std.proofs.lemmas.Result.{on_ok_weaker}
use Rattle.conn_shared.specs.Members.{Knowledge}
use Rattle.serve_slots.specs.Callers.{all_placed}
use Rattle.serve_slots.proofs.Lists.{all_snoc}
use Rattle.serve_threads.specs.Ending.{rows_of}
use Rattle.serve_threads.specs.Making.{AreInOrder, AreMade}
use Rattle.serve_threads.specs.Threads.{IsVacant}
use Rattle.serve_threads.specs.declared.guest.Guest.{Guest}
use Rattle.serve_threads.proofs.Made.{made_guest, order_snoc, split_new, vacant_guest}
use Rattle.serve_threads.proofs.making.make_guest.Goals as goal

pub returns-clause-fronts : goal.returns-clause-fronts
returns-clause-fronts g c h =
    let s = c.split_row-split.ensures.split in
    split_new c.args.mains.now s.0 c.split_row-split.new.mains s.2 h

pub returns-clause-made : goal.returns-clause-made
returns-clause-made g c others m =
    let ids = c.args.connections.now in
    let news = c.split_row-split.new.mains in
    let s = c.split_row-split.ensures.split in
    let p : Guest g.row.L.Denot g.row.T.Denot = record { slot = c.args.slot; row = c.split_row-split.new.row; work = c.work_of-work.result; link = None; missed = None; answer = None } in
    let is : p.row.items ≡ s.0 = s.1 ∙ ap (λ (l : List Knowledge). l ++ s.0) c.in_ok-row.ensures.items in
    subst (λ (qs : List (Guest g.row.L.Denot g.row.T.Denot)). AreMade ids news (all_placed (rows_of qs) ++ others)) (sym {A = List (Guest g.row.L.Denot g.row.T.Denot)} c.push_reserved.ensures.items)
    (made_guest ids c.args.mains.now s.0 news c.args.guests.now.items p others c.requires.of s.2 is m)

pub returns-clause-vacant : goal.returns-clause-vacant
returns-clause-vacant g c =
    let ids = c.args.connections.now in
    let news = c.split_row-split.new.mains in
    let s = c.split_row-split.ensures.split in
    let p : Guest g.row.L.Denot g.row.T.Denot = record { slot = c.args.slot; row = c.split_row-split.new.row; work = c.work_of-work.result; link = None; missed = None; answer = None } in
    let is : p.row.items ≡ s.0 = s.1 ∙ ap (λ (l : List Knowledge). l ++ s.0) c.in_ok-row.ensures.items in
    on_ok_weaker c.split_row-split.result
    (λ each h side resume settings nothing vacant.
    let a = ap length is in
    let b = c.in_ok-row.ensures.len in
    let d = c.split_row-split.new.row.ok.0 in
    let long : length s.0 ≡ length ids = omega arith in
    subst (AllByRecursion (IsVacant h ids)) (sym c.push_reserved.ensures.items)
    (all_snoc (IsVacant h ids) c.args.guests.now.items p vacant
    (vacant_guest h ids c.args.mains.now s.0 news p side settings nothing c.requires.of s.2 is long c.requires.slot refl refl refl c.work_of-work.ensures.empty (λ has. resume (sym c.work_of-work.ensures.none ∙ has)))))
    c.split_row-split.ensures.each

pub returns-clause-order : goal.returns-clause-order
returns-clause-order g c =
    let ps = c.args.guests.now.items in
    let p : Guest g.row.L.Denot g.row.T.Denot = record { slot = c.args.slot; row = c.split_row-split.new.row; work = c.work_of-work.result; link = None; missed = None; answer = None } in
    on_ok_weaker c.split_row-split.result
    (λ each order slot.
    let a = c.args.guests.now.ok.0 in
    let at : p.slot ≡ 0 + length ps = omega arith in
    subst (AreInOrder 0) (sym c.push_reserved.ensures.items) (order_snoc 0 ps p order at))
    c.split_row-split.ensures.each
