use Rattle.std.specs.List.{AllByRecursion}
use Rattle.std.proofs.Common.{rules, ◌≡◌, ◌∙◌, ◌++◌, ◌∷◌, [], List, slice_index_or, slice_set, refl, sym, ap, subst, arith}
use Rattle.conn_shared.specs.Members.{Knowledge, SharedId}
use Rattle.serve_slots.specs.Callers.{IsSplit}
use Rattle.serve_slots.proofs.Lists.{all_snoc, pair_long, unsplit_by}
use Rattle.serve_threads.specs.Making.{AreMade, HasWorkerAt, working}
use Rattle.serve_threads.specs.Threads.{IsReady}
use Rattle.serve_threads.specs.declared.worker.Worker.{Worker}
use Rattle.serve_threads.proofs.Made.{at_main, made_none, made_worker, of_main, ready_worker, same_at, split_by, worker_kept, worker_there}
use Rattle.serve_threads.proofs.making.make_worker.Goals as goal

pub bounds-mains-slot : goal.bounds-mains-slot
bounds-mains-slot g c =
    let long = pair_long (λ (id : SharedId) (k : Knowledge). k.of ≡ id) c.args.connections.now c.args.mains.now c.requires.of in
    let lt = c.requires.slot in
    omega arith

pub split-requires : goal.split-requires
split-requires g c =
    let id = c.index-connections-slot.result in
    let same : slice_index_or c.args.connections.now c.args.slot id ≡ id = search rules in
    record { of = same_at c.args.connections.now c.args.mains.now c.args.slot id c.index-mains-slot.result c.requires.of c.requires.slot same }

pub returns-in_default-clause-of : goal.returns-in_default-clause-of
returns-in_default-clause-of g c =
    of_main c.args.connections.now c.args.mains.now c.args.slot c.index-mains-slot.result c.split.new.caller c.requires.of c.requires.slot (ap (λ (k : Knowledge). k.of) c.split.ensures.same)

pub returns-in_default-clause-made : goal.returns-in_default-clause-made
returns-in_default-clause-made g c others m =
    let ids = c.args.connections.now in
    let ms = c.args.mains.now in
    let slot = c.args.slot in
    let d = c.index-mains-slot.result in
    let n = c.split.new.caller in
    subst (λ (ws : List (Worker g.row.T.Denot)). AreMade ids (slice_set ms slot n) (others ++ working ws)) (sym c.reserve.ensures.items)
    (made_none ids ms slot (slice_index_or ms slot d) n (others ++ working c.args.workers.now.items) (at_main ids ms slot d c.requires.of c.requires.slot)
    (unsplit_by (slice_index_or ms slot d) n c.split.ensures.same c.in_default.ensures.kept) m)

pub returns-clause-of : goal.returns-clause-of
returns-clause-of g c =
    of_main c.args.connections.now c.args.mains.now c.args.slot c.index-mains-slot.result c.split.new.caller c.requires.of c.requires.slot (ap (λ (k : Knowledge). k.of) c.split.ensures.same)

pub returns-clause-made : goal.returns-clause-made
returns-clause-made g c others m =
    let ids = c.args.connections.now in
    let ms = c.args.mains.now in
    let slot = c.args.slot in
    let d = c.index-mains-slot.result in
    let old : Knowledge = slice_index_or ms slot d in
    let n = c.split.new.caller in
    let k = c.in-Ok.caller in
    let ws = c.args.workers.now.items in
    let w : Worker g.row.T.Denot = record { slot = slot; caller = k } in
    let same : slice_index_or ids slot c.index-connections-slot.result ≡ c.index-connections-slot.result = search rules in
    let of = same_at ids ms slot c.index-connections-slot.result d c.requires.of c.requires.slot same in
    let split : IsSplit old k n = split_by old k n c.index-connections-slot.result _ _ of c.split.ensures.same c.in-Ok.ensures.new c.in-Ok.ensures.parts c.in-Ok.ensures.fresh c.in-Ok.ensures.unused in
    let pushed : c.push_reserved.new.self.items ≡ ws ++ w ∷ [] = c.push_reserved.ensures.items ∙ ap (λ (l : List (Worker g.row.T.Denot)). l ++ w ∷ []) c.reserve.ensures.items in
    subst (λ (l : List (Worker g.row.T.Denot)). AreMade ids (slice_set ms slot n) (others ++ working l)) (sym pushed)
    (made_worker ids ms slot old k n others ws w c.requires.of (at_main ids ms slot d c.requires.of c.requires.slot) split refl refl m)

pub returns-clause-ready : goal.returns-clause-ready
returns-clause-ready g c h settings new ready =
    let ids = c.args.connections.now in
    let ms = c.args.mains.now in
    let slot = c.args.slot in
    let d = c.index-mains-slot.result in
    let old : Knowledge = slice_index_or ms slot d in
    let n = c.split.new.caller in
    let k = c.in-Ok.caller in
    let ws = c.args.workers.now.items in
    let w : Worker g.row.T.Denot = record { slot = slot; caller = k } in
    let same : slice_index_or ids slot c.index-connections-slot.result ≡ c.index-connections-slot.result = search rules in
    let of = same_at ids ms slot c.index-connections-slot.result d c.requires.of c.requires.slot same in
    let split : IsSplit old k n = split_by old k n c.index-connections-slot.result _ _ of c.split.ensures.same c.in-Ok.ensures.new c.in-Ok.ensures.parts c.in-Ok.ensures.fresh c.in-Ok.ensures.unused in
    let pushed : c.push_reserved.new.self.items ≡ ws ++ w ∷ [] = c.push_reserved.ensures.items ∙ ap (λ (l : List (Worker g.row.T.Denot)). l ++ w ∷ []) c.reserve.ensures.items in
    subst (AllByRecursion (IsReady {T = g.row.T.Denot} h ids)) (sym pushed)
    (all_snoc (IsReady {T = g.row.T.Denot} h ids) ws w ready (ready_worker h ids ms slot old k n w settings new c.requires.of (at_main ids ms slot d c.requires.of c.requires.slot) split refl refl))

pub returns-clause-kept : goal.returns-clause-kept
returns-clause-kept g c at h =
    let ws = c.args.workers.now.items in
    let w : Worker g.row.T.Denot = record { slot = c.args.slot; caller = c.in-Ok.caller } in
    let pushed : c.push_reserved.new.self.items ≡ ws ++ w ∷ [] = c.push_reserved.ensures.items ∙ ap (λ (l : List (Worker g.row.T.Denot)). l ++ w ∷ []) c.reserve.ensures.items in
    subst (HasWorkerAt {T = g.row.T.Denot} at) (sym pushed) (worker_kept ws (w ∷ []) at h)

pub returns-clause-there : goal.returns-clause-there
returns-clause-there g c =
    let ws = c.args.workers.now.items in
    let w : Worker g.row.T.Denot = record { slot = c.args.slot; caller = c.in-Ok.caller } in
    let pushed : c.push_reserved.new.self.items ≡ ws ++ w ∷ [] = c.push_reserved.ensures.items ∙ ap (λ (l : List (Worker g.row.T.Denot)). l ++ w ∷ []) c.reserve.ensures.items in
    subst (HasWorkerAt {T = g.row.T.Denot} c.args.slot) (sym pushed) (worker_there ws w)
