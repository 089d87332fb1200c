use Rattle.std.proofs.Common.{◌≡◌, ◌≤◌, ◌+◌, ◌++◌, ◌∙◌, IfOk, List, drop, length, take, sym, subst, ap, arith}
use Rattle.std.specs.List.{AllByRecursion}
use Rattle.std.specs.Option.{option_map}
use Rattle.outside.specs.Links.{Shown}
use Rattle.outside.specs.Causes.{Rose}
use Rattle.conn_shared.specs.Members.{Knowledge, SharedId}
use Rattle.server.specs.declared.served.Served.{Served}
use Rattle.serve_slots.specs.Callers.{AreCallersOf, IsAtSlot, TookIn}
use Rattle.serve_slots.specs.Tapes.{HasAll}
use Rattle.serve_slots.proofs.Lists.{pair_long}
use Rattle.serve_threads.specs.Making.{working}
use Rattle.serve_threads.specs.declared.guest.Guest.{Guest}
use Rattle.serve_threads.specs.declared.worker.Worker.{Worker}
use Rattle.serve_told.specs.Links.{answers_of, links_of}
use Rattle.serve.specs.Links.{LeavesLinks, fault_of, net_of}
use Rattle.serve.proofs.Over.{lent_whole, ran_at, ran_cause, ran_counted, ran_enough, ran_from, ran_links, ran_long, ran_of, ran_parts, ran_workers}
use Rattle.serve.proofs.whole.serve_at.Goals as goal

pub take_in_workers-requires-clause-of : goal.take_in_workers-requires-clause-of
take_in_workers-requires-clause-of g c =
    let q = c.requires in
    let r = ran_from c.args.serving.now.plan.now c.deref_mut-2.result.now c.args.workers.items c.run_threads.new.workers c.deref_mut.ensures.value c.deref_mut-2.ensures.value q.of q.few q.made q.guests q.each q.order q.workers q.have c.run_threads.ensures.links c.run_threads.ensures.workers in
    subst (AreCallersOf c.args.connections.now) (sym c.deref_mut-3.ensures.value) (ran_of r)

pub take_in_workers-requires-clause-at : goal.take_in_workers-requires-clause-at
take_in_workers-requires-clause-at g c =
    let q = c.requires in
    let r = ran_from c.args.serving.now.plan.now c.deref_mut-2.result.now c.args.workers.items c.run_threads.new.workers c.deref_mut.ensures.value c.deref_mut-2.ensures.value q.of q.few q.made q.guests q.each q.order q.workers q.have c.run_threads.ensures.links c.run_threads.ensures.workers in
    let workers_is = lent_whole c.args.workers.len c.args.workers.items c.run_threads.new.workers (let a = c.args.workers.ok.0 in omega arith) (let a = c.args.workers.ok.0 in let b = ran_workers r in omega arith) in
    subst (λ (us : List (Worker g.row.T.Denot)). AllByRecursion (IsAtSlot c.args.connections.now) (working us)) (sym workers_is) (ran_at r)

pub end_links-requires-clause-enough : goal.end_links-requires-clause-enough
end_links-requires-clause-enough g c =
    let q = c.requires in
    let r = ran_from c.args.serving.now.plan.now c.deref_mut-2.result.now c.args.workers.items c.run_threads.new.workers c.deref_mut.ensures.value c.deref_mut-2.ensures.value q.of q.few q.made q.guests q.each q.order q.workers q.have c.run_threads.ensures.links c.run_threads.ensures.workers in
    let guests_is = lent_whole c.args.guests.len c.args.guests.items c.run_threads.new.guests (let a = c.args.guests.ok.0 in omega arith) (let a = c.args.guests.ok.0 in let b = ran_long r in omega arith) in
    subst (λ (ps : List (Guest g.row.N-Link.Denot g.row.T.Denot)). length (links_of g.N.Link.Link.shown ps) ≤ g.N.Net.out c.run_threads.new.net) (sym guests_is) (ran_enough r)

pub returns-clause-of : goal.returns-clause-of
returns-clause-of g c =
    let q = c.requires in
    let r = ran_from c.args.serving.now.plan.now c.deref_mut-2.result.now c.args.workers.items c.run_threads.new.workers c.deref_mut.ensures.value c.deref_mut-2.ensures.value q.of q.few q.made q.guests q.each q.order q.workers q.have c.run_threads.ensures.links c.run_threads.ensures.workers in
    let ids = c.args.connections.now in
    let lasts = c.take_in_workers.new.mains in
    let was = c.run_threads.new.mains.callers in
    let mains_is = lent_whole was.len was.items lasts (let a = was.ok.0 in omega arith)
    (let a = was.ok.0 in let b = pair_long (λ (id : SharedId) (k : Knowledge). k.of ≡ id) ids was.items (ran_of r) in let d = pair_long (λ (id : SharedId) (k : Knowledge). k.of ≡ id) ids lasts c.take_in_workers.ensures.of in omega arith) in
    subst (AreCallersOf ids) (sym mains_is) c.take_in_workers.ensures.of

pub returns-clause-parts : goal.returns-clause-parts
returns-clause-parts g c =
    let q = c.requires in
    let r = ran_from c.args.serving.now.plan.now c.deref_mut-2.result.now c.args.workers.items c.run_threads.new.workers c.deref_mut.ensures.value c.deref_mut-2.ensures.value q.of q.few q.made q.guests q.each q.order q.workers q.have c.run_threads.ensures.links c.run_threads.ensures.workers in
    let workers_is = lent_whole c.args.workers.len c.args.workers.items c.run_threads.new.workers (let a = c.args.workers.ok.0 in omega arith) (let a = c.args.workers.ok.0 in let b = ran_workers r in omega arith) in
    let ids = c.args.connections.now in
    let lasts = c.take_in_workers.new.mains in
    let was = c.run_threads.new.mains.callers in
    let mains_is = lent_whole was.len was.items lasts (let a = was.ok.0 in omega arith)
    (let a = was.ok.0 in let b = pair_long (λ (id : SharedId) (k : Knowledge). k.of ≡ id) ids was.items (ran_of r) in let d = pair_long (λ (id : SharedId) (k : Knowledge). k.of ≡ id) ids lasts c.take_in_workers.ensures.of in omega arith) in
    let lent : List (Worker g.row.T.Denot) = take c.args.workers.len (c.run_threads.new.workers ++ drop (length c.run_threads.new.workers) c.args.workers.items) in
    let took = subst (λ (us : List (Worker g.row.T.Denot)). TookIn was.items (working us) lasts) workers_is (subst (λ (ms : List Knowledge). TookIn ms (working lent) lasts) c.deref_mut-3.ensures.value c.take_in_workers.ensures.took) in
    subst (AllByRecursion HasAll) (sym mains_is) (ran_parts r lasts took)

pub returns-clause-links : goal.returns-clause-links
returns-clause-links g c =
    let q = c.requires in
    let r = ran_from c.args.serving.now.plan.now c.deref_mut-2.result.now c.args.workers.items c.run_threads.new.workers c.deref_mut.ensures.value c.deref_mut-2.ensures.value q.of q.few q.made q.guests q.each q.order q.workers q.have c.run_threads.ensures.links c.run_threads.ensures.workers in
    let workers_is = lent_whole c.args.workers.len c.args.workers.items c.run_threads.new.workers (let a = c.args.workers.ok.0 in omega arith) (let a = c.args.workers.ok.0 in let b = ran_workers r in omega arith) in
    let guests_is = lent_whole c.args.guests.len c.args.guests.items c.run_threads.new.guests (let a = c.args.guests.ok.0 in omega arith) (let a = c.args.guests.ok.0 in let b = ran_long r in omega arith) in
    let ids = c.args.connections.now in
    let lasts = c.take_in_workers.new.mains in
    let was = c.run_threads.new.mains.callers in
    let mains_is = lent_whole was.len was.items lasts (let a = was.ok.0 in omega arith)
    (let a = was.ok.0 in let b = pair_long (λ (id : SharedId) (k : Knowledge). k.of ≡ id) ids was.items (ran_of r) in let d = pair_long (λ (id : SharedId) (k : Knowledge). k.of ≡ id) ids lasts c.take_in_workers.ensures.of in omega arith) in
    let lent : List (Worker g.row.T.Denot) = take c.args.workers.len (c.run_threads.new.workers ++ drop (length c.run_threads.new.workers) c.args.workers.items) in
    let took = subst (λ (us : List (Worker g.row.T.Denot)). TookIn was.items (working us) lasts) workers_is (subst (λ (ms : List Knowledge). TookIn ms (working lent) lasts) c.deref_mut-3.ensures.value c.take_in_workers.ensures.took) in
    let shown = g.N.Link.Link.shown in
    let e = c.end_links.ensures in
    let left = c.run_threads.new.net in
    let final = net_of g.N.Net.asked g.N.Net.back g.N.Net.out g.N.Net.faults c.end_links.new.net in
    let backs = subst (λ (ps : List (Guest g.row.N-Link.Denot g.row.T.Denot)). final.back ≡ option_map (λ (was : List Shown). was ++ links_of shown ps) (g.N.Net.back left)) guests_is e.back in
    let outs = subst (λ (ps : List (Guest g.row.N-Link.Denot g.row.T.Denot)). final.out + length (links_of shown ps) ≡ g.N.Net.out left) guests_is e.out in
    let list = subst (λ (ps : List (Guest g.row.N-Link.Denot g.row.T.Denot)). IfOk c.end_links.result (λ (l : List Served). l ≡ answers_of ps)) guests_is e.list in
    let fault = e.fault ∙ ap fault_of guests_is in
    subst (λ (ks : List Knowledge). LeavesLinks c.args.serving.now.settings.now c.args.serving.now.plan.now c.args.serving.now.routes.now (g.K.Clock.moments c.args.serving.now.clock.now) (length ids) (net_of g.N.Net.asked g.N.Net.back g.N.Net.out g.N.Net.faults c.args.net.now) final ks c.end_links.result) (sym mains_is)
    (ran_links r lasts took c.take_in_workers.ensures.of final c.end_links.result e.asked backs outs list fault)

pub returns-clause-cause : goal.returns-clause-cause
returns-clause-cause g c is =
    let q = c.requires in
    let r = ran_from c.args.serving.now.plan.now c.deref_mut-2.result.now c.args.workers.items c.run_threads.new.workers c.deref_mut.ensures.value c.deref_mut-2.ensures.value q.of q.few q.made q.guests q.each q.order q.workers q.have c.run_threads.ensures.links c.run_threads.ensures.workers in
    let guests_is = lent_whole c.args.guests.len c.args.guests.items c.run_threads.new.guests (let a = c.args.guests.ok.0 in omega arith) (let a = c.args.guests.ok.0 in let b = ran_long r in omega arith) in
    let fault = c.end_links.ensures.fault ∙ ap fault_of guests_is in
    subst (Rose (g.N.Net.faults c.args.net.now)) (sym c.end_links.ensures.faults) (ran_cause r c.end_links.result fault is)

pub returns-clause-counted : goal.returns-clause-counted
returns-clause-counted g c =
    let q = c.requires in
    let r = ran_from c.args.serving.now.plan.now c.deref_mut-2.result.now c.args.workers.items c.run_threads.new.workers c.deref_mut.ensures.value c.deref_mut-2.ensures.value q.of q.few q.made q.guests q.each q.order q.workers q.have c.run_threads.ensures.links c.run_threads.ensures.workers in
    let a = ran_counted r in
    let b = c.end_links.ensures.faults in
    omega arith
