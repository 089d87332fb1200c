use Rattle.std.proofs.Common.{rules, ◌≡◌, ◌<◌, ◌∙◌, length, slice_index_or, sym, subst}
use Rattle.conn_shared.specs.Members.{Knowledge}
use Rattle.pump.proofs.Adding.{IsOn}
use Rattle.server.proofs.Places.{back_at, follow_set, holds_set, of_at, same_length, stay_beside}
use Rattle.server.proofs.opening.holds_at.Goals as goal

pub bounds-connections-place : goal.bounds-connections-place
bounds-connections-place g c = c.requires.place

pub bounds-callers-place : goal.bounds-callers-place
bounds-callers-place g c = subst (λ n. c.args.place < n) (sym (same_length c.args.host.now.settings.now c.args.host.now.connections.now c.args.callers.now c.requires.of)) c.requires.place

pub holds-requires : goal.holds-requires
holds-requires g c =
    let id = c.index-connections-place.result in
    let same : slice_index_or c.args.host.now.connections.now c.args.place id ≡ id = search rules in
    record { of = (of_at c.args.host.now.settings.now c.args.host.now.connections.now c.args.callers.now c.args.place id c.index-callers-place.result c.requires.of c.requires.place).0 ∙ same }

pub returns-clause-back : goal.returns-clause-back
returns-clause-back g c =
    let d = c.index-callers-place.result in
    let was : Knowledge = slice_index_or c.args.callers.now c.args.place d in
    let x = c.holds.new.caller in
    let on : IsOn was x = search rules in
    let lt : c.args.place < length c.args.callers.now = subst (λ n. c.args.place < n) (sym (same_length c.args.host.now.settings.now c.args.host.now.connections.now c.args.callers.now c.requires.of)) c.requires.place in
    back_at c.args.callers.now c.args.place d x on lt

pub returns-clause-others : goal.returns-clause-others
returns-clause-others g c = stay_beside c.args.callers.now c.args.place c.holds.new.caller

pub returns-clause-follow : goal.returns-clause-follow
returns-clause-follow g c =
    let d = c.index-callers-place.result in
    let lt : c.args.place < length c.args.callers.now = subst (λ n. c.args.place < n) (sym (same_length c.args.host.now.settings.now c.args.host.now.connections.now c.args.callers.now c.requires.of)) c.requires.place in
    follow_set c.args.callers.now c.args.place d c.holds.new.caller lt c.holds.ensures.follows

pub returns-clause-holds : goal.returns-clause-holds
returns-clause-holds g c =
    let lt : c.args.place < length c.args.callers.now = subst (λ n. c.args.place < n) (sym (same_length c.args.host.now.settings.now c.args.host.now.connections.now c.args.callers.now c.requires.of)) c.requires.place in
    holds_set c.args.callers.now c.args.place c.holds.new.caller c.args.token.now c.holds.result lt c.holds.ensures.holds
