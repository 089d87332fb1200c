use Rattle.std.proofs.Common.{rules, ◌≡◌, ◌<◌, ◌∙◌, ℕ, List, length, slice_index_or, slice_set, slice_get, Some, refl, sym, ap, arith}
use Rattle.conn_shared.specs.Members.{Knowledge, SharedId}
use Rattle.serve_slots.specs.Callers.{AreCallersOf}
use Rattle.serve_slots.proofs.Lists.{got_at, got_or, got_within, of_at, of_set, pair_long}
use Rattle.serve_slots.proofs.taking.take_in.Goals as goal

below : (ids : List SharedId) (mains : List Knowledge) (slot : ℕ) (of : SharedId) → AreCallersOf ids mains → slice_get ids slot ≡ Some of → slot < length mains
below ids mains slot of each is =
    let a = pair_long (λ (id : SharedId) (k : Knowledge). k.of ≡ id) ids mains each in
    let b = got_within ids slot of is in
    omega arith

pub bounds-mains-slot : goal.bounds-mains-slot
bounds-mains-slot g c = below c.args.connections.now c.args.mains.now c.args.slot c.args.caller.of c.requires.of c.requires.at

pub join-requires-clause-first : goal.join-requires-clause-first
join-requires-clause-first g c =
    let ids = c.args.connections.now in
    let mains = c.args.mains.now in
    let id = c.index-connections-slot.result in
    let d = c.index-mains-slot.result in
    let m : Knowledge = slice_index_or mains c.args.slot d in
    let same : slice_index_or ids c.args.slot id ≡ id = search rules in
    let lt = below ids mains c.args.slot c.args.caller.of c.requires.of c.requires.at in
    sym (got_or ids c.args.slot id m.of (of_at ids mains c.args.slot m c.requires.of (got_at mains c.args.slot d lt))) ∙ same

pub join-requires-clause-second : goal.join-requires-clause-second
join-requires-clause-second g c =
    let ids = c.args.connections.now in
    let id = c.index-connections-slot.result in
    let same : slice_index_or ids c.args.slot id ≡ id = search rules in
    sym (got_or ids c.args.slot id c.args.caller.of c.requires.at) ∙ same

pub returns-clause-took : goal.returns-clause-took
returns-clause-took g c =
    let ids = c.args.connections.now in
    let mains = c.args.mains.now in
    let d = c.index-mains-slot.result in
    let m : Knowledge = slice_index_or mains c.args.slot d in
    let n = c.join.new.caller in
    let lt = below ids mains c.args.slot c.args.caller.of c.requires.of c.requires.at in (
      slice_set mains c.args.slot n,
      record {
        old = m;
        new = n;
        was = got_at mains c.args.slot d lt;
        is = refl;
        joined = record {
          of = ap (λ (k : Knowledge). k.of) c.join.ensures.both;
          number = ap (λ (k : Knowledge). k.number) c.join.ensures.both;
          names = ap (λ (k : Knowledge). k.names) c.join.ensures.both;
          parts = ap (λ (k : Knowledge). k.parts) c.join.ensures.both;
          first = c.join.ensures.own.0;
          second = c.join.ensures.own.1;
          apart = c.join.ensures.apart;
        };
      },
      refl,
    )

pub returns-clause-of : goal.returns-clause-of
returns-clause-of g c =
    let ids = c.args.connections.now in
    let mains = c.args.mains.now in
    let d = c.index-mains-slot.result in
    let m : Knowledge = slice_index_or mains c.args.slot d in
    let n = c.join.new.caller in
    let lt = below ids mains c.args.slot c.args.caller.of c.requires.of c.requires.at in
    of_set ids mains c.args.slot n c.requires.of (of_at ids mains c.args.slot m c.requires.of (got_at mains c.args.slot d lt) ∙ ap Some (sym (ap (λ (k : Knowledge). k.of) c.join.ensures.both)))
