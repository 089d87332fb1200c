use Rattle.std.proofs.Common.{sym, true≢false}
use Rattle.std.proofs.lemmas.Cmp.{nat_eq_equiv}
use Rattle.std.proofs.lemmas.Option.{slice_get_within}
use Rattle.indexmap.proofs.CallerLemmas.{index_map_len-with_value_at, updates-with_value_at}
use Rattle.stream_table.proofs.table.change.Goals as goal

pub returns-in-Some-clause-kept : goal.returns-in-Some-clause-kept
returns-in-Some-clause-kept c =
    let entry = c.index_of-index.ensures.entry in
    (updates-with_value_at c.args.streams.now c.index_of-index.result c.args.stream nat_eq_equiv c.in-Some.ensures.unique c.args.id entry.0 entry.1).0

pub returns-in-Some-clause-live : goal.returns-in-Some-clause-live
returns-in-Some-clause-live c = index_map_len-with_value_at c.args.streams.now c.index_of-index.result c.args.stream

pub returns-in_default-clause-kept : goal.returns-in_default-clause-kept
returns-in_default-clause-kept c =
    let entry = c.index_of-index.ensures.entry in
    absurd (true≢false (sym (c.in_default.ensures.found.1 (slice_get_within c.args.streams.now.entries c.index_of-index.result _ entry.1))))
