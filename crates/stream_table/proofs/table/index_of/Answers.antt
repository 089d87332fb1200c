use Rattle.std.proofs.Common.{◌≡◌, Some, ap, sym, ◌∙◌, nat_eq, arith}
use Rattle.std.proofs.lemmas.Bool.Decides.{nat_tests}
use Rattle.std.proofs.lemmas.Map.Made.{lookup_key_passes}
use Rattle.stream_table.proofs.table.index_of.Goals as goal

pub returns-then-other-id : goal.returns-then-other-id
returns-then-other-id c = record {
  entry = (c.in-Some.field-0-1.now, sym c.in-Some.ensures.entry ∙ ap (λ k. Some (k, c.in-Some.field-0-1.now)) c.if-other-id.true);
}

pub returns-in-Some-get_full : goal.returns-in-Some-get_full
returns-in-Some-get_full c =
    let there = c.in-Some-get_full in
    let passes = lookup_key_passes (nat_eq c.args.id) c.args.streams.now.entries there.field-0-1.now (sym there.ensures.key) in
    let same : c.args.id ≡ there.field-0-1.now = grind (arith, nat_tests, passes) in
    record { entry = (there.field-0-2.now, there.ensures.entry ∙ ap (λ k. Some (k, there.field-0-2.now)) (sym same)) }
