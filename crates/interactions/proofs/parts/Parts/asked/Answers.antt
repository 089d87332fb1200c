use Rattle.std.proofs.Common.{rules, ◌≡◌, ◌<◌, ◌^◌, true, false, ltb, length, ap, sym}
use Rattle.stream_model.specs.Streams.{is_admitted}
use Rattle.stream_model.specs.Arriving.{or_zero, theirs}
use Rattle.stream_table.specs.Tables.{TableOf, highest_in}
use Rattle.interactions.specs.Stands.{known_of}
use Rattle.interactions.proofs.Standing.{begun_stands, passed_stands}
use Rattle.interactions.proofs.parts.Parts.asked.Goals as goal

pub returns-then-admits-clause-stands : goal.returns-then-admits-clause-stands
returns-then-admits-clause-stands c =
    let p = c.args.self.now in
    let o = theirs c.args.kind c.args.initial c.args.whole in
    let above : highest_in p.table c.args.stream < c.args.stream = c.is_peers_next.ensures.above (search rules) in
    let ok : is_admitted (ltb (length p.table.kept) p.table.limits.max_streams) o ≡ true = search rules in
    let n : or_zero c.args.initial < 2 ^ 31 = search rules in
    λ seen h. begun_stands p c.admit.new.self seen c.args.stream o c.admit.ensures.limits above ok n tt (c.admit.ensures.begins c.args.initial (sym c.number_of-first.ensures.number)) h

pub returns-then-eq-clause-stands : goal.returns-then-eq-clause-stands
returns-then-eq-clause-stands c =
    let p = c.args.self.now in
    let o = theirs c.args.kind c.args.initial c.args.whole in
    let above : highest_in p.table c.args.stream < c.args.stream = c.is_peers_next.ensures.above (search rules) in
    let ok : is_admitted (ltb (length p.table.kept) p.table.limits.max_streams) o ≡ false = search rules in
    let n : or_zero c.args.initial < 2 ^ 31 = search rules in
    λ seen h. passed_stands p _ seen c.args.stream c.args.kind c.args.initial c.args.whole (ap (λ (t : TableOf). t.limits) c.skip.ensures) above ok n (ap (λ (t : TableOf). known_of (record p { table = t })) c.skip.ensures) h

pub returns-clause-stands : goal.returns-clause-stands
returns-clause-stands c =
    let p = c.args.self.now in
    let o = theirs c.args.kind c.args.initial c.args.whole in
    let above : highest_in p.table c.args.stream < c.args.stream = c.is_peers_next.ensures.above (search rules) in
    let ok : is_admitted (ltb (length p.table.kept) p.table.limits.max_streams) o ≡ false = search rules in
    let n : or_zero c.args.initial < 2 ^ 31 = search rules in
    λ seen h. passed_stands p _ seen c.args.stream c.args.kind c.args.initial c.args.whole (ap (λ (t : TableOf). t.limits) c.skip.ensures) above ok n (ap (λ (t : TableOf). known_of (record p { table = t })) c.skip.ensures) h
