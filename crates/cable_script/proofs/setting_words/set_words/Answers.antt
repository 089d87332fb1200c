use Rattle.std.proofs.Common.{Some}
use Rattle.std.specs.Prelude.{codes}
use Rattle.std.proofs.lemmas.Bool.Decides.{Decides-eqb}
use Rattle.std.proofs.lemmas.Slice.Eq.{strip_prefix_is}
use Rattle.cable_script.proofs.setting_words.set_words.Goals as goal

pub returns-in-Some-clause-some : goal.returns-in-Some-clause-some
returns-in-Some-clause-some c =
    let rest = strip_prefix_is Decides-eqb c.args.text.now (codes "set ") (Some c.in_ok-rest.rest) c.in_ok-rest.ensures.cases in
    let words = strip_prefix_is Decides-eqb c.in_ok-rest.rest.now (codes "client ") (Some c.in-Some.words) c.in-Some.ensures.cases in
    rw rest (rw words c.for_side.ensures.some)

pub returns-in-Some-strip_prefix-clause-some : goal.returns-in-Some-strip_prefix-clause-some
returns-in-Some-strip_prefix-clause-some c =
    let rest = strip_prefix_is Decides-eqb c.args.text.now (codes "set ") (Some c.in_ok-rest.rest) c.in_ok-rest.ensures.cases in
    let words = strip_prefix_is Decides-eqb c.in_ok-rest.rest.now (codes "server ") (Some c.in-Some-strip_prefix.words) c.in-Some-strip_prefix.ensures.cases in
    rw rest (rw words c.for_side-in-Some-strip_prefix.ensures.some)

pub returns-clause-some : goal.returns-clause-some
returns-clause-some c =
    let rest = strip_prefix_is Decides-eqb c.args.text.now (codes "set ") (Some c.in_ok-rest.rest) c.in_ok-rest.ensures.cases in
    rw rest c.for_side-2.ensures.some
