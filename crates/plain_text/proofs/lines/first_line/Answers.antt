use Rattle.std.proofs.Common.{◌≡◌, [], ◌∷◌, length, arith}
use Rattle.std.proofs.lemmas.List.{take_all, drop_all}
use Rattle.plain_text.specs.Lines.{lines_of}
use Rattle.plain_text.proofs.Feeds.{last_line, lines_of-nil}
use Rattle.plain_text.proofs.lines.first_line.Goals as goal

pub returns-in-None-clause-lines : goal.returns-in-None-clause-lines
returns-in-None-clause-lines c =
    let one : lines_of c.args.text.now ≡ c.args.text.now ∷ [] = last_line c.args.text.now c.requires c.in-None.ensures.last in
    let all = take_all (length c.args.text.now) c.args.text.now (omega arith) in
    let none = drop_all (length c.args.text.now) c.args.text.now (omega arith) in
    let front = c.split_at.ensures.front in
    let back = c.split_at.ensures.back in
    let nil = lines_of-nil in
    cc
