use Rattle.cable.proofs.Rounds.{keeps_on}
use Rattle.cable.proofs.Playing.{all_played, line_played, some_at}
use Rattle.cable.proofs.cable.Cable.all.Goals as goal

pub loop-line-preserved : goal.loop-line-preserved
loop-line-preserved g c =
    let was = c.args.self.now in
    let old = c.loop-line.self in
    let new = c.line.new.self in
    let i = c.loop-line.invariant in
    let one = c.in_ok-line.ensures.played in
    record {
      at = some_at new _ (one i.at.0 i.at.1);
      ends = keeps_on was old new i.ends c.line.ensures.ends;
      played = λ r at.
          let b = i.played r at in
          line_played was old new c.args.lines.now c.loop-line.line-index c.line-item.result r i.ends c.loop-line-test.true c.line-item.is b (one b.ends b.at);
    }

pub returns-clause-played : goal.returns-clause-played
returns-clause-played g c = λ r at. all_played c.args.self.now c.loop-line.self c.args.lines.now c.loop-line.line-index r c.loop-line-test.false (c.loop-line.invariant.played r at)
