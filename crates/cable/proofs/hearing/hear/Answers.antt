use Rattle.std.proofs.Common.{rules, ◌≡◌, ◌∙◌, None, refl, sym, ap}
use Rattle.rs_chunk.specs.Rest.{Rest}
use Rattle.cable.proofs.Drawing.{same_trans}
use Rattle.cable.proofs.Heard.{ends_now, goes_now, next_is, next_none, none_now, none_so_far, over_now, spelled_now, stays_now}
use Rattle.cable.proofs.hearing.hear.Goals as goal

pub next-requires-clause-spelled : goal.next-requires-clause-spelled
next-requires-clause-spelled g c =
    let r = c.requires.crossing in
    let s = c.loop-next.invariant.heard r.n r.frames r.crosses in
    spelled_now c.args.end.now.settings c.args.conn r.n r.frames c.loop-next.end.entries c.loop-next.crossing.rest s.crosses

pub returns-then-crossing-clause-heard : goal.returns-then-crossing-clause-heard
returns-then-crossing-clause-heard g c = λ n frames x. over_now c.args.conn n frames c.args.end.now c.args.crossing.now c.if-crossing.true x

pub loop-next-init : goal.loop-next-init
loop-next-init g c = record {
  end = refl;
  over = c.if-crossing.false;
  heard = λ n frames x. none_so_far c.args.conn n frames c.args.end.now c.args.crossing.now c.if-crossing.false x;
}

pub returns-then-not-branch-clause-heard : goal.returns-then-not-branch-clause-heard
returns-then-not-branch-clause-heard g c = λ n frames x.
    let l = c.loop-next in
    let front = next_is l.crossing.rest c.in_ok-next.field-0 c.in-Some.next c.in-Some.is c.in_ok-next.ensures in
    stays_now c.args.conn n frames c.args.end.now l.end c.come.new.end l.crossing l.came c.in-Some.next l.invariant.end l.invariant.over front (l.invariant.heard n frames x)
    (sym c.if-not-branch.true ∙ c.in_ok-come.ensures.leaves) c.in_ok-come.ensures.noted

pub returns-then-last-clause-heard : goal.returns-then-last-clause-heard
returns-then-last-clause-heard g c = λ n frames x.
    let l = c.loop-next in
    let front = next_is l.crossing.rest c.in_ok-next.field-0 c.in-Some.next c.in-Some.is c.in_ok-next.ensures in
    ends_now c.args.conn n frames c.args.end.now l.end c.come.new.end l.crossing l.came c.in-Some.next l.invariant.end (sym c.if-last.true ∙ c.is_too_long-last.ensures) front (l.invariant.heard n frames x)
    (sym c.if-not-branch.false ∙ c.in_ok-come.ensures.leaves) c.in_ok-come.ensures.noted

pub loop-next-preserved : goal.loop-next-preserved
loop-next-preserved g c =
    let l = c.loop-next in
    record {
      end = same_trans c.args.end.now l.end c.come.new.end l.invariant.end c.come.ensures.end;
      over = l.invariant.over;
      heard = λ n frames x.
          let front = next_is l.crossing.rest c.in_ok-next.field-0 c.in-Some.next c.in-Some.is c.in_ok-next.ensures in
          goes_now c.args.conn n frames c.args.end.now l.end c.come.new.end l.crossing.rest c.pass.new.self l.came c.in-Some.next l.invariant.end (sym c.if-last.false ∙ c.is_too_long-last.ensures) front (l.invariant.heard n frames x)
          (sym c.if-not-branch.false ∙ c.in_ok-come.ensures.leaves) c.in_ok-come.ensures.noted
          (ap (λ (r : Rest). r.max_in) c.pass.ensures.rest) c.pass.ensures.passed;
    }

pub returns-clause-heard : goal.returns-clause-heard
returns-clause-heard g c = λ n frames x.
    let l = c.loop-next in
    let none : c.in_ok-next.field-0 ≡ None = search rules in
    none_now c.args.conn n frames c.args.end.now l.end l.crossing l.came l.invariant.over (next_none l.crossing.rest c.in_ok-next.field-0 none c.in_ok-next.ensures) (l.invariant.heard n frames x)
