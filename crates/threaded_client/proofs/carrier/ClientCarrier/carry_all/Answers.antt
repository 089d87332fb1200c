use Rattle.std.proofs.Common.{rules, ◌≡◌, ◌∙◌, ◌<◌, ◌+◌, ℕ, suc, ◌++◌, ◌∷◌, [], List, length, take, get_or, ap, sym, subst, append_assoc, append-nil, arith}
use Rattle.std.proofs.Math.Seq.{take-suc}
use Rattle.std.proofs.lemmas.List.{take_all}
use Rattle.rtrb.specs.Ring.{received, sent}
use Rattle.cable_script.specs.declared.line.Line.{Line}
use Rattle.pump.proofs.Adding.{on_both}
use Rattle.threaded_client.specs.Carrying.{IsCarrying}
use Rattle.threaded_client.proofs.carrier.ClientCarrier.carry_all.Goals as goal

one_more : (done lines : List Line) (i : ℕ) (l : Line) → i < length lines → l ≡ get_or lines i l → (done ++ take i lines) ++ l ∷ [] ≡ done ++ take (i + 1) lines
one_more done lines i l lt is =
    let next : suc i ≡ i + 1 = omega arith in
    append_assoc done (take i lines) (l ∷ []) ∙ ap (λ (x : List Line). done ++ x) (ap (λ (x : Line). take i lines ++ x ∷ []) is ∙ (sym (take-suc lines i l lt) ∙ ap (λ (n : ℕ). take n lines) next))

pub loop-line-init : goal.loop-line-init
loop-line-init g c =
    let me = c.args.self.now in
    record {
      same = (search rules);
      out = (search rules);
      from = (search rules);
      sound = c.requires.sound;
      kept = λ done k. subst (λ (ls : List Line). IsCarrying me.caller ls me.pump (sent me.out) (received me.from)) (sym (append-nil done)) k;
    }

pub loop-line-preserved : goal.loop-line-preserved
loop-line-preserved g c =
    let i = c.loop-line.invariant in
    let was = c.loop-line.self in
    let now = c.line.new.self in
    record {
      same = on_both c.args.self.now.caller was.caller now.caller i.same c.line.ensures.same;
      out = (search rules);
      from = (search rules);
      sound = c.in_ok-line.ensures.sound;
      kept = λ done k. subst (λ (ls : List Line). IsCarrying now.caller ls now.pump (sent now.out) (received now.from)) (one_more done c.args.lines.now c.loop-line.line-index c.line-item.result c.loop-line-test.true c.line-item.is)
          (c.in_ok-line.ensures.kept (done ++ take c.loop-line.line-index c.args.lines.now) (i.kept done k));
    }

pub returns-clause-kept : goal.returns-clause-kept
returns-clause-kept g c done k =
    let i = c.loop-line.invariant in
    let now = c.loop-line.self in
    let all : take c.loop-line.line-index c.args.lines.now ≡ c.args.lines.now = take_all c.loop-line.line-index c.args.lines.now c.loop-line-test.false in
    subst (λ (ls : List Line). IsCarrying now.caller (done ++ ls) now.pump (sent now.out) (received now.from)) all (i.kept done k)
