use Rattle.std.proofs.Common.{◌≡◌, ◌-◌, ◌++◌, drop, length, ap, sym, subst, ◌∙◌, arith}
use Rattle.replay_buffer.specs.Held.{IsHeldOf, end_of, from_least, with_newest}
use Rattle.outbox.specs.Line.{own_in, run, weave}
use Rattle.outbox.specs.Waiting.{Waiting}
use Rattle.outbox.specs.Woven.{IsWoven, waiting_of}
use Rattle.outbox.proofs.Woven.{in_all, joins}
use Rattle.outbox.proofs.outbox.Outbox.keep_in_line.Goals as goal

pub keep_last-requires-clause-few : goal.keep_last-requires-clause-few
keep_last-requires-clause-few c =
    omega (arith, in_all c.self.inside c.self.invariant, ap (λ (w : Waiting). length w.queue) c.self.view_is, c.len-own.ensures.value, c.len-2.ensures.value, c.len.ensures, c.if-len.false)

joined : (c : goal.After-keep_last) → IsWoven (record c.self.inside { spans = c.keep_last.new.self }) × (weave c.keep_last.new.self.bytes c.self.inside.own.bytes ≡ (waiting_of c.self.inside).queue ++ c.args.frame.now)
joined c =
    let o = c.self.inside in
    joins o c.keep_last.new.self c.args.frame.now c.self.invariant
    (c.keep_last.ensures.bytes ∙ ap (λ n. o.spans.bytes ++ run (n - own_in o.spans.bytes) c.args.frame.now) c.len-own.ensures.value)
    (omega (arith, ap (λ (w : Waiting). length w.queue) c.self.view_is, c.len-2.ensures.value, c.len.ensures, c.if-len.false))

pub invariant_of-self : goal.invariant_of-self
invariant_of-self c = (joined c).0

pub returns-clause-kept : goal.returns-clause-kept
returns-clause-kept c = λ newest is yes. record {
  queue = (joined c).1 ∙ (λ j. (c.self.view_is j).queue ++ is j);
  held = c.keep_last.ensures.held ∙ (λ j.
      let h = (c.self.view_is j).held in
      let all = with_newest h (drop 3 (is j)) in
      from_least all (end_of all - h.hold));
  of_made = λ made told holds low.
      c.keep_last.ensures.of_made made told newest (subst (λ (w : Waiting). IsHeldOf made told w.held) (sym c.self.view_is) holds) low (ap (drop 3) is);
}
