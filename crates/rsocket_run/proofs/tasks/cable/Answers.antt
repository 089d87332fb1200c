use Rattle.std.proofs.Common.{inr, rules}
use Rattle.rsocket_run.proofs.Whole.{got_ends, script_read}
use Rattle.rsocket_run.proofs.tasks.cable.Goals as goal

pub returns-clause-done : goal.returns-clause-done
returns-clause-done g c = λ text is.
    let read = script_read text _ _ _ _ (c.in_ok-text.ensures.whole text is) c.deref.ensures.value c.in_ok-script.ensures.ok in
    record {
      to_its_end = read.1;
      script = c.in_ok-script.script;
      is_script = read.0;
      reports = c.in_ok-out.ensures.reports;
    }

pub returns-in_err-out-clause-back : goal.returns-in_err-out-clause-back
returns-in_err-out-clause-back g c =
    inr (got_ends (g.I.Source.shown c.args.input.now) _ _ _ _ _ _ _ c.in_ok-text.ensures.whole c.deref.ensures.value c.in_ok-script.ensures.ok c.in_err-out.ensures.got, search rules)

pub returns-clause-back : goal.returns-clause-back
returns-clause-back g c =
    inr (got_ends (g.I.Source.shown c.args.input.now) _ _ _ _ _ _ _ c.in_ok-text.ensures.whole c.deref.ensures.value c.in_ok-script.ensures.ok c.in_ok-out.ensures.got, tt)
