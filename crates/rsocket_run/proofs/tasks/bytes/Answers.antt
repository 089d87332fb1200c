use Rattle.std.proofs.Common.{◌≡◌, Err, rules}
use Rattle.rsocket_run.specs.Stops.{of_text}
use Rattle.rsocket_run.proofs.Reading.{back_ran, back_stopped}
use Rattle.rsocket_run.proofs.tasks.bytes.Goals as goal

pub returns-in_err-from_lines-clause-stopped : goal.returns-in_err-from_lines-clause-stopped
returns-in_err-from_lines-clause-stopped g c = λ text is.
    let told : c.from_residual-in_err-from_lines.result ≡ Err (of_text c.in_err-from_lines.field-0.0) = search rules in
    rw told (back_stopped c.in_err-from_lines.field-0.0 text _ _ _ _ _ (c.in_ok-text.ensures.whole text is) c.deref.ensures.value c.requires
    c.in_err-from_lines.ensures.line c.in_err-from_lines.ensures.err)

pub returns-clause-done : goal.returns-clause-done
returns-clause-done g c = λ text is. back_ran text _ _ _ _ _ (c.in_ok-text.ensures.whole text is) c.deref.ensures.value c.requires
    c.in_ok-from_lines.ensures.whole.frames c.in_ok-from_lines.ensures.whole.is_text c.in_ok-from_lines.ensures.whole.appended
