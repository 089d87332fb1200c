use Rattle.std.proofs.Common.{◌≡◌, Err, ap, rules}
use Rattle.rsocket_run.specs.Stops.{of_capture}
use Rattle.rsocket_run.proofs.Reading.{frames_ran, frames_stopped}
use Rattle.rsocket_run.proofs.tasks.lines.Goals as goal

pub returns-in_err-to_lines-clause-stopped : goal.returns-in_err-to_lines-clause-stopped
returns-in_err-to_lines-clause-stopped g c = λ text is.
    let told : c.from_residual-in_err-to_lines.result ≡ Err (of_capture c.in_err-to_lines.field-0.0) = search rules in
    rw told (frames_stopped c.in_err-to_lines.field-0.0 text _ _ _ _ _ (c.in_ok-bytes.ensures.whole text is) c.deref.ensures.value c.requires
    (λ place bad e. c.in_err-to_lines.ensures.frame place bad (ap Err e)))

pub returns-clause-done : goal.returns-clause-done
returns-clause-done g c = λ text is. frames_ran text _ _ _ _ _ (c.in_ok-bytes.ensures.whole text is) c.deref.ensures.value c.requires c.in_ok-to_lines.ensures.whole
