-- Where nothing is wrong with the input, nothing of it is told as wrong.
use Rattle.std.proofs.Common.{true, false, ◌≡◌, ℕ, ◌+◌, ◌≤◌, List, length, Option, inl, inr, sym, ap, subst, arith}
use Rattle.std.proofs.lemmas.List.{length-append}
use Rattle.cable_script.specs.declared.script.ScriptFault.TheVariants.{Line as WrongLine}
use Rattle.cable_script.specs.Scripted.{Scripted}
use Rattle.cable_script.specs.Script.{IsFault, IsScript}
use Rattle.cable_script.proofs.OneScript.{none_wrong}
use Rattle.plain_text.specs.Lines.{lines_of}
use Rattle.capture.specs.declared.lines.BadFrame.{BadFrame}
use Rattle.capture.specs.Captured.{IsBadAt}
use Rattle.capture.specs.Text.{IsWrongLine}
use Rattle.capture.proofs.OneWay.{either}
use Rattle.capture.proofs.Texts.{either_text}
use Rattle.command_line.specs.declared.task.Task.{Task}
use Rattle.command_line.specs.declared.task.Task.TheVariants as tasks
use Rattle.rsocket_run.specs.Run.{HasBadFrame, HasWrongLine, IsRightInput}
use Rattle.rsocket_run.specs.declared.tasks.TheConstants.{READ_FOR_CAPTURE, READ_FOR_SCRIPT}
use Rattle.rsocket_run.specs.Streams.{IsReadTo}
use Rattle.rsocket_run.proofs.Whole.{whole_text}

-- an input below the limit is read to its end
all_read : (most : ℕ) (input read : List ℕ) (left : Option (List ℕ)) → IsReadTo most input read left → length input + 1 ≤ most → read ≡ input
all_read most input read left r short = sym (whole_text most input read left r (omega (arith, short, ap length r.text_is, length-append read r.rest))).0

no_fault : (input : List ℕ) (number : ℕ) (script : Scripted) → IsScript input script → IsFault input (WrongLine number) → ⊥
no_fault input number script s (inl long) =
    omega (arith, s.short, long.1)
no_fault input number script s (inr wrong) = none_wrong script (lines_of input) number s.lines_are wrong.1

pub no_wrong_line : (task : Task) (input : List ℕ) (left : Option (List ℕ)) (number : ℕ) → IsRightInput task input → HasWrongLine task input left number → ⊥
no_wrong_line (tasks.Cable threads) input left number (script, s) wrong =
    let same = all_read READ_FOR_SCRIPT input wrong.read left wrong.is_read (omega (arith, s.short)) in
    no_fault input number script s (subst (λ (t : List ℕ). IsFault t (WrongLine number)) same wrong.wrong)
no_wrong_line (tasks.Frames false) input left number right wrong = wrong
no_wrong_line (tasks.Frames true) input left number (frames, t) wrong =
    let same = all_read READ_FOR_CAPTURE input wrong.read left wrong.is_read (omega (arith, t.short)) in
    either_text input frames number wrong.before t (subst (λ (x : List ℕ). IsWrongLine x number wrong.before) same wrong.wrong)

pub no_bad_frame : (task : Task) (input : List ℕ) (left : Option (List ℕ)) (place : ℕ) (bad : BadFrame) (lines : List ℕ) → IsRightInput task input → HasBadFrame task input left place bad lines → ⊥
no_bad_frame (tasks.Cable threads) input left place bad lines right found = found
no_bad_frame (tasks.Frames false) input left place bad lines (frames, c) found =
    let same = all_read READ_FOR_CAPTURE input found.read left found.is_read (omega (arith, c.short)) in
    either input place bad frames found.before c (subst (λ (x : List ℕ). IsBadAt x place bad found.before) same found.found)
no_bad_frame (tasks.Frames true) input left place bad lines right found = found
