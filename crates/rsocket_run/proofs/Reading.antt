-- What was read, where it is all of the input.
use Rattle.std.proofs.Common.{◌≡◌, ℕ, List, [], ◌++◌, Option, refl, sym, subst, ◌∙◌, arith, true, false}
use Rattle.rs_frame.specs.declared.frame.Frame.{Frame}
use Rattle.rs_frame.specs.Framed.{framed_all}
use Rattle.capture.specs.declared.lines.BadFrame.{BadFrame}
use Rattle.capture.specs.Captured.{IsBadAt, IsCapture, all_lines}
use Rattle.capture.specs.Text.{IsLineFault, IsTextOf, IsWrongLine}
use Rattle.capture.specs.declared.back.LineFault.{LineFault}
use Rattle.capture.specs.declared.back.LineFault.TheVariants as texts
use Rattle.capture.specs.declared.lines.CaptureFault.{CaptureFault}
use Rattle.capture.specs.declared.lines.CaptureFault.TheVariants as captures
use Rattle.command_line.specs.declared.task.Task.TheVariants as tasks
use Rattle.rsocket_run.specs.Run.{HasBadCapture, HasWrongText, RanBack, RanFrames}
use Rattle.rsocket_run.specs.Stops.{StoppedBy, of_capture, of_text}
use Rattle.rsocket_run.specs.declared.tasks.TheConstants.{READ_FOR_CAPTURE}
use Rattle.rsocket_run.specs.Streams.{IsReadTo}
use Rattle.rsocket_run.proofs.Whole.{whole_text}

-- after a text that is empty stands what was appended
from_empty : (old new more : List ℕ) → old ≡ [] → new ≡ old ++ more → new ≡ more
from_empty old new more none is = subst (λ (x : List ℕ). new ≡ x ++ more) none is

pub frames_ran : (input bytes given : List ℕ) (left : Option (List ℕ)) (old new : List ℕ) → IsReadTo READ_FOR_CAPTURE input bytes left → given ≡ bytes → old ≡ [] → ((frames : List Frame) × IsCapture given frames × (new ≡ old ++ all_lines frames)) → RanFrames input left new
frames_ran input bytes given left old new r same none (frames, capture, appended) =
    let here : IsCapture bytes frames = subst (λ (b : List ℕ). IsCapture b frames) same capture in
    let whole = whole_text READ_FOR_CAPTURE input bytes left r (omega (arith, here.short)) in
    record {
      to_its_end = whole.1;
      frames = frames;
      capture = subst (λ (b : List ℕ). IsCapture b frames) (sym whole.0) here;
      lines = from_empty old new (all_lines frames) none appended;
    }

pub frames_bad : (input bytes given : List ℕ) (left : Option (List ℕ)) (old new : List ℕ) (place : ℕ) (bad : BadFrame) → IsReadTo READ_FOR_CAPTURE input bytes left → given ≡ bytes → old ≡ [] → ((before : List Frame) × IsBadAt given place bad before × (new ≡ old ++ all_lines before)) → HasBadCapture input left place bad new
frames_bad input bytes given left old new place bad r same none (before, found, appended) = record {
  read = bytes;
  is_read = r;
  before = before;
  found = subst (λ (b : List ℕ). IsBadAt b place bad before) same found;
  lines_are = from_empty old new (all_lines before) none appended;
}

pub back_ran : (input bytes given : List ℕ) (left : Option (List ℕ)) (old new : List ℕ) → IsReadTo READ_FOR_CAPTURE input bytes left → given ≡ bytes → old ≡ [] → (frames : List Frame) → IsTextOf given frames → new ≡ old ++ framed_all frames → RanBack input left new
back_ran input bytes given left old new r same none frames is_text appended =
    let here : IsTextOf bytes frames = subst (λ (b : List ℕ). IsTextOf b frames) same is_text in
    let whole = whole_text READ_FOR_CAPTURE input bytes left r (omega (arith, here.short)) in
    record {
      to_its_end = whole.1;
      frames = frames;
      text = subst (λ (b : List ℕ). IsTextOf b frames) (sym whole.0) here;
      bytes = from_empty old new (framed_all frames) none appended;
    }

pub back_wrong : (input bytes given : List ℕ) (left : Option (List ℕ)) (number : ℕ) → IsReadTo READ_FOR_CAPTURE input bytes left → given ≡ bytes → ((before : List Frame) × IsWrongLine given number before) → HasWrongText input left number
back_wrong input bytes given left number r same (before, wrong) = record {
  read = bytes;
  is_read = r;
  before = before;
  wrong = subst (λ (b : List ℕ). IsWrongLine b number before) same wrong;
}

pub frames_stopped : (e : CaptureFault) (input bytes given : List ℕ) (left : Option (List ℕ)) (old new : List ℕ) → IsReadTo READ_FOR_CAPTURE input bytes left → given ≡ bytes → old ≡ []
    → ((place : ℕ) (bad : BadFrame) → e ≡ captures.Frame place bad → (before : List Frame) × IsBadAt given place bad before × (new ≡ old ++ all_lines before))
    → StoppedBy (tasks.Frames false) input left (of_capture e) new
frames_stopped (captures.Frame place bad) input bytes given left old new read same none found = frames_bad input bytes given left old new place bad read same none (found place bad refl)
frames_stopped captures.OutOfMemory input bytes given left old new read same none found = tt

pub back_stopped : (e : LineFault) (input bytes given : List ℕ) (left : Option (List ℕ)) (old new : List ℕ) → IsReadTo READ_FOR_CAPTURE input bytes left → given ≡ bytes → old ≡ [] → IsLineFault given e → new ≡ old
    → StoppedBy (tasks.Frames true) input left (of_text e) new
back_stopped (texts.Line number) input bytes given left old new read same none wrong kept = (back_wrong input bytes given left number read same wrong, kept ∙ none)
back_stopped texts.OutOfMemory input bytes given left old new read same none wrong kept = tt
