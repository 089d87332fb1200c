use Rattle.session_core.proofs.Spelling.{again_held, frame_goes, notices_spelled}
use Rattle.session_core.proofs.state.State.prepare.Goals as goal

pub frames_of-requires-clause-can_go : goal.frames_of-requires-clause-can_go
frames_of-requires-clause-can_go c =
    frame_goes c.args.settings.now c.args.self.now c.args.event.now c.args.answer.now c.requires.checked c.fair.ensures.even c.fair.ensures.odd c.requires.fair c.requires.means

pub line_up-requires-clause-notices : goal.line_up-requires-clause-notices
line_up-requires-clause-notices c =
    rw c.in_ok-line.ensures.notices (notices_spelled c.args.settings.now c.args.self.now c.args.event.now c.args.answer.now c.requires.checked c.requires.below c.requires.fair c.requires.means)

pub line_up-requires-clause-again : goal.line_up-requires-clause-again
line_up-requires-clause-again c =
    rw (c.in_ok-line.ensures.again, c.in_ok-spelled.ensures.same) (again_held c.args.settings.now c.args.self.now c.args.event.now c.args.answer.now c.requires.means)
