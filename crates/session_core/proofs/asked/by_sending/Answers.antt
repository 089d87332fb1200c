use Rattle.session_core.proofs.asked.by_sending.Goals as goal

pub returns-in_default : goal.returns-in_default
returns-in_default c = c.refused_frame.ensures c.in_default.not-Close
