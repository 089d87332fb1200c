use Rattle.session_laws.proofs.Verdict.{refused_closed, refused_due, refused_live}
use Rattle.session_laws.proofs.resumption.a_refused_resume_changes_nothing.Goals as goal

pub returns : goal.returns
returns c = record { live = refused_live; due = refused_due; closed = refused_closed }
