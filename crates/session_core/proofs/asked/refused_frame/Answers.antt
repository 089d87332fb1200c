use Rattle.std.proofs.Common.{◌∙◌, sym}
use Rattle.session_core.specs.Fits.{facts_of}
use Rattle.session_core.proofs.Asking.{by_alone, by_frame}
use Rattle.session_core.proofs.asked.refused_frame.Goals as goal

pub returns-in-Some : goal.returns-in-Some
returns-in-Some c other =
    by_alone c.args.settings.now (facts_of c.args.state.now) c.args.call.now c.in-Some.size c.refused_beside.result (sym c.in-Some.is ∙ c.size_beside.ensures.value) c.refused_beside.ensures

pub returns-in-None : goal.returns-in-None
returns-in-None c other =
    by_frame c.args.settings.now (facts_of c.args.state.now) c.args.call.now c.refused_sending.result other (sym c.in-None.is ∙ c.size_beside.ensures.value) c.refused_sending.ensures
