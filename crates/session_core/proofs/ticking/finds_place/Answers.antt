use Rattle.std.proofs.Common.{[], ◌∷◌, not, ap}
use Rattle.session_model.specs.Answers.{asks_alive}
use Rattle.session_model.specs.Frames.{tells}
use Rattle.session_model.specs.Life.{agrees_resumption}
use Rattle.session_core.specs.Fits.{facts_of}
use Rattle.session_core.proofs.ticking.finds_place.Goals as goal

pub returns : goal.returns
returns c =
    let g = c.args.settings.now in
    let s = c.args.state.now in
    ap not (c.find_full.ensures (asks_alive g (facts_of s) ∷ []) (c.keepalive_size.ensures.value (tells (agrees_resumption g s.setup) s.handled.position)))
