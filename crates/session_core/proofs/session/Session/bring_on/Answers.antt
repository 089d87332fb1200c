use Rattle.std.proofs.Common.{◌<◌, ◌^◌, length, refl, subst, arith}
use Rattle.session_model.specs.Answers.{Facts, facts}
use Rattle.session_core.specs.Alone.{IsAlone}
use Rattle.session_core.specs.Seen.{Seen}
use Rattle.session_core.proofs.Soundness.{room_of}
use Rattle.session_core.proofs.session.Session.bring_on.Goals as goal

pub comes_alone-requires-clause-room : goal.comes_alone-requires-clause-room
comes_alone-requires-clause-room g c =
    let short : length c.self.inside.history < 2 ^ 63 = omega (arith, c.self.invariant.count_is) in
    room_of c.self.inside.settings c.self.inside.state c.self.inside.history _ _ c.self.invariant short

pub note_whole-requires-clause-alone : goal.note_whole-requires-clause-alone
note_whole-requires-clause-alone g c =
    let e = c.args.event in
    let settings = c.self.inside.settings in
    let alone : IsAlone settings (facts settings c.self.inside.history) e =
    subst (λ (t : Facts). IsAlone settings t e) c.self.invariant.fits.facts_are (c.if-not-comes_alone.ensures.alone refl) in
    subst (λ (v : Seen). IsAlone v.settings (facts v.settings v.entries) e) c.self.view_is alone
