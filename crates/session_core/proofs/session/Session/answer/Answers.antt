use Rattle.std.proofs.Common.{◌<◌, ◌^◌, length, subst, sym}
use Rattle.session_core.specs.Seen.{Seen}
use Rattle.session_core.proofs.Soundness.{room_of}
use Rattle.session_core.proofs.session.Session.answer.Goals as goal

pub judge-requires-clause-room : goal.judge-requires-clause-room
judge-requires-clause-room g c =
    let short : length c.self.inside.history < 2 ^ 63 = subst (λ (v : Seen). length v.entries < 2 ^ 63) (sym c.self.view_is) c.requires.not_full in
    room_of c.self.inside.settings c.self.inside.state c.self.inside.history _ _ c.self.invariant short
