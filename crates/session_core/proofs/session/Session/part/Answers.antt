use Rattle.std.proofs.Common.{◌≡◌, ◌<◌, ◌^◌, length, sym, subst}
use Rattle.tape.specs.declared.event.Event.TheVariants as event
use Rattle.session_model.specs.Answers.{answer_to}
use Rattle.session_core.specs.Seen.{Seen}
use Rattle.session_core.proofs.Standing.{after_cut, of_cut}
use Rattle.session_core.proofs.Ready.{ready_cut}
use Rattle.session_core.proofs.Soundness.{sound_more}
use Rattle.session_core.proofs.session.Session.part.Goals as goal

pub invariant_of-self : goal.invariant_of-self
invariant_of-self g c =
    let e = event.Cut c.args.conn in
    let is : c.args.answer ≡ answer_to c.self.inside.settings c.self.inside.history e = subst (λ (v : Seen). c.args.answer ≡ answer_to v.settings v.entries e) (sym c.self.view_is) c.requires.is in
    rw (c.note.ensures, c.push.ensures.told, c.push.ensures.count)
    (sound_more c.self.inside.settings c.self.inside.state c.act.new.self c.self.inside.history (record { who = c.args.who; event = e; answer = c.args.answer }) _ _ c.self.invariant
    (after_cut c.self.inside.settings c.self.inside.state c.act.new.self c.args.conn c.args.answer _ c.requires.of_cut c.act.ensures.applied c.act.ensures.queue)
    is (of_cut c.args.answer c.requires.of_cut) tt)

pub act-requires : goal.act-requires
act-requires g c =
    let settings = c.self.inside.settings in
    let s = c.self.inside.state in
    let past = c.self.inside.history in
    let e = event.Cut c.args.conn in
    let is : c.args.answer ≡ answer_to settings past e = subst (λ (v : Seen). c.args.answer ≡ answer_to v.settings v.entries e) (sym c.self.view_is) c.requires.is in
    let short : length past < 2 ^ 63 = subst (λ (v : Seen). length v.entries < 2 ^ 63) (sym c.self.view_is) c.requires.not_full in
    record {
      ready = ready_cut settings s past _ _ c.args.conn c.args.answer c.nothing_more-prepared.result c.self.invariant short c.requires.of_cut is c.nothing_more-prepared.ensures.setup c.nothing_more-prepared.ensures.made
          c.nothing_more-prepared.ensures.spelled c.nothing_more-prepared.ensures.arrival c.nothing_more-prepared.ensures.covered c.nothing_more-prepared.ensures.before;
    }
