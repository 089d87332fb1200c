use Rattle.std.proofs.Common.{rules, ◌≡◌, ◌<◌, ◌^◌, length, subst, sym}
use Rattle.reassembly.specs.Gathering.{gathered_at}
use Rattle.interactions.specs.Seen.{Seen as Streams}
use Rattle.tape.specs.declared.answer.Answer.TheVariants as answer
use Rattle.session_model.specs.Answers.{Facts, answer_to, facts}
use Rattle.session_model.specs.Legal.{IsFair}
use Rattle.session_core.specs.After.{IsAfter}
use Rattle.session_core.specs.Alone.{IsAlone}
use Rattle.session_core.specs.Fits.{facts_of}
use Rattle.session_core.specs.Leasing.{covers_next}
use Rattle.session_core.specs.Seen.{Seen}
use Rattle.session_core.specs.Speaking.{CanSay, arrival_for}
use Rattle.session_core.proofs.Alone.{after_room}
use Rattle.session_core.proofs.Saying.{can_say}
use Rattle.session_core.proofs.Soundness.{means_of, room_of, sound_more}
use Rattle.session_core.proofs.session.Session.note_whole.Goals as goal

pub apply_whole-requires-clause-room : goal.apply_whole-requires-clause-room
apply_whole-requires-clause-room g c =
    let short : length c.self.inside.history < 2 ^ 63 = subst (λ (v : Seen). length v.entries < 2 ^ 63) (sym c.self.view_is) c.requires.not_full in
    let room = room_of c.self.inside.settings c.self.inside.state c.self.inside.history _ _ c.self.invariant short in
    record {
      openings = room.openings;
      made_frames = room.made_frames;
      made = room.made;
      handled_frames = room.handled_frames;
      handled = room.handled;
      granted = room.granted;
    }

pub apply_whole-requires-clause-alone : goal.apply_whole-requires-clause-alone
apply_whole-requires-clause-alone g c =
    let settings = c.self.inside.settings in
    let s = c.self.inside.state in
    let e = c.args.event in
    let alone : IsAlone settings (facts settings c.self.inside.history) e = subst (λ (v : Seen). IsAlone v.settings (facts v.settings v.entries) e) (sym c.self.view_is) c.requires.alone in
    let here : IsAlone settings (facts_of s) e = subst (λ (t : Facts). IsAlone settings t e) (sym c.self.invariant.fits.facts_are) alone in
    subst (λ (v : Streams). IsAlone settings (facts_of (record s { streams = v })) e) (sym c.in_ok-make_room.ensures.same) here

pub apply_whole-requires-clause-says : goal.apply_whole-requires-clause-says
apply_whole-requires-clause-says g c =
    let settings = c.self.inside.settings in
    let s = c.self.inside.state in
    let past = c.self.inside.history in
    let e = c.args.event in
    let is : answer.Handled ≡ answer_to settings past e = subst (λ (v : Seen). answer.Handled ≡ answer_to v.settings v.entries e) (sym c.self.view_is) c.requires.is in
    let short : length past < 2 ^ 63 = subst (λ (v : Seen). length v.entries < 2 ^ 63) (sym c.self.view_is) c.requires.not_full in
    let fair : IsFair settings e = subst (λ (v : Seen). IsFair v.settings e) (sym c.self.view_is) c.requires.fair in
    let means = means_of settings s past e answer.Handled c.self.invariant.fits is in
    subst (λ (v : Streams). CanSay v answer.Handled e (arrival_for (covers_next settings s) (gathered_at s.parts) answer.Handled e)) (sym c.in_ok-make_room.ensures.same)
    (can_say settings s past c.make_room.new.streams.ready s.parts s.outbox.room e answer.Handled c.self.invariant.fits short fair means c.in_ok-make_room.ensures.room)

pub invariant_of-self-2 : goal.invariant_of-self-2
invariant_of-self-2 g c =
    let settings = c.self.inside.settings in
    let s = c.self.inside.state in
    let past = c.self.inside.history in
    let e = c.args.event in
    let is : answer.Handled ≡ answer_to settings past e = subst (λ (v : Seen). answer.Handled ≡ answer_to v.settings v.entries e) (sym c.self.view_is) c.requires.is in
    let fair : IsFair settings e = subst (λ (v : Seen). IsFair v.settings e) (sym c.self.view_is) c.requires.fair in
    let after : IsAfter settings s e answer.Handled c.apply_whole.new.self = after_room settings s c.apply_whole.new.self e answer.Handled c.make_room.new.streams.ready
    (subst (λ (v : Streams). IsAfter settings (record s { streams = v }) e answer.Handled c.apply_whole.new.self) c.in_ok-make_room.ensures.same c.apply_whole.ensures) in
    rw (c.note-2.ensures, c.in_ok-note.ensures.told, c.in_ok-note.ensures.count)
    (sound_more settings s c.apply_whole.new.self past (record { who = c.args.who; event = e; answer = answer.Handled }) _ _ c.self.invariant after is (search rules) fair)
