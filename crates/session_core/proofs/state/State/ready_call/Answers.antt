use Rattle.std.proofs.Common.{rules, ◌≡◌, Option, IfSome, sym, subst}
use Rattle.rs_frame.specs.Spelling.{IsSpellable, length_of}
use Rattle.rs_frame.specs.declared.frame.Frame.{Frame}
use Rattle.interactions.specs.Seen.{known_to}
use Rattle.session_core.specs.Sending.{own_next}
use Rattle.session_core.proofs.SentOnce.{frame_spoken, sent_made, sent_sends, sent_spellable}
use Rattle.session_core.proofs.state.State.ready_call.Goals as goal

pub frame_length-count-requires : goal.frame_length-count-requires
frame_length-count-requires c =
    let s = c.args.self.now in
    let spoke = frame_spoken (known_to s.streams) (own_next s.streams) c.args.call.now c.args.on c.is_last-last.result c.requires.stream c.is_last-last.ensures in
    subst (λ (o : Option Frame). IfSome o IsSpellable) (sym spoke)
    (sent_spellable c.args.settings.now s c.args.call.now c.args.on c.requires.checked c.fair.ensures.even c.fair.ensures.odd c.requires.fair c.requires.limits c.requires.stream (c.may_send.ensures (search rules)))

pub returns-clause-single : goal.returns-clause-single
returns-clause-single c =
    let g = c.args.settings.now in
    let s = c.args.self.now in
    let asked = c.args.call.now in
    let on = c.args.on in
    let n = c.frame_length-count.result in
    let spoke = frame_spoken (known_to s.streams) (own_next s.streams) asked on c.is_last-last.result c.requires.stream c.is_last-last.ensures in
    let long = subst (λ (o : Option Frame). IfSome o (λ f. n ≡ length_of f)) spoke c.frame_length-count.ensures in
    let made = sent_made g s asked on c.mtu.result n long c.mtu.ensures.value (λ f is. c.fits.ensures f is (search rules)) in
    record {
      sends = sent_sends g s asked on n c.requires.stream (c.may_send.ensures (search rules)) long made;
      frame = spoke;
      spellable = sent_spellable g s asked on c.requires.checked c.fair.ensures.even c.fair.ensures.odd c.requires.fair c.requires.limits c.requires.stream (c.may_send.ensures (search rules));
    }
