use Rattle.std.proofs.Common.{◌≡◌, ◌<◌, ◌^◌, ℕ, Option, IfSome, length, Some, refl, sym, subst, ◌∙◌, ap}
use Rattle.rs_frame.specs.Spelling.{IsSpellable}
use Rattle.rs_frame.specs.declared.frame.Frame.{Frame}
use Rattle.tape.specs.declared.answer.Answer.{Answer}
use Rattle.tape.specs.declared.event.Event.TheVariants as event
use Rattle.session_model.specs.Answers.{answer_to}
use Rattle.session_model.specs.Legal.{LeavesEntry}
use Rattle.session_core.specs.declared.sending.Single.{Single}
use Rattle.session_core.specs.declared.state.State.{State}
use Rattle.session_core.specs.After.{IsAfter}
use Rattle.session_core.specs.Seen.{Seen}
use Rattle.session_core.specs.Sending.{FindsPosition, IsLined, IsSingle, answer_on}
use Rattle.session_core.specs.Speaking.{Acts, with_room}
use Rattle.interactions.specs.Seen.{known_to}
use Rattle.session_model.specs.Frames.{spoken}
use Rattle.session_core.specs.Leasing.{LetsStart}
use Rattle.outbox.specs.Waiting.{Waiting, with_spare}
use Rattle.tape.specs.Told.{told_before}
use Rattle.session_core.proofs.AfterSend.{sent_acts, sent_after, sent_lets, sent_top}
use Rattle.session_core.proofs.TakenBack.{taken_back, told_again}
use Rattle.session_core.proofs.SentOnce.{sent_answer, sent_leaves}
use Rattle.session_core.proofs.Soundness.{room_of, sound_more, sound_with_room}
use Rattle.session_core.proofs.session.Session.send.Goals as goal

pub ready_call-requires-clause-room : goal.ready_call-requires-clause-room
ready_call-requires-clause-room g c =
    let short : length c.self.inside.history < 2 ^ 63 = subst (λ (v : Seen). length v.entries < 2 ^ 63) (sym c.self.view_is) c.requires.not_full in
    room_of c.self.inside.settings c.self.inside.state c.self.inside.history _ _ c.self.invariant short

pub line_frame-lined-requires-clause-spellable : goal.line_frame-lined-requires-clause-spellable
line_frame-lined-requires-clause-spellable g c =
    let settings = c.self.inside.settings in
    let s = c.self.inside.state in
    let past = c.self.inside.history in
    let asked = c.args.call.now in
    let on = c.in_ok-on.on in
    let single : IsSingle settings s asked on c.in-Ok-Some.single =
    subst (λ (o : Option Single). IfSome o (λ r. IsSingle settings s asked on r)) c.in-Ok-Some.field-0-is c.in-Ok-Some.ensures.single in
    subst (λ (o : Option Frame). IfSome o IsSpellable) (sym single.frame) single.spellable

pub line_frame-lined-requires-clause-top : goal.line_frame-lined-requires-clause-top
line_frame-lined-requires-clause-top g c =
    let settings = c.self.inside.settings in
    let s = c.self.inside.state in
    let past = c.self.inside.history in
    let asked = c.args.call.now in
    let on = c.in_ok-on.on in
    let single : IsSingle settings s asked on c.in-Ok-Some.single =
    subst (λ (o : Option Single). IfSome o (λ r. IsSingle settings s asked on r)) c.in-Ok-Some.field-0-is c.in-Ok-Some.ensures.single in
    let ready : c.ready_call.new.self ≡ with_room s (Some on) s.parts s.outbox.room =
    subst (λ (o : Option Single). IfSome o (λ _. c.ready_call.new.self ≡ with_room s (Some on) s.parts s.outbox.room)) c.in-Ok-Some.field-0-is c.in-Ok-Some.ensures.ready in
    subst (λ (o : Option Frame). IfSome o (FindsPosition c.ready_call.new.self.outbox.held)) (sym single.frame)
    (subst (λ (k : State). IfSome (spoken (known_to s.streams) on asked) (FindsPosition k.outbox.held)) (sym ready)
    (sent_top settings s past _ _ asked on c.in-Ok-Some.single.count c.self.invariant c.in_ok-on.ensures single.sends))

pub invariant_of-self-in-Err-lined : goal.invariant_of-self-in-Err-lined
invariant_of-self-in-Err-lined g c =
    let settings = c.self.inside.settings in
    let s = c.self.inside.state in
    let past = c.self.inside.history in
    let asked = c.args.call.now in
    let on = c.in_ok-on.on in
    let single : IsSingle settings s asked on c.in-Ok-Some.single =
    subst (λ (o : Option Single). IfSome o (λ r. IsSingle settings s asked on r)) c.in-Ok-Some.field-0-is c.in-Ok-Some.ensures.single in
    let ready : c.ready_call.new.self ≡ with_room s (Some on) s.parts s.outbox.room =
    subst (λ (o : Option Single). IfSome o (λ _. c.ready_call.new.self ≡ with_room s (Some on) s.parts s.outbox.room)) c.in-Ok-Some.field-0-is c.in-Ok-Some.ensures.ready in
    let room = c.line_frame-lined.new.outbox.room in
    let same : record c.ready_call.new.self { outbox = c.line_frame-lined.new.outbox } ≡ with_room s (Some on) s.parts (record s.outbox.room { spare = room.spare }) =
    ap (λ (w : Waiting). record c.ready_call.new.self { outbox = w }) c.in-Err-lined.ensures.err
    ∙ ap (λ (k : State). record k { outbox = with_spare k.outbox room.spare }) ready in
    rw (same, c.take_back.ensures.told ∙ ap told_before c.in_default.ensures.told ∙ told_again (g.T.Tape.told c.self.inside.tape) _, taken_back _ _ _ c.in_default.ensures.count c.take_back.ensures.count)
    (sound_with_room _ _ _ _ _ _ _ _ (λ i. refl) (λ i. refl) c.self.invariant)

pub speak_once-requires-clause-acts : goal.speak_once-requires-clause-acts
speak_once-requires-clause-acts g c =
    let settings = c.self.inside.settings in
    let s = c.self.inside.state in
    let past = c.self.inside.history in
    let asked = c.args.call.now in
    let on = c.in_ok-on.on in
    let single : IsSingle settings s asked on c.in-Ok-Some.single =
    subst (λ (o : Option Single). IfSome o (λ r. IsSingle settings s asked on r)) c.in-Ok-Some.field-0-is c.in-Ok-Some.ensures.single in
    let ready : c.ready_call.new.self ≡ with_room s (Some on) s.parts s.outbox.room =
    subst (λ (o : Option Single). IfSome o (λ _. c.ready_call.new.self ≡ with_room s (Some on) s.parts s.outbox.room)) c.in-Ok-Some.field-0-is c.in-Ok-Some.ensures.ready in
    let short : length past < 2 ^ 63 = subst (λ (v : Seen). length v.entries < 2 ^ 63) (sym c.self.view_is) c.requires.not_full in
    subst (λ (k : State). Acts k.streams asked) (sym ready)
    (sent_acts settings s past asked on c.self.invariant.fits short (c.requires.askable, c.call_amounts_fit.ensures) c.in_ok-on.ensures single.sends.may)

pub speak_once-requires-clause-lets : goal.speak_once-requires-clause-lets
speak_once-requires-clause-lets g c =
    let settings = c.self.inside.settings in
    let s = c.self.inside.state in
    let past = c.self.inside.history in
    let asked = c.args.call.now in
    let on = c.in_ok-on.on in
    let single : IsSingle settings s asked on c.in-Ok-Some.single =
    subst (λ (o : Option Single). IfSome o (λ r. IsSingle settings s asked on r)) c.in-Ok-Some.field-0-is c.in-Ok-Some.ensures.single in
    let ready : c.ready_call.new.self ≡ with_room s (Some on) s.parts s.outbox.room =
    subst (λ (o : Option Single). IfSome o (λ _. c.ready_call.new.self ≡ with_room s (Some on) s.parts s.outbox.room)) c.in-Ok-Some.field-0-is c.in-Ok-Some.ensures.ready in
    subst (λ (k : State). (id : ℕ) → LetsStart c.agreed_by-agreed.result.leases (answer_on asked id) k.lease) (sym ready)
    (sent_lets settings s past _ _ asked on c.in-Ok-Some.single.count c.agreed_by-agreed.result.leases c.self.invariant c.in_ok-on.ensures single.sends c.agreed_by-agreed.ensures.leases)

pub invariant_of-self-2 : goal.invariant_of-self-2
invariant_of-self-2 g c =
    let settings = c.self.inside.settings in
    let s = c.self.inside.state in
    let past = c.self.inside.history in
    let asked = c.args.call.now in
    let on = c.in_ok-on.on in
    let single : IsSingle settings s asked on c.in-Ok-Some.single =
    subst (λ (o : Option Single). IfSome o (λ r. IsSingle settings s asked on r)) c.in-Ok-Some.field-0-is c.in-Ok-Some.ensures.single in
    let ready : c.ready_call.new.self ≡ with_room s (Some on) s.parts s.outbox.room =
    subst (λ (o : Option Single). IfSome o (λ _. c.ready_call.new.self ≡ with_room s (Some on) s.parts s.outbox.room)) c.in-Ok-Some.field-0-is c.in-Ok-Some.ensures.ready in
    let a = c.answer_on-answer.result in
    let mid : State = record c.ready_call.new.self { outbox = c.line_frame-lined.new.outbox } in
    let new = c.speak_once.new.self in
    let fits = c.self.invariant.fits in
    let lined = subst (λ (o : Option Frame). IfSome o (λ f. IsLined c.agreed_by-agreed.result.resumption f c.ready_call.new.self.outbox mid.outbox)) single.frame c.in_default-lined.ensures.ok in
    let after = sent_after settings s past c.ready_call.new.self mid new asked on c.in-Ok-Some.single.count c.agreed_by-agreed.result.resumption c.agreed_by-agreed.result.leases fits c.in_ok-on.ensures single.sends
    c.agreed_by-agreed.ensures.resumption c.agreed_by-agreed.ensures.leases ready refl lined c.speak_once.ensures.after c.speak_once.ensures.lease c.speak_once.ensures.parts in
    let same : answer_on asked on ≡ a = sym c.answer_on-answer.ensures in
    rw (c.note_call-2.ensures, c.in_default.ensures.told, c.in_default.ensures.count)
    (sound_more settings s new past (record { who = c.args.who; event = event.Asked asked; answer = a }) _ _ c.self.invariant
    (subst (λ (k : Answer). IsAfter settings s (event.Asked asked) k new) same after)
    (subst (λ (k : Answer). k ≡ answer_to settings past (event.Asked asked)) same (sent_answer settings s past asked on fits c.in_ok-on.ensures single.sends.may))
    (subst LeavesEntry same (sent_leaves asked on))
    (c.requires.askable, c.call_amounts_fit.ensures))
