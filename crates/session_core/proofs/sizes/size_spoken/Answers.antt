use Rattle.std.proofs.Common.{◌||◌, true, false, refl, ap, subst, sym, arith}
use Rattle.fragment.specs.Splitting.{IsMtu}
use Rattle.rs_frame.specs.declared.frame.Frame.TheVariants as frame
use Rattle.stream_model.specs.Known.{is_open_response}
use Rattle.stream_model.specs.Arriving.{no_message}
use Rattle.session_model.specs.Frames.{request_frame, spoken}
use Rattle.session_core.proofs.Framed.{error_length, last_alone, sized, sized_alone}
use Rattle.session_core.proofs.sizes.size_spoken.Goals as goal

pub returns-in-Request-clause-value : goal.returns-in-Request-clause-value
returns-in-Request-clause-value c t id =
    let call = c.in-Request in
    let f = request_frame id call.kind call.initial call.message call.complete in
    sized c.args.settings.now.mtu c.mtu-mtu.result c.mtu-mtu.ensures.value f c.split_size.result (spoken t id c.args.call.now) (ap (spoken t id) call.is)
    (c.split_size.ensures.frames f refl refl (sym c.head.ensures.value)) (c.split_size.ensures.bytes f refl refl (sym c.head.ensures.value))

pub returns-in-Next-clause-value : goal.returns-in-Next-clause-value
returns-in-Next-clause-value c t id =
    let call = c.in-Next in
    let f = frame.Payload call.stream false (call.complete || is_open_response (t.kept call.stream)) true call.message in
    sized c.args.settings.now.mtu c.mtu-mtu.result c.mtu-mtu.ensures.value f c.split_size-in-Next.result (spoken t id c.args.call.now) (ap (spoken t id) call.is)
    (c.split_size-in-Next.ensures.frames f refl refl refl) (c.split_size-in-Next.ensures.bytes f refl refl refl)

pub returns-in-Grant-clause-value : goal.returns-in-Grant-clause-value
returns-in-Grant-clause-value c t id =
    sized_alone c.args.settings.now.mtu (frame.RequestN c.in-Grant.stream c.in-Grant.n) c.one-in-Grant.result _ (spoken t id c.args.call.now) (ap (spoken t id) c.in-Grant.is) refl c.one-in-Grant.ensures (omega (arith, c.from-in-Grant.ensures))

pub returns-in-Fail-clause-value : goal.returns-in-Fail-clause-value
returns-in-Fail-clause-value c t id =
    let call = c.in-Fail in
    sized_alone c.args.settings.now.mtu (frame.Error call.stream call.code call.content) c.one-in-Fail.result _ (spoken t id c.args.call.now) (ap (spoken t id) call.is) refl c.one-in-Fail.ensures
    (omega (arith, error_length call.stream call.code call.content, c.from-in-Fail.ensures, c.len.ensures.value))

pub returns-in-Done-clause-value : goal.returns-in-Done-clause-value
returns-in-Done-clause-value c t id =
    sized_alone c.args.settings.now.mtu (frame.Payload c.in-Done.stream false true false no_message) c.one.result _ (spoken t id c.args.call.now) (ap (spoken t id) c.in-Done.is)
    (last_alone c.in-Done.stream c.args.settings.now.mtu (subst IsMtu c.mtu-mtu.ensures.value c.mtu-mtu.ensures.limit)) c.one.ensures (omega (arith, c.from.ensures))

pub returns-in-Cancel-clause-value : goal.returns-in-Cancel-clause-value
returns-in-Cancel-clause-value c t id =
    sized_alone c.args.settings.now.mtu (frame.Cancel c.in-Cancel.stream) c.one-in-Cancel.result _ (spoken t id c.args.call.now) (ap (spoken t id) c.in-Cancel.is) refl c.one-in-Cancel.ensures (omega (arith, c.from-in-Cancel.ensures))
