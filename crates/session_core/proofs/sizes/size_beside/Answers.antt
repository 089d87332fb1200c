use Rattle.std.proofs.Common.{ap, arith}
use Rattle.rs_frame.specs.declared.frame.Frame.TheVariants as frame
use Rattle.session_core.specs.Outgoing.{frame_beside}
use Rattle.session_core.proofs.Framed.{lease_length, sized_one}
use Rattle.session_core.proofs.sizes.size_beside.Goals as goal

pub returns-in-Push-clause-value : goal.returns-in-Push-clause-value
returns-in-Push-clause-value c =
    sized_one (frame.MetadataPush c.in-Push.metadata) c.one.result _ (frame_beside c.args.call.now) (ap frame_beside c.in-Push.is) c.one.ensures (omega (arith, c.from.ensures, c.len.ensures.value))

pub returns-in-Lease-clause-value : goal.returns-in-Lease-clause-value
returns-in-Lease-clause-value c =
    let call = c.in-Lease in
    sized_one (frame.Lease call.ttl call.count call.metadata) c.one-in-Lease.result _ (frame_beside c.args.call.now) (ap frame_beside call.is) c.one-in-Lease.ensures
    (omega (arith, lease_length call.ttl call.count call.metadata, c.from-in-Lease.ensures, c.option_len.ensures.value))
