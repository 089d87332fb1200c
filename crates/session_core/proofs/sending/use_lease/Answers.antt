use Rattle.std.proofs.Common.{Bool, subst}
use Rattle.rs_wire.specs.declared.call.Call.{Call}
use Rattle.session_core.specs.Leasing.{LetsStart, MayStart}
use Rattle.session_core.specs.Sending.{answer_on}
use Rattle.session_core.proofs.sending.use_lease.Goals as goal

pub use_one-requires : goal.use_one-requires
use_one-requires c =
    subst (λ (b : Bool). MayStart b c.args.lease.now) c.if-agreed.true
    (subst (λ (k : Call). LetsStart c.args.agreed (answer_on k 0) c.args.lease.now) c.in-Request.is (c.requires 0))
