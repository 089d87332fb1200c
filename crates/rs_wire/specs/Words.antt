-- The words by which a peer learns why: the content of the ERROR frames of a session.
use Rattle.std.specs.Prelude.{ℕ, List, codes}
use Rattle.rs_wire.specs.declared.fault.Rule.{Rule}
use Rattle.rs_wire.specs.declared.fault.Rule.TheVariants as rule
use Rattle.rs_wire.specs.declared.fault.SetupFault.{SetupFault}
use Rattle.rs_wire.specs.declared.fault.SetupFault.TheVariants as fault
use Rattle.rs_wire.specs.declared.fault.Gone.{Gone}
use Rattle.rs_wire.specs.declared.fault.Gone.TheVariants as gone

-- the word of a rule of the protocol
abbrev pub rule_word : Rule → List ℕ
rule_word (rule.UnknownType number) = codes "unknown-type"
rule_word rule.NotNow = codes "not-now"
rule_word (rule.StreamId stream) = codes "stream-id"
rule_word (rule.OverCredit granted) = codes "over-credit"
rule_word (rule.TooLarge size) = codes "too-large"
rule_word (rule.Ahead position) = codes "ahead"
rule_word rule.PositionSpent = codes "position-spent"
rule_word (rule.BadFrame number) = codes "bad-frame"

-- the word of what is wrong with a first frame
abbrev pub setup_word : SetupFault → List ℕ
setup_word fault.NotFirst = codes "not-first"
setup_word (fault.BadVersion major minor) = codes "bad-version"
setup_word fault.NoResume = codes "no-resume"
setup_word fault.NoLease = codes "no-lease"
setup_word fault.TokenTaken = codes "token-taken"

-- the word of why a session cannot be resumed
abbrev pub gone_word : Gone → List ℕ
gone_word (gone.Version major) = codes "version"
gone_word gone.Token = codes "token"
gone_word (gone.ServerGone position) = codes "server-gone"
gone_word (gone.Ahead position) = codes "ahead"
gone_word gone.NotBoundary = codes "not-boundary"
gone_word (gone.ClientGone position) = codes "client-gone"
