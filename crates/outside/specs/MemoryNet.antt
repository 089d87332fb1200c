-- What a net in memory shows.
use Rattle.std.specs.Prelude.{ℕ, Bool, List, [], All, Result, Ok, Err}
use Rattle.outside.specs.Causes.{one_more}
use Rattle.outside.specs.Links.{IsNew}
use Rattle.outside.specs.Memory.{is_to_fail}
use Rattle.outside.specs.MemoryLink.{MemoryLink, shown_of}
use Rattle.outside.specs.declared.net.Ask.{Ask}
use Rattle.outside.specs.declared.net.NetFault.{NetFault}
use Rattle.outside.specs.declared.net.NetFault.TheVariants as faults

-- the links to be handed out, what was asked, the links put back, how many are out, how many calls
-- came, how many of them failed, and the numbers of those that are to fail
pub record MemoryNet : Type 0 where
  pub links : List MemoryLink
  pub asked : List Ask
  pub back : List MemoryLink
  pub out : ℕ
  pub calls : ℕ
  pub faults : ℕ
  pub fails : List ℕ

-- whether the next call is to fail
abbrev pub net_fails_next : MemoryNet → Bool
net_fails_next n = is_to_fail n.fails (one_more n.calls)

-- how many calls came once one gave this answer: one that runs out of memory does not count
abbrev pub calls_after : {X : Type 0} → Result X NetFault → ℕ → ℕ
calls_after (Ok x) calls = one_more calls
calls_after (Err faults.Failed) calls = one_more calls
calls_after (Err faults.OutOfMemory) calls = calls

-- no link was used yet
abbrev pub AllNew : List MemoryLink → Type 0
AllNew links = All (λ l. IsNew (shown_of l)) links

-- a net with these links
abbrev pub net_of : List MemoryLink → List ℕ → MemoryNet
net_of links fails = record { links = links; asked = []; back = []; out = 0; calls = 0; faults = 0; fails = fails }
