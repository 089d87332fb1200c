-- What contracts see of the host's net and of its links.
use Rattle.std.specs.Prelude.{ℕ, None}
use Rattle.outside.specs.Links.{Counts, Shown}
use Rattle.host_net.specs.declared.link.HostLink.{HostLink}
use Rattle.host_net.specs.declared.link.HostLink.TheVariants as links

-- how many links are out, and how many calls failed
pub record HostState : Type 0 where
  pub out : ℕ
  pub faults : ℕ

-- what was counted on a link
abbrev pub counts_of : HostLink → Counts
counts_of (links.Tcp c) = c
counts_of (links.Served c) = c
counts_of (links.Asked c) = c

-- a link shows its counts alone
abbrev pub shown_of_host : HostLink → Shown
shown_of_host l = record { taken = None; given = None; counts = counts_of l }
