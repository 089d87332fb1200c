use Rattle.std.specs.List.{All}
use Rattle.outside.specs.Links.{IsNew}
use Rattle.outside.specs.MemoryLink.{shown_of}
use Rattle.runs.proofs.wires.Wires.net.Given as goal

-- the links are new
abbrev pub invariant-loop-wire : goal.invariant-loop-wire
invariant-loop-wire l = All (λ k. IsNew (shown_of k)) l.links.items
