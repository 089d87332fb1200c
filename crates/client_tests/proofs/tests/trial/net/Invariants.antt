use Rattle.std.specs.List.{All}
use Rattle.outside.specs.Links.{IsNew}
use Rattle.outside.specs.MemoryLink.{shown_of}
use Rattle.client_tests.proofs.tests.trial.net.Given as goal

abbrev pub invariant-loop-line : goal.invariant-loop-line
invariant-loop-line g l = All (λ k. IsNew (shown_of k)) l.links.items
