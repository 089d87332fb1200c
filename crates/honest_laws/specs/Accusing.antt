-- Answers that accuse the peer.
use Rattle.std.specs.Prelude.{◌≡◌, Bool, true, false, List}
use Rattle.std.specs.List.{AllByRecursion}
use Rattle.rs_wire.specs.declared.fault.Rule.{Rule}
use Rattle.rs_wire.specs.declared.fault.Rule.TheVariants as rule
use Rattle.tape.specs.declared.answer.Answer.{Answer}
use Rattle.tape.specs.declared.answer.Answer.TheVariants as answer
use Rattle.tape.specs.declared.entry.Entry.{Entry}

-- a rule that depends on no limit of either end, so that no peer breaks it that keeps to the definitions
abbrev pub depends_on_no_limit : Rule → Bool
depends_on_no_limit (rule.UnknownType number) = true
depends_on_no_limit rule.NotNow = true
depends_on_no_limit (rule.StreamId stream) = true
depends_on_no_limit (rule.OverCredit granted) = true
depends_on_no_limit (rule.Ahead made) = true
depends_on_no_limit _ = false

-- an answer that says that the peer broke such a rule
abbrev pub accuses : Answer → Bool
accuses (answer.Violation rule) = depends_on_no_limit rule
accuses _ = false

-- no entry has such an answer
abbrev pub AccusesNobody : List Entry → Type 0
AccusesNobody entries = AllByRecursion (λ (x : Entry). accuses x.answer ≡ false) entries
