-- What a net was asked for.
use Rattle.std.specs.Prelude.{ℕ, List, Option, Result, Ok, Err}
use Rattle.outside.specs.Causes.{one_more}
use Rattle.outside.specs.Links.{and_then_one}
use Rattle.outside.specs.declared.net.Ask.{Ask}
use Rattle.outside.specs.declared.net.NetFault.{NetFault}
use Rattle.outside.specs.declared.net.NetFault.TheVariants as faults

-- what was asked once a call gave this answer: a call that runs out of memory is not in the list
abbrev pub asked_after : {X : Type 0} → Result X NetFault → Option (List Ask) → Ask → Option (List Ask)
asked_after (Ok x) asked ask = and_then_one asked ask
asked_after (Err faults.Failed) asked ask = and_then_one asked ask
asked_after (Err faults.OutOfMemory) asked ask = asked

-- the faults once a call gave this answer: one that runs out of memory is none
abbrev pub faults_after : {X : Type 0} → Result X NetFault → ℕ → ℕ
faults_after (Ok x) count = count
faults_after (Err faults.Failed) count = one_more count
faults_after (Err faults.OutOfMemory) count = count
