use Rattle.std.proofs.Common.{Bool, [], ◌∷◌, if◌then◌else◌, ap, replicate, ◌∙◌}
use Rattle.rs_wire.specs.declared.call.Call.{Call}
use Rattle.threaded_model.specs.Threaded.{an_item, calls_in}
use Rattle.threaded_asker.proofs.Asked.{asked_nothing, asked_silent}
use Rattle.threaded_asker.proofs.asking.ask_line.Goals as goal

pub returns-then-not-is_at-clause-asked : goal.returns-then-not-is_at-clause-asked
returns-then-not-is_at-clause-asked g c =
    let calls = c.in-Ask.call ∷ [] in
    asked_nothing c.args.caller.now _ (ap (calls_in c.args.end) c.in-Ask.is ∙ (c.is_at.ensures calls ∙ ap (λ (b : Bool). if b then calls else []) c.if-not-is_at.true))

pub returns-then-not-is_at-2-clause-asked : goal.returns-then-not-is_at-2-clause-asked
returns-then-not-is_at-2-clause-asked g c =
    let calls = replicate c.in-Many.count (an_item c.in-Many.stream c.in-Many.size) in
    asked_nothing c.args.caller.now _ (ap (calls_in c.args.end) c.in-Many.is ∙ (c.is_at-in-Many.ensures calls ∙ ap (λ (b : Bool). if b then calls else []) c.if-not-is_at-2.true))

pub returns-in-Up-clause-asked : goal.returns-in-Up-clause-asked
returns-in-Up-clause-asked g c = asked_silent c.args.caller.now c.args.end c.args.line.now c.in-Up.is

pub returns-in-Up-2-clause-asked : goal.returns-in-Up-2-clause-asked
returns-in-Up-2-clause-asked g c = asked_silent c.args.caller.now c.args.end c.args.line.now c.in-Up.is

pub returns-in-Up-3-clause-asked : goal.returns-in-Up-3-clause-asked
returns-in-Up-3-clause-asked g c = asked_silent c.args.caller.now c.args.end c.args.line.now c.in-Up.is

pub returns-in-Up-4-clause-asked : goal.returns-in-Up-4-clause-asked
returns-in-Up-4-clause-asked g c = asked_silent c.args.caller.now c.args.end c.args.line.now c.in-Up.is

pub returns-in-Up-5-clause-asked : goal.returns-in-Up-5-clause-asked
returns-in-Up-5-clause-asked g c = asked_silent c.args.caller.now c.args.end c.args.line.now c.in-Up.is

pub returns-in-Up-6-clause-asked : goal.returns-in-Up-6-clause-asked
returns-in-Up-6-clause-asked g c = asked_silent c.args.caller.now c.args.end c.args.line.now c.in-Up.is

pub returns-in-Up-7-clause-asked : goal.returns-in-Up-7-clause-asked
returns-in-Up-7-clause-asked g c = asked_silent c.args.caller.now c.args.end c.args.line.now c.in-Up.is

pub returns-in-Up-8-clause-asked : goal.returns-in-Up-8-clause-asked
returns-in-Up-8-clause-asked g c = asked_silent c.args.caller.now c.args.end c.args.line.now c.in-Up.is
