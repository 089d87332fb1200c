use Rattle.std.proofs.Common.{◌≡◌, ◌∙◌, Some, ap, rules, sym}
use Rattle.command_line.specs.declared.task.Name.TheVariants as name
use Rattle.command_line.specs.Asked.{name_word}
use Rattle.command_line.proofs.First.{by_cable, by_call, by_frames, by_load, by_none, by_serve, call_is_named, serve_is_named}
use Rattle.command_line.proofs.task.read_texts.Goals as goal

pub returns-in_err-threads-in-Some-Cable-clause-usage : goal.returns-in_err-threads-in-Some-Cable-clause-usage
returns-in_err-threads-in-Some-Cable-clause-usage c = λ usage.
    let named : c.in-Some-Cable.field-0 ≡ name.Cable = search rules in
    by_cable _ (c.in-Some-Cable.ensures.is ∙ ap (λ n. Some (name_word n)) named) (c.in_err-threads-in-Some-Cable.ensures.usage (search rules))

pub returns-in_ok-threads-in-Some-Cable-clause-asked : goal.returns-in_ok-threads-in-Some-Cable-clause-asked
returns-in_ok-threads-in-Some-Cable-clause-asked c =
    let named : c.in-Some-Cable.field-0 ≡ name.Cable = search rules in (
      record {
        named = c.in-Some-Cable.ensures.is ∙ ap (λ n. Some (name_word n)) named;
        texts = c.requires;
        taken = c.in_ok-threads-in-Some-Cable.ensures.taken;
      },
      c.in_ok-threads-in-Some-Cable.ensures.flag,
    )

pub returns-in_err-back-in-Some-Frames-clause-usage : goal.returns-in_err-back-in-Some-Frames-clause-usage
returns-in_err-back-in-Some-Frames-clause-usage c = λ usage.
    let named : c.in-Some-Frames.field-0 ≡ name.Frames = search rules in
    by_frames _ (c.in-Some-Frames.ensures.is ∙ ap (λ n. Some (name_word n)) named) (c.in_err-back-in-Some-Frames.ensures.usage (search rules))

pub returns-in_err-task-in-Some-Call-clause-usage : goal.returns-in_err-task-in-Some-Call-clause-usage
returns-in_err-task-in-Some-Call-clause-usage c = λ usage.
    let named : c.in-Some-Call.field-0 ≡ name.Call = search rules in
    by_call _ (c.in-Some-Call.ensures.is ∙ ap (λ n. Some (name_word n)) named) (c.in_err-task-in-Some-Call.ensures.usage (search rules))

pub returns-in_ok-task-in-Some-Call-clause-asked : goal.returns-in_ok-task-in-Some-Call-clause-asked
returns-in_ok-task-in-Some-Call-clause-asked c =
    let named : c.in-Some-Call.field-0 ≡ name.Call = search rules in
    let first = c.in-Some-Call.ensures.is ∙ ap (λ n. Some (name_word n)) named in
    record {
      taken = record { named = first ∙ ap Some (sym call_is_named); texts = c.requires; taken = c.in_ok-task-in-Some-Call.ensures.taken };
      read = c.in_ok-task-in-Some-Call.ensures.read;
    }

pub returns-in_err-seed-in-Some-Load-clause-usage : goal.returns-in_err-seed-in-Some-Load-clause-usage
returns-in_err-seed-in-Some-Load-clause-usage c = λ usage.
    let named : c.in-Some-Load.field-0 ≡ name.Load = search rules in
    by_load _ (c.in-Some-Load.ensures.is ∙ ap (λ n. Some (name_word n)) named) (c.in_err-seed-in-Some-Load.ensures.usage (search rules))

pub returns-in_err-task-in-Some-Serve-clause-usage : goal.returns-in_err-task-in-Some-Serve-clause-usage
returns-in_err-task-in-Some-Serve-clause-usage c = λ usage.
    let named : c.in-Some-Serve.field-0 ≡ name.Serve = search rules in
    by_serve _ (c.in-Some-Serve.ensures.is ∙ ap (λ n. Some (name_word n)) named) (c.in_err-task-in-Some-Serve.ensures.usage (search rules))

pub returns-in_ok-task-in-Some-Serve-clause-asked : goal.returns-in_ok-task-in-Some-Serve-clause-asked
returns-in_ok-task-in-Some-Serve-clause-asked c =
    let named : c.in-Some-Serve.field-0 ≡ name.Serve = search rules in
    let first = c.in-Some-Serve.ensures.is ∙ ap (λ n. Some (name_word n)) named in
    record {
      taken = record { named = first ∙ ap Some (sym serve_is_named); texts = c.requires; taken = c.in_ok-task-in-Some-Serve.ensures.taken };
      read = c.in_ok-task-in-Some-Serve.ensures.read;
    }

pub returns-in-None-clause-usage : goal.returns-in-None-clause-usage
returns-in-None-clause-usage c = λ usage. by_none _ c.in-None.ensures.none
