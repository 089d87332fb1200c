use Rattle.std.proofs.Common.{◌≡◌, ◌∙◌, [], Err, ap, map, subst}
use Rattle.std.specs.Prelude.{IfOk, OnOk}
use Rattle.clap.specs.Words.{fault_of, found_of, is_simple_and_free, matches_of, rows_of}
use Rattle.command_line.specs.declared.fault.WordsFault.TheVariants as fault
use Rattle.command_line.proofs.parse.parse.Goals as goal

pub parse_by-requires : goal.parse_by-requires
parse_by-requires c = ap is_simple_and_free c.in_ok-command.ensures ∙ c.requires

pub returns-clause-taken : goal.returns-clause-taken
returns-clause-taken c = subst (λ app. OnOk c.parse_by.result (fault_of app (map (λ w. w.now) c.args.words.now) ≡ [])) c.in_ok-command.ensures c.parse_by.ensures.taken

pub returns-clause-matches : goal.returns-clause-matches
returns-clause-matches c = subst (λ app. IfOk c.parse_by.result (λ m. rows_of (found_of m) ≡ matches_of app (map (λ w. w.now) c.args.words.now))) c.in_ok-command.ensures c.parse_by.ensures.matches

pub returns-clause-usage : goal.returns-clause-usage
returns-clause-usage c = subst (λ app. c.parse_by.result ≡ Err fault.Usage → ¬ (fault_of app (map (λ w. w.now) c.args.words.now) ≡ [])) c.in_ok-command.ensures c.parse_by.ensures.usage
