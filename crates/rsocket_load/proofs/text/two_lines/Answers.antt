use Rattle.std.proofs.Common.{length, ◌-◌, refl, ◌∙◌}
use Rattle.rsocket_load.proofs.Counts.{no_second, two_cut}
use Rattle.rsocket_load.proofs.text.two_lines.Goals as goal

pub returns-in_default-cut_line : goal.returns-in_default-cut_line
returns-in_default-cut_line c =
    λ one two after one_clean two_clean is.
    absurd (no_second c.args.text.now c.in-Some.field-0-0.now c.in-Some.rest.now one two after c.in-Some.ensures.line.0 c.in-Some.ensures.line.1
    c.in_default-cut_line.ensures.last one_clean is)

pub returns : goal.returns
returns c =
    λ one two after one_clean two_clean is.
    c.split_at.ensures.front ∙ two_cut c.args.text.now c.in-Some.field-0-0.now c.in-Some.rest.now c.in-Some-cut_line.field-0-0.now
    c.in-Some-cut_line.rest.now one two after (length c.args.text.now - length c.in-Some-cut_line.rest.now)
    c.in-Some.ensures.line.0 c.in-Some.ensures.line.1 c.in-Some-cut_line.ensures.line.0 c.in-Some-cut_line.ensures.line.1
    one_clean two_clean is refl
