use Rattle.std.proofs.Common.{◌≡◌, ◌+◌, [], length, ap, sym, subst, ◌∙◌}
use Rattle.outbox.specs.Line.{own_in}
use Rattle.outbox.specs.Spans.{AreSpans, pieces}
use Rattle.outbox.proofs.Spanned.{shut}
use Rattle.outbox.proofs.Weaving.{own_in-nil}
use Rattle.outbox.proofs.spans.Spans.new.Goals as goal

pub invariant_of-result : goal.invariant_of-result
invariant_of-result c =
    let b = c.in_ok-new.field-0 in
    let none = c.new-2.ensures.items in
    record {
      each = subst (AreSpans b) (sym none) tt;
      own = sym (ap (λ ss. own_in (pieces b ss)) none ∙ own_in-nil);
      all = sym (ap (λ ss. length (pieces b ss)) none);
      reaches = shut;
    }
