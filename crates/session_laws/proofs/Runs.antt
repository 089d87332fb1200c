-- What goes out on a connection of what was made.
use Rattle.std.proofs.Common.{◌≡◌, Bool, true, false, List, ◌++◌, refl, ap, sym, subst, ◌∙◌, append_assoc}
use Rattle.std.proofs.lemmas.List.Elements.{filter-append}
use Rattle.rs_frame.specs.declared.frame.Frame.{Frame}
use Rattle.rs_frame.specs.Spelling.{is_resumable}
use Rattle.session_model.specs.Lists.{IsPrefix}
use Rattle.session_laws.proofs.Counting.{counting}
use Rattle.session_laws.proofs.Prefixes.{prefix_more, prefix_refl}

-- after a front of what was made, of position told or 0, these frames went out; where the connection is live they are all
pub record Runs (front sent made : List Frame) (here : Bool) : Type 0 where
  pub part : IsPrefix (front ++ counting sent) made
  pub whole : here ≡ true → front ++ counting sent ≡ made

pub runs_whole : (front sent made : List Frame) (here : Bool) → front ++ counting sent ≡ made → Runs front sent made here
runs_whole front sent made here all = record {
  part = subst (IsPrefix (front ++ counting sent)) all (prefix_refl (front ++ counting sent));
  whole = λ on. all;
}

-- what is made goes out
pub runs_on : (front sent made out new : List Frame) → Runs front sent made true → counting out ≡ new → Runs front (sent ++ out) (made ++ new) true
runs_on front sent made out new r is =
    runs_whole front (sent ++ out) (made ++ new) true
    (rw (filter-append is_resumable sent out, is) (sym (append_assoc front (counting sent) new) ∙ ap (λ l. l ++ new) (r.whole refl)))

-- more is made when the connection is not live any more
pub runs_off : (front sent made new : List Frame) (here : Bool) → Runs front sent made here → Runs front sent (made ++ new) false
runs_off front sent made new here r = record {
  part = prefix_more (front ++ counting sent) made new r.part;
  whole = λ on. absurd (cc);
}
