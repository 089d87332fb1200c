use Rattle.fragment.proofs.Joins.{split_joined, joined-push, split_glued}
use Rattle.fragment.proofs.Splits.{split_fits, split_cut, all_spellable, all_on_stream, all_short, each_full}
use Rattle.fragment.proofs.laws.fragment_laws.Goals as goal

pub returns : goal.returns
returns c = record {
  fits = split_fits;
  cut = λ f mtu whole least longer. split_cut f mtu (record { whole = whole; least = least; longer = longer });
  spellable = all_spellable;
  stream = all_on_stream;
  short = all_short;
  full = each_full;
  message = λ f mtu whole limit. (split_joined f mtu whole limit).message;
  complete = λ f mtu whole limit. (split_joined f mtu whole limit).complete;
  next = λ f mtu whole limit. (split_joined f mtu whole limit).next;
  glued = split_glued;
  grows = joined-push;
}
