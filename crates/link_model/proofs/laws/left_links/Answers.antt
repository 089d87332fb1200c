use Rattle.std.proofs.Common.{inl, inr}
use Rattle.link_model.proofs.laws.left_links.Goals as goal

pub returns : goal.returns
returns c = record {
  broken = λ g past link conn broken heard. inr (inr (inr (broken, heard)));
  full = λ g past link conn full. inl full;
}
