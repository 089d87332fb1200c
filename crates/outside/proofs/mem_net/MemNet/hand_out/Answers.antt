use Rattle.std.proofs.Common.{◌∷◌, arith, subst}
use Rattle.std.proofs.lemmas.List.Elements.{All-tail}
use Rattle.outside.specs.Links.{IsNew}
use Rattle.outside.specs.MemoryLink.{MemoryLink, shown_of}
use Rattle.outside.specs.MemoryNet.{AllNew}
use Rattle.outside.proofs.mem_net.MemNet.hand_out.Goals as goal

pub invariant_of-self-2 : goal.invariant_of-self-2
invariant_of-self-2 c =
    let all : AllNew (c.in-Some.link ∷ c.pop_front.new.self.items) = subst AllNew c.in-Some.ensures.items c.self.invariant.2 in
    (omega (arith, c.in_ok-reserve.ensures.ok), omega (arith, c.in-Some.ensures.len, c.self.invariant.1), All-tail (λ (l : MemoryLink). IsNew (shown_of l)) c.in-Some.link c.pop_front.new.self.items all)
