use Rattle.std.proofs.Common.{◌∷◌, [], refl, subst, sym}
use Rattle.std.specs.List.{All}
use Rattle.std.proofs.lemmas.List.Elements.{All-push}
use Rattle.std.proofs.lemmas.Slice.{pushed}
use Rattle.outside.specs.Links.{IsNew}
use Rattle.outside.specs.MemoryLink.{shown_of}
use Rattle.client_tests.proofs.tests.trial.net.Goals as goal

pub loop-line-preserved : goal.loop-line-preserved
loop-line-preserved g c =
    let new = All-push (λ k. IsNew (shown_of k)) c.loop-line.links.items c.link.result c.loop-line.invariant c.link.ensures in
    subst (All (λ k. IsNew (shown_of k))) (sym (pushed (c.link.result ∷ []) refl c.expect.ensures c.push.ensures.items)) new
