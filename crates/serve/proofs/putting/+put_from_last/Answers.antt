use Rattle.std.proofs.Common.{rules, ◌≡◌, ◌+◌, ◌∙◌, ◌++◌, ◌∷◌, [], List, reverse, ap}
use Rattle.std.specs.Option.{option_map}
use Rattle.outside.specs.Links.{Shown}
use Rattle.serve_told.specs.Links.{link_in, links_of}
use Rattle.serve.proofs.PutBack.{back_both, links_last}
use Rattle.serve.proofs.putting.+put_from_last.Goals as goal

pub returns-in-Some-clause-back : goal.returns-in-Some-clause-back
returns-in-Some-clause-back g t c =
    let shown = g.N.Link.Link.shown in
    let p = c.in-Some.guest in
    let olds = c.args.guests.now.items in
    let news = c.pop.new.self.items in
    let is : olds ≡ news ++ p ∷ [] = search rules in
    c.put_from_last.ensures.back
    ∙ (ap (option_map (λ (was : List Shown). was ++ links_of shown (reverse news))) c.put_link.ensures.back
    ∙ back_both (g.N.Net.back c.args.net.now) (link_in shown p.link) (links_of shown (reverse news)) (links_of shown (reverse olds)) (links_last shown olds news p is))
