-- Links that are put back one after another.
use Rattle.std.proofs.Common.{◌≡◌, ◌+◌, ◌∙◌, List, [], ◌∷◌, ◌++◌, length, reverse, Option, Some, None, refl, sym, ap, append_assoc, length-append}
use Rattle.std.proofs.lemmas.List.{reverse-append}
use Rattle.std.specs.Option.{option_map}
use Rattle.outside.specs.Links.{Shown}
use Rattle.serve_threads.specs.declared.guest.Guest.{Guest}
use Rattle.serve_told.specs.Links.{link_in, links_of}

-- the last place is the first in reverse order
pub links_last : {L T : Type 0} (shown : L → Shown) (olds news : List (Guest L T)) (p : Guest L T) → olds ≡ news ++ p ∷ [] → links_of shown (reverse olds) ≡ link_in shown p.link ++ links_of shown (reverse news)
links_last {L = L} {T = T} shown olds news p is = ap (λ (l : List (Guest L T)). links_of shown (reverse l)) is ∙ ap (links_of shown) (reverse-append news (p ∷ []))

-- links were put back, and then some more
pub back_both : (o : Option (List Shown)) (xs ys zs : List Shown) → zs ≡ xs ++ ys
    → option_map (λ (was : List Shown). was ++ ys) (option_map (λ (was : List Shown). was ++ xs) o) ≡ option_map (λ (was : List Shown). was ++ zs) o
back_both None xs ys zs is = refl
back_both (Some was) xs ys zs is = ap Some (append_assoc was xs ys ∙ ap (λ (l : List Shown). was ++ l) (sym is))

pub long_both : (xs ys zs : List Shown) → zs ≡ xs ++ ys → length zs ≡ length xs + length ys
long_both xs ys zs is = ap length is ∙ length-append xs ys
