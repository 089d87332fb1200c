-- An empty tape that came back.
use Rattle.std.proofs.Common.{◌≡◌, ◌∙◌, ℕ, List, [], ◌∷◌, ◌++◌, length, Option, Some, None, IfSome, is_some, inr, refl, ap, arith}
use Rattle.rs_wire.specs.declared.settings.Settings.{Settings}
use Rattle.tape.specs.declared.entry.Entry.{Entry}
use Rattle.session_core.specs.Seen.{told_by}
use Rattle.session_model.specs.Legal.{Fair, Legal}
use Rattle.rsocket_call.specs.Ended.{GotSome}

pub no_entries : (told : Option (List Entry)) (count : ℕ) → IfSome told (λ entries. length entries ≡ count) → count ≡ 0 → told ≡ told_by (is_some told) []
no_entries None count counted none = refl
no_entries (Some []) count counted none = refl
no_entries (Some (x ∷ xs)) count counted none = absurd (omega (arith, counted, none))

nothing_legal : (g : Settings) → Legal g [] × Fair g []
unfolding Legal Fair
nothing_legal g = (tt, tt)

-- it is the tape of a session of which nothing happened
pub got_empty : (g : Settings) (fresh lent told : Option (List Entry)) (shelf mid shelf' : List (Option (List Entry))) → lent ≡ fresh → told ≡ told_by (is_some lent) [] → mid ≡ shelf → shelf' ≡ mid ++ told ∷ [] → GotSome g fresh shelf shelf'
got_empty g fresh lent told shelf mid shelf' new is same back = inr (
  [],
  record {
    put_back = back ∙ (ap (λ (l : List (Option (List Entry))). l ++ told ∷ []) same ∙ ap (λ (o : Option (List Entry)). shelf ++ o ∷ []) (is ∙ ap (λ (o : Option (List Entry)). told_by (is_some o) []) new));
    legal = (nothing_legal g).0;
    fair = (nothing_legal g).1;
  },
)
