-- What threads get and hand back. Entries stand newest first.
use Rattle.std.proofs.Common.{◌≡◌, ◌∙◌, List, [], ◌∷◌, ◌++◌, Option, sym, subst, append_assoc}
use Rattle.rtrb.specs.Ends.{SameRing}
use Rattle.rtrb.specs.declared.end.End.{End}
use Rattle.conn_shared.specs.Members.{Knowledge}
use Rattle.link_model.specs.Carrying.{Between}
use Rattle.cable_script.specs.declared.line.Line.{Line}
use Rattle.cable_script.specs.declared.line.Line.TheVariants as line
use Rattle.ring.specs.declared.item.Item.{Item}
use Rattle.threaded_client.specs.Carrying.{IsCarrying as IsCarryingNear}
use Rattle.threaded_server.specs.declared.knows.Knows.{Knows}
use Rattle.threaded_server.specs.Carrying.{IsCarrying}
use Rattle.threaded.specs.Threads.{NearFollows}

-- a carrier of the server of which nothing happened yet
pub far_begun : (k k' : Knowledge) (kn : Knows) (s r : List Item) → k' ≡ k → s ≡ [] → r ≡ [] → IsCarrying k [] kn [] [] → IsCarrying k' [] kn s r
far_begun k k' kn s r same none nil h = subst (λ (x : Knowledge). IsCarrying x [] kn s r) (sym same) (subst (λ (l : List Item). IsCarrying k [] kn l r) (sym none) (subst (λ (l : List Item). IsCarrying k [] kn [] l) (sym nil) h))

-- an opening, and then the lines
pub near_follows : (lines : List Line) (was mid now : Knowledge) (p q o : Option Between) (s t u r v w : List Item) → ((done : List Line) → IsCarryingNear was done p s r → IsCarryingNear mid (done ++ line.Open ∷ []) q t v) → NearFollows lines mid now q o t u v w → NearFollows (line.Open ∷ lines) was now p o s u r w
near_follows lines was mid now p q o s t u r v w opened h = λ before k. subst (λ (l : List Line). IsCarryingNear now l o u w) (append_assoc before (line.Open ∷ []) lines) (h (before ++ line.Open ∷ []) (opened before k))

module _ {T A P : Type 0} where
  pub ring_on : (a b c : End T A P) → SameRing a b → SameRing b c → SameRing a c
  ring_on a b c h k = (k.0 ∙ h.0, k.1 ∙ h.1, k.2 ∙ h.2, k.3 ∙ h.3)

  -- the two ends of a ring, later on
  pub ring_both : (a b c d : End T A P) → SameRing a b → SameRing a c → SameRing b d → SameRing c d
  ring_both a b c d h k m = (m.0 ∙ (h.0 ∙ sym k.0), m.1 ∙ (h.1 ∙ sym k.1), m.2 ∙ (h.2 ∙ sym k.2), m.3 ∙ (h.3 ∙ sym k.3))
