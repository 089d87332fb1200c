-- How what the carriers keep goes on. Entries stand newest first.
use Rattle.std.proofs.Common.{◌≡◌, ◌<◌, ℕ, List, Option, ap, sym, subst}
use Rattle.rs_wire.specs.declared.settings.Settings.{Settings}
use Rattle.conn_lock.specs.Callers.{times}
use Rattle.conn_shared.specs.Members.{Follows, Knowledge}
use Rattle.link_model.specs.Carrying.{Between}
use Rattle.pump.proofs.Adding.{IsOn}
use Rattle.ring.specs.declared.item.Item.{Item}
use Rattle.threaded_client.proofs.Carrying.{client_joined}
use Rattle.threaded_server.specs.declared.knows.Knows.{Knows}
use Rattle.threaded_server.specs.Carrying.{KeepsOn}
use Rattle.threaded_drain.specs.Ending.{FarEnds, IsClosedBy, NearEnds, NearGoes}
use Rattle.threaded_drain.specs.Resting.{IsAtRest}

named_back : (me me' : Knowledge) → IsOn me me' → 0 < times me'.number me'.names → 0 < times me.number me.names
named_back me me' on named =
    let number : me'.number ≡ me.number = ap (λ (x : Knowledge). x.number) on in
    let names : me'.names ≡ me.names = ap (λ (x : Knowledge). x.names) on in
    subst (λ (n : ℕ). 0 < times n me.names) number (subst (λ (ns : List ℕ). 0 < times me'.number ns) names named)

-- the client was looked at
pub near_looks : (me me' : Knowledge) (p : Option Between) (s r : List Item) → IsOn me me' → Follows me.names me.front me'.front → NearGoes me me' p p s s r r
near_looks me me' p s r on follows = λ lines k o.
    client_joined me me' lines p s r (ap (λ (x : Knowledge). x.of) on) (ap (λ (x : Knowledge). x.number) on) (named_back me me' on o.named) follows k o

pub near_both : (me mid now : Knowledge) (p q o : Option Between) (s t u r v w : List Item) → NearGoes me mid p q s t r v → NearGoes mid now q o t u v w → NearGoes me now p o s u r w
near_both me mid now p q o s t u r v w h k = λ lines before. k lines (h lines before)

pub far_both : (me mid now : Knowledge) (p q o : Knows) (s t u r v w : List Item) → KeepsOn 0 0 me mid p q s t r v → KeepsOn 0 0 mid now q o t u v w → KeepsOn 0 0 me now p o s u r w
far_both me mid now p q o s t u r v w h k = λ lines before. k lines (h lines before)

-- both ends say that the script is over
pub near_ends : (was mid now : Knowledge) (p q o : Option Between) (s t u r v w : List Item) → now ≡ mid → o ≡ q → NearGoes was mid p q s t r v → IsClosedBy t u → IsClosedBy v w → NearEnds was now p o s u r w
near_ends was mid now p q o s t u r v w same also h up down = record {
  sent = t;
  received = v;
  goes = subst (λ (k : Knowledge). NearGoes was k p o s t r v) (sym same) (subst (λ (b : Option Between). NearGoes was mid p b s t r v) (sym also) h);
  sent_all = up;
  received_all = down;
}

pub far_ends : (was mid now : Knowledge) (p q o : Knows) (s t u r v w : List Item) → now ≡ mid → o ≡ q → KeepsOn 0 0 was mid p q s t r v → IsClosedBy t u → IsClosedBy v w → FarEnds was now p o s u r w
far_ends was mid now p q o s t u r v w same also h up down = record {
  sent = t;
  received = v;
  goes = subst (λ (k : Knowledge). KeepsOn 0 0 was k p o s t r v) (sym same) (subst (λ (b : Knows). KeepsOn 0 0 was mid p b s t r v) (sym also) h);
  sent_all = up;
  received_all = down;
}

pub rests_as : (g h : Settings) (near near' far far' : Knowledge) (p p' : Option Between) (k k' : Knows) → near' ≡ near → far' ≡ far → p' ≡ p → k' ≡ k → IsAtRest g h near.front far.front p k → IsAtRest g h near'.front far'.front p' k'
rests_as g h near near' far far' p p' k k' a b c d rest =
    subst (λ (x : Knowledge). IsAtRest g h x.front far'.front p' k') (sym a) (subst (λ (x : Knowledge). IsAtRest g h near.front x.front p' k') (sym b)
    (subst (λ (x : Option Between). IsAtRest g h near.front far.front x k') (sym c) (subst (λ (x : Knows). IsAtRest g h near.front far.front p x) (sym d) rest)))
