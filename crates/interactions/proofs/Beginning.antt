-- What is kept of a stream after its request.
use Rattle.std.proofs.Common.{◌≡◌, ℕ, Bool, Option, Some, None, refl, ap}
use Rattle.rs_wire.specs.declared.words.Kind.{Kind}
use Rattle.rs_wire.specs.declared.words.Role.{Role}
use Rattle.rs_wire.specs.declared.message.Message.{Message}
use Rattle.stream_model.specs.Marks.{Opening}
use Rattle.stream_model.specs.Kept.{requested}
use Rattle.interactions.specs.Next.{completes}

no_whole : (w : Option (Message × Bool)) → completes w ≡ None → w ≡ None
no_whole None h = refl
no_whole (Some m) h = absurd (cc)

some_whole : (w : Option (Message × Bool)) (complete : Bool) → completes w ≡ Some complete → (m : Message) × (w ≡ Some (m, complete))
some_whole None complete h = absurd (cc)
some_whole (Some m) complete h = let e : m.1 ≡ complete = cc in (m.0, ap (λ c. Some (m.0, c)) e)

same_opening : (role role' : Role) (kind kind' : Kind) (initial initial' : ℕ) (whole whole' : Option (Message × Bool)) → role' ≡ role → kind' ≡ kind → initial' ≡ initial → whole' ≡ whole
    → ◌≡◌ {A = Opening} (record { role = role; kind = kind; initial = initial; whole = whole }) (record { role = role'; kind = kind'; initial = initial'; whole = whole' })
same_opening role role' kind kind' initial initial' whole whole' r k i w = cc

-- where fragments follow
pub begun_part : (o : Opening) (role : Role) (kind : Kind) (initial : ℕ) → o.role ≡ role → o.kind ≡ kind → o.initial ≡ initial → completes o.whole ≡ None
    → requested (record { role = role; kind = kind; initial = initial; whole = None }) ≡ requested o
begun_part o role kind initial r k i c = ap requested (same_opening role o.role kind o.kind initial o.initial None o.whole r k i (no_whole o.whole c))

-- where the message is whole
pub begun_whole : (o : Opening) (role : Role) (kind : Kind) (initial : ℕ) (complete : Bool) → o.role ≡ role → o.kind ≡ kind → o.initial ≡ initial → completes o.whole ≡ Some complete
    → (m : Message) × (requested (record { role = role; kind = kind; initial = initial; whole = Some (m, complete) }) ≡ requested o)
begun_whole o role kind initial complete r k i c =
    let w = some_whole o.whole complete c in
    (w.0, ap requested (same_opening role o.role kind o.kind initial o.initial (Some (w.0, complete)) o.whole r k i w.1))
