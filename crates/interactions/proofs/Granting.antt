-- What was granted leaves room for more, while the marks are few.
use Rattle.std.proofs.Common.{◌≡◌, ◌≤◌, ◌<◌, ◌^◌, ◌*◌, ℕ, Bool, true, false, cond, List, Option, Some, None, length, refl, arith}
use Rattle.rs_wire.specs.declared.words.Way.{Way}
use Rattle.rs_wire.specs.declared.words.Way.TheVariants as way
use Rattle.credit.specs.declared.Credit.{Credit}
use Rattle.stream_model.specs.Marks.{Mark}
use Rattle.stream_model.specs.Turns.{Turn, granted, needs_credit}
use Rattle.stream_model.specs.Streams.{turn}
use Rattle.stream_model.specs.Kept.{kept, stream_of}
use Rattle.stream_model.specs.Known.{known}
use Rattle.stream_model.specs.Arriving.{MayGrant}
use Rattle.stream_model.specs.Turns.{is_over}
use Rattle.stream_model.specs.Fair.{Fair}
use Rattle.stream_model.proofs.Granted.{grants_few}

credit_within : (needs : Bool) (n used : ℕ) → n < 2 ^ 100 → (cond {A = Credit} needs (record { granted = n; used = used }) (record { granted = 0; used = 0 })).granted < 2 ^ 100
credit_within true n used h = h
credit_within false n used h = omega arith

kept_within : (t : Option Turn) → ((u : Turn) (w : Way) → t ≡ Some u → granted u.opening u.words w < 2 ^ 100) → MayGrant (kept t)
unfolding stream_of
kept_within None h = tt
kept_within (Some u) h =
    elim (is_over u) as (λ v. MayGrant (cond v None (Some (stream_of u.opening u.words)))) [
      | true ↦ tt
      | false ↦ (credit_within (needs_credit u.opening.kind) (granted u.opening u.words way.Request) _ (h u way.Request refl), credit_within (needs_credit u.opening.kind) (granted u.opening u.words way.Reply) _ (h u way.Reply refl))
    ]

pub may_grant : (most : ℕ) (seen : List Mark) (s : ℕ) → Fair most seen → length seen < 2 ^ 63 → MayGrant ((known most seen).kept s)
unfolding known
may_grant most seen s fair few = kept_within (turn most seen s) (λ u w is. let g : granted u.opening u.words w ≤ 2 ^ 31 * length seen = grants_few most seen fair s u w is in omega arith)
