-- The routes that were added, in order.
use Rattle.std.specs.Prelude.{◌≡◌, ℕ, ◌&&◌, Bool, true, false, List, Option, position, bytes_eq}
use Rattle.rs_wire.specs.declared.words.Kind.{Kind}
use Rattle.rs_wire.specs.declared.words.Kind.TheVariants as kinds
use Rattle.handlers.specs.declared.law.Law.{Law}

-- a route: the name and the kind of the requests that it answers, and the law of its handler
pub record Listed : Type 0 where
  pub name : List ℕ
  pub kind : Kind
  pub law : Law

-- the route answers the requests of this name and kind
abbrev pub IsFor : List ℕ → Kind → Listed → Type 0
IsFor name kind route = (route.name ≡ name) × (route.kind ≡ kind)

-- the same as a test
abbrev pub is_same_kind : Kind → Kind → Bool
is_same_kind kinds.Response kinds.Response = true
is_same_kind kinds.Fnf kinds.Fnf = true
is_same_kind kinds.Stream kinds.Stream = true
is_same_kind kinds.Channel kinds.Channel = true
is_same_kind _ _ = false

abbrev pub is_for : List ℕ → Kind → Listed → Bool
is_for name kind route = bytes_eq route.name name && is_same_kind route.kind kind

-- the number of the first route of this name and kind, which is its place, or none where there is none
abbrev pub place : List Listed → List ℕ → Kind → Option ℕ
place routes name kind = position (is_for name kind) routes
