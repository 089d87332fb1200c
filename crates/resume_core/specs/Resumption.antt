-- When a session can be resumed (RSocket 1.0, "Resuming Operation"). Positions are in bytes.
use Rattle.std.specs.Prelude.{ℕ, ◌≡◌, ◌≤◌, Bool, not, ◌==◌, nat_lt, List, [], ◌∷◌, Option, IsTrue}
use Rattle.std.specs.Cmp.Lexicographic.{pointwise}
use Rattle.rs_wire.specs.Ranges.{first_true}
use Rattle.rs_wire.specs.declared.fault.Gone.{Gone}
use Rattle.rs_wire.specs.declared.fault.Gone.TheVariants.{Version, Token, ServerGone, Ahead, NotBoundary, ClientGone}
use Rattle.rs_frame.specs.declared.frame.Resume.{Resume}

-- what follows the position is held: frames are held from `first`, those made end at `end`, and a
-- held frame begins or ends at the position
pub record IsHeld (position first end : ℕ) (boundary : Bool) : Type 0 where
  pub from_first : first ≤ position
  pub to_end : position ≤ end
  pub at_boundary : IsTrue boundary

-- a RESUME with this token can be kept: this end holds what the client misses, and the client holds
-- what this end has not handled
pub record IsResumable (frame : Resume) (token : List ℕ) (first end : ℕ) (boundary : Bool) (handled : ℕ) : Type 0 where
  pub version : frame.major ≡ 1
  pub same_token : frame.token ≡ token
  pub server_holds : IsHeld frame.server_position first end boundary
  pub client_holds : frame.client_position ≤ handled

-- the first thing that is wrong with a RESUME
abbrev pub resume_fault : Resume → List ℕ → ℕ → ℕ → Bool → ℕ → Option Gone
resume_fault frame token first end boundary handled = first_true (
    (not (frame.major == 1), Version frame.major)
    ∷ (not (pointwise ◌==◌ frame.token token), Token)
    ∷ (nat_lt frame.server_position first, ServerGone first)
    ∷ (nat_lt end frame.server_position, Ahead end)
    ∷ (not boundary, NotBoundary)
    ∷ (nat_lt handled frame.client_position, ClientGone handled)
    ∷ [])

-- the first thing that is wrong with the position of a RESUME_OK
abbrev pub ok_fault : ℕ → ℕ → ℕ → Bool → Option Gone
ok_fault position first end boundary = first_true (
    (nat_lt position first, ClientGone first)
    ∷ (nat_lt end position, Ahead end)
    ∷ (not boundary, NotBoundary)
    ∷ [])
