-- What the parts of a turn come to.
use Rattle.std.specs.Prelude.{◌≡◌, ◌<◌, ◌⊎◌, ℕ, Bool, true, false, Option, Some, None}
use Rattle.conn_shared.specs.declared.looked.Looked.{Looked}
use Rattle.pump.specs.declared.bringing.Brought.{Brought}
use Rattle.pump.specs.declared.bringing.Brought.TheVariants as brings
use Rattle.pump.specs.declared.outgoing.Gave.{Gave}
use Rattle.pump.specs.declared.outgoing.Gave.TheVariants as gaves
use Rattle.pump.specs.declared.incoming.Took.{Took}
use Rattle.pump.specs.declared.incoming.Took.TheVariants as tooks
use Rattle.pump.specs.declared.turned.Turned.{Turned}
use Rattle.pump.specs.declared.turned.Turned.TheVariants as turned
use Rattle.pump.specs.Moves.{given_in, taken_in}
use Rattle.pump.specs.Turns.{is_done, is_over}

abbrev pub SomeMoved : ℕ → ℕ → Brought → Type 0
SomeMoved given taken heard = (0 < given) ⊎ (0 < taken) ⊎ (heard ≡ brings.Noted)

-- what the parts of a turn come to
abbrev pub SumsUp : Gave → Took → Brought → Looked → ℕ → Turned → Type 0
SumsUp gave took heard looked left (turned.Moved given taken) = (given ≡ given_in gave) × (taken ≡ taken_in took) × SomeMoved given taken heard
SumsUp gave took heard looked left (turned.Busy q) = heard ≡ brings.Busy q
SumsUp gave took heard looked left (turned.Over cause) = (looked.cause ≡ Some cause) × (looked.queued ≡ 0) × (left ≡ 0)
SumsUp gave took heard looked left (turned.Displaced n) = heard ≡ brings.Displaced n
SumsUp gave took heard looked left turned.Lull = (given_in gave ≡ 0) × (taken_in took ≡ 0) × (heard ≡ brings.Nothing)
SumsUp gave took heard looked left turned.End = took ≡ tooks.End
SumsUp gave took heard looked left turned.LinkFault = (took ≡ tooks.Failed) ⊎ (gave ≡ gaves.Failed)
SumsUp gave took heard looked left (turned.Dead last) = heard ≡ brings.Dead last
SumsUp gave took heard looked left turned.TapeFull = heard ≡ brings.TapeFull
SumsUp gave took heard looked left turned.OutOfMemory = Unit {0}

-- neither way has failed or ended
abbrev pub is_fine : Gave → Took → Bool
is_fine gave tooks.End = false
is_fine gave tooks.Failed = false
is_fine gave tooks.OutOfMemory = false
is_fine gaves.Failed took = false
is_fine gave took = true

-- what a way that failed or ended makes of a turn
abbrev pub BreaksFor : Gave → Took → Option Turned → Type 0
BreaksFor gave took None = is_fine gave took ≡ true
BreaksFor gave took (Some turned.End) = took ≡ tooks.End
BreaksFor gave took (Some turned.LinkFault) = (took ≡ tooks.Failed) ⊎ (gave ≡ gaves.Failed)
BreaksFor gave took (Some turned.OutOfMemory) = took ≡ tooks.OutOfMemory
BreaksFor gave took (Some _) = ⊥

abbrev pub OverFor : Looked → ℕ → Option Turned → Type 0
OverFor looked left None = is_over looked.cause looked.queued left ≡ false
OverFor looked left (Some (turned.Over cause)) = (looked.cause ≡ Some cause) × (looked.queued ≡ 0) × (left ≡ 0)
OverFor looked left (Some _) = ⊥

-- what a result that lets the pump go on rules out
abbrev pub RulesOutOf : Looked → ℕ → Brought → Turned → Type 0
RulesOutOf looked left heard (turned.Moved given taken) = (is_over looked.cause looked.queued left ≡ false) × (is_done heard ≡ true)
RulesOutOf looked left heard (turned.Busy q) = is_over looked.cause looked.queued left ≡ false
RulesOutOf looked left heard turned.Lull = (is_over looked.cause looked.queued left ≡ false) × (is_done heard ≡ true)
RulesOutOf looked left heard _ = Unit {0}
