-- Turns of a pump, one after the other.
use Rattle.std.specs.Prelude.{◌≡◌, ◌<◌, ◌≤◌, ◌^◌, ◌+◌, ◌-◌, ◌⊎◌, ℕ, max, true, false, List, [], ◌∷◌, Option}
use Rattle.rs_wire.specs.declared.settings.Settings.{Settings}
use Rattle.outside.specs.Links.{Shown}
use Rattle.tape.specs.declared.entry.Entry.{Entry}
use Rattle.conn_shared.specs.Members.{Knowledge}
use Rattle.link_model.specs.Carrying.{Between}
use Rattle.pump.specs.declared.turned.Turned.{Turned}
use Rattle.pump.specs.declared.turned.Turned.TheVariants as turned
use Rattle.pump.specs.Turns.{IsTurned, RulesOut, TurnedFor, is_last}

abbrev pub lulls_in : Turned → ℕ
lulls_in turned.Lull = 1
lulls_in _ = 0

-- the count of lulls rose by so many, or stands where a u64 ends
abbrev pub HasLulled : ℕ → ℕ → ℕ → Type 0
HasLulled old n new = (old + n ≤ new) ⊎ (2 ^ 64 - 1 ≤ new)

-- why turns came to an end so, where this many lulls end them
abbrev pub RanFor : Settings → Option (List ℕ) → ℕ → Knowledge → List Entry → Shown → Shown → Between → Turned → Type 0
RanFor g moments lulls me new s t b turned.Lull = HasLulled s.counts.lulls lulls t.counts.lulls
RanFor g moments lulls me new s t b (turned.Moved given taken) = ⊥
RanFor g moments lulls me new s t b (turned.Busy q) = ⊥
RanFor g moments lulls me new s t b r = TurnedFor g moments me new s t b r

-- ---- turn by turn

-- where a pump is: what its caller knows, what its link shows, and what stands between the two
pub record Place : Type 0 where
  pub me : Knowledge
  pub link : Shown
  pub between : Between

abbrev pub placed : Knowledge → Shown → Between → Place
placed me link b = record { me = me; link = link; between = b }

-- a turn with this result leads from one place to the next
pub record Leads (g : Settings) (moments : Option (List ℕ)) (a b : Place) (r : Turned) : Type 0 where
  pub same : b.me ≡ record a.me { front = b.me.front; note = b.me.note }
  pub turned : IsTurned g moments a.me b.me.front a.link b.link a.between r
  pub cause : TurnedFor g moments a.me b.me.front a.link b.link b.between r
  pub order : RulesOut g b.me.front b.between r

-- a turn: where it led, and its result
pub record Step : Type 0 where
  pub to : Place
  pub result : Turned

-- where the last of these turns led, the newest first
abbrev pub reached : Place → List Step → Place
reached from [] = from
reached from (step ∷ past) = step.to

-- turns one after the other, each of which lets the pump go on
abbrev pub AreTurns : Settings → Option (List ℕ) → Place → List Step → Type 0
AreTurns g moments from [] = Unit {0}
AreTurns g moments from (step ∷ past) =
    AreTurns g moments from past × Leads g moments (reached from past) step.to step.result × (is_last step.result ≡ false)

-- how many of them lulled
abbrev pub lulls_met : List Step → ℕ
lulls_met [] = 0
lulls_met (step ∷ past) = lulls_met past + lulls_in step.result

-- A run that this many lulls end, 0 as 1: turns that let the pump go on, with fewer lulls, and the last, which does not or is the lull that makes them so many.
pub record IsRun (g : Settings) (moments : Option (List ℕ)) (lulls : ℕ) (from to : Place) (r : Turned) : Type 0 where
  pub past : List Step
  pub turns : AreTurns g moments from past
  pub few : lulls_met past < max lulls 1
  pub last : Leads g moments (reached from past) to r
  pub ends : (is_last r ≡ true) ⊎ ((r ≡ turned.Lull) × (lulls_met past + 1 ≡ max lulls 1))
