-- A link whose connection the caller of one number opened. Entries stand newest first.
use Rattle.std.specs.Prelude.{◌≡◌, ◌≤◌, ◌^◌, ◌⊎◌, ℕ, List, length, Option, Some, None}
use Rattle.rs_wire.specs.declared.call.Call.{Call}
use Rattle.rs_wire.specs.declared.settings.Settings.{Settings}
use Rattle.outside.specs.Links.{Shown}
use Rattle.tape.specs.declared.entry.Entry.{Entry}
use Rattle.tape.specs.declared.event.Event.TheVariants as event
use Rattle.link_model.specs.Carrying.{Carried, IsAlone}
use Rattle.link_model.specs.Leaving.{Left}
use Rattle.link_laws.specs.Staying.{IsHeld}
use Rattle.serve_model.specs.Counts.{first_by, since_open}

abbrev pub AsksFor : Call → Option Entry → Type 0
AsksFor lease None = ⊥
AsksFor lease (Some x) = x.event ≡ event.Asked lease

-- where leases are granted, the next entry of a caller after its opening asks for one; but none may follow on a full tape
abbrev pub LeasesNext : Option Call → ℕ → List Entry → Type 0
LeasesNext None n past = Unit {0}
LeasesNext (Some lease) n past = (2 ^ 63 ≤ length past) ⊎ AsksFor lease (first_by n (since_open n past))

-- Caller n opened connection c on this link. It alone moved bytes of it; every frame and every byte crossed in order, each once; there is a reason why
-- the link was left; and the lease was asked for at once, where one is granted.
pub record IsLinked (g : Settings) (lease : Option Call) (n c : ℕ) (past : List Entry) (link : Shown) : Type 0 where
  pub alone : IsAlone c n past
  pub carried : Carried g past link c
  pub left : Left g past link c
  pub leased : LeasesNext lease n past

-- What the caller knows of it by what it has seen, where others may have added what it can't rule out.
pub record KnowsLink (g : Settings) (lease : Option Call) (n c : ℕ) (front : List Entry) (link : Shown) : Type 0 where
  pub carried : IsAlone c n front → Carried g front link c
  pub left : IsHeld c n front → Left g front link c
  pub leased : LeasesNext lease n front
