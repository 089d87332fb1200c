-- What a server leaves behind: its tapes, on a shelf, and its links, put back to a net. Entries stand newest first.
use Rattle.std.specs.Prelude.{◌≡◌, ◌≤◌, ◌+◌, ◌-◌, ◌^◌, ◌⊎◌, zero, suc, ℕ, Bool, List, [], ◌∷◌, ◌++◌, length, reverse, Option, IfSome}
use Rattle.std.specs.Option.{option_map}
use Rattle.rs_wire.specs.declared.call.Call.{Call}
use Rattle.rs_wire.specs.declared.settings.Settings.{Settings}
use Rattle.outside.specs.Links.{Shown}
use Rattle.outside.specs.declared.net.Ask.{Ask}
use Rattle.outside.specs.declared.net.Ask.TheVariants as ask
use Rattle.tape.specs.declared.entry.Entry.{Entry}
use Rattle.handlers.specs.Listed.{Listed}
use Rattle.serve_laws.specs.Links.{AreServedLinks}
use Rattle.serve_laws.specs.Tapes.{AreServersTapes}

-- where a tape tells its entries, they are these, the oldest first
abbrev pub AreTold : List (List Entry) → List (Option (List Entry)) → Type 0
AreTold [] [] = Unit {0}
AreTold (past ∷ tapes) (told ∷ shown) = IfSome told (λ list. list ≡ reverse past) × AreTold tapes shown
AreTold _ _ = ⊥

-- These tapes were put back to a shelf.
pub record AreShelved (tapes : List (List Entry)) (old new : List (Option (List Entry))) : Type 0 where
  pub shown : List (Option (List Entry))
  pub back : new ≡ old ++ shown
  pub told : AreTold tapes shown

-- so many accepts
abbrev pub accepts_of : Bool → ℕ → List Ask
accepts_of ws zero = []
accepts_of ws (suc n) = ask.Accept ws ∷ accepts_of ws n

-- So many tapes were put back, and the links, each of which was served.
pub record HasServed (g : Settings) (lease : Option Call) (ws : Bool) (many : ℕ) (routes : List Listed) (moments : Option (List ℕ)) (links : List Shown)
    (shelf shelf' : List (Option (List Entry))) (asked asked' : Option (List Ask)) (back back' : Option (List Shown)) (out out' : ℕ) : Type 0 where
  pub tapes : List (List Entry)
  pub each : length tapes ≡ many
  pub shelved : AreShelved tapes shelf shelf'
  -- the net was asked to accept at most as often as there are tapes
  pub accepts : ℕ
  pub few : (length links ≤ accepts) × (accepts ≤ many)
  pub asks : asked' ≡ option_map (λ was. was ++ accepts_of ws accepts) asked
  -- the links were put back in the order of acceptance, and none that was handed out is kept
  pub got_back : back' ≡ option_map (λ was. was ++ links) back
  pub out_is : (out' ≡ out) ⊎ (2 ^ 64 - 1 ≤ out + many)
  -- the callers of each link
  pub rows : List (List ℕ)
  pub lawful : AreServersTapes g moments lease routes rows tapes
  pub linked : AreServedLinks g moments lease tapes rows links
