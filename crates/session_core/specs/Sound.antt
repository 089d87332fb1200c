-- What a session keeps of itself.
use Rattle.std.specs.Prelude.{◌≡◌, ◌≤◌, ◌*◌, ℕ, List, Option, length, is_some}
use Rattle.rs_wire.specs.declared.settings.Settings.{Settings}
use Rattle.lease.specs.Lease.{IsWithin}
use Rattle.tape.specs.declared.entry.Entry.{Entry}
use Rattle.rs_wire.specs.Settings.{IsChecked}
use Rattle.session_model.specs.declared.facts.Counted.{Counted}
use Rattle.session_core.specs.declared.state.State.{State}
use Rattle.session_core.specs.Fits.{Fits}
use Rattle.session_core.specs.Seen.{told_by}

-- each frame has 6 bytes and more, and all of them end at a position that the settings allow
pub record InRange (t : Counted) (top : ℕ) : Type 0 where
  pub frames : 6 * t.frames ≤ t.position
  pub position : t.position ≤ top

pub record IsSound (g : Settings) (s : State) (past : List Entry) (told : Option (List Entry)) (count : ℕ) : Type 0 where
  pub checked : IsChecked g
  pub fits : Fits g s past
  pub told_is : told ≡ told_by (is_some told) past
  pub count_is : count ≡ length past
  pub openings : s.openings ≤ count
  pub lease : IsWithin s.lease
  pub made : InRange s.made g.top_position
  pub handled : InRange s.handled g.top_position
