-- What a whole call came to, over all its links. Entries stand newest first.
use Rattle.std.specs.Prelude.{◌≡◌, ℕ, List, Option, Some, IsSome}
use Rattle.rs_wire.specs.declared.words.Kind.{Kind}
use Rattle.rs_wire.specs.declared.settings.Settings.{Settings}
use Rattle.outside.specs.Links.{Shown}
use Rattle.tape.specs.declared.entry.Entry.{Entry}
use Rattle.session_model.specs.Life.{closed}
use Rattle.call_model.specs.Leaving.{GotBack}
use Rattle.call_model.specs.Order.{Asking}
use Rattle.call_model.specs.Ran.{HasDied, HasPlace, IsCall, IsIdle, IsUnlinked, OfLast, cause_line}
use Rattle.call_model.specs.Saying.{HasEnded, HasNotEnded}
use Rattle.client.specs.Calling.{is_finished}
use Rattle.client.specs.Clients.{PutsBack}
use Rattle.client.specs.Takes.{HasPrinted}
use Rattle.client.specs.declared.called.Called.{Called}
use Rattle.client.specs.declared.called.Called.TheVariants as called

-- the end of the call has not come, over the last of its links
abbrev pub HasNoEnd : Kind → Settings → List Entry → List Shown → Type 0
HasNoEnd kind g past links = HasPlace past → OfLast (HasNotEnded kind g past) (Unit {0}) 1 links

-- why a call came to this, after so many lulls or tries, where its net had `base` faults before it and has `faults` now
abbrev pub CameTo : Called → Kind → ℕ → ℕ → ℕ → ℕ → Settings → List Entry → List Shown → Type 0
CameTo called.Finished kind lulls tries base faults g past links = OfLast (HasEnded kind g past) ⊥ 1 links
CameTo (called.Refused why) kind lulls tries base faults g past links = (closed g past ≡ Some why) × IsSome (cause_line why) × HasNoEnd kind g past links
CameTo called.Net kind lulls tries base faults g past links = IsUnlinked g past links tries base faults × HasNoEnd kind g past links
CameTo (called.Dead at) kind lulls tries base faults g past links = HasDied g past at × HasNoEnd kind g past links
CameTo (called.Idle n) kind lulls tries base faults g past links = (n ≡ lulls) × IsIdle g past links n × HasNoEnd kind g past links
CameTo called.OutOfMemory kind lulls tries base faults g past links = Unit {0}

-- A whole call: its order and its links; why it came to this; what the net got back, once the present link is put back, too; and what it printed.
pub record IsWholeCall (r : Called) (w : Asking) (moments : Option (List ℕ)) (lulls tries base faults : ℕ) (g : Settings) (past new : List Entry) (present : Option Shown) (back back' : Option (List Shown)) (out out' : List ℕ) : Type 0 where
  pub links : List Shown
  pub call : IsCall g w moments new links
  pub why : CameTo r w.kind lulls tries base faults g new links
  pub got : (all : Option (List Shown)) → PutsBack present back' all → GotBack links back all
  pub prints : HasPrinted w.kind (is_finished r) past new out out'
