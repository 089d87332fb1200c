-- What a call of the program came to. Entries stand newest first.
use Rattle.std.specs.Prelude.{◌≡◌, ◌⊎◌, ℕ, true, false, List, [], ◌∷◌, ◌++◌, Option, Some, None, is_some}
use Rattle.rs_wire.specs.Settings.{usual}
use Rattle.rs_wire.specs.declared.settings.Settings.{Settings}
use Rattle.rs_wire.specs.declared.words.Side.TheVariants.{Client}
use Rattle.outside.specs.Links.{Shown}
use Rattle.outside.specs.declared.net.Ask.{Ask}
use Rattle.tape.specs.declared.entry.Entry.{Entry}
use Rattle.session_core.specs.Seen.{told_by}
use Rattle.session_model.specs.Legal.{Fair, Legal}
use Rattle.call_model.specs.Order.{Asking}
use Rattle.call_model.specs.Leaving.{GotBack}
use Rattle.call_model.specs.Ran.{Finishes, HasDied, IsCall, IsIdle, IsRefused, IsUnlinked, StopsWith, dead_line, idle_line, link_line}
use Rattle.call_model.specs.Saying.{said}
use Rattle.command_line.specs.declared.call_task.CallTask.{CallTask}
use Rattle.client.specs.Counting.{HasDialed, tries_of}

-- ---- what is called

abbrev pub token_of : Option (List ℕ) → List ℕ
token_of None = []
token_of (Some token) = token

-- the settings of the client: the usual ones, with leases and resumption as the words ask for them
abbrev pub settings_for : CallTask → Settings
settings_for t = record (usual Client) { lease = t.lease; resume = is_some t.token; token = token_of t.token }

abbrev pub asking_for : CallTask → Asking
asking_for t = record { kind = t.kind; route = t.route; content = t.content; count = t.count }

-- without a token a call has no tries
abbrev pub tries_for : CallTask → ℕ
tries_for t = tries_of (settings_for t) t.tries

-- ---- on every status but that of out of memory

-- One tape came back to the shelf, which shows these entries where a fresh one shows that it has none: they are a session's. The net was asked for links to the words' address
-- alone, and got these links back, in this order. It was a call: its entries keep the order, each tick has a moment of the clock, and while there is
-- place on the tape there is one link for each opening, each is carried, their ticks are few, and each but the last was left for a reason.
pub record IsCallOf (t : CallTask) (moments : Option (List ℕ)) (fresh : Option (List Entry)) (shelf shelf' : List (Option (List Entry))) (asks asks' : Option (List Ask)) (back back' : Option (List Shown)) (past : List Entry) (links : List Shown) : Type 0 where
  pub put_back : shelf' ≡ shelf ++ told_by (is_some fresh) past ∷ []
  pub legal : Legal (settings_for t) past
  pub fair : Fair (settings_for t) past
  pub dialed : HasDialed t.address t.ws asks asks'
  pub got_back : GotBack links back back'
  pub call : IsCall (settings_for t) (asking_for t) moments past links

-- ---- status by status, with the whole output

-- 0: the end has come, and the output is what the stream delivered
pub record Finished (t : CallTask) (moments : Option (List ℕ)) (fresh : Option (List Entry)) (shelf shelf' : List (Option (List Entry))) (asks asks' : Option (List Ask)) (back back' : Option (List Shown)) (out : List ℕ) : Type 0 where
  pub past : List Entry
  pub links : List Shown
  pub call : IsCallOf t moments fresh shelf shelf' asks asks' back back' past links
  pub ended : Finishes t.kind (settings_for t) past links out

-- 7: the peer closed the session or broke a rule, or the session could not be resumed
pub record WasRefused (t : CallTask) (moments : Option (List ℕ)) (fresh : Option (List Entry)) (shelf shelf' : List (Option (List Entry))) (asks asks' : Option (List Ask)) (back back' : Option (List Shown)) (out : List ℕ) : Type 0 where
  pub past : List Entry
  pub links : List Shown
  pub call : IsCallOf t moments fresh shelf shelf' asks asks' back back' past links
  pub line : List ℕ
  pub why : IsRefused (settings_for t) past line
  pub stops : StopsWith line t.kind (settings_for t) past links out

-- 8: no link was had, or the last one was lost and no try is left
pub record WasUnlinked (t : CallTask) (moments : Option (List ℕ)) (fresh : Option (List Entry)) (shelf shelf' : List (Option (List Entry))) (asks asks' : Option (List Ask)) (back back' : Option (List Shown)) (faults faults' : ℕ) (out : List ℕ) : Type 0 where
  pub past : List Entry
  pub links : List Shown
  pub call : IsCallOf t moments fresh shelf shelf' asks asks' back back' past links
  pub why : IsUnlinked (settings_for t) past links (tries_for t) faults faults'
  pub stops : StopsWith link_line t.kind (settings_for t) past links out

-- 9: a tick found the peer dead
pub record FoundDead (t : CallTask) (moments : Option (List ℕ)) (fresh : Option (List Entry)) (shelf shelf' : List (Option (List Entry))) (asks asks' : Option (List Ask)) (back back' : Option (List Shown)) (out : List ℕ) : Type 0 where
  pub past : List Entry
  pub links : List Shown
  pub call : IsCallOf t moments fresh shelf shelf' asks asks' back back' past links
  pub last : ℕ
  pub why : HasDied (settings_for t) past last
  pub stops : StopsWith (dead_line last) t.kind (settings_for t) past links out

-- 10: it was given up after so many lulls
pub record WasIdle (t : CallTask) (moments : Option (List ℕ)) (fresh : Option (List Entry)) (shelf shelf' : List (Option (List Entry))) (asks asks' : Option (List Ask)) (back back' : Option (List Shown)) (out : List ℕ) : Type 0 where
  pub past : List Entry
  pub links : List Shown
  pub call : IsCallOf t moments fresh shelf shelf' asks asks' back back' past links
  pub why : IsIdle (settings_for t) past links t.lulls
  pub stops : StopsWith (idle_line t.lulls) t.kind (settings_for t) past links out

-- 5: what was to be written when a write failed: what the call had printed by then, or one of the outputs above
pub record WasPrinting (t : CallTask) (moments : Option (List ℕ)) (fresh : Option (List Entry)) (shelf shelf' : List (Option (List Entry))) (asks asks' : Option (List Ask)) (back back' : Option (List Shown)) (out : List ℕ) : Type 0 where
  pub past : List Entry
  pub links : List Shown
  pub call : IsCallOf t moments fresh shelf shelf' asks asks' back back' past links
  pub more : List ℕ
  pub prints : (out ≡ said t.kind true past) ⊎ (out ≡ said t.kind false past ++ more)
