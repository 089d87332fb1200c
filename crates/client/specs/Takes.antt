-- What a caller that is alone takes of its stream, and prints. Entries stand newest first.
use Rattle.std.specs.Prelude.{◌≡◌, ◌≢◌, ◌<◌, ◌≤◌, ◌+◌, ◌⊎◌, ◌==◌, ◌&&◌, ℕ, Bool, true, false, List, [], ◌++◌, Option, Some, None}
use Rattle.std.specs.List.{AllByRecursion}
use Rattle.rs_wire.specs.Calls.{is_streamed}
use Rattle.rs_wire.specs.declared.words.Kind.{Kind}
use Rattle.rs_wire.specs.declared.words.Kind.TheVariants as kinds
use Rattle.rs_wire.specs.declared.settings.Settings.{Settings}
use Rattle.rs_wire.specs.declared.call.Call.TheVariants as call
use Rattle.tape.specs.declared.event.Event.{Event}
use Rattle.tape.specs.declared.event.Event.TheVariants as event
use Rattle.tape.specs.declared.answer.Answer.{Answer}
use Rattle.tape.specs.declared.answer.Answer.TheVariants as answer
use Rattle.tape.specs.declared.entry.Entry.{Entry}
use Rattle.outside.specs.Links.{Shown}
use Rattle.conn_shared.specs.Calls.{IsCalled}
use Rattle.conn_shared.specs.declared.looked.Looked.{Looked}
use Rattle.conn_shared.specs.Members.{Knowledge}
use Rattle.call_model.specs.Order.{Asking}
use Rattle.call_model.specs.Ran.{HasPlace}
use Rattle.call_model.specs.Saying.{HasEnded, HasNotEnded, IsSent, IsUnsent, delivered_on, got_on, has_end, lines_of, said, started}
use Rattle.call_model.specs.Standing.{IsUnended, Stands}

-- a call, which does not close the session
abbrev pub is_call : Event → Bool
is_call (event.Asked call.Close) = false
is_call (event.Asked asked) = true
is_call _ = false

-- calls were added, and none where the tape was full
pub record AsksMore (was new : List Entry) : Type 0 where
  pub more : List Entry
  pub on : new ≡ more ++ was
  pub all : AllByRecursion (λ x. is_call x.event ≡ true) more
  pub place : (more ≡ []) ⊎ HasPlace was

-- what was got more of stream s is printed
pub record Prints (s : ℕ) (was new : List Entry) (out out' : List ℕ) : Type 0 where
  pub more : List ℕ
  pub printed : out' ≡ out ++ more
  pub got : lines_of (got_on new s) ≡ lines_of (got_on was s) ++ more

-- all that was delivered on stream s is taken
abbrev pub IsWhole : Settings → List Entry → ℕ → Type 0
IsWhole g past s = got_on past s ≡ delivered_on g past s

abbrev pub is_refused : Answer → Bool
is_refused (answer.Refused why) = true
is_refused _ = false

-- calls were added that were refused
pub record AddsRefused (was new : List Entry) : Type 0 where
  pub more : List Entry
  pub on : new ≡ more ++ was
  pub all : AllByRecursion (λ x. (is_call x.event ≡ true) × (is_refused x.answer ≡ true)) more

-- Takes of stream s, and the grants after them: what was got is printed, and the order of a call of such a kind and count is kept. Where all
-- was taken before, nothing was got.
pub record HasTaken (kind : Kind) (count s : ℕ) (g : Settings) (was new : List Entry) (fresh fresh' : ℕ) (out out' : List ℕ) : Type 0 where
  pub asks : AsksMore was new
  pub prints : Prints s was new out out'
  pub stands : (w : Asking) (moments : Option (List ℕ)) → w.kind ≡ kind → w.count ≡ count → Stands w moments was (Some s) fresh → Stands w moments new (Some s) fresh'
  pub knows : started was ≡ Some s → started new ≡ Some s
  pub unended : started was ≡ Some s → IsUnended was → IsUnended new
  pub idle : IsWhole g was s → new ≡ was

-- after an item so many may be let in again: nothing is counted; or more of them are to come; or the grant was asked
abbrev pub Grants : Kind → ℕ → ℕ → Knowledge → List Entry → ℕ → ℕ → Type 0
Grants kind count s was new fresh fresh' =
    ((is_streamed kind ≡ false) × (fresh' ≡ fresh) × (new ≡ was.front))
    ⊎ ((is_streamed kind ≡ true) × (fresh + 1 < count) × (fresh' ≡ fresh + 1) × (new ≡ was.front))
    ⊎ ((is_streamed kind ≡ true) × (count ≤ fresh + 1) × (fresh' ≡ 0)
    × ((a : Answer) × IsCalled was.of.settings was (event.Asked (call.Grant s count)) a new × (a ≢ answer.OutOfMemory)))

-- and then an end was taken
pub record HasTakenEnd (kind : Kind) (count s : ℕ) (g : Settings) (was new : List Entry) (fresh fresh' : ℕ) (out out' : List ℕ) : Type 0 where
  pub asks : AsksMore was new
  pub prints : Prints s was new out out'
  pub stands : (w : Asking) (moments : Option (List ℕ)) → w.kind ≡ kind → w.count ≡ count → Stands w moments was (Some s) fresh → Stands w moments new (Some s) fresh'
  pub knows : started was ≡ Some s → started new ≡ Some s
  pub ended : has_end (got_on new s) ≡ true

-- and then nothing more was there
pub record HasTakenAll (kind : Kind) (count s : ℕ) (g : Settings) (was new : List Entry) (fresh fresh' : ℕ) (out out' : List ℕ) : Type 0 where
  pub asks : AsksMore was new
  pub prints : Prints s was new out out'
  pub stands : (w : Asking) (moments : Option (List ℕ)) → w.kind ≡ kind → w.count ≡ count → Stands w moments was (Some s) fresh → Stands w moments new (Some s) fresh'
  pub knows : started was ≡ Some s → started new ≡ Some s
  pub unended : started was ≡ Some s → IsUnended was → IsUnended new
  pub whole : HasPlace new → IsWhole g new s
  pub idle : IsWhole g was s → AddsRefused was new

abbrev pub TakesSo : Bool → Kind → ℕ → ℕ → Settings → List Entry → List Entry → ℕ → ℕ → List ℕ → List ℕ → Type 0
TakesSo true kind count s g was new fresh fresh' out out' = HasTakenEnd kind count s g was new fresh fresh' out out'
TakesSo false kind count s g was new fresh fresh' out out' = HasTakenAll kind count s g was new fresh fresh' out out'

-- ---- whether the end of a call has come

-- the connection is live and carries, and nothing waits to be drawn
abbrev pub is_dry : Looked → ℕ → Bool
is_dry looked c = ((looked.live == c) && looked.carrying) && (looked.queued == 0)

-- a fire-and-forget is sent, or it is not
abbrev pub SentSo : Bool → Settings → List Entry → Shown → ℕ → Type 0
SentSo true g past link c = IsSent g past link c
SentSo false g past link c = IsUnsent g past link c

-- what a call prints more is what it says more
pub record HasPrinted (kind : Kind) (ended : Bool) (was new : List Entry) (out out' : List ℕ) : Type 0 where
  pub more : List ℕ
  pub printed : out' ≡ out ++ more
  pub says : said kind ended new ≡ said kind false was ++ more

-- all that was delivered on the stream of a call is taken; nothing is on that of a fire-and-forget
abbrev pub IsTakenIn : Kind → Settings → List Entry → Type 0
IsTakenIn kinds.Fnf g past = Unit {0}
IsTakenIn _ g past = (s : ℕ) → started past ≡ Some s → IsWhole g past s

-- the end has come, or it has not and all is taken
abbrev pub EndsSo : Bool → Kind → Settings → List Entry → List Entry → Shown → ℕ → Type 0
EndsSo true kind g was new link c = HasEnded kind g new link c
EndsSo false kind g was new link c = IsUnended was → IsUnended new × (HasPlace new → HasNotEnded kind g new link c × IsTakenIn kind g new)

-- the same, of a call of which no end was taken before
abbrev pub EndsNow : Bool → Kind → Settings → List Entry → Shown → ℕ → Type 0
EndsNow true kind g new link c = HasEnded kind g new link c
EndsNow false kind g new link c = IsUnended new × (HasPlace new → HasNotEnded kind g new link c × IsTakenIn kind g new)

-- What waited was taken and printed, over connection c and its link.
pub record TakesFor (ended : Bool) (kind : Kind) (count : ℕ) (g : Settings) (link : Shown) (c : ℕ) (stream : Option ℕ) (was new : List Entry) (fresh fresh' : ℕ) (out out' : List ℕ) : Type 0 where
  pub asks : AsksMore was new
  pub none : stream ≡ None → new ≡ was
  pub stands : (w : Asking) (moments : Option (List ℕ)) → w.kind ≡ kind → w.count ≡ count → Stands w moments was stream fresh → Stands w moments new stream fresh'
  pub prints : stream ≡ started was → HasPrinted kind ended was new out out'
  pub ends : stream ≡ started was → EndsSo ended kind g was new link c
  -- where all was taken before, every call was refused
  pub idle : ended ≡ false → stream ≡ started was → IsTakenIn kind g was → AddsRefused was new
