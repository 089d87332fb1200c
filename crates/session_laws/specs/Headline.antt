-- What holds at one end at every moment of its session, whatever its peer sends. Entries stand newest first.
use Rattle.std.specs.Prelude.{◌≡◌, ◌≤◌, ◌+◌, ◌++◌, ◌↔◌, ℕ, Bool, List, ◌∷◌, Some}
use Rattle.rs_wire.specs.declared.settings.Settings.{Settings}
use Rattle.rs_frame.specs.declared.frame.Frame.TheVariants as frame
use Rattle.rs_frame.specs.declared.frame.Resume.{Resume}
use Rattle.lease.specs.declared.requester.Terms.{Terms}
use Rattle.tape.specs.declared.answer.Answer.TheVariants as answer
use Rattle.tape.specs.declared.event.Event.TheVariants as event
use Rattle.tape.specs.declared.entry.Entry.{Entry}
use Rattle.stream_model.specs.Laws.{OneEnd, OneResponse, UsedWithinGranted}
use Rattle.stream_model.specs.Turns.{Turn, delivered, taken}
use Rattle.session_model.specs.Leases.{covered, lease, let_in_sum}
use Rattle.session_model.specs.Life.{openings}
use Rattle.session_model.specs.Lists.{IsPrefix}
use Rattle.session_laws.specs.Resumption.{CanGoOn, CanResume}
use Rattle.session_laws.specs.Streams.{EndsReceiving, stream}

-- these were once all entries: what else there is came after them
abbrev pub IsEarlier : List Entry → List Entry → Type 0
IsEarlier before past = (more : List Entry) × (past ≡ more ++ before)

-- No stream carries more items than were granted, and none delivers after its end; no lease lets more requests through than its count; and a
-- resumption was accepted exactly where both ends hold what it needs. All of it held after every earlier list of the entries.
pub record HasHeadline (g : Settings) (past : List Entry) : Type 0 where
  -- on each way of a stream or a channel no more items were used than were granted (RSocket 1.0, "REQUEST_N Frame")
  pub within_granted : (before : List Entry) (s : ℕ) (t : Turn) → IsEarlier before past → stream g before s ≡ Some t → UsedWithinGranted t
  -- a response carries one payload at most (RSocket 1.0, "Request Response")
  pub one_response : (before : List Entry) (s : ℕ) (t : Turn) → IsEarlier before past → stream g before s ≡ Some t → OneResponse t
  -- what was taken of a stream is a prefix of what was delivered
  pub taken_first : (before : List Entry) (s : ℕ) (t : Turn) → IsEarlier before past → stream g before s ≡ Some t → IsPrefix (taken t.words) (delivered t.opening t.words)
  -- which has one end at most, as its last
  pub one_end : (before : List Entry) (s : ℕ) (t : Turn) → IsEarlier before past → stream g before s ≡ Some t → OneEnd t
  -- after an own entry that ends the way on which this end receives, nothing more is taken of the stream (RSocket 1.0, "CANCEL Frame")
  pub no_more_taken : (before later : List Entry) (x : Entry) (s : ℕ) (t u : Turn) → IsEarlier (x ∷ before) later → IsEarlier later past
      → EndsReceiving g before x s t → stream g later s ≡ Some u → taken u.words ≡ taken t.words
  -- the requests that this end made under one lease are at most its count (RSocket 1.0, "Lease Semantics")
  pub within_lease : (before : List Entry) (l : Terms) → IsEarlier before past → lease g before ≡ Some l → l.used ≤ l.count
  -- the requests of the peer's that were covered are at most as many as this end let it make
  pub within_sum : (before : List Entry) → IsEarlier before past → covered g before ≤ let_in_sum before
  -- a RESUME that came was accepted exactly where both ends hold what the other has not handled (RSocket 1.0, "Resuming Operation")
  pub resumes : (before : List Entry) (x : Entry) (r : Resume) (in_use : Bool) → IsEarlier (x ∷ before) past → x.event ≡ event.Open (Some (frame.Resume r)) in_use
      → (x.answer ≡ answer.Opened (openings before + 1)) ↔ CanResume g before r
  -- and a RESUME_OK exactly where this end holds what its peer has not handled, and waits for it
  pub goes_on : (before : List Entry) (x : Entry) (conn position : ℕ) → IsEarlier (x ∷ before) past → x.event ≡ event.Came conn (frame.ResumeOk position)
      → (x.answer ≡ answer.Handled) ↔ CanGoOn g before conn position
