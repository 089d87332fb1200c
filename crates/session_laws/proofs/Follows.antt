-- What an end has handled on its live connection follows what it had handled before.
use Rattle.std.proofs.Common.{◌≡◌, ◌<◌, ◌+◌, ◌==◌, ℕ, Bool, true, false, if◌then◌else◌, List, [], ◌∷◌, ◌++◌, Option, Some, None, refl, ap, sym, subst, append_assoc, append-nil, arith}
use Rattle.std.proofs.lemmas.Grind.{common_steps}
use Rattle.std.proofs.lemmas.Bool.Decides.{nat_tests}
use Rattle.std.proofs.lemmas.List.Elements.{filter-append}
use Rattle.rs_wire.specs.declared.words.Side.{Side}
use Rattle.rs_wire.specs.declared.words.Side.TheVariants.{Client, Server}
use Rattle.rs_wire.specs.declared.settings.Settings.{Settings}
use Rattle.rs_frame.specs.declared.frame.Frame.{Frame}
use Rattle.rs_frame.specs.declared.frame.Frame.TheVariants as frame
use Rattle.rs_frame.specs.declared.frame.Setup.{Setup}
use Rattle.rs_frame.specs.declared.frame.Resume.{Resume}
use Rattle.rs_frame.specs.Spelling.{is_resumable}
use Rattle.position.specs.Boundaries.{pos}
use Rattle.tape.specs.declared.event.Event.{Event}
use Rattle.tape.specs.declared.event.Event.TheVariants as event
use Rattle.tape.specs.declared.answer.Answer.{Answer}
use Rattle.tape.specs.declared.answer.Answer.TheVariants as answer
use Rattle.tape.specs.declared.entry.Entry.{Entry}
use Rattle.session_model.specs.Lists.{IsPrefix, first_of}
use Rattle.session_model.specs.Life.{begun, closed, closes, is_live, live, live_after, openings}
use Rattle.session_model.specs.Frames.{bad_in, brings, came, due, first, first_bad, greets, handled, handles, owes, resume_frame, setup_frame}
use Rattle.session_model.specs.Answers.{facts}
use Rattle.session_model.specs.Joined.{only}
use Rattle.session_model.specs.Legal.{Fair, IsFair, LeavesEntry, Legal}
use Rattle.session_model.specs.Means.{Handling, Means, SuitsFirst}
use Rattle.session_model.proofs.Meaning.{last_means}
use Rattle.session_model.proofs.Openings.{due_later, live_le}
use Rattle.session_laws.proofs.Counting.{counting}
use Rattle.session_laws.proofs.Life.{bad_later, came_later, fresh_handled}
use Rattle.session_laws.proofs.Prefixes.{prefix_more, prefix_nil, prefix_refl}
use Rattle.session_laws.proofs.Quiet.{first_none, is_handled, quiet}

-- ---- one connection

-- how a connection begins after these frames were handled: what comes at a server is SETUP where there are none, or RESUME, and RESUME_OK tells
-- their position; a client owes SETUP, or RESUME that tells their position
pub data Begins (side : Side) (came owed base : List Frame) : Type 0 where
  First : (s : Setup) (rest : List Frame) → side ≡ Server → came ≡ frame.Setup s ∷ rest → base ≡ [] → Begins side came owed base
  Answered : (r : Resume) (rest more : List Frame) → side ≡ Server → came ≡ frame.Resume r ∷ rest → owed ≡ frame.ResumeOk (pos base) ∷ more
      → Begins side came owed base
  Greeted : (s : Setup) (more : List Frame) → side ≡ Client → owed ≡ frame.Setup s ∷ more → base ≡ [] → Begins side came owed base
  Asked : (r : Resume) (more : List Frame) → side ≡ Client → owed ≡ frame.Resume r ∷ more → r.server_position ≡ pos base → Begins side came owed base

pub begins_more : (side : Side) (came owed base brought out : List Frame) → Begins side came owed base → Begins side (came ++ brought) (owed ++ out) base
begins_more side came owed base brought out (First s rest at c b) = First s (rest ++ brought) at (ap (λ l. l ++ brought) c) b
begins_more side came owed base brought out (Answered r rest more at c o) = Answered r (rest ++ brought) (more ++ out) at (ap (λ l. l ++ brought) c)
    (ap (λ l. l ++ out) o)
begins_more side came owed base brought out (Greeted s more at o b) = Greeted s (more ++ out) at (ap (λ l. l ++ out) o) b
begins_more side came owed base brought out (Asked r more at o b) = Asked r (more ++ out) at (ap (λ l. l ++ out) o) b

-- on the live connection no bad bytes came, and what counts of what came was handled after what was handled before, a prefix of what the other end made
pub record Follows (side : Side) (made came owed handled : List Frame) (bad : Option ℕ) : Type 0 where
  pub base : List Frame
  pub taken : handled ≡ base ++ counting came
  pub begins : Begins side came owed base
  pub old : IsPrefix base made
  pub clean : bad ≡ None

follows_more : (side : Side) (made came owed handled brought out new : List Frame) (bad bad' : Option ℕ) → Follows side made came owed handled bad
    → bad' ≡ None → counting brought ≡ new
    → Follows side made (came ++ brought) (owed ++ out) (handled ++ new) bad'
follows_more side made came owed handled brought out new bad bad' k clean is = record {
  base = k.base;
  taken = rw (k.taken, filter-append is_resumable came brought, is) (append_assoc k.base (counting came) new);
  begins = begins_more side came owed k.base brought out k.begins;
  old = k.old;
  clean = clean;
}

-- ---- each connection

abbrev pub FollowsAt : Settings → List Frame → List Entry → ℕ → Type 0
FollowsAt g made past c = Follows g.side made (came past c) (due g past c) (handled past) (first_bad past c)

-- after an event so answered
abbrev FollowsAfter : Settings → List Frame → List Entry → ℕ → Answer → Event → Type 0
FollowsAfter g made past c a e =
    Follows g.side made (came past c ++ brings past c e) (due g past c ++ owes g past c a e) (handled past ++ handles a e)
    (first_of (first_bad past c) (bad_in past c e))

-- what was handled is a prefix of what the other end made, and so it goes on
pub record Kept (g : Settings) (made : List Frame) (past : List Entry) : Type 0 where
  pub all : IsPrefix (handled past) made
  pub here : 0 < live past → closed g past ≡ None → FollowsAt g made past (live past)

record KeptAfter (g : Settings) (made : List Frame) (past : List Entry) (a : Answer) (e : Event) : Type 0 where
  all : IsPrefix (handled past ++ handles a e) made
  here : 0 < live_after a (live past) → first_of (closed g past) (closes g past a e) ≡ None → FollowsAfter g made past (live_after a (live past)) a e

-- of what came on any connection what counts follows what was handled before it
abbrev JoinsAs : Side → List Frame → (ℕ → List Frame) → (ℕ → List Frame) → Type 0
JoinsAs side made came owed = (c : ℕ) (base part : List Frame) → IsPrefix part (came c) → Begins side (came c) (owed c) base → IsPrefix base made
    → IsPrefix (base ++ counting part) made

abbrev pub Joins : Settings → List Frame → List Entry → Type 0
Joins g made past = JoinsAs g.side made (came past) (due g past)

earlier : (g : Settings) (made : List Frame) (x : Entry) (past : List Entry) → Joins g made (x ∷ past) → Joins g made past
unfolding came due
earlier g made x past joins c base part p begins old =
    joins c base part (prefix_more part (came past c) (brings past c x.event) p)
    (begins_more g.side (came past c) (due g past c) base (brings past c x.event) (owes g past c x.answer x.event) begins) old

-- ---- entries

live_itself : (n : ℕ) → 0 < n → is_live n n ≡ true
live_itself n some = grind (arith, nat_tests)

-- an entry that handles nothing and leaves the connection
kept_other : (g : Settings) (made : List Frame) (past : List Entry) (a : Answer) (e : Event) → Legal g past → LeavesEntry a
    → Means g (facts g past) e a → is_handled a ≡ false → handles a e ≡ []
    → live_after a (live past) ≡ live past → Kept g made past → KeptAfter g made past a e
kept_other g made past a e legal leaves means idle none same k = record {
  all = rw (none, append-nil (handled past)) k.all;
  here = λ some free.
      let at : 0 < live past = subst (λ (n : ℕ). 0 < n) same some in
      let q = quiet g past (live past) a e legal leaves means idle (live_itself (live past) at) free in
      let before = k.here at (first_none (closed g past) (closes g past a e) free).0 in
      subst (λ (n : ℕ). FollowsAfter g made past n a e) (sym same)
      (follows_more g.side made (came past (live past)) (due g past (live past)) (handled past) (brings past (live past) e)
      (owes g past (live past) a e) (handles a e) (first_bad past (live past))
      (first_of (first_bad past (live past)) (bad_in past (live past) e)) before (rw (before.clean, q.bytes) refl) (rw (q.frames, none) refl));
}

-- a frame that is handled
kept_handled : (g : Settings) (made : List Frame) (past : List Entry) (conn : ℕ) (f : Frame) → Legal g past → Handling g (facts g past) conn f
    → JoinsAs g.side made (λ c. came past c ++ brings past c (event.Came conn f))
    (λ c. due g past c ++ owes g past c answer.Handled (event.Came conn f)) → Kept g made past
    → KeptAfter g made past answer.Handled (event.Came conn f)
unfolding facts
kept_handled g made past conn f legal means joins k =
    let e = event.Came conn f in
    let l = live past in
    let here = means.here in
    let some : 0 < live past = grind (arith, common_steps) in
    let before = k.here some means.free in
    let clean = before.clean in
    let within = live_le g past legal in
    let brought : brings past l e ≡ f ∷ [] = grind (arith, common_steps) in
    let after = follows_more g.side made (came past l) (due g past l) (handled past) (brings past l e) (owes g past l answer.Handled e)
    (handles answer.Handled e) (first_bad past l)
    (first_of (first_bad past l) None) before (rw clean refl) (ap counting brought) in
    record {
      all = rw after.taken (joins l after.base (came past l ++ brings past l e) (prefix_refl (came past l ++ brings past l e)) after.begins after.old);
      here = λ at free. after;
    }

-- what an accepted first frame is
client_begins : (g : Settings) (past : List Entry) (more : List Frame) (before : Bool) → begun past ≡ before → Legal g past → g.side ≡ Client
    → Begins g.side [] (((if before then resume_frame g (pos (handled past)) (first g past) else setup_frame g) ∷ []) ++ more) (handled past)
client_begins g past more true is legal side = Asked _ more side refl refl
client_begins g past more false is legal side = Greeted _ more side refl (fresh_handled g past legal is)

opens_begin : (g : Settings) (past : List Entry) (first : Option Frame) (taken : Bool) (more : List Frame) → Legal g past
    → IsFair g (event.Open first taken) → SuitsFirst g (facts g past) first taken
    → Begins g.side (only first) (greets g past (event.Open first taken) ++ more) (handled past)
unfolding facts
opens_begin g past None taken more legal fair suits = client_begins g past more (begun past) refl legal fair
opens_begin g past (Some (frame.Setup s)) taken more legal fair suits = First s [] fair.0 refl (fresh_handled g past legal suits.0)
opens_begin g past (Some (frame.Resume r)) taken more legal fair suits = Answered r [] _ fair.0 refl refl
opens_begin g past (Some f) taken more legal fair suits = absurd (cc (suits.1))

opens_none : (g : Settings) (past : List Entry) (first : Option Frame) (taken : Bool) → SuitsFirst g (facts g past) first taken → counting (only first) ≡ []
opens_none g past None taken suits = refl
opens_none g past (Some (frame.Setup s)) taken suits = refl
opens_none g past (Some (frame.Resume r)) taken suits = refl
opens_none g past (Some f) taken suits = absurd (cc (suits.1))

opens_brings : (past : List Entry) (n : ℕ) (first : Option Frame) (taken : Bool) → n ≡ openings past + 1 → brings past n (event.Open first taken) ≡ only first
opens_brings past n None taken next = refl
opens_brings past n (Some f) taken next = let same : (openings past + 1 == n) ≡ true = grind (arith, nat_tests) in rw same refl

no_bytes : (past : List Entry) (n : ℕ) (first : Option Frame) (taken : Bool) → bad_in past n (event.Open first taken) ≡ None
no_bytes past n first taken = refl

-- an accepted opening
kept_open : (g : Settings) (made : List Frame) (past : List Entry) (n : ℕ) (first : Option Frame) (taken : Bool) → Legal g past
    → IsFair g (event.Open first taken)
    → Means g (facts g past) (event.Open first taken) (answer.Opened n) → Kept g made past → KeptAfter g made past (answer.Opened n) (event.Open first taken)
unfolding facts
kept_open g made past n first taken legal fair means k =
    let next = means.next in
    let later : openings past < n = omega arith in
    let here = live_itself n (omega arith) in
    record {
      all = rw (append-nil (handled past)) k.all;
      here = λ some free. rw (came_later past n later, due_later g past n legal later, bad_later past n later, opens_brings past n first taken next, here) (record {
        base = handled past;
        taken = rw (opens_none g past first taken means.suits) refl;
        begins = opens_begin g past first taken _ legal fair means.suits;
        old = k.all;
        clean = refl;
      });
    }

parted : (g : Settings) (made : List Frame) (past : List Entry) (e : Event) → Kept g made past → KeptAfter g made past answer.Parted e
parted g made past e k = record {
  all = rw (append-nil (handled past)) k.all;
  here = λ some free. absurd (omega arith);
}

died : (g : Settings) (made : List Frame) (past : List Entry) (last : ℕ) (e : Event) → Kept g made past → KeptAfter g made past (answer.Dead last) e
died g made past last e k = record {
  all = rw (append-nil (handled past)) k.all;
  here = λ some free. absurd (omega arith);
}

kept_step : (g : Settings) (made : List Frame) (past : List Entry) (a : Answer) (e : Event) → Legal g past → LeavesEntry a
    → Means g (facts g past) e a → IsFair g e
    → JoinsAs g.side made (λ c. came past c ++ brings past c e) (λ c. due g past c ++ owes g past c a e) → Kept g made past → KeptAfter g made past a e
kept_step g made past (answer.Opened n) (event.Open first taken) legal leaves means fair joins k = kept_open g made past n first taken legal fair means k
kept_step g made past (answer.Opened n) e legal leaves means fair joins k = absurd means
kept_step g made past answer.Parted e legal leaves means fair joins k = parted g made past e k
kept_step g made past (answer.Dead last) e legal leaves means fair joins k = died g made past last e k
kept_step g made past answer.Handled (event.Came conn f) legal leaves means fair joins k = kept_handled g made past conn f legal means joins k
kept_step g made past answer.Handled e legal leaves means fair joins k = absurd means
kept_step g made past a e legal leaves means fair joins k = kept_other g made past a e legal leaves means refl refl refl k

pub kept : (g : Settings) (made : List Frame) (past : List Entry) → Legal g past → Fair g past → Joins g made past → Kept g made past
unfolding Legal Fair came due handled live closed first_bad
kept g made [] legal fair joins = record { all = prefix_nil made; here = λ some free. absurd (omega arith) }
kept g made (x ∷ past) legal fair joins =
    let after = kept_step g made past x.answer x.event legal.0 legal.1.leaves (last_means g x past legal) fair.1 joins
    (kept g made past legal.0 fair.0 (earlier g made x past joins)) in
    record { all = after.all; here = after.here }
