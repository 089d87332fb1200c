-- When a resumption is accepted.
use Rattle.std.proofs.Common.{◌≡◌, ◌≤◌, ◌+◌, ◌==◌, ◌&&◌, ◌↔◌, ◌++◌, leb, ℕ, Bool, true, false, not, cond, if◌then◌else◌, List, [], ◌∷◌, Option, Some, None, refl, ap, sym, subst, ◌∙◌, append-nil, arith, eqb, ltb}
use Rattle.std.specs.Cmp.Lexicographic.{pointwise}
use Rattle.std.proofs.lemmas.Bool.{le-leb}
use Rattle.std.proofs.lemmas.Bool.Decides.{Decides-eqb, nat_tests}
use Rattle.std.proofs.lemmas.Grind.{common_steps}
use Rattle.std.proofs.lemmas.Slice.Eq.{slice_eq-Decides}
use Rattle.rs_wire.specs.Settings.{IsChecked, is_client, out_limit_of}
use Rattle.rs_wire.specs.declared.words.Side.TheVariants.{Server}
use Rattle.rs_wire.specs.declared.fault.Cause.{Cause}
use Rattle.rs_wire.specs.declared.fault.Gone.{Gone}
use Rattle.rs_wire.specs.declared.fault.Rule.TheVariants as rule
use Rattle.rs_wire.specs.declared.settings.Settings.{Settings}
use Rattle.rs_frame.specs.declared.frame.Frame.{Frame}
use Rattle.rs_frame.specs.declared.frame.Frame.TheVariants as frame
use Rattle.rs_frame.specs.declared.frame.Resume.{Resume}
use Rattle.rs_frame.specs.Spelling.{length_of}
use Rattle.position.specs.Boundaries.{IsBoundary, first as first_held, is_boundary}
use Rattle.position.proofs.Boundaries.{boundary-le, boundary_of_none, boundary_zero}
use Rattle.position.proofs.Held.{boundary_test, test_boundary}
use Rattle.tape.specs.declared.answer.Answer.{Answer}
use Rattle.tape.specs.declared.answer.Answer.TheVariants as answer
use Rattle.tape.specs.declared.event.Event.TheVariants as event
use Rattle.tape.specs.declared.entry.Entry.{Entry}
use Rattle.session_model.specs.declared.numbers.TheConstants.{ANSWER_ROOM}
use Rattle.session_model.specs.Lists.{first_of}
use Rattle.session_model.specs.Life.{asked_token, begun, carrying, closed, is_live, live, openings, resumption_agreed, setup, told}
use Rattle.session_model.specs.Frames.{due, first, held_from, if_agreed, if_carrying, is_held_boundary, kept, made, queued}
use Rattle.session_model.specs.Legal.{Legal}
use Rattle.session_model.specs.Answers.{Facts, answer_to, facts, gone_with, handled_unless_gone, ok_gone, opened_unless_gone, resume_gone, unless_closed}
use Rattle.session_model.proofs.Agreed.{kept_made, waiting_agreed}
use Rattle.session_laws.specs.Resumption.{CanGoOn, CanResume, IsHeldFrom, refused_resume}
use Rattle.session_laws.specs.Streams.{IsLawful}
use Rattle.session_laws.proofs.Waiting.{ok_room}

-- ---- the tests of a position and of a token, row by row

passed : {X : Type 0} (b : Bool) (x : X) (next : Option X) → cond b (Some x) next ≡ None → (b ≡ false) × (next ≡ None)
passed true x next none = absurd (cc)
passed false x next none = (refl, none)

same_bytes : (a b : List ℕ) → not (pointwise ◌==◌ a b) ≡ false → a ≡ b
same_bytes a b none = (slice_eq-Decides Decides-eqb a b (pointwise ◌==◌ a b) refl).0 (grind (arith, nat_tests))

equal_bytes : (a b : List ℕ) → a ≡ b → pointwise ◌==◌ a b ≡ true
equal_bytes a b same = (slice_eq-Decides Decides-eqb a b (pointwise ◌==◌ a b) refl).1 same

-- no row finds a fault
pub record Unfaulty (t : Facts) (r : Resume) (token : List ℕ) : Type 0 where
  pub version : r.major ≡ 1
  pub same : r.token ≡ token
  pub from_first : t.first ≤ r.server_position
  pub to_end : r.server_position ≤ t.made.position
  pub boundary : t.boundary r.server_position ≡ true
  pub client : r.client_position ≤ t.handled.position

unfaulty : (t : Facts) (r : Resume) (token : List ℕ) → gone_with t r (Some token) ≡ None → Unfaulty t r token
unfaulty t r token none =
    let a = passed (not (r.major == 1)) _ _ none in
    let b = passed (not (pointwise ◌==◌ r.token token)) _ _ a.1 in
    let c = passed (ltb r.server_position t.first) _ _ b.1 in
    let d = passed (ltb t.made.position r.server_position) _ _ c.1 in
    let e = passed (not (t.boundary r.server_position)) _ _ d.1 in
    let f = passed (ltb t.handled.position r.client_position) _ None e.1 in
    let version = a.0 in
    let low = c.0 in
    let high = d.0 in
    let boundary = e.0 in
    let client = f.0 in
    record {
      version = grind (arith, nat_tests);
      same = same_bytes r.token token b.0;
      from_first = grind (arith, nat_tests);
      to_end = grind (arith, nat_tests);
      boundary = grind (arith, nat_tests);
      client = grind (arith, nat_tests);
    }

no_fault : (t : Facts) (r : Resume) (token : List ℕ) → Unfaulty t r token → gone_with t r (Some token) ≡ None
no_fault t r token u =
    let version : eqb r.major 1 ≡ true = let same = u.version in grind (arith, nat_tests) in
    let low : ltb r.server_position t.first ≡ false = let le = u.from_first in grind (arith, nat_tests) in
    let high : ltb t.made.position r.server_position ≡ false = let le = u.to_end in grind (arith, nat_tests) in
    let client : ltb t.handled.position r.client_position ≡ false = let le = u.client in grind (arith, nat_tests) in
    rw (version, equal_bytes r.token token u.same, low, high, u.boundary, client) refl

gone_boundary : (t : Facts) (r : Resume) (token : Option (List ℕ)) → gone_with t r token ≡ None → t.boundary r.server_position ≡ true
gone_boundary t r None none = absurd (cc)
gone_boundary t r (Some token) none = (unfaulty t r token none).boundary

-- the position that an accepted RESUME tells is a boundary
pub resume_boundary : (t : Facts) (r : Resume) → resume_gone t r ≡ None → t.boundary r.server_position ≡ true
resume_boundary t r none = gone_boundary t r (asked_token t.setup) none

record OkUnfaulty (t : Facts) (position : ℕ) : Type 0 where
  from_first : t.first ≤ position
  to_end : position ≤ t.made.position
  boundary : t.boundary position ≡ true

ok_unfaulty : (t : Facts) (position : ℕ) → ok_gone t position ≡ None → OkUnfaulty t position
ok_unfaulty t position none =
    let a = passed (ltb position t.first) _ _ none in
    let b = passed (ltb t.made.position position) _ _ a.1 in
    let c = passed (not (t.boundary position)) _ None b.1 in
    let low = a.0 in
    let high = b.0 in
    let boundary = c.0 in
    record { from_first = grind (arith, nat_tests); to_end = grind (arith, nat_tests); boundary = grind (arith, nat_tests) }

ok_no_fault : (t : Facts) (position : ℕ) → OkUnfaulty t position → ok_gone t position ≡ None
ok_no_fault t position u =
    let low : ltb position t.first ≡ false = let le = u.from_first in grind (arith, nat_tests) in
    let high : ltb t.made.position position ≡ false = let le = u.to_end in grind (arith, nat_tests) in
    rw (low, high, u.boundary) refl

-- and so is the one that an accepted RESUME_OK tells
pub ok_boundary : (t : Facts) (position : ℕ) → ok_gone t position ≡ None → t.boundary position ≡ true
ok_boundary t position none = (ok_unfaulty t position none).boundary

-- ---- what is kept

both : (a b : Bool) → (a && b) ≡ true → (a ≡ true) × (b ≡ true)
both true b is = (refl, is)
both false b is = absurd (cc)

boundary_made : (agreed : Bool) (fs : List Frame) (p : ℕ) → IsBoundary (if_agreed agreed fs) p → IsBoundary fs p
boundary_made true fs p is = is
boundary_made false fs p is = subst (IsBoundary fs) (sym (boundary_of_none length_of p is)) (boundary_zero length_of fs)

-- a held boundary is one of the frames made
pub kept_boundary : (g : Settings) (past : List Entry) (p : ℕ) → is_held_boundary g past p ≡ true → IsBoundary (made g past) p
kept_boundary g past p is =
    let b = both (leb (held_from g past) p) (is_boundary (kept g past) p) is in
    boundary_made (resumption_agreed g past) (made g past) p (boundary_test length_of (kept g past) p b.1)

-- where resumption is agreed, what is held begins where it begins of all that was made
held_starts : (g : Settings) (past : List Entry) → resumption_agreed g past ≡ true → held_from g past ≡ first g past
held_starts g past agreed = ap (λ fs. first_held fs (told g past) g.hold) (kept_made g past agreed)

-- and so a boundary from there on is held
is_held : (g : Settings) (past : List Entry) (p : ℕ) → resumption_agreed g past ≡ true → IsHeldFrom g past p → is_held_boundary g past p ≡ true
is_held g past p agreed holds =
    subst (λ fs. (leb (first_held fs (told g past) g.hold) p && is_boundary fs p) ≡ true) (sym (kept_made g past agreed))
    (rw (le-leb (first g past) p holds.held, test_boundary length_of (made g past) p holds.boundary) refl)

-- a server whose SETUP had a token agreed
token_agreed : (g : Settings) (past : List Entry) (token : List ℕ) → g.side ≡ Server → asked_token (setup past) ≡ Some token → resumption_agreed g past ≡ true
token_agreed g past token side is = let server = ap is_client side in rw (server, is) refl

-- ---- RESUME

opened_only : (why : Option Cause) (o : Option Gone) (n : ℕ) → unless_closed why (opened_unless_gone o n) ≡ answer.Opened n → (why ≡ None) × (o ≡ None)
opened_only (Some w) o n is = absurd (cc)
opened_only None (Some x) n is = absurd (cc)
opened_only None None n is = (refl, refl)

-- in the words of the entries
pub kept_by : (g : Settings) (past : List Entry) (r : Resume) (token : Option (List ℕ)) → g.side ≡ Server → asked_token (setup past) ≡ token → closed g past ≡ None → gone_with (facts g past) r token ≡ None → CanResume g past r
unfolding facts
kept_by g past r None side is free none = absurd (cc)
kept_by g past r (Some token) side is free none =
    let u = unfaulty (facts g past) r token none in
    let agreed = token_agreed g past token side is in
    record {
      free = free;
      version = u.version;
      same_token = is ∙ ap Some (sym u.same);
      server_holds = record {
        held = subst (λ n. n ≤ r.server_position) (held_starts g past agreed) u.from_first;
        boundary = kept_boundary g past r.server_position u.boundary;
      };
      client_holds = u.client;
    }

keeps : (g : Settings) (past : List Entry) (r : Resume) → g.side ≡ Server → CanResume g past r → resume_gone (facts g past) r ≡ None
unfolding facts
keeps g past r side can =
    let holds = can.server_holds in
    let token = can.same_token in
    let agreed = token_agreed g past r.token side token in
    let u : Unfaulty (facts g past) r r.token = record {
      version = can.version;
      same = refl;
      from_first = subst (λ n. n ≤ r.server_position) (sym (held_starts g past agreed)) holds.held;
      to_end = boundary-le length_of (made g past) r.server_position holds.boundary;
      boundary = is_held g past r.server_position agreed holds;
      client = can.client_holds;
    } in
    subst (λ o. gone_with (facts g past) r o ≡ None) (sym token) (no_fault (facts g past) r r.token u)

pub resume_accepted : (g : Settings) (past : List Entry) (r : Resume) (taken : Bool) → g.side ≡ Server → (answer_to g past (event.Open (Some (frame.Resume r)) taken) ≡ answer.Opened (openings past + 1)) ↔ CanResume g past r
unfolding facts
resume_accepted g past r taken side = (
  λ is. let b = opened_only (closed g past) (resume_gone (facts g past) r) (openings past + 1) is in kept_by g past r (asked_token (setup past)) side refl b.0 b.1,
  λ can. rw (can.free, keeps g past r side can) refl,
)

-- a SETUP was accepted only on a session that is begun
setup_begun : (past : List Entry) (token : List ℕ) → asked_token (setup past) ≡ Some token → begun past ≡ true
unfolding setup begun
setup_begun [] token is = absurd (cc)
setup_begun (x ∷ past) token is = grind (arith, common_steps, setup_begun past token)

pub resumes_begun : (g : Settings) (past : List Entry) (r : Resume) → CanResume g past r → begun past ≡ true
resumes_begun g past r can = setup_begun past r.token can.same_token

pub resumes_agreed : (g : Settings) (past : List Entry) (r : Resume) → g.side ≡ Server → CanResume g past r → resumption_agreed g past ≡ true
resumes_agreed g past r side can = token_agreed g past r.token side can.same_token

-- ---- a RESUME that is refused

no_lines : (here carrying : Bool) → (if here then [] ++ if_carrying carrying [] else []) ≡ []
no_lines true true = refl
no_lines true false = refl
no_lines false carrying = refl

pub refused_due : (g : Settings) (past : List Entry) (who : ℕ) (f : Option Frame) (taken : Bool) (why : Gone) (c : ℕ)
    → due g (refused_resume who f taken why ∷ past) c ≡ due g past c
unfolding due
refused_due g past who f taken why c = rw (no_lines (is_live (live past) c) (carrying g past)) (append-nil (due g past c))

stays_closed : (before : Option Cause) → first_of before None ≡ before
stays_closed None = refl
stays_closed (Some why) = refl

pub refused_closed : (g : Settings) (past : List Entry) (who : ℕ) (f : Option Frame) (taken : Bool) (why : Gone)
    → closed g (refused_resume who f taken why ∷ past) ≡ closed g past
unfolding closed
refused_closed g past who f taken why = stays_closed (closed g past)

pub refused_live : (past : List Entry) (who : ℕ) (f : Option Frame) (taken : Bool) (why : Gone)
    → live (refused_resume who f taken why ∷ past) ≡ live past
unfolding live
refused_live past who f taken why = refl

-- ---- RESUME_OK

pub record IsOkHandled (here : Bool) (why : Option Cause) (busy carries : Bool) (o : Option Gone) : Type 0 where
  pub live : here ≡ true
  pub free : why ≡ None
  pub place : busy ≡ false
  pub waits : carries ≡ false
  pub holds : o ≡ None

-- the answer, test by test
ok_answer : Bool → Option Cause → Bool → Bool → Option Gone → ℕ → ℕ → Answer
ok_answer here why busy carries o now queued =
    cond here (unless_closed why (cond busy (answer.OutBusy queued) (cond carries (answer.Violation rule.NotNow) (handled_unless_gone o)))) (answer.Stale now)

handled_only : (here : Bool) (why : Option Cause) (busy carries : Bool) (o : Option Gone) (now queued : ℕ)
    → ok_answer here why busy carries o now queued ≡ answer.Handled → IsOkHandled here why busy carries o
unfolding ok_answer
handled_only false why busy carries o now queued is = absurd (cc)
handled_only true (Some x) busy carries o now queued is = absurd (cc)
handled_only true None true carries o now queued is = absurd (cc)
handled_only true None false true o now queued is = absurd (cc)
handled_only true None false false (Some x) now queued is = absurd (cc)
handled_only true None false false None now queued is = record { live = refl; free = refl; place = refl; waits = refl; holds = refl }

pub ok_handled_so : (g : Settings) (past : List Entry) (conn position : ℕ) → Legal g past
    → IsOkHandled (is_live (live past) conn) (closed g past) (ltb (out_limit_of g) (queued g past + length_of (frame.ResumeOk position) + ANSWER_ROOM)) (carrying g past) (ok_gone (facts g past) position)
    → CanGoOn g past conn position
unfolding facts
ok_handled_so g past conn position legal h =
    let u = ok_unfaulty (facts g past) position h.holds in
    let agreed = waiting_agreed g past conn legal h.waits h.live in
    record {
      here = h.live;
      waits = h.waits;
      free = h.free;
      client_holds = record {
        held = subst (λ n. n ≤ position) (held_starts g past agreed) u.from_first;
        boundary = kept_boundary g past position u.boundary;
      };
    }

goes_on : (g : Settings) (past : List Entry) (conn position : ℕ) → Legal g past → CanGoOn g past conn position → ok_gone (facts g past) position ≡ None
unfolding facts
goes_on g past conn position legal can =
    let holds = can.client_holds in
    let agreed = waiting_agreed g past conn legal can.waits can.here in
    ok_no_fault (facts g past) position (record {
      from_first = subst (λ n. n ≤ position) (sym (held_starts g past agreed)) holds.held;
      to_end = boundary-le length_of (made g past) position holds.boundary;
      boundary = is_held g past position agreed holds;
    })

-- the queue has no room for what answers a frame of that length
abbrev pub is_busy : Settings → List Entry → ℕ → Bool
is_busy g past position = ltb (out_limit_of g) (queued g past + length_of (frame.ResumeOk position) + ANSWER_ROOM)

pub ok_only : (g : Settings) (past : List Entry) (conn position : ℕ) → Legal g past → answer_to g past (event.Came conn (frame.ResumeOk position)) ≡ answer.Handled → CanGoOn g past conn position
unfolding facts ok_answer
ok_only g past conn position legal is =
    ok_handled_so g past conn position legal
    (handled_only (is_live (live past) conn) (closed g past) (is_busy g past position) (carrying g past) (ok_gone (facts g past) position) (live past) (queued g past) is)

-- where the client can go on, it does unless the queue is full
pub ok_unless_busy : (g : Settings) (past : List Entry) (conn position : ℕ) → Legal g past → CanGoOn g past conn position
    → answer_to g past (event.Came conn (frame.ResumeOk position)) ≡ cond (is_busy g past position) (answer.OutBusy (queued g past)) answer.Handled
unfolding facts
ok_unless_busy g past conn position legal can = rw (can.here, can.free, can.waits, goes_on g past conn position legal can) refl

live_some : (now conn : ℕ) → is_live now conn ≡ true → (now == 0) ≡ false
live_some now conn here = grind (arith, common_steps)

-- and it never is
never_busy : (g : Settings) (past : List Entry) (conn position : ℕ) → IsChecked g → IsLawful g past → CanGoOn g past conn position → is_busy g past position ≡ false
never_busy g past conn position checked h can =
    let room = ok_room g past position checked h (record { here = live_some (live past) conn can.here; waits = can.waits; free = can.free }) in
    grind (arith, nat_tests)

pub ok_handled : (g : Settings) (past : List Entry) (conn position : ℕ) → IsChecked g → IsLawful g past → (answer_to g past (event.Came conn (frame.ResumeOk position)) ≡ answer.Handled) ↔ CanGoOn g past conn position
ok_handled g past conn position checked h = (
  ok_only g past conn position h.legal,
  λ can. ok_unless_busy g past conn position h.legal can ∙ ap (λ b. cond b (answer.OutBusy (queued g past)) answer.Handled) (never_busy g past conn position checked h can),
)

pub goes_on_agreed : (g : Settings) (past : List Entry) (conn position : ℕ) → Legal g past → CanGoOn g past conn position → resumption_agreed g past ≡ true
goes_on_agreed g past conn position legal can = waiting_agreed g past conn legal can.waits can.here
