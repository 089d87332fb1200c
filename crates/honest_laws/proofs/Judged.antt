-- Which answers accuse the peer: where what comes is as an honest peer sends it, none does.
use Rattle.std.proofs.Common.{◌≡◌, ◌≤◌, ◌+◌, ◌&&◌, ◌||◌, ℕ, Bool, true, false, cond, List, Option, Some, None, refl, arith}
use Rattle.std.specs.Prelude.{nat_lt}
use Rattle.std.proofs.lemmas.Grind.{common_steps}
use Rattle.std.proofs.lemmas.Bool.Decides.{nat_tests}
use Rattle.rs_wire.specs.Message.{size_of}
use Rattle.rs_wire.specs.Settings.{out_limit_of}
use Rattle.rs_wire.specs.declared.fault.Cause.{Cause}
use Rattle.rs_wire.specs.declared.fault.Gone.{Gone}
use Rattle.rs_wire.specs.declared.fault.Rule.{Rule}
use Rattle.rs_wire.specs.declared.fault.Rule.TheVariants as rule
use Rattle.rs_wire.specs.declared.settings.Settings.{Settings}
use Rattle.rs_frame.specs.declared.frame.Frame.{Frame}
use Rattle.rs_frame.specs.declared.frame.Frame.TheVariants as frame
use Rattle.rs_frame.specs.declared.frame.Request.{Request}
use Rattle.rs_frame.specs.Spelling.{length_of}
use Rattle.tape.specs.declared.event.Event.{Event}
use Rattle.tape.specs.declared.event.Event.TheVariants as event
use Rattle.tape.specs.declared.answer.Answer.{Answer}
use Rattle.tape.specs.declared.answer.Answer.TheVariants as answer
use Rattle.fragment.specs.Joining.{Gathered, with_part}
use Rattle.stream_model.specs.Known.{hears_on, is_peers_next}
use Rattle.stream_model.specs.Arriving.{over_credit_on}
use Rattle.session_model.specs.declared.numbers.TheConstants.{ANSWER_ROOM}
use Rattle.session_model.specs.Life.{is_live}
use Rattle.session_model.specs.Answers.{Facts, answer_by, answer_spends, breaks_credit, broken_rule, handled_unless, handled_unless_gone, is_too_large, ok_gone, payload_rule, peer_error, spends, to_frame, to_known, unless_closed, unless_error, waiting_rule}
use Rattle.honest_laws.specs.Accusing.{accuses}
use Rattle.honest_laws.proofs.Plain.{IsPlain}

-- ---- the rules

-- a rule, where one is broken, is one that depends on limits
abbrev DependsOnLimits : Option Rule → Type 0
DependsOnLimits broken = accuses (handled_unless broken) ≡ false

-- what an honest peer's frame keeps to, beside being plain
abbrev pub KeepsTo : Settings → Facts → Frame → Type 0
KeepsTo g t (frame.Request r) = is_peers_next g.side t.streams r.stream ≡ true
KeepsTo g t (frame.Payload s follows complete next message) =
    follows ≡ false → over_credit_on (t.streams.kept s) (with_part (t.unfinished s) message complete next).next ≡ None
KeepsTo g t f = Unit {0}

limits_only : (large spent : Bool) (size : ℕ) (more : Option Rule) → DependsOnLimits more → DependsOnLimits (cond large (Some (rule.TooLarge size)) (cond spent (Some rule.PositionSpent) more))
limits_only true spent size more last = refl
limits_only false true size more last = refl
limits_only false false size more last = last

spent_only : (spent : Bool) → DependsOnLimits (cond spent (Some rule.PositionSpent) None)
spent_only true = refl
spent_only false = refl

request_judged : (g : Settings) (t : Facts) (r : Request) → is_peers_next g.side t.streams r.stream ≡ true → DependsOnLimits (broken_rule g t (frame.Request r))
unfolding broken_rule
request_judged g t r next = rw next (limits_only (is_too_large g true r.message) (spends g t (frame.Request r) || answer_spends g t r) (size_of r.message) None refl)

no_credit_broken : (t : Facts) (s : ℕ) (follows next : Bool) → (follows ≡ false → over_credit_on (t.streams.kept s) next ≡ None) → breaks_credit t s follows next ≡ None
no_credit_broken t s true next kept = refl
no_credit_broken t s false next kept = rw (kept refl) refl

payload_judged : (g : Settings) (t : Facts) (s : ℕ) (follows : Bool) (sum : Gathered) (f : Frame) → (follows ≡ false → over_credit_on (t.streams.kept s) sum.next ≡ None)
    → DependsOnLimits (payload_rule g t s follows sum f)
payload_judged g t s follows sum f kept =
    rw (no_credit_broken t s follows sum.next kept) (limits_only (is_too_large g (hears_on (t.streams.kept s)) sum.message) (spends g t f) (size_of sum.message) None refl)

not_ahead : (agreed : Bool) (made position : ℕ) → position ≤ made → (agreed && nat_lt made position) ≡ false
not_ahead true made position le = grind (arith, nat_tests)
not_ahead false made position le = refl

keepalive_judged : (g : Settings) (t : Facts) (respond : Bool) (position : ℕ) (content : List ℕ) → position ≤ t.made.position → DependsOnLimits (broken_rule g t (frame.Keepalive respond position content))
unfolding broken_rule
keepalive_judged g t respond position content le = rw (not_ahead _ t.made.position position le) refl

plain_judged : (g : Settings) (t : Facts) (f : Frame) → IsPlain t.made.position f → KeepsTo g t f → DependsOnLimits (broken_rule g t f)
unfolding broken_rule
plain_judged g t (frame.Setup s) plain keeps = absurd plain
plain_judged g t (frame.Resume r) plain keeps = absurd plain
plain_judged g t (frame.ResumeOk position) plain keeps = absurd plain
plain_judged g t (frame.Ext stream flags extended rest) plain keeps = absurd plain
plain_judged g t (frame.Unknown stream number flags rest) plain keeps = absurd plain
plain_judged g t (frame.Request r) plain keeps = request_judged g t r keeps
plain_judged g t (frame.Payload s follows complete next message) plain keeps =
    payload_judged g t s follows (with_part (t.unfinished s) message complete next) (frame.Payload s follows complete next message) keeps
plain_judged g t (frame.RequestN s n) plain keeps = spent_only (spends g t (frame.RequestN s n))
plain_judged g t (frame.Cancel s) plain keeps = spent_only (spends g t (frame.Cancel s))
plain_judged g t (frame.Error s code content) plain keeps = spent_only (spends g t (frame.Error s code content))
plain_judged g t (frame.Keepalive respond position content) plain keeps = keepalive_judged g t respond position content plain
plain_judged g t (frame.Lease ttl count metadata) plain keeps = refl
plain_judged g t (frame.MetadataPush metadata) plain keeps = refl

-- ---- the answers

pub carried_judged : (g : Settings) (t : Facts) (f : Frame) → t.carrying ≡ true → IsPlain t.made.position f → KeepsTo g t f → accuses (to_known g t f) ≡ false
carried_judged g t (frame.ResumeOk position) on plain keeps = absurd plain
carried_judged g t f on plain keeps =
    elim t.carrying as (λ v. t.carrying ≡ v → accuses (handled_unless (cond v (broken_rule g t f) (waiting_rule f))) ≡ false) [ true ↦ λ is. plain_judged g t f plain keeps | false ↦ λ off. absurd (cc) ] refl

gone_judged : (why : Option Gone) → accuses (handled_unless_gone why) ≡ false
gone_judged None = refl
gone_judged (Some why) = refl

pub waiting_judged : (g : Settings) (t : Facts) (position : ℕ) → t.carrying ≡ false → accuses (to_known g t (frame.ResumeOk position)) ≡ false
waiting_judged g t position off =
    elim t.carrying as (λ v. t.carrying ≡ v → accuses (cond v (answer.Violation rule.NotNow) (handled_unless_gone (ok_gone t position))) ≡ false) [ true ↦ λ is. absurd (cc) | false ↦ λ is. gone_judged (ok_gone t position) ] refl

-- a frame that comes accuses only on the live connection of a session that is not closed, and where it is no ERROR on stream 0
error_judged : (code : Option ℕ) (next : Answer) → (code ≡ None → accuses next ≡ false) → accuses (unless_error code next) ≡ false
error_judged (Some code) next judged = refl
error_judged None next judged = judged refl

busy_judged : (busy : Bool) (n : ℕ) (next : Answer) → accuses next ≡ false → accuses (cond busy (answer.OutBusy n) next) ≡ false
busy_judged true n next judged = refl
busy_judged false n next judged = judged

closed_judged : (why : Option Cause) (next : Answer) → (why ≡ None → accuses next ≡ false) → accuses (unless_closed why next) ≡ false
closed_judged (Some why) next judged = refl
closed_judged None next judged = judged refl

live_judged : (here : Bool) (n : ℕ) (next : Answer) → (here ≡ true → accuses next ≡ false) → accuses (cond here next (answer.Stale n)) ≡ false
live_judged true n next judged = judged refl
live_judged false n next judged = refl

pub frame_judged : (g : Settings) (t : Facts) (conn : ℕ) (f : Frame) → (is_live t.live conn ≡ true → t.closed ≡ None → peer_error f ≡ None → accuses (to_known g t f) ≡ false)
    → accuses (to_frame g t conn f) ≡ false
frame_judged g t conn f judged =
    live_judged (is_live t.live conn) t.live _ (λ here. closed_judged t.closed _ (λ free.
    busy_judged (nat_lt (out_limit_of g) (t.queued + length_of f + ANSWER_ROOM)) t.queued _ (error_judged (peer_error f) (to_known g t f) (λ none. judged here free none))))

-- and no other event does
pub event_judged : (g : Settings) (t : Facts) (e : Event) → ((conn : ℕ) (f : Frame) → e ≡ event.Came conn f → accuses (to_frame g t conn f) ≡ false) → accuses (answer_by g t e) ≡ false
event_judged g t (event.Came conn f) judged = judged conn f refl
event_judged g t (event.Open first taken) judged = grind (arith, common_steps)
event_judged g t (event.Cut conn) judged = grind (arith, common_steps)
event_judged g t (event.Draw conn room) judged = grind (arith, common_steps)
event_judged g t (event.Bad conn number) judged = grind (arith, common_steps)
event_judged g t (event.Tick now) judged = grind (arith, common_steps)
event_judged g t (event.Asked asked) judged = grind (arith, common_steps)
