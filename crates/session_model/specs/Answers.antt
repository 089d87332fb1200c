-- The answer to an event, after the entries so far.
use Rattle.std.specs.Prelude.{ℕ, ◌+◌, ◌==◌, ◌&&◌, ◌||◌, Bool, true, false, not, nat_lt, min, if◌then◌else◌, List, [], ◌∷◌, length, Option, Some, None, is_some}
use Rattle.std.specs.Option.{option_or, option_map}
use Rattle.rs_wire.specs.Message.{option_length, size_of}
use Rattle.rs_wire.specs.Ranges.{first_true}
use Rattle.rs_wire.specs.Settings.{out_limit_of}
use Rattle.rs_wire.specs.declared.message.Message.{Message}
use Rattle.rs_wire.specs.declared.delivery.Delivery.{Delivery}
use Rattle.rs_wire.specs.declared.delivery.Job.{Job}
use Rattle.rs_wire.specs.declared.fault.Cause.{Cause}
use Rattle.rs_wire.specs.declared.fault.Gone.{Gone}
use Rattle.rs_wire.specs.declared.fault.Gone.TheVariants as gone
use Rattle.rs_wire.specs.declared.fault.Refusal.{Refusal}
use Rattle.rs_wire.specs.declared.fault.Refusal.TheVariants as refusal
use Rattle.rs_wire.specs.declared.fault.Rule.{Rule}
use Rattle.rs_wire.specs.declared.fault.Rule.TheVariants as rule
use Rattle.rs_wire.specs.declared.fault.SetupFault.{SetupFault}
use Rattle.rs_wire.specs.declared.fault.SetupFault.TheVariants as fault
use Rattle.rs_wire.specs.declared.settings.Settings.{Settings}
use Rattle.rs_wire.specs.declared.call.Call.{Call}
use Rattle.rs_wire.specs.declared.call.Call.TheVariants as call
use Rattle.rs_frame.specs.declared.frame.Frame.{Frame}
use Rattle.rs_frame.specs.declared.frame.Frame.TheVariants as frame
use Rattle.rs_frame.specs.declared.frame.Request.{Request}
use Rattle.rs_frame.specs.declared.frame.Resume.{Resume}
use Rattle.rs_frame.specs.declared.frame.Setup.{Setup}
use Rattle.rs_frame.specs.Spelling.{length_of}
use Rattle.rs_frame.specs.Framed.{framed_all}
use Rattle.fragment.specs.Joining.{Gathered, with_part}
use Rattle.rs_frame.specs.Table.{flag}
use Rattle.setup_core.specs.Setup.{setup_fault}
use Rattle.tape.specs.declared.event.Event.{Event}
use Rattle.tape.specs.declared.event.Event.TheVariants as event
use Rattle.tape.specs.declared.answer.Answer.{Answer}
use Rattle.tape.specs.declared.answer.Answer.TheVariants as answer
use Rattle.tape.specs.declared.entry.Entry.{Entry}
use Rattle.position.specs.Boundaries.{pos}
use Rattle.resume_core.specs.Resumption.{resume_fault, ok_fault}
use Rattle.stream_model.specs.Known.{Known, limits_of, next_id, is_peers_next, hears_on, front_of}
use Rattle.stream_model.specs.Refused.{by_state, by_credit, by_ids, by_live}
use Rattle.stream_model.specs.Arriving.{over_credit_on}
use Rattle.keepalive.specs.Times.{Times, due_at}
use Rattle.keepalive.specs.declared.timer.Due.{Due}
use Rattle.keepalive.specs.declared.timer.Due.TheVariants.{Dead, Send, Nothing}
use Rattle.lease.specs.Lease.{lease_fault}
use Rattle.lease.specs.Sum.{Sum}
use Rattle.lease.specs.declared.requester.Terms.{Terms}
use Rattle.lease.specs.declared.requester.LeaseFault.{LeaseFault}
use Rattle.lease.specs.declared.requester.LeaseFault.TheVariants.{Used, Over}
use Rattle.session_model.specs.Life.{openings, live, is_live, carrying, begun, setup, closed, agrees_leases, agrees_resumption, asked_token}
use Rattle.session_model.specs.Moments.{moment_with, times}
use Rattle.session_model.specs.Leases.{covers, lease, sum}
use Rattle.session_model.specs.declared.facts.Counted.{Counted}
use Rattle.session_model.specs.declared.numbers.TheConstants.{ANSWER_ROOM, EXTENSION, MAY_IGNORE}
use Rattle.session_model.specs.Streams.{known, unfinished, turned_away_for}
use Rattle.session_model.specs.Frames.{closing_error, turned_away, spoken, in_fragments, made, handled, held_from, is_held_boundary, queued, tells}

-- how many frames there are, and the position after them
abbrev pub counted : List Frame → Counted
counted fs = record { frames = length fs; position = pos fs }

-- what an answer is made of
pub record Facts : Type 0 where
  -- how many openings there were
  pub openings : ℕ
  -- the live connection, 0 for none
  pub live : ℕ
  pub carrying : Bool
  pub begun : Bool
  pub setup : Option Setup
  pub closed : Option Cause
  pub made : Counted
  pub handled : Counted
  -- the position from which on frames are held, 0 where resumption is not agreed
  pub first : ℕ
  -- a held frame begins or ends at a position
  pub boundary : ℕ → Bool
  -- how many bytes wait to be drawn
  pub queued : ℕ
  -- by which the peer counts as dead, and a KEEPALIVE is due, with the moment
  pub times : Times
  -- by which this end may make requests
  pub lease : Option Terms
  -- of what this end lets its peer ask
  pub sum : Sum
  pub streams : Known
  -- what came, on a stream, of a message that is not whole yet
  pub unfinished : ℕ → Gathered

-- the facts after these entries
unfoldable pub facts : Settings → List Entry → Facts
facts g past = record {
  openings = openings past;
  live = live past;
  carrying = carrying g past;
  begun = begun past;
  setup = setup past;
  closed = closed g past;
  made = counted (made g past);
  handled = counted (handled past);
  first = held_from g past;
  boundary = is_held_boundary g past;
  queued = queued g past;
  times = times g past;
  lease = lease g past;
  sum = sum g past;
  streams = known g past;
  unfinished = unfinished g past;
}

-- leases are agreed
abbrev pub leases_by : Settings → Facts → Bool
leases_by g t = agrees_leases g t.setup

-- the next request of the peer's is covered
abbrev pub covered_by : Settings → Facts → Bool
covered_by g t = covers (leases_by g t) t.sum

-- ---- resumption (RSocket 1.0, "Resuming Operation")

-- the first thing that is wrong with a RESUME, where the session resumes by this token
abbrev pub gone_with : Facts → Resume → Option (List ℕ) → Option Gone
gone_with t r None = Some gone.Token
gone_with t r (Some token) = resume_fault r token t.first t.made.position (t.boundary r.server_position) t.handled.position

-- a session that is not begun, or whose SETUP had no token, is resumed by none
abbrev pub resume_gone : Facts → Resume → Option Gone
resume_gone t r = gone_with t r (asked_token t.setup)

-- the first thing that is wrong with the position of a RESUME_OK
abbrev pub ok_gone : Facts → ℕ → Option Gone
ok_gone t position = ok_fault position t.first t.made.position (t.boundary position)

-- ---- an opening

abbrev pub opened_unless : Option SetupFault → ℕ → Answer
opened_unless None number = answer.Opened number
opened_unless (Some f) number = answer.SetupRefused f

abbrev pub opened_unless_gone : Option Gone → ℕ → Answer
opened_unless_gone None number = answer.Opened number
opened_unless_gone (Some why) number = answer.ResumeRefused why

-- a client begins once, and opens again only to resume; a server judges a RESUME, and any other first frame of a session that is not begun
abbrev pub to_first : Settings → Facts → Option Frame → Bool → Answer
to_first g t None taken = if t.begun && not g.resume then answer.Stale t.live else answer.Opened (t.openings + 1)
to_first g t (Some (frame.Resume r)) taken = opened_unless_gone (resume_gone t r) (t.openings + 1)
to_first g t (Some first) taken = if t.begun then answer.SetupRefused fault.TokenTaken else opened_unless (setup_fault first g taken) (t.openings + 1)

abbrev pub unless_closed : Option Cause → Answer → Answer
unless_closed (Some why) next = answer.Closed why
unless_closed None next = next

abbrev pub to_open : Settings → Facts → Option Frame → Bool → Answer
to_open g t first taken = unless_closed t.closed (to_first g t first taken)

-- ---- a cut and a draw

abbrev pub on_live : Facts → ℕ → Answer → Answer
on_live t conn next = if is_live t.live conn then next else answer.Stale t.live

abbrev pub to_cut : Facts → ℕ → Answer
to_cut t conn = on_live t conn answer.Parted

abbrev pub to_draw : Facts → ℕ → ℕ → Answer
to_draw t conn room = on_live t conn (if t.queued == 0 then answer.NotYet else answer.Drawn (min room t.queued))

-- ---- what comes

-- room stays in the queue for what answers a frame of this length
abbrev pub unless_busy : Settings → Facts → ℕ → Answer → Answer
unless_busy g t len next = if nat_lt (out_limit_of g) (t.queued + len + ANSWER_ROOM) then answer.OutBusy t.queued else next

-- the code of an ERROR on stream 0, which closes the session whatever it is (RSocket 1.0, "Error Codes")
abbrev pub peer_error : Frame → Option ℕ
peer_error (frame.Error stream code content) = if stream == 0 then Some code else None
peer_error _ = None

abbrev pub unless_error : Option ℕ → Answer → Answer
unless_error (Some code) next = answer.PeerError code
unless_error None next = next

-- a frame of a type that this end doesn't know breaks a rule, but where it may be ignored (RSocket 1.0, "Frame Header Format")
abbrev pub unknown_type : ℕ → ℕ → Option Rule
unknown_type number flags = if flag MAY_IGNORE flags then None else Some (rule.UnknownType number)

-- the position of the frames handled would pass the top
abbrev pub spends : Settings → Facts → Frame → Bool
spends g t f = nat_lt g.top_position (t.handled.position + length_of f)

-- a KEEPALIVE tells a position above that of the frames made, where resumption is agreed
abbrev pub is_ahead : Settings → Facts → ℕ → Bool
is_ahead g t position = agrees_resumption g t.setup && nat_lt t.made.position position

-- the position of the frames made would pass the top by the answer to a request that opens no stream
abbrev pub spends_away : Settings → Facts → ℕ → Option (List ℕ) → Bool
spends_away g t stream None = false
spends_away g t stream (Some word) = nat_lt g.top_position (t.made.position + length_of (turned_away stream word))

abbrev pub answer_spends : Settings → Facts → Request → Bool
answer_spends g t r = spends_away g t r.stream (turned_away_for g (covered_by g t) t.streams r)

-- a message is taken in, and has too many bytes
abbrev pub is_too_large : Settings → Bool → Message → Bool
is_too_large g taken message = taken && nat_lt g.max_payload (size_of message)

-- an item finds no credit where its message becomes whole
abbrev pub breaks_credit : Facts → ℕ → Bool → Bool → Option Rule
breaks_credit t s follows next = if follows then None else option_map rule.OverCredit (over_credit_on (t.streams.kept s) next)

-- the least rule that a payload breaks, by what it makes of its message
abbrev pub payload_rule : Settings → Facts → ℕ → Bool → Gathered → Frame → Option Rule
payload_rule g t s follows sum f =
    option_or (breaks_credit t s follows sum.next) (first_true (
    (is_too_large g (hears_on (t.streams.kept s)) sum.message, rule.TooLarge (size_of sum.message))
    ∷ (spends g t f, rule.PositionSpent)
    ∷ []))

-- the least rule that a frame breaks
unfoldable pub broken_rule : Settings → Facts → Frame → Option Rule
broken_rule g t (frame.Request r) = first_true (
    (not (is_peers_next g.side t.streams r.stream), rule.StreamId r.stream)
    ∷ (is_too_large g true r.message, rule.TooLarge (size_of r.message))
    ∷ (spends g t (frame.Request r) || answer_spends g t r, rule.PositionSpent)
    ∷ [])
broken_rule g t (frame.Payload s follows complete next message) =
    payload_rule g t s follows (with_part (t.unfinished s) message complete next) (frame.Payload s follows complete next message)
broken_rule g t (frame.RequestN s n) = first_true ((spends g t (frame.RequestN s n), rule.PositionSpent) ∷ [])
broken_rule g t (frame.Cancel s) = first_true ((spends g t (frame.Cancel s), rule.PositionSpent) ∷ [])
broken_rule g t (frame.Error s code content) = first_true ((spends g t (frame.Error s code content), rule.PositionSpent) ∷ [])
broken_rule g t (frame.Keepalive respond position content) = first_true ((is_ahead g t position, rule.Ahead t.made.position) ∷ [])
broken_rule g t (frame.Lease ttl count metadata) = None
broken_rule g t (frame.MetadataPush metadata) = None
broken_rule g t (frame.Unknown stream number flags rest) = unknown_type number flags
broken_rule g t (frame.Ext stream flags extended rest) = unknown_type EXTENSION flags
broken_rule g t _ = Some rule.NotNow

-- nothing but RESUME_OK may come where it is waited for
abbrev pub waiting_rule : Frame → Option Rule
waiting_rule (frame.Unknown stream number flags rest) = option_or (unknown_type number flags) (Some rule.NotNow)
waiting_rule (frame.Ext stream flags extended rest) = option_or (unknown_type EXTENSION flags) (Some rule.NotNow)
waiting_rule _ = Some rule.NotNow

-- the least rule that a frame breaks on the live connection, which carries or waits for RESUME_OK
abbrev pub rule_now : Settings → Facts → Frame → Option Rule
rule_now g t f = if t.carrying then broken_rule g t f else waiting_rule f

abbrev pub handled_unless : Option Rule → Answer
handled_unless None = answer.Handled
handled_unless (Some r) = answer.Violation r

abbrev pub handled_unless_gone : Option Gone → Answer
handled_unless_gone None = answer.Handled
handled_unless_gone (Some why) = answer.ResumeRefused why

abbrev pub to_known : Settings → Facts → Frame → Answer
to_known g t (frame.ResumeOk position) = if t.carrying then answer.Violation rule.NotNow else handled_unless_gone (ok_gone t position)
to_known g t f = handled_unless (rule_now g t f)

abbrev pub to_frame : Settings → Facts → ℕ → Frame → Answer
to_frame g t conn f = on_live t conn (unless_closed t.closed (unless_busy g t (length_of f) (unless_error (peer_error f) (to_known g t f))))

abbrev pub to_bad : Settings → Facts → ℕ → ℕ → Answer
to_bad g t conn number = on_live t conn (unless_closed t.closed (unless_busy g t 0 (answer.Violation (rule.BadFrame number))))

-- ---- queueing

-- frames go out at once, and find no room in the queue for themselves and their length fields
abbrev pub find_full : Settings → Facts → List Frame → Bool
find_full g t fs = t.carrying && nat_lt (out_limit_of g) (t.queued + length (framed_all fs))

-- ---- a tick (RSocket 1.0, "KEEPALIVE Frame")

-- the KEEPALIVE that asks for an answer
abbrev pub asks_alive : Settings → Facts → Frame
asks_alive g t = frame.Keepalive true (tells (agrees_resumption g t.setup) t.handled.position) []

-- it goes out where the connection carries and the queue has room for it
abbrev pub to_due : Settings → Facts → Due → Answer
to_due g t (Dead last) = answer.Dead last
to_due g t Send = if t.carrying && not (find_full g t (asks_alive g t ∷ [])) then answer.Sent else answer.Quiet
to_due g t Nothing = answer.Quiet

abbrev pub due_now : Facts → Event → Due
due_now t e = due_at t.times (moment_with t.times.moment e)

-- without a live connection, and once the session is closed, a moment is taken and nothing else is done
abbrev pub to_tick : Settings → Facts → ℕ → Answer
to_tick g t now = if (t.live == 0) || is_some t.closed then answer.Quiet else to_due g t (due_now t (event.Tick now))

-- ---- a call

-- the session is closed; what waits can still be taken
abbrev pub if_none_waits : {A : Type 0} → List A → Option Refusal → Option Refusal
if_none_waits [] more = more
if_none_waits (x ∷ xs) more = None

abbrev pub closed_refusal : Option Cause → Option Refusal
closed_refusal None = None
closed_refusal (Some why) = Some (refusal.Closed why)

abbrev pub by_closed : Facts → Call → Option Refusal
by_closed t (call.Take s) = if_none_waits (t.streams.waits s) (closed_refusal t.closed)
by_closed t call.TakeJob = if_none_waits t.streams.jobs (closed_refusal t.closed)
by_closed t _ = closed_refusal t.closed

-- how many bytes a call sends on
abbrev pub size_in : Call → ℕ
size_in (call.Request kind initial message complete) = size_of message
size_in (call.Next s message complete) = size_of message
size_in (call.Fail s code content) = length content
size_in (call.Push metadata) = length metadata
size_in (call.Lease ttl count metadata) = option_length metadata
size_in _ = 0

abbrev pub by_size : Settings → Call → Option Refusal
by_size g asked = if nat_lt g.max_payload (size_in asked) then Some (refusal.TooLarge (size_in asked)) else None

-- a LEASE needs that leases are agreed
abbrev pub by_agreement : Settings → Facts → Call → Option Refusal
by_agreement g t (call.Lease ttl count metadata) = if t.begun && not (leases_by g t) then Some refusal.WrongKind else None
by_agreement g t _ = None

-- why the lease lets no request through
abbrev pub lease_refused : Option LeaseFault → Option Refusal
lease_refused None = None
lease_refused (Some (Used count)) = Some (refusal.NoLease count)
lease_refused (Some (Over expires)) = Some (refusal.LeaseOver expires)

-- where leases are agreed, a request needs one that is neither used up nor over (RSocket 1.0, "Lease Semantics")
abbrev pub by_lease : Settings → Facts → Call → Option Refusal
by_lease g t (call.Request kind initial message complete) = if t.begun && leases_by g t then lease_refused (lease_fault t.lease t.times.moment) else None
by_lease g t _ = None

-- frames can't be made: there is no connection yet, no room in the queue, or the position would pass the top
abbrev pub refused_frames : Settings → Facts → List Frame → Option Refusal
refused_frames g t fs = first_true (
    (not t.begun, refusal.NotConnected)
    ∷ (find_full g t fs, refusal.OutFull t.queued)
    ∷ (nat_lt g.top_position (t.made.position + pos fs), refusal.PositionSpent)
    ∷ [])

-- what a call would say can't be sent
abbrev pub refused_sending : Settings → Facts → Option Frame → Option Refusal
refused_sending g t None = None
refused_sending g t (Some f) = refused_frames g t (in_fragments g.mtu f)

-- a frame of the connection alone, which no position counts, needs one that carries it
abbrev pub refused_beside : Settings → Facts → Frame → Option Refusal
refused_beside g t f = first_true (
    (not t.carrying, refusal.NotConnected)
    ∷ (find_full g t (f ∷ []), refusal.OutFull t.queued)
    ∷ [])

-- Close needs no connection, and room for its ERROR where there is one
abbrev pub by_sending : Settings → Facts → Call → Option Refusal
by_sending g t call.Close = if find_full g t (closing_error [] ∷ []) then Some (refusal.OutFull t.queued) else None
by_sending g t (call.Push metadata) = refused_beside g t (frame.MetadataPush metadata)
by_sending g t (call.Lease ttl count metadata) = refused_beside g t (frame.Lease ttl count metadata)
by_sending g t asked = refused_sending g t (spoken t.streams (next_id g.side t.streams) asked)

-- the first refusal of a call
unfoldable pub refused_call : Settings → Facts → Call → Option Refusal
refused_call g t asked =
    option_or (by_closed t asked)
    (option_or (by_state t.streams asked)
    (option_or (by_agreement g t asked)
    (option_or (by_size g asked)
    (option_or (by_credit t.streams asked)
    (option_or (by_lease g t asked)
    (option_or (by_ids (limits_of g) t.streams asked)
    (option_or (by_live (limits_of g) t.streams asked)
    (by_sending g t asked))))))))

abbrev pub got : Option Delivery → Answer
got None = answer.NotYet
got (Some delivery) = answer.Got delivery

abbrev pub got_job : Option Job → Answer
got_job None = answer.NotYet
got_job (Some job) = answer.GotJob job

-- the answer to a call that is not refused
abbrev pub accepted : Settings → Facts → Call → Answer
accepted g t (call.Request kind initial message complete) = answer.Started (next_id g.side t.streams)
accepted g t (call.Take s) = got (front_of (t.streams.waits s))
accepted g t call.TakeJob = got_job (front_of t.streams.jobs)
accepted g t _ = answer.Done

abbrev pub refused_or : Option Refusal → Answer → Answer
refused_or None next = next
refused_or (Some why) next = answer.Refused why

abbrev pub to_call : Settings → Facts → Call → Answer
to_call g t asked = refused_or (refused_call g t asked) (accepted g t asked)

-- ---- any event

abbrev pub answer_by : Settings → Facts → Event → Answer
answer_by g t (event.Open first taken) = to_open g t first taken
answer_by g t (event.Cut conn) = to_cut t conn
answer_by g t (event.Draw conn room) = to_draw t conn room
answer_by g t (event.Came conn f) = to_frame g t conn f
answer_by g t (event.Bad conn number) = to_bad g t conn number
answer_by g t (event.Tick now) = to_tick g t now
answer_by g t (event.Asked asked) = to_call g t asked

-- the answer to an event after these entries
abbrev pub answer_to : Settings → List Entry → Event → Answer
answer_to g past e = answer_by g (facts g past) e
