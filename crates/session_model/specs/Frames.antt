-- The frames of a session, over its entries, the newest first: made, due, come and handled.
use Rattle.std.specs.Prelude.{ℕ, ◌+◌, ◌-◌, ◌==◌, ◌&&◌, Bool, false, nat_le, nat_lt, if◌then◌else◌, List, [], ◌∷◌, ◌++◌, length, take, map, Option, Some, None, is_none, ◌||◌, true}
use Rattle.rs_wire.specs.Words.{gone_word, rule_word, setup_word}
use Rattle.rs_wire.specs.declared.words.Kind.{Kind}
use Rattle.rs_wire.specs.declared.message.Message.{Message}
use Rattle.rs_wire.specs.declared.settings.Settings.{Settings}
use Rattle.rs_wire.specs.declared.call.Call.{Call}
use Rattle.rs_wire.specs.declared.call.Call.TheVariants as call
use Rattle.rs_frame.specs.declared.frame.Frame.{Frame}
use Rattle.rs_frame.specs.declared.frame.Frame.TheVariants as frame
use Rattle.rs_frame.specs.Spelling.{is_resumable}
use Rattle.rs_frame.specs.Framed.{framed_all}
use Rattle.setup_core.specs.Setup.{code_of}
use Rattle.tape.specs.declared.event.Event.{Event}
use Rattle.tape.specs.declared.event.Event.TheVariants as event
use Rattle.tape.specs.declared.answer.Answer.{Answer}
use Rattle.tape.specs.declared.answer.Answer.TheVariants as answer
use Rattle.tape.specs.declared.entry.Entry.{Entry}
use Rattle.stream_model.specs.Known.{Known, is_open_response}
use Rattle.stream_model.specs.Arriving.{no_message}
use Rattle.fragment.specs.Splitting.{split_of}
use Rattle.session_model.specs.Lists.{first_of}
use Rattle.session_model.specs.Life.{openings, live, live_after, is_live, begun, carrying, resumption_agreed, told}
use Rattle.position.specs.Boundaries.{pos, is_boundary, frames_from, first as first_held}
use Rattle.session_model.specs.declared.numbers.TheConstants.{CONNECTION_ERROR, REJECTED, REJECTED_RESUME}
use Rattle.session_model.specs.Leases.{is_covered}
use Rattle.session_model.specs.Streams.{known, turned_away_for}

-- the SETUP of a client: version 1.0, its intervals, its token where it resumes, its MIME texts, no payload
abbrev pub setup_frame : Settings → Frame
setup_frame g = frame.Setup (record {
  resume = if g.resume then Some g.token else None;
  lease = g.lease;
  major = 1;
  minor = 0;
  keepalive = g.keepalive_ms;
  lifetime = g.lifetime_ms;
  metadata_mime = g.metadata_mime;
  content_mime = g.content_mime;
  message = record { metadata = None; content = [] };
})

-- the frame of a request, whole
abbrev pub request_frame : ℕ → Kind → Option ℕ → Message → Bool → Frame
request_frame id kind initial message complete = frame.Request (record {
  stream = id;
  kind = kind;
  follows = false;
  complete = complete;
  initial = initial;
  message = message;
})

-- the ERROR on stream 0 that closes the session (RSocket 1.0, "ERROR Frame")
abbrev pub closing_error : List ℕ → Frame
closing_error content = frame.Error 0 CONNECTION_ERROR content

-- the ERROR on stream 0 that a server gives on a connection whose first frame it refuses, and nothing else (RSocket 1.0, "Setup")
abbrev pub refusal : Answer → Option Frame
refusal (answer.SetupRefused fault) = Some (frame.Error 0 (code_of fault) (setup_word fault))
refusal (answer.ResumeRefused gone) = Some (frame.Error 0 REJECTED_RESUME (gone_word gone))
refusal _ = None

-- the ERROR that answers a request which opens no stream, with the word of why
abbrev pub turned_away : ℕ → List ℕ → Frame
turned_away stream word = frame.Error stream REJECTED word

abbrev pub turned_away_with : ℕ → Option (List ℕ) → List Frame
turned_away_with stream None = []
turned_away_with stream (Some word) = turned_away stream word ∷ []

-- ---- made

-- the frame of a call, on the stream of that id where it is a request; the payload of a response always ends it
abbrev pub spoken : Known → ℕ → Call → Option Frame
spoken t id (call.Request kind initial message complete) = Some (request_frame id kind initial message complete)
spoken t id (call.Next s message complete) = Some (frame.Payload s false (complete || is_open_response (t.kept s)) true message)
spoken t id (call.Done s) = Some (frame.Payload s false true false no_message)
spoken t id (call.Grant s n) = Some (frame.RequestN s n)
spoken t id (call.Cancel s) = Some (frame.Cancel s)
spoken t id (call.Fail s code content) = Some (frame.Error s code content)
spoken t id _ = None

-- a request or a payload that is longer than the mtu goes out in fragments (RSocket 1.0, "Fragmentation and Reassembly")
abbrev pub in_fragments : ℕ → Frame → List Frame
in_fragments mtu (frame.Request r) = split_of (frame.Request r) mtu
in_fragments mtu (frame.Payload s follows complete next message) = split_of (frame.Payload s follows complete next message) mtu
in_fragments mtu f = f ∷ []

abbrev pub sent_as : Settings → Option Frame → List Frame
sent_as g None = []
sent_as g (Some f) = in_fragments g.mtu f

-- the resumable frames that an entry makes, by whether a request is covered before it, and by what is known of the streams
abbrev pub makes : Settings → Bool → Known → Answer → Event → List Frame
makes g covered t (answer.Started id) (event.Asked asked) = sent_as g (spoken t id asked)
makes g covered t answer.Done (event.Asked asked) = sent_as g (spoken t 0 asked)
makes g covered t answer.Handled (event.Came conn (frame.Request r)) = turned_away_with r.stream (turned_away_for g covered t r)
makes g covered t _ _ = []

-- the resumable frames that this end made, in order, over all connections
unfoldable pub made : Settings → List Entry → List Frame
made g [] = []
made g (x ∷ past) = made g past ++ makes g (is_covered g past) (known g past) x.answer x.event

-- ---- handled

-- the resumable frames that an entry handles (RSocket 1.0, "Resuming Operation")
abbrev pub handles : Answer → Event → List Frame
handles answer.Handled (event.Came conn f) = if is_resumable f then f ∷ [] else []
handles _ _ = []

-- the resumable frames that this end handled, in order, over all connections
unfoldable pub handled : List Entry → List Frame
handled [] = []
handled (x ∷ past) = handled past ++ handles x.answer x.event

-- ---- held (RSocket 1.0, "Resuming Operation")

-- the position from which on the frames made are held: those that the peer may not have handled, and of them as many as may be held
abbrev pub first : Settings → List Entry → ℕ
first g past = first_held (made g past) (told g past) g.hold

-- frames are kept where resumption is agreed
abbrev pub if_agreed : Bool → List Frame → List Frame
if_agreed agreed frames = if agreed then frames else []

-- the frames made that are kept, the held ones and those that are forgotten again
abbrev pub kept : Settings → List Entry → List Frame
kept g past = if_agreed (resumption_agreed g past) (made g past)

-- the position from which on they are held, 0 where none is kept
abbrev pub held_from : Settings → List Entry → ℕ
held_from g past = first_held (kept g past) (told g past) g.hold

-- a held frame begins or ends at the position
abbrev pub is_held_boundary : Settings → List Entry → ℕ → Bool
is_held_boundary g past p = nat_le (held_from g past) p && is_boundary (kept g past) p

-- ---- due

-- the frame by which a client resumes: up to which position it handled, and from which on it holds what it made (RSocket 1.0, "RESUME Frame")
abbrev pub resume_frame : Settings → ℕ → ℕ → Frame
resume_frame g handled first = frame.Resume (record {
  major = 1;
  minor = 0;
  token = g.token;
  server_position = handled;
  client_position = first;
})

-- the frames that an accepted opening begins with: a client's SETUP, and its RESUME later on; a server's RESUME_OK, and then all that it made from the position on that the client told
abbrev pub greets : Settings → List Entry → Event → List Frame
greets g past (event.Open None taken) = (if begun past then resume_frame g (pos (handled past)) (first g past) else setup_frame g) ∷ []
greets g past (event.Open (Some (frame.Resume r)) taken) = frame.ResumeOk (pos (handled past)) ∷ frames_from (made g past) r.server_position
greets g past _ = []

-- the position up to which this end handled what came, as a KEEPALIVE tells it: 0 where resumption is not agreed (RSocket 1.0, "KEEPALIVE Frame")
abbrev pub tells : Bool → ℕ → ℕ
tells agreed handled = if agreed then handled else 0

abbrev pub position_told : Settings → List Entry → ℕ
position_told g past = tells (resumption_agreed g past) (pos (handled past))

-- a KEEPALIVE that asks for an answer is answered with what it carries
abbrev pub answers_keepalive : Bool → ℕ → List ℕ → List Frame
answers_keepalive respond position content = if respond then frame.Keepalive false position content ∷ [] else []

-- the frames that an entry puts in line before those that it makes: frames of the connection, which no position counts, and frames that are sent again
abbrev pub beside : Settings → List Entry → Answer → Event → List Frame
beside g past (answer.Opened n) e = greets g past e
beside g past (answer.Violation rule) e = closing_error (rule_word rule) ∷ []
beside g past (answer.ResumeRefused gone) (event.Came conn f) = closing_error (gone_word gone) ∷ []
beside g past answer.Handled (event.Came conn (frame.ResumeOk position)) = frames_from (made g past) position
beside g past answer.Handled (event.Came conn (frame.Keepalive respond position content)) = answers_keepalive respond (position_told g past) content
beside g past answer.Sent e = frame.Keepalive true (position_told g past) [] ∷ []
beside g past answer.Done (event.Asked (call.Push metadata)) = frame.MetadataPush metadata ∷ []
beside g past answer.Done (event.Asked (call.Lease ttl count metadata)) = frame.Lease ttl count metadata ∷ []
beside g past answer.Done (event.Asked call.Close) = if carrying g past then closing_error [] ∷ [] else []
beside g past _ e = []

-- what is made on a connection that waits for RESUME_OK is sent after it
abbrev pub if_carrying : Bool → List Frame → List Frame
if_carrying carrying frames = if carrying then frames else []

-- the frames that an entry puts in line
abbrev pub lines_up : Settings → List Entry → Answer → Event → List Frame
lines_up g past a e = beside g past a e ++ if_carrying (carrying g past) (makes g (is_covered g past) (known g past) a e)

-- what an entry adds to the frames due on connection c: what it puts in line, where that connection is live after it
abbrev pub owes : Settings → List Entry → ℕ → Answer → Event → List Frame
owes g past c a e = if is_live (live_after a (live past)) c then lines_up g past a e else []

-- the frames due on connection c, in order
unfoldable pub due : Settings → List Entry → ℕ → List Frame
due g [] c = []
due g (x ∷ past) c = due g past c ++ owes g past c x.answer x.event

abbrev pub draws : ℕ → Answer → Event → ℕ
draws c (answer.Drawn n) (event.Draw conn room) = if conn == c then n else 0
draws c _ _ = 0

-- how many bytes were drawn on connection c
unfoldable pub drawn : List Entry → ℕ → ℕ
drawn [] c = 0
drawn (x ∷ past) c = drawn past c + draws c x.answer x.event

-- the bytes that this end gave on connection c
abbrev pub given : Settings → List Entry → ℕ → List ℕ
given g past c = take (drawn past c) (framed_all (due g past c))

-- how many bytes wait on the live connection to be drawn
unfoldable pub queued : Settings → List Entry → ℕ
queued g past = length (framed_all (due g past (live past))) - drawn past (live past)

-- ---- come

-- opening c was made before these entries
abbrev pub was_opened : List Entry → ℕ → Bool
was_opened past c = nat_lt 0 c && nat_le c (openings past)

abbrev pub bad_in : List Entry → ℕ → Event → Option ℕ
bad_in past c (event.Bad conn rule) = if (conn == c) && was_opened past c then Some rule else None
bad_in past c _ = None

-- the rule that the first bytes on opening c break that spelled no frame, where some did
unfoldable pub first_bad : List Entry → ℕ → Option ℕ
first_bad [] c = None
first_bad (x ∷ past) c = first_of (first_bad past c) (bad_in past c x.event)

-- what an entry brings on opening c
abbrev pub brings : List Entry → ℕ → Event → List Frame
brings past c (event.Open (Some f) taken) = if openings past + 1 == c then f ∷ [] else []
brings past c (event.Came conn f) = if ((conn == c) && was_opened past c) && is_none (first_bad past c) then f ∷ [] else []
brings past c _ = []

-- the frames that came on opening c, whatever was answered, up to the first that was none
unfoldable pub came : List Entry → ℕ → List Frame
came [] c = []
came (x ∷ past) c = came past c ++ brings past c x.event

-- ---- seen

-- a frame that this end made, or one that it handled, with whether a request was covered then
pub data Mark : Type 0 where
  Sent : Frame → Mark
  Got : (covered : Bool) → Frame → Mark

abbrev pub marks : Settings → Bool → Known → Answer → Event → List Mark
marks g covered t a e = map (Mark.Got covered) (handles a e) ++ map Mark.Sent (makes g covered t a e)

-- all resumable frames of this end in the order of the entries, each marked
unfoldable pub seen : Settings → List Entry → List Mark
seen g [] = []
seen g (x ∷ past) = seen g past ++ marks g (is_covered g past) (known g past) x.answer x.event
