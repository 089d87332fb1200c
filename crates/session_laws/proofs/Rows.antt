-- A session that is cut and resumed, entry by entry: the worked example of resumption in docs/definitions.md, by computing.
use Rattle.std.proofs.Common.{◌≡◌, ℕ, false, true, [], ◌∷◌, Some, None, refl}
use Rattle.rs_wire.specs.Settings.{usual}
use Rattle.rs_wire.specs.declared.words.Side.TheVariants.{Client, Server}
use Rattle.rs_wire.specs.declared.words.Kind.TheVariants as kind
use Rattle.rs_wire.specs.declared.message.Message.{Message}
use Rattle.rs_wire.specs.declared.settings.Settings.{Settings}
use Rattle.rs_wire.specs.declared.call.Call.TheVariants as call
use Rattle.rs_wire.specs.declared.fault.Cause.TheVariants as cause
use Rattle.rs_wire.specs.declared.fault.Gone.TheVariants as gone
use Rattle.rs_frame.specs.declared.frame.Frame.{Frame}
use Rattle.rs_frame.specs.declared.frame.Frame.TheVariants as frame
use Rattle.tape.specs.declared.answer.Answer.{Answer}
use Rattle.tape.specs.declared.answer.Answer.TheVariants as answer
use Rattle.tape.specs.declared.event.Event.{Event}
use Rattle.tape.specs.declared.event.Event.TheVariants as event
use Rattle.tape.specs.declared.entry.Entry.{Entry}
use Rattle.fragment.specs.Splitting.{fragments}
use Rattle.position.specs.Boundaries.{acked_by, frames_from_by, is_boundary_by, least_boundary_by, pos, pos_by}
use Rattle.stream_model.specs.Known.{known as known_after}
use Rattle.stream_model.specs.Streams.{count_to, highest, jobs, jobs_taken, jobs_waiting, turn}
use Rattle.stream_model.specs.Turns.{over}
use Rattle.session_model.specs.Answers.{answer_to, broken_rule, facts, refused_call}
use Rattle.session_model.specs.Streams.{heard_in}
use Rattle.session_model.specs.Frames.{drawn, due, first, handled, held_from, is_held_boundary, kept, made, queued, request_frame, resume_frame, setup_frame}
use Rattle.session_model.specs.Life.{begun, carrying, closed, live, openings, setup, told}

-- both ends agree to resumption; the client's token is "t"
abbrev client : Settings
client = record (usual Client) { resume = true; token = 116 ∷ [] }

abbrev server : Settings
server = record (usual Server) { resume = true }

abbrev entry : Event → Answer → Entry
entry e a = record { who = 0; event = e; answer = a }

-- a fire-and-forget of "hi"
abbrev hi : Message
hi = record { metadata = None; content = 104 ∷ 105 ∷ [] }

abbrev request : Frame
request = request_frame 1 kind.Fnf None hi false

abbrev opens : Entry
opens = entry (event.Open None false) (answer.Opened 1)

abbrev asks : Entry
asks = entry (event.Asked (call.Request kind.Fnf None hi false)) (answer.Started 1)

abbrev cut : Entry
cut = entry (event.Cut 1) answer.Parted

abbrev opens_again : Entry
opens_again = entry (event.Open None false) (answer.Opened 2)

abbrev ok : ℕ → Answer → Entry
ok position a = entry (event.Came 2 (frame.ResumeOk position)) a

-- the client's answers
client_answers :
    (answer_to client (opens ∷ []) asks.event ≡ answer.Started 1)
    × (answer_to client (cut ∷ asks ∷ opens ∷ []) opens_again.event ≡ answer.Opened 2)
    × (answer_to client (opens_again ∷ cut ∷ asks ∷ opens ∷ []) (event.Came 2 (frame.ResumeOk 0)) ≡ answer.Handled)
    × (answer_to client (opens_again ∷ cut ∷ asks ∷ opens ∷ []) (event.Came 2 (frame.ResumeOk 3)) ≡ answer.ResumeRefused gone.NotBoundary)
    × (answer_to client (opens_again ∷ cut ∷ asks ∷ opens ∷ []) (event.Came 2 (frame.ResumeOk 9)) ≡ answer.ResumeRefused (gone.Ahead 8))
unfolding facts openings live begun carrying setup told closed made handled drawn due queued refused_call pos_by acked_by least_boundary_by is_boundary_by frames_from_by known_after heard_in highest count_to turn fragments over jobs jobs_taken jobs_waiting
client_answers = (refl, refl, refl, refl, refl)

-- what is due on its second connection before RESUME_OK comes, after one of 0 and after one of 8, where what it holds begins after that, and what
-- one of 9 closes the session for
client_frames :
    (due client (opens_again ∷ cut ∷ asks ∷ opens ∷ []) 2 ≡ resume_frame client 0 0 ∷ [])
    × (due client (ok 0 answer.Handled ∷ opens_again ∷ cut ∷ asks ∷ opens ∷ []) 2 ≡ resume_frame client 0 0 ∷ request ∷ [])
    × (due client (ok 8 answer.Handled ∷ opens_again ∷ cut ∷ asks ∷ opens ∷ []) 2 ≡ resume_frame client 0 0 ∷ [])
    × (first client (ok 8 answer.Handled ∷ opens_again ∷ cut ∷ asks ∷ opens ∷ []) ≡ 8)
    × (closed client (ok 9 (answer.ResumeRefused (gone.Ahead 8)) ∷ opens_again ∷ cut ∷ asks ∷ opens ∷ []) ≡ Some (cause.Resume (gone.Ahead 8)))
unfolding openings live begun carrying setup told closed made handled drawn due pos_by acked_by least_boundary_by frames_from_by known_after heard_in highest count_to turn fragments over jobs jobs_taken jobs_waiting
client_frames = (refl, refl, refl, refl, refl)

-- what goes out at once, and what the peer told
client_life :
    (carrying client (asks ∷ opens ∷ []) ≡ true)
    × (carrying client (cut ∷ asks ∷ opens ∷ []) ≡ false)
    × (carrying client (opens_again ∷ cut ∷ asks ∷ opens ∷ []) ≡ false)
    × (carrying client (ok 8 answer.Handled ∷ opens_again ∷ cut ∷ asks ∷ opens ∷ []) ≡ true)
    × (told client (opens_again ∷ cut ∷ asks ∷ opens ∷ []) ≡ 0)
    × (told client (ok 8 answer.Handled ∷ opens_again ∷ cut ∷ asks ∷ opens ∷ []) ≡ 8)
unfolding begun carrying told
client_life = (refl, refl, refl, refl, refl, refl)

-- ---- two frames of 8 bytes, and a session that holds fewer bytes, or all of them

abbrev holds : ℕ → Settings
holds hold = record client { hold = hold }

abbrev asks_more : Entry
asks_more = entry (event.Asked (call.Request kind.Fnf None hi false)) (answer.Started 3)

held_rows :
    (pos (made client (asks_more ∷ asks ∷ opens ∷ [])) ≡ 16)
    × (first (holds 10) (asks_more ∷ asks ∷ opens ∷ []) ≡ 8)
    × (held_from (holds 10) (asks_more ∷ asks ∷ opens ∷ []) ≡ 8)
    × (is_held_boundary (holds 10) (asks_more ∷ asks ∷ opens ∷ []) 0 ≡ false)
    × (is_held_boundary (holds 10) (asks_more ∷ asks ∷ opens ∷ []) 8 ≡ true)
    × (is_held_boundary (holds 10) (asks_more ∷ asks ∷ opens ∷ []) 9 ≡ false)
    × (is_held_boundary (holds 10) (asks_more ∷ asks ∷ opens ∷ []) 16 ≡ true)
    × (first (holds 16) (asks_more ∷ asks ∷ opens ∷ []) ≡ 0)
    × (is_held_boundary (holds 16) (asks_more ∷ asks ∷ opens ∷ []) 0 ≡ true)
    × (is_held_boundary (holds 16) (asks_more ∷ asks ∷ opens ∷ []) 8 ≡ true)
    × (is_held_boundary (holds 16) (asks_more ∷ asks ∷ opens ∷ []) 16 ≡ true)
unfolding setup told made pos_by acked_by least_boundary_by is_boundary_by known_after heard_in highest count_to turn fragments over jobs jobs_taken jobs_waiting
held_rows = (refl, refl, refl, refl, refl, refl, refl, refl, refl, refl, refl)

-- where resumption is not agreed nothing is kept, though frames were made
unkept_rows :
    (kept (record (holds 10) { resume = false }) (asks_more ∷ asks ∷ opens ∷ []) ≡ [])
    × (held_from (record (holds 10) { resume = false }) (asks_more ∷ asks ∷ opens ∷ []) ≡ 0)
    × (is_held_boundary (record (holds 10) { resume = false }) (asks_more ∷ asks ∷ opens ∷ []) 0 ≡ true)
    × (is_held_boundary (record (holds 10) { resume = false }) (asks_more ∷ asks ∷ opens ∷ []) 8 ≡ false)
    × (first (record (holds 10) { resume = false }) (asks_more ∷ asks ∷ opens ∷ []) ≡ 8)
unfolding setup told made pos_by acked_by least_boundary_by is_boundary_by known_after heard_in highest count_to turn fragments over jobs jobs_taken jobs_waiting
unkept_rows = (refl, refl, refl, refl, refl)

-- a server that missed the first frame can't go on where that is forgotten
forgotten_rows :
    (answer_to (holds 10) (opens_again ∷ cut ∷ asks_more ∷ asks ∷ opens ∷ []) (event.Came 2 (frame.ResumeOk 0)) ≡ answer.ResumeRefused (gone.ClientGone 8))
    × (answer_to (holds 16) (opens_again ∷ cut ∷ asks_more ∷ asks ∷ opens ∷ []) (event.Came 2 (frame.ResumeOk 0)) ≡ answer.Handled)
unfolding facts openings live begun carrying setup told closed made handled drawn due queued pos_by acked_by least_boundary_by is_boundary_by frames_from_by known_after heard_in highest count_to turn fragments over jobs jobs_taken jobs_waiting
forgotten_rows = (refl, refl)

-- ---- the server

abbrev accepts : Entry
accepts = entry (event.Open (Some (setup_frame client)) false) (answer.Opened 1)

abbrev handles : Entry
handles = entry (event.Came 1 request) answer.Handled

abbrev resumes : Entry
resumes = entry (event.Open (Some (resume_frame client 0 0)) false) (answer.Opened 2)

-- the server's answers, and what is due on its second connection
server_rows :
    (answer_to server [] accepts.event ≡ answer.Opened 1)
    × (answer_to server (accepts ∷ []) handles.event ≡ answer.Handled)
    × (answer_to server (cut ∷ handles ∷ accepts ∷ []) resumes.event ≡ answer.Opened 2)
    × (due server (resumes ∷ cut ∷ handles ∷ accepts ∷ []) 2 ≡ frame.ResumeOk 8 ∷ [])
unfolding facts openings live begun carrying setup told closed made handled drawn due queued broken_rule pos_by acked_by least_boundary_by is_boundary_by frames_from_by known_after heard_in highest count_to turn fragments over jobs jobs_taken jobs_waiting
server_rows = (refl, refl, refl, refl)
