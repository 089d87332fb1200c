-- Keepalives, leases and pushed metadata, entry by entry: the worked examples of moments in docs/definitions.md, by computing.
use Rattle.std.proofs.Common.{◌≡◌, ℕ, false, true, List, [], ◌∷◌, Some, None, refl}
use Rattle.std.specs.Prelude.{codes}
use Rattle.rs_wire.specs.Settings.{usual}
use Rattle.rs_wire.specs.declared.words.Side.TheVariants.{Client, Server}
use Rattle.rs_wire.specs.declared.words.Kind.TheVariants as kind
use Rattle.rs_wire.specs.declared.message.Message.{Message}
use Rattle.rs_wire.specs.declared.delivery.Job.TheVariants as job
use Rattle.rs_wire.specs.declared.settings.Settings.{Settings}
use Rattle.rs_wire.specs.declared.call.Call.TheVariants as call
use Rattle.rs_wire.specs.declared.fault.Cause.TheVariants as cause
use Rattle.rs_wire.specs.declared.fault.Refusal.TheVariants as refusal
use Rattle.rs_wire.specs.declared.fault.Rule.TheVariants as rule
use Rattle.rs_wire.specs.declared.fault.SetupFault.TheVariants as fault
use Rattle.rs_frame.specs.declared.frame.Frame.TheVariants as frame
use Rattle.tape.specs.declared.answer.Answer.{Answer}
use Rattle.tape.specs.declared.answer.Answer.TheVariants as answer
use Rattle.tape.specs.declared.event.Event.{Event}
use Rattle.tape.specs.declared.event.Event.TheVariants as event
use Rattle.tape.specs.declared.entry.Entry.{Entry}
use Rattle.fragment.specs.Splitting.{fragments}
use Rattle.position.specs.Boundaries.{acked_by, frames_from_by, is_boundary_by, least_boundary_by, pos_by}
use Rattle.stream_model.specs.Known.{known as known_after}
use Rattle.stream_model.specs.Streams.{count_to, highest, jobs, jobs_taken, jobs_waiting, turn}
use Rattle.stream_model.specs.Turns.{over}
use Rattle.session_model.specs.Answers.{answer_to, broken_rule, facts, refused_call}
use Rattle.session_model.specs.Streams.{heard_in}
use Rattle.session_model.specs.Frames.{drawn, due, handled, made, queued, request_frame, setup_frame, turned_away}
use Rattle.session_model.specs.Leases.{covered, last_lease, let_in_sum, made_since_lease}
use Rattle.session_model.specs.Life.{begun, carrying, closed, live, openings, setup, told}
use Rattle.session_model.specs.Moments.{last_arrival, last_sending, moment}

abbrev entry : Event → Answer → Entry
entry e a = record { who = 0; event = e; answer = a }

abbrev tick : ℕ → Event
tick now = event.Tick now

-- a fire-and-forget of "hi", and a response asked for with it
abbrev hi : Message
hi = record { metadata = None; content = 104 ∷ 105 ∷ [] }

abbrev ask : Event
ask = event.Asked (call.Request kind.Fnf None hi false)

abbrev opens : Entry
opens = entry (event.Open None false) (answer.Opened 1)

-- ---- keepalives: one goes out after 20,000 ms and is answered; the next is not, and the peer counts as dead after 90,000 ms

abbrev client : Settings
client = usual Client

abbrev server : Settings
server = usual Server

abbrev kept_alive : List Entry
kept_alive = entry (event.Came 1 (frame.Keepalive false 0 [])) answer.Handled ∷ entry (tick 20000) answer.Sent ∷ opens ∷ []

client_alive :
    (answer_to client (opens ∷ []) (tick 19999) ≡ answer.Quiet)
    × (answer_to client (opens ∷ []) (tick 20000) ≡ answer.Sent)
    × (answer_to client kept_alive (tick 39999) ≡ answer.Quiet)
    × (answer_to client kept_alive (tick 109999) ≡ answer.Sent)
    × (answer_to client (entry (tick 109999) answer.Sent ∷ kept_alive) (tick 110000) ≡ answer.Dead 20000)
    × (answer_to client (entry (tick 110000) (answer.Dead 20000) ∷ kept_alive) (tick 120000) ≡ answer.Quiet)
unfolding facts openings live begun carrying setup told closed made handled drawn due queued refused_call broken_rule moment last_arrival last_sending last_lease made_since_lease let_in_sum covered pos_by acked_by least_boundary_by is_boundary_by frames_from_by known_after heard_in highest count_to turn fragments over jobs jobs_taken jobs_waiting
client_alive = (refl, refl, refl, refl, refl, refl)

client_alive_after :
    (due client kept_alive 1 ≡ setup_frame client ∷ frame.Keepalive true 0 [] ∷ [])
    × (closed client (entry (tick 110000) (answer.Dead 20000) ∷ kept_alive) ≡ Some cause.Dead)
    × (live (entry (tick 110000) (answer.Dead 20000) ∷ kept_alive) ≡ 0)
unfolding facts openings live begun carrying setup told closed made handled drawn due queued refused_call broken_rule moment last_arrival last_sending last_lease made_since_lease let_in_sum covered pos_by acked_by least_boundary_by is_boundary_by frames_from_by known_after heard_in highest count_to turn fragments over jobs jobs_taken jobs_waiting
client_alive_after = (refl, refl, refl)

abbrev accepts : Settings → Entry
accepts g = entry (event.Open (Some (setup_frame g)) false) (answer.Opened 1)

abbrev answered : List Entry
answered = entry (event.Came 1 (frame.Keepalive true 0 [])) answer.Handled ∷ entry (tick 20000) answer.Quiet ∷ accepts client ∷ []

server_alive :
    (answer_to server (accepts client ∷ []) (tick 20000) ≡ answer.Quiet)
    × (answer_to server (entry (tick 20000) answer.Quiet ∷ accepts client ∷ []) (event.Came 1 (frame.Keepalive true 0 [])) ≡ answer.Handled)
    × (due server answered 1 ≡ frame.Keepalive false 0 [] ∷ [])
    × (answer_to server answered (tick 109999) ≡ answer.Quiet)
    × (answer_to server answered (tick 110000) ≡ answer.Dead 20000)
unfolding facts openings live begun carrying setup told closed made handled drawn due queued refused_call broken_rule moment last_arrival last_sending last_lease made_since_lease let_in_sum covered pos_by acked_by least_boundary_by is_boundary_by frames_from_by known_after heard_in highest count_to turn fragments over jobs jobs_taken jobs_waiting
server_alive = (refl, refl, refl, refl, refl)

-- a moment below the last one counts as the last one, and one above 2^62 as that
moments :
    (moment (entry (tick 5) answer.Quiet ∷ entry (tick 7) answer.Quiet ∷ []) ≡ 7)
    × (moment (entry (tick 4611686018427387905) answer.Quiet ∷ []) ≡ 4611686018427387904)
    × (answer_to client (entry (tick 20000) answer.Sent ∷ opens ∷ []) (tick 5) ≡ answer.Quiet)
unfolding facts openings live begun carrying setup told closed made handled drawn due queued refused_call broken_rule moment last_arrival last_sending last_lease made_since_lease let_in_sum covered pos_by acked_by least_boundary_by is_boundary_by frames_from_by known_after heard_in highest count_to turn fragments over jobs jobs_taken jobs_waiting
moments = (refl, refl, refl)

-- ---- a lease of 10 requests for 50 ms, handled at 100: over at 150

abbrev leasing : Settings
leasing = record (usual Client) { lease = true }

abbrev leased : List Entry
leased = entry (event.Came 1 (frame.Lease 50 10 None)) answer.Handled ∷ entry (tick 100) answer.Quiet ∷ opens ∷ []

lease_over :
    (answer_to leasing (opens ∷ []) ask ≡ answer.Refused (refusal.NoLease 0))
    × (answer_to leasing (entry (tick 100) answer.Quiet ∷ opens ∷ []) (event.Came 1 (frame.Lease 50 10 None)) ≡ answer.Handled)
    × (answer_to leasing (entry (tick 149) answer.Quiet ∷ leased) ask ≡ answer.Started 1)
    × (answer_to leasing (entry (tick 150) answer.Quiet ∷ entry ask (answer.Started 1) ∷ entry (tick 149) answer.Quiet ∷ leased) ask ≡ answer.Refused (refusal.LeaseOver 150))
unfolding facts openings live begun carrying setup told closed made handled drawn due queued refused_call broken_rule moment last_arrival last_sending last_lease made_since_lease let_in_sum covered pos_by acked_by least_boundary_by is_boundary_by frames_from_by known_after heard_in highest count_to turn fragments over jobs jobs_taken jobs_waiting
lease_over = (refl, refl, refl, refl)

-- a time to live of 0, and a count of 0, let no request through
nothing_leased :
    (answer_to leasing (entry (event.Came 1 (frame.Lease 0 5 None)) answer.Handled ∷ opens ∷ []) ask ≡ answer.Refused (refusal.LeaseOver 0))
    × (answer_to leasing (entry (event.Came 1 (frame.Lease 0 0 None)) answer.Handled ∷ opens ∷ []) ask ≡ answer.Refused (refusal.NoLease 0))
unfolding facts openings live begun carrying setup told closed made handled drawn due queued refused_call broken_rule moment last_arrival last_sending last_lease made_since_lease let_in_sum covered pos_by acked_by least_boundary_by is_boundary_by frames_from_by known_after heard_in highest count_to turn fragments over jobs jobs_taken jobs_waiting
nothing_leased = (refl, refl)

-- ---- a lease of one request, which ends with its connection

abbrev resuming : Settings
resuming = record (usual Client) { lease = true; resume = true; token = 116 ∷ [] }

abbrev used_up : List Entry
used_up = entry ask (answer.Started 1) ∷ entry (event.Came 1 (frame.Lease 1000 1 None)) answer.Handled ∷ opens ∷ []

abbrev refused : ℕ → Entry
refused n = entry ask (answer.Refused (refusal.NoLease n))

abbrev parted : List Entry
parted = entry (event.Cut 1) answer.Parted ∷ refused 1 ∷ used_up

abbrev resumed : List Entry
resumed = entry (event.Came 2 (frame.ResumeOk 0)) answer.Handled ∷ entry (event.Open None false) (answer.Opened 2) ∷ refused 0 ∷ parted

lease_used :
    (answer_to resuming used_up ask ≡ answer.Refused (refusal.NoLease 1))
    × (answer_to resuming parted ask ≡ answer.Refused (refusal.NoLease 0))
    × (answer_to resuming parted (event.Asked (call.Push (97 ∷ []))) ≡ answer.Refused refusal.NotConnected)
    × (answer_to resuming resumed ask ≡ answer.Refused (refusal.NoLease 0))
    × (answer_to resuming (entry (event.Came 2 (frame.Lease 1000 1 None)) answer.Handled ∷ refused 0 ∷ resumed) ask ≡ answer.Started 3)
unfolding facts openings live begun carrying setup told closed made handled drawn due queued refused_call broken_rule moment last_arrival last_sending last_lease made_since_lease let_in_sum covered pos_by acked_by least_boundary_by is_boundary_by frames_from_by known_after heard_in highest count_to turn fragments over jobs jobs_taken jobs_waiting
lease_used = (refl, refl, refl, refl, refl)

-- ---- the responder: one request let in, two asked for

abbrev letting : Settings
letting = record (usual Server) { lease = true }

abbrev lets_one : Event
lets_one = event.Asked (call.Lease 1000 1 None)

abbrev comes : ℕ → Event
comes s = event.Came 1 (request_frame s kind.Response None hi false)

abbrev one_in : List Entry
one_in = entry (comes 1) answer.Handled ∷ entry lets_one answer.Done ∷ accepts leasing ∷ []

responder :
    (answer_to letting (accepts leasing ∷ []) lets_one ≡ answer.Done)
    × (answer_to letting one_in (comes 3) ≡ answer.Handled)
    × (made letting one_in ≡ [])
    × (made letting (entry (comes 3) answer.Handled ∷ one_in) ≡ turned_away 3 (codes "lease") ∷ [])
    × (jobs_waiting 1024 (heard_in letting (entry (comes 3) answer.Handled ∷ one_in)).words ≡ job.Asked 1 kind.Response None hi false ∷ [])
    × (highest 1 (heard_in letting (entry (comes 3) answer.Handled ∷ one_in)).words ≡ 3)
    × (answer_to server (accepts client ∷ []) lets_one ≡ answer.Refused refusal.WrongKind)
    × (answer_to server [] (event.Open (Some (setup_frame leasing)) false) ≡ answer.SetupRefused fault.NoLease)
unfolding facts openings live begun carrying setup told closed made handled drawn due queued refused_call broken_rule moment last_arrival last_sending last_lease made_since_lease let_in_sum covered pos_by acked_by least_boundary_by is_boundary_by frames_from_by known_after heard_in highest count_to turn fragments over jobs jobs_taken jobs_waiting
responder = (refl, refl, refl, refl, refl, refl, refl, refl)

-- ---- metadata that is pushed, and a KEEPALIVE that is ahead

abbrev push : Event
push = event.Asked (call.Push (97 ∷ 98 ∷ []))

abbrev came_push : List Entry
came_push = entry (event.Came 1 (frame.MetadataPush (97 ∷ 98 ∷ []))) answer.Handled ∷ accepts client ∷ []

pushed :
    (answer_to client (opens ∷ []) push ≡ answer.Done)
    × (due client (entry push answer.Done ∷ opens ∷ []) 1 ≡ setup_frame client ∷ frame.MetadataPush (97 ∷ 98 ∷ []) ∷ [])
    × (answer_to server (accepts client ∷ []) (event.Came 1 (frame.MetadataPush (97 ∷ 98 ∷ []))) ≡ answer.Handled)
    × (answer_to server came_push (event.Asked call.TakeJob) ≡ answer.GotJob (job.Pushed (97 ∷ 98 ∷ [])))
    × (answer_to server (entry (event.Asked call.TakeJob) (answer.GotJob (job.Pushed (97 ∷ 98 ∷ []))) ∷ came_push) (event.Asked call.TakeJob) ≡ answer.NotYet)
unfolding facts openings live begun carrying setup told closed made handled drawn due queued refused_call broken_rule moment last_arrival last_sending last_lease made_since_lease let_in_sum covered pos_by acked_by least_boundary_by is_boundary_by frames_from_by known_after heard_in highest count_to turn fragments over jobs jobs_taken jobs_waiting
pushed = (refl, refl, refl, refl, refl)

abbrev resumable : Settings
resumable = record (usual Client) { resume = true; token = 116 ∷ [] }

abbrev keeping : Settings
keeping = record (usual Server) { resume = true }

ahead :
    (answer_to keeping (accepts resumable ∷ []) (event.Came 1 (frame.Keepalive false 1 [])) ≡ answer.Violation (rule.Ahead 0))
    × (answer_to keeping (accepts resumable ∷ []) (event.Came 1 (frame.Keepalive false 0 [])) ≡ answer.Handled)
    × (answer_to server (accepts client ∷ []) (event.Came 1 (frame.Keepalive false 1 [])) ≡ answer.Handled)
unfolding facts openings live begun carrying setup told closed made handled drawn due queued refused_call broken_rule moment last_arrival last_sending last_lease made_since_lease let_in_sum covered pos_by acked_by least_boundary_by is_boundary_by frames_from_by known_after heard_in highest count_to turn fragments over jobs jobs_taken jobs_waiting
ahead = (refl, refl, refl)
