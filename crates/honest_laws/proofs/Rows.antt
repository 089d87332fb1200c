-- What a peer does that does not keep to the definitions, and how it is answered, by computing: the rows of docs/definitions.md on accusing.
use Rattle.std.proofs.Common.{◌≡◌, false, true, [], ◌∷◌, Some, None, refl}
use Rattle.rs_wire.specs.Settings.{usual}
use Rattle.rs_wire.specs.declared.words.Side.TheVariants.{Client, Server}
use Rattle.rs_wire.specs.declared.words.Kind.TheVariants as kind
use Rattle.rs_wire.specs.declared.message.Message.{Message}
use Rattle.rs_wire.specs.declared.settings.Settings.{Settings}
use Rattle.rs_wire.specs.declared.call.Call.TheVariants as call
use Rattle.rs_wire.specs.declared.fault.Rule.TheVariants as rule
use Rattle.rs_frame.specs.declared.frame.Frame.{Frame}
use Rattle.rs_frame.specs.declared.frame.Frame.TheVariants as frame
use Rattle.tape.specs.declared.answer.Answer.{Answer}
use Rattle.tape.specs.declared.answer.Answer.TheVariants as answer
use Rattle.tape.specs.declared.event.Event.{Event}
use Rattle.tape.specs.declared.event.Event.TheVariants as event
use Rattle.tape.specs.declared.entry.Entry.{Entry}
use Rattle.fragment.specs.Splitting.{fragments}
use Rattle.position.specs.Boundaries.{acked_by, frames_from_by, is_boundary_by, least_boundary_by, pos_by}
use Rattle.stream_model.specs.Known.{known as known_after}
use Rattle.stream_model.specs.Kept.{stream_of}
use Rattle.stream_model.specs.Streams.{count_to, highest, jobs, jobs_taken, jobs_waiting, turn}
use Rattle.stream_model.specs.Turns.{granted, is_whole, items, over, used}
use Rattle.session_model.specs.Answers.{answer_to, broken_rule, facts, refused_call}
use Rattle.session_model.specs.Streams.{heard_in}
use Rattle.session_model.specs.Frames.{drawn, due, handled, made, queued, request_frame, setup_frame}
use Rattle.session_model.specs.Life.{begun, carrying, closed, live, openings, setup, told}
use Rattle.honest_laws.specs.Accusing.{accuses}

-- both ends agree to resumption; the client's token is "t"
abbrev client : Settings
client = record (usual Client) { resume = true; token = 116 ∷ [] }

abbrev server : Settings
server = record (usual Server) { resume = true }

abbrev entry : Event → Answer → Entry
entry e a = record { who = 0; event = e; answer = a }

-- "hi"
abbrev hi : Message
hi = record { metadata = None; content = 104 ∷ 105 ∷ [] }

-- the server's one connection
abbrev accepts : Entry
accepts = entry (event.Open (Some (setup_frame client)) false) (answer.Opened 1)

-- a request and response on stream 2, which is an id of the server's
abbrev asks_on_two : Frame
asks_on_two = request_frame 2 kind.Response None hi false

-- each rule but that of credit, with nothing but SETUP before it
accused_at_once :
    (answer_to server (accepts ∷ []) (event.Came 1 (frame.Unknown 0 16 0 [])) ≡ answer.Violation (rule.UnknownType 16))
    × (answer_to server (accepts ∷ []) (event.Came 1 (frame.ResumeOk 0)) ≡ answer.Violation rule.NotNow)
    × (answer_to server (accepts ∷ []) (event.Came 1 asks_on_two) ≡ answer.Violation (rule.StreamId 2))
    × (answer_to server (accepts ∷ []) (event.Came 1 (frame.Keepalive false 1 [])) ≡ answer.Violation (rule.Ahead 0))
unfolding facts openings live begun carrying setup told closed made handled drawn due queued broken_rule pos_by acked_by least_boundary_by is_boundary_by frames_from_by known_after heard_in highest count_to turn fragments over jobs jobs_taken jobs_waiting
accused_at_once = (refl, refl, refl, refl)

-- a channel of the client's: 1 reply is granted with it, and no item of the client's own
abbrev opens_channel : Entry
opens_channel = entry (event.Came 1 (request_frame 1 kind.Channel (Some 1) hi false)) answer.Handled

abbrev grants_one : Entry
grants_one = entry (event.Asked (call.Grant 1 1)) answer.Done

abbrev item : Event
item = event.Came 1 (frame.Payload 1 false false true hi)

-- an item comes without credit, and with it
credit_rows :
    (answer_to server (accepts ∷ []) opens_channel.event ≡ answer.Handled)
    × (answer_to server (opens_channel ∷ accepts ∷ []) item ≡ answer.Violation (rule.OverCredit 0))
    × (answer_to server (opens_channel ∷ accepts ∷ []) grants_one.event ≡ answer.Done)
    × (answer_to server (grants_one ∷ opens_channel ∷ accepts ∷ []) item ≡ answer.Handled)
unfolding facts openings live begun carrying setup told closed made handled drawn due queued broken_rule refused_call pos_by acked_by least_boundary_by is_boundary_by frames_from_by known_after heard_in highest count_to turn fragments over jobs jobs_taken jobs_waiting stream_of granted used items is_whole
credit_rows = (refl, refl, refl, refl)

-- a server that takes one byte at most closes for a request of two, and accuses nobody
limit_rows :
    (answer_to (record server { max_payload = 1 }) (accepts ∷ []) (event.Came 1 (request_frame 1 kind.Fnf None hi false)) ≡ answer.Violation (rule.TooLarge 2))
    × (accuses (answer.Violation (rule.TooLarge 2)) ≡ false)
    × (accuses (answer.Violation rule.PositionSpent) ≡ false)
    × (accuses (answer.Violation (rule.BadFrame 10)) ≡ false)
    × (accuses (answer.Violation rule.NotNow) ≡ true)
    × (accuses answer.Handled ≡ false)
unfolding facts openings live begun carrying setup told closed made handled drawn due queued broken_rule pos_by acked_by least_boundary_by is_boundary_by frames_from_by known_after heard_in highest count_to turn fragments over jobs jobs_taken jobs_waiting
limit_rows = (refl, refl, refl, refl, refl, refl)
