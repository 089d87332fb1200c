-- Worked examples: whole runs on one stream, as both ends see them, each mark before those that came earlier.
use Rattle.std.proofs.Common.{◌≡◌, ℕ, true, false, List, [], ◌∷◌, Option, Some, None, refl}
use Rattle.rs_wire.specs.declared.words.Kind.TheVariants.{Response, Stream, Channel}
use Rattle.rs_wire.specs.declared.words.Side.TheVariants.{Client, Server}
use Rattle.rs_wire.specs.declared.words.Side.{Side}
use Rattle.rs_wire.specs.declared.words.Way.TheVariants as way
use Rattle.rs_wire.specs.declared.message.Message.{Message}
use Rattle.rs_wire.specs.declared.delivery.Delivery.{Delivery}
use Rattle.rs_wire.specs.declared.delivery.Delivery.TheVariants as delivery
use Rattle.rs_wire.specs.declared.delivery.Job.TheVariants as job
use Rattle.rs_wire.specs.declared.call.Call.{Call}
use Rattle.rs_wire.specs.declared.call.Call.TheVariants as call
use Rattle.rs_wire.specs.declared.fault.Refusal.{Refusal}
use Rattle.rs_wire.specs.declared.fault.Refusal.TheVariants as refusal
use Rattle.stream_model.specs.declared.stream.Limits.{Limits}
use Rattle.stream_model.specs.Marks.{Step, Payload, RequestN, Cancel, Mark, Opens, Passed, Sent, Got, Pushed, Took}
use Rattle.stream_model.specs.Turns.{Turn, over, is_whole, items, granted, used, delivered, taken, waiting}
use Rattle.stream_model.specs.Streams.{turn, live, highest, count_to, jobs, jobs_taken, jobs_waiting}
use Rattle.stream_model.specs.Kept.{stream_of}
use Rattle.stream_model.specs.declared.stream.State.TheVariants.{Over}
use Rattle.stream_model.specs.Known.{known, state}
use Rattle.stream_model.specs.Refused.{refused_by}
use Rattle.stream_model.specs.Arriving.{ours, theirs, no_message}

-- ---- the words of these examples

-- the messages `a` and `b`
abbrev a : Message
a = record { metadata = None; content = 97 ∷ [] }

abbrev b : Message
b = record { metadata = None; content = 98 ∷ [] }

abbrev item : Delivery
item = delivery.Item b

-- a payload with `b`, and one that only completes
abbrev next_b : Step
next_b = Payload b false true

abbrev done : Step
done = Payload no_message true false

-- what is told of stream 1 at the end of a run
pub record AtEnd : Type 0 where
  -- how many streams are open
  pub live : ℕ
  -- how many items were granted and used on the request way
  pub request : ℕ × ℕ
  -- and on the reply way
  pub reply : ℕ × ℕ
  -- what was delivered to this end, what its callers took of it, and what waits
  pub delivered : List Delivery
  pub taken : List Delivery
  pub waiting : List Delivery

abbrev of_turn : ℕ → Option Turn → Option AtEnd
of_turn open_streams None = None
of_turn open_streams (Some t) = Some (record {
  live = open_streams;
  request = (granted t.opening t.words way.Request, used t.opening t.words way.Request);
  reply = (granted t.opening t.words way.Reply, used t.opening t.words way.Reply);
  delivered = delivered t.opening t.words;
  taken = taken t.words;
  waiting = waiting t.opening t.words;
})

-- after these marks, where 256 streams may be open
abbrev at_end : List Mark → Option AtEnd
at_end seen = of_turn (live 256 seen) (turn 256 seen 1)

abbrev limits : Side → Limits
limits side = record { side = side; max_streams = 256; last_id = 2147483647 }

-- what a call of an end is refused for after these marks
abbrev refused : Side → List Mark → Call → Option Refusal
refused side seen call = refused_by (limits side) (known 256 seen) call

-- ---- a stream with n = 2: two items, a third that finds no credit, REQUEST_N of 1, and the third

abbrev two_items : List Mark
two_items = Sent 1 next_b ∷ Sent 1 next_b ∷ Opens 1 (theirs Stream (Some 2) (Some (a, false))) ∷ []

pub a_third_item_has_no_credit : refused Server two_items (call.Next 1 b false) ≡ Some (refusal.NoCredit 2)
unfolding known turn over is_whole granted used items highest count_to stream_of
a_third_item_has_no_credit = refl

abbrev stream_server : List Mark
stream_server = Sent 1 next_b ∷ Got 1 (RequestN 1) ∷ two_items

pub stream_at_server : at_end stream_server ≡ Some (record { live = 1; request = (0, 0); reply = (3, 3); delivered = []; taken = []; waiting = [] })
unfolding turn over is_whole granted used items highest count_to delivered taken waiting
stream_at_server = refl

pub stream_job : jobs_waiting 256 stream_server ≡ job.Asked 1 Stream (Some 2) a false ∷ []
unfolding turn over is_whole highest count_to jobs jobs_taken jobs_waiting
stream_job = refl

abbrev stream_client : List Mark
stream_client = Got 1 next_b ∷ Sent 1 (RequestN 1) ∷ Got 1 next_b ∷ Got 1 next_b ∷ Opens 1 (ours Stream (Some 2) a false) ∷ []

pub stream_at_client : at_end stream_client ≡ Some (record { live = 1; request = (0, 0); reply = (3, 3); delivered = item ∷ item ∷ item ∷ []; taken = []; waiting = item ∷ item ∷ item ∷ [] })
unfolding turn over is_whole granted used items highest count_to delivered taken waiting
stream_at_client = refl

-- ---- a channel that the requester completes at once, with one item back; what came is taken

abbrev channel_came : List Mark
channel_came = Got 1 done ∷ Got 1 next_b ∷ Sent 1 done ∷ Opens 1 (ours Channel (Some 2) a false) ∷ []

abbrev channel_client : List Mark
channel_client = Took 1 delivery.Complete ∷ Took 1 item ∷ channel_came

pub channel_before_taking : at_end channel_came ≡ Some (record { live = 0; request = (0, 0); reply = (2, 1); delivered = item ∷ delivery.Complete ∷ []; taken = []; waiting = item ∷ delivery.Complete ∷ [] })
unfolding turn over is_whole granted used items highest count_to delivered taken waiting
channel_before_taking = refl

pub channel_at_client : at_end channel_client ≡ Some (record { live = 0; request = (0, 0); reply = (2, 1); delivered = item ∷ delivery.Complete ∷ []; taken = item ∷ delivery.Complete ∷ []; waiting = [] })
unfolding turn over is_whole granted used items highest count_to delivered taken waiting
channel_at_client = refl

pub nothing_more_to_take : refused Client channel_client (call.Take 1) ≡ Some refusal.Ended
unfolding known turn over is_whole granted used items highest count_to stream_of delivered taken waiting
nothing_more_to_take = refl

abbrev channel_server : List Mark
channel_server = Sent 1 done ∷ Sent 1 next_b ∷ Got 1 done ∷ Opens 1 (theirs Channel (Some 2) (Some (a, false))) ∷ []

pub channel_at_server : at_end channel_server ≡ Some (record { live = 0; request = (0, 0); reply = (2, 1); delivered = delivery.Complete ∷ []; taken = []; waiting = delivery.Complete ∷ [] })
unfolding turn over is_whole granted used items highest count_to delivered taken waiting
channel_at_server = refl

pub no_item_after_done : refused Server channel_server (call.Next 1 b false) ≡ Some refusal.Ended
unfolding known turn over is_whole granted used items highest count_to stream_of
no_item_after_done = refl

-- ---- a stream that the requester cancels while an item is on its way

abbrev canceled_client : List Mark
canceled_client = Got 1 next_b ∷ Sent 1 Cancel ∷ Opens 1 (ours Stream (Some 5) a false) ∷ []

pub canceled_at_client : at_end canceled_client ≡ Some (record { live = 0; request = (0, 0); reply = (5, 0); delivered = []; taken = []; waiting = [] })
unfolding turn over is_whole granted used items highest count_to delivered taken waiting
canceled_at_client = refl

pub nothing_to_take_after_cancel : refused Client canceled_client (call.Take 1) ≡ Some refusal.Ended
unfolding known turn over is_whole granted used items highest count_to stream_of delivered taken waiting
nothing_to_take_after_cancel = refl

abbrev canceled_server : List Mark
canceled_server = Took 1 delivery.Canceled ∷ Got 1 Cancel ∷ Sent 1 next_b ∷ Opens 1 (theirs Stream (Some 5) (Some (a, false))) ∷ []

pub canceled_at_server : at_end canceled_server ≡ Some (record { live = 0; request = (0, 0); reply = (5, 1); delivered = delivery.Canceled ∷ []; taken = delivery.Canceled ∷ []; waiting = [] })
unfolding turn over is_whole granted used items highest count_to delivered taken waiting
canceled_at_server = refl

pub no_item_after_cancel : refused Server canceled_server (call.Next 1 b false) ≡ Some refusal.Ended
unfolding known turn over is_whole granted used items highest count_to stream_of
no_item_after_cancel = refl

-- ---- what waits is dropped by an own cancel

abbrev canceled_late : List Mark
canceled_late = Sent 1 Cancel ∷ Got 1 next_b ∷ Got 1 next_b ∷ Opens 1 (ours Stream (Some 5) a false) ∷ []

pub cancel_drops_waiting_items : at_end canceled_late ≡ Some (record { live = 0; request = (0, 0); reply = (5, 2); delivered = []; taken = []; waiting = [] })
unfolding turn over is_whole granted used items highest count_to delivered taken waiting
cancel_drops_waiting_items = refl

-- ---- a response, which needs no credit, and ends with its one payload

abbrev response_asked : List Mark
response_asked = Opens 1 (theirs Response None (Some (a, false))) ∷ []

pub a_response_needs_no_credit : refused Server response_asked (call.Next 1 b true) ≡ None
unfolding known turn over is_whole granted used items highest count_to stream_of
a_response_needs_no_credit = refl

pub one_payload_answers : refused Server (Sent 1 next_b ∷ response_asked) (call.Next 1 b true) ≡ Some refusal.Ended
unfolding known turn over is_whole granted used items highest count_to stream_of
one_payload_answers = refl

abbrev response_client : List Mark
response_client = Got 1 (Payload no_message true true) ∷ Opens 1 (ours Response None a false) ∷ []

pub response_at_client : at_end response_client ≡ Some (record { live = 0; request = (0, 0); reply = (0, 1); delivered = delivery.Item no_message ∷ delivery.Complete ∷ []; taken = []; waiting = delivery.Item no_message ∷ delivery.Complete ∷ [] })
unfolding turn over is_whole granted used items highest count_to delivered taken waiting
response_at_client = refl

-- ---- a request that its lease does not cover, and metadata that is pushed

abbrev passed_over : List Mark
passed_over = Pushed (97 ∷ []) ∷ Passed 3 ∷ Opens 1 (theirs Response None (Some (a, false))) ∷ []

pub its_id_is_used : (known 256 passed_over).odd ≡ 3
unfolding known turn over is_whole granted used items highest count_to stream_of delivered taken waiting
its_id_is_used = refl

pub it_opens_no_stream : state Server (known 256 passed_over) 3 ≡ Over
unfolding known turn over is_whole granted used items highest count_to stream_of delivered taken waiting
it_opens_no_stream = refl

pub the_one_before_it_is_open : (known 256 passed_over).live ≡ 1
unfolding known turn over is_whole granted used items highest count_to stream_of delivered taken waiting
the_one_before_it_is_open = refl

pub metadata_waits_as_a_job : jobs_waiting 256 passed_over ≡ job.Asked 1 Response None a false ∷ job.Pushed (97 ∷ []) ∷ []
unfolding turn over is_whole highest count_to jobs jobs_taken jobs_waiting
metadata_waits_as_a_job = refl
