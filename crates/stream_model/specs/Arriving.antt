-- What the peer says on the streams: the rule that it breaks, its effect, and the marks of what either end says.
use Rattle.std.specs.Prelude.{◌≡◌, ◌<◌, ◌^◌, ℕ, ◌-◌, ◌==◌, ◌&&◌, ◌||◌, not, nat_lt, Bool, true, false, if◌then◌else◌, List, [], ◌∷◌, Option, Some, None, is_some}
use Rattle.rs_wire.specs.Calls.{is_streamed}
use Rattle.rs_wire.specs.declared.words.Kind.{Kind}
use Rattle.rs_wire.specs.declared.words.Role.TheVariants.{Requester, Responder}
use Rattle.rs_wire.specs.declared.message.Message.{Message}
use Rattle.rs_wire.specs.declared.call.Call.{Call}
use Rattle.rs_wire.specs.declared.call.Call.TheVariants as call
use Rattle.rs_wire.specs.declared.delivery.Delivery.{Delivery}
use Rattle.rs_wire.specs.declared.delivery.Job.{Job}
use Rattle.rs_wire.specs.declared.fault.Rule.TheVariants as rule
use Rattle.stream_model.specs.declared.arrival.Arrival.{Arrival}
use Rattle.stream_model.specs.declared.arrival.Arrival.TheVariants as arrival
use Rattle.stream_model.specs.declared.arrival.Effect.{Effect}
use Rattle.stream_model.specs.declared.arrival.Effect.TheVariants as effect
use Rattle.stream_model.specs.declared.stream.Limits.{Limits}
use Rattle.stream_model.specs.declared.stream.Stream.{Stream as Kept}
use Rattle.stream_model.specs.Marks.{Opening, Payload, RequestN, Cancel, Fail, Mark, Opens, Passed, Sent, Got, Pushed, Took, TookJob}
use Rattle.stream_model.specs.Turns.{is_fnf, carries, needs_credit, inbound, other}
use Rattle.stream_model.specs.Known.{Known, is_peers_next, over_at, credit_at}

-- ---- the marks

abbrev pub or_zero : Option ℕ → ℕ
or_zero None = 0
or_zero (Some n) = n

-- a request of this end's, whose message is whole
abbrev pub ours : Kind → Option ℕ → Message → Bool → Opening
ours kind initial message complete = record { role = Requester; kind = kind; initial = or_zero initial; whole = Some (message, complete) }

-- a request of the peer's
abbrev pub theirs : Kind → Option ℕ → Option (Message × Bool) → Opening
theirs kind initial whole = record { role = Responder; kind = kind; initial = or_zero initial; whole = whole }

abbrev pub no_message : Message
no_message = record { metadata = None; content = [] }

-- what a call says on the stream of that id, which a request opens
abbrev pub said : ℕ → Call → List Mark
said id (call.Request kind initial message complete) = Opens id (ours kind initial message complete) ∷ []
said id (call.Next s message complete) = Sent s (Payload message complete true) ∷ []
said id (call.Done s) = Sent s (Payload no_message true false) ∷ []
said id (call.Grant s n) = Sent s (RequestN n) ∷ []
said id (call.Cancel s) = Sent s Cancel ∷ []
said id (call.Fail s code content) = Sent s (Fail code content) ∷ []
said id _ = []

-- what the peer says
abbrev pub heard : Arrival → Mark
heard (arrival.Asked s kind initial whole) = Opens s (theirs kind initial whole)
heard (arrival.Whole s message complete next) = Got s (Payload message complete next)
heard (arrival.Granted s n) = Got s (RequestN n)
heard (arrival.Canceled s) = Got s Cancel
heard (arrival.Failed s code content) = Got s (Fail code content)
heard (arrival.PassedOver s) = Passed s
heard (arrival.Pushed metadata) = Pushed metadata

abbrev pub took : ℕ → Option Delivery → List Mark
took s None = []
took s (Some d) = Took s d ∷ []

abbrev pub took_job : Option Job → List Mark
took_job None = []
took_job (Some j) = TookJob ∷ []

-- the stream of an arrival; 0 is the connection
abbrev pub stream_in : Arrival → ℕ
stream_in (arrival.Asked s kind initial whole) = s
stream_in (arrival.Whole s message complete next) = s
stream_in (arrival.Granted s n) = s
stream_in (arrival.Canceled s) = s
stream_in (arrival.Failed s code content) = s
stream_in (arrival.PassedOver s) = s
stream_in (arrival.Pushed metadata) = 0

-- ---- the effect

-- how much was granted, where an item of the peer's finds no credit left
abbrev pub over_credit : Kept → Bool → Option ℕ
over_credit f next =
    let w = inbound f.role in
    let credit = credit_at f w in
    if (next && carries f.kind f.whole w (other f.role)) && (not (over_at f w) && (needs_credit f.kind && (credit.granted - credit.used == 0))) then Some credit.granted
    else None

abbrev pub over_credit_on : Option Kept → Bool → Option ℕ
over_credit_on None next = None
over_credit_on (Some f) next = over_credit f next

abbrev pub used_unless : Option ℕ → Effect
used_unless None = effect.Used
used_unless (Some n) = effect.Broken (rule.OverCredit n)

-- a message on a stream that is not open is ignored
abbrev pub message_effect : Option Kept → Bool → Effect
message_effect None next = effect.Ignored
message_effect (Some f) next = used_unless (over_credit f next)

-- a step on a stream that is not open is ignored
abbrev pub step_effect : Option Kept → Effect
step_effect None = effect.Ignored
step_effect (Some f) = effect.Used

-- a request is admitted where one stream more may be open, or where it is a whole fire-and-forget; else a fire-and-forget is ignored
abbrev pub asked_effect : Bool → Bool → Bool → Bool → ℕ → Effect
asked_effect is_next room fnf whole s =
    if not is_next then effect.Broken (rule.StreamId s)
    else if room || (fnf && whole) then effect.Used
    else if fnf then effect.Ignored
    else effect.TooMany

-- one that is passed over is counted
abbrev pub passed_effect : Bool → ℕ → Effect
passed_effect is_next s = if is_next then effect.Ignored else effect.Broken (rule.StreamId s)

abbrev pub effect_by : Limits → Known → Arrival → Effect
effect_by l t (arrival.Asked s kind initial whole) = asked_effect (is_peers_next l.side t s) (nat_lt t.live l.max_streams) (is_fnf kind) (is_some whole) s
effect_by l t (arrival.Whole s message complete next) = message_effect (t.kept s) next
effect_by l t (arrival.Granted s n) = step_effect (t.kept s)
effect_by l t (arrival.Canceled s) = step_effect (t.kept s)
effect_by l t (arrival.Failed s code content) = step_effect (t.kept s)
effect_by l t (arrival.PassedOver s) = passed_effect (is_peers_next l.side t s) s
effect_by l t (arrival.Pushed metadata) = effect.Used

-- ---- conditions

-- less than 2 ^ 100 was granted on each way of a stream
abbrev pub MayGrant : Option Kept → Type 0
MayGrant None = Unit {0}
MayGrant (Some f) = (f.request.granted < 2 ^ 100) × (f.reply.granted < 2 ^ 100)

-- an arrival that can come: an id has 31 bits, and a request has an initial n exactly where it is of a stream or a channel
abbrev pub CanArrive : Known → Arrival → Type 0
CanArrive t (arrival.Asked s kind initial whole) = (s < 2 ^ 31) × (is_some initial ≡ is_streamed kind)
CanArrive t (arrival.PassedOver s) = s < 2 ^ 31
CanArrive t (arrival.Granted s n) = MayGrant (t.kept s)
CanArrive t _ = Unit {0}

-- a call that acts on a stream, and whose grant leaves room for more
abbrev pub CanAct : Known → Call → Type 0
CanAct t (call.Grant s n) = MayGrant (t.kept s)
CanAct t (call.Push metadata) = ⊥
CanAct t (call.Lease ttl count metadata) = ⊥
CanAct t (call.Take s) = ⊥
CanAct t call.TakeJob = ⊥
CanAct t call.Close = ⊥
CanAct t _ = Unit {0}
