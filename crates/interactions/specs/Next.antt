-- What an act of either end does to what waits on its stream, and to the jobs.
use Rattle.std.specs.Prelude.{◌&&◌, ◌++◌, not, Bool, if◌then◌else◌, ℕ, List, [], ◌∷◌, Option, Some, None}
use Rattle.rs_wire.specs.declared.words.Role.TheVariants.{Responder}
use Rattle.rs_wire.specs.declared.message.Message.{Message}
use Rattle.rs_wire.specs.declared.delivery.Delivery.{Delivery}
use Rattle.rs_wire.specs.declared.delivery.Job.{Job}
use Rattle.rs_wire.specs.declared.delivery.Job.TheVariants as job
use Rattle.stream_model.specs.Marks.{Opening, Step, Payload}
use Rattle.stream_model.specs.Turns.{is_role}
use Rattle.stream_model.specs.Streams.{if_amount, opening_job}
use Rattle.stream_model.specs.declared.stream.Stream.{Stream}
use Rattle.stream_model.specs.declared.arrival.Effect.{Effect}
use Rattle.stream_model.specs.declared.arrival.Effect.TheVariants as effect
use Rattle.stream_model.specs.Known.{Known, next_id}
use Rattle.rs_wire.specs.declared.words.Side.{Side}
use Rattle.rs_wire.specs.declared.call.Call.{Call}
use Rattle.rs_wire.specs.declared.call.Call.TheVariants as call

-- whether a request says that nothing more follows, where its message is whole
abbrev pub completes : Option (Message × Bool) → Option Bool
completes None = None
completes (Some m) = Some m.1

-- what waits after an act of this end, which drops it where it ends the way that this end receives
abbrev pub waits_own : Bool → Bool → List Delivery → List Delivery
waits_own over ends before = if over then before else if ends then [] else before

-- what waits after an act of the peer's, which delivers more while the way that this end receives is not over
abbrev pub waits_peer : Bool → List Delivery → List Delivery → List Delivery
waits_peer over before more = if over then before else before ++ more

-- a message of the peer's that makes the request's own whole brings a job
abbrev pub job_in : ℕ → Stream → Step → List Job
job_in s f (Payload message complete next) = if is_role f.role Responder && not f.whole && not f.request_over then job.Asked s f.kind (if_amount f.initial) message complete ∷ [] else []
job_in s f step = []

-- the jobs of an admitted request
abbrev pub opened_jobs : ℕ → Opening → List Job
opened_jobs s o = if is_role o.role Responder then opening_job s o o.whole else []

-- where no rule is broken
abbrev pub IfCounted : Effect → Type 0 → Type 0
IfCounted (effect.Broken rule) P = Unit {0}
IfCounted _ P = P

-- where a rule is broken
abbrev pub IfBroken : Effect → Type 0 → Type 0
IfBroken (effect.Broken rule) P = P
IfBroken _ P = Unit {0}

-- the stream of a call, which a request opens
abbrev pub stream_by : Side → Known → Call → ℕ
stream_by side t (call.Request kind initial message complete) = next_id side t
stream_by side t (call.Next s message complete) = s
stream_by side t (call.Done s) = s
stream_by side t (call.Grant s n) = s
stream_by side t (call.Cancel s) = s
stream_by side t (call.Fail s code content) = s
stream_by side t (call.Take s) = s
stream_by side t _ = 0
