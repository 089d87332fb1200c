-- What callers see of the streams of an end.
use Rattle.std.specs.Prelude.{ℕ, List, [], ◌∷◌, ◌++◌, Option, Some, None}
use Rattle.rs_wire.specs.declared.call.Call.{Call}
use Rattle.rs_wire.specs.declared.call.Call.TheVariants as call
use Rattle.stream_model.specs.declared.stream.Limits.{Limits}
use Rattle.stream_model.specs.declared.arrival.Arrival.{Arrival}
use Rattle.stream_model.specs.declared.arrival.Effect.{Effect}
use Rattle.stream_model.specs.declared.arrival.Effect.TheVariants as effect
use Rattle.stream_model.specs.Marks.{Mark}
use Rattle.stream_model.specs.Known.{Known, known, next_id}
use Rattle.stream_model.specs.Arriving.{said, heard}

pub record Seen : Type 0 where
  pub limits : Limits
  -- what happened on the streams, the newest first
  pub marks : List Mark
  -- the stream for which one arrival finds room without memory
  pub ready : Option ℕ

-- what is known of the streams
abbrev pub known_to : Seen → Known
known_to v = known v.limits.max_streams v.marks

-- the stream of a call, which a request opens
abbrev pub stream_of_call : Seen → Call → ℕ
stream_of_call v (call.Request kind initial message complete) = next_id v.limits.side (known_to v)
stream_of_call v (call.Next s message complete) = s
stream_of_call v (call.Done s) = s
stream_of_call v (call.Grant s n) = s
stream_of_call v (call.Cancel s) = s
stream_of_call v (call.Fail s code content) = s
stream_of_call v (call.Take s) = s
stream_of_call v _ = 0

-- the streams after these marks more; what comes next needs room of its own
abbrev pub marked : Seen → List Mark → Seen
marked v more = record v { marks = more ++ v.marks; ready = None }

-- the streams after a call on them
abbrev pub acted : Seen → Call → Seen
acted v c = marked v (said (stream_of_call v c) c)

-- the streams after an arrival with this effect: one that breaks a rule changes nothing
abbrev pub arrived : Seen → Arrival → Effect → Seen
arrived v what (effect.Broken rule) = v
arrived v what _ = marked v (heard what ∷ [])

abbrev pub front_of : {A : Type 0} → List A → Option A
front_of [] = None
front_of (x ∷ xs) = Some x
