-- What calls carry, and calls that are made often.
use Rattle.std.specs.Prelude.{◌≡◌, ℕ, ◌||◌, Bool, true, false, List, Option, Some, None, is_some, IsTrue}
use Rattle.rs_wire.specs.Ranges.{is_between}
use Rattle.rs_wire.specs.declared.words.Kind.{Kind}
use Rattle.rs_wire.specs.declared.words.Kind.TheVariants as kind
use Rattle.rs_wire.specs.declared.call.Call.{Call}
use Rattle.rs_wire.specs.declared.call.Call.TheVariants as call

-- a fire-and-forget of this content, without metadata
abbrev pub fire_and_forget : List ℕ → Call
fire_and_forget content = call.Request kind.Fnf None (record { metadata = None; content = content }) false

-- an ERROR on a stream may have that code: APPLICATION_ERROR to INVALID, or one left to applications (RSocket 1.0, "Error Codes")
abbrev pub is_stream_code : ℕ → Bool
is_stream_code code = is_between 0x201 code 0x204 || is_between 0x301 code 0xFFFFFFFE

-- the responder may send items from the start: a number of them is granted with the request
abbrev pub is_streamed : Kind → Bool
is_streamed kind.Stream = true
is_streamed kind.Channel = true
is_streamed _ = false

-- only the requester of a channel says with the request that nothing more follows
abbrev pub may_complete : Kind → Bool
may_complete kind.Channel = true
may_complete _ = false

abbrev pub CompleteFits : Kind → Bool → Type 0
CompleteFits k complete = complete ≡ true → may_complete k ≡ true

-- a call that a caller may make: what it carries fits the kind of the request, and a code is one of a stream
abbrev pub CanBeAsked : Call → Type 0
CanBeAsked (call.Request k initial message complete) = (is_some initial ≡ is_streamed k) × CompleteFits k complete
CanBeAsked (call.Fail stream code content) = is_stream_code code ≡ true
CanBeAsked _ = Unit {0}
