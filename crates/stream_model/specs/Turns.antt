-- One stream, from its admitted request on.
use Rattle.std.specs.Prelude.{ℕ, ◌+◌, ◌&&◌, ◌||◌, Bool, true, false, not, if◌then◌else◌, List, [], ◌∷◌, ◌++◌, length, drop, Option, Some, None, option_to_list, is_some}
use Rattle.rs_wire.specs.declared.words.Kind.{Kind}
use Rattle.rs_wire.specs.declared.words.Kind.TheVariants.{Response, Fnf, Stream, Channel}
use Rattle.rs_wire.specs.declared.words.Way.{Way}
use Rattle.rs_wire.specs.declared.words.Way.TheVariants as way
use Rattle.rs_wire.specs.declared.words.Role.{Role}
use Rattle.rs_wire.specs.declared.words.Role.TheVariants.{Requester, Responder}
use Rattle.rs_wire.specs.declared.message.Message.{Message}
use Rattle.rs_wire.specs.declared.delivery.Delivery.{Delivery}
use Rattle.rs_wire.specs.declared.delivery.Delivery.TheVariants as delivery
use Rattle.stream_model.specs.Marks.{Opening, Step, Payload, RequestN, Cancel, Fail}

-- what either end said on a stream after the request, and what a caller of this end took of it
pub data Word : Type 0 where
  Said : (by : Role) (step : Step) → Word
  Taken : (delivery : Delivery) → Word

-- a stream: its request, and the words after it, the newest first
pub record Turn : Type 0 where
  pub opening : Opening
  pub words : List Word

-- ---- the kinds

abbrev pub is_response : Kind → Bool
is_response Response = true
is_response _ = false

abbrev pub is_fnf : Kind → Bool
is_fnf Fnf = true
is_fnf _ = false

abbrev pub is_channel : Kind → Bool
is_channel Channel = true
is_channel _ = false

-- items need credit on streams and channels; a response has one payload, and needs none
abbrev pub needs_credit : Kind → Bool
needs_credit Stream = true
needs_credit Channel = true
needs_credit _ = false

-- ---- the parts of the two ends

abbrev pub is_role : Role → Role → Bool
is_role Requester Requester = true
is_role Responder Responder = true
is_role _ _ = false

abbrev pub other : Role → Role
other Requester = Responder
other Responder = Requester

-- the way that an end receives
abbrev pub inbound : Role → Way
inbound Requester = way.Reply
inbound Responder = way.Request

abbrev pub is_request_way : Way → Bool
is_request_way way.Request = true
is_request_way way.Reply = false

-- ---- the ends of the ways

-- a whole message of that end ends this way: a requester's where it is a fire-and-forget, or completes a channel; a responder's where it
-- is the response, or completes a stream or its way of a channel
abbrev pub message_ends : Role → Kind → Bool → Way → Bool
message_ends Requester Fnf complete w = true
message_ends Requester Channel complete w = complete && is_request_way w
message_ends Requester kind complete w = false
message_ends Responder Response complete w = true
message_ends Responder Stream complete w = complete
message_ends Responder Channel complete w = complete && not (is_request_way w)
message_ends Responder Fnf complete w = false

-- a CANCEL of that end ends this way: the requester's ends the stream, the responder's of a channel the request way
abbrev pub cancel_ends : Role → Kind → Way → Bool
cancel_ends Requester kind w = true
cancel_ends Responder kind w = is_channel kind && is_request_way w

-- what ends a way; an ERROR of either end ends the stream
abbrev pub ends : Kind → Way → Word → Bool
ends kind w (Said by (Payload message complete next)) = message_ends by kind complete w
ends kind w (Said by (RequestN n)) = false
ends kind w (Said by Cancel) = cancel_ends by kind w
ends kind w (Said by (Fail code content)) = true
ends kind w (Taken d) = false

abbrev pub opening_ends : Kind → Option (Message × Bool) → Way → Bool
opening_ends kind None w = false
opening_ends kind (Some m) w = message_ends Requester kind m.1 w

-- a way is over
unfoldable pub over : Opening → List Word → Way → Bool
over o [] w = opening_ends o.kind o.whole w
over o (x ∷ xs) w = over o xs w || ends o.kind w x

-- a stream is over
abbrev pub is_over : Turn → Bool
is_over t = over t.opening t.words way.Request && over t.opening t.words way.Reply

-- ---- the request's own message

abbrev pub is_of_requester : Word → Bool
is_of_requester (Said Requester (Payload message complete next)) = true
is_of_requester _ = false

-- the request's own message is whole: it was from the start, or the rest of it came before the request way was over
unfoldable pub is_whole : Opening → List Word → Bool
is_whole o [] = is_some o.whole
is_whole o (x ∷ xs) = is_whole o xs || (is_of_requester x && not (over o xs way.Request))

-- ---- items

-- a way carries items of that end: the responder's replies, and what the requester of a channel sends after its own message
abbrev pub carries : Kind → Bool → Way → Role → Bool
carries Channel whole way.Request Requester = whole
carries Channel whole way.Reply Responder = true
carries Stream whole way.Reply Responder = true
carries Response whole way.Reply Responder = true
carries kind whole w by = false

-- the item in a word: a whole message of PAYLOAD frames with N
abbrev pub item_in : Kind → Bool → Way → Word → Option Message
item_in kind whole w (Said by (Payload message complete next)) = if next && carries kind whole w by then Some message else None
item_in kind whole w x = None

-- the item that a word adds to a way
abbrev pub item_next : Opening → List Word → Way → Word → Option Message
item_next o xs w x = if over o xs w then None else item_in o.kind (is_whole o xs) w x

-- the items of a way, in order
unfoldable pub items : Opening → List Word → Way → List Message
items o [] w = []
items o (x ∷ xs) w = items o xs w ++ option_to_list (item_next o xs w x)

-- ---- credit (RSocket 1.0, "REQUEST_N Frame")

-- the end that receives a way grants its items: the requester of a stream or channel the replies, the responder of a channel the others
abbrev pub may_grant : Kind → Way → Role → Bool
may_grant Channel way.Reply Requester = true
may_grant Stream way.Reply Requester = true
may_grant Channel way.Request Responder = true
may_grant kind w by = false

abbrev pub grants : Kind → Way → Word → ℕ
grants kind w (Said by (RequestN n)) = if may_grant kind w by then n else 0
grants kind w x = 0

-- the initial n of a request is for the replies
abbrev pub first_grant : Way → ℕ → ℕ
first_grant way.Reply initial = initial
first_grant way.Request initial = 0

-- how many items were granted on a way
unfoldable pub granted : Opening → List Word → Way → ℕ
granted o [] w = first_grant w o.initial
granted o (x ∷ xs) w = granted o xs w + grants o.kind w x

-- how many of them are used
unfoldable pub used : Opening → List Word → Way → ℕ
used o xs w = length (items o xs w)

-- ---- deliveries to this end

-- what this end's callers took of a stream
unfoldable pub taken : List Word → List Delivery
taken [] = []
taken (Taken d ∷ xs) = taken xs ++ d ∷ []
taken (Said by step ∷ xs) = taken xs

-- the end that a step of the peer's is
abbrev pub end_of : Step → Delivery
end_of Cancel = delivery.Canceled
end_of (Fail code content) = delivery.Error code content
end_of _ = delivery.Complete

abbrev pub item_deliveries : Option Message → List Delivery
item_deliveries None = []
item_deliveries (Some message) = delivery.Item message ∷ []

-- what a step of the peer's delivers while the way is not over: its item, then the end that it makes; a fire-and-forget delivers nothing
abbrev pub brings : Kind → Bool → Way → Role → Step → List Delivery
brings kind whole w by step =
    if is_fnf kind then []
    else item_deliveries (item_in kind whole w (Said by step)) ++ (if ends kind w (Said by step) then end_of step ∷ [] else [])

-- the request way of a channel may end with the request itself
abbrev pub delivered_first : Opening → List Delivery
delivered_first o = if is_role o.role Responder && is_channel o.kind && opening_ends o.kind o.whole way.Request then delivery.Complete ∷ [] else []

-- what a stream delivers to this end, in order; an own act that ends the way drops what was not taken
unfoldable pub delivered : Opening → List Word → List Delivery
delivered o [] = delivered_first o
delivered o (Taken d ∷ xs) = delivered o xs
delivered o (Said by step ∷ xs) =
    let w = inbound o.role in
    if over o xs w then delivered o xs
    else if is_role o.role by then (if ends o.kind w (Said by step) then taken xs else delivered o xs)
    else delivered o xs ++ brings o.kind (is_whole o xs) w by step

-- what waits to be taken
unfoldable pub waiting : Opening → List Word → List Delivery
waiting o xs = drop (length (taken xs)) (delivered o xs)
