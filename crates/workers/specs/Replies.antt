-- The replies that a job asks for, by the law of its route.
use Rattle.std.specs.Prelude.{◌≡◌, ℕ, ◌+◌, ◌==◌, ◌&&◌, Bool, true, false, if◌then◌else◌, List, [], ◌∷◌, ◌++◌, length, slice_get, Option, Some, None, option_to_list, codes}
use Rattle.rs_wire.specs.declared.words.Kind.{Kind}
use Rattle.rs_wire.specs.declared.words.Kind.TheVariants as kind
use Rattle.rs_wire.specs.declared.message.Message.{Message}
use Rattle.rs_wire.specs.declared.call.Call.{Call}
use Rattle.rs_wire.specs.declared.call.Call.TheVariants as call
use Rattle.handlers.specs.Listed.{Listed, place}
use Rattle.handlers.specs.Values.{count_in, value}
use Rattle.handlers.specs.declared.law.Law.{Law}
use Rattle.handlers.specs.declared.law.Law.TheVariants as law

-- ---- the law of a request

abbrev pub or_empty : Option (List ℕ) → List ℕ
or_empty None = []
or_empty (Some bytes) = bytes

-- the name of the route that a request asks for: its metadata, and none is the empty name
abbrev pub name_of : Message → List ℕ
name_of message = or_empty message.metadata

abbrev pub law_in : Option Listed → Option Law
law_in None = None
law_in (Some route) = Some route.law

abbrev pub law_at : List Listed → Option ℕ → Option Law
law_at routes None = None
law_at routes (Some n) = law_in (slice_get routes n)

-- the law of the route that is found for a request, where there is one
abbrev pub law_of : List Listed → Kind → Message → Option Law
law_of routes k message = law_at routes (place routes (name_of message) k)

-- ---- the replies

-- how many items a law gives for a content
abbrev pub item_count : Law → List ℕ → ℕ
item_count law.Echo content = 1
item_count law.Upper content = 1
item_count law.Count content = count_in content
item_count law.Drop content = 0

-- the items that answer the contents of a channel: each content by its item at 0, where there is one
abbrev pub answers : Law → List (List ℕ) → List (List ℕ)
answers l [] = []
answers l (content ∷ contents) = option_to_list (value l content 0) ++ answers l contents

-- an item is sent without metadata
abbrev pub plain : List ℕ → Message
plain content = record { metadata = None; content = content }

-- a response has its item and the end in one reply, or the end alone
abbrev pub response : ℕ → Option (List ℕ) → Call
response s (Some item) = call.Next s (plain item) true
response s None = call.Done s

-- an item, or the end where it is due
abbrev pub item_or_end : ℕ → Option (List ℕ) → Bool → Option Call
item_or_end s (Some item) due = Some (call.Next s (plain item) false)
item_or_end s None due = if due then Some (call.Done s) else None

abbrev pub channel_reply : ℕ → List (List ℕ) → Bool → ℕ → Option Call
channel_reply s items over k = item_or_end s (slice_get items k) (over && (k == length items))

abbrev pub lawful_reply : Law → Kind → ℕ → List ℕ → List (List ℕ) → Bool → ℕ → Option Call
lawful_reply l kind.Response s content got over k = if k == 0 then Some (response s (value l content 0)) else None
lawful_reply l kind.Fnf s content got over k = None
lawful_reply l kind.Stream s content got over k = item_or_end s (value l content k) (k == item_count l content)
lawful_reply l kind.Channel s content got over k = channel_reply s (answers l (content ∷ got)) over k

-- the answer where no route is found (RSocket 1.0, "Error Codes", APPLICATION_ERROR)
abbrev pub no_route : ℕ → Call
no_route s = call.Fail s 0x201 (codes "no route")

abbrev pub routeless_reply : Kind → ℕ → ℕ → Option Call
routeless_reply kind.Fnf s k = None
routeless_reply _ s k = if k == 0 then Some (no_route s) else None

-- The reply at place k, from 0, of a job on stream s of this kind and content, by the law of its route, where there is one. On a channel
-- these contents were got after the request's own, and its request way is over or not (RSocket 1.0, "Request Response" to "Request
-- Channel"). There is none after the last one, and on a channel none that waits for a content.
unfoldable pub reply : Option Law → Kind → ℕ → List ℕ → List (List ℕ) → Bool → ℕ → Option Call
reply None k s content got over n = routeless_reply k s n
reply (Some l) k s content got over n = lawful_reply l k s content got over n

-- how many of these calls bring an item
abbrev pub item_of : Call → ℕ
item_of (call.Next s message complete) = 1
item_of _ = 0

abbrev pub items_of : List Call → ℕ
items_of [] = 0
items_of (c ∷ calls) = item_of c + items_of calls

-- These calls, the newest first, are the first replies of that job, in their order.
abbrev pub AreReplies : (ℕ → Option Call) → List Call → Type 0
AreReplies at [] = Unit {0}
AreReplies at (c ∷ earlier) = (at (length earlier) ≡ Some c) × AreReplies at earlier
