-- The part of an end in a stream: which items it sends, what it grants and ends, by kind; and which message of the requester's is none of the items.
use Rattle.std.proofs.Common.{◌≡◌, ◌≤◌, ◌+◌, ◌&&◌, ◌||◌, ℕ, Bool, true, false, not, None, refl, arith}
use Rattle.rs_wire.specs.declared.words.Kind.{Kind}
use Rattle.rs_wire.specs.declared.words.Kind.TheVariants.{Response, Fnf, Stream as Streamed, Channel}
use Rattle.rs_wire.specs.declared.words.Role.{Role}
use Rattle.rs_wire.specs.declared.words.Role.TheVariants.{Requester, Responder}
use Rattle.rs_wire.specs.declared.words.Way.TheVariants as way
use Rattle.rs_wire.specs.declared.message.Message.{Message}
use Rattle.stream_model.specs.declared.stream.Stream.{Stream}
use Rattle.stream_model.specs.Marks.{Payload}
use Rattle.stream_model.specs.Turns.{Said, carries, inbound, is_of_requester, may_grant, message_ends, needs_credit, other}
use Rattle.stream_model.specs.Streams.{one_if}
use Rattle.stream_model.specs.Kept.{items_in}
use Rattle.stream_model.specs.Refused.{inbound_over, on_way, outbound_over}

-- ---- the request's own message, in parts

-- a message of the requester's payloads that was no item, since it made the request's own message whole
abbrev pub late : Role → Bool → Bool → ℕ
late Requester parts whole = 0
late Responder parts whole = one_if (parts && whole)

-- and the same of this end's own request
abbrev pub own_parts : Role → ℕ → ℕ
own_parts Requester n = n
own_parts Responder n = 0

-- ---- tables, by the part of this end and the kind

pub own_no_item : (kind : Kind) (whole : Bool) (role : Role) → carries kind whole (inbound role) role ≡ false
own_no_item Channel whole Requester = refl
own_no_item Channel whole Responder = refl
own_no_item Streamed whole Requester = refl
own_no_item Streamed whole Responder = refl
own_no_item Response whole Requester = refl
own_no_item Response whole Responder = refl
own_no_item Fnf whole Requester = refl
own_no_item Fnf whole Responder = refl

pub own_no_grant : (kind : Kind) (role : Role) → may_grant kind (inbound (other role)) role ≡ false
own_no_grant Channel Requester = refl
own_no_grant Channel Responder = refl
own_no_grant Streamed Requester = refl
own_no_grant Streamed Responder = refl
own_no_grant Response Requester = refl
own_no_grant Response Responder = refl
own_no_grant Fnf Requester = refl
own_no_grant Fnf Responder = refl

-- who may grant grants what comes
pub own_grants : (kind : Kind) (role : Role) (f : Stream) → on_way (inbound_over role kind f) ≡ None → may_grant kind (inbound role) role ≡ true
own_grants Channel Requester f none = refl
own_grants Channel Responder f none = refl
own_grants Streamed Requester f none = refl
own_grants Streamed Responder f none = absurd (cc)
own_grants Response Requester f none = absurd (cc)
own_grants Response Responder f none = absurd (cc)
own_grants Fnf Requester f none = absurd (cc)
own_grants Fnf Responder f none = absurd (cc)

-- who may send sends items, where they need credit
pub own_items : (kind : Kind) (role : Role) (f : Stream) (whole : Bool) → on_way (outbound_over role kind f) ≡ None → needs_credit kind ≡ true → (role ≡ Requester → whole ≡ true) → carries kind whole (inbound (other role)) role ≡ true
own_items Channel Requester f whole none needs mine = mine refl
own_items Channel Responder f whole none needs mine = refl
own_items Streamed Requester f whole none needs mine = absurd (cc)
own_items Streamed Responder f whole none needs mine = refl
own_items Response role f whole none needs mine = absurd (cc)
own_items Fnf role f whole none needs mine = absurd (cc)

-- and ends its way where it is complete
pub own_ends : (kind : Kind) (role : Role) (f : Stream) → on_way (outbound_over role kind f) ≡ None → needs_credit kind ≡ true → message_ends role kind true (inbound (other role)) ≡ true
own_ends Channel Requester f none needs = refl
own_ends Channel Responder f none needs = refl
own_ends Streamed Requester f none needs = absurd (cc)
own_ends Streamed Responder f none needs = refl
own_ends Response role f none needs = absurd (cc)
own_ends Fnf role f none needs = absurd (cc)

-- ---- how much later a message is whole

pub same_late : (role : Role) (parts whole : Bool) → late role parts (whole || false) ≤ late role parts whole
same_late Requester parts whole = omega arith
same_late Responder parts true = omega arith
same_late Responder parts false = omega arith

pub own_late : (role : Role) (parts whole over : Bool) (m : Message) (c n : Bool) → late role parts (whole || (is_of_requester (Said role (Payload m c n)) && not over)) ≤ late role parts whole
own_late Requester parts whole over m c n = omega arith
own_late Responder parts true over m c n = omega arith
own_late Responder parts false over m c n = omega arith

one_most : (b : Bool) → one_if b ≤ 1
one_most true = omega arith
one_most false = omega arith

-- a payload of the peer's is an item, or makes the request's own message whole
pub peers_late : (kind : Kind) (role : Role) (parts whole over request_over : Bool) (m : Message) (c n : Bool)
    → items_in over kind whole (inbound role) (Said (other role) (Payload m c n)) + late role parts (whole || (is_of_requester (Said (other role) (Payload m c n)) && not request_over)) ≤ late role parts whole + 1
peers_late kind Requester parts whole true r m c n = omega arith
peers_late kind Requester parts whole false r m c n = let most = one_most (needs_credit kind && (n && carries kind whole way.Reply Responder)) in omega (arith, most)
peers_late kind Responder parts true true r m c n = omega arith
peers_late kind Responder parts true false r m c n = let most = one_most (needs_credit kind && (n && carries kind true way.Request Requester)) in omega (arith, most)
peers_late kind Responder parts false true r m c n = let most = one_most (parts && not r) in omega (arith, most)
peers_late Channel Responder parts false false r m c true = let most = one_most (parts && not r) in omega (arith, most)
peers_late Channel Responder parts false false r m c false = let most = one_most (parts && not r) in omega (arith, most)
peers_late Streamed Responder parts false false r m c true = let most = one_most (parts && not r) in omega (arith, most)
peers_late Streamed Responder parts false false r m c false = let most = one_most (parts && not r) in omega (arith, most)
peers_late Response Responder parts false false r m c n = let most = one_most (parts && not r) in omega (arith, most)
peers_late Fnf Responder parts false false r m c n = let most = one_most (parts && not r) in omega (arith, most)
