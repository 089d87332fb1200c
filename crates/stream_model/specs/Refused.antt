-- What a call on the streams is refused for. Each test stands alone, since a session puts tests of its own between them.
use Rattle.std.specs.Prelude.{ℕ, ◌-◌, ◌==◌, ◌&&◌, not, nat_lt, Bool, true, false, if◌then◌else◌, List, [], ◌∷◌, Option, Some, None}
use Rattle.std.specs.Option.{option_or}
use Rattle.rs_wire.specs.declared.words.Kind.{Kind}
use Rattle.rs_wire.specs.declared.words.Kind.TheVariants.{Fnf, Stream, Channel}
use Rattle.rs_wire.specs.declared.words.Role.{Role}
use Rattle.rs_wire.specs.declared.words.Role.TheVariants.{Requester, Responder}
use Rattle.rs_wire.specs.declared.call.Call.{Call}
use Rattle.rs_wire.specs.declared.call.Call.TheVariants as call
use Rattle.rs_wire.specs.declared.fault.Refusal.{Refusal}
use Rattle.rs_wire.specs.declared.fault.Refusal.TheVariants as refusal
use Rattle.rs_wire.specs.declared.delivery.Delivery.{Delivery}
use Rattle.credit.specs.declared.Credit.{Credit}
use Rattle.stream_model.specs.declared.stream.Limits.{Limits}
use Rattle.stream_model.specs.declared.stream.Stream.{Stream as Kept}
use Rattle.stream_model.specs.Turns.{is_fnf, needs_credit, inbound}
use Rattle.stream_model.specs.Known.{Known, is_above, next_id, over_at}

-- ---- the state of the stream

-- refused unless the stream is open, and then as more says
abbrev pub on_kept : Option Kept → (Kept → Option Refusal) → Option Refusal
on_kept None more = Some refusal.Ended
on_kept (Some f) more = more f

abbrev pub on_stream : Known → ℕ → (Kept → Option Refusal) → Option Refusal
on_stream t s more = if is_above t s then Some refusal.UnknownStream else on_kept (t.kept s) more

-- refused unless there is such a way, and it is not over
abbrev pub on_way : Option Bool → Option Refusal
on_way None = Some refusal.WrongKind
on_way (Some true) = Some refusal.Ended
on_way (Some false) = None

-- whether the way that an end sends on is over, where it has one: the requester of a channel, and the responder of all but a fire-and-forget
abbrev pub outbound_over : Role → Kind → Kept → Option Bool
outbound_over Requester Channel f = Some f.request_over
outbound_over Requester kind f = None
outbound_over Responder Fnf f = None
outbound_over Responder kind f = Some f.reply_over

-- whether the way whose items an end receives is over, where credit counts them
abbrev pub inbound_over : Role → Kind → Kept → Option Bool
inbound_over Requester Stream f = Some f.reply_over
inbound_over Requester Channel f = Some f.reply_over
inbound_over Responder Channel f = Some f.request_over
inbound_over role kind f = None

-- a requester cancels the stream, a responder what it receives of a channel
abbrev pub cancel_refused : Role → Kind → Kept → Option Refusal
cancel_refused Requester kind f = None
cancel_refused Responder kind f = on_way (inbound_over Responder kind f)

-- where nothing waits, a fire-and-forget has nothing to take, and of another stream nothing more comes once the way is over
abbrev pub take_refused : Kept → Option Refusal
take_refused f = if is_fnf f.kind then Some refusal.WrongKind else on_way (Some (over_at f (inbound f.role)))

abbrev pub where_nothing_waits : List Delivery → Option Refusal → Option Refusal
where_nothing_waits [] more = more
where_nothing_waits (d ∷ ds) more = None

-- UnknownStream, Ended or WrongKind
abbrev pub by_state : Known → Call → Option Refusal
by_state t (call.Next s message complete) = on_stream t s (λ f. on_way (outbound_over f.role f.kind f))
by_state t (call.Done s) = on_stream t s (λ f. on_way (outbound_over f.role f.kind f))
by_state t (call.Grant s n) = on_stream t s (λ f. on_way (inbound_over f.role f.kind f))
by_state t (call.Cancel s) = on_stream t s (λ f. cancel_refused f.role f.kind f)
by_state t (call.Fail s code content) = on_stream t s (λ f. None)
by_state t (call.Take s) = where_nothing_waits (t.waits s) (on_stream t s take_refused)
by_state t _ = None

-- ---- credit (RSocket 1.0, "REQUEST_N Frame")

abbrev pub outbound_credit : Role → Kept → Credit
outbound_credit Requester f = f.request
outbound_credit Responder f = f.reply

-- an item of a stream or channel for which no credit is left
abbrev pub credit_refused : Option Kept → Option Refusal
credit_refused None = None
credit_refused (Some f) =
    if needs_credit f.kind && ((outbound_credit f.role f).granted - (outbound_credit f.role f).used == 0) then Some (refusal.NoCredit (outbound_credit f.role f).granted)
    else None

-- NoCredit
abbrev pub by_credit : Known → Call → Option Refusal
by_credit t (call.Next s message complete) = credit_refused (t.kept s)
by_credit t _ = None

-- ---- a request

-- IdsGone
abbrev pub by_ids : Limits → Known → Call → Option Refusal
by_ids l t (call.Request kind initial message complete) = if nat_lt l.last_id (next_id l.side t) then Some refusal.IdsGone else None
by_ids l t _ = None

-- TooManyStreams: a fire-and-forget is over at once, and finds its place
abbrev pub by_live : Limits → Known → Call → Option Refusal
by_live l t (call.Request kind initial message complete) = if not (is_fnf kind) && (t.live == l.max_streams) then Some (refusal.TooManyStreams l.max_streams) else None
by_live l t _ = None

-- ---- all of them, in their order

abbrev pub refused_by : Limits → Known → Call → Option Refusal
refused_by l t c = option_or (by_state t c) (option_or (by_credit t c) (option_or (by_ids l t c) (by_live l t c)))
